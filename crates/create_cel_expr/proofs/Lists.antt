-- The strings of a list one after the other, as they are written and as their lengths are added up. Assumes nothing.
use Rattle.std.proofs.Common.{◌≡◌, ℕ, suc, ◌+◌, ◌-◌, ◌*◌, ◌<◌, ◌≤◌, List, [], ◌∷◌, ◌++◌, length, sym, ap, ◌∙◌, append_assoc, append-nil, arith}
use Rattle.std.proofs.Math.ListN.{length-map}
use Rattle.cel_text.specs.Byte.{Text, bytes}
use Rattle.cel_policy.specs.Printed.{joined, list_text, total, list_length}
use Rattle.cel_policy.proofs.Laws.SpanTable.{length-spans_at}
use Rattle.pieces.specs.Pieces.{Wrote, Fits}
use Rattle.pieces.specs.Laws.{wrote_as, wrote_then, fits-as}
use Rattle.create_cel_expr.specs.declared.checked.Checked.{Checked}
use Rattle.create_cel_expr.specs.Given.{string_of, strings_of, word_size}

-- strings after another one
abbrev pub tails : List Text → Text
tails [] = []
tails (s ∷ more) = bytes "\",\"" ++ s ++ tails more

joined-tails : (s : Text) (more : List Text) → joined s more ≡ s ++ tails more
joined-tails s [] = sym (append-nil s)
joined-tails s (t ∷ more) = ap (λ (r : Text). s ++ (bytes "\",\"" ++ r)) (joined-tails t more)

module _ (g : Checked) (begin count : ℕ) where
  -- the strings that are left once i of them are passed
  abbrev pub left_of : ℕ → List Text
  left_of i = strings_of g (count - i) (begin + i)

  left-next : (i : ℕ) → i < count → left_of i ≡ string_of g (begin + i) ∷ left_of (i + 1)
  left-next i h =
      let m : count - i ≡ suc (count - (i + 1)) = omega arith in
      let n : suc (begin + i) ≡ begin + (i + 1) = omega arith in
      rw m (ap (λ (k : ℕ). string_of g (begin + i) ∷ strings_of g (count - (i + 1)) k) n)

  left-none : (i : ℕ) → count ≤ i → left_of i ≡ []
  left-none i h = let m : count - i ≡ 0 = omega arith in rw m

  left-first : (count ≡ 0 → ⊥) → strings_of g count begin ≡ string_of g begin ∷ left_of 1
  left-first n =
      let m : count ≡ suc (count - 1) = omega (arith, n) in
      let b : suc begin ≡ begin + 1 = omega arith in
      ap (λ (k : ℕ). strings_of g k begin) m ∙ ap (λ (k : ℕ). string_of g begin ∷ strings_of g (count - 1) k) b

  -- ---- written

  -- what is left of the list's text
  abbrev pub rest_of : ℕ → Text
  rest_of i = tails (left_of i) ++ bytes "\""

  -- whatever writes the rest from here on has written all that follows the first string
  abbrev pub Going : (out₀ : Text) (past₀ : ℕ) (out : Text) (past i : ℕ) → Type 0
  Going out₀ past₀ out past i = (out' : Text) (past' : ℕ) → Wrote out out' past past' (rest_of i) → Wrote out₀ out' past₀ past' (rest_of 1)

  rest-next : (i : ℕ) → i < count → rest_of i ≡ (bytes "\",\"" ++ string_of g (begin + i)) ++ rest_of (i + 1)
  rest-next i h = rw (left-next i h) (simp append_assoc)

  rest-last : (i : ℕ) → count ≤ i → rest_of i ≡ bytes "\""
  rest-last i h = rw (left-none i h)

  list-first : (count ≡ 0 → ⊥) → list_text (strings_of g count begin) ≡ (bytes "\"" ++ string_of g begin) ++ rest_of 1
  list-first n =
      ap list_text (left-first n) ∙ ap (λ (r : Text). bytes "\"" ++ (r ++ bytes "\"")) (joined-tails (string_of g begin) (left_of 1)) ∙ simp append_assoc

  -- room for the list is room for its first string and for what follows, and so on
  pub room-list : {out : Text} {at : ℕ} → (count ≡ 0 → ⊥) → Fits out at (list_text (strings_of g count begin)) → Fits out at ((bytes "\"" ++ string_of g begin) ++ rest_of 1)
  room-list n f = fits-as (list-first n) f

  pub room_next : {out : Text} {past i : ℕ} → i < count → Fits out past (rest_of i) → Fits out past ((bytes "\",\"" ++ string_of g (begin + i)) ++ rest_of (i + 1))
  room_next {i = i} h f = fits-as (rest-next i h) f

  pub room-last : {out : Text} {past i : ℕ} → count ≤ i → Fits out past (rest_of i) → Fits out past (bytes "\"")
  room-last {i = i} h f = fits-as (rest-last i h) f

  pub going_next :
      {out₀ out out'' : Text} {past₀ past past'' i : ℕ} → i < count → Going out₀ past₀ out past i
      → Wrote out out'' past past'' (bytes "\",\"" ++ string_of g (begin + i)) → Going out₀ past₀ out'' past'' (i + 1)
  going_next {i = i} h g w out' past' v = g out' past' (wrote_as (sym (rest-next i h)) (wrote_then w v))

  pub going-last :
      {out₀ out₁ out out' : Text} {at past₁ past past' i : ℕ} → (count ≡ 0 → ⊥) → Wrote out₀ out₁ at past₁ (bytes "\"" ++ string_of g begin)
      → count ≤ i → Going out₁ past₁ out past i → Wrote out out' past past' (bytes "\"") → Wrote out₀ out' at past' (list_text (strings_of g count begin))
  going-last {out' = out'} {past' = past'} {i = i} n w h g v = wrote_as (sym (list-first n)) (wrote_then w (g out' past' (wrote_as (sym (rest-last i h)) v)))

  -- ---- added up

  -- the sum so far and the strings that are left come to all of them, and no string passes a word
  pub record Summed (sofar i : ℕ) : Type 0 where
    pub whole : sofar + total (left_of i) ≡ total (strings_of g count begin)
    pub few : sofar ≤ word_size * i

  pub summed-next : {sofar i long : ℕ} → i < count → long ≡ length (string_of g (begin + i)) → long < word_size → Summed sofar i → Summed (sofar + long) (i + 1)
  summed-next {i = i} h e l s = record { whole = omega (arith, ap total (left-next i h), s.whole); few = omega (arith, s.few) }

  pub list_some : (count ≡ 0 → ⊥) → list_length (strings_of g count begin) ≡ total (strings_of g count begin) + 3 * count - 1
  list_some n =
      let long : length (left_of 1) ≡ count - 1 = simp (length-map, length-spans_at) in
      ap list_length (left-first n) ∙ (rw (left-first n) (omega (arith, long, n)))
