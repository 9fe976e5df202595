-- The search for the first faulty string, from string i on, and the run that a string of string bytes only is. Assumes nothing.
use Rattle.std.proofs.Common.{◌≡◌, ℕ, suc, ◌+◌, ◌-◌, ◌<◌, Bool, true, false, cond, eqb, [], ◌∷◌, length, sym, refl, ap, ◌∙◌, zero-add, arith}
use Rattle.std.proofs.Math.Option.{some}
use Rattle.std.proofs.Math.Dec.{eqb-suc-suc, eqb-zero-suc}
use Rattle.cel_text.specs.Byte.{Text, lead}
use Rattle.cel_policy.specs.Answers.{first_fault, all_of}
use Rattle.parser.specs.Run.{end_of}

module _ (test : ℕ → Bool) (count : ℕ) where
  -- the search from string i on finds what the whole search finds
  abbrev pub Searched : ℕ → Type 0
  Searched i = first_fault test (count - i) i ≡ first_fault test count 0

  search-next : {i : ℕ} → i < count → first_fault test (count - i) i ≡ cond (test i) (first_fault test (count - (i + 1)) (i + 1)) (some i)
  search-next {i = i} h =
      let m : count - i ≡ suc (count - (i + 1)) = omega arith in
      let n : suc i ≡ i + 1 = omega arith in
      ap (λ (k : ℕ). first_fault test k i) m ∙ ap (λ (k : ℕ). cond (test i) (first_fault test (count - (i + 1)) k) (some i)) n

  -- string i passes
  pub search_on : {i : ℕ} {r : Bool} → i < count → r ≡ test i → r ≡ true → Searched i → Searched (i + 1)
  search_on h e t s = sym (search-next h ∙ rw (sym e ∙ t)) ∙ s

-- a string has bytes of one class only where a run of that class goes to its end
all-lead : (f : ℕ → Bool) (c : Text) → eqb (lead f c) (length c) ≡ all_of f c
all-lead f [] = refl
all-lead f (b ∷ bs) = by (all-lead f bs) (f b)
  where
    by : eqb (lead f bs) (length bs) ≡ all_of f bs → (t : Bool) → eqb (cond t (suc (lead f bs)) 0) (suc (length bs)) ≡ cond t (all_of f bs) false
    by h true = eqb-suc-suc (lead f bs) (length bs) ∙ h
    by h false = eqb-zero-suc (length bs)

pub run_all : (f : ℕ → Bool) {c s : Text} {end : ℕ} → s ≡ c → end ≡ end_of f s 0 → eqb end (length s) ≡ all_of f c
run_all f {s = s} e h = ap (λ (n : ℕ). eqb n (length s)) (h ∙ zero-add (lead f s)) ∙ all-lead f s ∙ ap (all_of f) e
