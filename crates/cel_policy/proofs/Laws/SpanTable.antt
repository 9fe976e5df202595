-- The span table read back, and when print finds no fault in it: a table that a read has filled prints what was read, and whatever print accepts
-- is proper. S is the set of string bytes. Assumes nothing.
use Rattle.std.specs.Prelude.{◌≡◌, refl, ℕ, zero, suc, ◌+◌, ◌*◌, ◌≤◌, ◌<◌, Bool, true, List, [], ◌∷◌, ◌++◌, length, T, ltb}
use Rattle.std.proofs.Common.{sym, ap, ◌∙◌, zero-add, add-zero, suc-add, add-suc, arith, append_assoc, append-nil, length-append}
use Rattle.std.proofs.Math.Option.{Option, none, some}
use Rattle.std.proofs.lemmas.List.{length-map}
use borrow.Author.Tests.{lt-ltb, le-leb, ltb-false}
use Rattle.cel_text.specs.Byte.{Text, Run, over, byte}
use Rattle.cel_text.specs.Table.{Words}
use Rattle.cel_text.specs.Answer.{max_text}
use Rattle.cel_text.proofs.Laws.Class.{by-test, is_true}
use Rattle.cel_policy.specs.Policy.{Span, Policy, Counted, counted, string_count, all_strings, content, strings}
use Rattle.cel_policy.specs.Spans.{span_rows, span_table, span_at, spans_at}
use Rattle.cel_policy.specs.Printed.{Each, nothing, each, printed, shaped, Printable}
use Rattle.cel_policy.specs.Answers.{placed, span_fits, all_of, bytes_fit, first_fault, Judgement, clean, faulty}
use Rattle.cel_policy.specs.Answers.{unless_faulty, judgement, Printing, written, unprinted, unless_judged, sized, find_print}
use Rattle.cel_policy.proofs.Laws.Each.{each_map, run-of}
use Rattle.cel_policy.proofs.Laws.Natural.{all_strings-over}
use Rattle.cel_policy.proofs.Laws.Shape.{shape-right}
use Rattle.cel_policy.proofs.Laws.Readable.{Fits, Readable}

-- ---- the table read back

span_at-step : (a b : ℕ) (ws : Words) (i : ℕ) → span_at (a ∷ b ∷ ws) (suc i) ≡ span_at ws i
span_at-step a b ws i = let e : 2 * suc i ≡ suc (suc (2 * i)) = omega arith in rw e

spans_at-step : (a b : ℕ) (ws : Words) (n i : ℕ) → spans_at (a ∷ b ∷ ws) n (suc i) ≡ spans_at ws n i
spans_at-step a b ws zero i = refl
spans_at-step a b ws (suc n) i = cc (span_at-step a b ws i, spans_at-step a b ws n (suc i))

-- past the strings before
spans_at-past : (before : List Span) (ws : Words) (n : ℕ) → spans_at (span_rows before ++ ws) n (length before) ≡ spans_at ws n 0
spans_at-past [] ws n = refl
spans_at-past (s ∷ before) ws n = spans_at-step s.from s.to (span_rows before ++ ws) n (length before) ∙ spans_at-past before ws n

spans_at-rows : (ss : List Span) (ws : Words) → spans_at (span_rows ss ++ ws) (length ss) 0 ≡ ss
spans_at-rows [] ws = refl
spans_at-rows (s ∷ ss) ws = ap (s ∷◌) (spans_at-step s.from s.to (span_rows ss ++ ws) (length ss) 0 ∙ spans_at-rows ss ws)

pub span_rows-append : (a b : List Span) → span_rows (a ++ b) ≡ span_rows a ++ span_rows b
span_rows-append [] b = refl
span_rows-append (s ∷ a) b = cc (span_rows-append a b)

spans_at-add : (ws : Words) (n m i : ℕ) → spans_at ws (n + m) i ≡ spans_at ws n i ++ spans_at ws m (i + n)
spans_at-add ws zero m i = rw (zero-add, add-zero)
spans_at-add ws (suc n) m i = rw (suc-add n m, add-suc i n) (ap (span_at ws i ∷◌) (spans_at-add ws n m (suc i) ∙ rw suc-add))

pub length-spans_at : (ws : Words) (n i : ℕ) → length (spans_at ws n i) ≡ n
length-spans_at ws zero i = refl
length-spans_at ws (suc n) i = ap suc (length-spans_at ws n (suc i))

pub length-span_rows : (ss : List Span) → length (span_rows ss) ≡ 2 * length ss
length-span_rows [] = refl
length-span_rows (s ∷ ss) = omega (arith, length-span_rows ss)

-- the strings that were asked for, in the table's order
all_strings-placed : (k : Counted) (ws : Words) → all_strings (placed k ws) ≡ spans_at ws (string_count k) 0
all_strings-placed k ws = simp (spans_at-add, zero-add, append_assoc)

-- a list of the table, with the strings before it and after it
spans_at-list : (before ss after : List Span) (ws : Words) → spans_at (span_rows (before ++ (ss ++ after)) ++ ws) (length ss) (length before) ≡ ss
spans_at-list before ss after ws =
    simp (span_rows-append, append_assoc) (spans_at-past before (span_rows ss ++ (span_rows after ++ ws)) (length ss) ∙ spans_at-rows ss (span_rows after ++ ws))

-- the table that a read fills gives the policy back
pub placed-table : (p : Policy Span) (ws : Words) → placed (counted p) (span_table p ++ ws) ≡ p
unfolding span_table
placed-table p ws =
    let hs : List Span = p.request_headers in
    let qs : List Span = p.query_parameters in
    let rs : List Span = p.response_headers in
    let response : spans_at (span_rows (hs ++ (qs ++ rs)) ++ ws) (length rs) (length hs + length qs) ≡ rs
    = simp (length-append, append_assoc, append-nil) at (spans_at-list (hs ++ qs) rs [] ws) in
    λ i.
    record {
      form = p.form;
      kind = p.kind;
      request_headers = spans_at-list [] hs (qs ++ rs) ws i;
      query_parameters = spans_at-list hs qs rs ws i;
      response_headers = response i;
    }

-- ---- judging

-- numbers, a span table and a text in which 20, 21 and 22 find nothing
pub record Faultless (S : ℕ → Bool) (k : Counted) (ws : Words) (x : Text) : Type 0 where
  pub shape : shaped k ≡ true
  pub inside : first_fault (span_fits ws x) (string_count k) 0 ≡ none
  pub plain : first_fault (bytes_fit S ws x) (string_count k) 0 ≡ none

pub faultless-clean : {S : ℕ → Bool} {k : Counted} {ws : Words} {x : Text} → Faultless S k ws x → judgement S k ws x ≡ clean
unfolding judgement
faultless-clean f = rw (f.shape, f.inside, f.plain)

faulty-clean : {r p : ℕ} → faulty r p ≡ clean → ⊥
faulty-clean e = let z : ◌≡◌ {A = ℕ} 0 1 = cc in omega arith

pub unless-clean : (refusal : ℕ) (o : Option ℕ) (next : Judgement) → unless_faulty refusal o next ≡ clean → (o ≡ none) × (next ≡ clean)
unless-clean refusal none next e = (refl, e)
unless-clean refusal (some i) next e = absurd (faulty-clean e)

pub clean-faultless : (S : ℕ → Bool) (k : Counted) (ws : Words) (x : Text) → judgement S k ws x ≡ clean → Faultless S k ws x
unfolding judgement
clean-faultless S k ws x =
    by-test (λ (j : Judgement). j ≡ clean → Faultless S k ws x) (shaped k) _ _
    (λ shape e.
    let a = unless-clean 21 (first_fault (span_fits ws x) (string_count k) 0) _ e in
    let b = unless-clean 22 (first_fault (bytes_fit S ws x) (string_count k) 0) _ a.1 in
    record { shape = shape; inside = a.0; plain = b.0 })
    (λ shape e. absurd (faulty-clean e))

-- ---- where print finds no fault

no-fault :
    {Q : Span → Type 0} (fits : ℕ → Bool) (ws : Words) (n i : ℕ)
    → ((j : ℕ) → j < i + n → Q (span_at ws j) → fits j ≡ true) → Each Q (spans_at ws n i) → first_fault fits n i ≡ none
no-fault fits ws zero i h nothing = refl
no-fault fits ws (suc n) i h (each q e) = rw (h i (omega arith) q) (no-fault fits ws n (suc i) (λ j l. h j (omega arith)) e)

all_of-run : {f : ℕ → Bool} {x : Text} → Run f x → all_of f x ≡ true
all_of-run over = refl
all_of-run {f} (byte {b = b} h r) = rw (is_true (f b) h) (all_of-run r)

count-strings : {A : Type 0} (p : Policy A) → string_count (counted p) ≡ length (all_strings p)
count-strings p = simp length-append (omega arith)

module _ (S : ℕ → Bool) (x : Text) where
  span_fits-fits : (ws : Words) (j : ℕ) → suc (2 * j) < length ws → Fits S x (span_at ws j) → span_fits ws x j ≡ true
  unfolding span_fits
  span_fits-fits ws j l f = rw (lt-ltb (suc (2 * j)) (length ws) l, le-leb _ _ f.ordered, le-leb _ _ f.inside)

  bytes_fit-fits : (ws : Words) (j : ℕ) → Fits S x (span_at ws j) → bytes_fit S ws x j ≡ true
  unfolding bytes_fit
  bytes_fit-fits ws j f = all_of-run f.string_bytes

  -- in the table that a read has filled every string is where print looks for it, and fits
  module _ (p : Policy Span) (read : Readable S x p) (ws : Words) where
    fitting : Each (Fits S x) (spans_at (span_table p ++ ws) (string_count (counted p)) 0)
    fitting = rw (sym (all_strings-placed (counted p) (span_table p ++ ws)) ∙ ap all_strings (placed-table p ws)) read.fits

    enough : 2 * string_count (counted p) ≤ length (span_table p ++ ws)
    unfolding span_table
    enough = simp (length-append, length-span_rows) (omega (arith, count-strings p))

    pub read-shaped : shaped (counted p) ≡ true
    read-shaped = shape-right read.shape

    pub read-inside : first_fault (span_fits (span_table p ++ ws) x) (string_count (counted p)) 0 ≡ none
    read-inside =
        no-fault (span_fits (span_table p ++ ws) x) (span_table p ++ ws) (string_count (counted p)) 0
        (λ j l f. span_fits-fits (span_table p ++ ws) j (omega (arith, enough)) f) fitting

    pub read_plain : first_fault (bytes_fit S (span_table p ++ ws) x) (string_count (counted p)) 0 ≡ none
    read_plain =
        no-fault (bytes_fit S (span_table p ++ ws) x) (span_table p ++ ws) (string_count (counted p)) 0
        (λ j l f. bytes_fit-fits (span_table p ++ ws) j f) fitting

    pub read-faultless : Faultless S (counted p) (span_table p ++ ws) x
    read-faultless = record { shape = read-shaped; inside = read-inside; plain = read_plain }

    -- so what was read is printed
    pub print-read : (r : ℕ) → find_print S (counted p) (span_table p ++ ws) x r ≡ sized (printed (strings x p)) r
    unfolding find_print
    print-read r = rw (faultless-clean read-faultless) (ap (λ (q : Policy Span). sized (printed (strings x q)) r) (placed-table p ws))

-- ---- what print accepts

fitted : (S : ℕ → Bool) (ws : Words) (x : Text) (n i : ℕ) → first_fault (bytes_fit S ws x) n i ≡ none → Each (λ (s : Span). T (all_of S (content x s))) (spans_at ws n i)
unfolding bytes_fit
fitted S ws x zero i e = nothing
fitted S ws x (suc n) i e =
    by-test (λ (o : Option ℕ). o ≡ none → Each (λ (s : Span). T (all_of S (content x s))) (spans_at ws (suc n) i))
    (all_of S (content x (span_at ws i))) (first_fault (bytes_fit S ws x) n (suc i)) (some i)
    (λ t f. each (rw t tt) (fitted S ws x n (suc i) f)) (λ t f. let z : ◌≡◌ {A = ℕ} 0 1 = cc in absurd (omega arith)) e

-- a refusal writes nothing
pub refused-written : {r p : ℕ} {t : Text} → unprinted r p ≡ written t → ⊥
refused-written e = let z : ◌≡◌ {A = ℕ} 0 1 = cc in omega arith

-- the numbers that were given are the policy's
pub counted-placed : (k : Counted) (ws : Words) (x : Text) → counted (strings x (placed k ws)) ≡ k
counted-placed k ws x = simp (length-map, length-spans_at)

unless-judged : {t : Text} (j : Judgement) (next : Printing) → unless_judged j next ≡ written t → (j ≡ clean) × (next ≡ written t)
unless-judged clean next e = (refl, e)
unless-judged (faulty r p) next e = absurd (refused-written e)

-- what is written has the right size
pub sized-written : (r : ℕ) (t u : Text) → sized u r ≡ written t → (t ≡ u) × (length u ≤ max_text) × (length u ≤ r)
unfolding sized
sized-written r t u =
    by-test Sized (ltb max_text (length u)) _ _ (λ b e. absurd (refused-written e))
    (λ b. by-test Sized (ltb r (length u)) _ _ (λ c e. absurd (refused-written e)) (λ c e. (cc, ltb-false max_text (length u) b, ltb-false r (length u) c)))
  where
    Sized : Printing → Type 0
    Sized w = w ≡ written t → (t ≡ u) × (length u ≤ max_text) × (length u ≤ r)

module _ (S : ℕ → Bool) (k : Counted) (ws : Words) (x : Text) (r : ℕ) (t : Text) where
  -- what was written: the text of a printable policy, which the output has room for
  pub record Prints : Type 0 where
    pub text : t ≡ printed (strings x (placed k ws))
    pub printable : Printable S (strings x (placed k ws))
    pub room : length t ≤ r

  pub prints : find_print S k ws x r ≡ written t → Prints
  unfolding find_print
  prints e =
      let a = unless-judged (judgement S k ws x) _ e in
      let b : Faultless S k ws x = clean-faultless S k ws x a.0 in
      let c = sized-written r t _ a.1 in
      record {
        text = c.0;
        printable =
            record {
              proper =
                  record {
                    shape = rw (counted-placed k ws x) b.shape;
                    string_bytes =
                        rw (all_strings-over (content x) (placed k ws), all_strings-placed k ws)
                        (each_map (content x) (spans_at ws (string_count k) 0) (λ s h. run-of S (content x s) h) (fitted S ws x (string_count k) 0 b.plain));
                  };
              short = c.1;
            };
        room = rw c.0 c.2;
      }
