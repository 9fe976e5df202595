-- What judging says of a policy: without fault it has few strings, and each lies inside the text; a fault's place is small; and 22 is judged last, so
-- that what is without fault prints alike over its own set of string bytes and over all bytes. S is the set of string bytes. Assumes nothing.
use Rattle.std.specs.Prelude.{◌≡◌, ◌⊎◌, ℕ, zero, suc, ◌+◌, ◌*◌, ◌≤◌, ◌<◌, Bool, ◌&&◌, [], ◌∷◌, ◌++◌, length, eqb}
use Rattle.std.proofs.Math.Path.{refl}
use Rattle.std.proofs.Common.{ap, ◌∙◌, inl, inr, ⊎_elim, add-zero, not-suc-le-zero, arith, ltb-true, leb-true, eqb-true}
use Rattle.std.proofs.Math.Bool.{true, false, cond}
use Rattle.std.proofs.Math.Option.{Option, none, some}
use Rattle.std.proofs.Math.Dec.{lit≤}
use Rattle.cel_text.specs.Byte.{Text}
use Rattle.cel_text.specs.Table.{Words}
use Rattle.cel_text.proofs.Laws.Class.{by-test, both_true}
use Rattle.cel_policy.specs.Policy.{Span, Policy, Counted, counted, string_count, skip, response_only, full, no_list, content, strings}
use Rattle.cel_policy.specs.Spans.{span_table, span_at}
use Rattle.cel_policy.specs.Printed.{printed, a_kind, shaped, max_response_only, max_full}
use Rattle.cel_policy.specs.Answers.{span_fits, all_of, bytes_fit, any_byte, first_fault, Judgement, clean, faulty, unless_faulty, judgement, sized, find_print}
use Rattle.cel_policy.specs.Inside.{SpanInside, SpansInside}
use Rattle.cel_policy.proofs.Laws.Readable.{Readable}
use Rattle.cel_policy.proofs.Laws.SpanTable.{Faultless, faultless-clean, read-faultless, print-read}

-- ---- where the strings lie

pub span_fits-inside : (ws : Words) (x : Text) (i : ℕ) → span_fits ws x i ≡ true → SpanInside ws x i
unfolding span_fits
span_fits-inside ws x i e =
    let a = both_true _ _ e in
    let b = both_true _ _ a.0 in
    record { in_table = ltb-true (suc (2 * i)) (length ws) b.0; ordered = leb-true (span_at ws i).from (span_at ws i).to b.1; in_text = leb-true (span_at ws i).to (length x) a.1 }

-- where no string is faulty each passes
passes : (b : Bool) (r : Option ℕ) (i : ℕ) → cond b r (some i) ≡ none → (b ≡ true) × (r ≡ none)
passes true r i e = (refl, e)
passes false r i e = (cc, cc)

pub none-faulty : (test : ℕ → Bool) (n i : ℕ) → first_fault test n i ≡ none → (k : ℕ) → k < n → test (i + k) ≡ true
none-faulty test zero i e k h = absurd (not-suc-le-zero h)
none-faulty test (suc n) i e zero h = ap test (add-zero i) ∙ (passes (test i) (first_fault test n (suc i)) i e).0
none-faulty test (suc n) i e (suc k) h =
    let m : i + suc k ≡ suc i + k = omega arith in
    ap test m ∙ none-faulty test n (suc i) (passes (test i) (first_fault test n (suc i)) i e).1 k (omega arith)

-- where 21 finds no fault each lies inside, whatever the shape
pub fitting-inside : {n : ℕ} {ws : Words} {x : Text} → first_fault (span_fits ws x) n 0 ≡ none → SpansInside ws x n 0
fitting-inside {n = n} {ws = ws} {x = x} e j h = span_fits-inside ws x (0 + j) (none-faulty (span_fits ws x) n 0 e j h)

pub faultless-inside : {S : ℕ → Bool} {k : Counted} {ws : Words} {x : Text} → Faultless S k ws x → SpansInside ws x (string_count k) 0
faultless-inside f = fitting-inside f.inside

-- ---- how many they are

-- a right shape has few strings
pub shaped-few : (k : Counted) → shaped k ≡ true → string_count k ≤ max_response_only
unfolding shaped
shaped-few k =
    by-test Few (eqb k.form skip) _ _
    (λ f e. let z : string_count k ≡ 0 = eqb-true _ 0 (both_true (eqb k.kind no_list) _ e).1 in omega arith)
    (λ f. by-test Few (eqb k.form response_only) _ _
    (λ g e. leb-true _ max_response_only (both_true (a_kind k.kind && eqb (k.request_headers + k.query_parameters) 0) _ e).1)
    (λ g e. let z : string_count k ≤ max_full = leb-true _ max_full (both_true (eqb k.form full && a_kind k.kind) _ e).1 in omega arith))
  where
    Few : Bool → Type 0
    Few b = b ≡ true → string_count k ≤ max_response_only

-- a faulty string is one of them
faulty-at : (b : Bool) (r : Option ℕ) (i j : ℕ) → cond b r (some i) ≡ some j → (r ≡ some j) ⊎ (i ≡ j)
faulty-at true r i j e = inl e
faulty-at false r i j e = inr cc

fault-below : (test : ℕ → Bool) (n i j : ℕ) → first_fault test n i ≡ some j → j < i + n
fault-below test zero i j e = let z : ◌≡◌ {A = ℕ} 0 1 = cc in absurd (omega arith)
fault-below test (suc n) i j e =
    ⊎_elim (λ h. let l : j < suc i + n = fault-below test n (suc i) j h in omega arith) (λ h. omega arith) (faulty-at (test i) (first_fault test n (suc i)) i j e)

-- so a fault's place is small
abbrev pub SmallPlace : Judgement → Type 0
SmallPlace clean = Unit {0}
SmallPlace (faulty r i) = i ≤ max_response_only

unless-small :
    (test : ℕ → Bool) (n refusal : ℕ) → n ≤ max_response_only → (o : Option ℕ) → first_fault test n 0 ≡ o
    → (next : Judgement) → SmallPlace next → SmallPlace (unless_faulty refusal o next)
unless-small test n refusal few none e next h = h
unless-small test n refusal few (some i) e next h = omega (arith, fault-below test n 0 i e)

module _ (S : ℕ → Bool) (k : Counted) (ws : Words) (x : Text) where
  pub judgement-small : SmallPlace (judgement S k ws x)
  unfolding judgement
  judgement-small =
      by-test SmallPlace (shaped k) _ _
      (λ shape. let few = shaped-few k shape in
      unless-small (span_fits ws x) (string_count k) 21 few (first_fault (span_fits ws x) (string_count k) 0) refl _
      (unless-small (bytes_fit S ws x) (string_count k) 22 few (first_fault (bytes_fit S ws x) (string_count k) 0) refl clean tt))
      (λ shape. lit≤ tt)

-- ---- over all bytes

all_any : (t : Text) → all_of any_byte t ≡ true
all_any [] = refl
all_any (b ∷ t) = all_any t

plain-any : (ws : Words) (x : Text) (n i : ℕ) → first_fault (bytes_fit any_byte ws x) n i ≡ none
unfolding bytes_fit
plain-any ws x zero i = refl
plain-any ws x (suc n) i = rw (all_any (content x (span_at ws i))) (plain-any ws x n (suc i))

-- a judgement, and where it is clean the next
abbrev pub then_judged : Judgement → Judgement → Judgement
then_judged clean next = next
then_judged (faulty r i) next = faulty r i

-- 22 comes after what is judged over all bytes
module _ (k : Counted) (ws : Words) (x : Text) where
  pub judgement-any : judgement any_byte k ws x ≡ cond (shaped k) (unless_faulty 21 (first_fault (span_fits ws x) (string_count k) 0) clean) (faulty 20 0)
  unfolding judgement
  judgement-any = rw (plain-any ws x (string_count k) 0)

  pub judgement-then :
      (S : ℕ → Bool) → judgement S k ws x ≡ then_judged (judgement any_byte k ws x) (unless_faulty 22 (first_fault (bytes_fit S ws x) (string_count k) 0) clean)
  unfolding judgement
  judgement-then S =
      rw (plain-any ws x (string_count k) 0)
      (by (shaped k) (first_fault (span_fits ws x) (string_count k) 0) (unless_faulty 22 (first_fault (bytes_fit S ws x) (string_count k) 0) clean))
    where
      by : (t : Bool) (o : Option ℕ) (next : Judgement)
          → cond t (unless_faulty 21 o next) (faulty 20 0) ≡ then_judged (cond t (unless_faulty 21 o clean) (faulty 20 0)) next
      by true none next = refl
      by true (some i) next = refl
      by false o next = refl

-- what is without fault is printed alike over all bytes
pub print-any : {S : ℕ → Bool} {k : Counted} {ws : Words} {x : Text} → Faultless S k ws x → (r : ℕ) → find_print any_byte k ws x r ≡ find_print S k ws x r
unfolding find_print
print-any {k = k} {ws = ws} {x = x} f r =
    rw (faultless-clean f, faultless-clean (record { shape = f.shape; inside = f.inside; plain = plain-any ws x (string_count k) 0 }))

-- so what was read is printed over all bytes, from any table that begins with its spans, as its text
pub print-read-any :
    (S : ℕ → Bool) (x : Text) (p : Policy Span) → Readable S x p → (ws : Words) (r : ℕ)
    → find_print any_byte (counted p) (span_table p ++ ws) x r ≡ sized (printed (strings x p)) r
print-read-any S x p read ws r = print-any (read-faultless S x p read ws) r ∙ print-read S x p read ws r
