-- The policies of a right shape are Skip, and what the mapping makes of an optional request part and a response list. Assumes nothing.
use Rattle.std.specs.Prelude.{◌≡◌, refl, ◌⊎◌, ℕ, ◌+◌, ◌≤◌, Bool, true, false, ◌||◌, List, [], ◌∷◌, length, eqb}
use Rattle.std.proofs.Common.{ap, inl, inr, ⊎_elim, suc-ne-zero, arith, eqb-true, leb-true, le-leb}
use Rattle.std.proofs.Math.Option.{Option, none, some}
use Rattle.cel_text.proofs.Laws.Class.{by-test, both_true}
use Rattle.cel_policy.specs.Policy.{Policy, counted, skip, response_only, full, no_list, inclusions, exclusions}
use Rattle.cel_policy.specs.Mapping.{Request, Only, first, second, list_kind, listed, certified, skipped}
use Rattle.cel_policy.specs.Printed.{a_kind, shaped, max_response_only, max_full}

-- how many strings a request part and a response list have, and how many they may have
abbrev pub certified_count : {A : Type 0} → Option (Request A) → Only (List A) → ℕ
certified_count none l = length (listed l)
certified_count (some r) l = length r.request_headers + length r.query_parameters + length (listed l)

abbrev pub max_of : {A : Type 0} → Option (Request A) → ℕ
max_of none = max_response_only
max_of (some r) = max_full

-- Skip, or ResponseOnly or Full within their counts
pub data Shape {A : Type 0} : Policy A → Type 0 where
  skips : Shape skipped
  certifies : (r : Option (Request A)) (l : Only (List A)) → certified_count r l ≤ max_of r → Shape (certified r l)

-- these have a right shape
a_kind-list_kind : {A : Type 0} (l : Only (List A)) → a_kind (list_kind l) ≡ true
a_kind-list_kind (first l) = refl
a_kind-list_kind (second l) = refl

pub shape-right : {A : Type 0} {p : Policy A} → Shape p → shaped (counted p) ≡ true
unfolding shaped
shape-right skips = refl
shape-right (certifies none l h) = rw (a_kind-list_kind l) (le-leb (0 + length (listed l)) max_response_only (omega arith))
shape-right (certifies (some r) l h) =
    rw (a_kind-list_kind l) (le-leb (length r.request_headers + length r.query_parameters + length (listed l)) max_full h)

-- and whatever has a right shape is one of these
either_true : (a b : Bool) → a || b ≡ true → (a ≡ true) ⊎ (b ≡ true)
either_true true b e = inl refl
either_true false b e = inr e

empty : {A : Type 0} (l : List A) → length l ≡ 0 → l ≡ []
empty [] e = refl
empty (a ∷ l) e = absurd (suc-ne-zero (length l) e)

module _ {A : Type 0} (p : Policy A) where
  -- p by its parts
  shape-by : (q : Policy A) → p.form ≡ q.form → p.kind ≡ q.kind → p.request_headers ≡ q.request_headers → p.query_parameters ≡ q.query_parameters
      → p.response_headers ≡ q.response_headers → Shape q → Shape p
  shape-by q f k a b c s =
      let same : p ≡ q = λ i. record { form = f i; kind = k i; request_headers = a i; query_parameters = b i; response_headers = c i } in
      rw same s

  -- a kind says which list the response list is
  list_with : (p.kind ≡ inclusions) ⊎ (p.kind ≡ exclusions) → Only (List A)
  list_with (inl e) = first p.response_headers
  list_with (inr e) = second p.response_headers

  kind-list_with : (k : (p.kind ≡ inclusions) ⊎ (p.kind ≡ exclusions)) → (p.kind ≡ list_kind (list_with k)) × (p.response_headers ≡ listed (list_with k))
  unfolding list_with
  kind-list_with (inl e) = (e, refl)
  kind-list_with (inr e) = (e, refl)

  kind_of : a_kind p.kind ≡ true → (p.kind ≡ inclusions) ⊎ (p.kind ≡ exclusions)
  kind_of e =
      ⊎_elim (λ h. inl (eqb-true p.kind inclusions h)) (λ h. inr (eqb-true p.kind exclusions h))
      (either_true (eqb p.kind inclusions) (eqb p.kind exclusions) e)

  as-skip : p.form ≡ skip → p.kind ≡ no_list → length p.request_headers + length p.query_parameters + length p.response_headers ≡ 0 → Shape p
  as-skip f k n =
      shape-by skipped f k (empty p.request_headers (omega arith)) (empty p.query_parameters (omega arith)) (empty p.response_headers (omega arith)) skips

  as-response_only :
      p.form ≡ response_only → (p.kind ≡ inclusions) ⊎ (p.kind ≡ exclusions) → length p.request_headers + length p.query_parameters ≡ 0
      → length p.request_headers + length p.query_parameters + length p.response_headers ≤ max_response_only → Shape p
  as-response_only f k n h =
      let l = list_with k in
      let w = kind-list_with k in
      shape-by (certified none l) f w.0 (empty p.request_headers (omega arith)) (empty p.query_parameters (omega arith)) w.1
      (certifies none l (omega (arith, ap length w.1)))

  as-full :
      p.form ≡ full → (p.kind ≡ inclusions) ⊎ (p.kind ≡ exclusions)
      → length p.request_headers + length p.query_parameters + length p.response_headers ≤ max_full → Shape p
  as-full f k h =
      let l = list_with k in
      let w = kind-list_with k in
      let r : Request A = record { request_headers = p.request_headers; query_parameters = p.query_parameters } in
      shape-by (certified (some r) l) f w.0 refl refl w.1 (certifies (some r) l (omega (arith, ap length w.1)))

  abbrev Right : Bool → Type 0
  Right b = b ≡ true → Shape p

  pub shape_of : shaped (counted p) ≡ true → Shape p
  unfolding shaped
  shape_of =
      by-test Right (eqb p.form skip) _ _
      (λ f e. let h = both_true _ _ e in
      as-skip (eqb-true p.form skip f) (eqb-true p.kind no_list h.0) (eqb-true _ 0 h.1))
      (λ g. by-test Right (eqb p.form response_only) _ _
      (λ f e. let h = both_true _ _ e in let k = both_true _ _ h.0 in
      as-response_only (eqb-true p.form response_only f) (kind_of k.0) (eqb-true _ 0 k.1) (leb-true _ max_response_only h.1))
      (λ f e. let h = both_true _ _ e in let k = both_true _ _ h.0 in
      as-full (eqb-true p.form full k.0) (kind_of k.1) (leb-true _ max_full h.1)))
