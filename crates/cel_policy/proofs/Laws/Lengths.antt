-- The printed text has the length that SPEC.md gives: by counting each piece. Assumes nothing.
use Rattle.std.specs.Prelude.{◌≡◌, refl, ℕ, ◌+◌, ◌*◌, Bool, true, false, cond, List, [], ◌∷◌, length, eqb}
use Rattle.std.proofs.Common.{length-append, arith}
use Rattle.cel_text.specs.Byte.{Text}
use Rattle.cel_text.proofs.Laws.Class.{same-either-way}
use Rattle.cel_policy.specs.Policy.{Policy, exclusions}
use Rattle.cel_policy.specs.Printed.{joined, list_text, list_key, skip_text, request_text, response_text, response_only_text, full_text, printed, total, list_length, printed_length}

length-joined : (s : Text) (more : List Text) → length (joined s more) ≡ total (s ∷ more) + 3 * length more
length-joined s [] = omega arith
length-joined s (t ∷ more) = simp length-append (omega (arith, length-joined t more))

pub length-list_text : (ss : List Text) → length (list_text ss) ≡ list_length ss
length-list_text [] = refl
length-list_text (s ∷ more) = simp length-append (omega (arith, length-joined s more))

-- of two texts, chosen by a test
length-cond : (b : Bool) (x y : Text) → length (cond b x y) ≡ cond b (length x) (length y)
length-cond true x y = refl
length-cond false x y = refl

-- both keys of the response list have 26 bytes
length-list_key : (kind : ℕ) → length (list_key kind) ≡ 26
length-list_key kind = rw length-cond (same-either-way (eqb kind exclusions) 26)

length-response_text : (p : Policy Text) → length (response_text p) ≡ 103 + list_length p.response_headers
unfolding response_text
length-response_text p = simp (length-append, length-list_key, length-list_text) (omega arith)

length-request_text : (p : Policy Text) → length (request_text p) ≡ 103 + (list_length p.request_headers + list_length p.query_parameters)
unfolding request_text
length-request_text p = simp (length-append, length-list_text) (omega arith)

length-response_only_text : (p : Policy Text) → length (response_only_text p) ≡ 204 + list_length p.response_headers
unfolding response_only_text
length-response_only_text p = simp (length-append, length-response_text) (omega arith)

length-full_text :
    (p : Policy Text)
    → length (full_text p) ≡ 274 + (list_length p.request_headers + (list_length p.query_parameters + list_length p.response_headers))
unfolding full_text
length-full_text p = simp (length-append, length-request_text, length-response_text) (omega arith)

-- “The text of Skip has 63 bytes, that of ResponseOnly 204 and its list, that of Full 274 and its three lists.”
pub length-printed : (p : Policy Text) → length (printed p) ≡ printed_length p
unfolding printed printed_length skip_text
length-printed p = simp (length-cond, length-response_only_text, length-full_text)
