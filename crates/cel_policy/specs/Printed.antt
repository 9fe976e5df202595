-- The printed text, which is that of the Rust's `create_cel_expr`, with its length, and when a policy is printable. S is the set of string bytes. Assumes
-- nothing.
use Rattle.std.specs.Prelude.{◌≡◌, ℕ, ◌+◌, ◌*◌, ◌-◌, ◌≤◌, Bool, true, cond, ◌&&◌, ◌||◌, List, [], ◌∷◌, length, eqb, leb}
use Rattle.cel_text.specs.Byte.{Text, ◌⧺◌, Run, bytes}
use Rattle.cel_text.specs.Answer.{max_text}
use Rattle.cel_policy.specs.Policy.{Policy, Counted, counted, string_count, all_strings, skip, response_only, full, no_list, inclusions, exclusions}

-- the strings with `","` between them
abbrev pub joined : Text → List Text → Text
joined s [] = s
joined s (t ∷ more) = s ⧺ bytes "\",\"" ⧺ joined t more

-- “LIST stands for a list: its strings, each between quotes, with commas between them.”
abbrev pub list_text : List Text → Text
list_text [] = []
list_text (s ∷ more) = bytes "\"" ⧺ joined s more ⧺ bytes "\""

-- “KEY is `certified_response_headers` for inclusions and `response_header_exclusions` for exclusions.”
abbrev pub list_key : ℕ → Text
list_key kind = cond (eqb kind exclusions) (bytes "response_header_exclusions") (bytes "certified_response_headers")

-- what the two forms that certify begin and end with
abbrev pub certifying_head : Text
certifying_head = bytes "default_certification(ValidationArgs{certification:Certification{"

abbrev pub certifying_tail : Text
certifying_tail = bytes "}})"

unfoldable pub skip_text : Text
skip_text = bytes "default_certification(ValidationArgs{no_certification:Empty{}})"

unfoldable pub request_text : Policy Text → Text
request_text p =
    bytes "request_certification:RequestCertification{certified_request_headers:["
    ⧺ list_text p.request_headers
    ⧺ bytes "],certified_query_parameters:["
    ⧺ list_text p.query_parameters
    ⧺ bytes "]},"

unfoldable pub response_text : Policy Text → Text
response_text p =
    bytes "response_certification:ResponseCertification{"
    ⧺ list_key p.kind
    ⧺ bytes ":ResponseHeaderList{headers:["
    ⧺ list_text p.response_headers
    ⧺ bytes "]}}"

unfoldable pub response_only_text : Policy Text → Text
response_only_text p = certifying_head ⧺ bytes "no_request_certification:Empty{}," ⧺ response_text p ⧺ certifying_tail

unfoldable pub full_text : Policy Text → Text
full_text p = certifying_head ⧺ request_text p ⧺ response_text p ⧺ certifying_tail

-- “The printed text of a policy has no blanks.” Of a policy whose form is not none
unfoldable pub printed : Policy Text → Text
printed p = cond (eqb p.form skip) skip_text (cond (eqb p.form response_only) (response_only_text p) (full_text p))

-- the bytes of a list's strings together
abbrev pub total : List Text → ℕ
total [] = 0
total (s ∷ more) = length s + total more

-- “A list of n strings that have L bytes in all takes L + 3n − 1 bytes, and an empty list none.”
abbrev pub list_length : List Text → ℕ
list_length [] = 0
list_length (s ∷ more) = total (s ∷ more) + 3 * length (s ∷ more) - 1

-- “The text of Skip has 63 bytes, that of ResponseOnly 204 and its list, that of Full 274 and its three lists.”
unfoldable pub printed_length : Policy Text → ℕ
printed_length p =
    cond (eqb p.form skip) 63
    (cond (eqb p.form response_only) (204 + list_length p.response_headers)
    (274 + (list_length p.request_headers + (list_length p.query_parameters + list_length p.response_headers))))

-- the nodes and the depth of a printed text's tree. “Read again, Skip has 3 nodes, ResponseOnly 7 and its strings, Full 9 and its strings. The depth is 3 for
-- Skip and 6 for the others.”
unfoldable pub printed_nodes : Policy Text → ℕ
printed_nodes p = cond (eqb p.form skip) 3 (cond (eqb p.form response_only) 7 9 + length (all_strings p))

unfoldable pub printed_depth : Policy Text → ℕ
printed_depth p = cond (eqb p.form skip) 3 6

-- inclusions or exclusions
abbrev pub a_kind : ℕ → Bool
a_kind kind = eqb kind inclusions || eqb kind exclusions

-- “With 249 or 247 strings the printed text has 256 nodes.”
abbrev pub max_response_only : ℕ
max_response_only = 249

abbrev pub max_full : ℕ
max_full = 247

-- “Skip goes with the list kind none and no strings.” “ResponseOnly goes with inclusions or exclusions, no request headers, no query parameters and at most 249
-- strings.” “Full goes with inclusions or exclusions and at most 247 strings.” “A policy of any other form is refused with 20.”
unfoldable pub shaped : Counted → Bool
shaped k =
    cond (eqb k.form skip) (eqb k.kind no_list && eqb (string_count k) 0)
    (cond (eqb k.form response_only) (a_kind k.kind && eqb (k.request_headers + k.query_parameters) 0 && leb (string_count k) max_response_only)
    (eqb k.form full && a_kind k.kind && leb (string_count k) max_full))

-- each of a list's members is a P
pub data Each {A : Type 0} (P : A → Type 0) : List A → Type 0 where
  nothing : Each P []
  each : {a : A} {more : List A} → P a → Each P more → Each P (a ∷ more)

module _ (S : ℕ → Bool) where
  -- printable but for its length: the numbers go together, and the strings have string bytes only
  pub record Proper (p : Policy Text) : Type 0 where
    pub shape : shaped (counted p) ≡ true
    pub string_bytes : Each (Run S) (all_strings p)

  -- “A policy is printable when it is refused with none of 20 to 23.”
  pub record Printable (p : Policy Text) : Type 0 where
    pub proper : Proper p
    pub short : length (printed p) ≤ max_text
