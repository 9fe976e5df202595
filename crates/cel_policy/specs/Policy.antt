-- “A policy has a form, a list kind and three lists of strings: request headers, query parameters and response headers.” Assumes nothing.
use Rattle.std.specs.Prelude.{ℕ, ◌+◌, List, ◌++◌, map, length}
use Rattle.std.proofs.Math.Seq.{slice}
use Rattle.cel_text.specs.Byte.{Text}
use Rattle.cel_policy.specs.declared.Policy.{Policy as Numbers}

-- “The forms are none (0), Skip (1), ResponseOnly (2) and Full (3).”
abbrev pub no_form : ℕ
no_form = 0

abbrev pub skip : ℕ
skip = 1

abbrev pub response_only : ℕ
response_only = 2

abbrev pub full : ℕ
full = 3

-- “The list kinds are none (0), inclusions (1) and exclusions (2).”
abbrev pub no_list : ℕ
no_list = 0

abbrev pub inclusions : ℕ
inclusions = 1

abbrev pub exclusions : ℕ
exclusions = 2

-- where a string stands in the text. “The ends of some bytes are the place of the first and the place after the last.”
pub record Span : Type 0 where
  pub from : ℕ
  pub to : ℕ

-- a policy whose strings are known by an A: by their bytes, or by their places. “Two policies are equal when they have the same form, the same list kind and,
-- list by list, strings of the same bytes.” So they are as values of Policy Text.
pub record Policy (A : Type 0) : Type 0 where
  pub form : ℕ
  pub kind : ℕ
  pub request_headers : List A
  pub query_parameters : List A
  pub response_headers : List A

-- “A policy is handed over as five numbers: its form, its list kind, and how many strings each list has.”
pub record Counted : Type 0 where
  pub form : ℕ
  pub kind : ℕ
  pub request_headers : ℕ
  pub query_parameters : ℕ
  pub response_headers : ℕ

abbrev pub counted : {A : Type 0} → Policy A → Counted
counted p =
    record {
      form = p.form;
      kind = p.kind;
      request_headers = length p.request_headers;
      query_parameters = length p.query_parameters;
      response_headers = length p.response_headers;
    }

-- “A refused read answers five zeros for the policy: form none, list kind none, no strings.”
abbrev pub no_policy : Counted
no_policy = record { form = no_form; kind = no_list; request_headers = 0; query_parameters = 0; response_headers = 0 }

-- how many strings it has
abbrev pub string_count : Counted → ℕ
string_count k = k.request_headers + k.query_parameters + k.response_headers

-- “The strings are numbered from 0 through the request headers, the query parameters and the response headers. Each list keeps the order in which its strings
-- stand in the array.”
abbrev pub all_strings : {A : Type 0} → Policy A → List A
all_strings p = p.request_headers ++ (p.query_parameters ++ p.response_headers)

-- the policy with each string known by another thing
abbrev pub over_strings : {A B : Type 0} → (A → B) → Policy A → Policy B
over_strings f p =
    record {
      form = p.form;
      kind = p.kind;
      request_headers = map f p.request_headers;
      query_parameters = map f p.query_parameters;
      response_headers = map f p.response_headers;
    }

-- “Its strings are then the bytes of a text between the ends that a span table holds.”
abbrev pub content : Text → Span → Text
content x s = slice s.from s.to x

abbrev pub strings : Text → Policy Span → Policy Text
strings x p = over_strings (content x) p

-- the struct that the programs give and answer
abbrev pub numbers : Numbers → Counted
numbers p = record { form = p.form; kind = p.kind; request_headers = p.request; query_parameters = p.query; response_headers = p.response }
