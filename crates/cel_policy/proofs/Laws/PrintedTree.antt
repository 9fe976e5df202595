-- The value that a printed text is: its text is `printed`, its nodes and depth are those of SPEC.md, and the mapping makes the policy of it. Assumes nothing.
use Rattle.std.specs.Prelude.{◌≡◌, ℕ, suc, ◌+◌, ◌≤◌, Bool, length, get_or}
use Rattle.std.proofs.Math.Path.{refl}
use Rattle.std.proofs.Common.{sym, ◌∙◌, arith}
use Rattle.std.proofs.Math.Nat.{max-zero}
use mathlib.Core.List.{List, [], ◌∷◌, ◌++◌, append_assoc, append-nil}
use Rattle.std.proofs.Math.Option.{Option, none, some}
use Rattle.cel_text.specs.Byte.{Text, Run, Identifier, ident_byte, alphanumeric, quote, comma, bytes}
use Rattle.cel_text.specs.Tree.{array, object, function}
use Rattle.cel_text.specs.Abstract.{Ast, str, con, Asts, ε, ◌▪◌∶◌, write, write_all, size_of, size_all, height_of, height_all, Writable, WritableAll}
use Rattle.cel_policy.specs.Names.{spellings, spelling, default_certification, ValidationArgs, no_certification, certification, Certification, no_request_certification, request_certification}
use Rattle.cel_policy.specs.Names.{RequestCertification, certified_request_headers, certified_query_parameters, response_certification, ResponseCertification, certified_response_headers}
use Rattle.cel_policy.specs.Names.{response_header_exclusions, ResponseHeaderList, headers}
use Rattle.cel_policy.specs.Policy.{all_strings}
use Rattle.cel_policy.specs.Mapping.{good, Request, Only, first, second, list_kind, listed, certified, skipped, typed, lookup, present, element, elements, string_array, first_of, first_child}
use Rattle.cel_policy.specs.Mapping.{headers_of, list_of, response_lists, response_part, list_at, request_lists, request_of, request_part, certification_parts, certification_of, validation_args}
use Rattle.cel_policy.specs.Mapping.{mapping}
use Rattle.cel_policy.specs.Answers.{all_of}
use Rattle.cel_policy.specs.Printed.{Each, nothing, each, joined, list_text, list_key, skip_text, request_text, response_text, response_only_text, full_text, printed}
use Rattle.cel_policy.proofs.Laws.Each.{each-split, each_of, each-get_d, run-of}
use Rattle.cel_policy.proofs.Laws.Written.{seen, seen_all}
use Rattle.cel_policy.proofs.Laws.Shape.{certified_count}

-- ---- the values

-- more strings behind the children of an array
abbrev pub items : Asts → List Text → Asts
items more [] = more
items more (s ∷ ss) = items (more ▪ [] ∶ str s) ss

abbrev pub array_of : List Text → Ast
array_of ss = con array [] (items ε ss)

abbrev pub object_of : (name : ℕ) → Asts → Ast
object_of name more = con object (spelling name) more

abbrev pub empty_object : Ast
empty_object = con object (bytes "Empty") ε

-- the key of a response list
abbrev pub key_of : Only (List Text) → ℕ
key_of (first l) = certified_response_headers
key_of (second l) = response_header_exclusions

abbrev pub response_value : Only (List Text) → Ast
response_value l =
    object_of ResponseCertification (ε ▪ spelling (key_of l) ∶ object_of ResponseHeaderList (ε ▪ spelling headers ∶ array_of (listed l)))

abbrev pub request_value : Request Text → Ast
request_value r =
    object_of RequestCertification
    (ε ▪ spelling certified_request_headers ∶ array_of r.request_headers ▪ spelling certified_query_parameters ∶ array_of r.query_parameters)

abbrev pub root_of : (name : ℕ) → Ast → Ast
root_of name a = con function (spelling default_certification) (ε ▪ [] ∶ object_of ValidationArgs (ε ▪ spelling name ∶ a))

abbrev pub skip_value : Ast
skip_value = root_of no_certification empty_object

-- the entry of the request part; where there is none, v stands for it, which the mapping does not look at
abbrev pub request_entry : Ast → Option (Request Text) → Asts
request_entry v none = ε ▪ spelling no_request_certification ∶ v
request_entry v (some r) = ε ▪ spelling request_certification ∶ request_value r

abbrev pub certified_value : Ast → Option (Request Text) → Only (List Text) → Ast
certified_value v r l = root_of certification (object_of Certification (request_entry v r ▪ spelling response_certification ∶ response_value l))

-- ---- their text

-- what the strings after the first add to a list
abbrev further_text : List Text → Text
further_text [] = []
further_text (s ∷ ss) = comma ∷ quote ∷ (s ++ quote ∷ further_text ss)

write-items : (more : Asts) (k : Text) (a : Ast) (ss : List Text)
    → write_all (items (more ▪ k ∶ a) ss) array ≡ write_all (more ▪ k ∶ a) array ++ further_text ss
write-items more k a [] = sym (append-nil _)
write-items more k a (s ∷ ss) = rw (write-items (more ▪ k ∶ a) [] (str s) ss) (simp append_assoc)

joined-further : (s : Text) (ss : List Text) → joined s ss ++ quote ∷ [] ≡ s ++ quote ∷ further_text ss
joined-further s [] = refl
joined-further s (t ∷ ss) = simp (append_assoc, joined-further t ss)

list_text-written : (ss : List Text) → list_text ss ≡ write_all (items ε ss) array
list_text-written [] = refl
list_text-written (s ∷ ss) = rw (write-items ε [] (str s) ss, joined-further s ss) (simp append_assoc)

pub printed-skip : printed skipped ≡ write skip_value
unfolding printed skip_text spelling
printed-skip = refl

-- the key that the text has is the key that its list is looked up by
list_key-spelt : (l : Only (List Text)) → list_key (list_kind l) ≡ spelling (key_of l)
unfolding spelling
list_key-spelt (first l) = refl
list_key-spelt (second l) = refl

pub printed-certified : (r : Option (Request Text)) (l : Only (List Text)) → printed (certified r l) ≡ write (certified_value empty_object r l)
unfolding printed response_only_text full_text request_text response_text spelling
printed-certified none l = simp (append_assoc, list_text-written, list_key-spelt l)
printed-certified (some r) l = simp (append_assoc, list_text-written, list_key-spelt l)

-- ---- their nodes and depth

size-items : (more : Asts) (ss : List Text) → size_all (items more ss) ≡ size_all more + length ss
size-items more [] = omega arith
size-items more (s ∷ ss) = omega (arith, size-items (more ▪ [] ∶ str s) ss)

height-items : (more : Asts) (ss : List Text) → height_all (items more ss) ≡ height_all more
height-items more [] = refl
height-items more (s ∷ ss) = height-items (more ▪ [] ∶ str s) ss ∙ max-zero (height_all more)

-- the nodes that are no strings
abbrev pub skeleton : Ast → Option (Request Text) → ℕ
skeleton v none = 6 + size_of v
skeleton v (some r) = 9

pub size-certified : (v : Ast) (r : Option (Request Text)) (l : Only (List Text))
    → size_of (certified_value v r l) ≡ skeleton v r + certified_count r l
size-certified v none l = omega (arith, size-items ε (listed l))
size-certified v (some r) l = omega (arith, size-items ε (listed l), size-items ε r.request_headers, size-items ε r.query_parameters)

pub height-certified : (v : Ast) (r : Option (Request Text)) (l : Only (List Text)) → height_of v ≤ 3 → height_of (certified_value v r l) ≡ 6
height-certified v none l h = rw (height-items ε (listed l)) (omega arith)
height-certified v (some r) l h = rw (height-items ε (listed l), height-items ε r.request_headers, height-items ε r.query_parameters)

-- ---- what the mapping makes of them

elements-items : (name : ℕ) (more : Asts) (n : ℕ) (before ss : List Text)
    → elements name (seen_all more n) ≡ good before → elements name (seen_all (items more ss) n) ≡ good (before ++ ss)
elements-items name more n before [] e = rw append-nil e
elements-items name more n before (s ∷ ss) e =
    let h : elements name (seen_all (more ▪ [] ∶ str s) n) ≡ good (before ++ (s ∷ [])) = unfold elements element in rw e refl in
    rw append_assoc at (elements-items name (more ▪ [] ∶ str s) n (before ++ (s ∷ [])) ss h)

string_array-array_of : (name n : ℕ) (ss : List Text) → string_array name (seen (array_of ss) n) ≡ good ss
unfolding string_array elements
string_array-array_of name n ss = elements-items name ε (suc n) [] ss refl

pub mapping-skip : mapping (seen skip_value 0) ≡ good skipped
unfolding mapping typed lookup first_child first_of validation_args certification_of spelling
mapping-skip = refl

response_lists-seen : (l : Only (List Text)) (n m : ℕ)
    → response_lists (record { number = n; children = seen_all (ε ▪ spelling (key_of l) ∶ object_of ResponseHeaderList (ε ▪ spelling headers ∶ array_of (listed l))) m }) ≡ good l
unfolding typed lookup response_lists list_of headers_of spelling
response_lists-seen (first l) n m = simp string_array-array_of
response_lists-seen (second l) n m = simp string_array-array_of

pub mapping-certified : (v : Ast) (r : Option (Request Text)) (l : Only (List Text)) → mapping (seen (certified_value v r l) 0) ≡ good (certified r l)
unfolding mapping typed lookup first_child first_of validation_args certification_of certification_parts request_part request_of request_lists list_at response_part present spelling
mapping-certified v none l = simp (response_lists-seen l)
mapping-certified v (some r) l = simp (string_array-array_of, response_lists-seen l)

-- ---- they may be written

-- each name is an identifier
spelt : (name : ℕ) → Identifier (spelling name)
unfolding spelling ident_byte alphanumeric
spelt name = run-of ident_byte (get_or spellings name []) (each-get_d (each_of (all_of ident_byte) spellings tt) tt name)

module _ (S : ℕ → Bool) where
  writable-items : (more : Asts) (ss : List Text) → WritableAll S more array → Each (Run S) ss → WritableAll S (items more ss) array
  writable-items more [] w nothing = w
  writable-items more (s ∷ ss) w (each r rs) = writable-items (more ▪ [] ∶ str s) ss (w, refl, r) rs

  writable-array : (ss : List Text) → Each (Run S) ss → Writable S (array_of ss)
  writable-array ss e = (refl, writable-items ε ss tt e)

  writable-root : (name : ℕ) (a : Ast) → Writable S a → Writable S (root_of name a)
  writable-root name a w = (spelt default_certification, (tt, refl, (spelt ValidationArgs, (tt, spelt name, w))))

  pub writable-empty : Writable S empty_object
  unfolding ident_byte alphanumeric
  writable-empty = (run-of ident_byte (bytes "Empty") tt, tt)

  pub writable-skip : Writable S skip_value
  writable-skip = writable-root no_certification empty_object writable-empty

  writable-response : (l : Only (List Text)) → Each (Run S) (listed l) → Writable S (response_value l)
  writable-response l e =
      (spelt ResponseCertification, (tt, spelt (key_of l), (spelt ResponseHeaderList, (tt, spelt headers, writable-array (listed l) e))))

  writable-request :
      (v : Ast) (r : Option (Request Text)) (l : Only (List Text))
      → Writable S v → Each (Run S) (all_strings (certified r l)) → WritableAll S (request_entry v r) object × Each (Run S) (listed l)
  writable-request v none l w e = ((tt, spelt no_request_certification, w), e)
  writable-request v (some r) l w e =
      let a = each-split r.request_headers (r.query_parameters ++ listed l) e in
      let b = each-split r.query_parameters (listed l) a.1 in (
        (
          tt,
          spelt request_certification,
          (
            spelt RequestCertification,
            (
              (tt, spelt certified_request_headers, writable-array r.request_headers a.0),
              spelt certified_query_parameters,
              writable-array r.query_parameters b.0,
            ),
          ),
        ),
        b.1,
      )

  pub writable-certified :
      (v : Ast) (r : Option (Request Text)) (l : Only (List Text))
      → Writable S v → Each (Run S) (all_strings (certified r l)) → Writable S (certified_value v r l)
  writable-certified v r l w e =
      let h = writable-request v r l w e in
      writable-root certification (object_of Certification (request_entry v r ▪ spelling response_certification ∶ response_value l))
      (spelt Certification, (h.0, spelt response_certification, writable-response l h.1))
