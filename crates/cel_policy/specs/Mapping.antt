-- The mapping, from a tree to a policy, or to a refusal of 7 to 16. Its four numbered steps stand at the end, the last first, since each uses the one after it.
-- They know a string by an A, so they depend neither on places nor on the set of string bytes. Assumes nothing.
use Rattle.std.specs.Prelude.{ℕ, suc, ◌+◌, cond, List, [], ◌∷◌, ◌++◌, eqb}
use Rattle.std.proofs.Math.Option.{Option, none, some}
use Rattle.std.proofs.Math.Seq.{slice}
use Rattle.cel_text.specs.Byte.{Text}
use Rattle.cel_text.specs.Tree.{Kind, array, object, function, Key, unkeyed, key, Tree, string, container, Trees, ∅, ◌▸◌∶◌, nodes_all}
use Rattle.cel_text.specs.Table.{string_kind, kind_number}
use Rattle.cel_policy.specs.Names.{same, spelling, default_certification, ValidationArgs, no_certification, certification, Certification, no_request_certification, request_certification}
use Rattle.cel_policy.specs.Names.{RequestCertification, certified_request_headers, certified_query_parameters, response_certification, ResponseCertification, certified_response_headers}
use Rattle.cel_policy.specs.Names.{response_header_exclusions, ResponseHeaderList, headers}
use Rattle.cel_policy.specs.Policy.{Span, Policy, skip, response_only, full, no_list, inclusions, exclusions}

-- a tree as the mapping sees it: each node with its number; a string known by an A; a container with its kind and the bytes of its name
infixl 60 ◌▹◌∶◌
module _ (A : Type 0) where
  mutual
    pub data Node : Type 0 where
      leaf : (number : ℕ) → A → Node
      branch : (number : ℕ) → Kind → (name : Text) → Nodes → Node

    -- children in text order, each with the bytes of its key, the last at hand
    pub data Nodes : Type 0 where
      childless : Nodes
      ◌▹◌∶◌ : Nodes → (key : Text) → Node → Nodes

-- the bytes of a key; a value that is no entry has none
abbrev pub key_bytes : Text → Key → Text
key_bytes x unkeyed = []
key_bytes x (key from to) = slice from to x

abbrev mutual
  -- the tree t of the text x, whose number is n. “Nodes are numbered from 0, in the order of their openers.”
  pub node_of : Text → Tree → (n : ℕ) → Node Span
  node_of x (string o to q) n = leaf n (record { from = suc o; to = to })
  node_of x (container c o from to q ts) n = branch n c (slice from to x) (nodes_of x ts (suc n))

  -- children of which the first has number n
  pub nodes_of : Text → Trees → (n : ℕ) → Nodes Span
  nodes_of x ∅ n = childless
  nodes_of x (ts ▸ k ∶ t) n = nodes_of x ts n ▹ key_bytes x k ∶ node_of x t (n + nodes_all ts)

-- a refusal of 7 to 16. “An answer begins with four numbers: refusal, name, kind and place.” “For 7 to 16 the place is a node's number, for 21 and 22 a
-- string's.”
pub record Refusal : Type 0 where
  pub refusal : ℕ
  pub name : ℕ
  pub kind : ℕ
  pub node : ℕ

-- what a step of the mapping gives, and the step after it
pub data Mapped (B : Type 0) : Type 0 where
  good : B → Mapped B
  bad : Refusal → Mapped B

abbrev pub and_then : {B C : Type 0} → Mapped B → (B → Mapped C) → Mapped C
and_then (good b) next = next b
and_then (bad r) next = bad r

-- 7: of name and kind “the one expected”, and “the node of the wrong kind”
abbrev pub unexpected_type : {B : Type 0} → (name kind node : ℕ) → Mapped B
unexpected_type name kind node = bad (record { refusal = 7; name = name; kind = kind; node = node })

-- 8: the name expected, and “the node with the wrong name”
abbrev pub unexpected_name : {B : Type 0} → (name node : ℕ) → Mapped B
unexpected_name name node = bad (record { refusal = 8; name = name; kind = 0; node = node })

-- 9: name 2, and “function 1, which is node 0”
abbrev pub missing_parameter : {B : Type 0} → (node : ℕ) → Mapped B
missing_parameter node = bad (record { refusal = 9; name = ValidationArgs; kind = 0; node = node })

-- 10: “the key that is missing”, and “the object that lacks it”
abbrev pub missing_property : {B : Type 0} → (name node : ℕ) → Mapped B
missing_property name node = bad (record { refusal = 10; name = name; kind = 0; node = node })

-- 11 to 16: no name, and the object whose keys are judged
abbrev pub wrong_properties : {B : Type 0} → (refusal node : ℕ) → Mapped B
wrong_properties refusal node = bad (record { refusal = refusal; name = 0; kind = 0; node = node })

-- a container whose kind and name were found as expected
pub record Typed (A : Type 0) : Type 0 where
  pub number : ℕ
  pub children : Nodes A

-- the request part of a policy
pub record Request (A : Type 0) : Type 0 where
  pub request_headers : List A
  pub query_parameters : List A

-- which of two things is there
pub data Only (B : Type 0) : Type 0 where
  first second : B → Only B

-- exactly one of two, in the object whose node is given: else “both are refused with 11, neither with 12”, “both are refused with 13, neither with 14”, or
-- “After both, two lists are refused with 15, none with 16.”
abbrev pub exactly_one : {B : Type 0} → (both neither node : ℕ) → Option B → Option B → Mapped (Only B)
exactly_one both neither node none none = wrong_properties neither node
exactly_one both neither node none (some b) = good (second b)
exactly_one both neither node (some a) none = good (first a)
exactly_one both neither node (some a) (some b) = wrong_properties both node

module _ {A : Type 0} where
  -- “Where a node should be an object or a function with a given name, another kind is refused with 7, and then another name with 8.”
  unfoldable pub typed : Kind → (name : ℕ) → Node A → Mapped (Typed A)
  typed c name (leaf n a) = unexpected_type name (kind_number c) n
  typed c name (branch n d bytes ns) =
      cond (eqb (kind_number d) (kind_number c))
      (cond (same bytes (spelling name)) (good (record { number = n; children = ns })) (unexpected_name name n))
      (unexpected_type name (kind_number c) n)

  -- “Of several entries with the same key, the last is the one that counts.”
  unfoldable pub lookup : (name : ℕ) → Nodes A → Option (Node A)
  lookup name childless = none
  lookup name (ns ▹ k ∶ n) = cond (same k (spelling name)) (some n) (lookup name ns)

  -- a key that must be there. “A key that is missing is refused with 10.”
  unfoldable pub present : (name node : ℕ) → Option (Node A) → Mapped (Node A)
  present name node none = missing_property name node
  present name node (some n) = good n

  -- “Of the elements, the first that is no string is refused with 7 and kind 1.”
  unfoldable pub element : (name : ℕ) → Node A → Mapped A
  element name (leaf n a) = good a
  element name (branch n c bytes ns) = unexpected_type name string_kind n

  unfoldable pub elements : (name : ℕ) → Nodes A → Mapped (List A)
  elements name childless = good []
  elements name (ns ▹ k ∶ n) = and_then (elements name ns) (λ before. and_then (element name n) (λ a. good (before ++ (a ∷ []))))

  -- “A string array is an array whose elements are strings. A node that is no array is refused with 7 and kind 2.”
  unfoldable pub string_array : (name : ℕ) → Node A → Mapped (List A)
  string_array name (leaf n a) = unexpected_type name (kind_number array) n
  string_array name (branch n array bytes ns) = elements name ns
  string_array name (branch n object bytes ns) = unexpected_type name (kind_number array) n
  string_array name (branch n function bytes ns) = unexpected_type name (kind_number array) n

  -- the first of children
  unfoldable pub first_of : Node A → Nodes A → Node A
  first_of n childless = n
  first_of n (ns ▹ k ∶ m) = first_of m ns

  unfoldable pub first_child : (node : ℕ) → Nodes A → Mapped (Node A)
  first_child node childless = missing_parameter node
  first_child node (ns ▹ k ∶ n) = good (first_of n ns)

  -- 4. “Where the key is there, its value should be object 15. Where that has key 16, the value of key 16 is a string array, and a 7 of this array goes with
  -- the name 13 or 14. A list object without key 16 is taken as if it were not there.”
  unfoldable pub headers_of : (name : ℕ) → Option (Node A) → Mapped (Option (List A))
  headers_of name none = good none
  headers_of name (some n) = and_then (string_array name n) (λ list. good (some list))

  unfoldable pub list_of : (name : ℕ) → Option (Node A) → Mapped (Option (List A))
  list_of name none = good none
  list_of name (some n) = and_then (typed object ResponseHeaderList n) (λ o. headers_of name (lookup headers o.children))

  -- “In object 12, key 13 is judged, and then key 14.” “After both, two lists are refused with 15, none with 16.”
  unfoldable pub response_lists : Typed A → Mapped (Only (List A))
  response_lists o =
      and_then (list_of certified_response_headers (lookup certified_response_headers o.children)) (λ included.
      and_then (list_of response_header_exclusions (lookup response_header_exclusions o.children)) (λ excluded.
      exactly_one 15 16 o.number included excluded))

  -- “Object 5 has key 11, or is refused with 10, and its value should be object 12.”
  unfoldable pub response_part : Typed A → Mapped (Only (List A))
  response_part o =
      and_then (present response_certification o.number (lookup response_certification o.children)) (λ n.
      and_then (typed object ResponseCertification n) response_lists)

  -- 3. “Object 8 has key 9, a string array with the request headers, and then key 10, one with the query parameters. A key that is missing is refused with
  -- 10. A 7 of these arrays goes with the name 9 or 10.”
  unfoldable pub list_at : (name : ℕ) → Typed A → Mapped (List A)
  list_at name o = and_then (present name o.number (lookup name o.children)) (string_array name)

  unfoldable pub request_lists : Typed A → Mapped (Option (Request A))
  request_lists o =
      and_then (list_at certified_request_headers o) (λ hs.
      and_then (list_at certified_query_parameters o) (λ qs.
      good (some (record { request_headers = hs; query_parameters = qs }))))

  -- “With key 6 there is no request part, whatever stands there. With key 7 its value should be object 8.”
  unfoldable pub request_of : Only (Node A) → Mapped (Option (Request A))
  request_of (first n) = good none
  request_of (second n) = and_then (typed object RequestCertification n) request_lists

  -- “Object 5 has either key 6 or key 7: both are refused with 13, neither with 14.”
  unfoldable pub request_part : Typed A → Mapped (Option (Request A))
  request_part o =
      and_then (exactly_one 13 14 o.number (lookup no_request_certification o.children) (lookup request_certification o.children)) request_of

  -- the response list and its kind. “The list of key 13 is inclusions, that of key 14 exclusions.”
  abbrev pub list_kind : Only (List A) → ℕ
  list_kind (first l) = inclusions
  list_kind (second l) = exclusions

  abbrev pub listed : Only (List A) → List A
  listed (first l) = l
  listed (second l) = l

  -- “The policy is ResponseOnly without a request part, and Full with one.”
  abbrev pub certified : Option (Request A) → Only (List A) → Policy A
  certified none l = record { form = response_only; kind = list_kind l; request_headers = []; query_parameters = []; response_headers = listed l }
  certified (some r) l =
      record { form = full; kind = list_kind l; request_headers = r.request_headers; query_parameters = r.query_parameters; response_headers = listed l }

  abbrev pub skipped : Policy A
  skipped = record { form = skip; kind = no_list; request_headers = []; query_parameters = []; response_headers = [] }

  -- steps 3 and 4, in the object 5
  unfoldable pub certification_parts : Typed A → Mapped (Policy A)
  certification_parts o = and_then (request_part o) (λ r. and_then (response_part o) (λ l. good (certified r l)))

  -- 2. “With key 3 the policy is Skip, whatever stands there. With key 4 its value should be object 5, and steps 3 and 4 follow.”
  unfoldable pub certification_of : Only (Node A) → Mapped (Policy A)
  certification_of (first n) = good skipped
  certification_of (second n) = and_then (typed object Certification n) certification_parts

  -- “Object 2 has either key 3 or key 4: both are refused with 11, neither with 12.”
  unfoldable pub validation_args : Typed A → Mapped (Policy A)
  validation_args o =
      and_then (exactly_one 11 12 o.number (lookup no_certification o.children) (lookup certification o.children)) certification_of

  -- 1. “The root should be function 1. A function 1 without an argument is refused with 9. Its first argument should be object 2, and no other argument is
  -- looked at.”
  unfoldable pub mapping : Node A → Mapped (Policy A)
  mapping root =
      and_then (typed function default_certification root) (λ f.
      and_then (first_child f.number f.children) (λ argument.
      and_then (typed object ValidationArgs argument) validation_args))
