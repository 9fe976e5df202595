-- The mapping does not look into strings: with each string of a tree known by another thing, the mapping gives the same policy with its strings so
-- known, or the same refusal. So the strings of what is read depend on a tree's bytes alone, and not on places. Assumes nothing.
use Rattle.std.specs.Prelude.{◌≡◌, ℕ, Bool, true, false, cond, List, map}
use Rattle.std.proofs.Math.Path.{refl, ap}
use Rattle.std.proofs.Common.{arith}
use Rattle.std.proofs.lemmas.List.{map-append}
use Rattle.std.proofs.Math.Option.{Option, none, some}
use Rattle.cel_text.specs.Tree.{Kind, array, object, function}
use Rattle.cel_policy.specs.Policy.{Policy, all_strings, over_strings}
use Rattle.cel_policy.specs.Mapping.{Node, leaf, branch, Nodes, childless, ◌▹◌∶◌, Mapped, good, bad, and_then, Typed, Request, Only, first, second, exactly_one, typed, lookup, present, element}
use Rattle.cel_policy.specs.Mapping.{elements, string_array, first_of, first_child, headers_of, list_of, response_lists, response_part, list_at, request_lists, request_of, request_part, certified}
use Rattle.cel_policy.specs.Mapping.{certification_parts, certification_of, validation_args, mapping}

-- what a function on strings does to each thing that holds strings
abbrev pub over_mapped : {B C : Type 0} → (B → C) → Mapped B → Mapped C
over_mapped f (good b) = good (f b)
over_mapped f (bad r) = bad r

abbrev pub over_option : {B C : Type 0} → (B → C) → Option B → Option C
over_option f none = none
over_option f (some b) = some (f b)

abbrev pub over_only : {B C : Type 0} → (B → C) → Only B → Only C
over_only f (first b) = first (f b)
over_only f (second b) = second (f b)

module _ {A B : Type 0} (f : A → B) where
  abbrev mutual
    pub over_node : Node A → Node B
    over_node (leaf n a) = leaf n (f a)
    over_node (branch n c name ns) = branch n c name (over_nodes ns)

    pub over_nodes : Nodes A → Nodes B
    over_nodes childless = childless
    over_nodes (ns ▹ k ∶ n) = over_nodes ns ▹ k ∶ over_node n

  abbrev pub over_typed : Typed A → Typed B
  over_typed o = record { number = o.number; children = over_nodes o.children }

  abbrev pub over_request : Request A → Request B
  over_request r = record { request_headers = map f r.request_headers; query_parameters = map f r.query_parameters }

-- what was mapped, where its strings are known
pub unmap : {B C : Type 0} (f : B → C) (m : Mapped B) (c : C) → over_mapped f m ≡ good c → (b : B) × (m ≡ good b) × (f b ≡ c)
unmap f (good b) c e = (b, refl, cc)
unmap f (bad r) c e = let z : ◌≡◌ {A = ℕ} 0 1 = cc in absurd (omega arith)

-- a function goes past a test, and past the step before it
module _ {B C : Type 0} (f : B → C) where
  over_mapped-cond : (b : Bool) (x y : Mapped B) → over_mapped f (cond b x y) ≡ cond b (over_mapped f x) (over_mapped f y)
  over_mapped-cond true x y = refl
  over_mapped-cond false x y = refl

  over_option-cond : (b : Bool) (x y : Option B) → over_option f (cond b x y) ≡ cond b (over_option f x) (over_option f y)
  over_option-cond true x y = refl
  over_option-cond false x y = refl

  over_mapped-and_then : {D : Type 0} (m : Mapped D) (next : D → Mapped B) → over_mapped f (and_then m next) ≡ and_then m (λ d. over_mapped f (next d))
  over_mapped-and_then (good d) next = refl
  over_mapped-and_then (bad r) next = refl

  and_then-over_mapped : {D : Type 0} (m : Mapped B) (next : C → Mapped D) → and_then (over_mapped f m) next ≡ and_then m (λ b. next (f b))
  and_then-over_mapped (good b) next = refl
  and_then-over_mapped (bad r) next = refl

  exactly_one-natural : (both neither node : ℕ) (a b : Option B)
      → exactly_one both neither node (over_option f a) (over_option f b) ≡ over_mapped (over_only f) (exactly_one both neither node a b)
  exactly_one-natural both neither node none none = refl
  exactly_one-natural both neither node none (some b) = refl
  exactly_one-natural both neither node (some a) none = refl
  exactly_one-natural both neither node (some a) (some b) = refl

ruleset past = (over_mapped-cond, over_option-cond, over_mapped-and_then, and_then-over_mapped, exactly_one-natural)

pub all_strings-over : {A B : Type 0} (f : A → B) (p : Policy A) → all_strings (over_strings f p) ≡ map f (all_strings p)
all_strings-over f p = simp map-append

module _ {A B : Type 0} (f : A → B) where
  typed-natural : (c : Kind) (name : ℕ) (n : Node A) → typed c name (over_node f n) ≡ over_mapped (over_typed f) (typed c name n)
  unfolding typed
  typed-natural c name (leaf n a) = refl
  typed-natural c name (branch n d bytes ns) = simp past

  lookup-natural : (name : ℕ) (ns : Nodes A) → lookup name (over_nodes f ns) ≡ over_option (over_node f) (lookup name ns)
  unfolding lookup
  lookup-natural name childless = refl
  lookup-natural name (ns ▹ k ∶ n) = simp (past, lookup-natural name ns)

  present-natural : (name node : ℕ) (o : Option (Node A)) → present name node (over_option (over_node f) o) ≡ over_mapped (over_node f) (present name node o)
  unfolding present
  present-natural name node none = refl
  present-natural name node (some n) = refl

  element-natural : (name : ℕ) (n : Node A) → element name (over_node f n) ≡ over_mapped f (element name n)
  unfolding element
  element-natural name (leaf n a) = refl
  element-natural name (branch n c bytes ns) = refl

  elements-natural : (name : ℕ) (ns : Nodes A) → elements name (over_nodes f ns) ≡ over_mapped (map f) (elements name ns)
  unfolding elements
  elements-natural name childless = refl
  elements-natural name (ns ▹ k ∶ n) = simp (past, elements-natural name ns, element-natural name n, map-append)

  string_array-natural : (name : ℕ) (n : Node A) → string_array name (over_node f n) ≡ over_mapped (map f) (string_array name n)
  unfolding string_array
  string_array-natural name (leaf n a) = refl
  string_array-natural name (branch n array bytes ns) = elements-natural name ns
  string_array-natural name (branch n object bytes ns) = refl
  string_array-natural name (branch n function bytes ns) = refl

  first_of-natural : (n : Node A) (ns : Nodes A) → first_of (over_node f n) (over_nodes f ns) ≡ over_node f (first_of n ns)
  unfolding first_of
  first_of-natural n childless = refl
  first_of-natural n (ns ▹ k ∶ m) = first_of-natural m ns

  first_child-natural : (node : ℕ) (ns : Nodes A) → first_child node (over_nodes f ns) ≡ over_mapped (over_node f) (first_child node ns)
  unfolding first_child
  first_child-natural node childless = refl
  first_child-natural node (ns ▹ k ∶ n) = ap good (first_of-natural n ns)

  headers_of-natural : (name : ℕ) (o : Option (Node A)) → headers_of name (over_option (over_node f) o) ≡ over_mapped (over_option (map f)) (headers_of name o)
  unfolding headers_of
  headers_of-natural name none = refl
  headers_of-natural name (some n) = simp (past, string_array-natural)

  list_of-natural : (name : ℕ) (o : Option (Node A)) → list_of name (over_option (over_node f) o) ≡ over_mapped (over_option (map f)) (list_of name o)
  unfolding list_of
  list_of-natural name none = refl
  list_of-natural name (some n) = simp (past, typed-natural, lookup-natural, headers_of-natural)

  response_lists-natural : (o : Typed A) → response_lists (over_typed f o) ≡ over_mapped (over_only (map f)) (response_lists o)
  unfolding response_lists
  response_lists-natural o = simp (past, lookup-natural, list_of-natural)

  response_part-natural : (o : Typed A) → response_part (over_typed f o) ≡ over_mapped (over_only (map f)) (response_part o)
  unfolding response_part
  response_part-natural o = simp (past, lookup-natural, present-natural, typed-natural, response_lists-natural)

  list_at-natural : (name : ℕ) (o : Typed A) → list_at name (over_typed f o) ≡ over_mapped (map f) (list_at name o)
  unfolding list_at
  list_at-natural name o = simp (past, lookup-natural, present-natural, string_array-natural)

  request_lists-natural : (o : Typed A) → request_lists (over_typed f o) ≡ over_mapped (over_option (over_request f)) (request_lists o)
  unfolding request_lists
  request_lists-natural o = simp (past, list_at-natural)

  request_of-natural : (o : Only (Node A)) → request_of (over_only (over_node f) o) ≡ over_mapped (over_option (over_request f)) (request_of o)
  unfolding request_of
  request_of-natural (first n) = refl
  request_of-natural (second n) = simp (past, typed-natural, request_lists-natural)

  request_part-natural : (o : Typed A) → request_part (over_typed f o) ≡ over_mapped (over_option (over_request f)) (request_part o)
  unfolding request_part
  request_part-natural o = simp (past, lookup-natural, request_of-natural)

  certified-natural : (r : Option (Request A)) (l : Only (List A))
      → certified (over_option (over_request f) r) (over_only (map f) l) ≡ over_strings f (certified r l)
  certified-natural none (first l) = refl
  certified-natural none (second l) = refl
  certified-natural (some r) (first l) = refl
  certified-natural (some r) (second l) = refl

  certification_parts-natural : (o : Typed A) → certification_parts (over_typed f o) ≡ over_mapped (over_strings f) (certification_parts o)
  unfolding certification_parts
  certification_parts-natural o = simp (past, request_part-natural, response_part-natural, certified-natural)

  certification_of-natural : (o : Only (Node A)) → certification_of (over_only (over_node f) o) ≡ over_mapped (over_strings f) (certification_of o)
  unfolding certification_of
  certification_of-natural (first n) = refl
  certification_of-natural (second n) = simp (past, typed-natural, certification_parts-natural)

  validation_args-natural : (o : Typed A) → validation_args (over_typed f o) ≡ over_mapped (over_strings f) (validation_args o)
  unfolding validation_args
  validation_args-natural o = simp (past, lookup-natural, certification_of-natural)

  pub mapping-natural : (root : Node A) → mapping (over_node f root) ≡ over_mapped (over_strings f) (mapping root)
  unfolding mapping
  mapping-natural root = simp (past, typed-natural, first_child-natural, validation_args-natural)
