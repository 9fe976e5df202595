-- What the mapping can give: a refusal of 7 to 16, or a policy whose strings and containers are different nodes of the tree, so that a tree of 256
-- nodes gives a policy of a right shape. Step by step along the mapping. Assumes nothing.
use Rattle.std.specs.Prelude.{◌≡◌, ℕ, suc, ◌+◌, ◌≤◌, Bool, cond, List, [], ◌∷◌, length, T, eqb, leb}
use Rattle.std.proofs.Math.Path.{refl}
use Rattle.std.proofs.Common.{sym, ap, true≢false, eqb-true}
use native.Mathlib.Omega.{arith}
use Rattle.std.proofs.Math.Bool.{true, false}
use Rattle.std.proofs.Math.Option.{Option, none, some}
use Rattle.std.proofs.Math.ListN.{length-append}
use Rattle.std.proofs.Math.Dec.{lit≤}
use Rattle.cel_text.specs.Byte.{Text}
use Rattle.cel_text.specs.Tree.{Kind, array, object, function, Tree, string, container, Trees, ∅, ◌▸◌∶◌, nodes, nodes_all}
use Rattle.cel_text.specs.Table.{kind_number}
use Rattle.cel_text.specs.Reading.{max_nodes}
use Rattle.cel_text.proofs.Laws.Class.{by-test, both_true}
use Rattle.cel_policy.specs.Names.{same, spelling, no_certification, certification, no_request_certification, request_certification, certified_request_headers, certified_query_parameters}
use Rattle.cel_policy.specs.Names.{response_certification, certified_response_headers, response_header_exclusions, headers}
use Rattle.cel_policy.specs.Policy.{Policy}
use Rattle.cel_policy.specs.Mapping.{Node, leaf, branch, Nodes, childless, ◌▹◌∶◌, node_of, nodes_of, Mapped, good, bad, and_then, Typed, Request, Only, first, second, exactly_one, typed, lookup}
use Rattle.cel_policy.specs.Mapping.{present, element, elements, string_array, first_of, first_child, headers_of, list_of, response_lists, response_part, list_at, request_lists, request_of}
use Rattle.cel_policy.specs.Mapping.{request_part, listed, certified, certification_parts, certification_of, validation_args, mapping}
use Rattle.cel_policy.specs.Sizes.{size, sizes}
use Rattle.cel_policy.proofs.Laws.Shape.{Shape, skips, certifies}

-- ---- nodes

module _ {A : Type 0} where
  -- of a node that may be absent
  abbrev size_if : Option (Node A) → ℕ
  size_if none = 0
  size_if (some n) = size n

  pub size-positive : (n : Node A) → 1 ≤ size n
  size-positive (leaf n a) = lit≤ tt
  size-positive (branch n c name ns) = omega arith

mutual
  pub size-node_of : (x : Text) (t : Tree) (n : ℕ) → size (node_of x t n) ≡ nodes t
  size-node_of x (string o to q) n = refl
  size-node_of x (container c o from to q ts) n = ap suc (sizes-nodes_of x ts (suc n))

  sizes-nodes_of : (x : Text) (ts : Trees) (n : ℕ) → sizes (nodes_of x ts n) ≡ nodes_all ts
  sizes-nodes_of x ∅ n = refl
  sizes-nodes_of x (ts ▸ k ∶ t) n = cc (sizes-nodes_of x ts n, size-node_of x t (n + nodes_all ts))

-- ---- entries with different keys are different nodes

same-equal : (a b : Text) → same a b ≡ true → a ≡ b
same-equal [] [] e = refl
same-equal [] (b ∷ bs) e = absurd (true≢false (sym e))
same-equal (a ∷ more) [] e = absurd (true≢false (sym e))
same-equal (a ∷ more) (b ∷ bs) e =
    let h = both_true (eqb a b) (same more bs) e in cc (eqb-true a b h.0, same-equal more bs h.1)

-- a key that is one name is not another
Apart : (a b : ℕ) → Type 0
Apart a b = same (spelling a) (spelling b) ≡ false

apart : (k : Text) (a b : ℕ) → Apart a b → same k (spelling a) ≡ true → same k (spelling b) ≡ false
unfolding Apart
apart k a b h e = rw (same-equal k (spelling a) e) h

-- three names, each another: the entries that they find have no node in common
module _ {A : Type 0} (a b c : ℕ) (ab : Apart a b) (ac : Apart a c) (bc : Apart b c) where
  different : (ns : Nodes A) → size_if (lookup a ns) + size_if (lookup b ns) + size_if (lookup c ns) ≤ sizes ns
  unfolding lookup
  different childless = lit≤ tt
  different (ns ▹ k ∶ n) = at (same k (spelling a)) (same k (spelling b)) (same k (spelling c)) (apart k a b ab) (apart k a c ac) (apart k b c bc) (different ns)
    where
      at : (x y z : Bool) → (x ≡ true → y ≡ false) → (x ≡ true → z ≡ false) → (y ≡ true → z ≡ false)
          → size_if (lookup a ns) + size_if (lookup b ns) + size_if (lookup c ns) ≤ sizes ns
          → size_if (cond x (some n) (lookup a ns)) + size_if (cond y (some n) (lookup b ns)) + size_if (cond z (some n) (lookup c ns)) ≤ sizes ns + size n
      at false false false xy xz yz h = omega arith
      at true false false xy xz yz h = omega arith
      at false true false xy xz yz h = omega arith
      at false false true xy xz yz h = omega arith
      at true true z xy xz yz h = absurd (true≢false (xy refl))
      at true false true xy xz yz h = absurd (true≢false (xz refl))
      at false true true xy xz yz h = absurd (true≢false (yz refl))

-- a bound from both sides, between numerals
pub between : {l n h : ℕ} → T (leb l n) → T (leb n h) → (l ≤ n) × (n ≤ h)
between a b = (lit≤ a, lit≤ b)

-- ---- what a step meets: P of what it gives, or a refusal of the mapping's

abbrev pub OfMapping : ℕ → Type 0
OfMapping n = (7 ≤ n) × (n ≤ 16)

abbrev pub Meets : {B : Type 0} → (B → Type 0) → Mapped B → Type 0
Meets P (good b) = P b
Meets P (bad r) = OfMapping r.refusal

meets-then : {B C : Type 0} {P : B → Type 0} (Q : C → Type 0) (m : Mapped B) (next : B → Mapped C)
    → Meets P m → ((b : B) → P b → Meets Q (next b)) → Meets Q (and_then m next)
meets-then Q (good b) next h k = k b h
meets-then Q (bad r) next h k = h

meets-weaken : {B : Type 0} {P Q : B → Type 0} (m : Mapped B) → Meets P m → ((b : B) → P b → Q b) → Meets Q m
meets-weaken (good b) h k = k b h
meets-weaken (bad r) h k = h

meets-exactly_one : {B : Type 0} (P : Only B → Type 0) (both neither node : ℕ) (a b : Option B)
    → OfMapping both → OfMapping neither
    → ((u : B) → a ≡ some u → P (first u)) → ((u : B) → b ≡ some u → P (second u)) → Meets P (exactly_one both neither node a b)
meets-exactly_one P both neither node none none hb hn f g = hn
meets-exactly_one P both neither node none (some b) hb hn f g = g b refl
meets-exactly_one P both neither node (some a) none hb hn f g = f a refl
meets-exactly_one P both neither node (some a) (some b) hb hn f g = hb

abbrev the_one : {B : Type 0} → Only B → B
the_one (first b) = b
the_one (second b) = b

module _ {A : Type 0} where
  meets-typed : (c : Kind) (name : ℕ) (n : Node A) → Meets (λ (o : Typed A). suc (sizes o.children) ≤ size n) (typed c name n)
  unfolding typed
  meets-typed c name (leaf n a) = between tt tt
  meets-typed c name (branch n d bytes ns) =
      by-test (Meets _) (eqb (kind_number d) (kind_number c)) _ _
      (λ e. by-test (Meets _) (same bytes (spelling name)) _ _ (λ e'. omega arith) (λ e'. between tt tt))
      (λ e. between tt tt)

  lookup-size : (name : ℕ) (ns : Nodes A) → size_if (lookup name ns) ≤ sizes ns
  unfolding lookup
  lookup-size name childless = lit≤ tt
  lookup-size name (ns ▹ k ∶ n) =
      by-test (λ (o : Option (Node A)). size_if o ≤ sizes ns + size n) (same k (spelling name)) (some n) (lookup name ns)
      (λ e. omega arith) (λ e. omega (arith, lookup-size name ns))

  meets-present : (name node : ℕ) (o : Option (Node A)) → Meets (λ (n : Node A). size n ≤ size_if o) (present name node o)
  unfolding present
  meets-present name node none = between tt tt
  meets-present name node (some n) = omega arith

  meets-element : (name : ℕ) (n : Node A) → Meets (λ (a : A). 1 ≤ size n) (element name n)
  unfolding element
  meets-element name (leaf n a) = lit≤ tt
  meets-element name (branch n c bytes ns) = between tt tt

  meets-elements : (name : ℕ) (ns : Nodes A) → Meets (λ (l : List A). length l ≤ sizes ns) (elements name ns)
  unfolding elements
  meets-elements name childless = lit≤ tt
  meets-elements name (ns ▹ k ∶ n) =
      meets-then _ (elements name ns) _ (meets-elements name ns)
      (λ before h. meets-then _ (element name n) _ (meets-element name n) (λ a u. simp length-append (omega arith)))

  meets-string_array : (name : ℕ) (n : Node A) → Meets (λ (l : List A). suc (length l) ≤ size n) (string_array name n)
  unfolding string_array
  meets-string_array name (leaf n a) = between tt tt
  meets-string_array name (branch n array bytes ns) = meets-weaken (elements name ns) (meets-elements name ns) (λ l h. omega arith)
  meets-string_array name (branch n object bytes ns) = between tt tt
  meets-string_array name (branch n function bytes ns) = between tt tt

  first_of-size : (n : Node A) (ns : Nodes A) → size (first_of n ns) ≤ sizes ns + size n
  unfolding first_of
  first_of-size n childless = omega arith
  first_of-size n (ns ▹ k ∶ m) = omega (arith, first_of-size m ns)

  meets-first_child : (node : ℕ) (ns : Nodes A) → Meets (λ (n : Node A). size n ≤ sizes ns) (first_child node ns)
  unfolding first_child
  meets-first_child node childless = between tt tt
  meets-first_child node (ns ▹ k ∶ n) = first_of-size n ns

  -- the nodes that a list needs, with k containers around it, and that a request part needs
  abbrev list_needs : ℕ → Option (List A) → ℕ
  list_needs k none = 0
  list_needs k (some l) = k + length l

  list_needs-suc : (k s : ℕ) (w : Option (List A)) → list_needs k w ≤ s → list_needs (suc k) w ≤ suc s
  list_needs-suc k s none h = omega arith
  list_needs-suc k s (some l) h = omega arith

  abbrev request_needs : Option (Request A) → ℕ
  request_needs none = 1
  request_needs (some r) = 3 + length r.request_headers + length r.query_parameters

  meets-headers_of : (name : ℕ) (o : Option (Node A)) → Meets (λ (w : Option (List A)). list_needs 1 w ≤ size_if o) (headers_of name o)
  unfolding headers_of
  meets-headers_of name none = lit≤ tt
  meets-headers_of name (some n) = meets-then _ (string_array name n) _ (meets-string_array name n) (λ l h. omega arith)

  meets-list_of : (name : ℕ) (o : Option (Node A)) → Meets (λ (w : Option (List A)). list_needs 2 w ≤ size_if o) (list_of name o)
  unfolding list_of
  meets-list_of name none = lit≤ tt
  meets-list_of name (some n) =
      meets-then _ (typed object _ n) _ (meets-typed object _ n)
      (λ o h. meets-weaken (headers_of name (lookup headers o.children)) (meets-headers_of name (lookup headers o.children))
      (λ w u. omega (arith, lookup-size headers o.children, list_needs-suc 1 _ w u)))

  meets-response_lists : (o : Typed A) → Meets (λ (w : Only (List A)). 2 + length (listed w) ≤ sizes o.children) (response_lists o)
  unfolding response_lists
  meets-response_lists o =
      let ns : Nodes A = o.children in
      meets-then _ (list_of certified_response_headers (lookup certified_response_headers ns)) _
      (meets-list_of certified_response_headers (lookup certified_response_headers ns)) (λ included h.
      meets-then _ (list_of response_header_exclusions (lookup response_header_exclusions ns)) _
      (meets-list_of response_header_exclusions (lookup response_header_exclusions ns)) (λ excluded k.
      meets-exactly_one _ 15 16 o.number included excluded (between tt tt) (between tt tt)
      (λ l e. omega (arith, rw e at h, lookup-size certified_response_headers ns))
      (λ l e. omega (arith, rw e at k, lookup-size response_header_exclusions ns))))

  meets-response_part : (o : Typed A) → Meets (λ (w : Only (List A)). 3 + length (listed w) ≤ size_if (lookup response_certification o.children)) (response_part o)
  unfolding response_part
  meets-response_part o =
      let found : Option (Node A) = lookup response_certification o.children in
      meets-then _ (present response_certification o.number found) _ (meets-present response_certification o.number found) (λ n h.
      meets-then _ (typed object _ n) _ (meets-typed object _ n) (λ u k.
      meets-weaken (response_lists u) (meets-response_lists u) (λ w j. omega arith)))

  meets-list_at : (name : ℕ) (o : Typed A) → Meets (λ (l : List A). suc (length l) ≤ size_if (lookup name o.children)) (list_at name o)
  unfolding list_at
  meets-list_at name o =
      meets-then _ (present name o.number (lookup name o.children)) _ (meets-present name o.number (lookup name o.children))
      (λ n h. meets-weaken (string_array name n) (meets-string_array name n) (λ l k. omega arith))

  meets-request_lists : (o : Typed A) → Meets (λ (r : Option (Request A)). request_needs r ≤ suc (sizes o.children)) (request_lists o)
  unfolding request_lists Apart spelling
  meets-request_lists o =
      meets-then _ (list_at certified_request_headers o) _ (meets-list_at certified_request_headers o) (λ hs h.
      meets-then _ (list_at certified_query_parameters o) _ (meets-list_at certified_query_parameters o) (λ qs k.
      omega (arith, different certified_request_headers certified_query_parameters response_certification refl refl refl o.children)))

  meets-request_of : (u : Only (Node A)) → Meets (λ (r : Option (Request A)). request_needs r ≤ size (the_one u)) (request_of u)
  unfolding request_of
  meets-request_of (first n) = size-positive n
  meets-request_of (second n) =
      meets-then _ (typed object _ n) _ (meets-typed object _ n) (λ o h. meets-weaken (request_lists o) (meets-request_lists o) (λ r k. omega arith))

  meets-request_part :
      (o : Typed A)
      → Meets (λ (r : Option (Request A)). request_needs r ≤ size_if (lookup no_request_certification o.children) + size_if (lookup request_certification o.children)) (request_part o)
  unfolding request_part
  meets-request_part o =
      let a : Option (Node A) = lookup no_request_certification o.children in
      let b : Option (Node A) = lookup request_certification o.children in
      meets-then {P = λ (u : Only (Node A)). size (the_one u) ≤ size_if a + size_if b} _ (exactly_one 13 14 o.number a b) _
      (meets-exactly_one _ 13 14 o.number a b (between tt tt) (between tt tt) (λ n e. rw e (omega arith)) (λ n e. rw e (omega arith)))
      (λ u h. meets-weaken (request_of u) (meets-request_of u) (λ r k. omega arith))

  -- 3 containers stand around the two parts
  shape-within : (r : Option (Request A)) (l : Only (List A)) → request_needs r + (3 + length (listed l)) + 3 ≤ max_nodes → Shape (certified r l)
  shape-within none l h = certifies none l (omega arith)
  shape-within (some r) l h = certifies (some r) l (omega arith)

  meets-certification_parts : (o : Typed A) → Meets (λ (p : Policy A). 3 + sizes o.children ≤ max_nodes → Shape p) (certification_parts o)
  unfolding certification_parts Apart spelling
  meets-certification_parts o =
      meets-then _ (request_part o) _ (meets-request_part o) (λ r h.
      meets-then _ (response_part o) _ (meets-response_part o) (λ l k within.
      shape-within r l (omega (arith, different no_request_certification request_certification response_certification refl refl refl o.children))))

  meets-certification_of : (u : Only (Node A)) → Meets (λ (p : Policy A). 2 + size (the_one u) ≤ max_nodes → Shape p) (certification_of u)
  unfolding certification_of
  meets-certification_of (first n) = λ within. skips
  meets-certification_of (second n) =
      meets-then _ (typed object _ n) _ (meets-typed object _ n)
      (λ o h. meets-weaken (certification_parts o) (meets-certification_parts o) (λ p k within. k (omega arith)))

  meets-validation_args : (o : Typed A) → Meets (λ (p : Policy A). 2 + sizes o.children ≤ max_nodes → Shape p) (validation_args o)
  unfolding validation_args
  meets-validation_args o =
      let ns : Nodes A = o.children in
      meets-then {P = λ (u : Only (Node A)). size (the_one u) ≤ sizes ns} _ (exactly_one 11 12 o.number (lookup no_certification ns) (lookup certification ns)) _
      (meets-exactly_one _ 11 12 o.number (lookup no_certification ns) (lookup certification ns) (between tt tt) (between tt tt)
      (λ n e. rw e at (lookup-size no_certification ns)) (λ n e. rw e at (lookup-size certification ns)))
      (λ u h. meets-weaken (certification_of u) (meets-certification_of u) (λ p k within. k (omega arith)))

  pub meets-mapping : (root : Node A) → Meets (λ (p : Policy A). size root ≤ max_nodes → Shape p) (mapping root)
  unfolding mapping
  meets-mapping root =
      meets-then _ (typed function _ root) _ (meets-typed function _ root) (λ f h.
      meets-then _ (first_child f.number f.children) _ (meets-first_child f.number f.children) (λ argument k.
      meets-then _ (typed object _ argument) _ (meets-typed object _ argument) (λ o j.
      meets-weaken (validation_args o) (meets-validation_args o) (λ p m within. m (omega arith)))))
