-- Which refusals each entry gives, and how many nodes and what depth a read answers at most. Assumes nothing.
use Rattle.std.specs.Prelude.{◌≡◌, refl, ◌⊎◌, ℕ, ◌+◌, ◌≤◌, ◌<◌, Bool, length, ltb}
use Rattle.std.proofs.Common.{subst, inl, inr, ⊎_elim, arith, lit≤, ltb-true, ltb-false}
use Rattle.std.proofs.Math.Option.{Option, none, some}
use Rattle.cel_text.specs.Byte.{Text, ascii, lead, string_byte}
use Rattle.cel_text.specs.Tree.{Tree, nodes, depth}
use Rattle.cel_text.specs.Table.{Words, node_words}
use Rattle.cel_text.specs.Reading.{Fault, accepted, read, limits, max_depth, max_nodes}
use Rattle.cel_text.specs.Answer.{max_text, fault_number, Found, tree, fault, find_tree, answered, tree_answer}
use Rattle.cel_text.proofs.Laws.Class.{by-test}
use Rattle.cel_text.proofs.Laws.Find.{FindsTree, too_short, too_long, not_ascii, broken, whole, finds, answer-within}
pub use Rattle.cel_text.proofs.Laws.Find.{fault_number-range}
use Rattle.cel_policy.specs.Policy.{Span, Policy, Counted, string_count, strings}
use Rattle.cel_policy.specs.Mapping.{Node, Refusal, Mapped, good, bad, node_of, mapping}
use Rattle.cel_policy.specs.Spans.{span_words}
use Rattle.cel_policy.specs.Printed.{printed, shaped}
use Rattle.cel_policy.specs.Answers.{canonical_answer, one_number, refusal_base, placed, span_fits, bytes_fit, first_fault, find_canonical, reprinted, FoundPolicy, policy, unmapped, unread, judged}
use Rattle.cel_policy.specs.Answers.{map_tree, find_policy, policy_answered, policy_answer, Printing, written, unprinted, unless_faulty, sized, find_print, print_answered, print_answer, Judgement}
use Rattle.cel_policy.specs.Answers.{clean, faulty, judgement, unless_judged}
use Rattle.cel_policy.proofs.Laws.Counts.{between, OfMapping, meets-mapping}
use Rattle.cel_policy.proofs.Laws.Readable.{Readable, readable}
use Rattle.cel_policy.proofs.Laws.SpanTable.{print-read}

-- ---- what holds in each case holds of what is found

module _
    (S : ℕ → Bool)
    (w v : ℕ)
    (x : Text)
    (P : FoundPolicy → Type 0)
    (one : (v < span_words) ⊎ (w < node_words) → P (unread 1 0))
    (two : P (unread 2 max_text))
    (three : (p : ℕ) → P (unread 3 p))
    (faulty : (f : Fault) (p : ℕ) → P (unread (fault_number f) p))
    (badly : (t : Tree) (r : Refusal) → mapping (node_of x t 0) ≡ bad r → P (unmapped t r))
    (well : (t : Tree) (q : ℕ) (p : Policy Span) → read S limits x ≡ accepted t q → mapping (node_of x t 0) ≡ good p → P (policy t p))
  where
    judged-cases : (t : Tree) (q : ℕ) → read S limits x ≡ accepted t q → (m : Mapped (Policy Span)) → mapping (node_of x t 0) ≡ m → P (judged t m)
    judged-cases t q e (good p) f = well t q p e f
    judged-cases t q e (bad r) f = badly t r f

    found-cases : {f : Found} → FindsTree S w x f → P (map_tree x f)
    found-cases (too_short h) = one (inr h)
    found-cases (too_long h l) = two
    found-cases (not_ascii h l a) = three (lead ascii x)
    found-cases (broken {f = f} {p = p} h e) = faulty f p
    found-cases (whole {t = t} {q = q} h e) = judged-cases t q e (mapping (node_of x t 0)) refl

    pub find_policy-cases : P (find_policy S w v x)
    find_policy-cases = by-test P (ltb v span_words) _ _ (λ a. one (inl (ltb-true v span_words a))) (λ a. found-cases (finds S w x))

-- a policy that is found was read, so it is printable but for its length
pub found-readable : (S : ℕ → Bool) (w v : ℕ) (x : Text) (t : Tree) (p : Policy Span) → find_policy S w v x ≡ policy t p → Readable S x p
found-readable S w v x t p =
    find_policy-cases S w v x IfPolicy (λ a. refused) refused (λ n. refused) (λ f n. refused) (λ u r m e. let z : ◌≡◌ {A = ℕ} 0 1 = cc in absurd (omega arith))
    (λ u q p' e m same. let places : p' ≡ p = cc in subst (Readable S x) places (readable S x u q p' e m))
  where
    IfPolicy : FoundPolicy → Type 0
    IfPolicy f = f ≡ policy t p → Readable S x p

    refused : {r n : ℕ} → unread r n ≡ policy t p → Readable S x p
    refused e = let z : ◌≡◌ {A = ℕ} 0 1 = cc in absurd (omega arith)

sized-cases : (P : Printing → Type 0) (t : Text) (r : ℕ) → P (unprinted 23 0) → P (unprinted 24 0) → (length t ≤ max_text → P (written t)) → P (sized t r)
unfolding sized
sized-cases P t r a b c =
    by-test P (ltb max_text (length t)) _ _ (λ e. a) (λ e. by-test P (ltb r (length t)) _ _ (λ f. b) (λ f. c (ltb-false max_text (length t) e)))

-- ---- the refusals

pub refusal-range : (n : Node Span) (r : Refusal) → mapping n ≡ bad r → OfMapping r.refusal
refusal-range n r e = rw e at (meets-mapping n)

-- read a tree
pub tree-refusals : (w : ℕ) (x : Text) → (tree_answer w x).refusal ≤ 6
unfolding tree_answer
tree-refusals w x = by (finds string_byte w x)
  where
    by : {f : Found} → FindsTree string_byte w x f → (answered f).refusal ≤ 6
    by (too_short h) = lit≤ tt
    by (too_long h l) = lit≤ tt
    by (not_ascii h l a) = lit≤ tt
    by (broken {f = f} h e) = (fault_number-range f).1
    by (whole h e) = lit≤ tt

-- read a policy
pub policy-refusals : (w v : ℕ) (x : Text) → (policy_answer w v x).answer.refusal ≤ 16
unfolding policy_answer
policy-refusals w v x =
    find_policy-cases string_byte w v x (λ (f : FoundPolicy). (policy_answered f).answer.refusal ≤ 16) (λ a. lit≤ tt) (lit≤ tt) (λ p. lit≤ tt)
    (λ f p. omega (arith, fault_number-range f)) (λ t r e. (refusal-range (node_of x t 0) r e).1) (λ t q p e f. lit≤ tt)

-- print: 20 to 24. A text that is written is no longer than 8,192 bytes, a refusal is a P
abbrev pub Gives : (ℕ → Type 0) → Printing → Type 0
Gives P (written t) = length t ≤ max_text
Gives P (unprinted r p) = P r

abbrev pub OfPrint : ℕ → Type 0
OfPrint n = (20 ≤ n) × (n ≤ 24)

-- judging: 20 to 22
abbrev Finds : (ℕ → Type 0) → Judgement → Type 0
Finds P clean = Unit {0}
Finds P (faulty r p) = P r

unless-finds : (P : ℕ → Type 0) (r : ℕ) (o : Option ℕ) (next : Judgement) → P r → Finds P next → Finds P (unless_faulty r o next)
unless-finds P r none next h k = k
unless-finds P r (some i) next h k = h

judgement-finds : (S : ℕ → Bool) (k : Counted) (ws : Words) (x : Text) → Finds OfPrint (judgement S k ws x)
unfolding judgement
judgement-finds S k ws x =
    by-test (Finds OfPrint) (shaped k) _ _
    (λ e. unless-finds OfPrint 21 (first_fault (span_fits ws x) (string_count k) 0) _ (between tt tt)
    (unless-finds OfPrint 22 (first_fault (bytes_fit S ws x) (string_count k) 0) _ (between tt tt) tt))
    (λ e. between tt tt)

judged-gives : (P : ℕ → Type 0) (j : Judgement) (next : Printing) → Finds P j → Gives P next → Gives P (unless_judged j next)
judged-gives P clean next h k = k
judged-gives P (faulty r p) next h k = h

pub print-gives : (S : ℕ → Bool) (k : Counted) (ws : Words) (x : Text) (r : ℕ) → Gives OfPrint (find_print S k ws x r)
unfolding find_print
print-gives S k ws x r =
    judged-gives OfPrint (judgement S k ws x) _ (judgement-finds S k ws x)
    (sized-cases (Gives OfPrint) (printed (strings x (placed k ws))) r (between tt tt) (between tt tt) (λ h. h))

-- canonicalise: 1, 20, 21 and 22 are not among them
abbrev pub OfCanonical : ℕ → Type 0
OfCanonical n = ((2 ≤ n) × (n ≤ 16)) ⊎ ((23 ≤ n) × (n ≤ 24))

pub canonical-gives : (S : ℕ → Bool) (x : Text) (r : ℕ) → Gives OfCanonical (find_canonical S x r)
unfolding find_canonical
canonical-gives S x r =
    find_policy-cases S node_words span_words x (λ (f : FoundPolicy). Gives OfCanonical (reprinted S f x r))
    (λ a. absurd (⊎_elim (λ h. omega arith) (λ h. omega arith) a)) (inl (between tt tt)) (λ p. inl (between tt tt))
    (λ f p. inl (omega (arith, fault_number-range f)))
    (λ t n e. inl (omega (arith, refusal-range (node_of x t 0) n e)))
    (λ t q p e m. rw (print-read S x p (readable S x t q p e m) _ r)
    (sized-cases (Gives OfCanonical) (printed (strings x p)) r (inr (between tt tt)) (inr (between tt tt)) (λ h. h)))

-- a canonicaliser's number is a length of at most 8,192, or 65,536 and one of its refusals
pub canonical-numbers : (x : Text) (r n : ℕ) → canonical_answer x r ≡ refusal_base + n → OfCanonical n
unfolding canonical_answer
canonical-numbers x r n = at (find_canonical string_byte x r) (canonical-gives string_byte x r)
  where
    at : (w : Printing) → Gives OfCanonical w → one_number w ≡ refusal_base + n → OfCanonical n
    at (written t) h e = absurd (omega arith)
    at (unprinted m p) h e = subst OfCanonical (omega arith) h

print-numbers : (S : ℕ → Bool) (k : Counted) (ws : Words) (x : Text) (r n : ℕ) → 0 < n → (print_answer S k ws x r).refusal ≡ n → OfPrint n
unfolding print_answer
print-numbers S k ws x r n l = at (find_print S k ws x r) (print-gives S k ws x r)
  where
    at : (w : Printing) → Gives OfPrint w → (print_answered w).refusal ≡ n → OfPrint n
    at (written t) h e = absurd (omega arith)
    at (unprinted m p) h e = subst OfPrint e h

-- a number that canonicalise never gives, added to 65,536
pub canonical-never : (x : Text) (r n : ℕ) → (OfCanonical n → ⊥) → canonical_answer x r ≡ refusal_base + n → ⊥
canonical-never x r n h e = h (canonical-numbers x r n e)

-- it never answers 1, 20, 21 or 22
pub canonical-never-1 : (x : Text) (r : ℕ) → canonical_answer x r ≡ refusal_base + 1 → ⊥
canonical-never-1 x r = canonical-never x r 1 (λ h. ⊎_elim (λ a. omega arith) (λ a. omega arith) h)

pub canonical-never-20-to-22 : (x : Text) (r n : ℕ) → 20 ≤ n → n ≤ 22 → canonical_answer x r ≡ refusal_base + n → ⊥
canonical-never-20-to-22 x r n low high = canonical-never x r n (λ h. ⊎_elim (λ a. omega arith) (λ a. omega arith) h)

-- a refusal that no entry gives
pub record Unseen (n : ℕ) : Type 0 where
  pub read_tree : (w : ℕ) (x : Text) → (tree_answer w x).refusal ≡ n → ⊥
  pub read_policy : (w v : ℕ) (x : Text) → (policy_answer w v x).answer.refusal ≡ n → ⊥
  pub print : (S : ℕ → Bool) (k : Counted) (ws : Words) (x : Text) (r : ℕ) → (print_answer S k ws x r).refusal ≡ n → ⊥
  pub canonicalise : (x : Text) (r : ℕ) → canonical_answer x r ≡ refusal_base + n → ⊥

pub unseen-17-18 : (n : ℕ) → 17 ≤ n → n ≤ 18 → Unseen n
unseen-17-18 n low high =
    record {
      read_tree = λ w x e. omega (arith, tree-refusals w x);
      read_policy = λ w v x e. omega (arith, policy-refusals w v x);
      print = λ S k ws x r e. let h = print-numbers S k ws x r n (omega arith) e in omega arith;
      canonicalise = λ x r. canonical-never x r n (λ h. ⊎_elim (λ a. omega arith) (λ a. omega arith) h);
    }

-- ---- nodes and depth

judged-sizes : (t : Tree) (m : Mapped (Policy Span)) → ((policy_answered (judged t m)).answer.nodes ≡ nodes t) × ((policy_answered (judged t m)).answer.depth ≡ depth t)
judged-sizes t (good p) = (refl, refl)
judged-sizes t (bad r) = (refl, refl)

-- they are those of the tree, whether or not it is mapped
sizes-found : (x : Text) (f : Found) → ((policy_answered (map_tree x f)).answer.nodes ≡ (answered f).nodes) × ((policy_answered (map_tree x f)).answer.depth ≡ (answered f).depth)
sizes-found x (tree t q) = judged-sizes t (mapping (node_of x t 0))
sizes-found x (fault r p) = (refl, refl)

-- every answer is within the limits
pub policy-within : (w v : ℕ) (x : Text) → ((policy_answer w v x).answer.nodes ≤ max_nodes) × ((policy_answer w v x).answer.depth ≤ max_depth)
unfolding policy_answer tree_answer
policy-within w v x =
    by-test (λ (f : FoundPolicy). ((policy_answered f).answer.nodes ≤ max_nodes) × ((policy_answered f).answer.depth ≤ max_depth)) (ltb v span_words) _ _
    (λ a. omega arith) (λ a. omega (arith, answer-within w x, sizes-found x (find_tree string_byte w x)))
