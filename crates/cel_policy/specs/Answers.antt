-- The answers of reading a policy, printing one and canonicalising, for every input, in the numbers of SPEC.md, and what each table and buffer holds
-- afterwards. S is the set of string bytes; the entries' own is string_byte. Assumes nothing.
use Rattle.std.specs.Prelude.{ℕ, zero, suc, ◌+◌, ◌*◌, Bool, true, false, cond, ◌&&◌, List, [], ◌∷◌, ◌++◌, length, drop, replicate, leb, ltb}
use Rattle.std.proofs.Math.Option.{Option, none, some}
use Rattle.cel_text.specs.Byte.{Text, string_byte}
use Rattle.cel_text.specs.Tree.{Tree}
use Rattle.cel_text.specs.Table.{Words, Left, rows, node_words, nodes_left, hold, hold_over}
use Rattle.cel_text.specs.Answer.{Answer, about, refused_at, Found, tree, fault, find_tree, max_text}
use Rattle.cel_policy.specs.Policy.{Span, Policy, Counted, counted, string_count, no_policy, content, strings}
use Rattle.cel_policy.specs.Mapping.{Refusal, Mapped, good, bad, node_of, mapping}
use Rattle.cel_policy.specs.Spans.{span_words, span_table, spans_left, span_at, spans_at}
use Rattle.cel_policy.specs.Printed.{printed, shaped}

-- ---- read a policy

-- what reading a policy gives: a tree and its policy; a tree and a refusal of 7 to 16; a refusal of 1 to 6 and its place
pub data FoundPolicy : Type 0 where
  policy : Tree → Policy Span → FoundPolicy
  unmapped : Tree → Refusal → FoundPolicy
  unread : (refusal place : ℕ) → FoundPolicy

-- “Reading a policy is reading the tree and then mapping it.”
abbrev pub judged : Tree → Mapped (Policy Span) → FoundPolicy
judged t (good p) = policy t p
judged t (bad r) = unmapped t r

abbrev pub map_tree : Text → Found → FoundPolicy
map_tree x (tree t q) = judged t (mapping (node_of x t 0))
map_tree x (fault r p) = unread r p

-- 1: “the node table has fewer than 2,048 words, or the span table fewer than 512”; w and v are their lengths
abbrev pub find_policy : (ℕ → Bool) → (w v : ℕ) → Text → FoundPolicy
find_policy S w v x = cond (ltb v span_words) (unread 1 0) (map_tree x (find_tree S w x))

-- the answer's six numbers and the policy's five. “A refused read answers five zeros for the policy: form none, list kind none, no strings.”
pub record PolicyAnswer : Type 0 where
  pub answer : Answer
  pub policy : Counted

abbrev pub policy_answered : FoundPolicy → PolicyAnswer
policy_answered (policy t p) = record { answer = about t 0 0 0 0; policy = counted p }
policy_answered (unmapped t r) = record { answer = about t r.refusal r.name r.kind r.node; policy = no_policy }
policy_answered (unread r p) = record { answer = refused_at r p; policy = no_policy }

-- what the lent tables hold afterwards, where `holding` says how
module _ (holding : Left → ℕ → Words → Words → Words) where
  abbrev pub nodes_held : FoundPolicy → Words → Words
  nodes_held (policy t p) lent = holding (nodes_left 0) node_words (rows t) lent
  nodes_held (unmapped t r) lent = holding (nodes_left r.refusal) node_words (rows t) lent
  nodes_held (unread r p) lent = holding (nodes_left r) node_words [] lent

  abbrev pub spans_held : FoundPolicy → Words → Words
  spans_held (policy t p) lent = holding (spans_left 0) span_words (span_table p) lent
  spans_held (unmapped t r) lent = holding (spans_left r.refusal) span_words [] lent
  spans_held (unread r p) lent = holding (spans_left r) span_words [] lent

-- reading a policy: the answer, the node table and the span table afterwards
unfoldable pub policy_answer : (w v : ℕ) → Text → PolicyAnswer
policy_answer w v x = policy_answered (find_policy string_byte w v x)

unfoldable pub policy_nodes : Text → (nodes spans : Words) → Words
policy_nodes x nodes spans = nodes_held hold (find_policy string_byte (length nodes) (length spans) x) nodes

unfoldable pub policy_spans : Text → (nodes spans : Words) → Words
policy_spans x nodes spans = spans_held hold (find_policy string_byte (length nodes) (length spans) x) spans

-- “`parser::read_over` and `ast_mapping::read_over` answer the same. Where they leave rows or spans, all other words stay as they were lent.”
unfoldable pub policy_nodes_over : Text → (nodes spans : Words) → Words
policy_nodes_over x nodes spans = nodes_held hold_over (find_policy string_byte (length nodes) (length spans) x) nodes

unfoldable pub policy_spans_over : Text → (nodes spans : Words) → Words
policy_spans_over x nodes spans = spans_held hold_over (find_policy string_byte (length nodes) (length spans) x) spans

-- ---- print a policy

-- “Anyone may have made the policy, the span table and the text that are to be printed.”
abbrev pub placed : Counted → Words → Policy Span
placed k ws =
    record {
      form = k.form;
      kind = k.kind;
      request_headers = spans_at ws k.request_headers 0;
      query_parameters = spans_at ws k.query_parameters k.request_headers;
      response_headers = spans_at ws k.response_headers (k.request_headers + k.query_parameters);
    }

-- “A span fits when both its words are in the table, its start is not after its end, and its end is not after the text's.” That of string i
unfoldable pub span_fits : Words → Text → ℕ → Bool
span_fits ws x i = ltb (suc (2 * i)) (length ws) && leb (span_at ws i).from (span_at ws i).to && leb (span_at ws i).to (length x)

-- each of a list passes a test
abbrev pub all_of : {A : Type 0} → (A → Bool) → List A → Bool
all_of test [] = true
all_of test (a ∷ more) = cond (test a) (all_of test more) false

-- not so, 22: “a string has a byte that is no string byte”
unfoldable pub bytes_fit : (ℕ → Bool) → Words → Text → ℕ → Bool
bytes_fit S ws x i = all_of S (content x (span_at ws i))

-- “`create_cel_expr::print_any` takes every byte for a string byte, so it never gives 22.”
abbrev pub any_byte : ℕ → Bool
any_byte b = true

-- “the first such string”, of n from string i on
abbrev pub first_fault : (ℕ → Bool) → (n i : ℕ) → Option ℕ
first_fault fits zero i = none
first_fault fits (suc n) i = cond (fits i) (first_fault fits n (suc i)) (some i)

-- what judging a policy gives: nothing to find fault with, or a refusal of 20 to 22 and its place
pub data Judgement : Type 0 where
  clean : Judgement
  faulty : (refusal place : ℕ) → Judgement

abbrev pub unless_faulty : (refusal : ℕ) → Option ℕ → Judgement → Judgement
unless_faulty refusal none next = next
unless_faulty refusal (some i) next = faulty refusal i

-- 20 to 22. “Each check is made of all strings before the next check begins.”
unfoldable pub judgement : (ℕ → Bool) → Counted → Words → Text → Judgement
judgement S k ws x =
    cond (shaped k)
    (unless_faulty 21 (first_fault (span_fits ws x) (string_count k) 0) (unless_faulty 22 (first_fault (bytes_fit S ws x) (string_count k) 0) clean))
    (faulty 20 0)

-- what printing gives: the text to be written, or a refusal of 20 to 24 and its place
pub data Printing : Type 0 where
  written : Text → Printing
  unprinted : (refusal place : ℕ) → Printing

-- 23: “the printed text has more than 8,192 bytes”; 24: “the output is shorter than the printed text”; r is the output's length
unfoldable pub sized : Text → (r : ℕ) → Printing
sized t r = cond (ltb max_text (length t)) (unprinted 23 0) (cond (ltb r (length t)) (unprinted 24 0) (written t))

abbrev pub unless_judged : Judgement → Printing → Printing
unless_judged clean next = next
unless_judged (faulty r p) next = unprinted r p

-- the judging, then the sizes
unfoldable pub find_print : (ℕ → Bool) → Counted → Words → Text → (r : ℕ) → Printing
find_print S k ws x r = unless_judged (judgement S k ws x) (sized (printed (strings x (placed k ws))) r)

-- “An answer begins with four numbers: refusal, name, kind and place.” “Printing answers the printed length instead, or 0 for a refusal.”
pub record PrintAnswer : Type 0 where
  pub refusal : ℕ
  pub name : ℕ
  pub kind : ℕ
  pub place : ℕ
  pub length : ℕ

abbrev pub print_answered : Printing → PrintAnswer
print_answered (written t) = record { refusal = 0; name = 0; kind = 0; place = 0; length = length t }
print_answered (unprinted r p) = record { refusal = r; name = 0; kind = 0; place = p; length = 0 }

-- “After a refusal the output is as it was lent. Otherwise the printed text stands at its front, and every byte after it is as it was lent.”
abbrev pub output : Printing → Text → Text
output (written t) lent = t ++ drop (length t) lent
output (unprinted r p) lent = lent

-- printing a policy: the answer, and the output afterwards
unfoldable pub print_answer : (ℕ → Bool) → Counted → Words → Text → (r : ℕ) → PrintAnswer
print_answer S k ws x r = print_answered (find_print S k ws x r)

unfoldable pub print_output : (ℕ → Bool) → Counted → Words → Text → Text → Text
print_output S k ws x out = output (find_print S k ws x (length out)) out

-- ---- canonicalise

-- “Canonicalising is reading a policy, with tables of its own, and then printing it.” What was read is printed from the span table that the read left
abbrev pub reprinted : (ℕ → Bool) → FoundPolicy → Text → (r : ℕ) → Printing
reprinted S (policy t p) x r = find_print S (counted p) (spans_held hold (policy t p) (replicate span_words 0)) x r
reprinted S (unmapped t f) x r = unprinted f.refusal 0
reprinted S (unread f p) x r = unprinted f 0

unfoldable pub find_canonical : (ℕ → Bool) → Text → (r : ℕ) → Printing
find_canonical S x r = reprinted S (find_policy S node_words span_words x) x r

-- “It answers the printed text's length, or the refusal's number plus 65,536.”
abbrev pub refusal_base : ℕ
refusal_base = 65536

abbrev pub one_number : Printing → ℕ
one_number (written t) = length t
one_number (unprinted r p) = refusal_base + r

-- canonicalising: the number, and the output afterwards
unfoldable pub canonical_answer : Text → (r : ℕ) → ℕ
canonical_answer x r = one_number (find_canonical string_byte x r)

unfoldable pub canonical_output : Text → Text → Text
canonical_output x out = output (find_canonical string_byte x (length out)) out
