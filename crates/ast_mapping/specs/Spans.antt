-- What is written to the span table, and the answer that goes with it. Assumes nothing.
use Rattle.std.specs.Prelude.{◌≡◌, ℕ, ◌+◌, ◌*◌, ◌≤◌, List, [], length}
use Rattle.std.proofs.lemmas.List.Edits.{sets}
use Rattle.cel_text.specs.Byte.{Text}
use Rattle.cel_text.specs.Reading.{max_nodes}
use Rattle.cel_text.specs.Table.{Words, Left, untouched, cleared, filled}
use Rattle.cel_text.specs.Answer.{Answer}
use Rattle.cel_policy.specs.Policy.{Span, Policy, Counted, counted, no_policy, all_strings, numbers}
use Rattle.cel_policy.specs.Mapping.{Refusal, Mapped, good, bad, mapping}
use Rattle.cel_policy.specs.Spans.{span_rows, span_words}
use Rattle.cel_policy.specs.Answers.{PolicyAnswer}
use Rattle.cel_policy.specs.declared.Policy.{Policy as Numbers}
use Rattle.parser.specs.Found.{told}
use Rattle.parser.specs.declared.Answer.{Answer as Tree-answer}
use Rattle.ast_mapping.specs.declared.PolicyAnswer.{PolicyAnswer as Told-answer}
use Rattle.ast_mapping.specs.View.{strings_of, node_at}

-- the struct that the program answers, in the numbers of SPEC.md
abbrev pub policy_told : Told-answer → PolicyAnswer
policy_told r = record { answer = told r.answer; policy = numbers r.policy }

-- ---- strings put into the table

-- the strings of the list n were written to the table s, the first as string `from`, the one after them as string `to`
pub record PutList (w : Words) (n : ℕ) (s s' : Words) (from to : ℕ) : Type 0 where
  pub rows : s' ≡ sets s (2 * from) (span_rows (strings_of w n))
  pub count : to ≡ from + length (strings_of w n)

-- what a mapping's outcome has: strings, and the policy's numbers
abbrev pub strings_in : Mapped (Policy Span) → List Span
strings_in (good p) = all_strings p
strings_in (bad r) = []

abbrev pub counts_in : Mapped (Policy Span) → Counted
counts_in (good p) = counted p
counts_in (bad r) = no_policy

-- so many that the table has room for them
abbrev pub few : Words → List Span → Type 0
few s l = (2 * length l ≤ length s) × (length l ≤ max_nodes)

-- the strings of a policy were written to the table s, and r has its numbers
pub record Put (p : Policy Span) (s s' : Words) (r : Numbers) : Type 0 where
  pub rows : s' ≡ sets s 0 (span_rows (all_strings p))
  pub counts : numbers r ≡ counted p

-- the first of the counted words that is to be set to 0 after a read: after the strings of a policy that is `end`
abbrev pub spare_from : Left → (end : ℕ) → ℕ
spare_from untouched end = span_words
spare_from cleared end = 0
spare_from filled end = end

-- ---- the answer

-- a refusal of the mapping, with the numbers of the tree
abbrev pub refused_in : Answer → Refusal → Answer
refused_in a r = record { refusal = r.refusal; name = r.name; kind = r.kind; place = r.node; nodes = a.nodes; depth = a.depth }

-- the answer of a tree with this outcome
abbrev pub settled_answer : Answer → Mapped (Policy Span) → Answer
settled_answer a (good p) = a
settled_answer a (bad r) = refused_in a r

pub record Settled (m : Mapped (Policy Span)) (tree : Tree-answer) (s s' : Words) (r : Told-answer) : Type 0 where
  pub answer : policy_told r ≡ record { answer = settled_answer (told tree) m; policy = counts_in m }
  pub rows : s' ≡ sets s 0 (span_rows (strings_in m))

-- a tree is mapped; where there is none its refusal is the answer, and no string is written
pub record TreeMapped (x : Text) (tree : Tree-answer) (nodes s s' : Words) (r : Told-answer) : Type 0 where
  pub accepted : tree.refusal ≡ 0 → Settled (mapping (node_at nodes x 0)) tree s s' r
  pub refused : (tree.refusal ≡ 0 → ⊥) → (policy_told r ≡ record { answer = told tree; policy = no_policy }) × (s' ≡ s)
