-- What the caller gives and gets, in the terms of `cel_policy`. Assumes nothing.
use Rattle.std.specs.Prelude.{◌≡◌, ℕ, List, map}
use Rattle.cel_text.specs.Byte.{Text}
use Rattle.cel_text.specs.Table.{Words}
use Rattle.cel_policy.specs.Policy
use Rattle.cel_policy.specs.Policy.{string_count, content, strings, numbers}
use Rattle.cel_policy.specs.Spans.{span_at, spans_at}
use Rattle.cel_policy.specs.Answers.{PrintAnswer, placed}
use Rattle.cel_policy.specs.declared.Policy.{Policy}
use Rattle.create_cel_expr.specs.declared.Printed.{Printed}
use Rattle.create_cel_expr.specs.declared.checked.Checked.{Checked}

abbrev pub print_told : Printed → PrintAnswer
print_told r = record { refusal = r.refusal; name = r.name; kind = r.kind; place = r.place; length = r.length }

-- that policy, text and span table
abbrev pub IsOf : Policy → Text → Words → Checked → Type 0
IsOf p x ws c = (c.policy ≡ p) × (c.text.now ≡ x) × (c.spans.now ≡ ws)

abbrev pub count_of : Checked → ℕ
count_of c = string_count (numbers c.policy)

abbrev pub string_of : Checked → ℕ → Text
string_of c i = content c.text.now (span_at c.spans.now i)

-- n strings from string i on
abbrev pub strings_of : Checked → (n i : ℕ) → List Text
strings_of c n i = map (content c.text.now) (spans_at c.spans.now n i)

-- the policy with its strings' bytes
abbrev pub policy_of : Checked → Policy.Policy Text
policy_of c = strings c.text.now (placed (numbers c.policy) c.spans.now)

-- how many numbers a word of a table can be
abbrev pub word_size : ℕ
word_size = 4294967296
