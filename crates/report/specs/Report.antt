-- The report on a text, whole: the policy in words, or the refusal and the place that it is about. Assumes nothing.
use Rattle.std.specs.Prelude.{cond, replicate, eqb}
use Rattle.cel_text.specs.Byte.{Text}
use Rattle.cel_text.specs.Table.{Words, node_words}
use Rattle.cel_policy.specs.Spans.{span_words}
use Rattle.cel_policy.specs.Answers.{PolicyAnswer, policy_answer, policy_nodes, policy_spans}
use Rattle.report.specs.Policy.{policy_text}
use Rattle.report.specs.Refusal.{refusal_text}

-- the report on an answer and the tables that were left
unfoldable pub answer_text : Text → (nodes spans : Words) → PolicyAnswer → Text
answer_text x nodes spans a =
    cond (eqb a.answer.refusal 0) (policy_text x spans a.answer a.policy) (refusal_text x nodes a.answer)

-- tables of zeros are lent
abbrev pub nodes_lent : Words
nodes_lent = replicate node_words 0

abbrev pub spans_lent : Words
spans_lent = replicate span_words 0

unfoldable pub reported : Text → Text
reported x = answer_text x (policy_nodes x nodes_lent spans_lent) (policy_spans x nodes_lent spans_lent) (policy_answer node_words span_words x)
