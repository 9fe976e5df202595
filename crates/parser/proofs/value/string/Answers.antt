-- `value::string` meets its contract: content, blanks and a quote are what the machine takes, and the row is put in two parts. Assumes nothing.
use Rattle.std.proofs.Common.{◌≤◌, length, sym, refl, ◌∙◌, add-one, arith}
use Rattle.cel_text.specs.Byte.{blank}
use Rattle.parser.specs.Set.{string_set}
use Rattle.parser.proofs.Runs.{end-within}
use Rattle.parser.proofs.Values.{string-refused, string-whole}
use Rattle.parser.proofs.value.string.Goals as goal

pub returns-then-peek-ne34 : goal.returns-then-peek-ne34
returns-then-peek-ne34 c =
    let a = c.args in
    let r = c.run_of-to in
    let q = c.run_of-end in
    λ o left. rw c.at.ensures (string-refused a.text.now o a.at.0 r.result.0 q.result.0 a.slot.node.0 left r.ensures q.ensures
    c.requires.at_in_bounds.0 (λ e. c.if-peek-ne34.true (c.peek.ensures ∙ e)))

pub open_row-requires : goal.open_row-requires
open_row-requires c =
    let a = c.args in
    let r = c.run_of-to in
    let h : r.result.0 ≤ length a.text.now = rw r.ensures (end-within string_set a.text.now a.at.0 c.requires.at_in_bounds.0) in
    omega arith

pub overflow_add-result : goal.overflow_add-result
overflow_add-result c =
    let a = c.args in
    let r = c.run_of-to in
    let q = c.run_of-end in
    let h : r.result.0 ≤ length a.text.now = rw r.ensures (end-within string_set a.text.now a.at.0 c.requires.at_in_bounds.0) in
    let h' : q.result.0 ≤ length a.text.now = rw q.ensures (end-within blank a.text.now r.result.0 h) in
    omega (arith, c.requires.at_in_bounds.1)

pub returns : goal.returns
returns c =
    let a = c.args in
    let r = c.run_of-to in
    let q = c.run_of-end in
    λ o left h. string-whole a.text.now o a.at.0 r.result.0 q.result.0 a.slot.node.0 left r.ensures q.ensures
    c.requires.at_in_bounds.0 _ (add-one q.result.0) (add-one a.slot.node.0) refl
    (sym c.peek.ensures ∙ c.if-peek-ne34.false) c.requires.at_in_bounds.2 h
    c.open_row.ensures c.close_row.ensures
