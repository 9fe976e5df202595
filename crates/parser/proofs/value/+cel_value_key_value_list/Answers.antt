-- `cel_value`, `key_value` and `list` meet their contracts: the opener, the key, the comma and the closer that the code finds are what the machine
-- does there, and a child's reading goes into its list's. Assumes nothing.
use Rattle.std.proofs.Common.{◌≡◌, suc, ◌-◌, ◌≤◌, Ok, Err, length, sym, refl, ◌∙◌, add-one, arith, rules}
use Rattle.cel_text.specs.Byte.{blank}
use Rattle.parser.specs.Kinds.{kind_told}
use Rattle.parser.specs.Steps.{Entered}
use Rattle.parser.proofs.Runs.{end_later, end-within}
use Rattle.parser.proofs.Lists.{first-child, empty-list, child-read, comma-read, list-closed, neither-refused}
use Rattle.parser.proofs.Handed.{string-up, list_up, list-from, end-again, child-up, whole_by}
use Rattle.parser.proofs.value.+cel_value_key_value_list.Goals as goal

pub cel_value-returns-in-Quote : goal.cel_value-returns-in-Quote
cel_value-returns-in-Quote t c =
    string-up c.args.slot c.in_ok-head.ensures c.args.left c.in_ok-inner.ensures c.args.table.now c.string.new.table c.in-Quote.is c.string.result c.string.ensures

-- the depth that is left falls here
pub cel_value-list-requires : goal.cel_value-list-requires
cel_value-list-requires t c = search rules

pub cel_value-returns-in-Container : goal.cel_value-returns-in-Container
cel_value-returns-in-Container t c =
    let a = c.args in
    let k = c.in-Container in
    let e : Entered c.in_ok-head.head.opener c.in_ok-head.head.at.0 a.slot.node.0 a.left c.in_ok-inner.inner.0 = c.in_ok-inner.ensures in
    let h : a.left ≡ suc (a.left - 1) = omega (arith, e.deeper k.kind k.is) in
    list_up a.slot c.in_ok-head.ensures a.left e a.table.now c.open_row.new.table c.list.new.table (a.left - 1) k.kind k.is h
    (rw c.number.ensures at c.open_row.ensures) c.list.result c.list.ensures

pub list-returns-then-peek-close : goal.list-returns-then-peek-close
list-returns-then-peek-close t c =
    let r = c.run_of-from in
    empty-list r.ensures c.requires.inside c.requires.few _ (add-one r.result.0) (add-one c.args.node.0) refl
    (sym c.peek.ensures ∙ c.if-peek-close.true ∙ c.closer-close.ensures) c.close_row.ensures

pub list-loop-read-init : goal.list-loop-read-init
list-loop-read-init t c =
    let a = c.args in
    let r = c.run_of-from in
    let first : r.result.0 ≤ length a.text.now = rw r.ensures (end-within blank a.text.now a.at.0 c.requires.inside) in
    first-child (end-again a.text.now a.at.0 r.result.0 r.ensures) first c.requires.few
    (λ e. c.if-peek-close.false (c.peek.ensures ∙ e ∙ sym c.closer-close.ensures))

pub list-returns-in_default : goal.list-returns-in_default
list-returns-in_default t c =
    let a = c.args in
    let r = c.run_of-from in
    let v = c.key_value-step in
    list-from a.text.now a.table.now v.new.table a.at.0 r.result.0 a.node.0 (kind_told a.kind) a.left r.ensures (rw r.ensures (end_later blank a.text.now a.at.0)) v.result
    (child-up c.loop-read.invariant v.new.table c.under-parent.result.0 v.new.table c.in_default.is v.ensures)

pub list-returns-then-b-close : goal.list-returns-then-b-close
list-returns-then-b-close t c =
    let a = c.args in
    let f = c.run_of-from in
    let v = c.key_value-step in
    let l = c.loop-read.invariant in
    let r = c.run_of-stop in
    list-from a.text.now a.table.now c.close_row-then-b-close.new.table a.at.0 f.result.0 a.node.0 (kind_told a.kind) a.left f.ensures
    (rw f.ensures (end_later blank a.text.now a.at.0)) (Ok _)
    (list-closed
    (child-read l c.under-parent.ensures c.max-depth.ensures (whole_by l v.new.table c.under-parent.result.0 c.in-Ok.is v.ensures))
    r.result.0 r.ensures _ (add-one r.result.0) refl refl
    (sym c.peek-b.ensures ∙ c.if-b-close.true ∙ c.closer-close.ensures) c.close_row-then-b-close.ensures)

pub list-returns-then-b-ne44 : goal.list-returns-then-b-ne44
list-returns-then-b-ne44 t c =
    let a = c.args in
    let f = c.run_of-from in
    let v = c.key_value-step in
    let l = c.loop-read.invariant in
    let r = c.run_of-stop in
    list-from a.text.now a.table.now v.new.table a.at.0 f.result.0 a.node.0 (kind_told a.kind) a.left f.ensures
    (rw f.ensures (end_later blank a.text.now a.at.0)) (Err c.at.result)
    (rw c.at.ensures (neither-refused
    (child-read l c.under-parent.ensures c.max-depth.ensures (whole_by l v.new.table c.under-parent.result.0 c.in-Ok.is v.ensures))
    r.result.0 r.ensures (λ e. c.if-b-close.false (c.peek-b.ensures ∙ e ∙ sym c.closer-close.ensures)) (λ e. c.if-b-ne44.true (c.peek-b.ensures ∙ e))))

pub list-loop-read-preserved : goal.list-loop-read-preserved
list-loop-read-preserved t c =
    let a = c.args in
    let v = c.key_value-step in
    let l = c.loop-read.invariant in
    let r = c.run_of-stop in
    comma-read
    (child-read l c.under-parent.ensures c.max-depth.ensures (whole_by l v.new.table c.under-parent.result.0 c.in-Ok.is v.ensures))
    r.result.0 r.ensures (sym c.peek-b.ensures ∙ c.if-b-ne44.false)
