-- `value::label` meets its contract: an identifier and a colon are what the machine takes where an entry is due. Assumes nothing.
use Rattle.std.proofs.Common.{sym, refl, ◌∙◌, add-one, arith}
use Rattle.parser.proofs.Values.{name-bounds}
use Rattle.parser.proofs.Lists.{key-colon, no-colon}
use Rattle.parser.proofs.value.label.Goals as goal

pub returns-then-peek-ne58 : goal.returns-then-peek-ne58
returns-then-peek-ne58 c =
    λ n left. rw (c.in-Object.is, c.at.ensures) (no-colon c.trimmed_ident.ensures c.requires n left (λ e. c.if-peek-ne58.true (c.peek.ensures ∙ e)))

pub overflow_add-result : goal.overflow_add-result
overflow_add-result c =
    omega (arith, (name-bounds c.args.text.now c.trimmed_ident.ensures c.requires).within)

pub returns : goal.returns
returns c =
    let n = c.trimmed_ident in
    rw c.in-Object.is (key-colon n.ensures c.requires _ refl refl (add-one n.result.end.0) (sym c.peek.ensures ∙ c.if-peek-ne58.false))
