-- `value::opening` meets its contract: the name, and what the byte after it opens. Assumes nothing.
use Rattle.std.proofs.Common.{sym, ◌∙◌}
use Rattle.parser.proofs.Values.{headed, unopened}
use Rattle.parser.proofs.value.opening.Goals as goal

pub returns-in_default : goal.returns-in_default
returns-in_default c =
    rw c.at.ensures (unopened c.args.text.now c.trimmed_ident.ensures c.requires (sym c.in_default.is ∙ c.opener_kind.ensures ∙ rw c.peek.ensures))

pub returns : goal.returns
returns c =
    headed c.args.text.now c.trimmed_ident.ensures c.requires c.in-Some.opener _ _
    (sym c.in-Some.is ∙ c.opener_kind.ensures ∙ rw c.peek.ensures) c.shown.ensures c.shown-2.ensures
