-- `scan::is_ident` meets its contract: a letter, a digit, or the one byte more. Assumes nothing.
use Rattle.std.proofs.Common.{sym, ◌∙◌}
use Rattle.parser.proofs.Classes.{ident-tests}
use Rattle.parser.proofs.scan.is_ident.Goals as goal

pub returns-then-is_letter : goal.returns-then-is_letter
returns-then-is_letter c = sym (ident-tests c.args.b ∙ rw (sym c.is_letter.ensures ∙ c.if-is_letter.true))

pub returns-then-is_digit : goal.returns-then-is_digit
returns-then-is_digit c =
    sym (ident-tests c.args.b ∙ rw
    (sym c.is_letter.ensures ∙ c.if-is_letter.false, sym c.is_digit.ensures ∙ c.if-is_digit.true))

pub returns : goal.returns
returns c =
    sym (ident-tests c.args.b ∙ rw
    (sym c.is_letter.ensures ∙ c.if-is_letter.false, sym c.is_digit.ensures ∙ c.if-is_digit.false))
