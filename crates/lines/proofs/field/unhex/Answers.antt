-- `field::unhex` meets its contract: each pair passed has given its byte, and the other bytes are as lent. Assumes nothing.
use Rattle.std.proofs.Common.{◌∙◌, refl, sym, arith}
use Rattle.lines.proofs.Fields.{no-pair, one_more}
use Rattle.lines.proofs.field.unhex.Goals as goal

pub returns-in_err-high : goal.returns-in_err-high
returns-in_err-high c =
    let r = no-pair c.as_chunks.ensures.front (omega arith) c.loop-i.invariant (sym c.in_err-high.was ∙ c.hex_value.ensures.value) refl refl (omega arith) (omega arith) in
    record { value = c.from_residual.ensures ∙ r.0; out_after = r.1; at_most = rw c.from_residual.ensures tt }

pub returns-in_err-low : goal.returns-in_err-low
returns-in_err-low c =
    let r = no-pair c.as_chunks.ensures.front (omega arith) c.loop-i.invariant (sym c.in_ok-high.was ∙ c.hex_value.ensures.value)
    (sym c.in_err-low.was ∙ c.hex_value-in-loop-i.ensures.value) refl (omega arith) (omega arith) in
    record { value = c.from_residual-in_err-low.ensures ∙ r.0; out_after = r.1; at_most = rw c.from_residual-in_err-low.ensures tt }

pub loop-i-preserved : goal.loop-i-preserved
loop-i-preserved c =
    one_more c.as_chunks.ensures.front (omega arith) c.loop-i.invariant (sym c.in_ok-high.was ∙ c.hex_value.ensures.value) (sym c.in_ok-low.was ∙ c.hex_value-in-loop-i.ensures.value)
    (omega (arith, c.loop-i.invariant.long))
