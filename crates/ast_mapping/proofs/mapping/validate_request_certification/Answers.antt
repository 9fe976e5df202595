-- `mapping::validate_request_certification` meets its contract: one of two keys, then what stands there. Assumes nothing.
use mathlib.Core.Path.{refl}
use mathlib.Core.Option.{some}
use Rattle.cel_text.specs.Table.{Words}
use Rattle.cel_policy.specs.Mapping.{request_part, request_of}
use Rattle.ast_mapping.specs.declared.mapping.Request.{Request as Asked}
use Rattle.ast_mapping.specs.declared.mapping.Only.TheVariants.{First, Second}
use Rattle.ast_mapping.specs.Steps.{request_as, RequestIn}
use Rattle.ast_mapping.proofs.Parts.{stops, halts, goes_on, picked, moved}
use Rattle.ast_mapping.proofs.mapping.validate_request_certification.Goals as goal

pub returns-in_err-only : goal.returns-in_err-only
unfolding request_part
returns-in_err-only c = stops _ (picked c.args.certification.now 13 14 c.lookup.ensures c.lookup-2.ensures c.in_err-only.ensures) c.from_residual.ensures.1

pub returns-in-First : goal.returns-in-First
unfolding request_part request_of
returns-in-First c =
    goes_on _ {a = First c.in-First.field-0} (picked c.args.certification.now 13 14 c.lookup.ensures c.lookup-2.ensures (rw c.in-First.is at c.in_ok-only.ensures))
    (record { is = refl; inside = tt })

pub returns-in_err-request_lists-in-Second : goal.returns-in_err-request_lists-in-Second
unfolding request_part request_of
returns-in_err-request_lists-in-Second c =
    goes_on _ {a = Second c.in-Second.request} (picked c.args.certification.now 13 14 c.lookup.ensures c.lookup-2.ensures (rw c.in-Second.is at c.in_ok-only.ensures))
    (halts c.in_err-request_lists-in-Second.ensures c.from_residual-in_err-request_lists-in-Second.ensures.1)

pub returns-in_ok-request_lists-in-Second : goal.returns-in_ok-request_lists-in-Second
unfolding request_part request_of
returns-in_ok-request_lists-in-Second c =
    let only = picked c.args.certification.now 13 14 c.lookup.ensures c.lookup-2.ensures (rw c.in-Second.is at c.in_ok-only.ensures) in
    let lists = moved (λ (w : Words) (q : Asked). some (request_as w q)) RequestIn only.inside c.in_ok-request_lists-in-Second.ensures in
    goes_on _ {a = Second c.in-Second.request} only (record { is = lists.is; inside = lists.inside })
