-- `place::find` meets its contract: the byte stands where `position` finds it in the part. Assumes nothing.
use Rattle.std.proofs.Common.{◌≡◌, ◌+◌, ◌-◌, min, take, drop, ap, ◌∙◌, eqb, length, rules}
use Rattle.std.proofs.lemmas.Iterator.{YieldsList-from_slice}
use Rattle.std.proofs.lemmas.Iterator.Search.{position_from_yields_List}
use Rattle.std.specs.Option.{unwrap_or}
use borrow.Author.Tests.{tests}
use Rattle.lines.specs.Bytes.{index_of}
use Rattle.lines.proofs.Parts.{position-index_of, slice-within}
use Rattle.lines.proofs.place.find.Goals as goal

pub returns-in-Some-clause-value : goal.returns-in-Some-clause-value
returns-in-Some-clause-value c =
    let b = c.args.b in
    let part = c.in-Some.part.now in
    let place = position_from_yields_List (λ x. eqb x b) _ _ c.position.result c.position.ensures.ran (YieldsList-from_slice part cc) (λ x b q k. search (rules, tests)) in
    let found : c.unwrap_or.result ≡ index_of b part = c.unwrap_or.ensures ∙ ap (λ r. unwrap_or r (length part)) place ∙ position-index_of b part in
    let text = c.args.text.now in
    let from = c.args.from in
    let bounded : part ≡ take (min c.args.to (length text) - from) (drop from text)
    = c.in-Some.ensures.lookup.0.2 ∙ ap (λ n. take (n - from) (drop from text)) c.min.ensures in
    ap (λ n. from + n) (found ∙ ap (index_of b) (bounded ∙ slice-within from c.args.to text))
