-- `scan::spaces` meets its contract: the eights passed are spaces, and so are those that the last one begins with. Assumes nothing.
use Rattle.std.proofs.Common.{subst, arith}
use Rattle.parser.specs.Run.{Spaces}
use Rattle.parser.proofs.Runs.{spaces-more, spaces-eight}
use Rattle.parser.proofs.Eights.{spaces-chunk}
use Rattle.parser.proofs.scan.spaces.Goals as goal

pub returns-then-n-lt8 : goal.returns-then-n-lt8
returns-then-n-lt8 c =
    let a = c.args in
    let l = c.loop-i in
    let e = c.spaces_of_eight-n in
    let q = c.as_chunks.ensures in
    spaces-more a.text.now l.invariant (spaces-chunk a.text.now a.at.0 _ l.i e.result c.requires q.front q.front_len c.loop-i-test.true e.ensures.0 e.ensures.1)

pub loop-i-preserved : goal.loop-i-preserved
loop-i-preserved c =
    let a = c.args in
    let l = c.loop-i in
    let e = c.spaces_of_eight-n in
    let q = c.as_chunks.ensures in
    let here = spaces-chunk a.text.now a.at.0 _ l.i e.result c.requires q.front q.front_len c.loop-i-test.true e.ensures.0 e.ensures.1 in
    subst (λ m. Spaces a.text.now a.at.0 m) (omega arith) (spaces-more a.text.now l.invariant (spaces-eight a.text.now here e.ensures.1 c.if-n-lt8.false))
