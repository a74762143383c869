-- With full lists what stands before the stop is taken, else all. Assumes nothing.
use borrow.Author.Tests.{not-true, not-false}
use Rattle.batch.proofs.StopLaws.{takes_all, takes_none, takes_some}
use Rattle.batch.proofs.feed.taken_of.Goals as goal

pub returns-then-not-found : goal.returns-then-not-found
returns-then-not-found c = let a = c.args in takes_all a.found a.count a.piece (not-true _ c.if-not-found.true)

pub returns-then-found-count : goal.returns-then-found-count
returns-then-found-count c = let a = c.args in takes_none a.found a.count a.piece (not-false _ c.if-not-found.false) c.if-found-count.true

pub returns : goal.returns
returns c = let a = c.args in takes_some a.found a.count a.piece (not-false _ c.if-not-found.false)
