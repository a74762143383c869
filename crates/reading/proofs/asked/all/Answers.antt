-- No word is known at first, and each turn adds one.
use Rattle.std.proofs.Common.{[], refl, ◌∙◌}
use Rattle.reading.proofs.AskedLaws.{one_more, none_seen}
use Rattle.reading.proofs.asked.all.Goals as goal

pub loop-i-init : goal.loop-i-init
loop-i-init g c = ([], c.nothing-asked.ensures ∙ none_seen, refl)

pub loop-i-preserved : goal.loop-i-preserved
loop-i-preserved g c = one_more _ _ c.kind_of-kind.result _ c.noted-asked.ensures c.loop-i.invariant
