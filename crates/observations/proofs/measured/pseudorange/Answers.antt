-- `observations::measured::pseudorange` meets its contract. The marker reads as absent, any other number as that many units. Assumes nothing.
use borrow.Author.Tests.{eq-eqb, ne_eqb}
use Rattle.observations.specs.Measured.{pseudorange_of}
use Rattle.observations.proofs.MeasuredLaws.{hundredths}
use Rattle.observations.proofs.measured.pseudorange.Goals as goal

pub returns-then-raw-eq16777215 : goal.returns-then-raw-eq16777215
unfolding pseudorange_of
returns-then-raw-eq16777215 c = simp (eq-eqb _ _ c.if-raw-eq16777215.true)

pub returns : goal.returns
unfolding pseudorange_of
returns c = simp (ne_eqb _ _ c.if-raw-eq16777215.false, hundredths)
