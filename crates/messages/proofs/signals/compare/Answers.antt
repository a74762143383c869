-- `messages::signals::compare` meets its contract: each pair of answers of the table is its case of the order. Assumes nothing.
use mathlib.Core.Path.{◌∙◌, sym, ap}
use Rattle.messages.specs.Signals.{table_of}
use Rattle.messages.specs.Answers.{found_number, told_order}
use Rattle.messages.proofs.OrderLaws.{told_compared, told_by_band, both_assigned, first_assigned, second_assigned, none_assigned}
use Rattle.messages.proofs.signals.compare.Goals as goal

pub returns-in-Some-Some : goal.returns-in-Some-Some
returns-in-Some-Some c =
    ap told_order c.cmp.ensures
    ∙ told_compared _ _
    ∙ sym
    (both_assigned (table_of _) _ _
    (sym c.number_of-a.ensures ∙ ap found_number c.in-Some-Some.is-0)
    (sym c.number_of-b.ensures ∙ ap found_number c.in-Some-Some.is-1))

pub returns-in-Some-None : goal.returns-in-Some-None
returns-in-Some-None c =
    sym
    (first_assigned (table_of _) _ _
    (sym c.number_of-a.ensures ∙ ap found_number c.in-Some-None.is-0)
    (sym c.number_of-b.ensures ∙ ap found_number c.in-Some-None.is-1))

pub returns-in-None-Some : goal.returns-in-None-Some
returns-in-None-Some c =
    sym
    (second_assigned (table_of _) _ _
    (sym c.number_of-a.ensures ∙ ap found_number c.in-None-Some.is-0)
    (sym c.number_of-b.ensures ∙ ap found_number c.in-None-Some.is-1))

pub returns-in-None-None : goal.returns-in-None-None
returns-in-None-None c =
    let a = c.args in
    ap told_order c.cmp-in-None-None.ensures
    ∙ told_by_band a.band1 a.letter1 a.band2 a.letter2
    ∙ sym
    (none_assigned (table_of _) _ _
    (sym c.number_of-a.ensures ∙ ap found_number c.in-None-None.is-0)
    (sym c.number_of-b.ensures ∙ ap found_number c.in-None-None.is-1))
