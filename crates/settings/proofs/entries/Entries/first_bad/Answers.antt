-- Before entry k, none is bad. Assumes nothing.
use Rattle.std.proofs.Common.{◌≡◌, ◌+◌, ◌-◌, ap, sym, arith, ◌∙◌}
use Rattle.settings.specs.Block.{first_bad, edition_in, number_in, priority_in}
use Rattle.settings.proofs.SearchLaws.{found_so, bad_here, bad_later, bad_none}
use Rattle.settings.proofs.entries.Entries.first_bad.Goals as goal

pub loop-k-init : goal.loop-k-init
loop-k-init c = ap (first_bad _ _ _ 0) (omega (arith, c.args.self.now.counted))

pub returns-then-forbids : goal.returns-then-forbids
returns-then-forbids c =
    let self = c.args.self.now in
    let s = self.block.now in
    let k = c.loop-k.k in (
      sym (bad_here (edition_in s) (number_in s) (priority_in s) k (self.count - k) (omega arith) (found_so c.if-forbids.true c.forbids.ensures self.of_edition c.number.ensures c.priority.ensures))
          ∙ c.loop-k.invariant,
      omega arith,
    )

pub loop-k-preserved : goal.loop-k-preserved
loop-k-preserved c =
    let self = c.args.self.now in
    let s = self.block.now in
    let k = c.loop-k.k in
    let q : self.count - (k + 1) ≡ self.count - k - 1 = omega arith in
    ap (first_bad (edition_in s) (number_in s) (priority_in s) (k + 1)) q
    ∙ sym (bad_later (edition_in s) (number_in s) (priority_in s) k (self.count - k) (omega arith) (found_so c.if-forbids.false c.forbids.ensures self.of_edition c.number.ensures c.priority.ensures))
    ∙ c.loop-k.invariant

pub returns : goal.returns
returns c =
    let self = c.args.self.now in
    let s = self.block.now in
    let k = c.loop-k.k in
    let e = sym (bad_none (edition_in s) (number_in s) (priority_in s) k (self.count - k) (omega arith)) ∙ c.loop-k.invariant in
    omega (arith, e)
