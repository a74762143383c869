-- `messages::write1059::Chains::link` meets its contract. The loop's invariant: the places from `i` on are linked. Assumes nothing.
use mathlib.Core.Path.{◌≡◌, refl, sym, subst}
use Prim.Native.Nat.{suc, ◌-◌, ◌<◌}
use native.Mathlib.Omega.{arith}
use lib.ListN.{length, get_or}
use Rattle.messages.specs.StepsWrite1059.{Linked}
use Rattle.messages.proofs.LinkLaws.{count_from, linked_more}
use Rattle.messages.proofs.write1059.Chains.link.Goals as goal

pub overflow_add-self : goal.overflow_add-self
overflow_add-self c =
    let s = c.args.satellites.now in
    let l = c.loop-i in
    let b = c.requires.1 (l.i - 1) (omega arith) in
    rw c.from-a.ensures (omega (arith, l.invariant.count (get_or s (l.i - 1) 0) b, count_from s (get_or s (l.i - 1) 0) l.i))

pub loop-i-preserved : goal.loop-i-preserved
loop-i-preserved c =
    let l = c.loop-i in
    let sats = c.args.satellites.now in
    let e : suc (l.i - 1) ≡ l.i = omega arith in
    let h : l.i - 1 < length sats = omega arith in
    rw c.from-a.ensures (linked_more sats l.self.heads l.self.links l.self.counts (l.i - 1) (get_or sats (l.i - 1) 0) h refl (c.requires.1 (l.i - 1) h) c.requires.0
    (subst (Linked sats l.self.heads l.self.links l.self.counts) (sym e) l.invariant))

pub returns : goal.returns
returns c =
    let l = c.loop-i in
    let e : l.i ≡ 0 = omega arith in
    subst (Linked c.args.satellites.now l.self.heads l.self.links l.self.counts) e l.invariant
