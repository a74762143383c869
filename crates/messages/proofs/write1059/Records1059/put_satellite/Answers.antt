-- `messages::write1059::Records1059::put_satellite` meets its contract. The loop's invariant: the satellite stands at `i`, and what is left to put are its biases from there on. Assumes nothing.
use mathlib.Core.Path.{◌≡◌, sym, ap, ◌∙◌}
use mathlib.Core.List.{List, [], ◌∷◌}
use Prim.Native.Nat.{ℕ, suc, ◌≤◌, ◌<◌}
use native.Mathlib.Omega.{arith}
use lib.ListN.{length, get_or}
use lib.IntN.{pos}
use Rattle.bits.specs.Signed.{twos_bits}
use Rattle.bits.specs.Fields.{Field, bits}
use Rattle.messages.specs.Records.{records1059}
use Rattle.messages.specs.Layout1059.{of_satellite}
use Rattle.messages.specs.StepsPen.{drawn}
use Rattle.messages.specs.StepsWrite1059.{bias_fields, satellite_fields, next_of}
use Rattle.messages.proofs.I16Laws.{same_16}
use Rattle.messages.proofs.PenLaws.{length_drawn}
use Rattle.formats.proofs.PutLaws.{Left, left_all, left_as, left_on, left_fits, left_put, left_none, is_put_none}
use Rattle.messages.proofs.RecordLaws.{from1059}
use Rattle.messages.proofs.LinkLaws.{next_bounds, link_next, satellite_none, satellite_left, next_stands, next_records, bias_here, bias_none}
use Rattle.messages.proofs.write1059.Records1059.put_satellite.Goals as goal
use Rattle.messages.proofs.write1059.Records1059.put_satellite.Goals.{At-loop-i}

-- the fields of the satellite's number and of its bias count
abbrev numbers : ℕ → ℕ → List Field
numbers a count = bits 6 a ∷ bits 5 count ∷ []

-- what is left at the loop
left : (c : At-loop-i)
    → Left (drawn c.args.bytes.now c.args.first.at c.args.first.bits) c.args.first.at
    (satellite_fields c.args.a (of_satellite c.args.a (records1059 c.args.self.now.satellites.now c.args.self.now.signals.now c.args.self.now.biases.now)))
    (drawn c.loop-i.bytes c.loop-i.pen.at c.loop-i.pen.bits) c.loop-i.pen.at
    (bias_fields (of_satellite c.args.a (from1059 c.args.self.now.satellites.now c.args.self.now.signals.now c.args.self.now.biases.now c.loop-i.i)))
left c =
    let a = c.args in
    let d = c.args.self.now.faultless in
    left_on
    (left_put (numbers a.a (get_or a.chains.now.counts a.a 0)) (bias_fields (of_satellite a.a (records1059 a.self.now.satellites.now a.self.now.signals.now a.self.now.biases.now)))
    (satellite_left a.self.now.satellites.now a.self.now.signals.now a.self.now.biases.now d.signals d.biases a.a _ (c.requires.1.count a.a c.requires.2) c.if-count-eq0.false (drawn a.bytes.now a.first.at a.first.bits) a.first.at)
    (rw c.from.ensures at c.two-pen.ensures))
    c.loop-i.invariant.2

-- where the link leads
linked : (c : At-loop-i) → c.loop-i.i < length c.args.self.now.satellites.now
    → (c.loop-i.i < get_or c.args.chains.now.links c.loop-i.i 0)
    × (get_or c.args.chains.now.links c.loop-i.i 0 ≤ length c.args.self.now.satellites.now)
    × (get_or c.args.chains.now.links c.loop-i.i 0 ≡ next_of c.args.self.now.satellites.now c.args.a (suc c.loop-i.i))
linked c h =
    let e = link_next c.args.self.now.satellites.now c.args.chains.now.links c.requires.1.chain c.args.a c.loop-i.i h c.loop-i.invariant.1 in
    let b = next_bounds c.args.self.now.satellites.now c.args.a (suc c.loop-i.i) h in
    (omega (arith, e, b.0), omega (arith, e, b.1), e)

pub returns-then-count-eq0 : goal.returns-then-count-eq0
returns-then-count-eq0 c =
    is_put_none (drawn c.args.bytes.now c.args.first.at c.args.first.bits) c.args.first.at
    (satellite_none c.args.self.now.satellites.now c.args.self.now.signals.now c.args.self.now.biases.now c.args.self.now.faultless.signals c.args.self.now.faultless.biases c.args.a _ (c.requires.1.count c.args.a c.requires.2) c.if-count-eq0.true)

pub two-pen-requires : goal.two-pen-requires
two-pen-requires c =
    let a = c.args in
    let d = c.args.self.now.faultless in rw c.from.ensures (
      left_fits (numbers a.a (get_or a.chains.now.counts a.a 0)) _
          (satellite_left a.self.now.satellites.now a.self.now.signals.now a.self.now.biases.now d.signals d.biases a.a _ (c.requires.1.count a.a c.requires.2) c.if-count-eq0.false (drawn a.bytes.now a.first.at a.first.bits) a.first.at)
          c.requires.0,
      omega arith,
      c.requires.2,
      c.requires.3,
    )

pub loop-i-init : goal.loop-i-init
loop-i-init c =
    let sats = c.args.self.now.satellites.now in
    let d = c.args.self.now.faultless in
    let b = next_bounds sats c.args.a 0 (omega arith) in
    rw (c.from-i.ensures, c.requires.1.head c.args.a c.requires.2) (
      b.1,
      next_stands sats c.args.self.now.signals.now c.args.self.now.biases.now d.signals d.biases c.args.a 0 (omega arith),
      left_as (ap bias_fields (next_records sats c.args.self.now.signals.now c.args.self.now.biases.now d.signals d.biases c.args.a 0 (omega arith))) (left_all _ _ _),
    )

pub bits_of-bias-requires : goal.bits_of-bias-requires
bits_of-bias-requires c =
    let l = c.loop-i in
    let z = get_or c.args.self.now.biases.now l.i (pos 0) in
    (omega arith, omega arith, rw (same_16 z (omega arith)) (c.args.self.now.faultless.fits l.i c.loop-i-test.true))

pub two-pen-requires-in-loop-i : goal.two-pen-requires-in-loop-i
two-pen-requires-in-loop-i c =
    let l = c.loop-i in
    let d = c.args.self.now.faultless in
    let h = c.loop-i-test.true in
    let z = get_or c.args.self.now.biases.now l.i (pos 0) in
    let e = c.bits_of-bias.ensures.0 ∙ ap (twos_bits 14) (same_16 z (omega arith)) in
    rw (e, c.from-in-loop-i.ensures) (
      left_fits (bits 5 (get_or c.args.self.now.signals.now l.i 0) ∷ bits 14 (twos_bits 14 z) ∷ []) _
          (left_as (bias_here c.args.self.now.satellites.now c.args.self.now.signals.now c.args.self.now.biases.now d.signals d.biases c.args.a l.i h l.invariant.1) (left (goal.at.two-pen-requires-in-loop-i c).At-loop-i))
          c.requires.0,
      omega arith,
      d.short l.i h,
      rw e at c.bits_of-bias.ensures.1,
    )

pub loop-i-smaller : goal.loop-i-smaller
loop-i-smaller c =
    let e = linked (goal.at.loop-i-smaller c).At-loop-i c.loop-i-test.true in
    omega (arith, c.from-i-in-loop-i.ensures, e.0, e.1)

pub loop-i-preserved : goal.loop-i-preserved
loop-i-preserved c =
    let l = c.loop-i in
    let sats = c.args.self.now.satellites.now in
    let d = c.args.self.now.faultless in
    let h = c.loop-i-test.true in
    let z = get_or c.args.self.now.biases.now l.i (pos 0) in
    let e = linked (goal.at.loop-i-preserved c).At-loop-i h in
    let put = rw (c.from-in-loop-i.ensures, c.bits_of-bias.ensures.0 ∙ ap (twos_bits 14) (same_16 z (omega arith))) at c.two-pen-in-loop-i.ensures in rw c.from-i-in-loop-i.ensures (
      e.1,
      rw e.2 (next_stands sats c.args.self.now.signals.now c.args.self.now.biases.now d.signals d.biases c.args.a (suc l.i) h),
      rw e.2
          (left_put (bits 5 (get_or c.args.self.now.signals.now l.i 0) ∷ bits 14 (twos_bits 14 z) ∷ []) _
          (left_as (bias_here sats c.args.self.now.signals.now c.args.self.now.biases.now d.signals d.biases c.args.a l.i h l.invariant.1) l.invariant.2) put),
    )

pub shape_of-bytes : goal.shape_of-bytes
shape_of-bytes c =
    sym (length_drawn c.loop-i.bytes c.loop-i.pen.at c.loop-i.pen.bits)
    ∙ (left (goal.at.shape_of-bytes c).At-loop-i).same
    ∙ length_drawn c.args.bytes.now c.args.first.at c.args.first.bits

pub returns : goal.returns
returns c =
    let d = c.args.self.now.faultless in
    left_none (left_as (bias_none c.args.self.now.satellites.now c.args.self.now.signals.now c.args.self.now.biases.now d.signals d.biases c.args.a c.loop-i.i c.loop-i-test.false) (left (goal.at.returns c).At-loop-i))
