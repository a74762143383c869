-- `messages::write1059::Records1059::put_satellites` meets its contract. The loop's invariant: what is left to put are the satellites from `a` on. Assumes nothing.
use mathlib.Core.Path.{◌∙◌}
use mathlib.Core.List.{List}
use Prim.Native.Nat.{ℕ}
use native.Mathlib.Omega.{arith}
use lib.IntN.{ℤ}
use Rattle.bits.specs.Fields.{Field}
use Rattle.messages.specs.Records.{records1059}
use Rattle.messages.specs.Layout1059.{of_satellite}
use Rattle.messages.specs.StepsWrite1059.{satellite_fields}
use Rattle.formats.proofs.PutLaws.{left_all, left_as, left_fits, left_fits_all, left_put, left_none}
use Rattle.messages.proofs.Fields1059Laws.{satellites_next, satellites_none}
use Rattle.messages.proofs.PenLaws.{length_drawn}
use Rattle.messages.proofs.write1059.Records1059.put_satellites.Goals as goal

-- the fields of satellite a, of records with these columns
abbrev one : List ℕ → List ℕ → List ℤ → ℕ → List Field
one sats sigs zs a = satellite_fields a (of_satellite a (records1059 sats sigs zs))

pub loop-a-init : goal.loop-a-init
loop-a-init c = rw (c.open-pen.ensures.1, c.open-pen.ensures.0) (omega arith, left_all _ _ _)

pub put_satellite-pen-requires : goal.put_satellite-pen-requires
put_satellite-pen-requires c =
    let l = c.loop-a in
    let h = c.loop-a-test.true in (
      left_fits (one c.args.self.now.satellites.now c.args.self.now.signals.now c.args.self.now.biases.now l.a) _ (left_as (satellites_next (records1059 c.args.self.now.satellites.now c.args.self.now.signals.now c.args.self.now.biases.now) l.a h) l.invariant.1) c.requires.0,
      c.requires.1,
      h,
      c.requires.2 l.a h,
    )

pub loop-a-preserved : goal.loop-a-preserved
loop-a-preserved c =
    let l = c.loop-a in (
      omega arith,
      left_put (one c.args.self.now.satellites.now c.args.self.now.signals.now c.args.self.now.biases.now l.a) _ (left_as (satellites_next (records1059 c.args.self.now.satellites.now c.args.self.now.signals.now c.args.self.now.biases.now) l.a c.loop-a-test.true) l.invariant.1) c.put_satellite-pen.ensures,
    )

pub lift-requires : goal.lift-requires
lift-requires c =
    let l = c.loop-a in
    let f = left_fits_all _ l.invariant.1 c.requires.0 in
    let n = length_drawn l.bytes l.pen.at l.pen.bits in
    (omega (arith, f.few, n), omega (arith, f.within, n))

pub returns : goal.returns
returns c =
    let l = c.loop-a in
    c.lift.ensures ∙ (left_none (left_as (satellites_none (records1059 c.args.self.now.satellites.now c.args.self.now.signals.now c.args.self.now.biases.now) l.a c.loop-a-test.false) l.invariant.1)).left
