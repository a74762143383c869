-- Message 1001 is a faithful format, and how many bits it has. Assumes nothing.
use mathlib.Core.Path.{◌≡◌, refl, sym, ap, ◌∙◌}
use mathlib.Core.Bool.{true}
use mathlib.Core.List.{List, [], ◌∷◌}
use Prim.Native.Nat.{ℕ, ◌+◌, ◌*◌, ◌^◌, ◌≤◌, ◌<◌}
use native.Mathlib.Nat.{suc-mul}
use native.Mathlib.Omega.{arith}
use borrow.Author.Tests.{eqb-true, lt-ltb, ltb-true, eq-eqb}
use lib.ListN.{length}
use lib.Signed.{mag}
use mir.Syntax.{w32}
use mir.Val.{to_z, of_z}
use lib.Dec.{eqb, lit≤}
use Rattle.bits.specs.Fields.{total}
use Rattle.bits.specs.Signed.{fits_unsigned, fits_twos}
use Rattle.bits.proofs.SignedLaws.{fits_twos_lem}
use Rattle.bits.proofs.FieldsLaws.{total_append, total_none, total_next}
use Rattle.formats.specs.Format.{fit_each, fields_each, shaped}
use Rattle.formats.specs.Faithful.{Faithful, CutOrKind}
use Rattle.formats.proofs.NextLaws.{both_true, true_both}
use Rattle.formats.proofs.TimesLaws.{fields_none, fields_next}
use Rattle.formats.proofs.ShapedLaws.{Shape}
use Rattle.formats.proofs.NumberedLaws.{numbered_faithful, numbered_refuses}
use Rattle.formats.proofs.GoodLaws.{Good, unsigned_good, twos_good, next_good, then_good, times_good, shaped_good}
use Rattle.formats.proofs.FixedLaws.{Fixed, unsigned_fixed, twos_fixed, then_fixed, shaped_fixed}
use Rattle.observations.proofs.PhaseLaws.{same_32}
use Rattle.observations.specs.declared.answer.Header.{Header}
use Rattle.observations.specs.declared.answer.Observation.{Observation}
use Rattle.observations.specs.Message1001.{message, Parts, of_observation, to_observation, observation1001, of_message, to_message, parts1001, message1001, header_fits}

-- ---- one observation

pub observation_good : Good observation1001
observation_good =
    shaped_good to_observation of_observation (record { to_from = λ b g. refl; from_to = λ a g. refl })
    (then_good (unsigned_good 6 (lit≤ tt) (lit≤ tt))
    (then_good (unsigned_good 1 (lit≤ tt) (lit≤ tt))
    (then_good (unsigned_good 24 (lit≤ tt) (lit≤ tt))
    (then_good (twos_good 20 (lit≤ tt) (lit≤ tt)) (unsigned_good 7 (lit≤ tt) (lit≤ tt))))))

-- it has 58 bits
pub observation_fixed : Fixed observation1001 58
observation_fixed =
    shaped_fixed to_observation of_observation
    (then_fixed (unsigned_fixed 6 (lit≤ tt) (lit≤ tt))
    (then_fixed (unsigned_fixed 1 (lit≤ tt) (lit≤ tt))
    (then_fixed (unsigned_fixed 24 (lit≤ tt) (lit≤ tt))
    (then_fixed (twos_fixed 20 (lit≤ tt) (lit≤ tt)) (unsigned_fixed 7 (lit≤ tt) (lit≤ tt))))))

pub observation_bits : (o : Observation) → total (observation1001.fields o) ≡ 58
observation_bits o = rw (total_next, total_next, total_next, total_next, total_next, total_none)

pub observations_bits : (os : List Observation) → total (fields_each observation1001 os) ≡ length os * 58
observations_bits [] = rw (fields_none observation1001) total_none
observations_bits (o ∷ os) =
    let f = ap total (fields_next observation1001 o os) in
    let t = total_append (observation1001.fields o) (fields_each observation1001 os) in
    let a = observation_bits o in
    let b = observations_bits os in
    let m = suc-mul (length os) 58 in
    omega (arith, f, t, a, b, m)

-- the numbers of one that fits are within their widths
pub record RowWithin (o : Observation) : Type 0 where
  pub satellite : o.satellite < 2 ^ 6
  pub code : o.code < 2 ^ 1
  pub pseudorange : o.pseudorange < 2 ^ 24
  pub phase : fits_twos 20 o.phase ≡ true
  pub lock : o.lock < 2 ^ 7

pub row_within : (o : Observation) → observation1001.fits o ≡ true → RowWithin o
row_within o f =
    let a = both_true (fits_unsigned 6 o.satellite) _ f in
    let b = both_true (fits_unsigned 1 o.code) _ a.1 in
    let c = both_true (fits_unsigned 24 o.pseudorange) _ b.1 in
    let d = both_true (fits_twos 20 o.phase) (fits_unsigned 7 o.lock) c.1 in
    record {
      satellite = ltb-true _ _ a.0;
      code = ltb-true _ _ b.0;
      pseudorange = ltb-true _ _ c.0;
      phase = d.0;
      lock = ltb-true _ _ d.1;
    }

-- its phase is handed on as it is
pub row_phase : (o : Observation) → observation1001.fits o ≡ true → to_z w32 (of_z w32 o.phase) ≡ o.phase
row_phase o f =
    let m = ltb-true (mag o.phase) (2 ^ 19) (sym (fits_twos_lem 20 o.phase) ∙ (row_within o f).phase) in
    same_32 o.phase (omega (arith, m))

-- ---- the message

parts_good : Good parts1001
parts_good =
    then_good (unsigned_good 12 (lit≤ tt) (lit≤ tt))
    (then_good (unsigned_good 30 (lit≤ tt) (lit≤ tt))
    (then_good (unsigned_good 1 (lit≤ tt) (lit≤ tt))
    (next_good (unsigned_good 5 (lit≤ tt) (lit≤ tt)) (λ n.
    then_good (unsigned_good 1 (lit≤ tt) (lit≤ tt))
    (then_good (unsigned_good 3 (lit≤ tt) (lit≤ tt)) (times_good observation_good n))))))

-- the count is the number of observations
counts : (x : Parts) → parts1001.fits x ≡ true → length x.1.1.1.1.1.1 ≡ x.1.1.1.0
counts x f =
    let n = x.1.1.1.0 in
    let a = (both_true (fits_unsigned 12 x.0) _ f).1 in
    let b = (both_true (fits_unsigned 30 x.1.0) _ a).1 in
    let c = (both_true (fits_unsigned 1 x.1.1.0) _ b).1 in
    let d = (both_true (fits_unsigned 5 n) _ c).1 in
    let e = (both_true (fits_unsigned 1 x.1.1.1.1.0) _ d).1 in
    let g = (both_true (fits_unsigned 3 x.1.1.1.1.1.0) _ e).1 in
    eqb-true (length x.1.1.1.1.1.1) n (both_true (eqb (length x.1.1.1.1.1.1) n) _ g).0

message_shape : Shape to_message of_message parts1001
message_shape =
    record {
      to_from = λ m f. refl;
      from_to = λ x f. ap (λ (n : ℕ). (x.0, (x.1.0, (x.1.1.0, (n, x.1.1.1.1))))) (counts x f);
    }

all_good : Good (shaped to_message of_message parts1001)
all_good = shaped_good to_message of_message message_shape parts_good

pub message_faithful : Faithful message1001
message_faithful = numbered_faithful 1001 (shaped to_message of_message parts1001) (lit≤ tt) all_good.faithful

-- of data within the limit nothing but Short and Kind is refused
pub message_refuses : (s : List ℕ) (p : ℕ) → length s ≤ 1023 → CutOrKind (message1001.reads s p)
message_refuses = numbered_refuses 1001 (shaped to_message of_message parts1001) all_good.short

-- 64 bits, and 58 for each observation
pub message_bits : (h : Header) (os : List Observation) → total (message1001.fields (message h os)) ≡ 64 + length os * 58
message_bits h os = rw (total_next, total_next, total_next, total_next, total_next, total_next, total_next, observations_bits) (omega arith)

-- a message fits whose header and observations fit, of which there are at most 31
pub message_fits : (h : Header) (os : List Observation) → header_fits h ≡ true → length os ≤ 31 → fit_each observation1001 os ≡ true → message1001.fits (message h os) ≡ true
message_fits h os f few g =
    let a = both_true (fits_unsigned 12 h.station) _ f in
    let b = both_true (fits_unsigned 30 h.epoch) _ a.1 in
    let c = both_true (fits_unsigned 1 h.synchronous) _ b.1 in
    let d = both_true (fits_unsigned 1 h.smoothing) (fits_unsigned 3 h.interval) c.1 in
    true_both (fits_unsigned 12 h.station) _ a.0
    (true_both (fits_unsigned 30 h.epoch) _ b.0
    (true_both (fits_unsigned 1 h.synchronous) _ c.0
    (true_both (fits_unsigned 5 (length os)) _ (lt-ltb (length os) 32 (omega (arith, few)))
    (true_both (fits_unsigned 1 h.smoothing) _ d.0
    (true_both (fits_unsigned 3 h.interval) _ d.1
    (true_both (eqb (length os) (length os)) (fit_each observation1001 os) (eq-eqb (length os) (length os) refl) g))))))
