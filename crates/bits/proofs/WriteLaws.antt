-- Laws of writing a field: which answer is given when, what it leaves, and that what is written is read back. Assumes nothing.
use mathlib.Core.Path.{◌≡◌, refl, sym, ap, subst, ◌∙◌}
use mathlib.Core.Bool.{Bool, true, false, cond, not}
use mathlib.Core.List.{List, [], ◌∷◌}
use Prim.Native.Nat.{ℕ, ◌+◌, ◌*◌, ◌^◌, ◌≤◌, ◌<◌}
use native.Mathlib.Decide.{dec_lt}
use native.Mathlib.Omega.{arith}
use lib.Dec.{ltb}
use lib.IntN.{ℤ}
use lib.ListN.{length}
use borrow.Author.Tests.{lt-ltb, le-ltb, ltb-true}
use Rattle.bits.specs.Told.{Told, Accepted, Refused, range, room}
use Rattle.bits.specs.Outcome.{Outcome, outcome, refusing}
use Rattle.bits.specs.Signed.{twos_of, signmag_of, fits_unsigned, fits_twos, fits_signmag, twos_bits, signmag_bits}
use Rattle.bits.specs.Field.{put_field, reading, read_by, read_unsigned, read_twos, read_signmag, write_by}
use Rattle.bits.specs.Steps.{limits_of, put_where_room}
use Rattle.std.specs.Prelude.{Result, Ok, Err}
use Rattle.bits.specs.Refusals.{number_of, carried_by}
use Rattle.bits.specs.declared.refusal.Refusal.{Refusal}
use Rattle.bits.proofs.LimitLaws.{by_limits, by_limits_lem, kept, are_kept}
use Rattle.bits.proofs.BitLaws.{length_put, read_back_fits}
use Rattle.bits.proofs.SignedLaws.{twos_bits_lt, twos_back, signmag_bits_lt, signmag_back}
use Rattle.bits.proofs.OutcomeLaws.{Keeps, writing_keeps}
use Rattle.bits.proofs.ReadLaws.{reads_value}

-- ---- by the limits, as the code decides

pub no_room : (s : List ℕ) (p w v : ℕ) → length s * 8 < p + w → outcome (room w) s ≡ put_where_room s p w v
unfolding put_where_room
no_room s p w v h = rw (lt-ltb _ _ h)

pub has_room : (s : List ℕ) (p w v : ℕ) → p + w ≤ length s * 8 → outcome (Accepted (p + w)) (put_field s p w v) ≡ put_where_room s p w v
unfolding put_where_room
has_room s p w v h = rw (le-ltb _ _ h)

module _ (fits : Bool) (v : ℕ) (s : List ℕ) (p w : ℕ) where
  -- where the field is put, its end is told
  puts : ℕ → Outcome ℕ (List ℕ)
  puts q = outcome (Accepted q) (put_field s p w v)

  -- what is left to decide within the limits
  rest : Told ℕ
  rest = cond (not fits) (range 0) (cond (ltb (length s * 8) (p + w)) (room w) (Accepted (p + w)))

  write_on : write_by fits v s p w ≡ refusing s (by_limits (limits_of (length s) w) rest) puts
  unfolding write_by rest puts
  write_on = ap (λ (t : Told ℕ). refusing s t puts) (by_limits_lem (length s) w rest)

  pub write_refused : {r : Refusal} → limits_of (length s) w ≡ Err r → outcome (Refused (number_of r) (carried_by r)) s ≡ write_by fits v s p w
  write_refused e = rw (write_on, e)

  pub write_range : limits_of (length s) w ≡ Ok (tt {0}) → fits ≡ false → outcome (range 0) s ≡ write_by fits v s p w
  unfolding rest
  write_range e f = rw (write_on, e, f)

  pub write_where_room : limits_of (length s) w ≡ Ok (tt {0}) → fits ≡ true → put_where_room s p w v ≡ write_by fits v s p w
  unfolding rest puts put_where_room
  write_where_room e f = rw (write_on, e, f)

  -- ---- by the sizes, for callers

  pub writes : length s ≤ 1023 → 1 ≤ w → w ≤ 64 → fits ≡ true → p + w ≤ length s * 8
      → write_by fits v s p w ≡ outcome (Accepted (p + w)) (put_field s p w v)
  writes few low high f h = sym (write_where_room (are_kept (length s) w few low high) f) ∙ sym (has_room s p w v h)

  -- what an accepted write tells
  pub record Did (q : ℕ) : Type 0 where
    pub few : length s ≤ 1023
    pub low : 1 ≤ w
    pub high : w ≤ 64
    pub fitting : fits ≡ true
    pub within : p + w ≤ length s * 8
    pub end : q ≡ p + w
    pub left : (write_by fits v s p w).areas ≡ put_field s p w v

  -- an answer of a write, and the data that it leaves: the data as they came if it refuses
  data Ended : Outcome ℕ (List ℕ) → Type 0 where
    refused : (n : ℕ) (carried : List ℕ) → Ended (outcome (Refused n carried) s)
    done : (q : ℕ) → Did q → Ended (outcome (Accepted q) (put_field s p w v))

  ended : Ended (write_by fits v s p w)
  ended = go (limits_of (length s) w) refl fits refl (dec_lt (length s * 8) (p + w))
    where
      go : (g : Result (Unit {0}) Refusal) → limits_of (length s) w ≡ g → (f : Bool) → fits ≡ f → Dec (length s * 8 < p + w) → Ended (write_by fits v s p w)
      go (Err r) e f q d = subst Ended (write_refused e) (refused (number_of r) (carried_by r))
      go (Ok u) e false q d = subst Ended (write_range e q) (refused 3 (0 ∷ []))
      go (Ok u) e true q (yes h) = subst Ended (no_room s p w v h ∙ write_where_room e q) (refused 8 (w ∷ []))
      go (Ok u) e true q (no h) =
          let f = kept (length s) w e in
          let k : p + w ≤ length s * 8 = omega arith in
          let b = writes f.0 f.1 f.2 q k in
          subst Ended (sym b)
          (done (p + w) (record { few = f.0; low = f.1; high = f.2; fitting = q; within = k; end = refl; left = ap (λ r. r.areas) b }))

  -- a refused call changes nothing
  pub write_keeps : Keeps s (write_by fits v s p w)
  unfolding puts
  write_keeps = subst (Keeps s) (sym write_on) (writing_keeps s (by_limits (limits_of (length s) w) rest) (λ q. put_field s p w v))

  pub write_tells : {q : ℕ} → (write_by fits v s p w).answer ≡ Accepted q → Did q
  write_tells {q} e = go (write_by fits v s p w) ended e
    where
      go : (x : Outcome ℕ (List ℕ)) → Ended x → x.answer ≡ Accepted q → Did q
      go x (refused m cs) k = let z : ◌≡◌ {A = ℕ} 0 1 = cc in absurd (omega arith)
      go x (done r d) k = let z : r ≡ q = cc in subst Did z d

  -- ---- what is written is read back, by any meaning

  pub read_after_write : {A : Type 0} (meaning : ℕ → A) {q : ℕ} → v < 2 ^ w → (write_by fits v s p w).answer ≡ Accepted q
      → read_by meaning (write_by fits v s p w).areas p w ≡ Accepted (reading (meaning v) q)
  read_after_write meaning {q} l e =
      let d = write_tells e in
      let n : length (put_field s p w v) ≡ length s = length_put s p w v in
      rw (d.left, d.end)
      (reads_value meaning (put_field s p w v) p w (rw n d.few) d.low d.high (rw n d.within)
      ∙ ap (λ (x : ℕ). Accepted (reading (meaning x) (p + w))) (read_back_fits s p w v d.within l))

-- each of the three readings
module _ (s : List ℕ) (p w : ℕ) where
  pub unsigned_back : (v : ℕ) {q : ℕ} → (write_by (fits_unsigned w v) v s p w).answer ≡ Accepted q
      → read_unsigned (write_by (fits_unsigned w v) v s p w).areas p w ≡ Accepted (reading v q)
  unsigned_back v e =
      let d = write_tells (fits_unsigned w v) v s p w e in
      read_after_write (fits_unsigned w v) v s p w (λ x. x) (ltb-true v (2 ^ w) d.fitting) e

  pub twos_written_back : (z : ℤ) {q : ℕ} → (write_by (fits_twos w z) (twos_bits w z) s p w).answer ≡ Accepted q
      → read_twos (write_by (fits_twos w z) (twos_bits w z) s p w).areas p w ≡ Accepted (reading z q)
  twos_written_back z {q} e =
      let d = write_tells (fits_twos w z) (twos_bits w z) s p w e in
      read_after_write (fits_twos w z) (twos_bits w z) s p w (twos_of w) (twos_bits_lt w d.low z d.fitting) e
      ∙ ap (λ (x : ℤ). Accepted (reading x q)) (twos_back w d.low z d.fitting)

  pub signmag_written_back : (z : ℤ) {q : ℕ} → (write_by (fits_signmag w z) (signmag_bits w z) s p w).answer ≡ Accepted q
      → read_signmag (write_by (fits_signmag w z) (signmag_bits w z) s p w).areas p w ≡ Accepted (reading z q)
  signmag_written_back z {q} e =
      let d = write_tells (fits_signmag w z) (signmag_bits w z) s p w e in
      read_after_write (fits_signmag w z) (signmag_bits w z) s p w (signmag_of w) (signmag_bits_lt w d.low z d.fitting) e
      ∙ ap (λ (x : ℤ). Accepted (reading x q)) (signmag_back w d.low z d.fitting)
