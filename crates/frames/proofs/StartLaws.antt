-- The first byte of a frame tells its kind; a byte that starts no frame is skipped by itself. Assumes nothing.
use mathlib.Core.Path.{◌≡◌, refl}
use mathlib.Core.Bool.{Bool, true, false, cond, ◌||◌, true≢false}
use mathlib.Core.List.{List}
use Prim.Native.Nat.{ℕ, ◌+◌}
use native.Mathlib.Omega.{arith}
use lib.ListN.{get_or}
use lib.Dec.{eqb}
use borrow.Author.Tests.{eqb-true, ne_eqb}
use Rattle.frames.specs.Scan.{Skip, Take}
use Rattle.frames.specs.Framing.{Framing}
use Rattle.frames.specs.Frame.{data_length, sent_sum, own_sum}
use Rattle.frames.specs.Rtcm.{Why, NotD3, BadCheck, OfUbx, NotB5, No62, TooLong, BadSums, Kind, Rtcm, Ubx, rtcm}
use Rattle.frames.specs.Ubx.{ubx, is_b5, is62, is_long_ubx, payload, same_sums, sent_sums, own_sums}
use Rattle.frames.specs.Either.{either}
use Rattle.frames.specs.Modes.{both, framing_of}
use Rattle.frames.specs.Steps.{starts_rtcm, starts_either, starts_in}

-- the byte that a frame of a kind starts with
abbrev pub start_of : Kind → ℕ
start_of Rtcm = 0xD3
start_of Ubx = 0xB5

module _ (s : List ℕ) where
  rtcm_starts : (b c : Bool) (n m : ℕ) (w v : Why) (k : Kind) → eqb (get_or s 0 0) 0xD3 ≡ b
      → cond b (cond c (Take Rtcm m) (Skip w)) (Skip v) ≡ Take k n → get_or s 0 0 ≡ start_of k
  rtcm_starts true true n m w v k e x = let y : k ≡ Rtcm = cc in rw y (eqb-true (get_or s 0 0) 0xD3 e)
  rtcm_starts true false n m w v k e x = let z : ◌≡◌ {A = ℕ} 0 1 = cc in absurd (omega arith)
  rtcm_starts false c n m w v k e x = let z : ◌≡◌ {A = ℕ} 0 1 = cc in absurd (omega arith)

  ubx_starts : (b l c : Bool) (n m : ℕ) (u w v : Why) (k : Kind) → get_or s 0 0 ≡ 0xB5
      → cond b (cond l (Skip u) (cond c (Take Ubx m) (Skip w))) (Skip v) ≡ Take k n → get_or s 0 0 ≡ start_of k
  ubx_starts true false true n m u w v k e x = let y : k ≡ Ubx = cc in rw y e
  ubx_starts true true c n m u w v k e x = let z : ◌≡◌ {A = ℕ} 0 1 = cc in absurd (omega arith)
  ubx_starts true false false n m u w v k e x = let z : ◌≡◌ {A = ℕ} 0 1 = cc in absurd (omega arith)
  ubx_starts false l c n m u w v k e x = let z : ◌≡◌ {A = ℕ} 0 1 = cc in absurd (omega arith)

  -- A FRAME SAYS ITS KIND by its first byte.
  pub kind_starts : (k : Kind) (n : ℕ) → both.verdict s ≡ Take k n → get_or s 0 0 ≡ start_of k
  unfolding either ubx rtcm
  kind_starts k n e = go (is_b5 s) refl e
    where
      go : (b : Bool) → is_b5 s ≡ b → cond b (ubx.verdict s) (rtcm.verdict s) ≡ Take k n → get_or s 0 0 ≡ start_of k
      go true u x =
          ubx_starts (is62 s) (is_long_ubx s) (same_sums (sent_sums s) (own_sums s)) n (payload s + 8) (OfUbx (TooLong (payload s))) (OfUbx (BadSums (sent_sums s) (own_sums s))) (OfUbx No62) k
          (eqb-true (get_or s 0 0) 0xB5 u) (rw u at x)
      go false u x =
          rtcm_starts (eqb (get_or s 0 0) 0xD3) (eqb (own_sum s) (sent_sum s)) n (data_length s + 6) (BadCheck (sent_sum s) (own_sum s)) NotD3 k refl x

  kind_if : (b : Bool) (k : Kind) (n : ℕ) → (cond b rtcm both).verdict s ≡ Take k n → get_or s 0 0 ≡ start_of k
  unfolding rtcm
  kind_if true k n e =
      rtcm_starts (eqb (get_or s 0 0) 0xD3) (eqb (own_sum s) (sent_sum s)) n (data_length s + 6) (BadCheck (sent_sum s) (own_sum s)) NotD3 k refl e
  kind_if false k n e = kind_starts k n e

  -- in every mode
  pub mode_kind : (mode : ℕ) (k : Kind) (n : ℕ) → (framing_of mode).verdict s ≡ Take k n → get_or s 0 0 ≡ start_of k
  mode_kind mode k n e = kind_if (eqb mode 0) k n e

  -- A BYTE that is neither B5 nor D3 is skipped by itself.
  pub no_start : (get_or s 0 0 ≡ 0xB5 → ⊥) → (get_or s 0 0 ≡ 0xD3 → ⊥) → (both.need s ≡ 1) × (both.verdict s ≡ Skip NotD3)
  unfolding either rtcm
  no_start b d = (rw (ne_eqb (get_or s 0 0) 0xB5 b, ne_eqb (get_or s 0 0) 0xD3 d), rw (ne_eqb (get_or s 0 0) 0xB5 b, ne_eqb (get_or s 0 0) 0xD3 d))

-- ---- the bytes that start no frame, of any framing

-- a byte for which the test fails is decided by itself, and skipped
pub record Starts {W K : Type 0} (F : Framing W K) (start : ℕ → Bool) : Type 0 where
  pub alone : (s : List ℕ) → start (get_or s 0 0) ≡ false → F.need s ≡ 1
  pub skips : (s : List ℕ) → start (get_or s 0 0) ≡ false → (w : W) × (F.verdict s ≡ Skip w)

pub rtcm_start : Starts rtcm starts_rtcm
unfolding rtcm
rtcm_start = record { alone = λ s e. rw e; skips = λ s e. (NotD3, rw e) }

ubx_start : Starts ubx (λ x. eqb x 0xB5)
unfolding ubx
ubx_start = record { alone = λ s e. rw e; skips = λ s e. (OfUbx NotB5, rw e) }

neither : (a b : Bool) → (a || b) ≡ false → (a ≡ false) × (b ≡ false)
neither true b e = absurd (true≢false e)
neither false b e = (refl, e)

module _ {W K : Type 0} (F G : Framing W K) (f g : ℕ → Bool) (S : Starts F f) (T : Starts G g) (x : ℕ) where
  alone_if : (s : List ℕ) (b : Bool) → (f (get_or s 0 0) ≡ false) × (g (get_or s 0 0) ≡ false) → cond b (F.need s) (G.need s) ≡ 1
  alone_if s true e = S.alone s e.0
  alone_if s false e = T.alone s e.1

  skips_if : (s : List ℕ) (b : Bool) → (f (get_or s 0 0) ≡ false) × (g (get_or s 0 0) ≡ false) → (w : W) × (cond b (F.verdict s) (G.verdict s) ≡ Skip w)
  skips_if s true e = S.skips s e.0
  skips_if s false e = T.skips s e.1

  -- of two framings, those that start neither
  either_start : Starts (either x F G) (λ y. f y || g y)
  unfolding either
  either_start =
      record {
        alone = λ s e. alone_if s (eqb (get_or s 0 0) x) (neither (f (get_or s 0 0)) (g (get_or s 0 0)) e);
        skips = λ s e. skips_if s (eqb (get_or s 0 0) x) (neither (f (get_or s 0 0)) (g (get_or s 0 0)) e);
      }

starts_if : (b : Bool) → Starts (cond b rtcm both) (λ x. cond b (starts_rtcm x) (starts_either x))
starts_if true = rtcm_start
starts_if false = either_start ubx rtcm (λ x. eqb x 0xB5) starts_rtcm ubx_start rtcm_start 0xB5

-- THE BYTES that start a frame, in every mode.
pub mode_starts : (mode : ℕ) → Starts (framing_of mode) (starts_in mode)
mode_starts mode = starts_if (eqb mode 0)

-- ---- the same, byte by byte

pub b5_starts : (x : ℕ) → x ≡ 0xB5 → starts_either x ≡ true
b5_starts x e = rw e

pub d3_starts : (x : ℕ) → x ≡ 0xD3 → starts_either x ≡ true
d3_starts x e = rw e

pub none_starts : (x : ℕ) → (x ≡ 0xB5 → ⊥) → (x ≡ 0xD3 → ⊥) → starts_either x ≡ false
none_starts x b d = rw (ne_eqb x 0xB5 b, ne_eqb x 0xD3 d)
