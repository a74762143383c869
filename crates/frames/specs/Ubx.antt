-- The framing of UBX: B5 62; class and id; the payload's length in two bytes, low byte first; the payload; two running sums over class to payload. Assumes nothing.
use Rattle.std.specs.Prelude.{Bool, cond, ◌&&◌, List, [], ◌∷◌, ◌++◌, ℕ, ◌+◌, ◌*◌, ◌/◌, ◌%◌, length, get_or, take, drop, eqb, ltb}
use Rattle.frames.specs.Scan.{Decision, Skip, Take}
use Rattle.frames.specs.Framing.{Framing}
use Rattle.frames.specs.Rtcm.{Why, OfUbx, NotB5, No62, TooLong, BadSums, Kind, Ubx}

-- ---- the two sums

-- one byte more: the first sum takes the byte, the second takes the first sum, each modulo 256
abbrev pub add_byte : ℕ × ℕ → ℕ → ℕ × ℕ
add_byte c x = ((c.0 + x) % 256, (c.1 + (c.0 + x) % 256) % 256)

-- sums continued over more bytes
unfoldable pub sums_from : ℕ × ℕ → List ℕ → ℕ × ℕ
sums_from c [] = c
sums_from c (x ∷ s) = sums_from (add_byte c x) s

-- both start at 0
abbrev pub sums : List ℕ → ℕ × ℕ
sums s = sums_from (0, 0) s

-- both sums are the same
abbrev pub same_sums : ℕ × ℕ → ℕ × ℕ → Bool
same_sums c d = eqb c.0 d.0 && eqb c.1 d.1

-- ---- what stands where

-- B5 at byte 0
abbrev pub is_b5 : List ℕ → Bool
is_b5 s = eqb (get_or s 0 0) 0xB5

-- 62 at byte 1
abbrev pub is62 : List ℕ → Bool
is62 s = eqb (get_or s 1 0) 0x62

-- how long the payload is: bytes 4 and 5, low byte first (one that is not there yet reads 255, so that six bytes are asked for to know it)
abbrev pub payload : List ℕ → ℕ
payload s = get_or s 4 255 + get_or s 5 255 * 256

-- the payload is above 1,021 bytes
abbrev pub is_long_ubx : List ℕ → Bool
is_long_ubx s = ltb 1021 (payload s)

-- the sums that were sent: the two bytes behind the payload
abbrev pub sent_sums : List ℕ → ℕ × ℕ
sent_sums s = (get_or s (payload s + 6) 0, get_or s (payload s + 7) 0)

-- the sums of class to payload, computed
abbrev pub own_sums : List ℕ → ℕ × ℕ
own_sums s = sums (take (payload s + 4) (drop 2 s))

-- ---- the framing

-- what the sums decide of a candidate with n bytes of payload: a frame if those sent are those computed
abbrev pub by_sums : ℕ → ℕ × ℕ → ℕ × ℕ → Decision Why Kind
by_sums n sent computed = cond (same_sums sent computed) (Take Ubx (n + 8)) (Skip (OfUbx (BadSums sent computed)))

-- B5 and 62 decide whether the length counts, the length whether the sums do: each byte is skipped as soon as it is known to start no frame.
unfoldable pub ubx : Framing Why Kind
ubx =
    record {
      need = λ s.
          cond (is_b5 s)
          (cond (is62 s)
          (cond (is_long_ubx s) 6 (payload s + 8))
          2)
          1;
      verdict = λ s.
          cond (is_b5 s)
          (cond (is62 s)
          (cond (is_long_ubx s) (Skip (OfUbx (TooLong (payload s)))) (by_sums (payload s) (sent_sums s) (own_sums s)))
          (Skip (OfUbx No62)))
          (Skip (OfUbx NotB5));
    }

-- ---- a frame, as the public description has it

-- class, id, the payload's length, the payload
abbrev pub body_of : (class id : ℕ) → List ℕ → List ℕ
body_of class id p = class ∷ id ∷ length p % 256 ∷ length p / 256 ∷ p

-- the frame of a payload
abbrev pub ubx_of : (class id : ℕ) → List ℕ → List ℕ
ubx_of class id p = (0xB5 ∷ 0x62 ∷ body_of class id p) ++ ((sums (body_of class id p)).0 ∷ (sums (body_of class id p)).1 ∷ [])
