-- What the framing of UBX decides at a place, by what the code has in hand there; and that each mode decides by the framing of the start byte. Assumes nothing.
use mathlib.Core.Path.{◌≡◌, refl, sym, ap, ◌∙◌}
use mathlib.Core.Bool.{true, false, ◌&&◌}
use mathlib.Core.List.{List, [], ◌∷◌}
use Prim.Native.Nat.{ℕ, zero, suc, ◌+◌, ◌-◌, ◌*◌, ◌≤◌, ◌<◌}
use native.Mathlib.Nat.{not-suc-le-zero, le_of_suc-le-suc}
use native.Mathlib.Omega.{arith}
use native.Mathlib.Decide.{ℕ_discrete}
use lib.ListN.{length, get_or, take, drop, length-drop, get_or-eq_default}
use lib.Seq.{get_or-drop, drop-drop}
use lib.Dec.{eqb}
use borrow.Author.Tests.{le-leb, lt-leb, eq-eqb, ne_eqb, le-ltb, lt-ltb, eqb-true}
use Rattle.frames.specs.Rtcm.{rtcm}
use Rattle.frames.specs.Ubx.{ubx, payload, sums, same_sums, sent_sums, own_sums}
use Rattle.frames.specs.Either.{either}
use Rattle.frames.specs.Modes.{both, framing_of}
use Rattle.frames.specs.Steps.{candidate, starts_in}
use Rattle.frames.specs.declared.scan.Candidate.TheVariants.{Incomplete, NotValid, Good}
use Rattle.frames.proofs.CandidateLaws.{first_is}

-- ---- the cases, at the front

module _ (t : List ℕ) (first : get_or t 0 0 ≡ 0xB5) where
  -- B5 alone
  alone : 1 ≤ length t → length t < 2 → Incomplete ≡ candidate ubx t
  unfolding candidate ubx
  alone h l =
      let z : get_or t 1 0 ≡ 0 = get_or-eq_default t 0 (omega arith) in
      rw (eq-eqb (get_or t 0 0) 0xB5 first, z, lt-leb 2 (length t) l)

  -- another byte than 62 follows
  other : 2 ≤ length t → (get_or t 1 0 ≡ 0x62 → ⊥) → NotValid 2 ≡ candidate ubx t
  unfolding candidate ubx
  other h n = rw (eq-eqb (get_or t 0 0) 0xB5 first, ne_eqb (get_or t 1 0) 0x62 n, le-leb 2 (length t) h)

  module _ (second : get_or t 1 0 ≡ 0x62) where
    -- the length is not there yet
    few : length t < 6 → Incomplete ≡ candidate ubx t
    unfolding candidate ubx
    few l =
        let z : get_or t 5 255 ≡ 255 = get_or-eq_default t 255 (omega arith) in
        rw (eq-eqb (get_or t 0 0) 0xB5 first, eq-eqb (get_or t 1 0) 0x62 second, lt-ltb 1021 (payload t) (omega arith), lt-leb 6 (length t) l)

    long : 6 ≤ length t → 1021 < payload t → NotValid 6 ≡ candidate ubx t
    unfolding candidate ubx
    long h l = rw (eq-eqb (get_or t 0 0) 0xB5 first, eq-eqb (get_or t 1 0) 0x62 second, lt-ltb 1021 (payload t) l, le-leb 6 (length t) h)

    module _ (l : payload t ≤ 1021) where
      cut : length t < payload t + 8 → Incomplete ≡ candidate ubx t
      unfolding candidate ubx
      cut h = rw (eq-eqb (get_or t 0 0) 0xB5 first, eq-eqb (get_or t 1 0) 0x62 second, le-ltb 1021 (payload t) l, lt-leb (payload t + 8) (length t) h)

      module _ (h : payload t + 8 ≤ length t) where
        good : same_sums (sent_sums t) (own_sums t) ≡ true → Good (payload t + 8) ≡ candidate ubx t
        unfolding candidate ubx
        good q = rw (eq-eqb (get_or t 0 0) 0xB5 first, eq-eqb (get_or t 1 0) 0x62 second, le-ltb 1021 (payload t) l, le-leb (payload t + 8) (length t) h, q)

        bad : same_sums (sent_sums t) (own_sums t) ≡ false → NotValid (payload t + 8) ≡ candidate ubx t
        unfolding candidate ubx
        bad q = rw (eq-eqb (get_or t 0 0) 0xB5 first, eq-eqb (get_or t 1 0) 0x62 second, le-ltb 1021 (payload t) l, le-leb (payload t + 8) (length t) h, q)

-- ---- the same at a place, by what the code reads there

-- a byte that is there reads the same whatever would stand for one that is not
there_reads : (s : List ℕ) (i a b : ℕ) → i < length s → get_or s i a ≡ get_or s i b
there_reads [] i a b h = absurd (not-suc-le-zero h)
there_reads (x ∷ s) zero a b h = refl
there_reads (x ∷ s) (suc i) a b h = there_reads s i a b (le_of_suc-le-suc h)

at_place : (s : List ℕ) (i k : ℕ) → get_or (drop i s) k 0 ≡ get_or s (i + k) 0
at_place s i k = get_or-drop i s k 0

-- the two bytes of the length, as they are read
pub payload_here : {low high a b : ℕ} → low ≡ a → high ≡ b → low + high * 256 ≡ a + b * 256
payload_here p q = rw (p, q)

-- and with the eight bytes around the payload taken away again
pub claimed : {m n : ℕ} → m ≡ n → m + 8 - 8 ≡ n
claimed {m} {n} e = omega arith

-- at place i of s stands B5
module _ (s : List ℕ) (i : ℕ) (e : get_or s i 0 ≡ 0xB5) where
  start : get_or (drop i s) 0 0 ≡ 0xB5
  start = first_is s i ∙ e

  pub ubx_alone : i < length s → length s < i + 2 → Incomplete ≡ candidate ubx (drop i s)
  ubx_alone h l = alone (drop i s) start (rw length-drop (omega arith)) (rw length-drop (omega arith))

  pub ubx_other : i + 2 ≤ length s → (get_or s (i + 1) 0 ≡ 0x62 → ⊥) → NotValid 2 ≡ candidate ubx (drop i s)
  ubx_other h n = other (drop i s) start (rw length-drop (omega arith)) (λ q. n (sym (at_place s i 1) ∙ q))

  module _ (f : get_or s (i + 1) 0 ≡ 0x62) where
    second : get_or (drop i s) 1 0 ≡ 0x62
    second = at_place s i 1 ∙ f

    pub ubx_few : length s < i + 6 → Incomplete ≡ candidate ubx (drop i s)
    ubx_few l = few (drop i s) start second (rw length-drop (omega arith))

    -- the payload is n bytes long
    module _ (h : i + 6 ≤ length s) (n : ℕ) (g : n ≡ get_or s (i + 4) 0 + get_or s (i + 5) 0 * 256) where
      payload_is : payload (drop i s) ≡ n
      payload_is =
          let a : get_or (drop i s) 4 255 ≡ get_or s (i + 4) 0 = there_reads (drop i s) 4 255 0 (rw length-drop (omega arith)) ∙ at_place s i 4 in
          let b : get_or (drop i s) 5 255 ≡ get_or s (i + 5) 0 = there_reads (drop i s) 5 255 0 (rw length-drop (omega arith)) ∙ at_place s i 5 in
          omega arith

      pub ubx_long : 1021 < n → NotValid 6 ≡ candidate ubx (drop i s)
      ubx_long l = long (drop i s) start second (rw length-drop (omega arith)) (omega (arith, payload_is))

      module _ (l : n ≤ 1021) where
        fits : payload (drop i s) ≤ 1021
        fits = omega (arith, payload_is)

        pub ubx_cut : length s < i + (n + 8) → Incomplete ≡ candidate ubx (drop i s)
        ubx_cut k = cut (drop i s) start second fits (rw (payload_is, length-drop) (omega arith))

        -- the sums computed are a and b
        module _ (k : i + (n + 8) ≤ length s) (a b : ℕ) (o : (a, b) ≡ sums (take (n + 4) (drop (i + 2) s))) where
          whole : payload (drop i s) + 8 ≤ length (drop i s)
          whole = rw (payload_is, length-drop) (omega arith)

          own_is : own_sums (drop i s) ≡ (a, b)
          own_is =
              ap (λ m. sums (take (m + 4) (drop 2 (drop i s)))) payload_is ∙ ap (λ t. sums (take (n + 4) t)) (drop-drop 2 i s) ∙ sym o

          first_sent : (sent_sums (drop i s)).0 ≡ get_or s (i + n + 6) 0
          first_sent =
              let m : i + (n + 6) ≡ i + n + 6 = omega arith in
              ap (λ m. get_or (drop i s) (m + 6) 0) payload_is ∙ at_place s i (n + 6) ∙ ap (λ m. get_or s m 0) m

          second_sent : (sent_sums (drop i s)).1 ≡ get_or s (i + n + 7) 0
          second_sent =
              let m : i + (n + 7) ≡ i + n + 7 = omega arith in
              ap (λ m. get_or (drop i s) (m + 7) 0) payload_is ∙ at_place s i (n + 7) ∙ ap (λ m. get_or s m 0) m

          same_is : same_sums (sent_sums (drop i s)) (own_sums (drop i s)) ≡ (eqb (get_or s (i + n + 6) 0) a && eqb (get_or s (i + n + 7) 0) b)
          same_is = λ j. eqb (first_sent j) (own_is j).0 && eqb (second_sent j) (own_is j).1

          told : (m : ℕ) → m ≡ n → m + 8 ≡ n + 8
          told m q = rw q

          pub ubx_first_bad : (get_or s (i + n + 6) 0 ≡ a → ⊥) → NotValid (n + 8) ≡ candidate ubx (drop i s)
          ubx_first_bad q =
              ap NotValid (sym (told _ payload_is)) ∙ bad (drop i s) start second fits whole (same_is ∙ rw (ne_eqb (get_or s (i + n + 6) 0) a q))

          module _ (p : get_or s (i + n + 6) 0 ≡ a) where
            pub ubx_second_bad : (get_or s (i + n + 7) 0 ≡ b → ⊥) → NotValid (n + 8) ≡ candidate ubx (drop i s)
            ubx_second_bad q =
                ap NotValid (sym (told _ payload_is)) ∙ bad (drop i s) start second fits whole (same_is ∙ rw (eq-eqb (get_or s (i + n + 6) 0) a p, ne_eqb (get_or s (i + n + 7) 0) b q))

            pub ubx_good : get_or s (i + n + 7) 0 ≡ b → Good (n + 8) ≡ candidate ubx (drop i s)
            ubx_good q =
                ap Good (sym (told _ payload_is)) ∙ good (drop i s) start second fits whole (same_is ∙ rw (eq-eqb (get_or s (i + n + 6) 0) a p, eq-eqb (get_or s (i + n + 7) 0) b q))

-- ---- each mode decides by the framing of the start byte

by_b5 : (t : List ℕ) → get_or t 0 0 ≡ 0xB5 → candidate ubx t ≡ candidate both t
unfolding candidate either
by_b5 t e = rw (eq-eqb (get_or t 0 0) 0xB5 e)

by_d3 : (t : List ℕ) → (get_or t 0 0 ≡ 0xB5 → ⊥) → candidate rtcm t ≡ candidate both t
unfolding candidate either
by_d3 t n = rw (ne_eqb (get_or t 0 0) 0xB5 n)

module _ (mode : ℕ) (t : List ℕ) where
  -- for RTCM only
  pub only_rtcm : mode ≡ 0 → candidate rtcm t ≡ candidate (framing_of mode) t
  only_rtcm e = rw (eq-eqb mode 0 e)

  module _ (n : mode ≡ 0 → ⊥) where
    candidate_both : candidate both t ≡ candidate (framing_of mode) t
    candidate_both = rw (ne_eqb mode 0 n)

    pub at_b5 : get_or t 0 0 ≡ 0xB5 → candidate ubx t ≡ candidate (framing_of mode) t
    at_b5 e = by_b5 t e ∙ candidate_both

    module _ (e : get_or t 0 0 ≡ 0xB5 → ⊥) where
      pub at_d3_lem : candidate rtcm t ≡ candidate (framing_of mode) t
      at_d3_lem = by_d3 t e ∙ candidate_both

-- a start byte of RTCM only is D3, and so is one of both kinds that is not B5
only_d3 : (mode x : ℕ) → mode ≡ 0 → starts_in mode x ≡ true → x ≡ 0xD3
only_d3 mode x e s = eqb-true x 0xD3 (rw (eq-eqb mode 0 e) at s)

else_d3 : (mode x : ℕ) → (mode ≡ 0 → ⊥) → (x ≡ 0xB5 → ⊥) → starts_in mode x ≡ true → x ≡ 0xD3
else_d3 mode x n e s = eqb-true x 0xD3 (rw (ne_eqb mode 0 n, ne_eqb x 0xB5 e) at s)

-- a B5 starts no frame of RTCM only; a start byte that is not B5 is D3, and decided as one of RTCM
pub b5_both : (mode x : ℕ) → x ≡ 0xB5 → starts_in mode x ≡ true → mode ≡ 0 → ⊥
b5_both mode x e s z = let d : x ≡ 0xD3 = only_d3 mode x z s in omega arith

pub other_d3 : (mode x : ℕ) → (x ≡ 0xB5 → ⊥) → starts_in mode x ≡ true → x ≡ 0xD3
other_d3 mode x e s = go (ℕ_discrete mode 0)
  where
    go : Dec (mode ≡ 0) → x ≡ 0xD3
    go (yes q) = only_d3 mode x q s
    go (no q) = else_d3 mode x q e s

pub at_other : (mode : ℕ) (t : List ℕ) → (get_or t 0 0 ≡ 0xB5 → ⊥) → candidate rtcm t ≡ candidate (framing_of mode) t
at_other mode t e = go (ℕ_discrete mode 0)
  where
    go : Dec (mode ≡ 0) → candidate rtcm t ≡ candidate (framing_of mode) t
    go (yes q) = only_rtcm mode t q
    go (no q) = at_d3_lem mode t q e
