-- Windows: what a new one holds, and what it tells of a candidate. Assumes nothing.
use mathlib.Core.Path.{◌≡◌, refl, sym, ap, ap₂, ◌∙◌, subst}
use mathlib.Core.List.{List, ◌++◌}
use Prim.Native.Nat.{ℕ, ◌+◌, ◌-◌, ◌*◌, ◌≤◌, ◌<◌}
use native.Mathlib.Omega.{arith}
use native.Mathlib.Decide.{dec_lt}
use lib.ListN.{length, get_or, take, drop, length-append, length-drop}
use lib.Seq.{length-take-le, take-add, take_at, drop_at, drop-drop}
use Rattle.bits.specs.Onto.{onto}
use Rattle.bits.specs.Fields.{Bytes}
use Rattle.bits.specs.Field.{field}
use Rattle.bits.specs.Crc.{crc}
use Rattle.window.specs.Tails.{tails, stored}
use Rattle.window.proofs.TailLaws.{length_tails, tails_at, level, level_back, sums_agree, sums_agree_back}
use Rattle.window.proofs.FillLaws.{with_room}
use Rattle.frames.specs.Frame.{data_length}
use Rattle.frames.specs.Rtcm.{rtcm}
use Rattle.frames.specs.Steps.{Tails, candidate}
use Rattle.frames.specs.declared.scan.Candidate.TheVariants.{NotValid, Good}
use Rattle.frames.proofs.SeamLaws.{at_left, at_right}
use Rattle.frames.proofs.CandidateLaws.{candidate_good, candidate_bad}

-- bytes of the held and of the piece are bytes of both
pub both_bytes : (h p : List ℕ) → ((k : ℕ) → get_or h k 0 < 256) → ((k : ℕ) → get_or p k 0 < 256) → Bytes (h ++ p)
both_bytes h p a b = record { byte = λ k. go k (dec_lt k (length h)) }
  where
    go : (k : ℕ) → Dec (k < length h) → get_or (h ++ p) k 0 < 256
    go k (yes q) = subst (λ (x : ℕ). x < 256) (at_left h p k q) (a k)
    go k (no q) = subst (λ (x : ℕ). x < 256) (at_right h p k (omega arith)) (b (k - length h))

-- ---- a new window

-- what stands behind the first k of n bytes
rest : (l : List ℕ) (k n : ℕ) → k ≤ n → n ≤ length l → drop k (take n l) ≡ take (n - k) (drop k l)
rest l k n h m =
    let e : n ≡ k + (n - k) = omega arith in
    ap (λ (j : ℕ). drop k (take j l)) e
    ∙ ap (drop k) (take-add k (n - k) l)
    ∙ drop_at (take k l) (take (n - k) (drop k l)) k (length-take-le k l (omega arith))

module _ (s d q x : List ℕ) (i n : ℕ) (fits : i + n ≤ length s) (room : n < length q)
    (e : x ≡ stored (take (n - 0) (onto (take n (drop i s)) d)) q) where
  abbrev part : List ℕ
  part = take n (drop i s)

  part_length : length part ≡ n
  part_length = length-take-le n (drop i s) (rw (length-drop i s) (omega arith))

  area : x ≡ onto (tails part) q
  area =
      let z : n - 0 ≡ n = omega arith in
      e
      ∙ ap (λ (l : List ℕ). stored l q) (ap (λ (k : ℕ). take k (onto part d)) z ∙ take_at part (drop (length part) d) n part_length)
      ∙ sym (with_room part q (subst (λ (k : ℕ). k < length q) (sym part_length) room))

  tails_count : length (tails part) ≡ n + 1
  tails_count = length_tails part ∙ omega (arith, part_length)

  pub area_length : length x ≡ length q
  area_length =
      ap length area ∙ length-append (tails part) (drop (length (tails part)) q)
      ∙ ap (λ (k : ℕ). length (tails part) + k) (length-drop (length (tails part)) q)
      ∙ omega (arith, tails_count)

  tail_at : (k : ℕ) → i + k ≤ i + n → get_or x k 0 ≡ crc (take ((i + n) - (i + k)) (drop (i + k) s))
  tail_at k h =
      let z : n - k ≡ (i + n) - (i + k) = omega arith in
      ap (λ (l : List ℕ). get_or l k 0) area
      ∙ sym (at_left (tails part) (drop (length (tails part)) q) k (omega (arith, tails_count)))
      ∙ tails_at part k (omega (arith, part_length))
      ∙ ap crc (rest (drop i s) k n (omega arith) (rw (length-drop i s) (omega arith)))
      ∙ ap₂ (λ (m : ℕ) (l : List ℕ). crc (take m l)) z (drop-drop k i s)

  pub opened : Tails s x i (i + n)
  opened = record { ordered = omega arith; within = fits; room = omega (arith, area_length); sums = tail_at }

-- ---- a candidate

module _ (s q : List ℕ) (base stop : ℕ) (w : Tails s q base stop) (b : Bytes s) (i n : ℕ) (behind : base ≤ i) (reach : i + (n + 6) ≤ stop)
    (d3 : get_or s i 0 ≡ 0xD3) (f : n ≡ data_length (drop i s)) where
  fits : i + (n + 6) ≤ length s
  fits = omega (arith, w.within)

  first_sum : get_or q (i - base) 0 ≡ crc (take (stop - i) (drop i s))
  first_sum =
      let e : base + (i - base) ≡ i = omega arith in
      w.sums (i - base) (omega arith) ∙ ap (λ (k : ℕ). crc (take (stop - k) (drop k s))) e

  second_sum : get_or q (i - base + n + 6) 0 ≡ crc (take (stop - (i + (n + 6))) (drop (i + (n + 6)) s))
  second_sum =
      let e : base + (i - base + n + 6) ≡ i + (n + 6) = omega arith in
      w.sums (i - base + n + 6) (omega arith) ∙ ap (λ (k : ℕ). crc (take (stop - k) (drop k s))) e

  pub in_area : i - base + n + 6 < length q
  in_area = omega (arith, w.room)

  pub window_good : get_or q (i - base) 0 ≡ get_or q (i - base + n + 6) 0 → Good (n + 6) ≡ candidate rtcm (drop i s)
  window_good e =
      candidate_good s i d3 n f (crc (take (n + 3) (drop i s))) (field s ((i + n + 3) * 8) 24) fits refl refl
      (sums_agree s b i n fits (level s i (n + 6) stop reach (sym first_sum ∙ e ∙ second_sum)))

  pub window_bad : (get_or q (i - base) 0 ≡ get_or q (i - base + n + 6) 0 → ⊥) → NotValid (n + 6) ≡ candidate rtcm (drop i s)
  window_bad e =
      candidate_bad s i d3 n f (crc (take (n + 3) (drop i s))) (field s ((i + n + 3) * 8) 24) fits refl refl
      (λ r. e (first_sum ∙ level_back s i (n + 6) stop reach (sums_agree_back s b i n fits r) ∙ sym second_sum))
