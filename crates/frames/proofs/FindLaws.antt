-- The turns of the search for a frame: from one start byte to the next, over any lawful framing. Assumes nothing.
use mathlib.Core.Path.{◌≡◌, refl, sym, ap, ◌∙◌, subst₂}
use mathlib.Core.Bool.{Bool, false}
use mathlib.Core.List.{List, ◌++◌}
use Prim.Native.Nat.{ℕ, ◌+◌, ◌-◌, ◌^◌, ◌≤◌, ◌<◌, max}
use native.Mathlib.Omega.{arith}
use lib.ListN.{length, get_or, drop, length-append}
use Rattle.frames.specs.Scan.{Skip}
use Rattle.frames.specs.Framing.{Framing, Lawful, decide}
use Rattle.frames.specs.Feed.{feed}
use Rattle.frames.specs.Steps.{Start, candidate, searched}
use Rattle.frames.specs.declared.scan.Candidate.TheVariants.{Incomplete, NotValid, Good}
use Rattle.frames.specs.declared.scan.Searched.TheVariants.{More, Frame}
use Rattle.frames.proofs.SeamLaws.{length_from}
use Rattle.frames.proofs.CandidateLaws.{Says, says, first_is}
use Rattle.frames.proofs.StartLaws.{Starts}
use Rattle.frames.proofs.TurnLaws.{Reached, reached_start, turn_short, turn_skip, turn_take, turn_run}

-- bytes taken, as places and as counts
most_absorbs : (a b c : ℕ) → b ≤ c → max (max a b) c ≡ max a c
most_absorbs a b c l = omega arith

most_less : (h e k : ℕ) → h ≤ e → max e k - h ≡ max (e - h) (k - h)
most_less h e k l = omega arith

taken_more : (h e j n : ℕ) → h ≤ e → max e (j + n) - h ≡ max (max (e - h) (j - h)) (j + n - h)
taken_more h e j n l = most_less h e (j + n) l ∙ sym (most_absorbs (e - h) (j - h) (j + n - h) (omega arith))

-- the place behind a start is nearer to the end
pub nearer : (n i j : ℕ) → i < n → i ≤ j → n - (j + 1) < n - i
nearer n i j l k = omega arith

-- no more candidates failed than bytes were skipped
pub one_more_failed : (f i j : ℕ) → f ≤ i → i ≤ j → f + 1 ≤ j + 1
one_more_failed f i j l k = omega arith

-- a place within is below 2 ^ 64, and so is the next
pub sum_fits : (j n a : ℕ) → j + n ≤ a → a < 2 ^ 64 → j + n < 2 ^ 64
sum_fits j n a h l = omega arith

pub next_fits : (j a : ℕ) → j < a → a < 2 ^ 64 → j + 1 < 2 ^ 64
next_fits j a h l = omega arith

pub less_again : (b j : ℕ) → b ≤ j → b ≤ j + 1
less_again b j l = omega arith

module _ {W K : Type 0} (F : Framing W K) (L : Lawful F) (start : ℕ → Bool) (S : Starts F start) (h p : List ℕ) where
  -- a byte that is no start is decided by itself
  pub not_start : (s : List ℕ) (j : ℕ) → start (get_or s j 0) ≡ false → (F.need (drop j s) ≡ 1) × ((w : W) × (F.verdict (drop j s) ≡ Skip w))
  not_start s j e = let f = ap start (first_is s j) ∙ e in (S.alone (drop j s) f, S.skips (drop j s) f)

  -- i bytes were skipped, and the bytes up to place e were taken
  pub record Came (i e : ℕ) : Type 0 where
    pub behind : length h ≤ e
    pub reached : Reached F h p i (e - length h)

  pub came_first : Came 0 (length h)
  came_first =
      let z : 0 ≡ length h - length h = omega arith in
      record { behind = omega arith; reached = subst₂ (λ i t. Reached F h p i t) refl z (reached_start F h p) }

  -- what stands at the front waits
  pub front_waits : Incomplete ≡ candidate F (h ++ p) → More 0 ≡ searched (feed (decide F) h p)
  front_waits q =
      let w : Says F (drop 0 (h ++ p)) Incomplete = says F L (drop 0 (h ++ p)) Incomplete q in
      turn_short F h p L 0 0 (reached_start F h p) (omega (arith, length_from h p 0))

  module _ (i e : ℕ) (c : Came i e) where
    -- all was skipped
    pub all_skipped : length h + length p ≤ i → More i ≡ searched (feed (decide F) h p)
    all_skipped l = turn_short F h p L i (e - length h) c.reached (omega (arith, L.needs (drop i (h ++ p))))

    module _ (j : ℕ) (s : Start start (h ++ p) i j) where
      within : j ≤ length h + length p
      within = omega (arith, s.within, length-append h p)

      -- bytes that are no start are skipped as they come
      to_start : Reached F h p j (max (e - length h) (j - length h))
      to_start =
          let m : i + (j - i) ≡ j = omega (arith, s.from) in
          let t : max (e - length h) (i + (j - i) - length h) ≡ max (e - length h) (j - length h) = rw m in
          subst₂ (λ x y. Reached F h p x y) m t
          (turn_run F h p L i (e - length h) c.reached (j - i) (omega (arith, within))
          (λ k a b. not_start (h ++ p) k (s.none k (omega arith) a)))

      -- no start is left
      pub no_start : length h + length p ≤ j → More j ≡ searched (feed (decide F) h p)
      no_start l = turn_short F h p L j (max (e - length h) (j - length h)) to_start (omega (arith, L.needs (drop j (h ++ p))))

      -- what is left waits
      pub waits : Incomplete ≡ candidate F (drop j (h ++ p)) → More j ≡ searched (feed (decide F) h p)
      waits q =
          let w : Says F (drop j (h ++ p)) Incomplete = says F L (drop j (h ++ p)) Incomplete q in
          turn_short F h p L j (max (e - length h) (j - length h)) to_start (omega (arith, length_from h p j))

      module _ (n : ℕ) where
        pub bad_fits : NotValid n ≡ candidate F (drop j (h ++ p)) → j + n ≤ length h + length p
        bad_fits q =
            let w : Says F (drop j (h ++ p)) (NotValid n) = says F L (drop j (h ++ p)) (NotValid n) q in
            omega (arith, length_from h p j, within, w.0, w.1)

        pub good_fits : Good n ≡ candidate F (drop j (h ++ p)) → j + n ≤ length h + length p
        good_fits q =
            let w : Says F (drop j (h ++ p)) (Good n) = says F L (drop j (h ++ p)) (Good n) q in
            omega (arith, length_from h p j, within, w.0, w.1)

        -- the start byte is skipped
        pub passed : NotValid n ≡ candidate F (drop j (h ++ p)) → Came (j + 1) (max e (j + n))
        passed q =
            let w : Says F (drop j (h ++ p)) (NotValid n) = says F L (drop j (h ++ p)) (NotValid n) q in
            record {
              behind = omega (arith, c.behind);
              reached =
                  turn_skip F h p L j (max (e - length h) (j - length h)) to_start n (max e (j + n) - length h) w.2
                  (w.0, bad_fits q, taken_more (length h) e j n c.behind) w.3;
            }

        -- the frame is handed out
        pub finds : Good n ≡ candidate F (drop j (h ++ p)) → Frame j n (max e (j + n) - length h) ≡ searched (feed (decide F) h p)
        finds q =
            let w : Says F (drop j (h ++ p)) (Good n) = says F L (drop j (h ++ p)) (Good n) q in
            turn_take F h p L j (max (e - length h) (j - length h)) to_start n (max e (j + n) - length h) w.2
            (w.0, good_fits q, taken_more (length h) e j n c.behind) w.3
