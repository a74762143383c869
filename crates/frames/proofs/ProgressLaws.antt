-- A frame that is handed out brings a caller on: fewer items are left to come. Assumes nothing.
use mathlib.Core.Path.{◌≡◌, ap, ◌∙◌}
use mathlib.Core.List.{List, [], ◌∷◌, ◌++◌}
use Prim.Native.Nat.{ℕ, ◌≤◌, ◌<◌}
use native.Mathlib.Omega.{arith}
use lib.ListN.{length, take, drop, length-append}
use Rattle.bits.specs.Told.{Accepted}
use Rattle.bits.specs.Outcome.{outcome}
use Rattle.frames.specs.Scan.{Framed, scan}
use Rattle.frames.specs.Framing.{Framing, Lawful, decide}
use Rattle.frames.specs.Call.{Scanner, Frame, feed_of}
use Rattle.frames.specs.Offered.{Chain, start, then}
use Rattle.frames.proofs.FramingLaws.{decides}
use Rattle.frames.proofs.FeedLaws.{of_fed, feed_is}
use Rattle.frames.proofs.AnswerLaws.{is_frame}

-- how many items the whole-stream scan of the held bytes and a piece has
abbrev pub to_come : {W K : Type 0} → Framing W K → List ℕ → Scanner → List ℕ → ℕ
to_come F a x p = length (scan (decide F) (take x.count a ++ p)).items

module _ {W K : Type 0} (F : Framing W K) (L : Lawful F) (a : List ℕ) (x : Scanner) (p o : List ℕ) (l t s i : ℕ) (k : K) (y : Scanner) (b q : List ℕ)
    (e : feed_of F a x p o ≡ outcome (Accepted (Frame l t s i k y)) (b, q)) where
  pub fewer_to_come : to_come F b y (drop t p) < to_come F a x p
  fewer_to_come =
      let g = is_frame F a x p o L l t s i k y b q e in
      let is = g.items ++ (Framed k (take l q) ∷ []) in
      let js = (scan (decide F) (take y.count b ++ drop t p)).items in
      let u : to_come F a x p ≡ length (is ++ js) =
      ap (λ r. length r.items) (feed_is (decide F) (decides F L) p (take x.count a) ∙ ap (λ G. of_fed (decide F) G p) g.gives) in
      omega (arith, u, length-append is js, length-append g.items (Framed k (take l q) ∷ []))

-- EVERY CHAIN of calls that hand out frames is finite, whatever output each call is lent: the calls are no more than the items of the scan.
pub chain_ends : {W K : Type 0} (F : Framing W K) → Lawful F → {a p : List ℕ} {x : Scanner} {n : ℕ} → Chain F a x p n → n ≤ to_come F a x p
chain_ends F L start = omega arith
chain_ends F L (then {a} {p} {b} {q} {x} {y} {t} {s} {l} {i} {n} {k} o e r) = omega (arith, chain_ends F L r, fewer_to_come F L a x p o l t s i k y b q e)
