-- What a search tells of a call: the places to move bytes from, that they are there, and that the moves make the outcome. Assumes nothing.
use mathlib.Core.Path.{◌≡◌, sym, ap, ap₂, ◌∙◌}
use mathlib.Core.List.{List, ◌++◌}
use Prim.Native.Nat.{ℕ, ◌+◌, ◌-◌, ◌≤◌}
use native.Mathlib.Nat.{sub-zero}
use native.Mathlib.Omega.{arith}
use lib.ListN.{length, get_or, take, drop, length-append}
use lib.Seq.{length-take-le}
use Rattle.bits.specs.Told.{Accepted}
use Rattle.bits.specs.Outcome.{outcome}
use Rattle.bits.specs.Onto.{onto}
use Rattle.frames.specs.Framing.{decide}
use Rattle.frames.specs.Rtcm.{Kind}
use Rattle.frames.specs.Modes.{framing_of}
use Rattle.frames.specs.Feed as fed
use Rattle.frames.specs.Feed.{Fed, feed}
use Rattle.frames.specs.Call.{Scanner, held_from, onwards, More, Frame, called, feed_of}
use Rattle.frames.specs.Steps.{searched, CanHold, kind_at, moved_frame, moved}
use Rattle.frames.specs.declared.scan.Searched.{Searched}
use Rattle.frames.specs.declared.scan.Searched.TheVariants as s
use Rattle.frames.proofs.KeptLaws.{Kept, kept, HeldWithin, bytes_alone, rest_is, front_is, back_is}
use Rattle.frames.proofs.CallLaws.{Fits, accepted}
use Rattle.frames.proofs.AnswerLaws.{held_count, stays_within}
use Rattle.frames.proofs.ModeLaws.{lawful}
use Rattle.frames.proofs.KindLaws.{KindFed, kind_fed}

module _ (a : List ℕ) (x : Scanner) (p o : List ℕ) (count : length (take x.count a) ≡ x.count) where
  abbrev h : List ℕ
  h = take x.count a

  -- and what is then left can be held
  pub can_hold : {W K : Type 0} (r : Fed W K) → Kept h p r → HeldWithin 1029 r → CanHold 1029 x.count (length p) (searched r)
  can_hold (fed.More t is g) k w =
      let e = simp (length-append, count) at (ap length k.1.bytes) in
      (omega (arith, e, bytes_alone is k.1.none), omega (arith, e, bytes_alone is k.1.none))
  can_hold (fed.Frame t is j f g) k w =
      let e = simp (length-append, length-take-le t p k.0, count) at (ap length k.1.bytes) in
      (k.0, omega (arith, e, bytes_alone is k.1.none), omega (arith, e, bytes_alone is k.1.none, simp length-append at w))

  -- the moves make what the call gives
  pub makes : {W : Type 0} (r : Fed W Kind) → Kept h p r → KindFed r → moved a x p o (searched r) ≡ called r x a o
  makes (fed.More t is g) k y =
      let l = simp (length-append, count) at (ap length k.1.bytes) in
      let e : x.count + length p - length is ≡ length g = omega (arith, l, bytes_alone is k.1.none) in
      let f : drop (length is) (h ++ p) ≡ g = sym (rest_is is g (h ++ p) k.1) in
      let u : length p ≡ t = sym k.0 in
      λ j. outcome (Accepted (More (u j) (length is) (onwards x (u j) (e j)))) (onto (f j) a, o)
  makes (fed.Frame t is i f g) k y =
      let l = simp (length-append, length-take-le t p k.0, count) at (ap length k.1.bytes) in
      let e : x.count + t - (length is + length f) ≡ length g = omega (arith, l, bytes_alone is k.1.none) in
      let u : drop (length is + length f) (h ++ take t p) ≡ g = sym (back_is is f g (h ++ take t p) k.1) in
      let v : take (length f) (drop (length is) (h ++ take t p)) ≡ f = sym (front_is is f g (h ++ take t p) k.1) in
      (λ j. moved_frame a x (length is) (length f) t (onto (v j) o) (u j) (e j))
      ∙ (λ j. outcome (Accepted (Frame (length f) t (length is) (held_from x + length is) (y o j) (onwards x t (length g)))) (onto g a, onto f o))

-- ---- a call that is accepted, by the search of its held bytes and its piece

module _ (mode : ℕ) (a : List ℕ) (x : Scanner) (p o : List ℕ) (f : Fits a x p o)
    (r : Searched) (e : r ≡ searched (feed (decide (framing_of mode)) (take (x.count - 0) a) p)) where
  same : r ≡ searched (feed (decide (framing_of mode)) (take x.count a) p)
  same = rw sub-zero at e

  held : length (take x.count a) ≡ x.count
  held = held_count (framing_of mode) a x p o f

  -- the places that the search found are there
  pub searched_can_hold : CanHold (length a) x.count (length p) r
  searched_can_hold =
      rw (same, f.area)
      (can_hold a x p o held (feed (decide (framing_of mode)) (take x.count a) p) (kept (decide (framing_of mode)) p (take x.count a)) (stays_within (framing_of mode) a x p o (lawful mode) f))

  -- and moving by them is the call
  pub searched_moves : moved a x p o r ≡ feed_of (framing_of mode) a x p o
  searched_moves =
      ap (moved a x p o) same
      ∙ makes a x p o held (feed (decide (framing_of mode)) (take x.count a) p) (kept (decide (framing_of mode)) p (take x.count a)) (kind_fed mode p (take x.count a))
      ∙ sym (accepted (framing_of mode) a x p o f)

-- ---- the moves, as the code makes them

module _ (a : List ℕ) (x : Scanner) (p o : List ℕ) where
  pub moved_more : (i k : ℕ) (y : Scanner) (b : List ℕ) → k ≡ x.count + length p - i → y ≡ onwards x (length p) k → b ≡ onto (drop i (take x.count a ++ p)) a
      → outcome (Accepted (More (length p) i y)) (b, o) ≡ moved a x p o (s.More i)
  moved_more i k y b ek ey eb =
      let z : y ≡ onwards x (length p) (x.count + length p - i) = ey ∙ ap (onwards x (length p)) ek in
      λ j. outcome (Accepted (More (length p) i (z j))) (eb j, o)

  pub moved_frame_lem : (i l t m k : ℕ) (d : Kind) (y : Scanner) (b c : List ℕ) → t ≤ length p → k ≡ x.count + length (take (t - 0) p) - (i + l)
      → m ≡ held_from x + i → d ≡ kind_at (get_or c 0 0) → y ≡ onwards x t k
      → b ≡ onto (drop (i + l) (take x.count a ++ take (t - 0) p)) a → c ≡ onto (take l (drop i (take (x.count - 0) a ++ take (t - 0) p))) o
      → outcome (Accepted (Frame l t i m d y)) (b, c) ≡ moved a x p o (s.Frame i l t)
  moved_frame_lem i l t m k d y b c h ek em ed ey eb ec =
      let n : k ≡ x.count + t - (i + l) = ek ∙ rw (sub-zero t, length-take-le t p h) in
      let z : y ≡ onwards x t (x.count + t - (i + l)) = ey ∙ ap (onwards x t) n in
      let u : b ≡ onto (drop (i + l) (take x.count a ++ take t p)) a = eb ∙ ap (λ r. onto (drop (i + l) (take x.count a ++ take r p)) a) (sub-zero t) in
      let v : c ≡ onto (take l (drop i (take x.count a ++ take t p))) o = ec ∙ ap₂ (λ q r. onto (take l (drop i (take q a ++ take r p))) o) (sub-zero x.count) (sub-zero t) in
      let w : d ≡ kind_at (get_or (onto (take l (drop i (take x.count a ++ take t p))) o) 0 0) = ed ∙ ap (λ q. kind_at (get_or q 0 0)) v in
      λ j. outcome (Accepted (Frame l t i (em j) (w j) (z j))) (u j, v j)
