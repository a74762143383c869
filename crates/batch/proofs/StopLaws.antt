-- Where a walk stops: what is taken, and what is then held. Assumes nothing.
use mathlib.Core.Path.{◌≡◌, sym, ap, ap₂, ◌∙◌, subst₂}
use mathlib.Core.Bool.{Bool, true, false, cond}
use mathlib.Core.List.{List, ◌++◌}
use Prim.Native.Nat.{ℕ, ◌+◌, ◌-◌, ◌≤◌, ◌<◌}
use native.Mathlib.Nat.{sub-zero}
use native.Mathlib.Omega.{arith}
use lib.ListN.{length, take, drop, length-append, length-drop}
use lib.Seq.{length-take-le}
use Rattle.bits.specs.Told.{Accepted}
use Rattle.bits.specs.Outcome.{outcome}
use Rattle.bits.specs.Onto.{onto}
use Rattle.frames.specs.Call.{Scanner, held_from, onwards}
use Rattle.batch.specs.Batch.{taken_of, left_of, Frames}
use Rattle.batch.specs.Steps.{found_by, Within, settled}
use Rattle.frames.specs.declared.list.Listing.{Listing}

module _ (w : Listing) (h p : ℕ) where
  pub takes_all : w.full ≡ false → p ≡ taken_of (found_by w) h p
  takes_all e = rw e

  pub takes_none : w.full ≡ true → w.stop < h → 0 ≡ taken_of (found_by w) h p
  takes_none e l = rw e (omega arith)

  pub takes_some : w.full ≡ true → w.stop - h ≡ taken_of (found_by w) h p
  takes_some e = rw e

  -- what is taken is there
  taken_there : (b : Bool) → w.stop ≤ h + p → cond b (w.stop - h) p ≤ p
  taken_there true l = omega arith
  taken_there false l = omega arith

  pub taken_fits : (area : ℕ) → Within area h p w → taken_of (found_by w) h p ≤ p
  taken_fits area v = taken_there w.full v.inside

  reached : (b : Bool) → w.stop ≤ h + p → w.stop ≤ h + cond b (w.stop - h) p
  reached true l = omega arith
  reached false l = l

  pub stop_taken : (area : ℕ) → Within area h p w → w.stop ≤ h + taken_of (found_by w) h p
  stop_taken area v = reached w.full v.inside

-- the places of a walk over the first n bytes of an area
pub within_area : (w : Listing) (a : List ℕ) (n m : ℕ) → length a ≡ 1029 → n ≤ length a → Within 1029 (length (take (n - 0) a)) m w → Within (length a) n m w
within_area w a n m e l v = subst₂ (λ i j. Within i j m w) (sym e) (length-take-le (n - 0) a (omega arith) ∙ sub-zero n) v

-- the moves, as the code makes them
module _ (w : Listing) (a : List ℕ) (x : Scanner) (p : List ℕ) (l : x.count ≤ length a) where
  pub settles : (t n s : ℕ) (y : Scanner) (i : ℕ) (b : List ℕ) → t ≡ taken_of (found_by w) x.count (length p) → t ≤ length p
      → n ≡ x.count + length (take (t - 0) p) - w.stop → y ≡ onwards x t n → i ≡ held_from x → s ≡ w.stop - w.framed
      → b ≡ onto (drop w.stop (take x.count a ++ take (t - 0) p)) a
      → outcome (Accepted (Frames w.count t s w.full i y)) b ≡ settled w x (take x.count a) p a
  settles t n s y i b et lt en ey ei es eb =
      let h = take x.count a in
      let lh : x.count ≡ length h = sym (length-take-le x.count a l) in
      let u : t ≡ taken_of (found_by w) (length h) (length p) = et ∙ ap (λ k. taken_of (found_by w) k (length p)) lh in
      let v : take (t - 0) p ≡ take (taken_of (found_by w) (length h) (length p)) p = ap (λ k. take k p) (sub-zero t ∙ u) in
      let g : drop w.stop (h ++ take (t - 0) p) ≡ left_of (found_by w) h p = ap (λ r. drop w.stop (h ++ r)) v in
      let m : n ≡ length (left_of (found_by w) h p) = en ∙ ap (λ k. k + length (take (t - 0) p) - w.stop) lh ∙ sym (length-drop w.stop (h ++ take (t - 0) p) ∙ ap (λ k. k - w.stop) (length-append h (take (t - 0) p))) ∙ ap length g in
      let z : y ≡ onwards x (taken_of (found_by w) (length h) (length p)) (length (left_of (found_by w) h p)) = ey ∙ ap₂ (onwards x) u m in
      λ j. outcome (Accepted (Frames w.count (u j) (es j) w.full (ei j) (z j))) ((eb ∙ ap (λ r. onto r a) g) j)
