-- A search that goes over failing candidates by the windows alone. Assumes nothing.
use mathlib.Core.Path.{◌≡◌, sym, ap, ◌∙◌, subst}
use mathlib.Core.Bool.{Bool}
use mathlib.Core.List.{List, ◌++◌}
use Prim.Native.Nat.{ℕ, ◌+◌, ◌-◌, ◌≤◌, ◌<◌, max}
use native.Mathlib.Omega.{arith}
use native.Mathlib.Decide.{dec_lt}
use lib.ListN.{length, get_or, drop}
use lib.Seq.{drop-append-add, get_or-append-add}
use Rattle.bits.specs.Fields.{Bytes}
use Rattle.frames.specs.Scan.{Skip}
use Rattle.frames.specs.Framing.{Framing, Lawful, decide}
use Rattle.frames.specs.Frame.{data_length}
use Rattle.frames.specs.Rtcm.{rtcm}
use Rattle.frames.specs.Steps.{Start, Tails, Passes, candidate}
use Rattle.frames.specs.declared.scan.Candidate.TheVariants.{NotValid}
use Rattle.frames.proofs.FramingLaws.{enough}
use Rattle.frames.proofs.SeamLaws.{length_from}
use Rattle.frames.proofs.CandidateLaws.{Says, says}
use Rattle.frames.proofs.StartLaws.{Starts}
use Rattle.frames.proofs.FindLaws.{not_start, passed}
use Rattle.frames.proofs.ManyLaws.{window_bad}

module _ {W K : Type 0} (F : Framing W K) (L : Lawful F) (start : ℕ → Bool) (S : Starts F start) (h p : List ℕ) where
  pub pass_none : (i e : ℕ) → i ≤ length h + length p → length h ≤ e → Passes F h p i e i e
  pass_none i e a b = record { on = omega arith; within = a; behind = b; skips = λ k x y. absurd (omega arith); reaches = λ r. r }

  -- a candidate that fails lies within
  pub fail_fits : (k n : ℕ) → k ≤ length h + length p → NotValid n ≡ candidate F (drop k (h ++ p)) → k + n ≤ length h + length p
  fail_fits k n l q = let w : Says F (drop k (h ++ p)) (NotValid n) = says F L (drop k (h ++ p)) (NotValid n) q in omega (arith, w.0, w.1, length_from h p k)

  module _ (i e j f : ℕ) (c : Passes F h p i e j f) (k : ℕ) (t : Start start (h ++ p) j k) (n : ℕ) (q : NotValid n ≡ candidate F (drop k (h ++ p))) where
    said : Says F (drop k (h ++ p)) (NotValid n)
    said = says F L (drop k (h ++ p)) (NotValid n) q

    within : k < length h + length p
    within = omega (arith, said.0, said.1, L.needs (drop k (h ++ p)), length_from h p k)

    skipped : (m : ℕ) → i ≤ m → m < k + 1 → Dec (m < j) → Dec (m < k) → (w : W) × (decide F (drop m (h ++ p)) ≡ Skip w)
    skipped m a b (yes x) y = c.skips m a x
    skipped m a b (no x) (yes y) =
        let v = not_start F L start S h p (h ++ p) m (t.none m y (omega arith)) in
        let z : F.need (drop m (h ++ p)) ≤ length (drop m (h ++ p)) = omega (arith, v.0, length_from h p m, within) in
        (v.1.0, enough F (drop m (h ++ p)) z ∙ v.1.1)
    skipped m a b (no x) (no y) =
        let z : k ≡ m = omega arith in
        subst (λ r. (w : W) × (decide F (drop r (h ++ p)) ≡ Skip w)) z (said.2, enough F (drop k (h ++ p)) said.1 ∙ said.3)

    -- a candidate more that fails
    pub pass_more : Passes F h p i e (k + 1) (max f (k + n))
    pass_more =
        record {
          on = omega (arith, c.on, t.from);
          within = omega (arith, within);
          behind = omega (arith, c.behind);
          skips = λ m a b. skipped m a b (dec_lt m j) (dec_lt m k);
          reaches = λ r. (passed F L start S h p j f (record { behind = c.behind; reached = c.reaches r }) k t n q).reached;
        }

-- a byte of the piece
pub piece_at : (h p : List ℕ) (i m : ℕ) → length h ≤ i → get_or p (i - length h + m) 0 ≡ get_or (h ++ p) (i + m) 0
piece_at h p i m l =
    let e : length h + (i - length h + m) ≡ i + m = omega arith in
    sym (get_or-append-add h p (i - length h + m) 0) ∙ ap (λ k. get_or (h ++ p) k 0) e

-- the D3 at place i, which lies in the piece, claims n bytes of data, and two tails of the window say that it fails
pub rtcm_fails : (h p q : List ℕ) (base stop : ℕ) → Tails (h ++ p) q base stop → Bytes (h ++ p) → (i d : ℕ) → i ≡ length h + d → base ≤ i → i + 1029 ≤ stop → get_or (h ++ p) i 0 ≡ 0xD3
    → (n : ℕ) → n ≡ data_length (drop d p) → n < 1024 → (get_or q (i - base) 0 ≡ get_or q (i - base + n + 6) 0 → ⊥) → NotValid (n + 6) ≡ candidate rtcm (drop i (h ++ p))
rtcm_fails h p q base stop w b i d e f r d3 n g m x =
    let claims : n ≡ data_length (drop i (h ++ p)) = g ∙ ap data_length (sym (drop-append-add h p d) ∙ ap (λ k. drop k (h ++ p)) (sym e)) in
    window_bad (h ++ p) q base stop w b i n f (omega arith) d3 claims x
