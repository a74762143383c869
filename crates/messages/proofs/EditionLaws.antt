-- The editions of the 1059 signals: a later one keeps every signal of an earlier, and so writes what that writes, to the same bits. Assumes nothing.
use mathlib.Core.Path.{◌≡◌, sym, ap, ap₂, subst, ◌∙◌}
use mathlib.Core.Bool.{Bool, true, false, cond, ◌&&◌}
use mathlib.Core.List.{List, [], ◌∷◌}
use Prim.Native.Nat.{ℕ, ◌≤◌, ◌<◌}
use native.Mathlib.Omega.{arith}
use borrow.Author.Tests.{ltb-true, le-ltb}
use lib.Dec.{T, ltb, eqb, eqb→eq}
use lib.ListN.{length}
use lib.IntN.{ℤ}
use Rattle.bits.specs.Told.{Accepted}
use Rattle.messages.specs.Every.{Every}
use Rattle.messages.specs.Records.{Rec1059, signal_of1059, records1059}
use Rattle.messages.specs.Signals.{Signal, sig, Entry, Found, At, None, is_at, signal_of}
use Rattle.messages.specs.Signals1059.{edition1, edition2, editions, is_edition, signals1059, is_signal1059}
use Rattle.messages.specs.Write1059.{write1059}
use Rattle.messages.proofs.TestLaws.{left, right, below, below_place}
use Rattle.messages.proofs.Signals1059Laws.{signal_fits}
use Rattle.messages.proofs.Accepts1059.{Writable, Writes, edition_known, call_written, call_accepted}

-- ---- a later edition keeps what an earlier assigns

same_found : Found Signal → Found Signal → Bool
same_found (At (sig b l)) (At (sig c m)) = eqb b c && eqb l m
same_found (At (sig b l)) None = false
same_found None f = false

same_found_lem : (x y : Found Signal) → T (same_found x y) → x ≡ y
unfolding same_found
same_found_lem (At (sig b l)) (At (sig c m)) t = ap₂ (λ (x y : ℕ). At (sig x y)) (eqb→eq b c (left (eqb b c) (eqb l m) t)) (eqb→eq l m (right (eqb b c) (eqb l m) t))
same_found_lem (At (sig b l)) None t = absurd t
same_found_lem None y t = absurd t

-- what the table t has at n, the table u has too
kept_at : List Entry → List Entry → ℕ → Bool
kept_at t u n = cond (is_at (signal_of t n)) (same_found (signal_of t n) (signal_of u n)) true

-- the test over every edition, every earlier one and every number of five bits
all_kept : T (below (λ f. below (λ e. cond (ltb f e) true (below (kept_at (signals1059 e) (signals1059 f)) 32)) (length editions)) (length editions))
unfolding kept_at same_found signals1059 edition1 edition2 signal_of
all_kept = tt

in_editions : (f : ℕ) → is_edition f ≡ true → f < length editions
in_editions f h = ltb-true f (length editions) (go (ltb 0 f) (ltb f (length editions)) h)
  where
    go : (a b : Bool) → (a && b) ≡ true → b ≡ true
    go true b e = e
    go false b e = let z : ◌≡◌ {A = ℕ} 0 1 = cc in absurd (omega arith)

module _ (e f : ℕ) (l : e ≤ f) (known : is_edition f ≡ true) where
  kept : (n : ℕ) → n < 32 → T (kept_at (signals1059 e) (signals1059 f) n)
  kept n h =
      let k = in_editions f known in
      let a = below_place (λ f. below (λ e. cond (ltb f e) true (below (kept_at (signals1059 e) (signals1059 f)) 32)) (length editions)) (length editions) all_kept f k in
      let b = below_place (λ e. cond (ltb f e) true (below (kept_at (signals1059 e) (signals1059 f)) 32)) (length editions) a e (omega (arith, k)) in
      let c : T (below (kept_at (signals1059 e) (signals1059 f)) 32) = subst (λ (q : Bool). T (cond q true (below (kept_at (signals1059 e) (signals1059 f)) 32))) (le-ltb f e l) b in
      below_place (kept_at (signals1059 e) (signals1059 f)) 32 c n h

  -- the same number has the same signal
  pub later_names : (n : ℕ) → is_signal1059 e n ≡ true → signal_of (signals1059 f) n ≡ signal_of (signals1059 e) n
  unfolding is_signal1059 kept_at
  later_names n h =
      sym (same_found_lem (signal_of (signals1059 e) n) (signal_of (signals1059 f) n)
      (subst (λ (q : Bool). T (cond q (same_found (signal_of (signals1059 e) n) (signal_of (signals1059 f) n)) true)) h (kept n (signal_fits e n h))))

  later_assigns : (n : ℕ) → is_signal1059 e n ≡ true → is_signal1059 f n ≡ true
  unfolding is_signal1059
  later_assigns n h = ap is_at (later_names n h) ∙ h

  later_writable : (rs : List Rec1059) → Every (Writable e) rs → Every (Writable f) rs
  later_writable [] w = tt
  later_writable (r ∷ rs) w =
      (record { low = w.0.low; known = later_assigns (signal_of1059 r) w.0.known; fits = w.0.fits }, later_writable rs w.1)

  -- what an edition accepts, a later one writes to the same bits
  pub later_writes : (s : List ℕ) (p : ℕ) (sats gs : List ℕ) (zs : List ℤ) {q : ℕ} → (write1059 e s p sats gs zs).answer ≡ Accepted q
      → write1059 f s p sats gs zs ≡ write1059 e s p sats gs zs
  later_writes s p sats gs zs h =
      let w = call_accepted e s p sats gs zs h in
      let v : Writes f s p sats gs zs =
      record {
        edition = edition_known f known;
        few = w.few;
        signals = w.signals;
        biases = w.biases;
        most = w.most;
        records = record { clean = later_writable (records1059 sats gs zs) w.records.clean; thin = w.records.thin; fewer = w.records.fewer; single = w.records.single };
        within = w.within;
      } in
      call_written f s p sats gs zs v ∙ sym (call_written e s p sats gs zs w)
