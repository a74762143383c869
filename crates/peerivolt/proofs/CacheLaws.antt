-- 32 bits of two's complement in 64: each case. Assumes nothing.
use mathlib.Core.Path.{◌≡◌}
use Prim.Native.Nat.{ℕ, ◌+◌, ◌^◌, ◌≤◌, ◌<◌}
use borrow.Author.Tests.{lt-ltb, le-ltb}
use Rattle.peerivolt.specs.Cache.{in_long}

pub stays : (b : ℕ) → b < 2147483648 → b ≡ in_long b
unfolding in_long
stays b h = simp (lt-ltb b (2 ^ 31) h)

pub rises : (b : ℕ) → 2147483648 ≤ b → b + 18446744069414584320 ≡ in_long b
unfolding in_long
rises b h = simp (le-ltb b (2 ^ 31) h)
