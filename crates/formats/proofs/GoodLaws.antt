-- A format without a message number keeps to both: it is faithful, and refuses nothing but Short. Assumes nothing.
use Prim.Native.Nat.{ℕ, ◌≤◌}
use Rattle.formats.specs.Format.{Format, unsigned, twos, next, ◌then◌, times, shaped, counted}
use Rattle.formats.specs.Faithful.{Faithful, OnlyShort}
use Rattle.formats.proofs.OneLaws.{unsigned_faithful, unsigned_short, twos_faithful, twos_short}
use Rattle.formats.proofs.NextLaws.{next_faithful, next_short}
use Rattle.formats.proofs.TimesLaws.{times_faithful, times_short}
use Rattle.formats.proofs.ShapedLaws.{Shape, shaped_faithful, shaped_short, counted_faithful, counted_short}

-- both laws of a format
pub record Good {A : Type 0} (F : Format A) : Type 0 where
  pub faithful : Faithful F
  pub short : OnlyShort F

pub unsigned_good : (w : ℕ) → 1 ≤ w → w ≤ 64 → Good (unsigned w)
unsigned_good w low high = record { faithful = unsigned_faithful w low high; short = unsigned_short w low high }

pub twos_good : (w : ℕ) → 1 ≤ w → w ≤ 64 → Good (twos w)
twos_good w low high = record { faithful = twos_faithful w low high; short = twos_short w low high }

pub next_good : {A B : Type 0} {F : Format A} {G : A → Format B} → Good F → ((a : A) → Good (G a)) → Good (next F G)
next_good {A} {B} {F} {G} f g =
    record {
      faithful = next_faithful F G f.faithful (λ a. (g a).faithful);
      short = next_short F G f.short (λ a. (g a).short);
    }

pub then_good : {A B : Type 0} {F : Format A} {G : Format B} → Good F → Good G → Good (F then G)
then_good f g = next_good f (λ a. g)

pub times_good : {A : Type 0} {F : Format A} → Good F → (n : ℕ) → Good (times n F)
times_good {A} {F} f n = record { faithful = times_faithful F f.faithful n; short = times_short F f.short n }

pub counted_good : {A : Type 0} (w : ℕ) {F : Format A} → 1 ≤ w → w ≤ 64 → Good F → Good (counted w F)
counted_good w {F} low high f = record { faithful = counted_faithful w low high F f.faithful; short = counted_short w low high F f.short }

pub shaped_good : {A B : Type 0} (to : A → B) (from : B → A) {F : Format A} → Shape to from F → Good F → Good (shaped to from F)
shaped_good to from {F} u f = record { faithful = shaped_faithful to from F u f.faithful; short = shaped_short to from F f.short }
