-- An answer of the code is fixed by what it tells, and so by its statement. Assumes nothing.
use mathlib.Core.Path.{◌≡◌, refl, ap, ap₂}
use Prim.Native.Nat.{ℕ}
use Rattle.bits.specs.Told.{OneToOne}
use Rattle.bits.proofs.RefusalLaws.{told_one_to_one}
use Rattle.settings.specs.Read.{Found, found}
use Rattle.settings.specs.Answers.{told_read, told_written}
use Rattle.settings.specs.declared.read.Settings.{Settings}

same_settings : (s t : Settings) → found s.count s.edition ≡ found t.count t.edition → s ≡ t
same_settings s t e = ap₂ (λ (n m : ℕ). record { count = n; edition = m }) (ap (λ (f : Found). f.count) e) (ap (λ (f : Found). f.edition) e)

pub read_one_to_one : OneToOne told_read
read_one_to_one = told_one_to_one (λ s. found s.count s.edition) same_settings

pub written_one_to_one : OneToOne told_written
written_one_to_one = told_one_to_one (λ done. 512) (λ x y e. refl)
