-- What each number of four bits adds, computed, by cases. Assumes nothing.
use mathlib.Core.Path.{sym, ap, ◌∙◌}
use Prim.Native.Nat.{ℕ, ◌*◌}
use Rattle.bits.specs.Crc.{crc_byte}
use Rattle.window.proofs.MoveLaws.{move, moves, byte_alone}
use Rattle.window.proofs.HalfLaws.{last}
use Rattle.window.proofs.upper.Goals as goal

pub returns-in-0 : goal.returns-in-0
unfolding moves move
returns-in-0 c = sym (byte_alone 0) ∙ ap (λ (k : ℕ). crc_byte 0 (k * 16)) (sym c.in-0.is)

pub returns-in-1 : goal.returns-in-1
unfolding moves move
returns-in-1 c = sym (byte_alone 16) ∙ ap (λ (k : ℕ). crc_byte 0 (k * 16)) (sym c.in-1.is)

pub returns-in-2 : goal.returns-in-2
unfolding moves move
returns-in-2 c = sym (byte_alone 32) ∙ ap (λ (k : ℕ). crc_byte 0 (k * 16)) (sym c.in-2.is)

pub returns-in-3 : goal.returns-in-3
unfolding moves move
returns-in-3 c = sym (byte_alone 48) ∙ ap (λ (k : ℕ). crc_byte 0 (k * 16)) (sym c.in-3.is)

pub returns-in-4 : goal.returns-in-4
unfolding moves move
returns-in-4 c = sym (byte_alone 64) ∙ ap (λ (k : ℕ). crc_byte 0 (k * 16)) (sym c.in-4.is)

pub returns-in-5 : goal.returns-in-5
unfolding moves move
returns-in-5 c = sym (byte_alone 80) ∙ ap (λ (k : ℕ). crc_byte 0 (k * 16)) (sym c.in-5.is)

pub returns-in-6 : goal.returns-in-6
unfolding moves move
returns-in-6 c = sym (byte_alone 96) ∙ ap (λ (k : ℕ). crc_byte 0 (k * 16)) (sym c.in-6.is)

pub returns-in-7 : goal.returns-in-7
unfolding moves move
returns-in-7 c = sym (byte_alone 112) ∙ ap (λ (k : ℕ). crc_byte 0 (k * 16)) (sym c.in-7.is)

pub returns-in-8 : goal.returns-in-8
unfolding moves move
returns-in-8 c = sym (byte_alone 128) ∙ ap (λ (k : ℕ). crc_byte 0 (k * 16)) (sym c.in-8.is)

pub returns-in-9 : goal.returns-in-9
unfolding moves move
returns-in-9 c = sym (byte_alone 144) ∙ ap (λ (k : ℕ). crc_byte 0 (k * 16)) (sym c.in-9.is)

pub returns-in-10 : goal.returns-in-10
unfolding moves move
returns-in-10 c = sym (byte_alone 160) ∙ ap (λ (k : ℕ). crc_byte 0 (k * 16)) (sym c.in-10.is)

pub returns-in-11 : goal.returns-in-11
unfolding moves move
returns-in-11 c = sym (byte_alone 176) ∙ ap (λ (k : ℕ). crc_byte 0 (k * 16)) (sym c.in-11.is)

pub returns-in-12 : goal.returns-in-12
unfolding moves move
returns-in-12 c = sym (byte_alone 192) ∙ ap (λ (k : ℕ). crc_byte 0 (k * 16)) (sym c.in-12.is)

pub returns-in-13 : goal.returns-in-13
unfolding moves move
returns-in-13 c = sym (byte_alone 208) ∙ ap (λ (k : ℕ). crc_byte 0 (k * 16)) (sym c.in-13.is)

pub returns-in-14 : goal.returns-in-14
unfolding moves move
returns-in-14 c = sym (byte_alone 224) ∙ ap (λ (k : ℕ). crc_byte 0 (k * 16)) (sym c.in-14.is)

pub returns-in_default : goal.returns-in_default
unfolding moves move
returns-in_default c = sym (byte_alone 240) ∙ ap (λ (k : ℕ). crc_byte 0 (k * 16)) (sym (last c.args.k c.requires (assumption) (assumption) (assumption) (assumption) (assumption) (assumption) (assumption) (assumption) (assumption) (assumption) (assumption) (assumption) (assumption) (assumption) (assumption)))
