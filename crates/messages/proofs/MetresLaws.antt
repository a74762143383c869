-- Biases in metres: a product with a constant of the code is a product with the unit of the bias. Assumes nothing.
use mathlib.Core.Path.{◌≡◌, refl, ap}
use lib.Ieee.{Float, binary32, mul, of_bits, of_fields, round, units, odd, size}
use Rattle.messages.specs.Metres.{hundredths}

one_hundredth : of_bits binary32 1008981770 ≡ hundredths 1
unfolding of_bits round odd units size of_fields
one_hundredth = refl

two_hundredths : of_bits binary32 1017370378 ≡ hundredths 2
unfolding of_bits round odd units size of_fields
two_hundredths = refl

-- the bits 1008981770 are 0.01 as f32
pub times_one_hundredth : (x : Float) → mul binary32 x (of_bits binary32 1008981770) ≡ mul binary32 x (hundredths 1)
times_one_hundredth x = ap (λ (u : Float). mul binary32 x u) one_hundredth

-- the bits 1017370378 are 0.02 as f32
pub times_two_hundredths : (x : Float) → mul binary32 x (of_bits binary32 1017370378) ≡ mul binary32 x (hundredths 2)
times_two_hundredths x = ap (λ (u : Float). mul binary32 x u) two_hundredths
