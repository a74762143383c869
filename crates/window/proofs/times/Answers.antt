-- Each bit times the weight moved up to it, as it is defined. Assumes nothing.
use mathlib.Core.Path.{refl}
use native.Mathlib.Omega.{arith}
use Rattle.window.specs.Steps.{times}
use Rattle.window.proofs.ProductLaws.{bit_fits}
use Rattle.window.proofs.times.Goals as goal

pub overflow_mul-result : goal.overflow_mul-result
overflow_mul-result c = record { fits = bit_fits _ _ (omega arith) (omega arith) }

pub overflow_mul-result-2 : goal.overflow_mul-result-2
overflow_mul-result-2 c = record { fits = bit_fits _ _ (omega arith) (omega arith) }

pub overflow_mul-result-3 : goal.overflow_mul-result-3
overflow_mul-result-3 c = record { fits = bit_fits _ _ (omega arith) (omega arith) }

pub overflow_mul-result-4 : goal.overflow_mul-result-4
overflow_mul-result-4 c = record { fits = bit_fits _ _ (omega arith) (omega arith) }

pub overflow_mul-result-5 : goal.overflow_mul-result-5
overflow_mul-result-5 c = record { fits = bit_fits _ _ (omega arith) (omega arith) }

pub overflow_mul-result-6 : goal.overflow_mul-result-6
overflow_mul-result-6 c = record { fits = bit_fits _ _ (omega arith) (omega arith) }

pub overflow_mul-result-7 : goal.overflow_mul-result-7
overflow_mul-result-7 c = record { fits = bit_fits _ _ (omega arith) (omega arith) }

pub overflow_mul-result-8 : goal.overflow_mul-result-8
overflow_mul-result-8 c = record { fits = bit_fits _ _ (omega arith) (omega arith) }

pub returns : goal.returns
unfolding times
returns c = refl
