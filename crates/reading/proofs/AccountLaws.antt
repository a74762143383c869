-- An account with all taken is right. Assumes nothing.
use Rattle.std.proofs.Common.{arith}
use Rattle.reading.specs.Account.{Right, AllTaken}
use Rattle.reading.specs.declared.account.Account.{Account}

pub taken_right : (a : Account) → AllTaken a → Right a
taken_right a t = record { sum = omega (arith, t.sum, t.none); order = omega (arith, t.none); piece = t.piece; few = t.few }
