-- Over no bytes the sum as it is; else at most seven bytes by the table, and the words behind them by folding. Assumes nothing.
use mathlib.Core.Path.{sym, ap, ◌∙◌}
use Prim.Native.Nat.{ℕ, ◌*◌, ◌%◌, ◌^◌}
use native.Mathlib.Omega.{arith}
use lib.ListN.{length, drop}
use lib.Bits.{bit_xor}
use Rattle.bits.specs.Crc.{crc_from}
use Rattle.bits.proofs.CrcLaws.{from_end}
use Rattle.bits.proofs.TableLaws.{from_mod}
use Rattle.bits.proofs.StepLaws.{begun, front_first, all_front}
use borrow.Author.Rules.{rules}
use borrow.Author.Tests.{eqb-true, eqb-false}
use Rattle.bits.proofs.crc.crc24q_from.Goals as goal

pub returns-then-bytes-lt8 : goal.returns-then-bytes-lt8
returns-then-bytes-lt8 c =
    let a = c.args in
    let s = a.bytes.now in
    c.by_table-c.ensures ∙ all_front s (a.sum % 2 ^ 24) (omega arith) ∙ from_mod s a.sum (omega (arith, eqb-false _ _ (sym c.is_empty.ensures ∙ c.if-is_empty.false)))

pub returns : goal.returns
returns c =
    let g = c.before.before.before.before.before.before.before in
    let s = g.args.bytes.now in
    let f = c.by_table-c in
    c.words.ensures
    ∙ begun s (length s % 8) f.result _ (omega arith)
    (λ k. (c.type_inv.bytes k).fits) (search rules)
    (ap (bit_xor (f.result * 2 ^ 40 % 2 ^ 64)) c.eight_at-word.ensures)
    ∙ ap (λ (z : ℕ). crc_from z (drop (length s % 8) s)) f.ensures
    ∙ front_first s (g.args.sum % 2 ^ 24)
    ∙ from_mod s g.args.sum (omega arith)

pub returns-then-is_empty : goal.returns-then-is_empty
returns-then-is_empty c =
    let a = c.args in
    sym (from_end a.bytes.now 0 a.sum (omega (arith, eqb-true _ _ (sym c.if-is_empty.ensures))))
