-- Eight bytes are the field's eight digits. Assumes nothing.
use Rattle.std.proofs.Common.{◌+◌, ◌^◌, ◌<◌, get_or, arith}
use Rattle.bits.proofs.FieldLaws.{eight_field}
use Rattle.bits.proofs.raw.eight_at.Goals as goal

pub returns : goal.returns
returns c =
    let s = c.args.bytes.now in
    let i = c.args.i in
    let x = c.from_be_bytes.ensures in
    let y = eight_field s i in
    let b0 : get_or s i 0 < 2 ^ 8 = (c.type_inv.bytes i).fits in
    let b1 : get_or s (i + 1) 0 < 2 ^ 8 = (c.type_inv.bytes (i + 1)).fits in
    let b2 : get_or s (i + 2) 0 < 2 ^ 8 = (c.type_inv.bytes (i + 2)).fits in
    let b3 : get_or s (i + 3) 0 < 2 ^ 8 = (c.type_inv.bytes (i + 3)).fits in
    let b4 : get_or s (i + 4) 0 < 2 ^ 8 = (c.type_inv.bytes (i + 4)).fits in
    let b5 : get_or s (i + 5) 0 < 2 ^ 8 = (c.type_inv.bytes (i + 5)).fits in
    let b6 : get_or s (i + 6) 0 < 2 ^ 8 = (c.type_inv.bytes (i + 6)).fits in
    let b7 : get_or s (i + 7) 0 < 2 ^ 8 = (c.type_inv.bytes (i + 7)).fits in
    omega arith
