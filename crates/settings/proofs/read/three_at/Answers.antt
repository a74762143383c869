-- Three bytes are the field's three digits. Assumes nothing.
use Rattle.std.proofs.Common.{◌+◌, ◌^◌, ◌<◌, get_or, arith}
use Rattle.bits.proofs.ThreeLaws.{three_field}
use Rattle.settings.proofs.read.three_at.Goals as goal

pub returns : goal.returns
returns c =
    let a = c.args in
    let x = c.from_be_bytes.ensures in
    let y = three_field a.bytes.now a.i in
    let p : get_or a.bytes.now a.i 0 < 2 ^ 8 = (c.type_inv.bytes a.i).fits in
    let q : get_or a.bytes.now (a.i + 1) 0 < 2 ^ 8 = (c.type_inv.bytes (a.i + 1)).fits in
    let r : get_or a.bytes.now (a.i + 2) 0 < 2 ^ 8 = (c.type_inv.bytes (a.i + 2)).fits in
    (omega arith, omega arith)
