-- `observations::write::write_sound` meets its contract. What is put is the message, part by part. Assumes nothing.
use Rattle.observations.specs.Lists.{lists}
use Rattle.observations.proofs.WriteLaws.{all_fit, too_many_lem, lacks_room, puts, front_fits, rows_fit, all_put}
use Rattle.observations.proofs.write.Columns.write.Goals as goal

pub returns-then-n-gt31 : goal.returns-then-n-gt31
returns-then-n-gt31 c = let p = c.requires in too_many_lem _ _ _ p.few p.same p.header p.faultless c.if-n-gt31.true

pub returns-then-bytes-bits : goal.returns-then-bytes-bits
returns-then-bytes-bits c = let p = c.requires in lacks_room _ _ _ p.few p.same p.header p.faultless c.if-n-gt31.false c.if-bytes-bits.true

pub put_front-requires : goal.put_front-requires
put_front-requires c =
    let p = c.requires in
    let a = c.args in
    -- the lists that are lent
    let l = let m = a.self.now in lists m.satellites.now m.codes.now m.pseudoranges.now m.phases.now m.locks.now in
    (front_fits _ a.header l p.few c.if-bytes-bits.false, p.header, c.if-n-gt31.false)

pub put-requires : goal.put-requires
put-requires c =
    let p = c.requires in
    (rows_fit _ c.args.header _ p.few c.if-bytes-bits.false c.put_front.ensures, all_fit 0 _ p.faultless)

pub returns : goal.returns
returns c =
    let p = c.requires in
    all_put _ c.args.header _ c.put_front.ensures c.put.ensures (puts _ _ _ p.few p.same p.header p.faultless c.if-n-gt31.false c.if-bytes-bits.false)
