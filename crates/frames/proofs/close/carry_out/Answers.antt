-- What the search of the bytes held alone found says what to move. Assumes nothing.
use mathlib.Core.Path.{◌≡◌, refl, sym, ap, subst, ◌∙◌}
use mathlib.Core.List.{[], ◌++◌}
use Prim.Native.Nat.{◌+◌, ◌-◌}
use native.Mathlib.Omega.{arith}
use lib.ListN.{length, take, drop}
use lib.Seq.{take-nil}
use Rattle.bits.specs.Onto.{onto}
use Rattle.frames.specs.Answers.{known}
use Rattle.frames.specs.Steps.{moved, CanHold}
use Rattle.frames.specs.declared.scan.Searched.TheVariants.{Frame}
use Rattle.frames.proofs.SeamLaws.{none_taken, slide_alone, gather_alone}
use Rattle.frames.proofs.MovedLaws.{moved_more, moved_frame_lem}
use Rattle.frames.proofs.close.carry_out.Goals as goal

pub overflow_sub-count : goal.overflow_sub-count
overflow_sub-count c = omega (arith, (subst (CanHold (length c.args.held.now) c.args.scanner.count 0) c.in-More.is c.requires.5))

pub shift-requires : goal.shift-requires
shift-requires c = omega (arith, (subst (CanHold (length c.args.held.now) c.args.scanner.count 0) c.in-More.is c.requires.5), c.requires.0)

pub overflow_sub-count-in-More : goal.overflow_sub-count-in-More
overflow_sub-count-in-More c = omega (arith, (subst (CanHold (length c.args.held.now) c.args.scanner.count 0) c.in-More.is c.requires.5))

pub overflow_add-behind : goal.overflow_add-behind
overflow_add-behind c = record { fits = omega (arith, (subst (CanHold (length c.args.held.now) c.args.scanner.count 0) c.in-Frame.is c.requires.5)) }

pub slice_bounds-put_at-end : goal.slice_bounds-put_at-end
slice_bounds-put_at-end c = let k = (subst (CanHold (length c.args.held.now) c.args.scanner.count 0) c.in-Frame.is c.requires.5) in omega (arith, k, c.requires.0)

pub put_at-requires : goal.put_at-requires
put_at-requires c = let k = (subst (CanHold (length c.args.held.now) c.args.scanner.count 0) c.in-Frame.is c.requires.5) in omega (arith, k)

pub overflow_sub-count-in-Frame : goal.overflow_sub-count-in-Frame
overflow_sub-count-in-Frame c = omega (arith, (subst (CanHold (length c.args.held.now) c.args.scanner.count 0) c.in-Frame.is c.requires.5))

pub shift-requires-in-Frame : goal.shift-requires-in-Frame
shift-requires-in-Frame c = omega (arith, (subst (CanHold (length c.args.held.now) c.args.scanner.count 0) c.in-Frame.is c.requires.5))

pub overflow_add-result : goal.overflow_add-result
overflow_add-result c = record { fits = omega (arith, (subst (CanHold (length c.args.held.now) c.args.scanner.count 0) c.in-Frame.is c.requires.5)) }

pub overflow_sub-count-in-Frame-2 : goal.overflow_sub-count-in-Frame-2
overflow_sub-count-in-Frame-2 c = omega (arith, (subst (CanHold (length c.args.held.now) c.args.scanner.count 0) c.in-Frame.is c.requires.5))

pub returns-in-More : goal.returns-in-More
returns-in-More c =
    let a = c.args in
    let k = (subst (CanHold (length c.args.held.now) c.args.scanner.count 0) c.in-More.is c.requires.5) in
    moved_more a.held.now (known a.scanner) [] a.out.now c.in-More.i _ _ _ (omega arith) c.onwards.ensures
    (c.shift.ensures ∙ slide_alone a.held.now [] a.scanner.count c.in-More.i (omega arith) (omega (arith, k)))
    ∙ ap (moved a.held.now (known a.scanner) [] a.out.now) (sym c.in-More.is)

pub returns-in-Frame : goal.returns-in-Frame
returns-in-Frame c =
    let a = c.args in
    let k = (subst (CanHold (length c.args.held.now) c.args.scanner.count 0) c.in-Frame.is c.requires.5) in
    let none : c.in-Frame.taken ≡ 0 = omega (arith, k) in
    let empty = none_taken (0 - 0) in
    moved_frame_lem a.held.now (known a.scanner) [] a.out.now c.in-Frame.i c.in-Frame.length 0 _ _ _ _ _ _ (omega arith) (omega (arith, empty)) refl c.kind_of.ensures c.onwards-in-Frame.ensures
    (c.shift-in-Frame.ensures ∙ slide_alone a.held.now [] a.scanner.count (c.in-Frame.i + c.in-Frame.length) (omega arith) (omega (arith, k))
    ∙ ap (λ z. onto (drop (c.in-Frame.i + c.in-Frame.length) (take a.scanner.count a.held.now ++ z)) a.held.now) (sym (take-nil (0 - 0))))
    (c.put_at.ensures ∙ gather_alone a.held.now a.out.now a.scanner.count c.in-Frame.i c.in-Frame.length (omega (arith, k)))
    ∙ ap (λ n. moved a.held.now (known a.scanner) [] a.out.now (Frame c.in-Frame.i c.in-Frame.length n)) (sym none)
    ∙ ap (moved a.held.now (known a.scanner) [] a.out.now) (sym c.in-Frame.is)
