-- `messages::write1230::Joined::put` meets its contract. One field, or 68 bits cut in two. Assumes nothing.
use borrow.Author.Rules.{rules}
use native.Mathlib.Omega.{arith}
use Rattle.messages.proofs.JoinLaws.{one_room, few_fit, few_put, upper_fit, lower_room, four_put}
use Rattle.messages.proofs.write1230.Joined.put.Goals as goal

pub overflow_add-number : goal.overflow_add-number
overflow_add-number c =
    omega (arith, (few_fit _ _ _ c.if-n-lt4.true c.requires.3 c.requires.4).2)

pub unsigned-end-requires : goal.unsigned-end-requires
unsigned-end-requires c =
    (one_room _ _ _ _ c.requires.0 c.requires.1, omega arith, omega arith, (few_fit _ _ _ c.if-n-lt4.true c.requires.3 c.requires.4).1)

pub returns-then-n-lt4 : goal.returns-then-n-lt4
returns-then-n-lt4 c =
    few_put _ _ _ (few_fit _ _ _ c.if-n-lt4.true c.requires.3 c.requires.4).0 c.unsigned-end.ensures

pub overflow_add-upper : goal.overflow_add-upper
overflow_add-upper c =
    omega (arith, (upper_fit _ _ _ c.requires.2 c.if-n-lt4.false c.requires.3 c.requires.4).2)

pub unsigned-at-requires : goal.unsigned-at-requires
unsigned-at-requires c =
    (one_room _ _ _ _ c.requires.0 (omega arith), omega arith, omega arith, (upper_fit _ _ _ c.requires.2 c.if-n-lt4.false c.requires.3 c.requires.4).1)

pub unsigned-end-requires-2 : goal.unsigned-end-requires-2
unsigned-end-requires-2 c =
    (lower_room _ _ _ c.requires.2 c.if-n-lt4.false c.requires.3 c.requires.4 _ _ c.requires.0 c.requires.1 c.unsigned-at.ensures _, omega arith, omega arith, omega arith)

pub returns : goal.returns
returns c =
    four_put _ _ _ c.requires.2 c.if-n-lt4.false c.requires.3 c.requires.4 _ _ c.requires.0 c.requires.1 c.unsigned-at.ensures
    (record { byte = λ k. search rules })
    (upper_fit _ _ _ c.requires.2 c.if-n-lt4.false c.requires.3 c.requires.4).0
    c.unsigned-end-2.ensures
