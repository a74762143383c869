-- What feeding and closing keep of the bytes that an account counts as held. Assumes nothing.
use Rattle.std.proofs.Common.{◌≡◌, ℕ, ◌+◌, ◌≤◌, List, length, subst, sym, ap, ◌∙◌}
use Rattle.std.specs.Prelude.{Ok}
use Rattle.bits.specs.Outcome.{outcome}
use Rattle.frames.specs.Modes.{framing_of}
use Rattle.frames.specs.Call.{Scanner, feed_of}
use Rattle.frames.specs.Close.{close_of}
use Rattle.frames.specs.Answers.{known, told_kind, told_fed, told_closed}
use Rattle.frames.specs.declared.scanner.Scanner as S
use Rattle.frames.specs.declared.scanner.Kind.{Kind}
use Rattle.frames.specs.declared.scanner.Fed.{Fed}
use Rattle.frames.specs.declared.scanner.Fed.TheVariants as D
use Rattle.frames.specs.declared.close.Closed.{Closed}
use Rattle.frames.specs.declared.close.Closed.TheVariants as E
use Rattle.frames.proofs.ModeLaws.{lawful}
use Rattle.frames.proofs.AnswerLaws as A
use Rattle.closing.proofs.ClosesLaws as C

-- a scanner that holds so many bytes, of which the first stands at place 0
abbrev pub from : ℕ → ℕ → Scanner
from n m = record { count = n; taken = n; mode = m }

-- The scanner z holds the first n bytes of an area, and y is the one behind the call.
module _ (held out : List ℕ) {held' out' : List ℕ} {z y : S.Scanner} {n m : ℕ} (e : known z ≡ from n m) where
  module _ (piece : List ℕ) {t s : ℕ} where
    pub fed_frame : {l p : ℕ} {f : Fed} (k : Kind) → f ≡ D.Frame l t s p k y → outcome (told_fed (Ok f)) (held', out') ≡ feed_of (framing_of z.mode) held (known z) piece out
        → (t ≤ length piece) × (n + t ≡ s + l + y.count) × (y.count ≤ 1029)
    fed_frame {l} {p} k i o =
        let f = subst (λ x. outcome (told_fed (Ok (D.Frame l t s p k y))) (held', out') ≡ feed_of (framing_of x.mode) held x piece out) e (ap (λ x. outcome (told_fed (Ok x)) (held', out')) (sym i) ∙ o) in
        let g = A.frame_keeps (framing_of m) held (from n m) piece out (lawful m) l t s p (told_kind k) (known y) held' out' f in
        (g.0, g.1, g.2)

    pub fed_more : {f : Fed} → f ≡ D.More t s y → outcome (told_fed (Ok f)) (held', out') ≡ feed_of (framing_of z.mode) held (known z) piece out → (n + length piece ≡ s + y.count) × (y.count ≤ 1029)
    fed_more i o =
        let f = subst (λ x. outcome (told_fed (Ok (D.More t s y))) (held', out') ≡ feed_of (framing_of x.mode) held x piece out) e (ap (λ x. outcome (told_fed (Ok x)) (held', out')) (sym i) ∙ o) in
        let g = A.more_keeps (framing_of m) held (from n m) piece out (lawful m) t s (known y) held' out' f in
        (g.0, g.1)

  module _ {s : ℕ} where
    pub closed_frame : {l p : ℕ} {f : Closed} (k : Kind) → f ≡ E.Frame l s p k y → outcome (told_closed (Ok f)) (held', out') ≡ close_of (framing_of z.mode) held (known z) out → (n ≡ s + l + y.count) × (y.count ≤ 1029)
    closed_frame {l} {p} k i o =
        let f = subst (λ x. outcome (told_closed (Ok (E.Frame l s p k y))) (held', out') ≡ close_of (framing_of x.mode) held x out) e (ap (λ x. outcome (told_closed (Ok x)) (held', out')) (sym i) ∙ o) in
        let g = C.frame_keeps (framing_of m) (lawful m) held (from n m) out held' out' s (known y) l p (told_kind k) f in
        (g.0, g.1)

    pub closed_done : {f : Closed} → f ≡ E.Done s y → outcome (told_closed (Ok f)) (held', out') ≡ close_of (framing_of z.mode) held (known z) out → n ≡ s
    closed_done i o =
        let f = subst (λ x. outcome (told_closed (Ok (E.Done s y))) (held', out') ≡ close_of (framing_of x.mode) held x out) e (ap (λ x. outcome (told_closed (Ok x)) (held', out')) (sym i) ∙ o) in
        C.done_keeps (framing_of m) (lawful m) held (from n m) out held' out' s (known y) f
