-- An answer of the code is fixed by what it tells, and so by a statement. Assumes nothing.
use mathlib.Core.Path.{◌≡◌, refl, sym, ap, ◌∙◌}
use mathlib.Core.List.{List}
use mathlib.Core.Option as maybe
use mathlib.Core.Option.{none, some}
use Prim.Native.Nat.{ℕ}
use Rattle.std.specs.Prelude.{Option, Some, None, Result}
use Rattle.bits.specs.Told.{Told, Accepted, Refused, OneToOne}
use Rattle.bits.specs.declared.refusal.Refusal.{Refusal}
use Rattle.bits.specs.Outcome.{Outcome, outcome}
use Rattle.bits.proofs.OutcomeLaws.{only_outcome}
use Rattle.bits.proofs.ToldLaws.{found_again}
use Rattle.bits.proofs.RefusalLaws.{told_one_to_one}
use Rattle.frames.specs.Frame.{Whole}
use Rattle.frames.specs.Call as call
use Rattle.frames.specs.Call.{Scanner, FedAnswer, FedOutcome}
use Rattle.frames.specs.Close as close
use Rattle.frames.specs.Close.{ClosedAnswer}
use Rattle.frames.specs.Rtcm.{Kind, Rtcm, Ubx}
use Rattle.frames.specs.Walk as walk
use Rattle.frames.specs.Walk.{Place}
use Rattle.frames.specs.Answers.{told_number, known_frame, told_checked, told_framed, told_next, known, known_fed, told_order, told_fed, known_closed, told_closed}
use Rattle.frames.specs.declared.frame.Frame.{Frame}
use Rattle.frames.specs.declared.scan.Next.{Next}
use Rattle.frames.specs.declared.scan.Next.TheVariants as X
use Rattle.frames.specs.declared.scanner.Scanner as code
use Rattle.frames.specs.declared.scanner.Kind as kinds
use Rattle.frames.specs.declared.scanner.Kind.TheVariants as Q
use Rattle.frames.specs.declared.scanner.Fed.{Fed}
use Rattle.frames.specs.declared.scanner.Fed.TheVariants as D
use Rattle.frames.specs.declared.close.Closed.{Closed}
use Rattle.frames.specs.declared.close.Closed.TheVariants as E

-- values that can be found again from what they tell are told one to one
pub injective : {T A : Type 0} (value : T → A) (again : A → T) → ((x : T) → again (value x) ≡ x) → (x y : T) → value x ≡ value y → x ≡ y
injective value again r x y e = sym (r x) ∙ ap again e ∙ r y

-- ---- the frame check

number : maybe.Option ℕ → Option ℕ
number none = None
number (some n) = Some n

number_again : (x : Option ℕ) → number (told_number x) ≡ x
unfolding number
number_again None = refl
number_again (Some n) = refl

pub number_one_to_one : (x y : Option ℕ) → told_number x ≡ told_number y → x ≡ y
number_one_to_one = injective told_number number number_again

frame : Whole → Frame
frame w = record { length = w.length; «data» = w.carried; number = number w.number; sum = w.sum }

frame_again : (x : Frame) → frame (known_frame x) ≡ x
unfolding frame
frame_again x = ap (λ m. record { length = x.length; «data» = x.«data»; number = m; sum = x.sum }) (number_again x.number)

pub checked_one_to_one : OneToOne told_checked
checked_one_to_one = told_one_to_one known_frame (injective known_frame frame frame_again)

-- ---- framing

pub framed_one_to_one : OneToOne told_framed
framed_one_to_one = told_one_to_one (λ n. n) (λ x y e. e)

-- and the outputs that two runs leave are equal too
pub only_framed : (d : Outcome ℕ (List ℕ)) {x y : Result ℕ Refusal} {s t : List ℕ} → outcome (told_framed x) s ≡ d → outcome (told_framed y) t ≡ d → (x ≡ y) × (s ≡ t)
only_framed d = only_outcome told_framed framed_one_to_one d

-- ---- the scan

next : Told Place → Next
next (Accepted (walk.Frame p l)) = X.Frame p l
next (Accepted (walk.Held p)) = X.Held p
next (Refused n carried) = X.Held n

next_again : (x : Next) → next (told_next x) ≡ x
unfolding next
next_again (X.Frame p l) = refl
next_again (X.Held p) = refl

pub next_one_to_one : OneToOne told_next
next_one_to_one = found_again told_next next next_again

-- ---- the scanner

-- the scanner of the code, and the kind
scanner : Scanner → code.Scanner
scanner x = record { count = x.count; taken = x.taken; mode = x.mode }

kind : Kind → kinds.Kind
kind Rtcm = Q.Rtcm
kind Ubx = Q.Ubx

fed : FedAnswer Kind → Fed
fed (call.More t s x) = D.More t s (scanner x)
fed (call.Frame l t s i k x) = D.Frame l t s i (kind k) (scanner x)

fed_again : (x : Fed) → fed (known_fed x) ≡ x
unfolding fed scanner kind
fed_again (D.More t s x) = refl
fed_again (D.Frame l t s i Q.Rtcm x) = refl
fed_again (D.Frame l t s i Q.Ubx x) = refl

pub fed_one_to_one : OneToOne told_fed
fed_one_to_one = told_one_to_one known_fed (injective known_fed fed fed_again)

-- and the held areas and outputs that two runs leave are equal too
pub only_fed : (d : FedOutcome Kind) {x y : Result Fed Refusal} {s t : List ℕ × List ℕ} → outcome (told_fed x) s ≡ d → outcome (told_fed y) t ≡ d → (x ≡ y) × (s ≡ t)
only_fed d = only_outcome told_fed fed_one_to_one d

pub order_one_to_one : OneToOne told_order
order_one_to_one = told_one_to_one (λ u. u) (λ x y e. e)

-- two scanners that know the same are the same
pub only_known : (d : Scanner) {x y : code.Scanner} → known x ≡ d → known y ≡ d → x ≡ y
unfolding scanner
only_known d {x} {y} e f = ap scanner (e ∙ sym f)

-- ---- closing

closed : ClosedAnswer Kind → Closed
closed (close.Done s x) = E.Done s (scanner x)
closed (close.Frame l s i k x) = E.Frame l s i (kind k) (scanner x)

closed_again : (x : Closed) → closed (known_closed x) ≡ x
unfolding closed scanner kind
closed_again (E.Done s x) = refl
closed_again (E.Frame l s i Q.Rtcm x) = refl
closed_again (E.Frame l s i Q.Ubx x) = refl

pub closed_one_to_one : OneToOne told_closed
closed_one_to_one = told_one_to_one known_closed (injective known_closed closed closed_again)

-- and the held areas and outputs that two runs leave are equal too
pub only_closed : (d : Outcome (ClosedAnswer Kind) (List ℕ × List ℕ)) {x y : Result Closed Refusal} {s t : List ℕ × List ℕ} → outcome (told_closed x) s ≡ d → outcome (told_closed y) t ≡ d → (x ≡ y) × (s ≡ t)
only_closed d = only_outcome told_closed closed_one_to_one d
