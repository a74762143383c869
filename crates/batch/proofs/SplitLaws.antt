-- A scan may be stopped behind any of its items, and goes on from there. Assumes nothing.
use mathlib.Core.Path.{◌≡◌, refl, sym, ap, ◌∙◌}
use mathlib.Core.Bool.{Bool, true, false}
use mathlib.Core.List.{List, [], ◌∷◌, ◌++◌, append-nil}
use Prim.Native.Nat.{ℕ, zero, suc, ◌+◌, ◌≤◌}
use native.Mathlib.Nat.{not-suc-le-zero, le_of_suc-le-suc, zero-add}
use native.Mathlib.Omega.{arith}
use lib.ListN.{length, take, drop, length-append}
use lib.Seq.{drop-drop, length-take-le}
use lib.Dec.{leb}
use borrow.Author.Tests.{leb-true}
use Rattle.frames.specs.Scan.{Decision, Skip, Take, Wait, Item, Skipped, Framed, Scanned, step, scan_past, scan, item_bytes, bytes_of, handed}
use Rattle.frames.proofs.FramingLaws.{Whole}
use Rattle.frames.specs.Listing.{behind, first_of}

-- items up to the n-th frame, and the rest
pub record Split {W K : Type 0} (m n : ℕ) (is : List (Item W K)) : Type 0 where
  pub front : List (Item W K)
  pub back : List (Item W K)
  pub both : is ≡ front ++ back
  pub frames : handed m front ≡ take n (handed m is)
  pub none : n ≡ 0 → front ≡ []
  pub ends : (b : ℕ) → 1 ≤ n → behind b (handed m front) ≡ m + length (bytes_of front)

module _ {W K : Type 0} where
  -- a frame, and the items up to the n-th frame behind it
  ends_behind : (m n : ℕ) (f : List ℕ) (is : List (Item W K)) (r : Split (m + length f) n is) → behind (m + length f) (handed (m + length f) r.front) ≡ m + length (f ++ bytes_of r.front)
  ends_behind m zero f is r =
      let e = r.none refl in
      ap (λ js. behind (m + length f) (handed (m + length f) js)) e ∙ omega (arith, length-append f []) ∙ sym (ap (λ js. m + length (f ++ bytes_of js)) e)
  ends_behind m (suc n) f is r = r.ends (m + length f) (omega arith) ∙ omega (arith, length-append f (bytes_of r.front))

  pub split : (m n : ℕ) (is : List (Item W K)) → n ≤ length (handed m is) → Split m n is
  split m zero is l = record { front = []; back = is; both = refl; frames = refl; none = λ e. refl; ends = λ b h. absurd (not-suc-le-zero h) }
  split m (suc n) [] l = absurd (not-suc-le-zero l)
  split m (suc n) (Skipped w x ∷ is) l =
      let r = split (m + 1) (suc n) is l in
      record {
        front = Skipped w x ∷ r.front;
        back = r.back;
        both = ap (λ js. Skipped w x ∷ js) r.both;
        frames = r.frames;
        none = λ e. absurd (omega arith);
        ends = λ b h. r.ends b h ∙ omega arith;
      }
  split m (suc n) (Framed k f ∷ is) l =
      let r = split (m + length f) n is (le_of_suc-le-suc l) in
      record {
        front = Framed k f ∷ r.front;
        back = r.back;
        both = ap (λ js. Framed k f ∷ js) r.both;
        frames = ap (λ fs. record { place = m; kind = k; bytes = f } ∷ fs) r.frames;
        none = λ e. absurd (omega arith);
        ends = λ b h. ends_behind m n f is r;
      }

-- ---- the first frames of a scan, as its first items

pub record Firsts {W K : Type 0} (n : ℕ) (r : Scanned W K) : Type 0 where
  pub front : List (Item W K)
  pub back : List (Item W K)
  pub full : Bool
  pub both : r.items ≡ front ++ back
  pub first : first_of n r ≡ record { frames = handed 0 front; stop = length (bytes_of front); full = full }
  pub all : full ≡ false → back ≡ []

module _ {W K : Type 0} (n : ℕ) (some : 1 ≤ n) (r : Scanned W K) where
  by_test : (b : Bool) → leb n (length (handed 0 r.items)) ≡ b → Firsts n r
  by_test true e =
      let s = split 0 n r.items (leb-true n (length (handed 0 r.items)) e) in
      let u : behind 0 (take n (handed 0 r.items)) ≡ length (bytes_of s.front) = ap (behind 0) (sym s.frames) ∙ s.ends 0 some ∙ zero-add (length (bytes_of s.front)) in
      record {
        front = s.front;
        back = s.back;
        full = true;
        both = s.both;
        first = rw e (λ j. record { frames = sym s.frames j; stop = u j; full = true });
        all = λ q. let z : ◌≡◌ {A = ℕ} 0 1 = cc in absurd (omega arith);
      }
  by_test false e = record { front = r.items; back = []; full = false; both = sym (append-nil r.items); first = rw e; all = λ q. refl }

  pub firsts : Firsts n r
  firsts = by_test (leb n (length (handed 0 r.items))) refl

module _ {W K : Type 0} (d : List ℕ → Decision W K) (whole : Whole d) where
  past_drop : (m : ℕ) (s : List ℕ) → scan_past d m s ≡ scan d (drop m s)
  past_drop zero s = refl
  past_drop (suc m) [] = refl
  past_drop (suc m) (x ∷ xs) = past_drop m xs

  -- what the scan of s gives behind the items js
  abbrev Resumes : List ℕ → List (Item W K) → List (Item W K) → Type 0
  Resumes s js ks = scan d (drop (length (bytes_of js)) s) ≡ record { items = ks; held = (scan d s).held }

  resume_step : (x : ℕ) (xs : List ℕ) (i : Item W K) (js ks : List (Item W K))
      → ((s : List ℕ) → (scan d s).items ≡ js ++ ks → Resumes s js ks)
      → (q : Decision W K) → d (x ∷ xs) ≡ q → (step q x xs (λ n. scan_past d n xs)).items ≡ i ∷ (js ++ ks)
      → scan d (drop (length (item_bytes i ++ bytes_of js)) (x ∷ xs)) ≡ record { items = ks; held = (step q x xs (λ n. scan_past d n xs)).held }
  resume_step x xs i js ks ih (Skip w) e u =
      let a : Skipped w x ≡ i = cc in
      let b : (scan d xs).items ≡ js ++ ks = cc in
      ap (λ i. scan d (drop (length (item_bytes i ++ bytes_of js)) (x ∷ xs))) (sym a) ∙ ih xs b
  resume_step x xs i js ks ih (Take k zero) e u = absurd (not-suc-le-zero (whole (x ∷ xs) k 0 e).0)
  resume_step x xs i js ks ih (Take k (suc n)) e u =
      let l : length (take (suc n) (x ∷ xs)) ≡ suc n = length-take-le (suc n) (x ∷ xs) (whole (x ∷ xs) k (suc n) e).1 in
      let a : Framed k (take (suc n) (x ∷ xs)) ≡ i = cc in
      let b : (scan_past d n xs).items ≡ js ++ ks = cc in
      let c : (scan d (drop n xs)).items ≡ js ++ ks = ap (λ r. r.items) (sym (past_drop n xs)) ∙ b in
      let m : length (take (suc n) (x ∷ xs) ++ bytes_of js) ≡ suc n + length (bytes_of js) = length-append (take (suc n) (x ∷ xs)) (bytes_of js) ∙ ap (λ k. k + length (bytes_of js)) l in
      ap (λ i. scan d (drop (length (item_bytes i ++ bytes_of js)) (x ∷ xs))) (sym a)
      ∙ ap (λ k. scan d (drop k (x ∷ xs))) m
      ∙ ap (scan d) (sym (drop-drop (length (bytes_of js)) (suc n) (x ∷ xs)))
      ∙ ih (drop n xs) c
      ∙ ap (λ (r : Scanned W K). record { items = ks; held = r.held }) (sym (past_drop n xs))
  resume_step x xs i js ks ih Wait e u = let z : ◌≡◌ {A = ℕ} 0 1 = cc in absurd (omega arith)

  -- THE SCAN GOES ON from behind any of its items as it did.
  pub resumes : (js ks : List (Item W K)) (s : List ℕ) → (scan d s).items ≡ js ++ ks → Resumes s js ks
  resumes [] ks s e = λ j. record { items = e j; held = (scan d s).held }
  resumes (i ∷ js) ks [] e = let z : ◌≡◌ {A = ℕ} 0 1 = cc in absurd (omega arith)
  resumes (i ∷ js) ks (x ∷ xs) e = resume_step x xs i js ks (λ s u. resumes js ks s u) (d (x ∷ xs)) refl e
