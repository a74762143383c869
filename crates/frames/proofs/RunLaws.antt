-- The two sums of UBX of the bytes between two places of a window, by those up to each of the two. Assumes nothing.
use mathlib.Core.Path.{◌≡◌, refl, sym, ap, ap₂, ◌∙◌, subst, subst₂}
use mathlib.Core.List.{List, [], ◌∷◌}
use Prim.Native.Nat.{ℕ, ◌+◌, ◌-◌, ◌*◌, ◌/◌, ◌%◌, ◌^◌, ◌≤◌, ◌<◌}
use native.Mathlib.Nat.{mod-lt, mul-le-mul, mul-add, mul_assoc, suc-mul, zero-mul}
use native.Mathlib.Omega.{arith}
use native.Mathlib.Decide.{dec_lt}
use lib.ListN.{length, get_or, set, take, drop, length-drop, length-set}
use lib.Seq.{length-take-le, take-add, take_at, take-take, drop-cons, drop-drop, get_or-set_same, get_or-set_other}
use Rattle.bits.specs.Onto.{onto}
use Rattle.frames.specs.Ubx.{add_byte, sums_from, sums}
use Rattle.frames.specs.Steps.{paired, Tails, Summed, Runs, Ready}
use Rattle.frames.proofs.SumsLaws.{sums_append}

-- ---- sums are below 256

pub sums_below : (s : List ℕ) (c : ℕ × ℕ) → c.0 < 256 → c.1 < 256 → ((sums_from c s).0 < 256) × ((sums_from c s).1 < 256)
unfolding sums_from
sums_below [] c a b = (a, b)
sums_below (x ∷ s) c a b = sums_below s (add_byte c x) (mod-lt _ (omega arith)) (mod-lt _ (omega arith))

-- ---- sums that are continued: what they were, and the sums of the bytes

-- n times a sum that was reduced
spread : (n z : ℕ) → n * z ≡ n * (z / 256) * 256 + n * (z % 256)
spread n z =
    let e : z ≡ z / 256 * 256 + z % 256 = omega arith in
    ap (λ (k : ℕ). n * k) e ∙ mul-add n (z / 256 * 256) (z % 256) ∙ ap (λ (k : ℕ). k + n * (z % 256)) (sym (mul_assoc n (z / 256) 256))

first_more : (x b a : ℕ) → ((x + b) % 256 + a) % 256 ≡ (x + ((0 + b) % 256 + a) % 256) % 256
first_more x b a = omega arith

-- numbers that differ by whole rounds
rounds : (l r a c : ℕ) → l + a * 256 ≡ r + c * 256 → l % 256 ≡ r % 256
rounds l r a c e = omega arith

reduced_left : (y x n g : ℕ) → ((y + x) % 256 + n + g) % 256 ≡ (y + x + n + g) % 256
reduced_left y x n g = omega arith

reduced_right : (z u n g : ℕ) → (z + u + n + g) % 256 ≡ (z + ((0 + u) % 256 + n + g) % 256) % 256
reduced_right z u n g = omega arith

sums_alike : (y x b g nx ny nb nu p r q w k u : ℕ) → nx + nb ≡ p * 256 + ny → nb ≡ r * 256 + nu → x + b ≡ q * 256 + k → b ≡ w * 256 + u
    → y + k + ny + g + (q + p) * 256 ≡ y + (nx + x) + u + nu + g + (w + r) * 256
sums_alike y x b g nx ny nb nu p r q w k u e f m o = omega arith

second_more : (y x b g nx ny nb nu p r : ℕ) → nx + nb ≡ p * 256 + ny → nb ≡ r * 256 + nu
    → ((y + (x + b) % 256) % 256 + ny + g) % 256 ≡ (y + (nx + x) + ((0 + (0 + b) % 256) % 256 + nu + g) % 256) % 256
second_more y x b g nx ny nb nu p r e f =
    let q = (x + b) / 256 in
    let w = (0 + b) / 256 in
    let m : x + b ≡ q * 256 + (x + b) % 256 = omega arith in
    let o : b ≡ w * 256 + (0 + b) % 256 = omega arith in
    reduced_left y ((x + b) % 256) ny g
    ∙ rounds (y + (x + b) % 256 + ny + g) (y + (nx + x) + (0 + b) % 256 + nu + g) (q + p) (w + r) (sums_alike y x b g nx ny nb nu p r q w ((x + b) % 256) ((0 + b) % 256) e f m o)
    ∙ reduced_right (y + (nx + x)) ((0 + b) % 256) nu g

pub continued : (s : List ℕ) (x y : ℕ) → x < 256 → y < 256
    → ((sums_from (x, y) s).0 ≡ (x + (sums s).0) % 256) × ((sums_from (x, y) s).1 ≡ (y + length s * x + (sums s).1) % 256)
unfolding sums_from
continued [] x y a b = (omega arith, rw (zero-mul x) (omega arith))
continued (c ∷ s) x y a b =
    let n = length s in
    let f = sums_from (0, 0) s in
    let u = (0 + c) % 256 in
    let l = continued s ((x + c) % 256) ((y + (x + c) % 256) % 256) (mod-lt _ (omega arith)) (mod-lt _ (omega arith)) in
    let r = continued s u ((0 + u) % 256) (mod-lt _ (omega arith)) (mod-lt _ (omega arith)) in
    let e : n * x + n * c ≡ n * ((x + c) / 256) * 256 + n * ((x + c) % 256) = sym (mul-add n x c) ∙ spread n (x + c) in
    let z : 0 + c ≡ c = omega arith in
    let g : n * c ≡ n * (c / 256) * 256 + n * u = spread n c ∙ ap (λ (k : ℕ). n * (c / 256) * 256 + n * (k % 256)) (sym z) in (
      l.0 ∙ first_more x c f.0 ∙ ap (λ (k : ℕ). (x + k) % 256) (sym r.0),
      l.1
          ∙ second_more y x c f.1 (n * x) (n * ((x + c) % 256)) (n * c) (n * u) (n * ((x + c) / 256)) (n * (c / 256)) e g
          ∙ ap₂ (λ (j k : ℕ). (y + j + k) % 256) (sym (suc-mul n x)) (sym r.1),
    )

-- ---- the area that is written

pub sums_step : (s : List ℕ) (k : ℕ) → k < length s → sums (take (k + 1) s) ≡ add_byte (sums (take k s)) (get_or s k 0)
unfolding sums_from
sums_step s k h =
    ap sums (take-add k 1 s) ∙ sums_append (take k s) (take 1 (drop k s)) (0, 0) ∙ ap (λ (l : List ℕ). sums_from (sums (take k s)) (take 1 l)) (drop-cons s k 0 h)

-- the sums of the first k bytes of s and of each fewer stand in out, which is as long as d
pub record Running (s d out : List ℕ) (k first second : ℕ) : Type 0 where
  pub place : k ≤ length s
  pub as_long : length out ≡ length d
  pub stored : (j : ℕ) → j ≤ k → get_or out j 0 ≡ paired (sums (take j s))
  pub both : (first, second) ≡ sums (take k s)
  pub first_small : first < 256
  pub second_small : second < 256

module _ (s d : List ℕ) (room : length s < length d) where
  pub running_first : Running s (set d 0 0) (set d 0 0) 0 0 0
  unfolding sums_from
  running_first =
      record {
        place = omega arith;
        as_long = refl;
        stored = λ j h.
            let z : j ≡ 0 = omega arith in
            ap (λ (k : ℕ). get_or (set d 0 0) k 0) z ∙ get_or-set_same d 0 0 0 (omega arith) ∙ ap (λ (k : ℕ). paired (sums (take k s))) (sym z);
        both = refl;
        first_small = omega arith;
        second_small = omega arith;
      }

  pub running_more : (out : List ℕ) (k f g x f₁ g₁ v : ℕ) → k < length s → Running s d out k f g → x ≡ get_or s k 0 → f₁ ≡ (f + x) % 256 → g₁ ≡ (g + f₁) % 256 → v ≡ g₁ * 256 + f₁
      → Running s d (set out (k + 1) v) (k + 1) f₁ g₁
  running_more out k f g x f₁ g₁ v h r ex ef eg ev =
      record {
        place = omega arith;
        as_long = length-set out (k + 1) v ∙ r.as_long;
        stored = λ j l. go j l (dec_lt j (k + 1));
        both = now_both;
        first_small = omega arith;
        second_small = omega arith;
      }
    where
      now_both : (f₁, g₁) ≡ sums (take (k + 1) s)
      now_both =
          ap₂ (λ (p q : ℕ). (p, q)) ef (eg ∙ ap (λ (p : ℕ). (g + p) % 256) ef)
          ∙ ap (add_byte (f, g)) ex
          ∙ ap (λ (c : ℕ × ℕ). add_byte c (get_or s k 0)) r.both
          ∙ sym (sums_step s k h)

      go : (j : ℕ) → j ≤ k + 1 → Dec (j < k + 1) → get_or (set out (k + 1) v) j 0 ≡ paired (sums (take j s))
      go j l (yes q) = get_or-set_other out (k + 1) j v 0 (λ (z : j ≡ k + 1). omega (arith, q, z)) ∙ r.stored j (omega (arith, q))
      go j l (no q) =
          let z : j ≡ k + 1 = omega (arith, l, q) in
          ap (λ (n : ℕ). get_or (set out (k + 1) v) n 0) z
          ∙ get_or-set_same out (k + 1) v 0 (omega (arith, r.as_long, room, h))
          ∙ ev
          ∙ ap paired now_both
          ∙ ap (λ (n : ℕ). paired (sums (take n s))) (sym z)

  pub running_end : (out : List ℕ) (k f g : ℕ) → length s ≤ k → Running s d out k f g → Summed s out
  running_end out k f g h r = record { sums = λ j l. r.stored j (omega (arith, l, h)) }

-- ---- a new window

module _ (s d t x : List ℕ) (i n : ℕ) (fits : i + n ≤ length s) (room : n < length x)
    (g : t ≡ onto (take n (drop i s)) d) (e : Summed (take (n - 0) t) x) where
  abbrev part : List ℕ
  part = take n (drop i s)

  part_length : length part ≡ n
  part_length = length-take-le n (drop i s) (rw (length-drop i s) (omega arith))

  same_part : take (n - 0) t ≡ part
  same_part =
      let z : n - 0 ≡ n = omega arith in
      ap₂ (λ (k : ℕ) (l : List ℕ). take k l) z g ∙ take_at part (drop (length part) d) n part_length

  pub opened_runs : Runs s x i (i + n)
  opened_runs =
      record {
        ordered = omega arith;
        within = fits;
        room = omega arith;
        sums = λ k h.
            (subst (λ (l : List ℕ). Summed l x) same_part e).sums k (omega (arith, part_length))
            ∙ ap (λ (l : List ℕ). paired (sums l)) (take-take k n (drop i s) (omega arith));
      }

-- a window of no bytes
pub no_runs : (s q : List ℕ) (i : ℕ) → i ≤ length s → 0 < length q → get_or q 0 0 ≡ 0 → Runs s q i i
unfolding sums_from
no_runs s q i h r e =
    record {
      ordered = omega arith;
      within = h;
      room = omega arith;
      sums = λ k l.
          let z : k ≡ 0 = omega arith in
          ap (λ (j : ℕ). get_or q j 0) z ∙ e ∙ ap (λ (j : ℕ). paired (sums (take j (drop i s)))) (sym z);
    }

-- ---- a candidate

-- what the first sum before adds to the second
share : (n b : ℕ) → n ≤ 1021 → (n + 4) * (b % 256) ≤ 1025 * 255
share n b h = mul-le-mul {n₁ = n + 4} {m₁ = b % 256} {n₂ = 1025} {m₂ = 255} (omega arith) (omega arith)

pub share_fits : (n b : ℕ) → n ≤ 1021 → (n + 4) * (b % 256) < 2 ^ 32
share_fits n b h = omega (arith, share n b h)

pub shared_fits : (n b : ℕ) → n ≤ 1021 → b < 65536 → b / 256 + (n + 4) * (b % 256) < 2 ^ 32
shared_fits n b h l = omega (arith, share n b h)

pub second_fits : (n b g : ℕ) → n ≤ 1021 → b < 65536 → g < 256 → b / 256 + (n + 4) * (b % 256) + g < 2 ^ 32
second_fits n b g h l m = omega (arith, share n b h)

-- what is added is told by what it leads to
one_residue : (a b c : ℕ) → b < 256 → c < 256 → (a + b) % 256 ≡ (a + c) % 256 → b ≡ c
one_residue a b c h k e = omega arith

low_part : (y x : ℕ) → x < 256 → (y * 256 + x) % 256 ≡ x
low_part y x h = omega arith

first_alone : (a b x y o v f : ℕ) → x < 256 → o < 256 → f < 256 → a ≡ y * 256 + x → b ≡ v * 256 + (x + o) % 256 → (a % 256 + f) % 256 ≡ b % 256 → f ≡ o
first_alone a b x y o v f hx ho hf ea eb e =
    one_residue x f o hf ho
    (ap (λ (k : ℕ). (k + f) % 256) (sym (ap (λ (k : ℕ). k % 256) ea ∙ low_part y x hx))
    ∙ e ∙ ap (λ (k : ℕ). k % 256) eb ∙ low_part v ((x + o) % 256) (mod-lt _ (omega arith)))

first_back : (a b x y o v f : ℕ) → x < 256 → a ≡ y * 256 + x → b ≡ v * 256 + (x + o) % 256 → f ≡ o → (a % 256 + f) % 256 ≡ b % 256
first_back a b x y o v f hx ea eb e =
    ap₂ (λ (j k : ℕ). (j + k) % 256) (ap (λ (k : ℕ). k % 256) ea ∙ low_part y x hx) e
    ∙ sym (ap (λ (k : ℕ). k % 256) eb ∙ low_part v ((x + o) % 256) (mod-lt _ (omega arith)))

module _ (s q : List ℕ) (base stop : ℕ) (w : Runs s q base stop) (i n : ℕ) (behind : base ≤ i) (reach : i + (n + 8) ≤ stop) where
  abbrev at : ℕ
  at = i + 2 - base

  abbrev up : ℕ × ℕ
  up = sums (take at (drop base s))

  abbrev own : ℕ × ℕ
  own = sums (take (n + 4) (drop (i + 2) s))

  up_small : (up.0 < 256) × (up.1 < 256)
  up_small = sums_below (take at (drop base s)) (0, 0) (omega arith) (omega arith)

  own_small : (own.0 < 256) × (own.1 < 256)
  own_small = sums_below (take (n + 4) (drop (i + 2) s)) (0, 0) (omega arith) (omega arith)

  pub in_runs : at + n + 4 < length q
  in_runs = omega (arith, w.room)

  own_length : length (take (n + 4) (drop (i + 2) s)) ≡ n + 4
  own_length = length-take-le (n + 4) (drop (i + 2) s) (rw (length-drop (i + 2) s) (omega (arith, w.within)))

  before_is : get_or q at 0 ≡ up.1 * 256 + up.0
  before_is = w.sums at (omega arith)

  pub before_small : get_or q at 0 < 65536
  before_small = omega (arith, before_is, up_small.0, up_small.1)

  onwards_is : sums (take (at + n + 4) (drop base s)) ≡ sums_from up (take (n + 4) (drop (i + 2) s))
  onwards_is =
      let z : at + n + 4 ≡ at + (n + 4) = omega arith in
      let y : base + at ≡ i + 2 = omega arith in
      ap (λ (k : ℕ). sums (take k (drop base s))) z
      ∙ ap sums (take-add at (n + 4) (drop base s))
      ∙ sums_append (take at (drop base s)) (take (n + 4) (drop at (drop base s))) (0, 0)
      ∙ ap (λ (l : List ℕ). sums_from up (take (n + 4) l)) (drop-drop at base s ∙ ap (λ (k : ℕ). drop k s) y)

  more : ((sums_from up (take (n + 4) (drop (i + 2) s))).0 ≡ (up.0 + own.0) % 256)
      × ((sums_from up (take (n + 4) (drop (i + 2) s))).1 ≡ (up.1 + (n + 4) * up.0 + own.1) % 256)
  more =
      let c = continued (take (n + 4) (drop (i + 2) s)) up.0 up.1 up_small.0 up_small.1 in
      (c.0, c.1 ∙ ap (λ (k : ℕ). (up.1 + k * up.0 + own.1) % 256) own_length)

  after_is : get_or q (at + n + 4) 0 ≡ (up.1 + (n + 4) * up.0 + own.1) % 256 * 256 + (up.0 + own.0) % 256
  after_is =
      w.sums (at + n + 4) (omega arith) ∙ ap paired onwards_is
      ∙ ap₂ (λ (j k : ℕ). j * 256 + k) more.1 more.0

  -- the first sum sent, by what the code compares
  pub first_is_own : (f : ℕ) → f < 256 → (get_or q at 0 % 256 + f) % 256 ≡ get_or q (at + n + 4) 0 % 256 → f ≡ own.0
  first_is_own f h e = first_alone (get_or q at 0) (get_or q (at + n + 4) 0) up.0 up.1 own.0 _ f up_small.0 own_small.0 h before_is after_is e

  pub first_is_other : (f : ℕ) → ((get_or q at 0 % 256 + f) % 256 ≡ get_or q (at + n + 4) 0 % 256 → ⊥) → f ≡ own.0 → ⊥
  first_is_other f u e = u (first_back (get_or q at 0) (get_or q (at + n + 4) 0) up.0 up.1 own.0 _ f up_small.0 before_is after_is e)

  -- the second
  second_sum : (g : ℕ) → (get_or q at 0 / 256 + (n + 4) * (get_or q at 0 % 256) + g) % 256 ≡ (up.1 + (n + 4) * up.0 + g) % 256
  second_sum g =
      let a : get_or q at 0 / 256 ≡ up.1 = omega (arith, before_is, up_small.0) in
      let b : get_or q at 0 % 256 ≡ up.0 = omega (arith, before_is, up_small.0) in
      ap₂ (λ (j k : ℕ). (j + (n + 4) * k + g) % 256) a b

  after_second : get_or q (at + n + 4) 0 / 256 ≡ (up.1 + (n + 4) * up.0 + own.1) % 256
  after_second = omega (arith, after_is)

  pub second_is_own : (g : ℕ) → g < 256 → (get_or q at 0 / 256 + (n + 4) * (get_or q at 0 % 256) + g) % 256 ≡ get_or q (at + n + 4) 0 / 256 → g ≡ own.1
  second_is_own g h e = one_residue (up.1 + (n + 4) * up.0) g own.1 h own_small.1 (sym (second_sum g) ∙ e ∙ after_second)

  pub second_is_other : (g : ℕ) → ((get_or q at 0 / 256 + (n + 4) * (get_or q at 0 % 256) + g) % 256 ≡ get_or q (at + n + 4) 0 / 256 → ⊥) → g ≡ own.1 → ⊥
  second_is_other g u e = u (second_sum g ∙ ap (λ (k : ℕ). (up.1 + (n + 4) * up.0 + k) % 256) e ∙ sym after_second)

-- ---- both windows, of which one was opened anew

pub le_by : {a b i : ℕ} → a ≡ b → b ≤ i → a ≤ i
le_by {a} {b} {i} e h = omega arith

module _ {s q r : List ℕ} {base stop foot head : ℕ} (y : Ready s q r base stop foot head) where
  pub tails_anew : {q₁ : List ℕ} {base₁ stop₁ foot₁ head₁ : ℕ} → foot₁ ≡ foot → head₁ ≡ head → length q₁ ≡ 4097 → Tails s q₁ base₁ stop₁ → Ready s q₁ r base₁ stop₁ foot₁ head₁
  tails_anew e f l t =
      record { tails = t; tails_room = l; runs = subst₂ (λ (j k : ℕ). Runs s r j k) (sym e) (sym f) y.runs; runs_room = y.runs_room }

  pub runs_anew : {r₁ : List ℕ} {base₁ stop₁ foot₁ head₁ : ℕ} → base₁ ≡ base → stop₁ ≡ stop → length r₁ ≡ 4097 → Runs s r₁ foot₁ head₁ → Ready s q r₁ base₁ stop₁ foot₁ head₁
  runs_anew e f l t =
      record { tails = subst₂ (λ (j k : ℕ). Tails s q j k) (sym e) (sym f) y.tails; tails_room = y.tails_room; runs = t; runs_room = l }

-- the windows of a search that begins at place i: one of tails, and an empty one of runs
pub begins_ready : {s q r : List ℕ} {base stop i base₁ stop₁ foot₁ head₁ : ℕ} → base₁ ≡ base → stop₁ ≡ stop → foot₁ ≡ i → head₁ ≡ i → Tails s q base stop → length q ≡ 4097
    → i ≤ length s → length r ≡ 4097 → get_or r 0 0 ≡ 0 → Ready s q r base₁ stop₁ foot₁ head₁
begins_ready {s} {q} {r} {base} {stop} {i} eb es ef eh t room l runs_room first =
    record {
      tails = subst₂ (λ x y. Tails s q x y) (sym eb) (sym es) t;
      tails_room = room;
      runs = subst₂ (λ x y. Runs s r x y) (sym ef) (sym eh) (no_runs s r i l (omega arith) first);
      runs_room = runs_room;
    }
