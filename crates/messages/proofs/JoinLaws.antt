-- A run of fields as one number: putting it is putting the run. Assumes nothing.
use mathlib.Core.Path.{◌≡◌, refl, sym, ap, ap₂, ◌∙◌}
use mathlib.Core.List.{List, [], ◌∷◌, ◌++◌}
use Prim.Native.Nat.{ℕ, ◌+◌, ◌*◌, ◌/◌, ◌%◌, ◌^◌, ◌≤◌, ◌<◌}
use native.Mathlib.Nat.{mod-lt, mod-eq_of_lt}
use native.Mathlib.Omega.{arith}
use lib.ListN.{length}
use lib.Arith.{digits_lt}
use lib.Pow.{pow_pos, pow-add, pow_mono, shl_exact, high, low}
use Rattle.bits.specs.Field.{put_field}
use Rattle.bits.specs.Fields.{Field, Bytes, bits, total, put_all}
use Rattle.bits.proofs.BitLaws.{length_put}
use Rattle.bits.proofs.SpliceLaws.{put_split}
use Rattle.bits.proofs.SameBits.{bytes_put}
use Rattle.bits.proofs.FieldsLaws.{total_none, total_next, total_one, put_none, put_next, put_one, length_put_all}
use Rattle.formats.specs.Put.{RoomFor, IsPut}
use Rattle.messages.specs.StepsWrite1230.{joined}
use Rattle.messages.proofs.PenLaws.{put_alike, put_nothing}

-- ---- two numbers as one

-- as 64-bit code joins them
pub join_fit : (m x n y : ℕ) → m + n ≤ 63 → x < 2 ^ m → y < 2 ^ n → (x * 2 ^ n % 2 ^ 64 + y ≡ x * 2 ^ n + y) × (x * 2 ^ n % 2 ^ 64 + y < 2 ^ (m + n)) × (x * 2 ^ n % 2 ^ 64 + y < 2 ^ 64)
join_fit m x n y h a b =
    let e : x * 2 ^ n % 2 ^ 64 ≡ x * 2 ^ n = shl_exact m n 64 a (omega arith) in
    let l : x * 2 ^ n + y < 2 ^ (m + n) = rw (pow-add 2 m n) (digits_lt a b) in
    let k : 2 ^ (m + n) ≤ 2 ^ 63 = pow_mono {j = 63} h in
    rw e (refl, l, omega arith)

module _ (s : List ℕ) (p m x n y : ℕ) (h : p + (m + n) ≤ length s * 8) (b : Bytes s) where
  pub put_both : put_field s p (m + n) (x * 2 ^ n + y % 2 ^ n) ≡ put_field (put_field s p m x) (p + m) n y
  put_both =
      let v = x * 2 ^ n + y % 2 ^ n in
      let r : y % 2 ^ n < 2 ^ n = mod-lt y (pow_pos n) in
      let above : v / 2 ^ n ≡ x = high x n r in
      let below : v % 2 ^ n ≡ y % 2 ^ n = low x n r in
      put_split s p m n v
      ∙ ap (λ (k : ℕ). put_field (put_field s p m k) (p + m) n v) above
      ∙ put_alike (put_field s p m x) (p + m) n v y (rw (length_put s p m x) (omega arith)) (bytes_put s p m x (omega arith) b) below

-- ---- a run

pub joined_append : (x : ℕ) (xs ys : List Field) → joined x (xs ++ ys) ≡ joined (joined x xs) ys
unfolding joined
joined_append x [] ys = refl
joined_append x (bits w v ∷ xs) ys = joined_append (x * 2 ^ w + v % 2 ^ w) xs ys

pub joined_none : (x : ℕ) {fs : List Field} → fs ≡ [] → joined x fs ≡ x
unfolding joined
joined_none x e = rw e

pub joined_one : (x w v : ℕ) → v < 2 ^ w → joined x (bits w v ∷ []) ≡ x * 2 ^ w + v
unfolding joined
joined_one x w v h = ap (λ (n : ℕ). x * 2 ^ w + n) (mod-eq_of_lt h)

pub joined_lt : (k x : ℕ) (fs : List Field) → x < 2 ^ k → joined x fs < 2 ^ (k + total fs)
unfolding joined
joined_lt k x [] h = let e : k + total [] ≡ k = omega (arith, total_none) in rw e h
joined_lt k x (bits w v ∷ fs) h =
    let e : k + total (bits w v ∷ fs) ≡ k + w + total fs = omega (arith, total_next w v fs) in
    let l : x * 2 ^ w + v % 2 ^ w < 2 ^ (k + w) = rw (pow-add 2 k w) (digits_lt h (mod-lt v (pow_pos w))) in
    rw e (joined_lt (k + w) (x * 2 ^ w + v % 2 ^ w) fs l)

put_joined : (s : List ℕ) (p k x : ℕ) (fs : List Field) → p + (k + total fs) ≤ length s * 8 → Bytes s → put_field s p (k + total fs) (joined x fs) ≡ put_all (put_field s p k x) (p + k) fs
unfolding joined
put_joined s p k x [] h b =
    let e : k + total [] ≡ k = omega (arith, total_none) in
    ap (λ (n : ℕ). put_field s p n x) e ∙ sym (put_none (put_field s p k x) (p + k))
put_joined s p k x (bits w v ∷ fs) h b =
    let t = total_next w v fs in
    let e : k + total (bits w v ∷ fs) ≡ k + w + total fs = omega (arith, t) in
    let q : p + (k + w) ≡ p + k + w = omega arith in
    ap (λ (n : ℕ). put_field s p n (joined (x * 2 ^ w + v % 2 ^ w) fs)) e
    ∙ put_joined s p (k + w) (x * 2 ^ w + v % 2 ^ w) fs (omega (arith, t)) b
    ∙ ap₂ (λ (r : List ℕ) (n : ℕ). put_all r n fs) (put_both s p k x w v (omega (arith, t)) b) q
    ∙ sym (put_next (put_field s p k x) (p + k) w v fs)

-- a field and a run behind it
module _ (s : List ℕ) (p m x : ℕ) (fs : List Field) (n : ℕ) (e : total fs ≡ n) (h : p + (m + n) ≤ length s * 8) (b : Bytes s) where
  pub put_run_lem : {v : ℕ} → v ≡ joined 0 fs → put_field s p (m + n) (x * 2 ^ n + v) ≡ put_all s p (bits m x ∷ fs)
  put_run_lem {v} j =
      let t = put_field s p m x in
      let l = length_put s p m x in
      let c : Bytes t = bytes_put s p m x (omega arith) b in
      let f : 0 + total fs ≡ n = omega arith in
      let low : v < 2 ^ n = rw (j, sym f) (joined_lt 0 0 fs (pow_pos 0)) in
      let q : p + m + 0 ≡ p + m = omega arith in
      ap (λ (k : ℕ). put_field s p (m + n) (x * 2 ^ n + k)) (sym (mod-eq_of_lt low))
      ∙ put_both s p m x n v h b
      ∙ ap₂ (λ (k y : ℕ). put_field t (p + m) k y) (sym f) j
      ∙ put_joined t (p + m) 0 0 fs (omega (arith, l)) c
      ∙ ap₂ (λ (r : List ℕ) (k : ℕ). put_all r k fs) (put_nothing t (p + m) 0 (omega (arith, l)) c) q
      ∙ sym (put_next s p m x fs)

-- ---- 68 bits, cut in two

pub put_cut : (s : List ℕ) (p m v : ℕ) → p + 68 ≤ length s * 8 → Bytes s → put_field (put_field s p 36 (m * 2 ^ 32 + v / 2 ^ 32)) (p + 36) 32 (v % 4294967296) ≡ put_field s p 68 (m * 2 ^ 64 + v)
put_cut s p m v h b =
    let w = m * 2 ^ 64 + v in
    let above : w / 2 ^ 32 ≡ m * 2 ^ 32 + v / 2 ^ 32 = omega arith in
    let below : v % 4294967296 % 2 ^ 32 ≡ w % 2 ^ 32 = omega arith in
    put_alike (put_field s p 36 (m * 2 ^ 32 + v / 2 ^ 32)) (p + 36) 32 (v % 4294967296) w (rw (length_put s p 36 (m * 2 ^ 32 + v / 2 ^ 32)) (omega arith)) (bytes_put s p 36 (m * 2 ^ 32 + v / 2 ^ 32) (omega arith) b) below
    ∙ sym (put_split s p 36 32 w ∙ ap (λ (k : ℕ). put_field (put_field s p 36 k) (p + 36) 32 w) above)

-- ---- one bias more

pub word_fits : (x v : ℕ) → x < 2 ^ 48 → v < 2 ^ 16 → x * 2 ^ 16 % 2 ^ 64 + v < 2 ^ 64
word_fits x v h l =
    let e : x * 2 ^ 16 % 2 ^ 64 ≡ x * 2 ^ 16 = shl_exact 48 16 64 h (omega arith) in
    omega arith

pub bias_joined : (x v : ℕ) → x < 2 ^ 48 → {u : ℕ} {fs : List Field} → v ≡ u → v < 2 ^ 16 → fs ≡ bits 16 u ∷ [] → x * 2 ^ 16 % 2 ^ 64 + v ≡ joined x fs
bias_joined x v h {u} e l o =
    let k : u < 2 ^ 16 = omega arith in
    rw o (ap₂ ◌+◌ (shl_exact 48 16 64 h (omega arith)) e ∙ sym (joined_one x 16 u k))

-- ---- the mask and n biases, as the code puts them

pub one_room : (s : List ℕ) (p w v : ℕ) → length s ≤ 1023 → p + w ≤ length s * 8 → RoomFor s p (bits w v ∷ [])
one_room s p w v few h = record { few = few; within = omega (arith, total_one w v) }

pub few_fit : (m n v : ℕ) → n < 4 → m < 16 → v < 2 ^ (n * 16) → (m * 2 ^ (n * 16) % 2 ^ 64 + v ≡ m * 2 ^ (n * 16) + v) × (m * 2 ^ (n * 16) % 2 ^ 64 + v < 2 ^ (4 + n * 16)) × (m * 2 ^ (n * 16) % 2 ^ 64 + v < 2 ^ 64)
few_fit m n v h a b = join_fit 4 m (n * 16) v (omega arith) a b

pub few_put : (s : List ℕ) (p w : ℕ) {u v q : ℕ} {t : List ℕ} → u ≡ v → IsPut s p (bits w u ∷ []) t q → t ≡ put_field s p w v
few_put s p w {u} e d = d.left ∙ put_one s p w u ∙ ap (put_field s p w) e

-- four: 36 bits and 32
module _ (m n v : ℕ) (l : n ≤ 4) (g : 4 ≤ n) (a : m < 16) (b : v < 2 ^ (n * 16)) where
  pub upper_fit : (m * 2 ^ 32 % 2 ^ 64 + v / 2 ^ 32 ≡ m * 2 ^ 32 + v / 2 ^ 32) × (m * 2 ^ 32 % 2 ^ 64 + v / 2 ^ 32 < 2 ^ 36) × (m * 2 ^ 32 % 2 ^ 64 + v / 2 ^ 32 < 2 ^ 64)
  upper_fit =
      let e : n * 16 ≡ 64 = omega arith in
      let c : v < 2 ^ 64 = rw e at b in
      join_fit 4 m 32 (v / 2 ^ 32) (omega arith) a (omega arith)

  module _ (s : List ℕ) (p : ℕ) (few : length s ≤ 1023) (h : p + (4 + n * 16) ≤ length s * 8) {u q : ℕ} {t : List ℕ} (d : IsPut s p (bits 36 u ∷ []) t q) where
    pub lower_room : (w : ℕ) → RoomFor t q (bits 32 w ∷ [])
    lower_room w =
        let k : length t ≡ length s = ap length d.left ∙ length_put_all s p (bits 36 u ∷ []) in
        let i : q ≡ p + 36 = d.end ∙ ap (λ (n : ℕ). p + n) (total_one 36 u) in
        one_room t q 32 w (omega arith) (omega arith)

    pub four_put : Bytes s → u ≡ m * 2 ^ 32 + v / 2 ^ 32 → {r : ℕ} {x : List ℕ} → IsPut t q (bits 32 (v % 4294967296) ∷ []) x r → x ≡ put_field s p (4 + n * 16) (m * 2 ^ (n * 16) + v)
    four_put by e c =
        let i : q ≡ p + 36 = d.end ∙ ap (λ (n : ℕ). p + n) (total_one 36 u) in
        let f : n ≡ 4 = omega arith in
        c.left
        ∙ put_one t q 32 (v % 4294967296)
        ∙ ap₂ (λ (y : List ℕ) (k : ℕ). put_field y k 32 (v % 4294967296)) (few_put s p 36 e d) i
        ∙ put_cut s p m v (omega arith) by
        ∙ ap (λ (k : ℕ). put_field s p (4 + k * 16) (m * 2 ^ (k * 16) + v)) (sym f)
