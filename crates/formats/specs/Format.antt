-- A layout said once: which values it takes, the fields of a value, and how one is read. Assumes nothing.
use Rattle.std.specs.Prelude.{Bool, cond, ◌&&◌, true, List, [], ◌∷◌, ◌++◌, ℕ, zero, suc, length, eqb, ℤ}
use Rattle.bits.specs.Told.{Told, Accepted, and_then, kind}
use Rattle.bits.specs.Field.{Reading, reading, read_by, read_unsigned}
use Rattle.bits.specs.Fields.{Field, bits}
use Rattle.bits.specs.Signed.{fits_unsigned, fits_twos, twos_bits, twos_of}

-- which values it takes, the fields of a value, and how one is read from a bit on
pub record Format (A : Type 0) : Type 0 where
  pub fits : A → Bool
  pub fields : A → List Field
  pub reads : List ℕ → ℕ → Told (Reading A)

-- ---- one field

-- one field of w bits: the values that fit it, the number of a value, and what a number means
abbrev pub coded : {A : Type 0} → ℕ → (A → Bool) → (A → ℕ) → (ℕ → A) → Format A
coded w fit number meaning =
    record {
      fits = fit;
      fields = λ a. bits w (number a) ∷ [];
      reads = λ s p. read_by meaning s p w;
    }

-- the number itself
abbrev pub unsigned : ℕ → Format ℕ
unsigned w = coded w (fits_unsigned w) (λ v. v) (λ v. v)

-- the number as two's complement
abbrev pub twos : ℕ → Format ℤ
twos w = coded w (fits_twos w) (twos_bits w) (twos_of w)

-- ---- one behind the other

-- F, and behind it G, which may depend on what F holds
abbrev pub next : {A B : Type 0} → Format A → (A → Format B) → Format (A × B)
next F G =
    record {
      fits = λ x. F.fits x.0 && (G x.0).fits x.1;
      fields = λ x. F.fields x.0 ++ (G x.0).fields x.1;
      reads = λ s p.
          and_then (F.reads s p) (λ a.
          and_then ((G a.value).reads s a.next) (λ b.
          Accepted (reading (a.value, b.value) b.next)));
    }

-- F, and behind it G
infixr 20 ◌then◌
abbrev pub ◌then◌ : {A B : Type 0} → Format A → Format B → Format (A × B)
F then G = next F (λ a. G)

-- each of them fits
unfoldable pub fit_each : {A : Type 0} → Format A → List A → Bool
fit_each F [] = true
fit_each F (x ∷ xs) = F.fits x && fit_each F xs

-- the fields of each, one behind the other
unfoldable pub fields_each : {A : Type 0} → Format A → List A → List Field
fields_each F [] = []
fields_each F (x ∷ xs) = F.fields x ++ fields_each F xs

-- n of them, one behind the other, from bit p on
unfoldable pub read_each : {A : Type 0} → Format A → ℕ → List ℕ → ℕ → Told (Reading (List A))
read_each F zero s p = Accepted (reading [] p)
read_each F (suc n) s p =
    and_then (F.reads s p) (λ x.
    and_then (read_each F n s x.next) (λ xs.
    Accepted (reading (x.value ∷ xs.value) xs.next)))

-- n times F
abbrev pub times : {A : Type 0} → ℕ → Format A → Format (List A)
times n F =
    record {
      fits = λ xs. eqb (length xs) n && fit_each F xs;
      fields = fields_each F;
      reads = read_each F n;
    }

-- ---- the same fields, otherwise understood

-- F, its values written as others: `to` of what is read, `from` of what is written
abbrev pub shaped : {A B : Type 0} → (A → B) → (B → A) → Format A → Format B
shaped to from F =
    record {
      fits = λ b. F.fits (from b);
      fields = λ b. F.fields (from b);
      reads = λ s p. and_then (F.reads s p) (λ a. Accepted (reading (to a.value) a.next));
    }

-- a count of w bits, and so many times F
abbrev pub counted : {A : Type 0} → ℕ → Format A → Format (List A)
counted w F = shaped (λ x. x.1) (λ xs. (length xs, xs)) (next (unsigned w) (λ n. times n F))

-- ---- messages

-- the message number n (12 bits), and F; another number is refused with Kind before anything else is read
abbrev pub numbered : {A : Type 0} → ℕ → Format A → Format A
numbered n F =
    record {
      fits = F.fits;
      fields = λ a. bits 12 n ∷ F.fields a;
      reads = λ s p. and_then (read_unsigned s p 12) (λ m. cond (eqb m.value n) (F.reads s m.next) kind);
    }
