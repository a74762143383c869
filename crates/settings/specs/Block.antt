-- A settings block of 512 bytes: bytes 0 and 1 its index, high byte first; byte 2 the edition; byte 3 a count; then that many numbers of two bytes, high byte first, in edition 2 each with a third byte, its priority; zeros; the CRC-24Q of bytes 0 to 508 in the last three. Assumes nothing.
use Rattle.std.specs.Prelude.{Bool, true, false, cond, List, [], ◌∷◌, ℕ, zero, suc, ◌+◌, ◌-◌, ◌*◌, ◌/◌, ◌%◌, ◌^◌, length, get_or, ltb, eqb}
use Rattle.bits.specs.Crc.{summed}

-- the n numbers that f gives to the places from i on
unfoldable pub listed : (ℕ → ℕ) → ℕ → ℕ → List ℕ
listed f i zero = []
listed f i (suc n) = f i ∷ listed f (suc i) n

-- ---- which numbers are allowed

-- the editions are 1 and 2
unfoldable pub known : ℕ → Bool
known edition = cond (eqb edition 1) true (eqb edition 2)

-- a number is at most 4,095, and in edition 2 a priority is at most 7
abbrev pub bad : ℕ → ℕ → ℕ → Bool
bad edition number priority = cond (ltb 4095 number) true (cond (eqb edition 1) false (ltb 7 priority))

-- the first of the n entries from entry i on whose number or priority is bad; the entry behind them if there is none
unfoldable pub first_bad : ℕ → (ℕ → ℕ) → (ℕ → ℕ) → ℕ → ℕ → ℕ
first_bad edition number priority i zero = i
first_bad edition number priority i (suc n) =
    cond (bad edition (number i) (priority i)) i (first_bad edition number priority (suc i) n)

-- ---- the bytes of a block

-- byte j of entry k: the number, high byte first, and its priority; 0 where there is no such entry
unfoldable pub entry_byte : List ℕ → List ℕ → ℕ → ℕ → ℕ
entry_byte numbers priorities k j =
    cond (ltb k (length numbers))
    (cond (eqb j 0) (get_or numbers k 0 / 2 ^ 8) (cond (eqb j 1) (get_or numbers k 0 % 2 ^ 8) (get_or priorities k 0))) 0

-- byte i behind the first four: entries of two bytes in edition 1, of three in edition 2
unfoldable pub list_byte : ℕ → List ℕ → List ℕ → ℕ → ℕ
list_byte edition numbers priorities i =
    cond (eqb edition 1) (entry_byte numbers priorities (i / 2) (i % 2)) (entry_byte numbers priorities (i / 3) (i % 3))

-- byte i of the first 509
unfoldable pub byte_of : ℕ → ℕ → List ℕ → List ℕ → ℕ → ℕ
byte_of edition index numbers priorities i =
    cond (eqb i 0) (index / 2 ^ 8)
    (cond (eqb i 1) (index % 2 ^ 8)
    (cond (eqb i 2) edition
    (cond (eqb i 3) (length numbers)
    (list_byte edition numbers priorities (i - 4)))))

-- the whole block
unfoldable pub block_of : ℕ → ℕ → List ℕ → List ℕ → List ℕ
block_of edition index numbers priorities = summed (listed (byte_of edition index numbers priorities) 0 509)

-- ---- what stands in a block s

abbrev pub index_in : List ℕ → ℕ
index_in s = get_or s 0 0 * 2 ^ 8 + get_or s 1 0

abbrev pub edition_in : List ℕ → ℕ
edition_in s = get_or s 2 0

abbrev pub count_in : List ℕ → ℕ
count_in s = get_or s 3 0

-- where entry k starts
abbrev pub entry_place : ℕ → ℕ → ℕ
entry_place edition k = cond (eqb edition 1) (4 + k * 2) (4 + k * 3)

-- the number of entry k
abbrev pub number_in : List ℕ → ℕ → ℕ
number_in s k = get_or s (entry_place (edition_in s) k) 0 * 2 ^ 8 + get_or s (entry_place (edition_in s) k + 1) 0

-- the priority of entry k: 0 in edition 1
abbrev pub priority_in : List ℕ → ℕ → ℕ
priority_in s k = cond (eqb (edition_in s) 1) 0 (get_or s (entry_place (edition_in s) k + 2) 0)

abbrev pub numbers_in : List ℕ → List ℕ
numbers_in s = listed (number_in s) 0 (count_in s)

abbrev pub priorities_in : List ℕ → List ℕ
priorities_in s = listed (priority_in s) 0 (count_in s)
