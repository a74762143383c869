-- The whole-stream scan over any decider, and what is read off its items. Assumes nothing.
use Rattle.std.specs.Prelude.{cond, List, [], ◌∷◌, ◌++◌, ℕ, zero, suc, ◌+◌, pred, length, take, ltb}

-- What is done at the front of a list of bytes: its first byte is skipped, for a reason; a frame of a kind and a length is handed out; or more bytes are awaited.
pub data Decision (W K : Type 0) : Type 0 where
  Skip : W → Decision W K
  Take : K → ℕ → Decision W K
  Wait : Decision W K

-- What became of a part of the stream: one byte skipped, for a reason; or a frame of a kind, with its bytes.
pub data Item (W K : Type 0) : Type 0 where
  Skipped : W → ℕ → Item W K
  Framed : K → List ℕ → Item W K

-- The items of a stream in its order, and the bytes at its end that are held.
pub record Scanned (W K : Type 0) : Type 0 where
  pub items : List (Item W K)
  pub held : List ℕ

-- no item, and s held
abbrev pub holding : {W K : Type 0} → List ℕ → Scanned W K
holding s = record { items = []; held = s }

-- the items is, and then what r has
abbrev pub after : {W K : Type 0} → List (Item W K) → Scanned W K → Scanned W K
after is r = record { items = is ++ r.items; held = r.held }

-- What was decided at the front of x ∷ xs is done, and scanning goes on in xs, past as many bytes as belong to the frame; waiting holds all that is left.
abbrev pub step : {W K : Type 0} → Decision W K → ℕ → List ℕ → (ℕ → Scanned W K) → Scanned W K
step (Skip w) x xs onward = after (Skipped w x ∷ []) (onward 0)
step (Take k n) x xs onward = after (Framed k (take n (x ∷ xs)) ∷ []) (onward (pred n))
step Wait x xs onward = holding (x ∷ xs)

-- The scan of bytes of which the first m belong to a frame that was handed out.
abbrev pub scan_past : {W K : Type 0} → (List ℕ → Decision W K) → ℕ → List ℕ → Scanned W K
scan_past d m [] = holding []
scan_past d (suc m) (x ∷ xs) = scan_past d m xs
scan_past d zero (x ∷ xs) = step (d (x ∷ xs)) x xs (λ n. scan_past d n xs)

-- The whole-stream scan: from place 0, at each place what the decider says of the bytes from there on.
abbrev pub scan : {W K : Type 0} → (List ℕ → Decision W K) → List ℕ → Scanned W K
scan d s = scan_past d 0 s

-- ---- read off the items

-- the bytes of an item
abbrev pub item_bytes : {W K : Type 0} → Item W K → List ℕ
item_bytes (Skipped w x) = x ∷ []
item_bytes (Framed k f) = f

-- the bytes of the items, in order
abbrev pub bytes_of : {W K : Type 0} → List (Item W K) → List ℕ
bytes_of [] = []
bytes_of (i ∷ is) = item_bytes i ++ bytes_of is

-- the frames of the items, in order
abbrev pub frames_of : {W K : Type 0} → List (Item W K) → List (List ℕ)
frames_of [] = []
frames_of (Skipped w x ∷ is) = frames_of is
frames_of (Framed k f ∷ is) = f ∷ frames_of is

-- a frame that is handed out: the stream place where it starts, its kind and its bytes
pub record Handed (K : Type 0) : Type 0 where
  pub place : ℕ
  pub kind : K
  pub bytes : List ℕ

-- the frames of items of which the first stands at place n
abbrev pub handed : {W K : Type 0} → ℕ → List (Item W K) → List (Handed K)
handed n [] = []
handed n (Skipped w x ∷ is) = handed (n + 1) is
handed n (Framed k f ∷ is) = record { place = n; kind = k; bytes = f } ∷ handed (n + length f) is

-- how many bytes are in frames
abbrev pub framed : {K : Type 0} → List (Handed K) → ℕ
framed [] = 0
framed (f ∷ fs) = length f.bytes + framed fs

-- how many bytes are skipped
abbrev pub skipped_of : {W K : Type 0} → List (Item W K) → ℕ
skipped_of [] = 0
skipped_of (Skipped w x ∷ is) = suc (skipped_of is)
skipped_of (Framed k f ∷ is) = skipped_of is

-- an item, and the stream place where it starts
pub record Placed (W K : Type 0) : Type 0 where
  pub place : ℕ
  pub item : Item W K

-- the items with their places, the first of which is n
abbrev pub placed : {W K : Type 0} → ℕ → List (Item W K) → List (Placed W K)
placed n [] = []
placed n (i ∷ is) = record { place = n; item = i } ∷ placed (n + length (item_bytes i)) is

-- 1 for a byte that is skipped at a place n before place e, else 0
abbrev pub skip_at_place : {W K : Type 0} → ℕ → ℕ → Item W K → ℕ
skip_at_place e n (Skipped w x) = cond (ltb n e) 1 0
skip_at_place e n (Framed k f) = 0

-- how many of the places before e are skipped
abbrev pub skips_before : {W K : Type 0} → ℕ → List (Placed W K) → ℕ
skips_before e [] = 0
skips_before e (i ∷ is) = skip_at_place e i.place i.item + skips_before e is
