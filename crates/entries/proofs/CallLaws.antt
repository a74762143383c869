-- Each case of the calls over entries, from the cache's over their numbers. Assumes nothing.
use Rattle.std.specs.Prelude.{◌≡◌, List, [], map, Bool, ℕ, length, set, get_or, Option, Some, None, MatchOption, position, Result, Ok, Err, IsErrAnd}
use Rattle.std.proofs.Common.{refl, ap, sym, ◌∙◌}
use Rattle.std.specs.Option.{option_or}
use Rattle.std.proofs.lemmas.List.{map-set}
use Rattle.std.proofs.lemmas.List as L
use lib.ListN.{length-map}
use mathlib.Core.Option as M
use Rattle.bits.specs.Told.{Accepted, full, absent}
use Rattle.bits.specs.Outcome.{outcome}
use Rattle.bits.specs.Refusals.{told}
use Rattle.bits.specs.declared.refusal.Refusal.{Refusal}
use Rattle.cache.specs.Cache.{Value, value_in, free, has_key, entry_of, blank, Answer, Call, fits, Store, Remove, Lookup, act, admitted, step}
use Rattle.cache.specs.Answers.{told_admitted}
use Rattle.cache.proofs.PlaceLaws.{placed, placed_map}
use Rattle.cache.proofs.CodeLaws as C
use Rattle.entries.specs.Entries.{numbers_of, key_of, value_of}
use Rattle.entries.specs.declared.Entry.{Entry}

module _ (c : Call) (s : List Entry) (b : Bool) (fit : b ≡ fits c) where
  shorter : {x : Answer} → x ≡ admitted (length s) b → x ≡ admitted (length (map numbers_of s)) b
  shorter e = e ∙ ap (λ (n : ℕ). admitted n b) (sym (length-map s numbers_of))

  pub refused : {T : Type 0} (told_of : T → M.Option Value) (r : Result T Refusal) (x : Refusal) → told_admitted (Err x) ≡ admitted (length s) b → IsErrAnd r (λ e. e ≡ x)
      → outcome (told told_of r) (map numbers_of s) ≡ step c (map numbers_of s)
  refused told_of r x e p = C.refused c (map numbers_of s) b fit told_of r x (shorter e) p

  pub does : (u : Unit {0}) → told_admitted (Ok u) ≡ admitted (length s) b → act c (map numbers_of s) ≡ step c (map numbers_of s)
  does u e = (C.taken c (map numbers_of s) b fit u (shorter e)).1

-- the entry e, and the list s
module _ (e : Entry) (s : List Entry) where
  abbrev keyed : Option ℕ
  keyed = position (λ x. has_key (key_of e) (numbers_of x)) s

  abbrev unused : Option ℕ
  unused = position (λ x. free (numbers_of x)) s

  pub stored : (i : Option ℕ) → i ≡ option_or keyed unused
      → MatchOption i (outcome full (map numbers_of s) ≡ act (Store (key_of e) (value_of e)) (map numbers_of s))
      (λ n. (w : Entry) → numbers_of w ≡ entry_of (key_of e) (value_of e)
      → outcome (Accepted M.none) (map numbers_of (set s n w)) ≡ act (Store (key_of e) (value_of e)) (map numbers_of s))
  stored i q = go i (C.stored (key_of e) (value_of e) (map numbers_of s) (entry_of (key_of e) (value_of e)) refl keyed (placed_map numbers_of (has_key (key_of e)) s keyed refl) unused (placed_map numbers_of free s unused refl) i q)
    where
      go : (i : Option ℕ)
          → MatchOption i (outcome full (map numbers_of s) ≡ act (Store (key_of e) (value_of e)) (map numbers_of s))
          (λ n. outcome (Accepted M.none) (set (map numbers_of s) n (entry_of (key_of e) (value_of e))) ≡ act (Store (key_of e) (value_of e)) (map numbers_of s))
          → MatchOption i (outcome full (map numbers_of s) ≡ act (Store (key_of e) (value_of e)) (map numbers_of s))
          (λ n. (w : Entry) → numbers_of w ≡ entry_of (key_of e) (value_of e)
          → outcome (Accepted M.none) (map numbers_of (set s n w)) ≡ act (Store (key_of e) (value_of e)) (map numbers_of s))
      go None h = h
      go (Some n) h = λ w is. ap (outcome (Accepted M.none)) (map-set numbers_of s n w ∙ ap (set (map numbers_of s) n) is) ∙ h

  pub removed : (i : Option ℕ) → i ≡ keyed
      → MatchOption i (outcome absent (map numbers_of s) ≡ act (Remove (key_of e)) (map numbers_of s))
      (λ n. (w : Entry) → numbers_of w ≡ blank
      → outcome (Accepted M.none) (map numbers_of (set s n w)) ≡ act (Remove (key_of e)) (map numbers_of s))
  removed None q = C.removed (key_of e) (map numbers_of s) None (placed_map numbers_of (has_key (key_of e)) s None q)
  removed (Some n) q = λ w is.
      ap (outcome (Accepted M.none)) (map-set numbers_of s n w ∙ ap (set (map numbers_of s) n) is)
      ∙ C.removed (key_of e) (map numbers_of s) (Some n) (placed_map numbers_of (has_key (key_of e)) s (Some n) q)

  pub looked_up : (i : Option ℕ) → i ≡ keyed
      → MatchOption i (outcome absent (map numbers_of s) ≡ act (Lookup (key_of e)) (map numbers_of s))
      (λ n. (d : Entry) (v : Value) → v ≡ value_of (get_or s n d)
      → outcome (Accepted (M.some v)) (map numbers_of s) ≡ act (Lookup (key_of e)) (map numbers_of s))
  looked_up None q = C.looked_up (key_of e) (map numbers_of s) None (placed_map numbers_of (has_key (key_of e)) s None q)
  looked_up (Some n) q = λ d v is.
      let h = (placed (λ x. has_key (key_of e) (numbers_of x)) s (Some n) q).1 in
      ap (λ (x : Value). outcome (Accepted (M.some x)) (map numbers_of s)) (is ∙ ap value_in (sym (L.get_or-map numbers_of s n d [] h)))
      ∙ C.looked_up (key_of e) (map numbers_of s) (Some n) (placed_map numbers_of (has_key (key_of e)) s (Some n) q)
