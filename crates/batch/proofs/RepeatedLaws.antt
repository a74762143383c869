-- Calls that list all frames come to what the whole-stream scan gives, however long their lists are, and so to what feeding comes to. Assumes nothing.
use mathlib.Core.Path.{◌≡◌, refl, sym, ap, ap₂, ◌∙◌, subst}
use mathlib.Core.Bool.{Bool, true, false, cond}
use mathlib.Core.List.{List, [], ◌∷◌, ◌++◌, append-nil, append_assoc}
use Prim.Native.Nat.{ℕ, ◌+◌, ◌-◌, ◌≤◌}
use native.Mathlib.Nat.{add-zero}
use native.Mathlib.Omega.{arith}
use lib.ListN.{length, take, drop, length-append, length-drop, length-map, take-append-drop}
use lib.Seq.{take_at, drop_at, take_all, drop-append-le, length-take-le}
use Rattle.bits.specs.Told.{Told, Accepted}
use Rattle.bits.specs.Outcome.{outcome}
use Rattle.bits.specs.Onto.{onto}
use Rattle.frames.specs.Scan.{Decision, Item, Handed, scan, bytes_of, handed, framed, skipped_of}
use Rattle.frames.specs.Framing.{decide}
use Rattle.frames.specs.Rtcm.{Why, Kind}
use Rattle.frames.specs.Modes.{framing_of}
use Rattle.frames.specs.Call.{Scanner, held_from, onwards}
use Rattle.frames.specs.Offered.{Scans, Offered}
use Rattle.frames.proofs.FramingLaws.{decides}
use Rattle.frames.proofs.ItemLaws.{handed_append, skipped_append, length_items, bytes_append}
use Rattle.frames.proofs.JoinLaws.{every_byte}
use Rattle.frames.proofs.StandLaws.{Stands, stands}
use Rattle.frames.proofs.Demand as demand
use Rattle.frames.proofs.ModeLaws.{lawful}
use Rattle.frames.specs.Listing.{starts_of, lengths_of}
use Rattle.batch.specs.Batch.{Areas, kinds_of, seam_of, listed, AllAnswer, Frames, called_all, feed_all_of}
use Rattle.batch.specs.Repeated.{read_all, read_off, Listed, last, then}
use Rattle.batch.proofs.CallLaws.{FitsAll, accepted, accepts}
use Rattle.batch.proofs.SplitLaws.{firsts, resumes}
use Rattle.batch.proofs.ReadLaws.{InOrder, in_order, handed_moved, read_back}

module _ (mode : ℕ) where
  abbrev d : List ℕ → Decision Why Kind
  d = decide (framing_of mode)

  -- ---- one call

  -- the bytes held before
  abbrev before : Areas → Scanner → List ℕ
  before a x = take x.count a.held

  record OneCall (a : Areas) (x : Scanner) (p : List ℕ) (n t s : ℕ) (full : Bool) (i : ℕ) (y : Scanner) (b : Areas) : Type 0 where
    fits : FitsAll a x p
    front : List (Item Why Kind)
    back : List (Item Why Kind)
    both : (scan d (before a x ++ p)).items ≡ front ++ back
    all : full ≡ false → back ≡ []
    inside : length (bytes_of front) ≤ length (before a x) + length p
    taken : cond full (length (bytes_of front) - length (before a x)) (length p) ≡ t
    frames : read_off n i x.count p b ≡ handed (held_from x) front
    skipped : skipped_of front ≡ s
    left : take y.count b.held ≡ drop (length (bytes_of front)) (before a x ++ take t p)
    count : length (take y.count b.held) ≡ y.count
    scanner : onwards x t y.count ≡ y

  held_length : (a : Areas) (x : Scanner) (p : List ℕ) → FitsAll a x p → length (before a x) ≡ x.count
  held_length a x p f = length-take-le x.count a.held (omega (arith, f.area, f.count))

  -- what is read off the areas that a call leaves
  reads : (a : Areas) (x : Scanner) (p : List ℕ) (f : FitsAll a x p) (front back : List (Item Why Kind)) → (scan d (before a x ++ p)).items ≡ front ++ back
      → (i : ℕ) (g : List ℕ) → read_off (length (handed 0 front)) i (length (before a x)) p (listed (length (before a x)) g (handed 0 front) a) ≡ handed i front
  reads a x p f front back e i g =
      let fs = handed 0 front in
      let h = before a x in
      let u : InOrder (h ++ p) 0 fs = firsts_in_order (in_order (framing_of mode) (lawful mode) (h ++ p) 0 (front ++ back) (subst (λ is. Stands d (h ++ p) is) e (stands d (decides (framing_of mode) (lawful mode)).whole (h ++ p)))) in
      let s : take (length fs) (onto (starts_of fs) a.starts) ≡ starts_of fs = take_at (starts_of fs) _ (length fs) (length-map fs (λ f. f.place)) in
      let l : take (length fs) (onto (lengths_of fs) a.lengths) ≡ lengths_of fs = take_at (lengths_of fs) _ (length fs) (length-map fs (λ f. length f.bytes)) in
      let k : take (length fs) (onto (kinds_of fs) a.kinds) ≡ kinds_of fs = take_at (kinds_of fs) _ (length fs) (length-map fs _) in
      (λ j. read_all i (length h) p (seam_of (length h) fs a.seam) (s j) (l j) (k j))
      ∙ read_back i h p (omega (arith, held_length a x p f, f.count)) fs 0 a.seam f.seam u
      ∙ handed_moved i 0 front ∙ ap (λ m. handed m front) (add-zero i)
    where
      -- the frames of the first items come first
      fewer : (t : List ℕ) (m : ℕ) (fs gs : List (Handed Kind)) → InOrder t m (fs ++ gs) → InOrder t m fs
      fewer t m [] gs x = tt
      fewer t m (f ∷ fs) gs x = (x.0, x.1, x.2, fewer t (f.place + length f.bytes) fs gs x.3)

      firsts_in_order : InOrder (before a x ++ p) 0 (handed 0 (front ++ back)) → InOrder (before a x ++ p) 0 (handed 0 front)
      firsts_in_order w = fewer (before a x ++ p) 0 (handed 0 front) _ (subst (InOrder (before a x ++ p) 0) (handed_append 0 front back) w)

  one_call : (a : Areas) (x : Scanner) (p : List ℕ) (n t s : ℕ) (full : Bool) (i : ℕ) (y : Scanner) (b : Areas)
      → feed_all_of (framing_of mode) a x p ≡ outcome (Accepted (Frames n t s full i y)) b → OneCall a x p n t s full i y b
  one_call a x p n t s full i y b e =
      let f = accepts (framing_of mode) a x p (Frames n t s full i y) b e in
      let h = before a x in
      let r = scan d (h ++ p) in
      let q = firsts (length a.starts) f.some r in
      let js = q.front in
      let stop = length (bytes_of js) in
      let T = cond q.full (stop - length h) (length p) in
      let g = drop stop (h ++ take T p) in
      let c : called_all (record { frames = handed 0 js; stop = stop; full = q.full }) x h p a ≡ outcome (Accepted (Frames n t s full i y)) b =
      ap (λ w. called_all w x h p a) (sym q.first) ∙ accepted (framing_of mode) a x p f ∙ e in
      let told : ◌≡◌ {A = Told AllAnswer} (Accepted (Frames (length (handed 0 js)) T (stop - framed (handed 0 js)) q.full (held_from x) (onwards x T (length g)))) (Accepted (Frames n t s full i y)) = ap (λ z. z.answer) c in
      let yn : length (handed 0 js) ≡ n = cc in
      let yt : T ≡ t = cc in
      let ys : stop - framed (handed 0 js) ≡ s = cc in
      let yf : q.full ≡ full = cc in
      let yi : held_from x ≡ i = cc in
      let yy : onwards x T (length g) ≡ y = cc in
      let ym : length g ≡ y.count = ap (λ z. z.count) yy in
      let z : listed (length h) g (handed 0 js) a ≡ b = ap (λ z. z.areas) c in
      let lh = held_length a x p f in
      let held : take y.count b.held ≡ g = ap₂ (λ m w. take m w) (sym ym) (sym (ap (λ z. z.held) z)) ∙ take_at g (drop (length g) a.held) (length g) refl in
      let bytes : length (bytes_of js) ≤ length h + length p =
      omega (arith, simp length-append at (ap length (every_byte d (decides (framing_of mode) (lawful mode)).whole (h ++ p))), ap (λ is. length (bytes_of is)) q.both, ap length (bytes_append js q.back), length-append (bytes_of js) (bytes_of q.back)) in
      record {
        fits = f;
        front = js;
        back = q.back;
        both = q.both;
        all = λ u. q.all (yf ∙ u);
        inside = bytes;
        taken = ap (λ w. cond w (stop - length h) (length p)) (sym yf) ∙ yt;
        frames = (λ j. read_off (sym yn j) (sym yi j) (sym lh j) p (sym z j)) ∙ reads a x p f js q.back q.both (held_from x) g;
        skipped = omega (arith, length_items 0 js, ys);
        left = held ∙ ap (λ m. drop stop (h ++ take m p)) yt;
        count = ap length held ∙ ym;
        scanner = (λ j. onwards x (sym yt j) (sym ym j)) ∙ yy;
      }

  -- ---- call after call

  pub record Comes (a : List ℕ) (x : Scanner) (p : List ℕ) (fs : List (Handed Kind)) (s : ℕ) (b : List ℕ) (y : Scanner) : Type 0 where
    pub scans : Scans (framing_of mode) (held_from x) (take x.count a ++ p) fs s (take y.count b)
    pub held : length (take y.count b) ≡ y.count
    pub fits : x.count ≤ x.taken
    pub taken : y.taken ≡ x.taken + length p
    pub opened : y.mode ≡ x.mode

  -- what is held and not taken is the stream from the stop on
  onward_is : (h p : List ℕ) (stop t : ℕ) → stop ≤ length h + length p → stop - length h ≡ t → drop stop (h ++ take t p) ++ drop t p ≡ drop stop (h ++ p)
  onward_is h p stop t l e =
      let u : stop ≤ length (h ++ take t p) = rw (length-append, length-take-le t p (omega arith)) (omega arith) in
      sym (drop-append-le stop (h ++ take t p) (drop t p) u) ∙ ap (drop stop) (append_assoc h (take t p) (drop t p) ∙ ap (λ r. h ++ r) (take-append-drop t p))

  comes_last : (a b : Areas) (x y : Scanner) (p : List ℕ) (n t s i : ℕ) → OneCall a x p n t s false i y b → Comes a.held x p (read_off n i x.count p b) s b.held y
  comes_last a b x y p n t s i c =
      let h = before a x in
      let r = scan d (h ++ p) in
      let u : r.items ≡ c.front = c.both ∙ ap (λ k. c.front ++ k) (c.all refl) ∙ append-nil c.front in
      let w : r.held ≡ drop (length (bytes_of c.front)) (h ++ p) =
      sym (drop_at (bytes_of r.items) r.held (length (bytes_of c.front)) (ap (λ is. length (bytes_of is)) u)) ∙ ap (drop (length (bytes_of c.front))) (every_byte d (decides (framing_of mode) (lawful mode)).whole (h ++ p)) in
      let all : length p ≡ t = c.taken in
      let v : take t p ≡ p = take_all t p (omega arith) in
      record {
        scans = record { frames = ap (handed (held_from x)) u ∙ sym c.frames; skipped = ap skipped_of u ∙ c.skipped; held = w ∙ ap (λ q. drop (length (bytes_of c.front)) (h ++ q)) (sym v) ∙ sym c.left };
        held = c.count;
        fits = c.fits.held;
        taken = sym (ap (λ z. z.taken) c.scanner) ∙ ap (λ m. x.taken + m) (sym all);
        opened = sym (ap (λ z. z.mode) c.scanner);
      }

  comes_then : (a b : Areas) (x y z : Scanner) (p e : List ℕ) (n t s i u : ℕ) (fs : List (Handed Kind))
      → OneCall a x p n t s true i y b → Comes b.held y (drop t p) fs u e z → Comes a.held x p (read_off n i x.count p b ++ fs) (s + u) e z
  comes_then a b x y z p e n t s i u fs c g =
      let h = before a x in
      let r = scan d (h ++ p) in
      let stop = length (bytes_of c.front) in
      let lh = held_length a x p c.fits in
      let st : stop - length h ≡ t = c.taken in
      let tp : t ≤ length p = omega (arith, st, c.inside) in
      let at : take y.count b.held ++ drop t p ≡ drop stop (h ++ p) = ap (λ q. q ++ drop t p) c.left ∙ onward_is h p stop t c.inside st in
      let rest : scan d (take y.count b.held ++ drop t p) ≡ record { items = c.back; held = r.held } = ap (scan d) at ∙ resumes d (decides (framing_of mode) (lawful mode)).whole c.front c.back (h ++ p) c.both in
      let yc : y.count ≡ x.count + t - stop = sym c.count ∙ ap length c.left ∙ length-drop stop (h ++ take t p) ∙ ap (λ m. m - stop) (length-append h (take t p) ∙ ap₂ (λ m k. m + k) lh (length-take-le t p tp)) in
      let yt : y.taken ≡ x.taken + t = sym (ap (λ w. w.taken) c.scanner) in
      let place : held_from x + stop ≡ held_from y = omega (arith, yc, yt, c.fits.held, st, lh) in
      record {
        scans =
            record {
              frames = ap (handed (held_from x)) c.both ∙ handed_append (held_from x) c.front c.back
                  ∙ ap₂ (λ l k. l ++ k) (sym c.frames) (ap (λ m. handed m c.back) place ∙ ap (λ w. handed (held_from y) w.items) (sym rest) ∙ g.scans.frames);
              skipped = ap skipped_of c.both ∙ skipped_append c.front c.back ∙ ap₂ (λ m k. m + k) c.skipped (ap (λ w. skipped_of w.items) (sym rest) ∙ g.scans.skipped);
              held = ap (λ w. w.held) (sym rest) ∙ g.scans.held;
            };
        held = g.held;
        fits = c.fits.held;
        taken = g.taken ∙ omega (arith, yt, length-drop t p, tp);
        opened = g.opened ∙ sym (ap (λ w. w.mode) c.scanner);
      }

  -- CALLS THAT LIST ALL FRAMES, made again as long as their lists are full, give what the scan of the held bytes and the piece gives: its frames, read off the lists, the seam and the piece, with their places and kinds, the bytes skipped, and the bytes held.
  pub comes : {a b p : List ℕ} {x y : Scanner} {s : ℕ} {fs : List (Handed Kind)} → Listed (framing_of mode) a x p fs s b y → Comes a x p fs s b y
  comes (last a b {p} {x} {y} {n} {t} {s} {i} e) = comes_last a b x y p n t s i (one_call a x p n t s false i y b e)
  comes (then a b {p} {c} {x} {y} {z} {n} {t} {s} {i} {u} {fs} e r) = comes_then a b x y z p c n t s i u fs (one_call a x p n t s true i y b e) (comes r)

  same_scanner : {x y : Scanner} → x.count ≡ y.count → x.taken ≡ y.taken → x.mode ≡ y.mode → x ≡ y
  same_scanner c t m = λ j. record { count = c j; taken = t j; mode = m j }

  -- SO THE LENGTH of the lists does not matter: from one scanner with the same bytes held, the frames, the total skipped, the scanner and the held bytes are the same.
  pub any_lists : {a b c e p : List ℕ} {x y z : Scanner} {s u : ℕ} {fs gs : List (Handed Kind)}
      → Listed (framing_of mode) a x p fs s b y → Listed (framing_of mode) c x p gs u e z → take x.count c ≡ take x.count a
      → (fs ≡ gs) × (s ≡ u) × (y ≡ z) × (take y.count b ≡ take z.count e)
  any_lists {a} {b} {c} {e} {p} {x} {y} {z} {s} {u} {fs} {gs} l k same =
      let i = comes l in
      let j = comes k in
      let t = demand.scans_same (framing_of mode) (held_from x) (take x.count a ++ p) (take y.count b) (take z.count e) fs gs s u i.scans (subst (λ h. Scans (framing_of mode) (held_from x) (h ++ p) gs u (take z.count e)) same j.scans) in
      let count : y.count ≡ z.count = sym i.held ∙ ap length t.2 ∙ j.held in
      (t.0, t.1, same_scanner count (i.taken ∙ sym j.taken) (i.opened ∙ sym j.opened), t.2)

  -- AND FEEDING one frame at a time until More gives the same.
  pub as_feeding : {a b c e p : List ℕ} {x y z : Scanner} {s u : ℕ} {fs gs : List (Handed Kind)}
      → Listed (framing_of mode) a x p fs s b y → Offered (framing_of mode) c x p gs u e z → take x.count c ≡ take x.count a
      → (fs ≡ gs) × (s ≡ u) × (y ≡ z) × (take y.count b ≡ take z.count e)
  as_feeding {a} {b} {c} {e} {p} {x} {y} {z} {s} {u} {fs} {gs} l k same =
      let i = comes l in
      let j = demand.given (framing_of mode) (lawful mode) k in
      let t = demand.scans_same (framing_of mode) (held_from x) (take x.count a ++ p) (take y.count b) (take z.count e) fs gs s u i.scans (subst (λ h. Scans (framing_of mode) (held_from x) (h ++ p) gs u (take z.count e)) same j.scans) in
      let count : y.count ≡ z.count = sym i.held ∙ ap length t.2 ∙ j.held in
      (t.0, t.1, same_scanner count (i.taken ∙ sym j.taken) (i.opened ∙ sym j.mode), t.2)
