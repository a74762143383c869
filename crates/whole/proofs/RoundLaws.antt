-- A front and the block behind it, whatever they are: what was written together reads apart, and what an accepted reading tells of both. Assumes nothing.
use mathlib.Core.Path.{◌≡◌, refl, sym, ap, subst, ◌∙◌}
use mathlib.Core.Bool.{true}
use mathlib.Core.List.{List}
use Prim.Native.Nat.{ℕ, ◌+◌, ◌*◌, ◌≤◌}
use native.Mathlib.Omega.{arith}
use lib.ListN.{length}
use Rattle.bits.specs.Told.{Told, Accepted}
use Rattle.bits.specs.Outcome.{Outcome, outcome, refusing}
use Rattle.bits.specs.Field.{Reading, reading}
use Rattle.bits.specs.Fields.{Field, total, put_all, Bytes}
use Rattle.bits.proofs.FieldsLaws.{length_put_all}
use Rattle.formats.specs.Format.{Format}
use Rattle.formats.specs.Faithful.{Faithful}
use Rattle.formats.proofs.UseLaws.{written_reads}
use Rattle.messages.specs.Records.{Counted, counted}
use Rattle.whole.specs.Whole.{Whole, whole, headed}
use Rattle.whole.proofs.BesideLaws.{put_beside}
use Rattle.whole.proofs.CallLaws.{went, headed_accepted}

-- a front F of n bits
module _ {H : Type 0} (F : Format H) (f : Faithful F) (n : ℕ) (bits : (h : H) → total (F.fields h) ≡ n) where
  -- ---- what is written reads back

  -- the data of a message: a block that `write` put into s, and the front h before it
  abbrev pub message : (List ℕ → Outcome ℕ (List ℕ)) → List ℕ → H → List ℕ
  message write s h = put_all (write s).areas 0 (F.fields h)

  -- its front is there, and it is what the block's writer makes of the data that have the front
  pub record Laid (write : List ℕ → Outcome ℕ (List ℕ)) (s : List ℕ) (h : H) : Type 0 where
    pub few : length (message write s h) ≤ 1023
    pub front : F.reads (message write s h) 0 ≡ Accepted (reading h n)
    pub behind : message write s h ≡ (write (put_all s 0 (F.fields h))).areas
    pub answer : (write (put_all s 0 (F.fields h))).answer ≡ (write s).answer

  -- where `write` puts the fields fs behind the front, into any data as long as s
  pub laid : (write : List ℕ → Outcome ℕ (List ℕ)) (s : List ℕ) (fs : List Field) (h : H)
      → ((t : List ℕ) → length t ≡ length s → write t ≡ outcome (Accepted (n + total fs)) (put_all t n fs))
      → Bytes s → length s ≤ 1023 → n + total fs ≤ length s * 8 → F.fits h ≡ true → Laid write s h
  laid write s fs h puts bytes few within fits =
      let front = F.fields h in
      let one = puts s refl in
      let two = puts (put_all s 0 front) (length_put_all s 0 front) in
      let long : length (write s).areas ≡ length s = ap (λ (o : Outcome ℕ (List ℕ)). length o.areas) one ∙ length_put_all s n fs in
      let end : 0 + total front ≡ n = omega (arith, bits h) in
      record {
        few = omega (arith, length_put_all (write s).areas 0 front, long, few);
        front = written_reads F f (write s).areas 0 h (omega (arith, long, few)) fits (omega (arith, long, end, within)) ∙ ap (λ (k : ℕ). Accepted (reading h k)) end;
        behind =
            ap (λ (o : Outcome ℕ (List ℕ)). put_all o.areas 0 front) one
            ∙ put_beside s 0 front n fs bytes (omega (arith, end)) within
            ∙ ap (λ (o : Outcome ℕ (List ℕ)). o.areas) (sym two);
        answer = ap (λ (o : Outcome ℕ (List ℕ)). o.answer) two ∙ sym (ap (λ (o : Outcome ℕ (List ℕ)). o.answer) one);
      }

  -- ---- what an accepted reading tells

  module _ {S : Type 0} (s : List ℕ) (read : ℕ → Outcome Counted S) (came : S) (sizes : Told Unit) where
    -- a call that reads the front, and then the block by `read` from the bit behind it on
    abbrev pub call : Outcome (Whole H) S
    call = refusing came sizes (λ u. refusing came (F.reads s 0) (λ h. outcome (headed h.value (read h.next).answer) (read h.next).areas))

    -- the front h, and m records of the block behind it, up to bit q
    pub record Reads (h : H) (m q : ℕ) : Type 0 where
      pub front : F.reads s 0 ≡ Accepted (reading h n)
      pub block : (read n).answer ≡ Accepted (counted m q)
      pub lists : call.areas ≡ (read n).areas

    pub call_reads : {h : H} {m q : ℕ} → call.answer ≡ Accepted (whole h m q) → Reads h m q
    call_reads {h} {m} {q} e =
        let u = went came sizes _ e in
        let v = went came (F.reads s 0) _ u.then in
        let k : v.value.next ≡ n = omega (arith, (f.there s 0 v.value v.is).ends, bits v.value.value) in
        let x = headed_accepted v.value.value (read v.value.next).answer v.then in
        record {
          front = v.is ∙ ap (λ (r : Reading H). Accepted r) (ap (λ (i : ℕ). reading v.value.value i) k ∙ ap (λ (g : H). reading g n) x.1);
          block = subst (λ (i : ℕ). (read i).answer ≡ Accepted (counted m q)) k x.0;
          lists = ap (λ (o : Outcome (Whole H) S). o.areas) (u.all ∙ v.all) ∙ ap (λ (i : ℕ). (read i).areas) k;
        }
