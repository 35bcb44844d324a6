-- Reading one record refuses with the number and place of the record grammar's reader, and shows that record's fields.
use mathlib.Core.Path.{◌≡◌, refl, sym, ap, ◌∙◌}
use mathlib.Core.Bool.{Bool, true, false}
use mathlib.Core.List.{List, [], ◌∷◌, ◌++◌}
use Prim.Native.Nat.{ℕ, zero, suc, ◌+◌, ◌-◌, ◌≤◌, ◌<◌}
use native.Mathlib.Omega.{arith}
use lib.Dec.{ltb}
use lib.ListN.{length, take, drop, length-drop, take-append-drop}
use lib.Seq.{drop-drop, drop_at, take-add, length-take-le, take-append-le, drop-append-le}
use borrow.Author.Tests.{le-ltb, ltb-false, ne_eqb}
use Rattle.form_spec.specs.Octets.{Octets, be}
use Rattle.form_spec.specs.Fmt.{bad, good, bind, refuse_if, read}
use Rattle.form_spec.specs.Words.{choose}
use Rattle.form_spec.specs.Body.{read_body}
use Rattle.form_spec.specs.Shape.{refuse, St, plan}
use Rattle.std.specs.Prelude.{Err}
use Rattle.form_spec.specs.Record.{header, read_rec}
use Rattle.form_laws.proofs.Octets.{octets-take}
use Rattle.octets_spec.specs.Be.{num_at}
use Rattle.page_spec.specs.Layout.{kind, layout_for, layout}
use Rattle.page_spec.specs.Chosen.{Chosen}
use Rattle.page_spec.specs.Chosen as chosen
use Rattle.record_spec.specs.Table.{Table}
use Rattle.record_spec.specs.One.{shown_as, whole_record, read_one}
use Rattle.record_spec.specs.Tells.{Tells}
use Rattle.record_spec.specs.Agrees.{Agrees}
use Rattle.page_laws.proofs.Choice.{Says, kind_says}
use Rattle.record_laws.proofs.Same.{rec, Stands, Reads}
use Rattle.record_laws.proofs.TableDump.{table_dump_agrees}
use Rattle.record_laws.proofs.Behind.{change-agrees, message-agrees}
use Rattle.record_laws.proofs.Unread.{unread_agrees}
use Rattle.record_laws.proofs.Tables.{table-agrees, rib-agrees, generic_agrees}
use Rattle.form_spec.specs.Refusal.{refused}

-- ---- a whole record, by its kind

module _ (longest : ℕ) (s m q : List ℕ) (l : Stands s m q (num_at m 8 4)) (table : Table) (st : St) (tells : Tells table st) where
  abbrev t : ℕ
  t = num_at m 0 4

  abbrev y : ℕ
  y = num_at m 4 2

  abbrev u : ℕ
  u = num_at m 6 2

  abbrev len : ℕ
  len = num_at m 8 4

  -- a header that is refused
  by_header : (n p : ℕ) → 0 < n → p ≤ 12 → Reads longest s m q t y u len l (read_body (plan st (refuse n (12 - p))) 12 (drop 12 m)) (refused n p)
  unfolding read_body plan read
  by_header zero p h i = absurd (omega (arith, h))
  by_header (suc n) p h i = let d : p ≡ 12 - (12 - p) = omega (arith, i) in ap (refused (suc n)) d

  by_kind : (k : Chosen) → Says y u k → kind y u ≡ k → Reads longest s m q t y u len l (read_body (plan st (layout_for longest k)) 12 (drop 12 m)) (shown_as longest table m k)
  unfolding shown_as read_body plan layout_for read
  by_kind (Err why) h e = by_header why.number why.place h.0 h.1
  by_kind (chosen.Unread micro) h e = unread_agrees longest s m q t y u len l st micro h e
  by_kind (chosen.TableDump size) h e = table_dump_agrees longest s m q t y u len l st size h e
  by_kind chosen.PeerTable h e = table-agrees longest s m q t y u len l st h.0 h.1 e
  by_kind (chosen.Rib bits) h e = rib-agrees longest s m q t y u len l table st tells bits h e
  by_kind chosen.RibGeneric h e = generic_agrees longest s m q t y u len l table st tells h.0 h.1 e
  by_kind (chosen.Change micro w) h e = change-agrees longest s m q t y u len l st micro w h e
  by_kind (chosen.Message micro w) h e = message-agrees longest s m q t y u len l st micro w h e

  whole_agrees : Reads longest s m q t y u len l (read_body (plan st (layout longest y u)) 12 (drop 12 m)) (whole_record longest table m)
  unfolding whole_record layout
  whole_agrees = by_kind (kind y u) (kind_says y u) refl

  -- the same, where its parts are known by other names
  moved : (a b c : ℕ) (bs r : List ℕ) → t ≡ a → y ≡ b → u ≡ c → drop 12 m ≡ bs → q ≡ r
      → Agrees longest s (bind (read_body (plan st (layout longest b c)) 12 bs) (λ z p. good (rec a b c z) r)) (whole_record longest table m)
  moved a b c bs r e f g h i = rw (← e, ← f, ← g, ← h, ← i) whole_agrees

-- ---- the header

-- where there are 12 octets, each of its fields is complete
pub header_complete : (s : List ℕ) → 12 ≤ length s → (ltb (length s) 4 ≡ false) × (ltb (length (drop 4 s)) 2 ≡ false) × (ltb (length (drop 6 s)) 2 ≡ false) × (ltb (length (drop 8 s)) 4 ≡ false)
header_complete s h =
    let a : 4 ≤ length s = omega arith in
    let b : 2 ≤ length (drop 4 s) = rw length-drop (omega arith) in
    let c : 2 ≤ length (drop 6 s) = rw length-drop (omega arith) in
    let d : 4 ≤ length (drop 8 s) = rw length-drop (omega arith) in
    (le-ltb _ _ a, le-ltb _ _ b, le-ltb _ _ c, le-ltb _ _ d)

read-header : (at : ℕ) (s : List ℕ) → 12 ≤ length s → read header at s ≡ good (take 4 s ∷ take 2 (drop 4 s) ∷ take 2 (drop 6 s) ∷ take 4 (drop 8 s) ∷ []) (drop 12 s)
unfolding read
read-header at s h = let c = header_complete s h in rw (c.0, c.1, drop-drop 2 4 s, c.2, drop-drop 2 6 s, c.3, drop-drop 4 8 s)

-- a record, by its header's numbers
pub rec_header : (longest : ℕ) (st : St) (at : ℕ) (s : List ℕ) → 12 ≤ length s
    → read_rec (layout longest) st at s ≡ refuse_if (ltb (length s - 12) (num_at s 8 4)) 2 at
    (bind (read_body (plan st (layout longest (num_at s 4 2) (num_at s 6 2))) (at + 12) (take (num_at s 8 4) (drop 12 s)))
    (λ b q. good (rec (num_at s 0 4) (num_at s 4 2) (num_at s 6 2) b) (drop (num_at s 8 4) (drop 12 s))))
unfolding read_rec num_at
rec_header longest st at s h = rw (le-ltb (length s) 12 h, read-header at s h, length-drop 12 s)

-- a part of the first octets, and a number in them
pub part_first : (m r : List ℕ) (i w : ℕ) → i + w ≤ length m → take w (drop i (m ++ r)) ≡ take w (drop i m)
part_first m r i w h =
    let a : i ≤ length m = omega arith in
    let b : w ≤ length (drop i m) = rw length-drop (omega arith) in
    rw (drop-append-le i m r a, take-append-le w (drop i m) r b)

pub num_at_first : (m r : List ℕ) (i w : ℕ) → i + w ≤ length m → num_at (m ++ r) i w ≡ num_at m i w
unfolding num_at
num_at_first m r i w h = ap be (part_first m r i w h)

-- too few octets for one
pub short_header : (longest : ℕ) (st : St) (at : ℕ) (s : List ℕ) → ltb (length s) 12 ≡ true → read_rec (layout longest) st at s ≡ bad 1 at
unfolding read_rec
short_header longest st at s e = rw e

-- ---- the law

pub one_record : (longest : ℕ) (t : Table) (st : St) → Tells t st → (s : List ℕ) → Octets s → 0 < length s → Agrees longest s (read_rec (layout longest) st 0 s) (read_one longest t s)
unfolding read_one choose
one_record longest t st tells s oc h = rw (ne_eqb (length s) 0 (λ e. omega arith)) (start (ltb (length s) 12) refl)
  where
    fits : 12 ≤ length s → num_at s 8 4 ≤ length s - 12
        → Agrees longest s (bind (read_body (plan st (layout longest (num_at s 4 2) (num_at s 6 2))) 12 (take (num_at s 8 4) (drop 12 s)))
        (λ b q. good (rec (num_at s 0 4) (num_at s 4 2) (num_at s 6 2) b) (drop (num_at s 8 4) (drop 12 s)))) (whole_record longest t (take (12 + num_at s 8 4) s))
    fits a b =
        let n : ℕ = num_at s 8 4 in
        let m : List ℕ = take (12 + n) s in
        let r : List ℕ = drop (12 + n) s in
        let d : m ++ r ≡ s = take-append-drop (12 + n) s in
        let z : length m ≡ 12 + n = length-take-le (12 + n) s (omega arith) in
        let at : (i w : ℕ) → i + w ≤ 12 → num_at m i w ≡ num_at s i w = λ i w k. sym (num_at_first m r i w (omega arith)) ∙ ap (λ (x : List ℕ). num_at x i w) d in
        let l : Stands s m r (num_at m 8 4) = record {
          octets = octets-take (12 + n) s oc;
          size = rw (at 8 4 (omega arith)) z;
          here = sym (drop-append-le 12 m r (omega arith)) ∙ ap (drop 12) d;
        } in
        moved longest s m r l t st tells (num_at s 0 4) (num_at s 4 2) (num_at s 6 2) (take n (drop 12 s)) (drop n (drop 12 s)) (at 0 4 (omega arith)) (at 4 2 (omega arith)) (at 6 2 (omega arith))
        (rw (take-add 12 n s) (drop_at (take 12 s) (take n (drop 12 s)) 12 (length-take-le 12 s a))) (sym (drop-drop n 12 s))

    size : (b : Bool) → 12 ≤ length s → ltb (length s - 12) (num_at s 8 4) ≡ b
        → Agrees longest s (refuse_if b 2 0 (bind (read_body (plan st (layout longest (num_at s 4 2) (num_at s 6 2))) 12 (take (num_at s 8 4) (drop 12 s)))
        (λ b q. good (rec (num_at s 0 4) (num_at s 4 2) (num_at s 6 2) b) (drop (num_at s 8 4) (drop 12 s))))) (choose b (refused 2 0) (whole_record longest t (take (12 + num_at s 8 4) s)))
    size true a e = refl
    size false a e = fits a (ltb-false _ _ e)

    start : (b : Bool) → ltb (length s) 12 ≡ b
        → Agrees longest s (read_rec (layout longest) st 0 s) (choose b (refused 1 0) (choose (ltb (length s - 12) (num_at s 8 4)) (refused 2 0) (whole_record longest t (take (12 + num_at s 8 4) s))))
    start true e = rw (short_header longest st 0 s e)
    start false e = rw (rec_header longest st 0 s (ltb-false _ _ e)) (size (ltb (length s - 12) (num_at s 8 4)) (ltb-false _ _ e) refl)
