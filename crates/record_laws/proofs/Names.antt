-- The view name of a peer table: one that is shown is text, 17 says that a whole one is there that is not, and one cut short is 5.
use mathlib.Core.Path.{◌≡◌, refl, sym, ap, ◌∙◌, subst}
use mathlib.Core.Bool.{Bool, true, false, cond, false≢true}
use mathlib.Core.Logic.{◌↔◌}
use mathlib.Core.List.{List, [], ◌∷◌}
use Prim.Native.Nat.{ℕ, suc, ◌+◌, ◌-◌, ◌≤◌, ◌<◌}
use native.Mathlib.Omega.{arith}
use lib.ListN.{length}
use borrow.Author.Tests.{le-ltb}
use Rattle.form_spec.specs.Octets.{Octets}
use Rattle.form_spec.specs.Fmt.{Out, bad, good, bind, Fmt, end, read, Fits}
use Rattle.form_spec.specs.Words.{choose, num, tested}
use Rattle.form_spec.specs.Body.{many, Body, listed, read_body, BodyFits, plain, loose}
use Rattle.form_spec.specs.Shape.{front_of, plan}
use Rattle.form_spec.specs.Record.{Rec, read_rec}
use Rattle.form_spec.specs.Found.{fault_number}
use Rattle.octets_spec.specs.Be.{num_at}
use Rattle.text_spec.specs.Text.{Text}
use Rattle.text_spec.specs.Check.{is_text}
use Rattle.text_laws.proofs.Exactly.{spelled, fails}
use Rattle.page_spec.specs.Peers.{table_head, peer}
use Rattle.page_spec.specs.Layout.{kind13, kind, layout_for, layout}
use Rattle.record_spec.specs.declared.Header.{Header}
use Rattle.record_spec.specs.declared.Peers.{Peers}
use Rattle.record_spec.specs.Shown.{Nothing, Good}
use Rattle.record_spec.specs.declared.Body.TheVariants.{PeerTable}
use Rattle.record_spec.specs.Table.{Table, state_of}
use Rattle.record_spec.specs.One.{read_one}
use Rattle.record_spec.specs.Agrees.{Agrees}
use Rattle.record_spec.specs.Answer.{fault, within}
use Rattle.record_spec.specs.Named.{WholeTable, Named, name_in}
use Rattle.record_laws.proofs.One.{rec_header, one_record}
use Rattle.record_laws.proofs.KindBy.{kind_by}
use Rattle.record_laws.proofs.Accepts.{no_octets, tells-table}
use Rattle.record_laws.proofs.Items.{right, read_same}
use Rattle.record_laws.proofs.Numbers.{answers}
use Rattle.record_laws.proofs.Head.{by_name, message_in, held_in_message, held_in_record, name_in_message}
use Rattle.record_laws.proofs.Faults.{found_record}
use Rattle.form_spec.specs.Refusal.{refused}

-- where something is shown or refused, there are octets
not_nothing : (longest : ℕ) (t : Table) (s : List ℕ) → (read_one longest t s ≡ Nothing → ⊥) → 0 < length s
not_nothing longest t [] h = absurd (h (no_octets longest t))
not_nothing longest t (x ∷ s) h = omega arith

-- ---- what is shown

-- the fields before a list's count
front_fits : (f g : Fmt) (b : Body) → BodyFits (many f g) b → Fits f (front_of b)
unfolding BodyFits
front_fits f g (listed cs its) h = h.0
front_fits f g (plain _) h = elim h [ ]
front_fits f g (loose _ _) h = elim h [ ]

-- a check that gives no fault is passed
passed : (ok : Bool) → ◌≡◌ {A = ℕ} (cond ok 0 17) 0 → ok ≡ true
passed true e = refl
passed false e = absurd (omega arith)

-- the third field of a peer table is text
third_is_text : (a b c : List ℕ) → Fits (table_head (end 0)) (a ∷ b ∷ c ∷ []) → is_text c ≡ true
unfolding Fits num tested
third_is_text a b c h = passed (is_text c) h.2.2.2.0

module _ (longest : ℕ) (t : Table) (s : List ℕ) (oc : Octets s) (h : Header) (p : Peers) (shown : read_one longest t s ≡ Good h (PeerTable p)) where
  -- the name shown is the third field of the record that is read,
  read_name : (r : Rec) (q : List ℕ) → read_rec (layout longest) (state_of t) 0 s ≡ good r q → is_text (within s p.name) ≡ true
  unfolding layout layout_for plan
  read_name r q e =
      let same = read_same longest t (state_of t) (tells-table t) s oc r q e (Good h (PeerTable p)) shown in
      let k = kind_by (kind r.type r.sub) 2 same.whose (omega arith) in
      let fits : BodyFits (many (table_head (end 0)) peer) r.body = rw k at (right longest t (state_of t) (tells-table t) s oc r q e).0.fits in
      third_is_text _ _ (within s p.name) (subst (Fits (table_head (end 0))) (sym same.gives.front) (front_fits (table_head (end 0)) peer r.body fits))

  -- so it is text
  pub shown_name_is_text : Text (within s p.name)
  shown_name_is_text =
      spelled (within s p.name)
      (go (read_rec (layout longest) (state_of t) 0 s) refl
      (one_record longest t (state_of t) (tells-table t) s oc (not_nothing longest t s λ e. let y : ◌≡◌ {A = ℕ} 0 1 = cc in omega arith)))
    where
      go : (o : Out Rec) → read_rec (layout longest) (state_of t) 0 s ≡ o → Agrees longest s o (read_one longest t s) → is_text (within s p.name) ≡ true
      go (bad n x) e a = let d : refused n x ≡ Good h (PeerTable p) = sym a ∙ shown in let y : ◌≡◌ {A = ℕ} 0 1 = cc in absurd (omega arith)
      go (good r q) e a = read_name r q e

-- ---- what is refused

-- a fault of what is read first
faulty_first : {A B : Type 0} (n : ℕ) (o : Out A) (k : A → List ℕ → Out B) → fault_number o ≡ suc n → fault_number (bind o k) ≡ suc n
faulty_first n (bad m p) k e = e
faulty_first n (good a r) k e = absurd (omega arith)

module _ (longest : ℕ) (t : Table) (s : List ℕ) (oc : Octets s) where
  -- the number is the one that reading finds
  number_read : 0 < length s → fault (read_one longest t s) ≡ fault_number (read_rec (layout longest) (state_of t) 0 s)
  number_read h = (answers longest s (read_rec (layout longest) (state_of t) 0 s) (read_one longest t s) (one_record longest t (state_of t) (tells-table t) s oc h)).0

  -- the first fault of a whole table's head is its message's, and so the record's
  body-faulty : (n : ℕ) → fault_number (read (table_head (end 0)) 12 (message_in s)) ≡ suc n → fault_number (read_body (plan (state_of t) (layout longest 13 1)) 12 (message_in s)) ≡ suc n
  unfolding layout layout_for plan read_body kind kind13 choose
  body-faulty n e = faulty_first n (read (table_head (end 0)) 12 (message_in s)) _ e

  head_decides : WholeTable s → (n : ℕ) → fault_number (read (table_head (end 0)) 12 (message_in s)) ≡ suc n → fault (read_one longest t s) ≡ suc n
  head_decides w n e =
      let z : num_at s 8 4 ≤ length s - 12 = omega (arith, w.whole) in
      number_read (omega (arith, w.whole))
      ∙ rw (rec_header longest (state_of t) 0 s (omega (arith, w.whole)), w.type, w.sub, le-ltb _ _ z) (faulty_first n (read_body (plan (state_of t) (layout longest 13 1)) 12 (message_in s)) _ (body-faulty n e))

  -- a name that the message cuts short
  pub short_name_is_five : WholeTable s → num_at s 8 4 < 6 + num_at s 16 2 → fault (read_one longest t s) ≡ 5
  short_name_is_five w h =
      head_decides w 4
      (by_name (λ o. fault_number o ≡ 5) 12 (message_in s) (λ g p. refl) (λ g e p. absurd (omega (arith, held_in_record s w.whole g)))
      (λ g e cs r. absurd (omega (arith, held_in_record s w.whole g))))

  -- 17 says that a whole name is there that is not text, and nothing else
  pub seventeen_exactly : (fault (read_one longest t s) ≡ 17) ↔ (Named s × (Text (name_in s) → ⊥))
  seventeen_exactly = (said, λ v. says v.0 ((fails (name_in s)).1 v.1))
    where
      said : fault (read_one longest t s) ≡ 17 → Named s × (Text (name_in s) → ⊥)
      said e =
          let some : 0 < length s = not_nothing longest t s (λ n. omega (arith, ap fault n)) in
          found_record (λ n. n ≡ 17 → Named s × (Text (name_in s) → ⊥)) (λ n h f. absurd (omega arith)) longest (state_of t) 0 s (λ n f z. (n, (fails (name_in s)).0 f))
          (sym (number_read some) ∙ e)

      says : Named s → is_text (name_in s) ≡ false → fault (read_one longest t s) ≡ 17
      says n e =
          let w : WholeTable s = n.table in
          head_decides w 16
          (by_name (λ o. fault_number o ≡ 17) 12 (message_in s) (λ g p. absurd (omega (arith, held_in_message s w.whole n.held))) (λ g f p. refl)
          (λ g f cs r. absurd (false≢true (sym e ∙ sym (ap is_text (name_in_message s w.whole n.held)) ∙ f))))
