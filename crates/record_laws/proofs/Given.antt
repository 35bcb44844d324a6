-- Two givens of one form that give the same record are the same; so reading shows the very values that were written.
use mathlib.Core.Path.{◌≡◌, refl, sym, ap, ◌∙◌}
use mathlib.Core.List.{List, [], ◌∷◌}
use Prim.Native.Nat.{ℕ, ◌^◌, ◌<◌}
use native.Mathlib.Omega.{arith}
use Rattle.form_spec.specs.Octets.{be, to_be}
use Rattle.form_spec.specs.Words.{choose}
use Rattle.form_spec.specs.Record.{Rec}
use Rattle.form_spec.specs.Put.{Value, digits, bytes, spelled, lay, Tail, Given}
use Rattle.form_spec.specs.Gives.{FitOne, Fit, Gives}
use Rattle.form_laws.proofs.Octets.{be-to_be}
use Rattle.record_spec.specs.Shown.{Shown, Nothing, Good}
use Rattle.record_spec.specs.declared.Body.TheVariants.{Unread, TableDump, PeerTable, Rib, RibGeneric, Change, Message}
use Rattle.record_spec.specs.Answer.{within}
use Rattle.write_spec.specs.Times.{micro_size}
use Rattle.write_spec.specs.Only.{changes, messages, unreads}
use Rattle.write_spec.specs.Givens.{change_given, message_given, unread_given}
use Rattle.write_spec.specs.declared.Time.{Time}
use Rattle.write_spec.specs.declared.Time.TheVariants.{Seconds, Micro}
use Rattle.page_spec.specs.Layout.{finer}
use Rattle.record_spec.specs.Again.{clock, again}
use Rattle.record_spec.specs.Agrees.{writer_of}
use Rattle.record_laws.specs.Forms.{form_of, forms, forms_for, Formed}
use Rattle.std.specs.Prelude.{Err}

same_one : (v w : Value) → form_of v ≡ form_of w → FitOne v → FitOne w → spelled v ≡ spelled w → v ≡ w
same_one (digits a n) (digits b k) f h i e =
    let d : a ≡ b = cc in
    let z : to_be b n ≡ to_be b k = rw d at e in
    let p : n < 256 ^ b = rw d at h in
    let q : n ≡ k = sym (be-to_be b n p) ∙ ap be z ∙ be-to_be b k i in
    rw (d, q)
same_one (digits a n) (bytes c) f h i e = let z : ◌≡◌ {A = ℕ} 0 1 = cc in absurd (omega arith)
same_one (bytes c) (digits b k) f h i e = let z : ◌≡◌ {A = ℕ} 0 1 = cc in absurd (omega arith)
same_one (bytes c) (bytes d) f h i e = ap bytes e

same_values : (vs ws : List Value) → forms vs ≡ forms ws → Fit vs → Fit ws → lay vs ≡ lay ws → vs ≡ ws
same_values [] [] f h i e = refl
same_values [] (w ∷ ws) f h i e = let z : ◌≡◌ {A = ℕ} 0 1 = cc in absurd (omega arith)
same_values (v ∷ vs) [] f h i e = let z : ◌≡◌ {A = ℕ} 0 1 = cc in absurd (omega arith)
same_values (v ∷ vs) (w ∷ ws) f h i e =
    let a : form_of v ≡ form_of w = cc in
    let b : forms vs ≡ forms ws = cc in
    let c : spelled v ≡ spelled w = cc in
    let d : lay vs ≡ lay ws = cc in
    rw (same_one v w a h.0 i.0 c, same_values vs ws b h.1 i.1 d)

same_fields : (a b c x y z : ℕ) (vs ws : List Value) (t u : Tail) → a ≡ x → b ≡ y → c ≡ z → vs ≡ ws → t ≡ u
    → ◌≡◌ {A = Given} (record { stamp = a; type = b; sub = c; values = vs; tail = t }) (record { stamp = x; type = y; sub = z; values = ws; tail = u })
same_fields a b c x y z vs ws t u e f g h i = rw (e, f, g, h, i)

pub same_given : (g h : Given) (r : Rec) → Gives g r → Gives h r → forms g.values ≡ forms h.values → g ≡ h
same_given g h r p q f =
    same_fields g.stamp g.type g.sub h.stamp h.type h.sub g.values h.values g.tail h.tail
    (p.stamp ∙ sym q.stamp) (p.type ∙ sym q.type) (p.sub ∙ sym q.sub) (same_values g.values h.values f p.fit q.fit (p.front ∙ sym q.front)) (p.tail ∙ sym q.tail)

-- ---- the form of what each writer is given

pub formed-change : (i : Time) (u p l f k : ℕ) (a b : List ℕ) (o n : ℕ) → forms (change_given i u p l f k a b o n).values ≡ Formed changes (change_given i u p l f k a b o n)
unfolding forms_for choose finer
formed-change (Seconds t) u p l f k a b o n = refl
formed-change (Micro t v) u p l f k a b o n = refl

pub formed-message : (i : Time) (u p l f k : ℕ) (a b c : List ℕ) → forms (message_given i u p l f k a b c).values ≡ Formed messages (message_given i u p l f k a b c)
unfolding forms_for choose finer
formed-message (Seconds t) u p l f k a b c = refl
formed-message (Micro t v) u p l f k a b c = refl

pub formed_unread : (i : Time) (y u : ℕ) (c : List ℕ) → forms (unread_given i y u c).values ≡ Formed (unreads (micro_size i)) (unread_given i y u c)
unfolding forms_for choose
formed_unread (Seconds t) y u c = refl
formed_unread (Micro t v) y u c = refl

pub formed_again : (s : List ℕ) (x : Shown) → forms (again s x).values ≡ Formed (writer_of x) (again s x)
unfolding forms_for choose
formed_again s Nothing = refl
formed_again s (Err why) = refl
formed_again s (Good h (Unread c)) = formed_unread (clock h) h.ty h.subtype (within s c)
formed_again s (Good h (TableDump r)) = refl
formed_again s (Good h (PeerTable p)) = refl
formed_again s (Good h (Rib r)) = refl
formed_again s (Good h (RibGeneric f r)) = refl
formed_again s (Good h (Change e w)) =
    formed-change (clock h) h.subtype e.peer e.local e.interface e.family (within s e.theirs) (within s e.ours) w.old w.new
formed_again s (Good h (Message e b)) =
    formed-message (clock h) h.subtype e.peer e.local e.interface e.family (within s e.theirs) (within s e.ours) (within s b.message)
