-- A writer's fields in their turns: the header's, then whether the Subtype is the writer's own, then the message's.
use mathlib.Core.Path.{◌≡◌, refl, sym, ap, ◌∙◌}
use mathlib.Core.Bool.{Bool, true, false, cond, not}
use mathlib.Core.List.{List}
use Prim.Native.Nat.{ℕ, zero, suc, ◌+◌, ◌<◌}
use native.Mathlib.Omega.{arith}
use lib.Dec.{T, eqb, leb}
use borrow.Author.Tests.{ne_eqb, le-leb}
use Rattle.form_spec.specs.Fmt.{Fmt}
use Rattle.form_spec.specs.Body.{many}
use Rattle.form_spec.specs.Put.{Value, Tail, Given, or_else, large, refusal, items_refusal, body_refusal, type_refusal, fields_refusal}
use Rattle.form_spec.specs.Shape.{St, plan}
use Rattle.form_spec.specs.Words.{choose}
use Rattle.page_spec.specs.Layout.{kind, layout_for, unlisted}
use Rattle.page_spec.specs.Chosen.{Chosen, Unread, TableDump, PeerTable, Rib, RibGeneric, Change, Message}
use Rattle.write_spec.specs.Only.{writer, unreads, only_sub}
use types.Run.{OneOf, miss}
use mir.Val.{has_key}
use denote.Enum.Declared.{tag_of}
use Rattle.page_spec.specs.contracts.Kind.{the_type}
use Rattle.page_spec.specs.declared.Kind.{Kind}
use Rattle.page_spec.specs.declared.Kind.TheVariants as kinds
use Rattle.form_spec.specs.declared.Fault.{Fault}
use Rattle.std.specs.Prelude.{Result, Ok, Err, ⊤}
use Rattle.form_spec.specs.Refusal.{refused}
use Rattle.write_spec.specs.Judged.{judged}
use Rattle.write_laws.proofs.Judged.{then_ok, then_err}

pub or_both : (n m b : ℕ) → or_else (or_else n m) b ≡ or_else n (or_else m b)
or_both zero m b = refl
or_both (suc n) m b = refl

-- ---- a front and items; y is a writer's answer, without a place

module _ (f g : Fmt) (vs : List Value) (t : Tail) (y : Result ⊤ Fault) where
  pub front_err : (why : Fault) → Err why ≡ judged (refusal f vs) → y ≡ refused why.number 0 → y ≡ judged (body_refusal (many f g) vs t)
  unfolding body_refusal
  front_err why e h = then_err (refusal f vs) (items_refusal g t) why y e h

  pub front_ok : (u : ⊤) → Ok u ≡ judged (refusal f vs) → y ≡ judged (items_refusal g t) → y ≡ judged (body_refusal (many f g) vs t)
  unfolding body_refusal
  front_ok u e h = then_ok (refusal f vs) (items_refusal g t) u y e h

-- ---- whose a kind is

-- the tag of a writer's kinds
abbrev tagged : (w : ℕ) → ℕ
tagged w = cond (leb 7 w) 0 w

pub unread_tag : (micro : ℕ) → tagged (unreads micro) ≡ 0
unread_tag micro = rw (le-leb 7 (7 + micro) (omega arith))

has_tag : (k : Kind) → tagged (writer (Ok k)) ≡ tag_of the_type k
has_tag (kinds.Unread micro) = unread_tag micro
has_tag (kinds.TableDump size) = refl
has_tag kinds.PeerTable = refl
has_tag (kinds.Rib bits) = refl
has_tag kinds.RibGeneric = refl
has_tag (kinds.Change micro w) = refl
has_tag (kinds.Message micro w) = refl

-- a kind whose tag is one of ts is not of the writer w, whose kinds have the tag t: the `else` of a `let`
pub not_own : (ts : List ℕ) (w t : ℕ) (k : Kind) → tagged w ≡ t → T (not (has_key ts t)) → OneOf ts (tag_of the_type k) → eqb (writer (Ok k)) w ≡ false
not_own ts w t k e m h = ne_eqb (writer (Ok k)) w (λ d. miss ts t m (rw (sym (has_tag k) ∙ ap tagged d ∙ e) at h))

-- a Subtype that has no layout is no writer's
pub no_one : (w : ℕ) (why : Fault) → 0 < w → eqb (writer (Err why)) w ≡ false
no_one w why h = ne_eqb 0 w (λ e. omega arith)

-- ---- the header: w is the writer, k the record's kind, y the writer's answer without a place

module _ (longest w : ℕ) (st : St) (g : Given) (k : Chosen) (y : Result ⊤ Fault) (listed : 0 < w) (typed : large 2 g.type ≡ 0) (chosen : kind g.type g.sub ≡ k) where
  -- its own kinds, and those that it does not list, have a Type that is listed
  own_typed : (b : Bool) (k : Chosen) → eqb (writer k) w ≡ b → type_refusal (layout_for longest (choose b k unlisted)) ≡ 0
  unfolding layout_for choose
  own_typed false k e = refl
  own_typed true (Err why) e = let q = ne_eqb 0 w (λ z. omega arith) in cc
  own_typed true (Unread micro) e = refl
  own_typed true (TableDump size) e = refl
  own_typed true PeerTable e = refl
  own_typed true (Rib bits) e = refl
  own_typed true RibGeneric e = refl
  own_typed true (Change micro w) e = refl
  own_typed true (Message micro w) e = refl

  abbrev head : ℕ
  head = or_else (large 4 g.stamp) (large 2 g.sub)

  abbrev body : Chosen → ℕ
  body k = body_refusal (plan st (layout_for longest k)) g.values g.tail

  turns : (b : Bool) → eqb (writer k) w ≡ b → or_else head (body (choose b k unlisted)) ≡ fields_refusal (only_sub w longest) st g
  unfolding fields_refusal
  turns b e = rw (chosen, e, typed, own_typed b k e) (or_both (large 4 g.stamp) (large 2 g.sub) (body (choose b k unlisted)))

  pub head_stops : (why : Fault) → Err why ≡ judged head → y ≡ refused why.number 0 → y ≡ judged (fields_refusal (only_sub w longest) st g)
  head_stops why e h = then_err _ _ why y e h ∙ ap judged (turns (eqb (writer k) w) refl)

  -- a kind of another writer is refused with 4, whatever its fields
  pub other_kind : (u : ⊤) → Ok u ≡ judged head → eqb (writer k) w ≡ false → y ≡ refused 4 0 → y ≡ judged (fields_refusal (only_sub w longest) st g)
  unfolding choose layout_for plan body_refusal refusal
  other_kind u e d h = then_ok _ _ u y e h ∙ ap judged (turns false d)

  -- its own is laid out as the page says
  pub own_kind : (u : ⊤) → Ok u ≡ judged head → eqb (writer k) w ≡ true → y ≡ judged (body k) → y ≡ judged (fields_refusal (only_sub w longest) st g)
  unfolding choose
  own_kind u e d h = then_ok _ _ u y e h ∙ ap judged (turns true d)
