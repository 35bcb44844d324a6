-- `cut_fate::fate_of` meets its contract.
use mathlib.Core.Path.{◌≡◌, ap, ◌∙◌}
use mathlib.Core.Bool.{Bool, true, false, cond, not, ◌&&◌}
use mathlib.Core.Logic.{◌⊎◌, inl, inr}
use Prim.Native.Nat.{ℕ, ◌<◌}
use native.Mathlib.Omega.{arith}
use lib.Dec.{leb, ltb}
use Rattle.record_spec.specs.Shown.{Shown}
use Rattle.page_spec.specs.Layout.{finer}
use Rattle.look_spec.specs.Sort.{unread, sort_of, sort_by}
use Rattle.look_spec.specs.Field.{type_of, subtype_of, time_of, peer_of, shown, Is, Shows}
use Rattle.look_laws.proofs.Sort.{sort_peer, sort_first, sort_other, sort_unread, early, late_17, late_unread}
use Rattle.look_laws.proofs.There.{sort_known}
use Rattle.cut_spec.specs.Cut.{mem}
use Rattle.cut_spec.specs.Fate.{fate_of}
use Rattle.cut_spec.specs.declared.Fate.{Fate}
use Rattle.cut_spec.specs.declared.Fate.TheVariants.{Stays, Goes}
use Rattle.cut_fate.proofs.Fated.{fate_unread, fate_heard, fate_table, fate_rib}
use Rattle.cut_fate.proofs.fate_of.Goals.{Start}
use Rattle.cut_fate.proofs.fate_of.Goals as goal

-- the sort that type and subtype say
sorts : (c : Start) → let a = c.args in Shows a.d.now a.at (λ x. sort_of x ≡ sort_by a.ty a.subtype)
sorts c =
    sort_known _ _ _ _ c.requires

-- ---- what the readers of fields ask
-- whether the type has microseconds
timed : (c : Start) (b : Bool) → let a = c.args in finer a.ty ≡ b → Is a.d.now a.at (λ x. finer (type_of x) ≡ b)
timed c b e =
    let k = c.requires in (k.0, k.1, ap finer k.2.0 ∙ e)

-- the type's number
typed : (c : Start) (n : ℕ) → let a = c.args in a.ty ≡ n → Is a.d.now a.at (λ x. (type_of x ≡ n) × (subtype_of x ≡ a.subtype))
typed c n e =
    let k = c.requires in (k.0, k.1, (k.2.0 ∙ e, k.2.1))

-- ---- what is answered
-- the code has read n as this field
abbrev Reads : (c : Start) → (Shown → ℕ) → (n : ℕ) → Type 0
Reads c field n =
    let a = c.args in Shows a.d.now a.at (λ x. n ≡ field x)

-- l becomes of the record
abbrev Becomes : (c : Start) → Fate → Type 0
Becomes c l =
    let a = c.args in Shows a.d.now a.at (λ x. l ≡ fate_of a.window.start a.window.end a.mutes.now a.lost x)

-- of one that its time and its peer decide
by_peer : (c : Start) (time peer : ℕ) (l : Fate) → let a = c.args in
    (a.ty ≡ 12) ⊎ ((a.ty ≡ 16) ⊎ (a.ty ≡ 17)) → Reads c time_of time → Reads c peer_of peer
    → l ≡ cond ((leb a.window.start time && ltb time a.window.end) && not (mem peer a.mutes.now)) Stays Goes
    → Becomes c l
by_peer c time peer l y e p h t g =
    let a = c.args in
    fate_heard a.window.start a.window.end a.mutes.now a.lost (shown t a.d.now a.at) (sorts c t g ∙ sort_peer _ _ y) (e t g) (p t g) h

-- of one that its time alone decides
by_time : (c : Start) (time : ℕ) (l : Fate) → let a = c.args in
    sort_by a.ty a.subtype ≡ unread → Reads c time_of time → l ≡ cond (leb a.window.start time && ltb time a.window.end) Stays Goes → Becomes c l
by_time c time l s e h t g =
    let a = c.args in
    fate_unread a.window.start a.window.end a.mutes.now a.lost (shown t a.d.now a.at) (sorts c t g ∙ s) (e t g) h

-- types 33 and 49 are no others
far : {y n : ℕ} → (y ≡ 33) ⊎ (y ≡ 49) → n < 33 → y ≡ n → ⊥
far (inl e) h f = omega arith
far (inr e) h f = omega arith

pub seconds-requires : goal.seconds-requires
seconds-requires c =
    let e = c.in-16.is in
    timed (goal.at.seconds-requires c).Start false (early _ (λ z. omega arith) (λ z. omega arith) (λ z. omega arith))

pub micros-requires : goal.micros-requires
micros-requires c = timed (goal.at.micros-requires c).Start true (late_17 _ c.in-17.is)

pub seconds-requires-in-12 : goal.seconds-requires-in-12
seconds-requires-in-12 c =
    let e = c.in-12.is in
    timed (goal.at.seconds-requires-in-12 c).Start false (early _ (λ z. omega arith) (λ z. omega arith) (λ z. omega arith))

pub table_fate-requires : goal.table_fate-requires
table_fate-requires c =
    let k = c.requires in
    (k.0, k.1, sorts (goal.at.table_fate-requires c).Start k.0 k.1 ∙ sort_first _ _ c.in-13.is c.if-subtype-eq1.true)

pub returns-in-13 : goal.returns-in-13
returns-in-13 c =
    let a = c.args in
    λ t g. fate_table a.window.start a.window.end a.mutes.now a.lost (shown t a.d.now a.at)
    (sorts (goal.at.returns-in-13 c).Start t g ∙ sort_first _ _ c.in-13.is c.if-subtype-eq1.true) (c.table_fate.ensures t g)

pub rib_fate-requires : goal.rib_fate-requires
rib_fate-requires c =
    let k = c.requires in
    (k.0, k.1, (sorts (goal.at.rib_fate-requires c).Start k.0 k.1 ∙ sort_other _ _ c.in-13.is c.if-subtype-eq1.false, k.2.1))

pub micros-requires-in-33 : goal.micros-requires-in-33
micros-requires-in-33 c = timed (goal.at.micros-requires-in-33 c).Start true (late_unread _ c.in-33.is)

pub seconds-requires-in_default : goal.seconds-requires-in_default
seconds-requires-in_default c =
    let r = c.in_default.in_default-own.rest in
    timed (goal.at.seconds-requires-in_default c).Start false (early _ r.0.0.0.1 (λ e. r.1 (inl e)) (λ e. r.1 (inr e)))

pub returns-in-16 : goal.returns-in-16
returns-in-16 c = by_peer (goal.at.returns-in-16 c).Start _ _ _ (inr (inl c.in-16.is)) c.seconds.ensures c.session_peer.ensures c.heard.ensures

pub returns-in-17 : goal.returns-in-17
returns-in-17 c = by_peer (goal.at.returns-in-17 c).Start _ _ _ (inr (inr c.in-17.is)) c.micros.ensures c.late_session_peer.ensures c.heard-in-17.ensures

pub returns-in-12 : goal.returns-in-12
returns-in-12 c = by_peer (goal.at.returns-in-12 c).Start _ _ _ (inl c.in-12.is) c.seconds-in-12.ensures c.route_peer.ensures c.heard-in-12.ensures

pub returns-in-13-2 : goal.returns-in-13-2
returns-in-13-2 c =
    let a = c.args in
    λ t g. fate_rib a.window.start a.window.end a.mutes.now a.lost (shown t a.d.now a.at)
    (sorts (goal.at.returns-in-13-2 c).Start t g ∙ sort_other _ _ c.in-13.is c.if-subtype-eq1.false) (c.rib_fate.ensures t g)

pub returns-in-33 : goal.returns-in-33
returns-in-33 c =
    let e = c.in-33.is in
    let s = sort_unread _ _ (λ z. far e (omega arith) z) (λ z. far e (omega arith) z) (λ z. far e (omega arith) z) (λ z. far e (omega arith) z) in
    by_time (goal.at.returns-in-33 c).Start _ _ s c.micros-in-33.ensures c.timed.ensures

pub returns-in_default : goal.returns-in_default
returns-in_default c =
    let r = c.in_default.in_default-own.rest in
    by_time (goal.at.returns-in_default c).Start _ _ (sort_unread _ _ r.0.0.1 r.0.1 r.0.0.0.0.1 r.0.0.0.1) c.seconds-in_default.ensures c.timed-in_default.ensures
