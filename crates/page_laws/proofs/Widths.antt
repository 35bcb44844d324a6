-- Every kind that a Type and a Subtype choose has widths of document 01.
use mathlib.Core.Path.{◌≡◌, refl}
use mathlib.Core.Bool.{Bool, true, false, ◌||◌}
use Prim.Native.Nat.{ℕ, ◌≤◌}
use native.Mathlib.Omega.{arith}
use lib.Dec.{eqb}
use Rattle.form_spec.specs.Words.{choose, in_range}
use Rattle.page_spec.specs.Layout.{kind12, kind13, kind16, kind}
use Rattle.page_spec.specs.Sane.{Sane}
use Rattle.page_spec.specs.Chosen.{Chosen, Unread, TableDump, PeerTable, Rib, RibGeneric, Change, Message}
use Rattle.std.specs.Prelude.{Err}

module _ (P : Chosen → Type 0) where
  each : (b : Bool) (x y : Chosen) → P x → P y → P (choose b x y)
  unfolding choose
  each true x y p q = p
  each false x y p q = q

either : (b : Bool) (x y : Chosen) → Sane x → Sane y → Sane (choose b x y)
either = each Sane

pub sane12 : (sub : ℕ) → Sane (kind12 sub)
unfolding kind12
sane12 sub = either (eqb sub 1) _ _ (omega arith) (either (eqb sub 2) _ _ (omega arith) tt)

pub sane13 : (sub : ℕ) → Sane (kind13 sub)
unfolding kind13
sane13 sub = either (eqb sub 1) _ _ tt (either (in_range 2 sub 3) _ _ (omega arith) (either (in_range 4 sub 5) _ _ (omega arith) (either (eqb sub 6) _ _ tt tt)))

pub sane16 : (micro sub : ℕ) → micro ≤ 4 → Sane (kind16 micro sub)
unfolding kind16
sane16 micro sub h =
    let two : (micro ≤ 4) × (2 ≤ 4) = (h, omega arith) in
    let four : (micro ≤ 4) × (4 ≤ 4) = (h, omega arith) in
    either (eqb sub 0) _ _ two (either (eqb sub 5) _ _ four (either (eqb sub 1 || eqb sub 6) _ _ two (either (eqb sub 4 || eqb sub 7) _ _ four tt)))

-- a kind of types 16 and 17 has the microseconds m
abbrev pub Stamps : (m : ℕ) → Chosen → Type 0
Stamps m (Err why) = Unit
Stamps m (Unread micro) = Unit
Stamps m (TableDump size) = Unit
Stamps m PeerTable = Unit
Stamps m (Rib bits) = Unit
Stamps m RibGeneric = Unit
Stamps m (Change micro w) = micro ≡ m
Stamps m (Message micro w) = micro ≡ m

pub stamps16 : (m sub : ℕ) → Stamps m (kind16 m sub)
unfolding kind16
stamps16 m sub =
    let either = each (Stamps m) in
    either (eqb sub 0) _ _ refl (either (eqb sub 5) _ _ refl (either (eqb sub 1 || eqb sub 6) _ _ refl (either (eqb sub 4 || eqb sub 7) _ _ refl tt)))

pub sane : (type sub : ℕ) → Sane (kind type sub)
unfolding kind
sane type sub =
    either (eqb type 11 || eqb type 32 || eqb type 48) _ _ (omega arith)
    (either (eqb type 33 || eqb type 49) _ _ (omega arith)
    (either (eqb type 12) _ _ (sane12 sub)
    (either (eqb type 13) _ _ (sane13 sub)
    (either (eqb type 16) _ _ (sane16 0 sub (omega arith))
    (either (eqb type 17) _ _ (sane16 4 sub (omega arith)) tt)))))
