-- What a writer is given behind a record's fields has the shape of the record's layout.
use mathlib.Core.Path.{◌≡◌, refl}
use mathlib.Core.Logic.{inl, inr}
use mathlib.Core.List.{List}
use Prim.Native.Nat.{ℕ, zero, suc, ◌+◌, ◌-◌, ◌<◌}
use native.Mathlib.Omega.{arith}
use Rattle.form_spec.specs.Octets.{Octets}
use Rattle.form_spec.specs.Shape.{refuse, St, no_table, with_peers, plan}
use Rattle.form_spec.specs.Put.{Value, Tail, nothing, carried, items, refusal, body_refusal}
use Rattle.form_spec.specs.Gives.{Shaped}
use Rattle.page_spec.specs.Layout.{layout_for}
use Rattle.page_spec.specs.Chosen.{Chosen, Unread, TableDump, PeerTable, Rib, RibGeneric, Change, Message}
use Rattle.write_spec.specs.Only.{writer}
use Rattle.record_laws.specs.Forms.{TailFor}
use Rattle.page_laws.proofs.Choice.{Says}
use Rattle.std.specs.Prelude.{Err}

module _ (n : ℕ) where
  no_tail : (t : Tail) → (6 < n → ⊥) → (1 < n → n < 5 → ⊥) → TailFor n t → t ≡ nothing
  no_tail nothing c i h = refl
  no_tail (carried r) c i h = absurd (c h.1)
  no_tail (items k raw) c i h = absurd (i h.1 h.2)

  contents : (t : Tail) → 6 < n → TailFor n t → (r : List ℕ) × (t ≡ carried r) × Octets r
  contents nothing c (inl e) = absurd (omega arith)
  contents nothing c (inr (inl e)) = absurd (omega arith)
  contents nothing c (inr (inr e)) = absurd (omega arith)
  contents (carried r) c h = (r, refl, h.0)
  contents (items k raw) c h = absurd (omega (arith, h.2))

  counted : (t : Tail) → 1 < n → n < 5 → TailFor n t → (k : ℕ) × (raw : List ℕ) × (t ≡ items k raw) × Octets raw
  counted nothing a b (inl e) = absurd (omega arith)
  counted nothing a b (inr (inl e)) = absurd (omega arith)
  counted nothing a b (inr (inr e)) = absurd (omega arith)
  counted (carried r) a b h = absurd (omega (arith, h.1))
  counted (items k raw) a b h = (k, raw, refl, h.0)

pub tail-shaped : (longest : ℕ) (st : St) (y u : ℕ) (k : Chosen) → Says y u k → (vs : List Value) (t : Tail) → body_refusal (plan st (layout_for longest k)) vs t ≡ 0 → TailFor (writer k) t
    → Shaped (plan st (layout_for longest k)) t
unfolding plan layout_for body_refusal refusal
tail-shaped longest st y u (Err why) s vs t e h = never why.number (12 - why.place) s.0 e
  where
    -- a fault's number is none that passes
    never : (n b : ℕ) → 0 < n → body_refusal (plan st (refuse n b)) vs t ≡ 0 → Shaped (plan st (refuse n b)) t
    never zero b s e = absurd (omega (arith, s))
    never (suc n) b s e = absurd (omega arith)
tail-shaped longest st y u (Unread micro) s vs t e h = contents (7 + micro) t (omega arith) h
tail-shaped longest st y u (TableDump size) s vs t e h = no_tail 1 t (λ a. omega arith) (λ a b. omega arith) h
tail-shaped longest st y u PeerTable s vs t e h = counted 2 t (omega arith) (omega arith) h
tail-shaped longest no_table y u (Rib bits) s vs t e h = absurd (omega arith)
tail-shaped longest (with_peers ns) y u (Rib bits) s vs t e h = counted 3 t (omega arith) (omega arith) h
tail-shaped longest no_table y u RibGeneric s vs t e h = absurd (omega arith)
tail-shaped longest (with_peers ns) y u RibGeneric s vs t e h = counted 4 t (omega arith) (omega arith) h
tail-shaped longest st y u (Change micro w) s vs t e h = no_tail 5 t (λ a. omega arith) (λ a b. omega arith) h
tail-shaped longest st y u (Message micro w) s vs t e h = no_tail 6 t (λ a. omega arith) (λ a b. omega arith) h
