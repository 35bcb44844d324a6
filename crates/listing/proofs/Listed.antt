-- The loop over a dump that lays a line a record: what is laid, and what is ahead, make the whole text.
use mathlib.Core.Path.{◌≡◌, refl, sym, ap, ap₂, ◌∙◌}
use mathlib.Core.List.{List, [], ◌++◌, append_assoc}
use Prim.Native.Nat.{ℕ, ◌+◌, ◌*◌, ◌≤◌}
use native.Mathlib.Omega.{arith}
use lib.ListN.{length, drop}
use Rattle.form_spec.specs.Octets.{Octets}
use Rattle.form_spec.specs.Shape.{St, no_table}
use Rattle.form_spec.specs.Record.{Rec, size, next}
use Rattle.form_spec.specs.Dump.{Walk, stop, before, walk_from, walk_all}
use Rattle.page_spec.specs.Layout.{layout}
use Rattle.octets_laws.proofs.Over.{over_none}
use Rattle.record_spec.specs.Table.{Table, Absent}
use Rattle.record_spec.specs.Tells.{Tells}
use Rattle.walk_spec.specs.Steps.{step_at}
use Rattle.walk_spec.specs.declared.Item.{Item}
use Rattle.walk_spec.specs.Step.{End, Record}
use Rattle.walk_laws.proofs.Goes.{Past, goes_to}
use Rattle.listing_spec.specs.Text.{line, fault_line, record_line, lines, walk_text}
use Rattle.listing_spec.specs.Lays.{Lays}
use Rattle.listing_laws.proofs.Lays.{both}
use Rattle.form_spec.specs.Refusal.{refused}

-- ---- the text of a walk, a step at a time

text_stop : (longest at n p : ℕ) → walk_text longest at (stop n p) ≡ fault_line n p
unfolding walk_text lines
text_stop longest at n p = refl

text_past : (longest at : ℕ) (r : Rec) (w : Walk) → walk_text longest at (before r w) ≡ record_line longest at r ++ walk_text longest (at + size r) w
unfolding walk_text lines
text_past longest at r w = append_assoc (record_line longest at r) (lines longest (at + size r) w.recs) (fault_line w.fault w.place)

-- past a record that a step found
text_on : (longest : ℕ) (d : List ℕ) (at : ℕ) (st : St) (i : Item) (u : Table) (g : Past longest d at st i u)
    → walk_text longest at (walk_from (layout longest) st at (drop at d))
    ≡ line i.at i.time i.ty i.subtype i.length ++ walk_text longest i.next (walk_from (layout longest) (next (layout longest) g.rec st) i.next (drop i.next d))
unfolding record_line
text_on longest d at st i u g =
    let w : Walk = walk_from (layout longest) (next (layout longest) g.rec st) i.next (drop i.next d) in
    let e : record_line longest at g.rec ≡ line i.at i.time i.ty i.subtype i.length = cc in
    ap (walk_text longest at) g.walk ∙ text_past longest at g.rec w ∙ ap₂ (λ (s : List ℕ) (n : ℕ). s ++ walk_text longest n w) e (sym g.ends)

-- ---- the loop

-- at offset at, where the table t is told and `put` octets of text are laid
pub record Listed (longest : ℕ) (d out₀ out : List ℕ) (at : ℕ) (t : Table) (put : ℕ) : Type 0 where
  pub bound : at ≤ length d
  -- a record has at least 12 octets, and its line at most 93
  pub few : 12 * put ≤ 93 * at
  pub st : St
  pub tells : Tells t st
  pub laid : List ℕ
  pub lays : Lays out₀ 0 laid put out
  pub whole : walk_text longest 0 (walk_all (layout longest) d) ≡ laid ++ walk_text longest at (walk_from (layout longest) st at (drop at d))

pub starts : (longest : ℕ) (d out : List ℕ) → Listed longest d out out 0 Absent 0
unfolding walk_all
starts longest d out =
    record { bound = omega arith; few = omega arith; st = no_table; tells = tt; laid = []; lays = record { ends = refl; holds = sym (over_none out 0 (omega arith)) }; whole = refl }

module _ (longest : ℕ) (d : List ℕ) (oc : Octets d) (out₀ out : List ℕ) (at : ℕ) (t : Table) (put : ℕ) (a : Listed longest d out₀ out at t put) where
  -- the walk stops here
  stops : (n p r : ℕ) (l : List ℕ) → walk_from (layout longest) a.st at (drop at d) ≡ stop n p → Lays out put (fault_line n p) r l → r ≤ length out₀
      → Lays out₀ 0 (walk_text longest 0 (walk_all (layout longest) d)) r l
  stops n p r l e x h =
      let y = a.lays in
      rw (a.whole, e, text_stop longest at n p) (both y x (omega arith))

  pub done_end : (r : ℕ) (l : List ℕ) → step_at longest t d at ≡ End → Lays out put (fault_line 0 at) r l → r ≤ length out₀
      → Lays out₀ 0 (walk_text longest 0 (walk_all (layout longest) d)) r l
  done_end r l e = stops 0 at r l (goes_to longest d oc at a.bound t a.st a.tells End e).walk

  pub done_fault : (n p r : ℕ) (l : List ℕ) → step_at longest t d at ≡ refused n p → Lays out put (fault_line n p) r l → r ≤ length out₀
      → Lays out₀ 0 (walk_text longest 0 (walk_all (layout longest) d)) r l
  done_fault n p r l e = stops n p r l (goes_to longest d oc at a.bound t a.st a.tells (refused n p) e).walk

  module _ (i : Item) (u : Table) (e : step_at longest t d at ≡ Record i u) where
    g : Past longest d at a.st i u
    g = goes_to longest d oc at a.bound t a.st a.tells (Record i u) e

    -- there is room for the record's line
    pub room : (at + 12 ≤ i.next) × (i.next ≤ length d)
    room = (omega (arith, g.ends), g.inside)

    pub turn : (r : ℕ) (l : List ℕ) → Lays out put (line i.at i.time i.ty i.subtype i.length) r l → r ≤ put + 93 → r ≤ length out₀ → Listed longest d out₀ l i.next u r
    turn r l x m h =
        let y = a.lays in
        let few : 12 * put ≤ 93 * at = a.few in
        let b = room in
        record {
          bound = g.inside;
          few = omega arith;
          st = next (layout longest) g.rec a.st;
          tells = g.tells;
          laid = a.laid ++ line i.at i.time i.ty i.subtype i.length;
          lays = both y x (omega arith);
          whole = a.whole ∙ rw (text_on longest d at a.st i u g, append_assoc);
        }
