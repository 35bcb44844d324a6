-- The loop over the records of a dump: what holds before each record, and one record further.
use mathlib.Core.Path.{◌≡◌, refl, sym, ap, ◌∙◌, subst}
use mathlib.Core.Bool.{Bool, true, false}
use mathlib.Core.List.{List, map}
use Prim.Native.Nat.{ℕ, ◌+◌, ◌-◌, ◌≤◌, ◌<◌}
use native.Mathlib.Omega.{arith}
use lib.Dec.{ltb}
use lib.ListN.{length, drop, length-map}
use Rattle.std.proofs.Common.{Option, None}
use borrow.Author.Tests.{ltb-false}
use Rattle.form_spec.specs.Octets.{Octets}
use Rattle.form_spec.specs.Record.{next}
use Rattle.form_spec.specs.Shape.{as_of}
use Rattle.form_spec.specs.Dump.{Splits}
use Rattle.page_spec.specs.Peers.{peer}
use Rattle.page_spec.specs.Layout.{layout}
use Rattle.record_spec.specs.Shown.{Shown, Nothing, Good}
use Rattle.record_spec.specs.Answer.{fault, place}
use Rattle.cut_spec.specs.Keep.{kept}
use Rattle.cut_spec.specs.Cut.{mem, cutting, numbers}
use Rattle.cut_laws.proofs.Keep.{kept-length}
use Rattle.form_spec.specs.Found.{items}
use Rattle.cut_spec.specs.One.{state_at, Ranked}
use Rattle.cut_spec.specs.Laid.{laid, Room, between, Passed}
use Rattle.cut_spec.specs.Answer.{left_of}
use Rattle.cut_laws.proofs.Shows.{shows_good}
use Rattle.cut_laws.proofs.Loop.{front}
use Rattle.cut_laws.proofs.Leaving.{Leaving, leave_starts, leave_done, leave_room, leave_turn}
use Rattle.look_spec.specs.Field as field
use Rattle.look_spec.specs.Field.{Told}
use Rattle.cut.specs.State.{state_told, table_told, peers_of, shown_at, rec_at}
use Rattle.cut_spec.specs.Left.{octets_of}
use Rattle.cut.specs.Stands.{InStep, Stands}
use Rattle.cut.specs.declared.InForce.{InForce}
use Rattle.cut_lay.specs.declared.Far.{Far}
use Rattle.cut_spec.specs.declared.Fate.{Fate}
use Rattle.cut.proofs.One.{Is, shown_here, state_at_is}
use Rattle.form_spec.specs.Refusal.{refused}
use Rattle.std.specs.Prelude.{Err}

-- ---- the table in force

-- before the first record there is none
starts : (ms new_indexes d : List ℕ) → InStep ms new_indexes d None
unfolding state_at Ranked
starts ms new_indexes d = record { tells = tt; ranked = tt; none = λ z. refl }

-- as many of its peers stay as there are: none is lost
pub none_lost : (ms d : List ℕ) (from n k : ℕ) → k ≡ length (kept (λ m. mem m ms) (map (as_of peer) (items peer n (drop from d)))) → length (items peer n (drop from d)) ≡ n → ltb k n ≡ false
    → length (kept (λ m. mem m ms) (numbers (state_at peer d true from n))) ≡ length (numbers (state_at peer d true from n))
none_lost ms d from n k e many z =
    let ns : List ℕ = map (as_of peer) (items peer n (drop from d)) in
    let l : length ns ≡ n = length-map (items peer n (drop from d)) (as_of peer) ∙ many in
    let w : length (kept (λ m. mem m ms) ns) ≡ length ns = omega (arith, kept-length (λ m. mem m ms) ns, ltb-false k n z, l, e) in
    rw (state_at_is d from n) w

good_with : (x : Shown) → ((n p : ℕ) → x ≡ refused n p → ⊥) → fault x ≡ 0
good_with Nothing h = refl
good_with (Err why) h = absurd (h why.number why.place refl)
good_with (Good a b) h = refl

-- ---- the loop

-- what a reader is told
abbrev pub told_of : (longest : ℕ) → Option InForce → Told
told_of longest f = record { longest = longest; table = table_told f }

pub record Turn (longest from to : ℕ) (ms d : List ℕ) (lays : Bool) (new_indexes out₀ out : List ℕ) (at : ℕ) (s : Far) (f : Option InForce) : Type 0 where
  pub step : InStep ms new_indexes d f
  pub leaves : Leaving (layout longest) (cutting from to ms) lays d out₀ out (state_told d f) at s.run s.put

pub turn_starts : (longest from to : ℕ) (ms d : List ℕ) (lays : Bool) (new_indexes out : List ℕ) → Splits (layout longest) d → Turn longest from to ms d lays new_indexes out out 0 (record { run = 0; put = 0 }) None
unfolding state_at
turn_starts longest from to ms d lays new_indexes out s = record { step = starts ms new_indexes d; leaves = leave_starts (layout longest) (cutting from to ms) lays d out s }

module _ {longest from to : ℕ} {ms d : List ℕ} {lays : Bool} {new_indexes out₀ out : List ℕ} {at : ℕ} {s : Far} {f : Option InForce} (i : Turn longest from to ms d lays new_indexes out₀ out at s f) where
  pub turn_stands : Octets d → at < length d → Stands longest ms new_indexes d at f
  turn_stands oc more =
      let w = front (layout longest) (cutting from to ms) d (state_told d f) at i.leaves.rs i.leaves.here more in
      let g = good_with (shown_at longest d f at) (λ n p z. shows_good longest d oc at more (table_told f) (state_told d f) i.step.tells w.reads n p z) in
      record { before = more; good = g; step = i.step }

  pub turn_good : Octets d → at < length d → field.Good (told_of longest f) d at
  turn_good oc more = let h = turn_stands oc more in (h.before, h.good)

  module _ (fits : lays ≡ true → length (left_of longest from to ms d) ≤ length out₀) where
    pub turn_done : length d ≤ at → {out' : List ℕ} {r : ℕ} → r ≡ s.put + (at - s.run) → out' ≡ laid lays out s.put (between d s.run at)
        → (r ≡ length (left_of longest from to ms d)) × (out' ≡ laid lays out₀ 0 (left_of longest from to ms d))
    turn_done h p q = leave_done (layout longest) (cutting from to ms) i.leaves fits h p q

    module _ (oc : Octets d) (h : Stands longest ms new_indexes d at f) {fresh : List ℕ} {g : Option InForce} {end : ℕ} (ends : end ≡ at + place (shown_at longest d f at)) (behind : state_told d g ≡ next (layout longest) (rec_at longest d f at) (state_told d f))
        (step : InStep ms fresh d g) (l : Fate) (is : Is longest from to ms d at f fresh g end l) where
      pub turn_room : Room lays out s.put (at - s.run + length (octets_of fresh d at end (peers_of g) l))
      turn_room q = omega (arith, leave_room (layout longest) (cutting from to ms) i.leaves fits h.before q, ap length is.0)

      pub turn_on : {out' : List ℕ} {t : Far} → Passed lays d out out' (octets_of fresh d at end (peers_of g) l) at end s.run s.put t.run t.put
          → Turn longest from to ms d lays fresh out₀ out' end t g
      turn_on {out'} {t} p =
          let q : Passed lays d out out' (octets_of fresh d at end (peers_of g) l) at (at + place (shown_at longest d f at)) s.run s.put t.run t.put =
          subst (λ (e : ℕ). Passed lays d out out' (octets_of fresh d at end (peers_of g) l) at e s.run s.put t.run t.put) ends p in
          let v = leave_turn (layout longest) (cutting from to ms) i.leaves fits h.before (shown_here oc h).ends behind is.0 q in
          record { step = step; leaves = subst (λ (e : ℕ). Leaving (layout longest) (cutting from to ms) lays d out₀ out' (state_told d g) e t.run t.put) (sym ends) v }
