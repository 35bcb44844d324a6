-- A loop over a dump, step by step: what is behind it and what is ahead of it make the whole walk.
use mathlib.Core.Path.{◌≡◌, refl, ◌∙◌}
use mathlib.Core.List.{List, [], ◌∷◌, ◌++◌, append_assoc, append-nil}
use Prim.Native.Nat.{ℕ, ◌≤◌, ◌<◌}
use native.Mathlib.Omega.{arith}
use lib.ListN.{length, drop, length-append}
use Rattle.form_spec.specs.Octets.{Octets}
use Rattle.form_spec.specs.Shape.{St, no_table}
use Rattle.form_spec.specs.Record.{Rec, Valid, next}
use Rattle.form_spec.specs.Dump.{Walk, stop, writes, walk_from, walk_all}
use Rattle.form_laws.proofs.Record.{length-write}
use Rattle.form_laws.proofs.Dump.{writes-append}
use Rattle.page_spec.specs.Layout.{layout}
use Rattle.record_spec.specs.Table.{Table, Absent}
use Rattle.record_spec.specs.One.{read_one}
use Rattle.record_spec.specs.Agrees.{Same}
use Rattle.record_spec.specs.Tells.{Tells}
use Rattle.walk_spec.specs.Steps.{step_at}
use Rattle.walk_spec.specs.Walked.{befores}
use Rattle.walk_spec.specs.declared.Item.{Item}
use Rattle.walk_spec.specs.Step.{End, Record}
use Rattle.walk_laws.proofs.Answers.{before_end}
use Rattle.walk_laws.proofs.Goes.{goes_to, shown_past}
use Rattle.form_spec.specs.Refusal.{refused}

-- at offset at, where the records rs end and the table t is told
pub record Ahead (longest : ℕ) (d : List ℕ) (at : ℕ) (t : Table) (rs : List Rec) : Type 0 where
  pub bound : at ≤ length d
  pub few : length rs ≤ at
  pub ended : length (writes rs) ≡ at
  pub st : St
  pub tells : Tells t st
  pub whole : walk_all (layout longest) d ≡ befores rs (walk_from (layout longest) st at (drop at d))

module _ (longest : ℕ) (d : List ℕ) where
  pub ahead_all : Ahead longest d 0 Absent []
  unfolding walk_all
  ahead_all = record { bound = omega arith; few = omega arith; ended = refl; st = no_table; tells = tt; whole = refl }

  -- the walk stops here
  stops : (n p : ℕ) (rs : List Rec) (w : Walk) → walk_all (layout longest) d ≡ befores rs w → w ≡ stop n p → walk_all (layout longest) d ≡ record { fault = n; place = p; recs = rs }
  stops n p rs w e f = e ∙ rw (f, append-nil)

  module _ (oc : Octets d) (at : ℕ) (t : Table) (rs : List Rec) (a : Ahead longest d at t rs) where
    pub ends : step_at longest t d at ≡ End → walk_all (layout longest) d ≡ record { fault = 0; place = at; recs = rs }
    ends e = stops 0 at rs _ a.whole (goes_to longest d oc at a.bound t a.st a.tells End e).walk

    pub faults : (f p : ℕ) → step_at longest t d at ≡ refused f p → walk_all (layout longest) d ≡ record { fault = f; place = p; recs = rs }
    faults f p e = stops f p rs _ a.whole (goes_to longest d oc at a.bound t a.st a.tells (refused f p) e).walk

    -- one record further
    pub record Passes (i : Item) (u : Table) : Type 0 where
      pub rec : Rec
      pub valid : Valid (layout longest) a.st rec
      pub same : Same longest (drop at d) rec (read_one longest t (drop at d))
      pub on : at < i.next
      pub ahead : Ahead longest d i.next u (rs ++ (rec ∷ []))

    pub passes : (i : Item) (u : Table) → step_at longest t d at ≡ Record i u → Passes i u
    passes i u e =
        let g = goes_to longest d oc at a.bound t a.st a.tells (Record i u) e in
        let f : length rs ≤ at = a.few in
        let o : at < i.next = g.on in
        record {
          rec = g.rec;
          valid = g.valid;
          same = shown_past longest d oc at (before_end longest t at d i u e) t a.st a.tells i u g;
          on = o;
          ahead = record {
            bound = g.inside;
            few = rw length-append (omega arith);
            ended = rw (writes-append, length-append, length-append, length-write) (omega (arith, a.ended, g.ends));
            st = next (layout longest) g.rec a.st;
            tells = g.tells;
            whole = a.whole ∙ rw (g.walk, append_assoc);
          };
        }
