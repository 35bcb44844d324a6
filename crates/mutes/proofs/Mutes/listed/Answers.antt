-- `mutes::Mutes::listed` meets its contract: what the slots do not have is on the list only behind what they hold.
use Rattle.std.proofs.Common.{◌≡◌, ◌∙◌, sym, ap, ℕ, ◌-◌, List, length, take, drop, arith}
use Rattle.std.proofs.Math.Seq.{take-length}
use Rattle.std.proofs.lemmas.List.{length-drop}
use Rattle.cut_spec.specs.Cut.{mem}
use Rattle.mutes.proofs.Held.{is_listed, not_held}
use Rattle.mutes.proofs.Mutes.listed.Goals as goal

-- a slice from a place to its end
rest : (i : ℕ) (ms : List ℕ) → take (length ms - i) (drop i ms) ≡ drop i ms
rest i ms = rw (← length-drop i ms) (take-length (drop i ms))

pub returns-then-self-end-eq0 : goal.returns-then-self-end-eq0
returns-then-self-end-eq0 c =
    rw (← c.self.view_is, not_held c.self.invariant c.look_for-end.ensures c.if-self-end-eq0.true, ← c.held_of-held.ensures) (c.among.ensures ∙ ap (mem c.args.number) (rest c.held_of-held.result c.self.inside.list.now))

pub returns : goal.returns
returns c = rw (← c.self.view_is) (sym (is_listed c.self.invariant c.look_for-end.ensures (omega (arith, c.if-self-end-eq0.false))))
