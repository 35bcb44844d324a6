-- Where a look for a number ends.
use Rattle.std.specs.Prelude.{◌≡◌, List, ℕ, ◌≤◌, ◌<◌, get_or}
use Rattle.mutes_spec.specs.Slots.{at_place, slot_after, Passes, SlotsHold}

-- what a caller knows: the slots hold some of the list
abbrev pub SlotsHoldSome : (ms slots : List ℕ) → Type 0
SlotsHoldSome ms slots = (k : ℕ) × SlotsHold ms slots k

-- what it learns: a look for n comes to the slot e, soon, and ends there, since e has n or is empty
pub record LookEnds (ms slots : List ℕ) (n e : ℕ) : Type 0 where
  pub is_slot : e < 196608
  pub turns : ℕ
  pub soon : turns ≤ 17
  pub passes : Passes turns ms slots n
  pub here : slot_after turns slots n ≡ e
  pub has : 0 < get_or slots e 0 → n ≡ at_place ms (get_or slots e 0)
