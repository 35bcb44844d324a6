-- The list of the muted as a cut keeps it: a tree in 196,608 slots, where a look for a number goes by its bits and not by the list.
-- A slot is empty, 0, or has a number of the list, told by its place there, counted from 1. The first 65,536 slots are where looks
-- start, by a number's last 16 bits; behind them the number at each place has two, by which a look for another goes on.
use Rattle.std.specs.Prelude.{◌≡◌, true, List, ℕ, zero, suc, min, ◌+◌, ◌-◌, ◌*◌, ◌/◌, ◌%◌, ◌≤◌, ◌<◌, length, take, get_or, replicate}
use Rattle.cut_spec.specs.Cut.{mem}

-- the number at a place, counted from 1
abbrev pub at_place : (ms : List ℕ) (place : ℕ) → ℕ
at_place ms place = get_or ms (place - 1) 0

-- the slot by which a look goes on from a place: the next of its bits says which of the two
abbrev pub slot_behind : (place bits : ℕ) → ℕ
slot_behind place bits = 65536 + 2 * place + bits % 2

-- ---- a look for n, after so many turns

-- the bits that are left
abbrev pub bits_after : (turns n : ℕ) → ℕ
bits_after zero n = n / 65536
bits_after (suc t) n = bits_after t n / 2

-- the slot that it has come to
abbrev pub slot_after : (turns : ℕ) (slots : List ℕ) (n : ℕ) → ℕ
slot_after zero slots n = n % 65536
slot_after (suc t) slots n = slot_behind (get_or slots (slot_after t slots n) 0) (bits_after t n)

-- it goes on from a slot that has another number
abbrev pub GoesOn : (ms slots : List ℕ) (n s : ℕ) → Type 0
GoesOn ms slots n s = (0 < get_or slots s 0) × (n ≡ at_place ms (get_or slots s 0) → ⊥)

-- and so it did at each turn
abbrev pub Passes : (turns : ℕ) (ms slots : List ℕ) (n : ℕ) → Type 0
Passes zero ms slots n = Unit
Passes (suc t) ms slots n = Passes t ms slots n × GoesOn ms slots n (slot_after t slots n)

abbrev pub Comes : (ms slots : List ℕ) (n s : ℕ) → Type 0
Comes ms slots n s = (turns : ℕ) × Passes turns ms slots n × (slot_after turns slots n ≡ s)

-- ---- what the slots hold

abbrev pub Has : (ms slots : List ℕ) (n s : ℕ) → Type 0
Has ms slots n s = (0 < get_or slots s 0) × (n ≡ at_place ms (get_or slots s 0))

-- no number is in any slot
abbrev pub empty_slots : List ℕ
empty_slots = replicate 196608 0

-- the first k numbers of the list are in the slots, and nothing else is
pub record SlotsHold (ms slots : List ℕ) (k : ℕ) : Type 0 where
  pub all_slots : length slots ≡ 196608
  pub few : k ≤ 65535
  pub on_list : k ≤ length ms
  pub of32_bits : (i : ℕ) → get_or ms i 0 < 4294967296
  pub places : (s : ℕ) → get_or slots s 0 ≤ k
  -- a number stands where a look for it comes
  pub in_place : (s : ℕ) → 0 < get_or slots s 0 → Comes ms slots (at_place ms (get_or slots s 0)) s
  pub all_held : (n : ℕ) → mem n (take k ms) ≡ true → (s : ℕ) × Has ms slots n s

-- how many numbers of a list the slots take: the others are looked for in the list itself
abbrev pub slots_take : List ℕ → ℕ
slots_take ms = min (length ms) 65535

abbrev pub Filled : (ms slots : List ℕ) → Type 0
Filled ms slots = SlotsHold ms slots (slots_take ms)
