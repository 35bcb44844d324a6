-- What the listing of a dump writes: a line for each record before the first fault, then a line with that fault.
use Rattle.std.specs.Prelude.{List, [], ◌∷◌, ◌++◌, ℕ, ◌+◌, ltb, length}
use Prim.Native.String.{String}
use Rattle.form_spec.specs.Words.{choose}
use Rattle.form_spec.specs.Body.{spell}
use Rattle.form_spec.specs.Record.{Rec, size, time_of}
use Rattle.form_spec.specs.Dump.{Walk, walk_all}
use Rattle.page_spec.specs.Layout.{layout}
use Rattle.decimal_spec.specs.Ascii.{ascii}
use Rattle.decimal_spec.specs.Decimal.{decimal}

-- a key and its number
abbrev pub entry : String → ℕ → List ℕ
entry key n = ascii key ++ decimal n

unfoldable pub line : (at time type subtype length : ℕ) → List ℕ
line at time type subtype length =
    entry "at=" at ++ entry " time=" time ++ entry " type=" type ++ entry " subtype=" subtype ++ entry " length=" length ++ ascii "\n"

unfoldable pub fault_line : (fault place : ℕ) → List ℕ
fault_line fault place = entry "fault=" fault ++ entry " place=" place ++ ascii "\n"

abbrev pub too_large : List ℕ
too_large = ascii "too large\n"

-- `longest` counts the octets of the longest BGP message
module _ (longest : ℕ) where
  -- of the record r, which stands at offset at
  unfoldable pub record_line : (at : ℕ) → Rec → List ℕ
  record_line at r = line at (time_of (layout longest) r) r.type r.sub (length (spell r.body))

  unfoldable pub lines : (at : ℕ) → List Rec → List ℕ
  lines at [] = []
  lines at (r ∷ rs) = record_line at r ++ lines (at + size r) rs

  -- what is written of a walk from offset at on
  unfoldable pub walk_text : (at : ℕ) → Walk → List ℕ
  walk_text at w = lines at w.recs ++ fault_line w.fault w.place

  -- all that is written for the dump d
  unfoldable pub listing : (d : List ℕ) → List ℕ
  listing d = choose (ltb 65536 (length d)) too_large (walk_text 0 (walk_all (layout longest) d))
