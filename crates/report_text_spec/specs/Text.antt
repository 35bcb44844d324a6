-- What the program `report` writes of a dump: its own report, or the fault, or that it is too large.
use Rattle.std.specs.Prelude.{List, [], ◌∷◌, ◌++◌, ℕ, zero, suc, ◌+◌, ◌/◌, ◌%◌, eqb, ltb, length, drop, get_or}
use Prim.Native.String.{String}
use Rattle.form_spec.specs.Words.{choose}
use Rattle.form_spec.specs.Dump.{Walk, walk_all}
use Rattle.page_spec.specs.Layout.{layout}
use Rattle.decimal_spec.specs.Ascii.{ascii}
use Rattle.report_spec.specs.Answer.{own_of}
use Rattle.listing_spec.specs.Text.{entry, fault_line, too_large}

-- a key, its number, and the end of the line
abbrev pub number_line : String → ℕ → List ℕ
number_line key n = entry key n ++ ascii "\n"

-- how often the old state went to the new one; zero is left out
unfoldable pub cell_line : (old new count : ℕ) → List ℕ
cell_line old new zero = []
cell_line old new (suc n) = entry "change." old ++ entry "." new ++ number_line "=" (suc n)

-- the cells from number k of the table on: six new states to each old one, states from 1 on
unfoldable pub cell_lines : (k : ℕ) → List ℕ → List ℕ
cell_lines k [] = []
cell_lines k (n ∷ ns) = cell_line (k / 6 + 1) (k % 6 + 1) n ++ cell_lines (k + 1) ns

-- of the 39 numbers
unfoldable pub report_lines : (own : List ℕ) → List ℕ
report_lines own = number_line "records=" (get_or own 0 0) ++ number_line "changes=" (get_or own 1 0) ++ number_line "breaks=" (get_or own 2 0) ++ cell_lines 0 (drop 3 own)

-- of a fault, and of the report where there is none
unfoldable pub answer_lines : (fault place : ℕ) (own : List ℕ) → List ℕ
answer_lines fault place own = choose (eqb fault 0) (report_lines own) (fault_line fault place)

-- `longest` counts the octets of the longest BGP message
module _ (longest : ℕ) where
  abbrev pub walk_lines : Walk → List ℕ
  walk_lines w = answer_lines w.fault w.place (own_of longest w)

  -- all that is written for the dump d
  unfoldable pub report_text : (d : List ℕ) → List ℕ
  report_text d = choose (ltb 65536 (length d)) too_large (walk_lines (walk_all (layout longest) d))
