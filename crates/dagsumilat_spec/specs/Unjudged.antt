-- An entry's fields where its record was judged before: neither the index nor the attributes are judged again (page_spec/specs/Rib.entry does).
use Rattle.std.specs.Prelude.{List, ℕ, Result}
use Rattle.form_spec.specs.Fmt.{Fmt, end}
use Rattle.form_spec.specs.Words.{◌$◌, num, skip}
use Rattle.form_spec.specs.Pass.{pass}
use Rattle.page_spec.specs.Names.{peer_index, originated, attribute_length, attribute_octets}
use Rattle.record_spec.specs.Fields as show
use Rattle.record_spec.specs.declared.Entry.{Entry}
use Rattle.form_spec.specs.declared.Fault.{Fault}
use Rattle.form_spec.specs.Refusal.{refused}

unfoldable pub entry_fields : Fmt
entry_fields = num peer_index 2 λ i. num originated 4 λ t. num attribute_length 2 λ n. skip attribute_octets n $ end 0

-- the entry that starts at `at`
abbrev pub unjudged_at : List ℕ → (at : ℕ) → Result Entry Fault
unjudged_at m at = pass show.entry refused entry_fields m at
