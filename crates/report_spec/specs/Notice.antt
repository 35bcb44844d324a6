-- What a report heeds in a record: the states of a state change, the sequence of a record of type 12. Once in the record's own fields, once in
-- what reading shows of it.
use Rattle.std.specs.Prelude.{List, [], ◌∷◌, ℕ, ◌≤◌, Err}
use Rattle.form_spec.specs.Fmt.{find}
use Rattle.form_spec.specs.Shape.{Layout, refuse, fields, unread, table, entries, front_of, value}
use Rattle.form_spec.specs.Body as form
use Rattle.form_spec.specs.Record.{Rec}
use Rattle.page_spec.specs.Names.{old_state, new_state, sequence}
use Rattle.page_spec.specs.Layout.{kind, layout_for}
use Rattle.page_spec.specs.Chosen.{Chosen}
use Rattle.page_spec.specs.Chosen as chosen
use Rattle.record_spec.specs.Shown.{Shown}
use Rattle.record_spec.specs.declared.Body.{Body}
use Rattle.record_spec.specs.declared.Body.TheVariants as shown
use Rattle.record_spec.specs.Answer.{of_body}
use Rattle.report_spec.specs.declared.Notice.{Notice}
use Rattle.report_spec.specs.declared.Notice.TheVariants.{Plain, Change, Sequence}

-- the number in the field of that name, where a layout has fields alone
abbrev pub number_in : (name : ℕ) → Layout → form.Body → ℕ
number_in x (refuse n b) y = 0
number_in x (fields f) y = value (find x f (front_of y))
number_in x (unread f) y = 0
number_in x (table f g) y = 0
number_in x (entries f g) y = 0

abbrev pub notice_by : Chosen → Layout → form.Body → Notice
notice_by (Err why) l y = Plain
notice_by (chosen.Unread micro) l y = Plain
notice_by (chosen.TableDump size) l y = Sequence (number_in sequence l y)
notice_by chosen.PeerTable l y = Plain
notice_by (chosen.Rib bits) l y = Plain
notice_by chosen.RibGeneric l y = Plain
notice_by (chosen.Change micro w) l y = Change (number_in old_state l y) (number_in new_state l y)
notice_by (chosen.Message micro w) l y = Plain

-- of a record; `longest` counts the octets of the longest BGP message
unfoldable pub notice : (longest : ℕ) → Rec → Notice
notice longest r = let k = kind r.type r.sub in notice_by k (layout_for longest k) r.body

-- of what reading shows
abbrev pub notice_in : Body → Notice
notice_in (shown.Unread c) = Plain
notice_in (shown.TableDump r) = Sequence r.sequence
notice_in (shown.PeerTable p) = Plain
notice_in (shown.Rib r) = Plain
notice_in (shown.RibGeneric f r) = Plain
notice_in (shown.Change s w) = Change w.old w.new
notice_in (shown.Message s b) = Plain

abbrev pub notice_of : Shown → Notice
notice_of x = of_body Plain notice_in x

-- states are 1 to 6
abbrev pub InStates : Notice → Type 0
InStates Plain = Unit
InStates (Change o n) = (1 ≤ o) × (o ≤ 6) × (1 ≤ n) × (n ≤ 6)
InStates (Sequence s) = Unit

abbrev pub AllInStates : List Notice → Type 0
AllInStates [] = Unit
AllInStates (n ∷ ns) = InStates n × AllInStates ns
