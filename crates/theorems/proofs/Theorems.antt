-- The user's three demands, and the report, as theorems about what the functions promise, each one line to the crate that proves it.
--
-- A promise is an equation: `walk::walk` answers `walked`, `walk::step_at` `step_at` (in `Steps`), `record::read_record` shows `read_one` (in
-- `Reads`), a writer answers `writer_answer` and leaves `writer_leaves` in its buffer (in `Writes`), `cut::cut` answers `cut_answer` and leaves
-- `cut_leaves` (in `Cuts`), `report_add::add` answers `report_answer` and leaves `report_leaves` of the report (in `Adds`). So what is said here
-- of those definitions holds of every call. Octets are numbers below 256; `longest` counts the octets of the longest BGP message, and the
-- public functions take `longest_message` for it.
--
-- The words, and where they are defined:
--   layout         page_spec/specs/Layout    document 01's layouts, by Type and Subtype
--   Valid, write   form_spec/specs/Record    a well-formed record where a table is in force; its octets
--   Splits         form_spec/specs/Dump      whole records, each valid where it stands, whose octets are the dump
--   Text, Spelled  text_spec/specs/Text      octets that spell scalar values in UTF-8; the octets of these values
--   Parsed         text_spec/specs/Grammar   the octets are sequences of the forms in RFC 3629's grammar
--   is_text        text_spec/specs/Check     the check that goes octet by octet
--   Tells          record_spec/specs/Tells   what a reader is told of the table in force
--   Agrees, Same   record_spec/specs/Agrees  refused with the same number and place, or shown with every field as it is in the octets
--   again          record_spec/specs/Again   what is shown, handed to a writer
--   Meets          record_spec/specs/Items   what going from item to item meets, against the items of a record; with `peer_at`, `peer_of` and
--                                            the like, which say what is shown at an offset and what of an item's fields
--   answer_at      dagsumilat_spec/specs/RecordAnswers  what the call for a record of a dump answers
--   unjudged_at    dagsumilat_spec/specs/Unjudged  what the call for an entry shows
--   Fair           record_laws/proofs/Written  fields of the form that a writer takes
--   number_at      record_spec/specs/Reads   the number that reading gives the record that starts the octets
--   WholeTable     record_spec/specs/Named   a whole record of Type 13, Subtype 1, starts the octets; with `Named`: its message holds all of the
--                                            view name, which is `name_in`
--   FaultyDump     place_spec/specs/Faulty   a dump with a fault at a place; with `Faulty`, of one record's octets, and `record_end`, where it ends
--   Failed         place_spec/specs/Failed   a format's octets with a fault at a place: the fields before it, those complete from it on, what is
--                                            left; which field that is, `place_spec/specs/About` says; with `behind_fields`, `Lacks`,
--                                            `NoFieldLeft`, `name_of` and `latest_of`, which say what the format lays out there
--   Own, Placed    write_spec/specs/Only, form_spec/specs/Aligned  whose a record is; each number goes into its field, each part has its size
--   number_for     room_spec/specs/Room      the fault, then 15
--   listing        listing_spec/specs/Text   the text that the program prints
--   left_of        cut_spec/specs/Answer     what is left of a dump, by `cut` of cut_spec/specs/Cut
--   report_of      report_spec/specs/Answer  a dump's own report, 39 numbers read off its records, by `own` of report_spec/specs/Own
--   notice         report_spec/specs/Notice  what is counted of a record; `changes`, `times` and `breaks_behind` of report_spec/specs/Own count it
--   sums, fit      report_spec/specs/Sum     numbers added one by one; each is of 64 bits
--   Balanced       report_spec/specs/Sum     39 numbers, of which the 36 cells sum to the state changes
--   seam_of        report_spec/specs/Dumps   1 where both dumps have records of type 12 and the first's last is not followed by the second's first; else 0
--   reports_leave  report_spec/specs/Dumps   the report behind dumps, each added in turn; with `NonePasses`: no call answers 16
--   together       report_spec/specs/Dumps   the report and the own reports of the dumps that are accepted, summed, however large
use mathlib.Core.Path.{◌≡◌, refl, sym, ◌∙◌}
use mathlib.Core.Logic.{◌↔◌, ◌⊎◌}
use mathlib.Core.Bool.{true, false}
use mathlib.Core.List.{List, [], ◌∷◌, ◌++◌, map, Perm}
use Prim.Native.Nat.{ℕ, suc, ◌+◌, ◌-◌, ◌*◌, ◌≤◌, ◌<◌, min, max}
use lib.ListN.{length, take, drop, get_or}
use Rattle.form_spec.specs.Octets.{Octets}
use Rattle.form_spec.specs.Fmt.{bad, good, Fmt}
use Rattle.form_spec.specs.Body.{AllFits}
use Rattle.form_spec.specs.Shape.{Layout, St, no_table, items_of}
use Rattle.form_spec.specs.Record.{Rec, write, read_rec, Valid}
use Rattle.form_spec.specs.Dump.{Splits, writes, walk_from, nexts}
use Rattle.form_spec.specs.Put.{Given, octets, record_refusal}
use Rattle.form_spec.specs.Aligned.{Placed}
use Rattle.text_spec.specs.Text.{Text, Spelled}
use Rattle.text_spec.specs.Grammar.{Parsed}
use Rattle.text_spec.specs.Check.{is_text}
use Rattle.octets_spec.specs.Be.{num_at}
use Rattle.page_spec.specs.Names.{bgp_rest}
use Rattle.page_spec.specs.Layout.{layout}
use Rattle.page_spec.specs.Rib.{entry}
use Rattle.page_spec.specs.Chosen.{Chosen}
use Rattle.record_spec.specs.Table.{Table, Holds, state_of}
use Rattle.record_spec.specs.Shown.{Shown, Nothing, Good}
use Rattle.record_spec.specs.declared.Header.{Header}
use Rattle.record_spec.specs.declared.Peers.{Peers}
use Rattle.std.specs.Prelude.{Result}
use Rattle.form_spec.specs.declared.Fault.{Fault}
use Rattle.record_spec.specs.declared.Peer.{Peer}
use Rattle.record_spec.specs.declared.Entry.{Entry}
use Rattle.record_spec.specs.declared.Routes.{Routes}
use Rattle.record_spec.specs.declared.Scope.{Scope}
use Rattle.record_spec.specs.declared.Body.TheVariants.{PeerTable, Rib, RibGeneric}
use Rattle.record_spec.specs.One.{read_one}
use Rattle.record_spec.specs.Answer.{fault, place, end, within, peer_fault, peer_end, entry_fault, entry_end}
use Rattle.record_spec.specs.Reads.{number_at, Reads}
use Rattle.record_spec.specs.Items.{peer_at, entry_at, met, peer_of, entry_of, Each, Meets}
use Rattle.room_spec.specs.Answer as written
use Rattle.room_spec.specs.Written.{Written}
use Rattle.room_spec.specs.Room.{number_for}
use Rattle.room_spec.specs.Written as answer
use Rattle.write_spec.specs.Only.{only, Own}
use Rattle.write_spec.specs.Verdict.{writer_answer, writer_leaves, Writes}
use Rattle.record_spec.specs.Tells.{Tells}
use Rattle.record_spec.specs.Agrees.{Agrees, Same, writer_of}
use Rattle.record_spec.specs.Again.{again}
use Rattle.record_laws.proofs.Written.{Fair}
use Rattle.record_spec.specs.Named.{WholeTable, Named, name_in}
use Rattle.place_spec.specs.Failed.{behind_fields, Lacks, NoFieldLeft, name_of, latest_of, Failed}
use Rattle.place_spec.specs.Faulty.{record_end, Faulty, FaultyDump}
use Rattle.walk_spec.specs.Walked.{walked}
use Rattle.walk_spec.specs.Steps.{step_at}
use Rattle.walk_spec.specs.Answer.{Steps}
use Rattle.walk_spec.specs.Step.{Step}
use Rattle.listing_spec.specs.Text.{fault_line, lines, listing}
use Rattle.cut_spec.specs.Cut.{mem}
use Rattle.cut_spec.specs.Answer.{left_of, cut_answer, cut_leaves, Cuts}
use Rattle.report_spec.specs.declared.Notice.TheVariants.{Change}
use Rattle.report_spec.specs.Last.{Absent}
use Rattle.report_spec.specs.Notice.{notice, notice_of, InStates}
use Rattle.report_spec.specs.Own.{changes, times, breaks_behind}
use Rattle.report_spec.specs.Sum.{empty, breaks_alone, sums, fit, Balanced}
use Rattle.report_spec.specs.Answer.{report_answer, report_leaves, Adds, report_of}
use Rattle.report_spec.specs.Dumps.{seam_of, reports_leave, NonePasses, together, AllOctets}
use Rattle.report_spec.specs.declared.Added.{Added}
use Rattle.dagsumilat_spec.specs.declared.RecordAnswer.{RecordAnswer}
use Rattle.dagsumilat_spec.specs.RecordAnswers.{table_by_count, answer_at}
use Rattle.dagsumilat_spec.specs.Unjudged.{unjudged_at}
use Rattle.text_laws.proofs.Exactly as text
use Rattle.text_laws.proofs.Rows as grammar
use Rattle.text_laws.proofs.Unique as values
use Rattle.room_laws.proofs.Room as room
use Rattle.record_laws.proofs.One as one
use Rattle.record_laws.proofs.Numbers as numbers
use Rattle.record_laws.proofs.Accepts as accepts
use Rattle.record_laws.proofs.Restores as restores
use Rattle.record_laws.proofs.Written as writing
use Rattle.record_laws.proofs.Item as item
use Rattle.record_laws.proofs.Items as items
use Rattle.record_laws.proofs.Names as names
use Rattle.record_laws.proofs.AsReader as as_reader
use Rattle.place_laws.proofs.About as about_places
use Rattle.place_laws.proofs.Record as record_places
use Rattle.place_laws.proofs.Dump as dump_places
use Rattle.walk_laws.proofs.Demand2 as dumps
use Rattle.walk_laws.proofs.Steps as steps
use Rattle.listing_laws.proofs.Listing as texts
use Rattle.cut_laws.proofs.Answers as Answers_of
use Rattle.cut_laws.proofs.Demand3 as cuts
use Rattle.cut_laws.proofs.Orders as orders
use Rattle.report_laws.proofs.Shown as shown
use Rattle.report_laws.proofs.Answers as adding
use Rattle.report_laws.proofs.Sums as balances
use Rattle.report_laws.proofs.Ends as ends
use Rattle.report_laws.proofs.Order as order
use Rattle.dagsumilat_laws.proofs.Items as calls
use Rattle.form_spec.specs.Refusal.{refused}

-- ==== Demand 1. Any bytes may arrive, and any call may be made with them.
--
-- That the work ends and nothing undefined happens is what every crate's check proves of every function; the public ones ask nothing of
-- their caller. What is left to say is that a refusal has a number and a place, and touches nothing.

-- a writer that refuses reports no octets written, and leaves its buffer as it was
pub refused_writer_touches_nothing : (lay : ℕ → ℕ → Layout) (st : St) (g : Given) (out : List ℕ) (r : Written) (held : List ℕ) → Writes lay st g out r held
    → (written.fault r ≡ 0 → ⊥) → (written.count r ≡ 0) × (held ≡ out)
refused_writer_touches_nothing lay st g out r held w h = room.refused_nothing (record_refusal lay st g) 0 (octets g) out r held (w.0, w.1) h

module _ (longest : ℕ) where
  -- so does a cut
  pub refused_cut_touches_nothing : (from to : ℕ) (mutes d out : List ℕ) (r : Written) (held : List ℕ) → Cuts longest from to mutes d out r held
      → (written.fault r ≡ 0 → ⊥) → (written.count r ≡ 0) × (held ≡ out)
  refused_cut_touches_nothing from to mutes d out r held c h = Answers_of.refused_nothing longest from to mutes d out r held c h

  -- no octets are no record, and no fault
  pub nothing_is_no_fault : (t : Table) → read_one longest t [] ≡ Nothing
  nothing_is_no_fault t = accepts.no_octets longest t

  -- what reading one record and what a step answers has the number and the place that the page of layouts gives
  pub record_has_number_and_place : (t : Table) (s : List ℕ) → Octets s → Reads longest t s (read_one longest t s)
  record_has_number_and_place t s o = numbers.reads longest t s o

  pub step_has_number_and_place : (t : Table) (d : List ℕ) (at : ℕ) → Octets d → Steps longest t d at (step_at longest t d at)
  step_has_number_and_place t d at o = steps.steps longest t d at o

  -- reading one record refuses it with the number and the octet that the page of layouts gives, or shows its very fields
  pub fault_has_number_and_place : (t : Table) (st : St) → Tells t st → (s : List ℕ) → Octets s → 0 < length s → Agrees longest s (read_rec (layout longest) st 0 s) (read_one longest t s)
  fault_has_number_and_place t st told s o some = one.one_record longest t st told s o some

  -- the place of a fault is the first octet of the field that failed. Whole records stand before the faulty one, and of its octets those before
  -- the place are fields that pass; the field that starts there is the one that the table of places names for the number; and there it fails
  pub fault_is_at_its_field : (d : List ℕ) → Octets d → let w = walked longest d in (w.fault ≡ 0 → ⊥) → FaultyDump longest d w.fault w.place w.start
  unfolding walked
  fault_is_at_its_field d o h = dump_places.faulty_dump longest d o h

  -- and a dump that is so has that fault, at that place: no other is said of the same octets
  pub faulty_dump_is_answered : (d : List ℕ) → Octets d → (n p start : ℕ) (h : FaultyDump longest d n p start)
      → walked longest d ≡ record { fault = n; place = p; start = start; records = length h.recs }
  faulty_dump_is_answered d o n p start h = dumps.faulty-answer longest d o n p start h

  -- the same of one record, by its own octets
  pub record_fault_exactly : (st : St) (s : List ℕ) → Octets s → 0 < length s → (n p : ℕ) → Faulty longest st s n p ↔ (read_rec (layout longest) st 0 s ≡ bad n p)
  record_fault_exactly st s o some n p = record_places.faulty_exactly longest st s o some n p

  -- a reader that is told the table in force refuses the faulty record with the same number, at the dump's place less the offset where the
  -- record starts
  pub reader_has_the_place_less_the_offset : (d : List ℕ) → Octets d → (n p start : ℕ) (h : FaultyDump longest d n p start) (t : Table) → Tells t (nexts (layout longest) h.recs no_table)
      → read_one longest t (drop start d) ≡ refused n (p - start)
  reader_has_the_place_less_the_offset d o n p start h t told = dump_places.shown_alone longest d n p start h o t told

  -- the place is in the dump, and in the faulty record or where it ends
  pub place_is_in_the_record : (d : List ℕ) (n p start : ℕ) (h : FaultyDump longest d n p start)
      → (start ≤ p) × (p ≤ length d) × (start + record_end h.rest ≤ length d → p ≤ start + record_end h.rest)
  place_is_in_the_record d n p start h = dump_places.place_in_dump longest d n p start h

  -- what stands before the faulty record is a dump that is accepted
  pub accepted_before_the_fault : (d : List ℕ) → Octets d → (n p start : ℕ) → FaultyDump longest d n p start → (walked longest (take start d)).fault ≡ 0
  accepted_before_the_fault d o n p start h = dumps.accepted_before longest d o n p start h

module _ (before : ℕ) (f : Fmt) (m : List ℕ) (p : ℕ) where
  -- 5: a field starts at the place, and the octets end before it is complete; or it is a BGP length, 2 fields before the message's rest, which is not
  pub five_lacks_octets : (h : Failed before f m 5 p) → ((h.there ≡ []) × Lacks (behind_fields f h.before) h.rest)
      ⊎ ((name_of (behind_fields f (h.before ++ h.there)) ≡ bgp_rest) × (length h.there ≡ 2))
  five_lacks_octets h = about_places.incomplete before f m p h

  -- 6: all fields end at the place, and octets are left; or it is a BGP length, 3 fields before what is left
  pub six_leaves_octets : (h : Failed before f m 6 p) → ((h.there ≡ []) × NoFieldLeft (behind_fields f h.before) × (0 < length h.rest))
      ⊎ ((latest_of before f (h.before ++ h.there) ≡ bgp_rest) × (length h.there ≡ 3))
  six_leaves_octets h = about_places.left_over before f m p h

-- ==== Demand 2. A dump is accepted exactly when it splits into whole records, and the records are what the bytes say.

-- a view name is text in UTF-8: the check passes exactly the octets that spell scalar values,
pub text_passes_exactly : (bs : List ℕ) → (is_text bs ≡ true) ↔ Text bs
text_passes_exactly bs = (text.spelled bs, text.passes bs)

-- which are exactly those that RFC 3629's grammar parses,
pub parsed_passes_exactly : (bs : List ℕ) → (is_text bs ≡ true) ↔ Parsed bs
parsed_passes_exactly bs = (grammar.passes_parsed bs, grammar.parsed_passes bs)

-- and octets spell one list of values at most
pub text_spells_one_list : (bs us vs : List ℕ) → Spelled bs us → Spelled bs vs → us ≡ vs
text_spells_one_list bs us vs a b = values.unique bs us vs a b

module _ (longest : ℕ) where
  -- every RIB record with a table before it, its entries naming peers of the latest: `Splits`, record by record `Valid`
  pub accepted_exactly : (d : List ℕ) → Octets d → ((walked longest d).fault ≡ 0) ↔ Splits (layout longest) d
  accepted_exactly d o = dumps.accepts_dump longest d o

  -- then the answer is the dump's length and how many records it has,
  pub accepted-answer : (d : List ℕ) (s : Splits (layout longest) d) → walked longest d ≡ record { fault = 0; place = length d; start = length d; records = length s.0 }
  accepted-answer d s = dumps.shows_dump longest d s

  -- and they are the only ones
  pub splits_in_one_way : (d : List ℕ) (s u : Splits (layout longest) d) → s.0 ≡ u.0
  splits_in_one_way d s u = dumps.one_split longest d s u

  -- the first faulty record decides: behind an accepted dump the walk goes on where it ends, with the table that it leaves in force
  pub first_fault_decides : (a b : List ℕ) → Octets a → Octets b → (s : Splits (layout longest) a)
      → let w = walk_from (layout longest) (nexts (layout longest) s.0 no_table) (length a) b in
      walked longest (a ++ b) ≡ record { fault = w.fault; place = w.place; start = length a + length (writes w.recs); records = length s.0 + length w.recs }
  first_fault_decides a b p q s = dumps.past_accepted longest a b p q s

  -- one record alone: no fault exactly where a well-formed one starts the octets
  pub record_accepted_exactly : (t : Table) (st : St) → Tells t st → (s : List ℕ) → Octets s → 0 < length s
      → (fault (read_one longest t s) ≡ 0) ↔ ((r : Rec) × (q : List ℕ) × Valid (layout longest) st r × (write r ++ q ≡ s))
  record_accepted_exactly t st told s o some = accepts.accepts_one longest t st told s o some

  -- each field shown is the one in the bytes: header, time, kind and every field of the record that the octets start with
  pub fields_are_those_of_the_record : (t : Table) (st : St) → Tells t st → (s : List ℕ) → Octets s → (r : Rec) (q : List ℕ) → read_rec (layout longest) st 0 s ≡ good r q → Same longest s r (read_one longest t s)
  fields_are_those_of_the_record t st told s o r q e = items.read_same longest t st told s o r q e (read_one longest t s) refl

  -- a view name that is shown is text;
  pub shown_name_is_text : (t : Table) (s : List ℕ) → Octets s → (h : Header) (p : Peers) → read_one longest t s ≡ Good h (PeerTable p) → Text (within s p.name)
  shown_name_is_text t s o h p e = names.shown_name_is_text longest t s o h p e

  -- 17 says that a whole name is there that is not, and nothing else;
  pub seventeen_exactly : (t : Table) (s : List ℕ) → Octets s → (fault (read_one longest t s) ≡ 17) ↔ (Named s × (Text (name_in s) → ⊥))
  seventeen_exactly t s o = names.seventeen_exactly longest t s o

  -- and a name that its message cuts short is 5, whatever is there of it
  pub short_name_is_five : (t : Table) (s : List ℕ) → Octets s → WholeTable s → num_at s 8 4 < 6 + num_at s 16 2 → fault (read_one longest t s) ≡ 5
  short_name_is_five t s o w h = names.short_name_is_five longest t s o w h

  -- writing what was read restores the bytes
  module _ (t : Table) (st : St) (told : Tells t st) (s : List ℕ) (o : Octets s) (some : 0 < length s) (good : fault (read_one longest t s) ≡ 0) where
    abbrev x : Shown
    x = read_one longest t s

    pub written_back : (other : Chosen) (out : List ℕ) → place x ≤ length out
        → (writer_answer (only (writer_of x) other longest) st (again s x) out ≡ answer.Octets (place x)) × (writer_leaves (only (writer_of x) other longest) st (again s x) out ≡ take (place x) s ++ drop (place x) out)
    written_back other out h = let b = restores.writes_back longest t st told s o some good other out h in (b.answer, b.left)

  -- reading what a writer did not refuse shows its kind and the fields given; each of the seven writers, by its own parameters and its
  -- own promise, in record_laws/proofs/ReadBack, where the reader of a record that asks for no table may be told any
  pub read_back : (t : Table) (st : St) → Tells t st → (n a p : ℕ) (g : Given) → Fair n g → (out held : List ℕ) (k : ℕ) → Octets out
      → Writes (only n (refused (suc a) p) longest) st g out (answer.Octets k) held
      → let y = read_one longest t held in (fault y ≡ 0) × (place y ≡ k) × (writer_of y ≡ n) × (again held y ≡ g)
  read_back t st told n a p g fair out held k o w = let b = writing.read_back longest t st told n a p g fair st (λ e. e) out held k o w in (b.accepted, b.ends, b.whose, b.given)

  -- a writer's number is the reader's: what reading would answer for the record's octets, and 15 only where that is 0; its place is 0. The
  -- record is the writer's own, or one that both refuse by its Type or Subtype, and every value has its place. Each of the seven writers, by
  -- its own parameters and its own promise, in record_laws/proofs/AsReader; what `Placed` asks of them in record_laws/proofs/Placed
  pub refuses_as_read : (t : Table) (n : ℕ) (other : Chosen) (g : Given) → Own n other g → Placed (layout longest) (state_of t) g → (out held : List ℕ) (r : Written)
      → Writes (only n other longest) (state_of t) g out r held → (written.fault r ≡ number_for (number_at longest t (octets g)) (octets g) out) × (written.place r ≡ 0)
  refuses_as_read t n other g own h out held r w =
      (as_reader.told_as_read longest t out held r n other g own h w, as_reader.writer-place (only n other longest) (state_of t) g out held r w)

  -- the peers of a table and the entries of a RIB record: going `count` times from the first, each time to where the one shown ends, meets
  -- the record's own items, each with its fields, and ends where the record ends
  module _ (s : List ℕ) (o : Octets s) (r : Rec) (q : List ℕ) (h : Header) where
    pub peers_are_met : (t : Table) (st : St) → Tells t st → read_rec (layout longest) st 0 s ≡ good r q → (p : Peers) → read_one longest t s ≡ Good h (PeerTable p)
        → Meets s (peer_at s) peer_end peer_of p.count p.peers.at (end h) (items_of r.body)
    peers_are_met t st told e p z = items.peers_met longest t st told s o r q e h p z

    pub entries_are_met : (n : ℕ) (st : St) → Tells (Holds n) st → read_rec (layout longest) st 0 s ≡ good r q → (x : Routes) → read_one longest (Holds n) s ≡ Good h (Rib x)
        → Meets s (λ a. entry_at s a n) entry_end entry_of x.count x.entries.at (end h) (items_of r.body)
    entries_are_met n st told e x z = items.entries_met longest n st told s o r q e h x z

    pub generic_entries_are_met : (n : ℕ) (st : St) → Tells (Holds n) st → read_rec (layout longest) st 0 s ≡ good r q → (f : Scope) (x : Routes) → read_one longest (Holds n) s ≡ Good h (RibGeneric f x)
        → Meets s (λ a. entry_at s a n) entry_end entry_of x.count x.entries.at (end h) (items_of r.body)
    generic_entries_are_met n st told e f x z = items.generic_entries_met longest n st told s o r q e h f x z

  -- the same by the calls from C, at offsets of a whole dump; an entry's index and attributes, which its call does not judge, are good
  module _ (table : ℕ) (d : List ℕ) (o : Octets d) (at : ℕ) where
    abbrev a : RecordAnswer
    a = answer_at longest table d at

    abbrev Read : Rec → Type 0
    Read r = (q : List ℕ) × (read_rec (layout longest) (state_of (table_by_count table)) 0 (drop at d) ≡ good r q)

    pub calls_meet_peers : a.fault ≡ 0 → at < length d → a.ty ≡ 13 → a.subtype ≡ 1
        → (r : Rec) × Read r × Meets d (peer_at d) peer_end peer_of a.count (at + a.items) a.place (items_of r.body)
    calls_meet_peers e more y u = calls.table-met longest table d o at e more y u

    pub calls_meet_entries : a.fault ≡ 0 → at < length d → a.ty ≡ 13 → (a.subtype ≡ 1 → ⊥)
        → (r : Rec) × Read r × AllFits (entry table) (items_of r.body) × Meets d (unjudged_at d) entry_end entry_of a.count (at + a.items) a.place (items_of r.body)
    calls_meet_entries e more y u = calls.rib-met longest table d o at e more y u

  -- nothing that is met so is a fault
  module _ (m : List ℕ) (n at stop : ℕ) (its : List (List (List ℕ))) where
    pub met_peers_are_good : (one : ℕ → Result Peer Fault) → Meets m one peer_end peer_of n at stop its → Each (λ p. peer_fault p ≡ 0) (met one peer_end n at)
    met_peers_are_good one w = item.no_peer_fault m n at stop its one w

    pub met_entries_are_good : (one : ℕ → Result Entry Fault) → Meets m one entry_end entry_of n at stop its → Each (λ e. entry_fault e ≡ 0) (met one entry_end n at)
    met_entries_are_good one w = item.no_entry_fault m n at stop its one w

  -- what the program prints of an accepted dump of at most 65,536 octets: a line for each record, then no fault and the dump's length
  pub accepted-listing : (d : List ℕ) → length d ≤ 65536 → (s : Splits (layout longest) d) → listing longest d ≡ lines longest 0 s.0 ++ fault_line 0 (length d)
  accepted-listing d h s = texts.all_accepted longest d h s

  -- ==== Demand 3. A cut takes a window and a list of AS numbers; what it leaves is `left_of`, the dump that document 01 defines.

  -- for every accepted dump and a buffer at least as long: that dump is written, it is accepted, and it is never longer
  pub cut_leaves_what_is_defined : (from to : ℕ) (mutes d out : List ℕ) → Octets d → (walked longest d).fault ≡ 0 → from ≤ to → length d ≤ length out
      → let left = left_of longest from to mutes d in
      (cut_answer longest from to mutes d out ≡ answer.Octets (length left)) × (take (length left) (cut_leaves longest from to mutes d out) ≡ left)
      × (drop (length left) (cut_leaves longest from to mutes d out) ≡ drop (length left) out) × ((walked longest left).fault ≡ 0) × (length left ≤ length d)
  cut_leaves_what_is_defined from to mutes d out o e w h = let c = cuts.cuts longest from to mutes d out o e w h in (c.answer, c.written, c.rest, c.accepted, c.less)

  -- cutting again is one cut with the windows' overlap and the lists joined
  pub cut_again : (f t g u : ℕ) (ms ks d out : List ℕ) → Octets d → (walked longest d).fault ≡ 0 → g ≤ u
      → let from = max f g in
      let to = max from (min t u) in
      (left_of longest g u ks (left_of longest f t ms d) ≡ left_of longest from to (ms ++ ks) d)
      × (cut_answer longest g u ks (left_of longest f t ms d) out ≡ cut_answer longest from to (ms ++ ks) d out)
      × (cut_leaves longest g u ks (left_of longest f t ms d) out ≡ cut_leaves longest from to (ms ++ ks) d out)
  cut_again f t g u ms ks d out o e w = let a = cuts.again longest f t g u ms ks d out o e w in (a.bytes, a.answer, a.left)

  -- where the windows do not overlap, any empty window stands for the overlap
  pub cut_again_apart : (f t g u : ℕ) (ms ks d out : List ℕ) → Octets d → (walked longest d).fault ≡ 0 → g ≤ u → min t u ≤ max f g → (e : ℕ)
      → (left_of longest g u ks (left_of longest f t ms d) ≡ left_of longest e e (ms ++ ks) d)
      × (cut_answer longest g u ks (left_of longest f t ms d) out ≡ cut_answer longest e e (ms ++ ks) d out)
      × (cut_leaves longest g u ks (left_of longest f t ms d) out ≡ cut_leaves longest e e (ms ++ ks) d out)
  cut_again_apart f t g u ms ks d out o a w apart e = let c = orders.again_apart longest d out f t g u ms ks o a w apart e in (c.bytes, c.answer, c.left)

  -- order and repeats of the list mean nothing: only who is on it counts
  pub same_members_same_cut : (from to : ℕ) (ms ks d out : List ℕ) → ((n : ℕ) → mem n ms ≡ mem n ks)
      → (left_of longest from to ms d ≡ left_of longest from to ks d) × (cut_answer longest from to ms d out ≡ cut_answer longest from to ks d out) × (cut_leaves longest from to ms d out ≡ cut_leaves longest from to ks d out)
  same_members_same_cut from to ms ks d out h = let c = orders.same_members longest d out from to ms ks h in (c.bytes, c.answer, c.left)

  -- the cut of two dumps laid end to end is the two cuts laid end to end, in the buffer too
  pub cut_of_both : (from to : ℕ) (mutes a b out : List ℕ) → Octets a → Octets b → (walked longest a).fault ≡ 0 → (walked longest b).fault ≡ 0 → from ≤ to → length (a ++ b) ≤ length out
      → let first = left_of longest from to mutes a in
      let second = left_of longest from to mutes b in
      let held = cut_leaves longest from to mutes (a ++ b) out in
      (left_of longest from to mutes (a ++ b) ≡ first ++ second) × (cut_answer longest from to mutes (a ++ b) out ≡ answer.Octets (length first + length second))
      × (take (length first) held ≡ first) × (take (length second) (drop (length first) held) ≡ second)
  cut_of_both from to mutes a b out p q e f w h = let c = cuts.both longest from to mutes a b out p q e f w h in (c.bytes, c.answer, c.first, c.second)

  -- ==== The report. Each dump is counted alone, then added to a report of 39 numbers.

  -- what is counted of a record is what reading shows of it: the states of a state change, the sequence of type 12
  pub counted_as_shown : (s : List ℕ) (st : St) (r : Rec) (x : Shown) → Valid (layout longest) st r → Same longest s r x → notice longest r ≡ notice_of x
  counted_as_shown s st r x v h = shown.notice-shown longest s st r x v h

  -- a dump's own 39 numbers: its records, state changes and breaks, and how often each old state went to each new one
  pub own_report_counts : (d : List ℕ) (s : Splits (layout longest) d)
      → let ns = map (notice longest) s.0 in
      (take 3 (report_of longest d) ≡ length s.0 ∷ changes ns ∷ breaks_behind Absent ns ∷ [])
      × ((old new : ℕ) → InStates (Change old new) → get_or (report_of longest d) (3 + 6 * (old - 1) + (new - 1)) 0 ≡ times old new ns)
  own_report_counts d s = adding.report_counts longest d s

  -- no fault exactly where the dump splits into whole records and no sum passes 64 bits;
  pub added_exactly : (report d : List ℕ) → Octets d → ((report_answer longest report d).fault ≡ 0) ↔ (Splits (layout longest) d × (fit (sums report (report_of longest d)) ≡ true))
  added_exactly report d o = adding.no_fault longest report d o

  -- then its own report is added;
  pub added-answer : (report d : List ℕ) → Splits (layout longest) d → fit (sums report (report_of longest d)) ≡ true
      → (report_answer longest report d ≡ record { fault = 0; place = length d }) × (report_leaves longest report d ≡ sums report (report_of longest d))
  added-answer report d s f = adding.added longest report d s f

  -- the dump's own fault comes first, with its place; a sum that passes 64 bits is 16 at 0; with either the report is as it was
  pub faulty_dump_adds_nothing : (report d : List ℕ) → ((walked longest d).fault ≡ 0 → ⊥)
      → (report_answer longest report d ≡ record { fault = (walked longest d).fault; place = (walked longest d).place }) × (report_leaves longest report d ≡ report)
  unfolding walked
  faulty_dump_adds_nothing report d h = adding.refused longest report d h

  pub sum_past_64_bits_adds_nothing : (report d : List ℕ) → Splits (layout longest) d → fit (sums report (report_of longest d)) ≡ false
      → (report_answer longest report d ≡ record { fault = 16; place = 0 }) × (report_leaves longest report d ≡ report)
  sum_past_64_bits_adds_nothing report d s f = adding.passed longest report d s f

  -- 16 says that and nothing else
  pub sixteen_exactly : (report d : List ℕ) → Octets d → ((report_answer longest report d).fault ≡ 16) ↔ (Splits (layout longest) d × (fit (sums report (report_of longest d)) ≡ false))
  sixteen_exactly report d o = adding.sixteen longest report d o

  -- from an empty report on the 36 cells sum to the state changes, behind any dumps, refused ones among them
  pub cells_sum_to_changes : (ds : List (List ℕ)) → AllOctets ds → Balanced (reports_leave longest empty ds)
  cells_sum_to_changes ds o = balances.always_balanced longest ds o

  -- two accepted dumps laid end to end have the sum of their reports, but for a break at the seam,
  pub report_of_both : (a b : List ℕ) → Splits (layout longest) a → Splits (layout longest) b
      → report_of longest (a ++ b) ≡ sums (sums (report_of longest a) (report_of longest b)) (breaks_alone (seam_of longest a b))
  report_of_both a b s u = ends.report_ends longest a b s u

  -- and so added as one they leave what they leave one after the other, and the seam
  pub added_as_one : (a b : List ℕ) → Splits (layout longest) a → Splits (layout longest) b → (report : List ℕ) → length report ≡ 39 → fit (sums report (report_of longest (a ++ b))) ≡ true
      → report_leaves longest report (a ++ b) ≡ sums (report_leaves longest (report_leaves longest report a) b) (breaks_alone (seam_of longest a b))
  added_as_one a b s u report l f = ends.leaves_ends longest a b s u report l f

  -- dumps added one by one leave the sum of the report and of those that are accepted, where that sum is of 64 bits
  pub added_in_turn : (report : List ℕ) (ds : List (List ℕ)) → AllOctets ds → length report ≡ 39 → fit (together longest report ds) ≡ true
      → (reports_leave longest report ds ≡ together longest report ds) × NonePasses longest report ds
  added_in_turn report ds o l f = order.in_turn longest report ds o l f

  -- the order of the dumps means nothing: where no call answers 16 in one order, none does in another, and both leave the same
  pub any_order_same_report : (report : List ℕ) (ds es : List (List ℕ)) → AllOctets ds → AllOctets es → length report ≡ 39 → fit report ≡ true → Perm ds es
      → NonePasses longest report ds → NonePasses longest report es × (reports_leave longest report es ≡ reports_leave longest report ds)
  any_order_same_report report ds es o p l f q n = order.order_means_nothing longest report ds es o p l f q n

  -- ==== No second answer: whatever two calls with the same input answer by their promises, and leave in a lent buffer, is the same.

  pub one_reading : (t : Table) (s : List ℕ) (x y : Shown) → Reads longest t s x → Reads longest t s y → x ≡ y
  one_reading t s x y a b = a.0 ∙ sym b.0

  pub one_step : (t : Table) (d : List ℕ) (at : ℕ) (x y : Step) → Steps longest t d at x → Steps longest t d at y → x ≡ y
  one_step t d at x y a b = a.0 ∙ sym b.0

  pub one_cut : (from to : ℕ) (mutes d out : List ℕ) (r q : Written) (xs ys : List ℕ) → Cuts longest from to mutes d out r xs → Cuts longest from to mutes d out q ys → (r ≡ q) × (xs ≡ ys)
  one_cut from to mutes d out r q xs ys a b = (a.0 ∙ sym b.0, a.1 ∙ sym b.1)

  pub one_writing : (lay : ℕ → ℕ → Layout) (st : St) (g : Given) (out : List ℕ) (r q : Written) (xs ys : List ℕ) → Writes lay st g out r xs → Writes lay st g out q ys → (r ≡ q) × (xs ≡ ys)
  one_writing lay st g out r q xs ys a b = (a.0 ∙ sym b.0, a.1 ∙ sym b.1)

  pub one_adding : (report d : List ℕ) (r q : Added) (xs ys : List ℕ) → Adds longest report d r xs → Adds longest report d q ys → (r ≡ q) × (xs ≡ ys)
  one_adding report d r q xs ys a b = (a.0 ∙ sym b.0, a.1 ∙ sym b.1)
