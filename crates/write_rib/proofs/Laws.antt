-- The table that is told, and RIB messages as the writers lay them.
use mathlib.Core.Path.{◌≡◌, ap, ◌∙◌}
use mathlib.Core.List.{List, [], ◌∷◌, ◌++◌, append_assoc, append-nil}
use Prim.Native.Nat.{ℕ, ◌+◌, ◌≤◌}
use native.Mathlib.Omega.{arith}
use lib.ListN.{length, length-append, length-replicate}
use Rattle.form_spec.specs.Octets.{to_be}
use Rattle.form_spec.specs.Fmt.{Fmt, join}
use Rattle.form_spec.specs.Body.{many}
use Rattle.form_spec.specs.Put.{Value, digits, bytes, Tail, items, Given, lay, tailed, refusal, items_refusal, body_refusal, message}
use Rattle.form_spec.specs.Shape.{entries, plan}
use Rattle.form_laws.proofs.Octets.{length-to_be}
use Rattle.octets_spec.specs.Over.{over}
use Rattle.octets_laws.proofs.Over.{more}
use Rattle.page_spec.specs.Rib.{entry_rest, entry}
use Rattle.record_spec.specs.Table.{state_of, Table, Absent, Holds}
use Rattle.write_spec.specs.Givens.{rib_given, rib_generic_given}
use Rattle.write_laws.proofs.Laid.{none, number, octets}
use Rattle.write_laws.proofs.Turns.{front_err, front_ok}
use Rattle.write_spec.specs.Judged.{judged}
use Rattle.form_spec.specs.Refusal.{refused}
use Rattle.form_spec.specs.declared.Fault.{Fault}
use Rattle.std.specs.Prelude.{Result, Ok, Err, ⊤}

-- ---- the table that is told

pub no_table : (told : Table) (f g : Fmt) (vs : List Value) (t : Tail) → told ≡ Absent → 12 ≡ body_refusal (plan (state_of told) (entries f g)) vs t
unfolding plan body_refusal refusal
no_table told f g vs t e = rw e

held : (told : Table) (peers : ℕ) (f : Fmt) → told ≡ Holds peers → plan (state_of told) (entries f entry_rest) ≡ many f (entry peers)
unfolding plan entry
held told peers f e = rw (e, length-replicate {A = ℕ} peers 0)

-- the fields before the count, then the entries; y is an answer without a place
module _ (told : Table) (peers : ℕ) (f : Fmt) (vs : List Value) (t : Tail) (y : Result ⊤ Fault) (known : told ≡ Holds peers) where
  pub held_err : (why : Fault) → Err why ≡ judged (refusal f vs) → y ≡ refused why.number 0 → y ≡ judged (body_refusal (plan (state_of told) (entries f entry_rest)) vs t)
  held_err why e h = rw (held told peers f known) (front_err f (entry peers) vs t y why e h)

  pub held_ok : (u : ⊤) → Ok u ≡ judged (refusal f vs) → y ≡ judged (items_refusal (entry peers) t) → y ≡ judged (body_refusal (plan (state_of told) (entries f entry_rest)) vs t)
  held_ok u e h = rw (held told peers f known) (front_ok f (entry peers) vs t y u e h)

-- ---- the messages

-- the prefix, the count and the entries
abbrev routes : (bits : ℕ) (prefix : List ℕ) (count : ℕ) (raw : List ℕ) → List ℕ
routes bits prefix count raw = join (lay (digits 1 bits ∷ bytes prefix ∷ [])) ++ tailed (items count raw)

routes_length : (bits : ℕ) (prefix : List ℕ) (count : ℕ) (raw : List ℕ) → length (routes bits prefix count raw) ≡ 3 + (length prefix + length raw)
routes_length bits prefix count raw = simp (length-append, length-to_be) (omega arith)

module _ (t y sequence bits : ℕ) (prefix : List ℕ) (count : ℕ) (raw : List ℕ) where
  abbrev given : Given
  given = rib_given t y sequence bits prefix count raw

  pub rib-length : length prefix + length raw + 7 ≡ length (message given)
  rib-length = simp (length-append, length-to_be) (omega arith)

  pub rib-laid : (l l1 l2 : List ℕ) → l1 ≡ over l 12 (to_be 4 sequence) → l2 ≡ over l1 16 (routes bits prefix count raw) → 12 + length (message given) ≤ length l → l2 ≡ over l 12 (message given)
  rib-laid l l1 l2 e1 e2 h =
      let d = rib-length in
      let k = routes_length bits prefix count raw in
      more l (to_be 4 sequence) (routes bits prefix count raw) l1 l2 12 16 e1 e2 (simp length-to_be) (rw length-to_be (omega arith)) ∙ ap (over l 12) (simp (append_assoc, append-nil))

module _ (t sequence family safi bits : ℕ) (prefix : List ℕ) (count : ℕ) (raw : List ℕ) where
  abbrev generic : Given
  generic = rib_generic_given t sequence family safi bits prefix count raw

  pub generic_length : length prefix + length raw + 10 ≡ length (message generic)
  generic_length = simp (length-append, length-to_be) (omega arith)

  pub generic_laid : (l l1 l2 l3 l4 : List ℕ) → l1 ≡ over l 12 (to_be 4 sequence) → l2 ≡ over l1 16 (to_be 2 family) → l3 ≡ over l2 18 (to_be 1 safi)
      → l4 ≡ over l3 19 (routes bits prefix count raw) → 12 + length (message generic) ≤ length l → l4 ≡ over l 12 (message generic)
  generic_laid l l1 l2 l3 l4 e1 e2 e3 e4 h =
      let d = generic_length in
      let k = routes_length bits prefix count raw in
      let x1 = number (none l 12 (omega arith)) 4 sequence e1 (omega arith) (omega arith) in
      let x2 = number x1 2 family e2 (omega arith) (omega arith) in
      let x3 = number x2 1 safi e3 (omega arith) (omega arith) in
      let x4 = octets x3 (routes bits prefix count raw) e4 (omega arith) (omega arith) in
      x4.is ∙ ap (over l 12) (simp (append_assoc, append-nil))
