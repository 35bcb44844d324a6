-- Writing back what reading one record showed restores its octets.
use mathlib.Core.Path.{◌≡◌, sym, ap, ◌∙◌}
use mathlib.Core.List.{List, ◌++◌}
use Prim.Native.Nat.{ℕ, ◌+◌, ◌≤◌, ◌<◌}
use native.Mathlib.Omega.{arith}
use lib.ListN.{length, take, drop, length-append}
use lib.Seq.{take_at, length-take-le}
use Rattle.form_spec.specs.Octets.{Octets}
use Rattle.form_spec.specs.Fmt.{Out, bad, good}
use Rattle.form_spec.specs.Shape.{St, no_table}
use Rattle.form_spec.specs.Record.{Rec, write, read_rec, Valid}
use Rattle.form_spec.specs.Put.{octets, record_refusal}
use Rattle.form_laws.proofs.Fmt.{Right}
use Rattle.form_laws.proofs.Record.{length-write, sound_rec}
use Rattle.form_laws.proofs.Given.{restores}
use Rattle.page_spec.specs.Layout.{layout, kind}
use Rattle.page_spec.specs.Chosen.{Chosen}
use Rattle.record_spec.specs.Shown.{Shown}
use Rattle.record_spec.specs.Table.{Table}
use Rattle.record_spec.specs.Answer.{fault, place}
use Rattle.record_spec.specs.One.{read_one}
use Rattle.write_spec.specs.Only.{ribs, generic_ribs, writer, only}
use Rattle.room_spec.specs.Written as room
use Rattle.room_laws.proofs.Room.{fits}
use Rattle.write_spec.specs.Verdict.{writer_answer, writer_leaves}
use Rattle.record_spec.specs.Tells.{Tells}
use Rattle.record_spec.specs.Again.{again}
use Rattle.record_spec.specs.Agrees.{writer_of, Agrees}
use Rattle.record_laws.proofs.One.{one_record}
use Rattle.record_laws.proofs.Only.{only_own, refusal_own, refusal_free}

-- a record that was read goes back as it was
pub record Restored (longest : ℕ) (st : St) (s : List ℕ) (x : Shown) : Type 0 where
  pub refused : record_refusal (layout longest) st (again s x) ≡ 0
  pub bytes : octets (again s x) ≡ take (place x) s
  pub inside : place x ≤ length s
  pub whose : writer_of x ≡ writer (kind (again s x).type (again s x).sub)

restored : (longest : ℕ) (st : St) (s : List ℕ) (o : Out Rec) → Right (Valid (layout longest) st) write s o → (x : Shown) → Agrees longest s o x → fault x ≡ 0 → Restored longest st s x
restored longest st s (bad n p) r x a e = absurd (r (ap fault (sym a) ∙ e))
restored longest st s (good b q) r x a e =
    let z = restores (layout longest) st (again s x) b r.0 a.gives in
    let l : length (write b) ≡ place x = length-write b ∙ sym a.ends in
    let n : length (write b) + length q ≡ length s = sym (length-append (write b) q) ∙ ap length r.1 in
    record {
      refused = z.0;
      bytes = z.1 ∙ sym (take_at (write b) q (place x) l) ∙ ap (take (place x)) r.1;
      inside = omega arith;
      whose = rw (a.gives.type, a.gives.sub) a.whose;
    }

module _ (longest : ℕ) (t : Table) (st : St) (tells : Tells t st) (s : List ℕ) (oc : Octets s) (some : 0 < length s) (sound : fault (read_one longest t s) ≡ 0) where
  abbrev x : Shown
  x = read_one longest t s

  pub restores_bytes : Restored longest st s x
  restores_bytes = restored longest st s (read_rec (layout longest) st 0 s) (sound_rec (layout longest) st 0 s oc) x (one_record longest t st tells s oc some) sound

  -- so does its writer, into a buffer that has the room
  pub record Back (other : Chosen) (su : St) (out : List ℕ) : Type 0 where
    pub answer : writer_answer (only (writer_of x) other longest) su (again s x) out ≡ room.Octets (place x)
    pub left : writer_leaves (only (writer_of x) other longest) su (again s x) out ≡ take (place x) s ++ drop (place x) out

  back : (su : St) → record_refusal (layout longest) su (again s x) ≡ 0 → (other : Chosen) (out : List ℕ) → place x ≤ length out → Back other su out
  back su e other out h =
      let z : only (writer_of x) other longest (again s x).type (again s x).sub ≡ layout longest (again s x).type (again s x).sub =
      only_own (writer_of x) other longest (again s x).type (again s x).sub restores_bytes.whose in
      let d : record_refusal (only (writer_of x) other longest) su (again s x) ≡ 0 = refusal_own (only (writer_of x) other longest) (layout longest) su (again s x) z ∙ e in
      let l : length (take (place x) s) ≡ place x = length-take-le (place x) s restores_bytes.inside in
      let k : length (octets (again s x)) ≡ place x = ap length restores_bytes.bytes ∙ l in
      let z = fits (record_refusal (only (writer_of x) other longest) su (again s x)) 0 (octets (again s x)) out d (omega arith) in
      record { answer = sym z.0 ∙ ap room.Octets k; left = sym z.1 ∙ rw (k, restores_bytes.bytes) }

  pub writes_back : (other : Chosen) (out : List ℕ) → place x ≤ length out → Back other st out
  writes_back other out h = back st restores_bytes.refused other out h

  -- no table is needed but for a RIB record
  pub writes_back_free : (writer_of x ≡ ribs → ⊥) → (writer_of x ≡ generic_ribs → ⊥) → (other : Chosen) (out : List ℕ) → place x ≤ length out → Back other no_table out
  writes_back_free r i other out h =
      let e = restores_bytes.whose in
      back no_table (sym (refusal_free longest st (again s x) (λ d. r (e ∙ d)) (λ d. i (e ∙ d))) ∙ restores_bytes.refused) other out h
