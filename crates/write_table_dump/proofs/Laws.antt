-- The message as the writer lays it.
use mathlib.Core.Path.{◌≡◌, ap, ◌∙◌}
use mathlib.Core.List.{List, [], ◌∷◌, append_assoc, append-nil}
use Prim.Native.Nat.{ℕ, ◌+◌, ◌≤◌}
use native.Mathlib.Omega.{arith}
use lib.ListN.{length, length-append}
use Rattle.form_spec.specs.Fmt.{join}
use Rattle.form_spec.specs.Put.{digits, bytes, Given, lay, message}
use Rattle.form_laws.proofs.Octets.{length-to_be}
use Rattle.octets_spec.specs.Over.{over}
use Rattle.octets_laws.proofs.Over.{more}
use Rattle.write_spec.specs.Givens.{table_dump_given}

module _ (t y view sequence : ℕ) (prefix : List ℕ) (bits status originated : ℕ) (address : List ℕ) (peer : ℕ) (attributes : List ℕ) where
  abbrev given : Given
  given = table_dump_given t y view sequence prefix bits status originated address peer attributes

  abbrev front : List ℕ
  front = join (lay (digits 2 view ∷ digits 2 sequence ∷ bytes prefix ∷ digits 1 bits ∷ []))

  abbrev rest : List ℕ
  rest = join (lay (digits 1 status ∷ digits 4 originated ∷ bytes address ∷ digits 2 peer ∷ digits 2 (length attributes) ∷ bytes attributes ∷ []))

  pub dump_length : length prefix + length address + length attributes + 14 ≡ length (message given)
  dump_length = simp (length-append, length-to_be) (omega arith)

  pub dump_laid : (l m b : List ℕ) (at : ℕ) → at ≡ 17 + length prefix → m ≡ over l 12 front → b ≡ over m at rest → 12 + length (message given) ≤ length l → b ≡ over l 12 (message given)
  dump_laid l m b at e f r h =
      let n : length front ≡ 5 + length prefix = simp (length-append, length-to_be) (omega arith) in
      let k : length rest ≡ 9 + (length address + length attributes) = simp (length-append, length-to_be) (omega arith) in
      let d = dump_length in
      more l front rest m b 12 at f r (omega arith) (omega arith) ∙ ap (over l 12) (simp (append_assoc, append-nil))
