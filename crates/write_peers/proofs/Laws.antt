-- How long a peer table's message is.
use mathlib.Core.Path.{◌≡◌}
use mathlib.Core.List.{List}
use Prim.Native.Nat.{ℕ, ◌+◌}
use native.Mathlib.Omega.{arith}
use lib.ListN.{length, length-append}
use Rattle.form_spec.specs.Put.{message}
use Rattle.form_laws.proofs.Octets.{length-to_be}
use Rattle.write_spec.specs.Givens.{peer_table_given}

pub table-length : (t collector : ℕ) (name : List ℕ) (count : ℕ) (peers : List ℕ) → length name + length peers + 8 ≡ length (message (peer_table_given t collector name count peers))
table-length t collector name count peers = simp (length-append, length-to_be) (omega arith)
