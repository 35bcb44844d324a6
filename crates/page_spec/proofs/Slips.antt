-- Facts that show a slip in the turn in which a view name is judged.
use mathlib.Core.Path.{◌≡◌, refl}
use mathlib.Core.List.{List, [], ◌∷◌, map}
use Prim.Native.Nat.{ℕ}
use lib.Count.{count_leading_zeros}
use Rattle.form_spec.specs.Octets.{be}
use Rattle.form_spec.specs.Fmt.{read}
use Rattle.form_spec.specs.Put.{fault_of}
use Rattle.form_spec.specs.Pass.{times}
use Rattle.form_spec.specs.Words.{choose, num, skip, part, must, tested, in_range}
use Rattle.text_spec.specs.Check.{least, most, start_of, goes_on}
use Rattle.page_spec.specs.Peers.{peer_list, peer_table}

-- the number for a peer table without peers: name length, then what follows it
unfoldable pub number : List ℕ → ℕ
number rest = fault_of (read peer_table 12 (0 ∷ 0 ∷ 0 ∷ 0 ∷ 0 ∷ rest))

-- by computing, whichever words the page has for the name: a good name, with its count and without; a bad one, with and without; one that is cut short, bad as far as it goes
pub numbers : map number ((1 ∷ 0x41 ∷ 0 ∷ 0 ∷ []) ∷ (1 ∷ 0x41 ∷ []) ∷ (1 ∷ 0x80 ∷ 0 ∷ 0 ∷ []) ∷ (1 ∷ 0x80 ∷ []) ∷ (2 ∷ 0x80 ∷ []) ∷ []) ≡ 0 ∷ 5 ∷ 17 ∷ 17 ∷ 5 ∷ []
unfolding number read times peer_table peer_list num skip part must tested be goes_on start_of least most choose in_range count_leading_zeros
numbers = refl
