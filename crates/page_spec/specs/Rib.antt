-- Type 13, subtypes 2 to 6: RIB records, their entries and attributes (document 01, "Record layouts").
use Rattle.std.specs.Prelude.{ℕ, ◌+◌, ◌/◌, leb}
use Rattle.form_spec.specs.Fmt.{Fmt, end}
use Rattle.form_spec.specs.Pass.{counted}
use Rattle.form_spec.specs.Shape.{indexed}
use Rattle.form_spec.specs.Words.{◌$◌, choose, num, skip, checked, tested, in_range}
use Rattle.page_spec.specs.Names.{sequence, family, safi, prefix_bits, prefix_octets, originated, attribute_length, attribute_octets, entry_count}
use Rattle.page_spec.specs.Tiles.{tiles}

-- n octets of attributes, judged (11) once all of them are there
unfoldable pub tiling : ℕ → Fmt → Fmt
tiling n f = tested attribute_octets n (λ a. tiles a 0) 11 f

unfoldable pub attributes : Fmt → Fmt
attributes f = num attribute_length 2 λ n. tiling n f

-- an entry behind its index
abbrev pub entry_rest : Fmt
entry_rest = num originated 4 λ t. attributes (end 0)

-- an entry where the table in force has so many peers
unfoldable pub entry : (peers : ℕ) → Fmt
entry peers = indexed peers entry_rest

-- a prefix of at most `most` bits (8), in as many octets as its bits need
unfoldable pub prefix : (most : ℕ) → Fmt → Fmt
prefix most f = checked prefix_bits 1 (λ n. leb n most) 8 λ n. skip prefix_octets ((n + 7) / 8) f

-- subtypes 2 to 5
abbrev pub rib_head : (most : ℕ) → Fmt → Fmt
rib_head most f = num sequence 4 λ n. prefix most f

-- subtype 6: the family, then the SAFI, each 1 or 2 (7); the family decides how long a prefix may be
abbrev pub generic_head : Fmt → Fmt
generic_head f =
    num sequence 4 λ n. checked family 2 (λ f. in_range 1 f 2) 7 λ fam. checked safi 1 (λ s. in_range 1 s 2) 7 λ s.
    choose (leb fam 1) (prefix 32 f) (prefix 128 f)

unfoldable pub entry_list : (peers : ℕ) → Fmt
entry_list peers = counted entry_count (entry peers)

-- the whole message, as code goes through it
unfoldable pub rib : (most peers : ℕ) → Fmt
rib most peers = rib_head most $ entry_list peers

unfoldable pub rib_generic : (peers : ℕ) → Fmt
rib_generic peers = generic_head $ entry_list peers
