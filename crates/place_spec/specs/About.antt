-- At which field a fault is placed (document 02, "Faults placed to the octet").
use Rattle.std.specs.Prelude.{Bool, ◌&&◌, ◌||◌, ℕ, eqb}
use Rattle.form_spec.specs.Words.{◌$◌, choose}
use Rattle.page_spec.specs.Names.{peer_index, family, safi, prefix_bits, old_state, new_state, bgp_length, bgp_rest, attribute_octets, view_name}

-- a header's fields have names here too
abbrev pub timestamp_field : ℕ
timestamp_field = 4

abbrev pub type_field : ℕ
type_field = 5

abbrev pub subtype_field : ℕ
subtype_field = 6

abbrev pub length_field : ℕ
length_field = 7

abbrev row : (n x fault name : ℕ) → Bool
row n x fault name = eqb fault n && eqb name x

-- by the field's name: 5 at any, 6 where no field is left, the others at these
unfoldable pub about : (fault name : ℕ) → Bool
about n x =
    eqb n 5
    || row 3 type_field n x
    || row 4 subtype_field n x
    || row 12 subtype_field n x
    || row 7 family n x
    || row 7 safi n x
    || row 8 prefix_bits n x
    || row 9 old_state n x
    || row 9 new_state n x
    || row 10 bgp_length n x
    || row 11 attribute_octets n x
    || row 13 peer_index n x
    || row 17 view_name n x
    || row 6 0 n x
    || row 6 bgp_length n x

-- by how many fields are complete from there on when the fault is found, where these names have the latest of them and the one that follows: a
-- header is judged as a whole; a BGP length with the type octet behind it, and again where the message's rest lacks octets or leaves some over;
-- else a field that lacks octets is placed there, and so are octets left over; the others are judged when they are complete
unfoldable pub there_from : (fault latest next : ℕ) → ℕ
there_from n latest next =
    choose (eqb n 3) 3
    $ choose (eqb n 4 || eqb n 12) 2
    $ choose (eqb n 10) 2
    $ choose (eqb n 5) (choose (eqb next bgp_rest) 2 0)
    $ choose (eqb n 6) (choose (eqb latest bgp_rest) 3 0)
    $ 1
