-- Names of fields, as numbers that compute; 0 is no name. Three stand in the form, whose rules speak of them.
use Rattle.std.specs.Prelude.{ℕ}
pub use Rattle.form_spec.specs.Shape.{microseconds, peer_as, peer_index}

abbrev pub local_as : ℕ
local_as = 10

abbrev pub interface : ℕ
interface = 11

abbrev pub family : ℕ
family = 12

abbrev pub peer_address : ℕ
peer_address = 13

abbrev pub local_address : ℕ
local_address = 14

abbrev pub old_state : ℕ
old_state = 15

abbrev pub new_state : ℕ
new_state = 16

abbrev pub view : ℕ
view = 17

abbrev pub sequence : ℕ
sequence = 18

abbrev pub prefix_bits : ℕ
prefix_bits = 19

abbrev pub prefix_octets : ℕ
prefix_octets = 20

abbrev pub status : ℕ
status = 21

abbrev pub originated : ℕ
originated = 22

abbrev pub attribute_length : ℕ
attribute_length = 23

abbrev pub attribute_octets : ℕ
attribute_octets = 24

abbrev pub entry_count : ℕ
entry_count = 25

abbrev pub safi : ℕ
safi = 26

abbrev pub bgp_length : ℕ
bgp_length = 27

abbrev pub bgp_type : ℕ
bgp_type = 28

abbrev pub bgp_rest : ℕ
bgp_rest = 29

abbrev pub marker : ℕ
marker = 30

abbrev pub collector : ℕ
collector = 31

abbrev pub view_length : ℕ
view_length = 32

abbrev pub view_name : ℕ
view_name = 33

abbrev pub peer_count : ℕ
peer_count = 34

abbrev pub peer_type : ℕ
peer_type = 35

abbrev pub bgp_id : ℕ
bgp_id = 36
