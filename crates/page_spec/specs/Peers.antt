-- Type 13, subtype 1: the peer table (document 01, "Record layouts").
use Rattle.std.specs.Prelude.{ℕ, ◌/◌, ◌%◌, eqb}
use Rattle.form_spec.specs.Fmt.{Fmt, end}
use Rattle.form_spec.specs.Pass.{counted}
use Rattle.form_spec.specs.Words.{◌$◌, choose, num, skip, tested}
use Rattle.text_spec.specs.Check.{is_text}
use Rattle.page_spec.specs.Names.{collector, view_length, view_name, peer_count, peer_type, bgp_id, peer_address, peer_as}

unfoldable pub peer_rest : (size width : ℕ) → Fmt
peer_rest size width = skip peer_address size $ num peer_as width λ a. end 0

-- in the type octet value 2 says that the AS has 4 octets
unfoldable pub peer_sized : (size type : ℕ) → Fmt
peer_sized size type = choose (eqb (type / 2 % 2) 1) (peer_rest size 4) (peer_rest size 2)

-- and value 1 that the address is IPv6; its other bits are carried
unfoldable pub peer : Fmt
peer = num peer_type 1 λ t. num bgp_id 4 λ b. choose (eqb (t % 2) 1) (peer_sized 16 t) (peer_sized 4 t)

-- the view name is text, judged (17) once all of its octets are there
abbrev pub table_head : Fmt → Fmt
table_head f = num collector 4 λ c. num view_length 2 λ n. tested view_name n is_text 17 f

unfoldable pub peer_list : Fmt
peer_list = counted peer_count peer

-- the whole message, as code goes through it
unfoldable pub peer_table : Fmt
peer_table = table_head peer_list
