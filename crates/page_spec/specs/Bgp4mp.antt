-- Types 16 and 17: state changes and BGP messages (document 01, "Record layouts").
use Rattle.std.specs.Prelude.{ℕ, ◌-◌, eqb}
use Rattle.form_spec.specs.Fmt.{Fmt, end}
use Rattle.form_spec.specs.Words.{◌$◌, choose, num, skip, must, area, fail, checked, in_range}
use Rattle.page_spec.specs.Names.{peer_as, local_as, interface, family, peer_address, local_address, old_state, new_state, marker, bgp_length, bgp_type, bgp_rest}

-- the two addresses, n octets each
unfoldable pub addresses : ℕ → Fmt → Fmt
addresses n f = skip peer_address n $ skip local_address n f

-- two AS numbers of w octets, the interface, and the family, which decides the addresses' size; a family but 1 and 2 is fault 7
unfoldable pub session : ℕ → Fmt → Fmt
session w f =
    num peer_as w λ p. num local_as w λ l. num interface 2 λ i. num family 2 λ fam.
    choose (eqb fam 1) (addresses 4 f)
    $ choose (eqb fam 2) (addresses 16 f)
    $ fail 7 2

-- a state that is none of 1 to 6 is fault 9
unfoldable pub state : ℕ → Fmt → Fmt
state x f = checked x 2 (λ s. in_range 1 s 6) 9 λ s. f

unfoldable pub state_change : Fmt
state_change = state old_state $ state new_state $ end 0

-- behind a BGP message's type octet: its length field n is judged now (10), and then must end where the record ends (5, 6). The field
-- stands 3 octets back, and so all three faults are placed there.
unfoldable pub message_rest : (longest n : ℕ) → Fmt
message_rest longest n = must (in_range 19 n longest) 10 3 $ area bgp_rest (n - 19) 3 $ end (n - 16)

-- `longest` counts the octets of the longest BGP message
unfoldable pub message : (longest : ℕ) → Fmt
message longest = skip marker 16 $ num bgp_length 2 λ n. num bgp_type 1 λ t. message_rest longest n

-- RFC 4271's limit, which document 01 takes
abbrev pub longest_message : ℕ
longest_message = 4096
