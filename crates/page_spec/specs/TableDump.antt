-- Type 12 (document 01, "Record layouts").
use Rattle.std.specs.Prelude.{ℕ, ◌*◌, leb}
use Rattle.form_spec.specs.Fmt.{Fmt, end}
use Rattle.form_spec.specs.Words.{◌$◌, num, skip, checked}
use Rattle.page_spec.specs.Names.{view, sequence, prefix_octets, prefix_bits, status, originated, peer_address, peer_as}
use Rattle.page_spec.specs.Rib.{attributes}

-- what follows the prefix length; an address has `size` octets
unfoldable pub table_dump_rest : (size : ℕ) → Fmt
table_dump_rest size = num status 1 λ s. num originated 4 λ t. skip peer_address size $ num peer_as 2 λ p. attributes $ end 0

-- the prefix stands before its length; a length above the address's bits is fault 8
unfoldable pub table_dump : (size : ℕ) → Fmt
table_dump size = num view 2 λ v. num sequence 2 λ s. skip prefix_octets size $ checked prefix_bits 1 (λ n. leb n (8 * size)) 8 λ n. table_dump_rest size
