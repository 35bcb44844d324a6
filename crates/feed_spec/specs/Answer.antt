-- What a call says, by document 02's numbers: what it is, a fault's number, a place, and how many octets of a record are shown.
use Rattle.std.specs.Prelude.{ℕ}
use Rattle.feed_spec.specs.declared.Fed.{Fed}
use Rattle.feed_spec.specs.declared.Said.{Said}
use Rattle.feed_spec.specs.declared.Said.TheVariants.{More, Record, End, Fault}

-- 0 more, 1 a record, 2 the end, 3 a fault
abbrev pub what : Said → ℕ
what More = 0
what (Record size) = 1
what End = 2
what (Fault n p) = 3

abbrev pub fault : Said → ℕ
fault More = 0
fault (Record size) = 0
fault End = 0
fault (Fault n p) = n

-- behind a record where it ends, at the end the feed's length; none where octets are missing
abbrev pub place : (at : ℕ) → Said → ℕ
place at More = 0
place at (Record size) = at
place at End = at
place at (Fault n p) = p

abbrev pub size : Said → ℕ
size More = 0
size (Record n) = n
size End = 0
size (Fault n p) = 0

abbrev pub place_of : Fed → ℕ
place_of r = place r.feed.at r.said
