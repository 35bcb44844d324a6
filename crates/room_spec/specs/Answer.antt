-- Document 01's number, place and octets written, for each answer of a call that writes into lent room.
use Rattle.std.specs.Prelude.{ℕ, Err}
use Rattle.room_spec.specs.Written.{Written, Octets}

abbrev pub fault : Written → ℕ
fault (Octets k) = 0
fault (Err why) = why.number

abbrev pub place : Written → ℕ
place (Octets k) = 0
place (Err why) = why.place

-- a refusal reports none
abbrev pub count : Written → ℕ
count (Octets k) = k
count (Err why) = 0
