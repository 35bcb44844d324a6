-- `record::read_with` meets its contract.
use Prim.Native.Nat.{◌+◌}
use native.Mathlib.Nat.{sub-zero}
use Rattle.octets_laws.proofs.Rules.{flow}
use Rattle.record_spec.specs.One.{read_one}
use Rattle.record.proofs.read_with.Goals as goal

pub returns-then-is_empty : goal.returns-then-is_empty
unfolding read_one
returns-then-is_empty c = search flow depth 6

pub returns-then-s-lt12 : goal.returns-then-s-lt12
unfolding read_one
returns-then-s-lt12 c = search flow depth 6

pub returns-then-s-length : goal.returns-then-s-length
unfolding read_one
returns-then-s-length c = let h = rw c.number-length.ensures.0 at c.if-s-length.true in search flow depth 8

pub returns : goal.returns
unfolding read_one
returns c =
    let n = c.number-length.ensures.0 in
    let h = rw n at c.if-s-length.false in
    let w = rw (sub-zero (12 + c.number-length.result), n) at c.whole_record.ensures in
    search flow depth 8
