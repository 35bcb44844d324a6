-- Reading one record looks at no octet behind it.
use mathlib.Core.Path.{◌≡◌, sym, ap, ◌∙◌}
use mathlib.Core.List.{List, ◌++◌}
use Prim.Native.Nat.{ℕ, ◌+◌, ◌-◌, ◌≤◌}
use native.Mathlib.Omega.{arith}
use lib.ListN.{length, take, drop, length-take, length-append, take-append-drop}
use lib.Seq.{take-append-le}
use borrow.Author.Tests.{ne_eqb, le-ltb}
use Rattle.form_spec.specs.Words.{choose}
use Rattle.octets_spec.specs.Be.{num_at}
use Rattle.record_spec.specs.Table.{Table}
use Rattle.record_spec.specs.One.{whole_record, read_one}
use Rattle.record_laws.proofs.One.{num_at_first}
use Rattle.feed_spec.specs.Feed.{size_of}

-- ---- the size

-- octets behind the header do not change it
pub size_first : (s more : List ℕ) → 12 ≤ length s → size_of (s ++ more) ≡ size_of s
size_first s more h = ap (◌+◌ 12) (num_at_first s more 8 4 h)

pub size_taken : (m : ℕ) (s : List ℕ) → 12 ≤ m → 12 ≤ length s → size_of (take m s) ≡ size_of s
size_taken m s h l = sym (size_first (take m s) (drop m s) (rw length-take (omega arith))) ∙ ap size_of (take-append-drop m s)

-- ---- a record that is all there

module _ (longest : ℕ) (t : Table) where
  -- it is read from its own octets
  pub whole_read : (s : List ℕ) → size_of s ≤ length s → read_one longest t s ≡ whole_record longest t (take (size_of s) s)
  unfolding read_one choose
  whole_read s h = rw (ne_eqb (length s) 0 (λ e. omega arith), le-ltb (length s) 12 (omega arith), le-ltb (length s - 12) (num_at s 8 4) (omega arith))

  -- whatever follows it
  pub read_first : (s more : List ℕ) → size_of s ≤ length s → read_one longest t (s ++ more) ≡ read_one longest t s
  read_first s more h =
      let e : size_of (s ++ more) ≡ size_of s = size_first s more (omega arith) in
      let l : size_of (s ++ more) ≤ length (s ++ more) = rw (e, length-append) (omega arith) in
      let z : take (size_of (s ++ more)) (s ++ more) ≡ take (size_of s) s = rw e (take-append-le (size_of s) s more h) in
      whole_read (s ++ more) l ∙ ap (whole_record longest t) z ∙ sym (whole_read s h)

  -- its first octets will do, its own ones or more of them
  pub take_there : (m : ℕ) (s : List ℕ) → size_of s ≤ length s → size_of s ≤ m → read_one longest t (take m s) ≡ read_one longest t s
  take_there m s h l =
      let e : size_of (take m s) ≡ size_of s = size_taken m s (omega arith) (omega arith) in
      let k : size_of (take m s) ≤ length (take m s) = rw (e, length-take) (omega arith) in
      sym (read_first (take m s) (drop m s) k) ∙ ap (read_one longest t) (take-append-drop m s)
