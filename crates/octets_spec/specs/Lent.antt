-- The n octets from `at` on of a lent slice, fewer where it ends before: r is that part of it, at the place where it lies, and no copy.
use Rattle.std.specs.Prelude.{◌≡◌, List, ℕ, ◌+◌, min, length, take, drop}
use Rattle.std.specs.Borrow.{Bor}

pub record PartOf (m : Bor (List ℕ)) (at n : ℕ) (r : Bor (List ℕ)) : Type 0 where
  pub octets : r.now ≡ take n (drop at m.now)
  -- a block, and an offset in it
  pub lies : r.ref_ptr ≡ (m.ref_ptr.0, min at (length m.now) + m.ref_ptr.1)
