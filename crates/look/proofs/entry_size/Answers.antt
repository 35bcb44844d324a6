-- `look::entry_size` meets its contract.
use borrow.Author.Rules.{rules}
use Prim.Native.Nat.{ℕ}
use native.Mathlib.Omega.{arith}
use lib.ListN.{drop}
use Rattle.form_laws.proofs.Octets.{octets_of_lem}
use Rattle.page_spec.specs.Rib.{entry}
use Rattle.form_spec.specs.Found.{Lies, item}
use Rattle.look_laws.proofs.Items.{EntryAt, entry_at}
use Rattle.look.proofs.entry_size.Goals.{After-shared_slice_known-1}
use Rattle.look.proofs.entry_size.Goals as goal

there : (c : After-shared_slice_known-1) → let a = c.args in (n : ℕ) → Lies (entry n) (drop a.at a.d.now) → EntryAt a.d.now a.at (item (entry n) (drop a.at a.d.now))
there c n h =
    let a = c.args in entry_at a.d.now a.at n (octets_of_lem a.d.now (λ k. omega (arith, c.shared_slice_known-1.given k))) h

pub overflow_add-at : goal.overflow_add-at
overflow_add-at c = let k = c.requires in let e = there (goal.at.overflow_add-at c).After-shared_slice_known-1 k.0 k.1 in omega (arith, e.room, e.end)

pub number-requires : goal.number-requires
number-requires c = let k = c.requires in let e = there (goal.at.number-requires c).After-shared_slice_known-1 k.0 k.1 in record { width_bound = search rules; width_in_bounds = omega (arith, e.room, e.end) }

pub returns : goal.returns
returns c =
    let v = c.number.ensures in
    (omega arith, omega (arith, v.1), λ n h. let e = there (goal.at.returns c).After-shared_slice_known-1 n h in rw v.0 (omega (arith, e.end), omega (arith, e.room, e.end)))
