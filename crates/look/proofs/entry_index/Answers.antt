-- `look::entry_index` meets its contract.
use borrow.Author.Rules.{rules}
use mathlib.Core.Path.{◌∙◌}
use Prim.Native.Nat.{ℕ}
use native.Mathlib.Omega.{arith}
use lib.ListN.{drop}
use Rattle.form_laws.proofs.Octets.{octets_of_lem}
use Rattle.page_spec.specs.Rib.{entry}
use Rattle.form_spec.specs.Found.{Lies, item}
use Rattle.look_laws.proofs.Items.{EntryAt, entry_at}
use Rattle.look.proofs.entry_index.Goals.{After-shared_slice_known-1}
use Rattle.look.proofs.entry_index.Goals as goal

there : (c : After-shared_slice_known-1) → let a = c.args in (n : ℕ) → Lies (entry n) (drop a.at a.d.now) → EntryAt a.d.now a.at (item (entry n) (drop a.at a.d.now))
there c n h =
    let a = c.args in entry_at a.d.now a.at n (octets_of_lem a.d.now (λ k. omega (arith, c.shared_slice_known-1.given k))) h

pub number-requires : goal.number-requires
number-requires c = let k = c.requires in let e = there (goal.at.number-requires c).After-shared_slice_known-1 k.0 k.1 in record { width_bound = search rules; width_in_bounds = omega (arith, e.room, e.end) }

pub returns : goal.returns
returns c = (c.number.ensures.1, λ n h. c.number.ensures.0 ∙ (there (goal.at.returns c).After-shared_slice_known-1 n h).index)
