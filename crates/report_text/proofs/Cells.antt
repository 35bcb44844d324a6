-- The lines of a report's cells, and the loop that lays them.
use mathlib.Core.Path.{◌≡◌, refl, sym, ◌∙◌}
use mathlib.Core.List.{List, [], ◌++◌, append_assoc, append-nil}
use Prim.Native.Nat.{ℕ, zero, suc, ◌+◌, ◌*◌, ◌/◌, ◌%◌, ◌≤◌, ◌<◌}
use native.Mathlib.Omega.{arith}
use lib.ListN.{length, drop, get_or, drop_of_length-le}
use lib.Seq.{drop-cons}
use Rattle.octets_laws.proofs.Over.{over_none}
use Rattle.listing_spec.specs.Lays.{Lays}
use Rattle.listing_spec.specs.Text.{entry}
use Rattle.listing_laws.proofs.Lays.{both}
use Rattle.report_text_spec.specs.Text.{number_line, cell_line, cell_lines}

-- nothing is laid
pub none : {out : List ℕ} {at : ℕ} → at ≤ length out → Lays out at [] at out
none {out} {at} h = record { ends = omega arith; holds = sym (over_none out at h) }

pub cell_none : (old new n : ℕ) → n ≡ 0 → cell_line old new n ≡ []
unfolding cell_line
cell_none old new n e = rw e

pub cell_some : (old new n : ℕ) → (n ≡ 0 → ⊥) → cell_line old new n ≡ entry "change." old ++ entry "." new ++ number_line "=" n
unfolding cell_line
cell_some old new zero h = absurd (h refl)
cell_some old new (suc n) h = refl

-- ---- the loop

-- the cells from k on: the first of them, and the others
cells_more : (own : List ℕ) (k : ℕ) → 3 + k < length own → cell_lines k (drop (3 + k) own) ≡ cell_line (k / 6 + 1) (k % 6 + 1) (get_or own (3 + k) 0) ++ cell_lines (k + 1) (drop (3 + (k + 1)) own)
unfolding cell_lines
cells_more own k h = let e : 3 + (k + 1) ≡ suc (3 + k) = omega arith in rw (e, drop-cons own (3 + k) 0 h)

cells_end : (own : List ℕ) (k : ℕ) → length own ≤ 3 + k → cell_lines k (drop (3 + k) own) ≡ []
unfolding cell_lines
cells_end own k h = rw (drop_of_length-le own h)

-- k cells are laid, up to `put`
pub record Celled (own out₀ : List ℕ) (at : ℕ) (out : List ℕ) (put k : ℕ) : Type 0 where
  pub most : k ≤ 36
  pub few : put ≤ at + 32 * k
  pub laid : List ℕ
  pub lays : Lays out₀ at laid put out
  pub whole : cell_lines 0 (drop 3 own) ≡ laid ++ cell_lines k (drop (3 + k) own)

pub starts : (own out : List ℕ) (at : ℕ) → at ≤ length out → Celled own out at out at 0
starts own out at h = record { most = omega arith; few = omega arith; laid = []; lays = none h; whole = refl }

module _ {own out₀ : List ℕ} {at : ℕ} {out : List ℕ} {put k : ℕ} (c : Celled own out₀ at out put k) (long : length own ≡ 39) where
  pub turn : {r : ℕ} {l : List ℕ} → k < 36 → Lays out put (cell_line (k / 6 + 1) (k % 6 + 1) (get_or own (3 + k) 0)) r l → r ≤ put + 32 → r ≤ length out₀ → Celled own out₀ at l r (k + 1)
  turn h x m g =
      let y = c.lays in
      record {
        most = omega arith;
        few = omega (arith, c.few);
        laid = c.laid ++ cell_line (k / 6 + 1) (k % 6 + 1) (get_or own (3 + k) 0);
        lays = both y x (omega arith);
        whole = c.whole ∙ rw (cells_more own k (omega arith), append_assoc);
      }

  pub done : 36 ≤ k → Lays out₀ at (cell_lines 0 (drop 3 own)) put out
  done h = rw (c.whole, cells_end own k (omega arith), append-nil c.laid) c.lays
