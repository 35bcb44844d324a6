-- The kind of a record, by the number of its writer.
use mathlib.Core.Path.{◌≡◌, refl}
use Prim.Native.Nat.{ℕ, zero, suc, ◌+◌, ◌<◌}
use native.Mathlib.Omega.{arith}
use Rattle.page_spec.specs.Chosen.{Chosen}
use Rattle.page_spec.specs.Chosen as chosen
use Rattle.write_spec.specs.Only.{writer}
use Rattle.std.specs.Prelude.{Err}

abbrev pub KindBy : ℕ → Chosen → Type 0
KindBy zero k = Unit
KindBy (suc zero) k = (size : ℕ) × (k ≡ chosen.TableDump size)
KindBy (suc (suc zero)) k = k ≡ chosen.PeerTable
KindBy (suc (suc (suc zero))) k = (bits : ℕ) × (k ≡ chosen.Rib bits)
KindBy (suc (suc (suc (suc zero)))) k = k ≡ chosen.RibGeneric
KindBy (suc (suc (suc (suc (suc zero))))) k = (micro : ℕ) × (w : ℕ) × (k ≡ chosen.Change micro w)
KindBy (suc (suc (suc (suc (suc (suc zero)))))) k = (micro : ℕ) × (w : ℕ) × (k ≡ chosen.Message micro w)
KindBy (suc (suc (suc (suc (suc (suc (suc n))))))) k = Unit

pub kind_by : (k : Chosen) (n : ℕ) → n ≡ writer k → n < 7 → KindBy n k
kind_by (Err why) w e h = rw e tt
kind_by (chosen.Unread micro) w e h = absurd (omega arith)
kind_by (chosen.TableDump size) w e h = rw e (size, refl)
kind_by chosen.PeerTable w e h = rw e refl
kind_by (chosen.Rib bits) w e h = rw e (bits, refl)
kind_by chosen.RibGeneric w e h = rw e refl
kind_by (chosen.Change micro v) w e h = rw e (micro, v, refl)
kind_by (chosen.Message micro v) w e h = rw e (micro, v, refl)

pub kind_by_unread : (k : Chosen) (n : ℕ) → 7 + n ≡ writer k → (micro : ℕ) × (k ≡ chosen.Unread micro)
kind_by_unread (Err why) n e = absurd (omega arith)
kind_by_unread (chosen.Unread micro) n e = (micro, refl)
kind_by_unread (chosen.TableDump size) n e = absurd (omega arith)
kind_by_unread chosen.PeerTable n e = absurd (omega arith)
kind_by_unread (chosen.Rib bits) n e = absurd (omega arith)
kind_by_unread chosen.RibGeneric n e = absurd (omega arith)
kind_by_unread (chosen.Change micro v) n e = absurd (omega arith)
kind_by_unread (chosen.Message micro v) n e = absurd (omega arith)
