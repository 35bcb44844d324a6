-- The calls for a peer and for an entry answer 0 or 5: they go through fields that have no check of their own.
use mathlib.Core.Path.{◌≡◌, refl, subst⁻¹}
use mathlib.Core.Bool.{Bool, true, false}
use mathlib.Core.Logic.{◌⊎◌, inl, inr}
use mathlib.Core.List.{List, ◌∷◌}
use Prim.Native.Nat.{ℕ, ◌+◌, ◌-◌, ◌/◌, ◌%◌}
use lib.Dec.{ltb, eqb}
use lib.ListN.{length, take, drop}
use Rattle.form_spec.specs.Octets.{be}
use Rattle.form_spec.specs.Fmt.{Out, bad, good, bind, refuse_if, Fmt, end, test, field, read}
use Rattle.form_spec.specs.Found.{fault_number}
use Rattle.form_spec.specs.Words.{choose, num, skip}
use Rattle.page_spec.specs.Peers.{peer_rest, peer_sized, peer}
use Rattle.record_spec.specs.Answer.{peer_fault, entry_fault}
use Rattle.record_spec.specs.Items.{peer_at}
use Rattle.record_laws.proofs.Finds.{peer-finds}
use Rattle.dagsumilat_spec.specs.Unjudged.{entry_fields, unjudged_at}
use Rattle.dagsumilat_laws.proofs.Unjudged.{unjudged_finds}

unfoldable Unchecked : Fmt → Type 0
Unchecked (end b) = Unit
Unchecked (test n b f) = ⊥
Unchecked (field x l b k) = (c : List ℕ) → Unchecked (k c)

abbrev OnlyFive : ℕ → Type 0
OnlyFive n = (n ≡ 0) ⊎ (n ≡ 5)

only_five : (f : Fmt) → Unchecked f → (at : ℕ) (bs : List ℕ) → OnlyFive (fault_number (read f at bs))
unfolding read Unchecked
only_five (end b) u at bs = inl refl
only_five (field x l b k) u at bs = go (ltb (length bs) l) (read (k (take l bs)) (at + l) (drop l bs)) (only_five (k (take l bs)) (u (take l bs)) (at + l) (drop l bs))
  where
    go : (t : Bool) (o : Out (List (List ℕ))) → OnlyFive (fault_number o) → OnlyFive (fault_number (refuse_if t 5 (at - b) (bind o (λ cs r. good (take l bs ∷ cs) r))))
    go true o h = inr refl
    go false (bad n p) h = h
    go false (good cs r) h = inl refl
only_five (test fault back _) u at bs = elim u [ ]

unchecked_choose : (b : Bool) (f g : Fmt) → Unchecked f → Unchecked g → Unchecked (choose b f g)
unfolding choose
unchecked_choose true f g p q = p
unchecked_choose false f g p q = q

unchecked_rest : (size width : ℕ) → Unchecked (peer_rest size width)
unfolding Unchecked peer_rest num skip
unchecked_rest size width = λ a n. tt

unchecked_sized : (size type : ℕ) → Unchecked (peer_sized size type)
unfolding peer_sized
unchecked_sized size type = unchecked_choose (eqb (type / 2 % 2) 1) (peer_rest size 4) (peer_rest size 2) (unchecked_rest size 4) (unchecked_rest size 2)

unchecked_peer : Unchecked peer
unfolding Unchecked peer num
unchecked_peer = λ t b. unchecked_choose (eqb (be t % 2) 1) (peer_sized 16 (be t)) (peer_sized 4 (be t)) (unchecked_sized 16 (be t)) (unchecked_sized 4 (be t))

unchecked_entry : Unchecked entry_fields
unfolding Unchecked entry_fields num skip
unchecked_entry = λ i o l a. tt

module _ (d : List ℕ) (at : ℕ) where
  pub peer-number : (peer_fault (peer_at d at) ≡ 0) ⊎ (peer_fault (peer_at d at) ≡ 5)
  peer-number = subst⁻¹ OnlyFive (peer-finds d at (peer_at d at) refl).1.0 (only_five peer unchecked_peer at (drop at d))

  pub entry-number : (entry_fault (unjudged_at d at) ≡ 0) ⊎ (entry_fault (unjudged_at d at) ≡ 5)
  entry-number = subst⁻¹ OnlyFive (unjudged_finds d at).0 (only_five entry_fields unchecked_entry at (drop at d))
