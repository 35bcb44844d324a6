-- A peer or an entry that stands at an offset is shown there, with its fields and where each lies.
use mathlib.Core.Path.{◌≡◌, refl, ap, ◌∙◌}
use mathlib.Core.List.{List, [], ◌∷◌, ◌++◌}
use Prim.Native.Nat.{ℕ, ◌+◌, ◌/◌, ◌%◌, ◌≤◌}
use native.Mathlib.Omega.{arith}
use lib.Dec.{eqb}
use lib.ListN.{length, drop, length-append}
use Rattle.form_spec.specs.Octets.{be}
use Rattle.form_spec.specs.Fmt.{Fits, join}
use Rattle.form_spec.specs.Words.{num, skip, checked, tested}
use Rattle.form_spec.specs.Pass.{Seen}
use Rattle.form_spec.specs.Shape.{number}
use Rattle.form_laws.proofs.Pass.{pass_fits}
use Rattle.page_spec.specs.Peers.{peer_rest, peer_sized, peer}
use Rattle.page_spec.specs.Names.{peer_type, bgp_id}
use Rattle.page_spec.specs.Rib.{tiling, attributes, entry}
use Rattle.record_spec.specs.Fields as show
use Rattle.record_spec.specs.declared.Peer.{Peer}
use Rattle.record_spec.specs.declared.Entry.{Entry}
use Rattle.std.specs.Prelude.{Result, Ok}
use Rattle.form_spec.specs.declared.Fault.{Fault}
use Rattle.form_spec.specs.Refusal.{refused}
use Rattle.record_spec.specs.Answer.{peer_fault, peer_end, entry_fault, entry_end}
use Rattle.record_spec.specs.Items.{peer_at, entry_at, met, field_in, peer_of, entry_of, Each, Meets}
use Rattle.record_laws.proofs.Parts.{Parts, by_parts, parts-choose}
use Rattle.record_laws.proofs.Going.{Stand, meets, each_met}

module _ (m : List ℕ) (at : ℕ) where
  -- ---- a peer

  -- of its fields, and of what was seen of them
  abbrev PeerSeen : List (List ℕ) → List Seen → Type 0
  PeerSeen c fs = (a : ℕ) → show.peer fs a 0 ≡ Ok (record { kind = number 0 c; id = number 1 c; address = field_in 2 at c; as_number = number 3 c; next = a })

  -- whatever sizes the type chooses
  peer-sized : (size width : ℕ) → Parts m (num peer_type 1 λ t. num bgp_id 4 λ b. peer_rest size width) at PeerSeen
  unfolding Parts peer_rest num skip
  peer-sized size width =
      λ t ht b hb x hx n hn a.
      let e : at + length t + length b ≡ at + length (join (t ∷ b ∷ [])) = simp length-append (omega arith) in
      ap (λ (i : ℕ). Ok (record { kind = be t; id = be b; address = record { at = i; size = length x }; as_number = be n; next = a })) e

  peer-parts : Parts m peer at PeerSeen
  unfolding Parts peer peer_sized num
  peer-parts =
      λ t ht b hb.
      let size = eqb (be t % 2) 1 in
      let width = eqb (be t / 2 % 2) 1 in
      parts-choose m size (peer_sized 16 (be t)) (peer_sized 4 (be t)) _ _
      (λ e. parts-choose m width (peer_rest 16 4) (peer_rest 16 2) _ _ (λ d. peer-sized 16 4 t ht b hb) (λ d. peer-sized 16 2 t ht b hb))
      (λ e. parts-choose m width (peer_rest 4 4) (peer_rest 4 2) _ _ (λ d. peer-sized 4 4 t ht b hb) (λ d. peer-sized 4 2 t ht b hb))

  pub peer-shown : (c : List (List ℕ)) (rest : List ℕ) → at ≤ length m → Fits peer c → join c ++ rest ≡ drop at m → peer_at m at ≡ peer_of at c
  peer-shown c rest h fit e = pass_fits show.peer refused peer m at c rest h fit e ∙ by_parts m peer at PeerSeen peer-parts c rest e fit (at + length (join c))

  -- ---- an entry

  abbrev pub EntrySeen : List (List ℕ) → List Seen → Type 0
  EntrySeen c fs = (a : ℕ) → show.entry fs a 0 ≡ Ok (record { index = number 0 c; originated = number 1 c; attributes = field_in 3 at c; next = a })

  entry-parts : (n : ℕ) → Parts m (entry n) at EntrySeen
  unfolding Parts entry attributes tiling num checked tested
  entry-parts n =
      λ i hi ok o ho l hl x hx tiled a.
      let e : at + length i + length o + length l ≡ at + length (join (i ∷ o ∷ l ∷ [])) = simp length-append (omega arith) in
      ap (λ (k : ℕ). Ok (record { index = be i; originated = be o; attributes = record { at = k; size = length x }; next = a })) e

  pub entry-shown : (n : ℕ) (c : List (List ℕ)) (rest : List ℕ) → at ≤ length m → Fits (entry n) c → join c ++ rest ≡ drop at m → entry_at m at n ≡ entry_of at c
  entry-shown n c rest h fit e = pass_fits show.entry refused (entry n) m at c rest h fit e ∙ by_parts m (entry n) at EntrySeen (entry-parts n) c rest e fit (at + length (join c))

-- ---- peers or entries that stand one after another

module _ (m : List ℕ) (n at stop : ℕ) (its : List (List (List ℕ))) where
  pub peers_meet : Stand m peer n at stop its → Meets m (peer_at m) peer_end peer_of n at stop its
  peers_meet s = meets m peer (peer_at m) peer_end peer_of (peer-shown m) (λ a c. refl) n at stop its s

  pub entries_meet : (count : ℕ) → Stand m (entry count) n at stop its → Meets m (λ a. entry_at m a count) entry_end entry_of n at stop its
  entries_meet count s = meets m (entry count) (λ a. entry_at m a count) entry_end entry_of (λ a. entry-shown m a count) (λ a c. refl) n at stop its s

  -- none of them is a fault
  pub no_peer_fault : (one : ℕ → Result Peer Fault) → Meets m one peer_end peer_of n at stop its → Each (λ x. peer_fault x ≡ 0) (met one peer_end n at)
  no_peer_fault one h = each_met peer_of (λ x. peer_fault x ≡ 0) (λ a c. refl) m one peer_end n at stop its h

  pub no_entry_fault : (one : ℕ → Result Entry Fault) → Meets m one entry_end entry_of n at stop its → Each (λ x. entry_fault x ≡ 0) (met one entry_end n at)
  no_entry_fault one h = each_met entry_of (λ x. entry_fault x ≡ 0) (λ a c. refl) m one entry_end n at stop its h
