-- Where the parts of an entry and of a peer lie.
use mathlib.Core.Path.{◌≡◌, refl, sym, ◌∙◌, subst}
use mathlib.Core.Bool.{Bool, true, false, cond}
use mathlib.Core.List.{List, [], ◌∷◌, ◌++◌, append_assoc, append-nil}
use Prim.Native.Nat.{ℕ, ◌+◌, ◌-◌, ◌/◌, ◌%◌, ◌≤◌}
use native.Mathlib.Omega.{arith}
use lib.Dec.{eqb}
use lib.ListN.{length, take, drop, get_or, length-append, length-drop}
use lib.Seq.{take_at, drop_at, drop-append-add, drop-drop}
use Rattle.form_spec.specs.Octets.{Octets, be}
use Rattle.form_spec.specs.Fmt.{Fits, join, find}
use Rattle.form_spec.specs.Found.{Lies, item}
use Rattle.form_spec.specs.Shape.{as_of, index_of}
use Rattle.form_spec.specs.Words.{choose, num, skip, checked, tested}
use Rattle.form_laws.proofs.Found.{fits_of}
use Rattle.form_laws.proofs.Octets.{octets-drop}
use Rattle.page_spec.specs.Rib.{tiling, attributes, entry}
use Rattle.page_spec.specs.Peers.{peer_rest, peer_sized, peer}
use Rattle.octets_spec.specs.Be.{num_at}
use Rattle.octets_laws.proofs.Be.{num_at_1}
use Rattle.look_spec.specs.Items.{address_size, as_size, peer_end}

-- ---- an entry

-- the entry it at the front of bs
record EntryIs (it : List (List ℕ)) (bs : List ℕ) : Type 0 where
  index : index_of it ≡ be (take 2 bs)
  size : length (join it) ≡ be (take 2 (drop 6 bs)) + 8
  room : length (join it) ≤ length bs

drop_past : (w n : ℕ) (c y : List ℕ) → length c ≡ w → drop (w + n) (c ++ y) ≡ drop n y
drop_past w n c y e = rw (← e) (drop-append-add c y n)

entry_is : (n : ℕ) (it : List (List ℕ)) (rest : List ℕ) → Fits (entry n) it → EntryIs it (join it ++ rest)
unfolding Fits entry checked num attributes tiling tested
entry_is n (c ∷ []) rest h = absurd h.2.1
entry_is n (c ∷ t ∷ []) rest h = absurd h.2.1.2
entry_is n (c ∷ t ∷ l ∷ []) rest h = absurd h.2.1.2.2
entry_is n (c ∷ t ∷ l ∷ a ∷ b ∷ cs) rest h = absurd h.2.1.2.2.2.1
entry_is n (c ∷ t ∷ l ∷ a ∷ []) rest h =
    let e2 : length c ≡ 2 = h.0 in
    let e4 : length t ≡ 4 = h.2.1.0 in
    let el : length l ≡ 2 = h.2.1.2.0 in
    let ea : length a ≡ be l = h.2.1.2.2.0 in
    let r : c ++ (t ++ (l ++ (a ++ []))) ++ rest ≡ c ++ (t ++ (l ++ (a ++ rest))) = simp (append_assoc, append-nil) in
    record {
      index = rw (r, take_at c (t ++ (l ++ (a ++ rest))) 2 e2);
      size = rw (r, drop_past 2 4 c (t ++ (l ++ (a ++ rest))) e2, drop_at t (l ++ (a ++ rest)) 4 e4, take_at l (a ++ rest) 2 el) (simp length-append (omega arith));
      room = simp length-append (omega arith);
    }
entry_is n [] rest h = elim h [ ]

-- the entry it at a place of d
pub record EntryAt (d : List ℕ) (at : ℕ) (it : List (List ℕ)) : Type 0 where
  pub index : num_at d at 2 ≡ index_of it
  pub end : at + 8 + num_at d (at + 6) 2 ≡ at + length (join it)
  pub room : at + length (join it) ≤ length d

pub entry_at : (d : List ℕ) (at n : ℕ) → Octets d → Lies (entry n) (drop at d) → EntryAt d at (item (entry n) (drop at d))
unfolding num_at
entry_at d at n oc h =
    let q = fits_of (entry n) (drop at d) (octets-drop at d oc) h in
    let e = subst (EntryIs (item (entry n) (drop at d))) q.2 (entry_is n (item (entry n) (drop at d)) q.1 q.0) in
    let l : length (join (item (entry n) (drop at d))) ≤ length d - at = simp length-drop at e.room in
    let s = rw drop-drop at e.size in
    record { index = sym e.index; end = omega arith; room = omega arith }

-- ---- a peer

-- the peer it at the front of bs
record PeerIs (it : List (List ℕ)) (bs : List ℕ) : Type 0 where
  size : length (join it) ≡ address_size (be (take 1 bs)) + 5 + as_size (be (take 1 bs))
  room : length (join it) ≤ length bs
  number : as_of peer it ≡ be (take (as_size (be (take 1 bs))) (drop (address_size (be (take 1 bs)) + 5) bs))

sized : (k : ℕ) → choose (eqb (k % 2) 1) (peer_sized 16 k) (peer_sized 4 k) ≡ peer_rest (address_size k) (as_size k)
unfolding choose peer_sized
sized k = go (eqb (k % 2) 1) (eqb (k / 2 % 2) 1)
  where
    go : (x y : Bool) → choose x (choose y (peer_rest 16 4) (peer_rest 16 2)) (choose y (peer_rest 4 4) (peer_rest 4 2)) ≡ peer_rest (cond x 16 4) (cond y 4 2)
    go true true = refl
    go true false = refl
    go false true = refl
    go false false = refl

peer_is : (it : List (List ℕ)) (rest : List ℕ) → Fits peer it → PeerIs it (join it ++ rest)
unfolding Fits find peer peer_rest num skip
peer_is [] rest h = absurd h
peer_is (y ∷ []) rest h = absurd h.2
peer_is (y ∷ b ∷ []) rest h = absurd (rw (sized (be y)) at h.2.2)
peer_is (y ∷ b ∷ a ∷ []) rest h = absurd (rw (sized (be y)) at h.2.2).2
peer_is (y ∷ b ∷ a ∷ s ∷ x ∷ cs) rest h = absurd (rw (sized (be y)) at h.2.2).2.2
peer_is (y ∷ b ∷ a ∷ s ∷ []) rest h =
    let z = rw (sized (be y)) at h.2.2 in
    let e1 : length y ≡ 1 = h.0 in
    let e4 : length b ≡ 4 = h.2.0 in
    let ea : length a ≡ address_size (be y) = z.0 in
    let es : length s ≡ as_size (be y) = z.2.0 in
    let r : y ++ (b ++ (a ++ (s ++ []))) ++ rest ≡ y ++ (b ++ (a ++ (s ++ rest))) = simp (append_assoc, append-nil) in
    let q : y ++ (b ++ (a ++ (s ++ rest))) ≡ (y ++ (b ++ a)) ++ (s ++ rest) = simp append_assoc in
    let l : length (y ++ (b ++ a)) ≡ address_size (be y) + 5 = simp length-append (omega arith) in
    record {
      size = rw (r, take_at y (b ++ (a ++ (s ++ rest))) 1 e1) (simp length-append (omega arith));
      room = simp length-append (omega arith);
      number = rw (r, take_at y (b ++ (a ++ (s ++ rest))) 1 e1, q, drop_at (y ++ (b ++ a)) (s ++ rest) _ l, take_at s rest _ es, sized (be y));
    }

-- the peer it at a place of d
pub record PeerAt (d : List ℕ) (at : ℕ) (it : List (List ℕ)) : Type 0 where
  pub end : peer_end d at ≡ at + length (join it)
  pub room : peer_end d at ≤ length d
  pub number : num_at d (at + 5 + address_size (get_or d at 0)) (as_size (get_or d at 0)) ≡ as_of peer it

pub peer_at_lem : (d : List ℕ) (at : ℕ) → Octets d → Lies peer (drop at d) → PeerAt d at (item peer (drop at d))
unfolding num_at
peer_at_lem d at oc h =
    let v = fits_of peer (drop at d) (octets-drop at d oc) h in
    let e = subst (PeerIs (item peer (drop at d))) v.2 (peer_is (item peer (drop at d)) v.1 v.0) in
    let l : length (join (item peer (drop at d))) ≤ length d - at = simp length-drop at e.room in
    let z = e.size in
    let k : num_at d at 1 ≡ get_or d at 0 = num_at_1 d at (omega arith) in
    let s = rw k at z in
    let p : at + (address_size (get_or d at 0) + 5) ≡ at + 5 + address_size (get_or d at 0) = omega arith in
    record { end = omega arith; room = omega arith; number = sym (rw (drop-drop, k, p) at e.number) }

-- the octets of its AS number, by the flag that code has found
pub wide-size : (k : ℕ) (b : Bool) → b ≡ eqb (k / 2 % 2) 1 → b ≡ true → as_size k ≡ 4
wide-size k b e f = rw (sym e ∙ f)

pub narrow_size : (k : ℕ) (b : Bool) → b ≡ eqb (k / 2 % 2) 1 → b ≡ false → as_size k ≡ 2
narrow_size k b e f = rw (sym e ∙ f)

-- an address has at most 16 octets, an AS number at most 4, and so a peer at most 25
pub small_address : (k : ℕ) → address_size k ≤ 16
small_address k = go (eqb (k % 2) 1)
  where
    go : (b : Bool) → cond b 16 4 ≤ 16
    go true = omega arith
    go false = omega arith

small_number : (k : ℕ) → as_size k ≤ 4
small_number k = go (eqb (k / 2 % 2) 1)
  where
    go : (b : Bool) → cond b 4 2 ≤ 4
    go true = omega arith
    go false = omega arith

pub small_peer : (d : List ℕ) (at : ℕ) → peer_end d at ≤ at + 25
small_peer d at = omega (arith, small_address (get_or d at 0), small_number (get_or d at 0))
