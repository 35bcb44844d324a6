-- No layout places a fault before the record that it lays out.
use mathlib.Core.Bool.{Bool, true, false}
use Prim.Native.Nat.{ℕ, zero, suc, ◌/◌, ◌%◌}
use native.Mathlib.Omega.{arith}
use lib.Dec.{eqb, leb}
use Rattle.form_spec.specs.Octets.{be}
use Rattle.form_spec.specs.Fmt.{Fmt, end}
use Rattle.form_spec.specs.Words.{choose, num, skip, must, fail, checked, tested, area}
use Rattle.form_laws.proofs.Moved.{Inside, InsideLayout}
use Rattle.page_spec.specs.Bgp4mp.{addresses, session, state, state_change, message_rest, message}
use Rattle.page_spec.specs.Rib.{tiling, attributes, entry_rest, prefix, rib_head, generic_head}
use Rattle.page_spec.specs.TableDump.{table_dump_rest, table_dump}
use Rattle.page_spec.specs.Peers.{peer_rest, peer_sized, peer, table_head}
use Rattle.page_spec.specs.Layout.{kind, stamped, layout_for, layout}
use Rattle.page_spec.specs.Chosen.{Chosen, Unread, TableDump, PeerTable, Rib, RibGeneric, Change, Message}
use Rattle.std.specs.Prelude.{Err}

by_test : (t : Bool) (f g : Fmt) (i : ℕ) → Inside f i → Inside g i → Inside (choose t f g) i
unfolding choose
by_test true f g i h j = h
by_test false f g i h j = j

-- ---- types 16 and 17

module _ (f : Fmt) (h : (i : ℕ) → Inside f i) where
  in_addresses : (n i : ℕ) → Inside (addresses n f) i
  unfolding addresses skip Inside
  in_addresses n i = (omega arith, λ c. (omega arith, λ d. h _))

  in_session : (w i : ℕ) → Inside (session w f) i
  unfolding session num fail Inside
  in_session w i = (
    omega arith,
    λ p. (
      omega arith,
      λ l. (
        omega arith,
        λ n. (
          omega arith,
          λ k.
              by_test (eqb (be k) 1) _ _ _ (in_addresses 4 _)
              (by_test (eqb (be k) 2) _ _ _ (in_addresses 16 _) (omega arith, omega arith)),
        ),
      ),
    ),
  )

  in_stamped : (micro i : ℕ) → Inside (stamped micro f) i
  unfolding stamped num Inside
  in_stamped zero i = h i
  in_stamped (suc n) i = (omega arith, λ u. h _)

in_change : (i : ℕ) → Inside state_change i
unfolding state_change state checked Inside
in_change i = omega arith

in_message : (longest i : ℕ) → Inside (message longest) i
unfolding message message_rest num skip must area Inside
in_message longest i = omega arith

-- ---- types 12 and 13

in_table_dump : (size i : ℕ) → Inside (table_dump size) i
unfolding table_dump table_dump_rest attributes tiling num skip checked tested Inside
in_table_dump size i = omega arith

in_entry : (i : ℕ) → Inside entry_rest i
unfolding attributes tiling num tested Inside
in_entry i = omega arith

in_prefix : (bits i : ℕ) → Inside (prefix bits (end 0)) i
unfolding prefix checked skip Inside
in_prefix bits i = omega arith

in_rib : (bits i : ℕ) → Inside (rib_head bits (end 0)) i
unfolding num Inside
in_rib bits i = (omega arith, λ n. in_prefix bits _)

in_generic : (i : ℕ) → Inside (generic_head (end 0)) i
unfolding num checked Inside
in_generic i = (omega arith, λ n. (omega arith, λ f. (omega arith, (omega arith, λ s. (omega arith, by_test (leb (be f) 1) _ _ _ (in_prefix 32 _) (in_prefix 128 _))))))

in_peer_rest : (size w i : ℕ) → Inside (peer_rest size w) i
unfolding peer_rest num skip Inside
in_peer_rest size w i = omega arith

in_peer_sized : (size t i : ℕ) → Inside (peer_sized size t) i
unfolding peer_sized
in_peer_sized size t i = by_test (eqb (t / 2 % 2) 1) _ _ _ (in_peer_rest size 4 i) (in_peer_rest size 2 i)

in_peer : (i : ℕ) → Inside peer i
unfolding peer num Inside
in_peer i = (omega arith, λ t. (omega arith, λ b. by_test (eqb (be t % 2) 1) _ _ _ (in_peer_sized 16 (be t) _) (in_peer_sized 4 (be t) _)))

in_table : (i : ℕ) → Inside (table_head (end 0)) i
unfolding num tested Inside
in_table i = omega arith

-- ---- whatever the Type and the Subtype

in_kind : (longest : ℕ) (k : Chosen) → InsideLayout (layout_for longest k)
unfolding layout_for InsideLayout Inside
in_kind longest (Err why) = omega arith
in_kind longest (Unread micro) = in_stamped (end 0) (λ i. omega arith) micro 12
in_kind longest (TableDump size) = in_table_dump size 12
in_kind longest PeerTable = (in_table 12, in_peer 0)
in_kind longest (Rib bits) = (in_rib bits 12, in_entry 2)
in_kind longest RibGeneric = (in_generic 12, in_entry 2)
in_kind longest (Change micro w) = in_stamped (session w state_change) (in_session state_change in_change w) micro 12
in_kind longest (Message micro w) = in_stamped (session w (message longest)) (in_session (message longest) (in_message longest) w) micro 12

pub inside : (longest type sub : ℕ) → InsideLayout (layout longest type sub)
unfolding layout
inside longest type sub = in_kind longest (kind type sub)
