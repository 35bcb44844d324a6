-- A contract over the page's formats speaks of the reading of the record that has the layout.
use mathlib.Core.Path.{◌≡◌, refl, ap, fun_ext}
use mathlib.Core.Bool.{Bool, true, false, cond}
use mathlib.Core.List.{List}
use Prim.Native.Nat.{ℕ, suc, ◌-◌, ◌≤◌}
use lib.Dec.{leb}
use lib.ListN.{length, drop}
use Rattle.form_spec.specs.Octets.{Octets, be}
use Rattle.form_spec.specs.Fmt.{bad, Fmt, end, test, field, read}
use Rattle.form_spec.specs.Words.{choose, num, skip, checked, tested, in_range}
use Rattle.form_spec.specs.Body.{many, read_body}
use Rattle.form_spec.specs.Shape.{entries, St, no_table, with_peers, plan}
use Rattle.form_spec.specs.Pass.{Seen, pass, whole, ◌⨾◌}
use Rattle.form_laws.proofs.Whole.{outcome_body, whole_body, outcome_free, pass_free}
use Rattle.form_laws.proofs.Many.{flat_body, whole_many}
use Rattle.page_spec.specs.Names.{sequence, family, safi, entry_count, peer_count}
use Rattle.page_spec.specs.Rib.{rib_head, generic_head, prefix, entry_rest, entry, entry_list, rib, rib_generic}
use Rattle.page_spec.specs.Peers.{table_head, peer, peer_list, peer_table}
use Rattle.page_spec.specs.TableDump.{table_dump}
use Rattle.page_spec.specs.Bgp4mp.{session, state_change, message}
use Rattle.page_spec.specs.Layout.{layout_for, stamped}
use Rattle.page_spec.specs.Chosen.{Unread, TableDump, PeerTable, Rib, RibGeneric, Change, Message}
use Rattle.form_spec.specs.Refusal.{refused}

-- where a table is in force, the items of a RIB record are the page's entries
pub plan_entries : (ns : List ℕ) (f : Fmt) → plan (with_peers ns) (entries f entry_rest) ≡ many f (entry (length ns))
unfolding plan entry
plan_entries ns f = refl

-- a RIB record is its head, then the count and the entries
pub rib_then : (most peers : ℕ) → rib most peers ≡ rib_head most (end 0) ⨾ entry_list peers
unfolding rib num prefix checked skip ◌⨾◌
rib_then most peers = refl

-- the family decides the prefix, in the head as in the whole
generic_choice : (b : Bool) (peers : ℕ) → choose b (prefix 32 (entry_list peers)) (prefix 128 (entry_list peers)) ≡ choose b (prefix 32 (end 0)) (prefix 128 (end 0)) ⨾ entry_list peers
unfolding choose prefix checked skip ◌⨾◌
generic_choice true peers = refl
generic_choice false peers = refl

pub generic_then : (peers : ℕ) → rib_generic peers ≡ generic_head (end 0) ⨾ entry_list peers
unfolding rib_generic num checked ◌⨾◌
generic_then peers =
    ap (field sequence 4 0) (fun_ext λ n.
    ap (field family 2 0) (fun_ext λ f.
    ap (test (cond (in_range 1 (be f) 2) 0 7) 2)
    (ap (field safi 1 0) (fun_ext λ s.
    ap (test (cond (in_range 1 (be s) 2) 0 7) 1) (generic_choice (leb (be f) 1) peers)))))

-- and so is a peer table
pub table_then : peer_table ≡ table_head (end 0) ⨾ peer_list
unfolding peer_table num tested ◌⨾◌
table_then = refl

-- ---- a contract's `whole` is the reading of the body that the type and subtype lay out

module _ {A : Type 0} (to : List Seen → A) (fault : ℕ → ℕ → A) (longest : ℕ) (m : List ℕ) (i : ℕ) (h : i ≤ length m) where
  pub table_dump_body : (st : St) (size : ℕ) → whole to fault (table_dump size) m i ≡ outcome_body to fault (table_dump size) i (read_body (plan st (layout_for longest (TableDump size))) i (drop i m))
  unfolding plan layout_for
  table_dump_body st size = whole_body to fault (table_dump size) m i h

  pub change-body : (st : St) (micro w : ℕ) → whole to fault (stamped micro (session w state_change)) m i
      ≡ outcome_body to fault (stamped micro (session w state_change)) i (read_body (plan st (layout_for longest (Change micro w))) i (drop i m))
  unfolding plan layout_for
  change-body st micro w = whole_body to fault (stamped micro (session w state_change)) m i h

  pub message-body : (st : St) (micro w : ℕ) → whole to fault (stamped micro (session w (message longest))) m i
      ≡ outcome_body to fault (stamped micro (session w (message longest))) i (read_body (plan st (layout_for longest (Message micro w))) i (drop i m))
  unfolding plan layout_for
  message-body st micro w = whole_body to fault (stamped micro (session w (message longest))) m i h

  -- contents that are carried unread: what is shown is where they start
  pub unread_body : (show : List Seen → ℕ → A) (st : St) (micro : ℕ) → pass (λ fs a p. show fs a) fault (stamped micro (end 0)) m i
      ≡ outcome_free show fault (stamped micro (end 0)) i (read_body (plan st (layout_for longest (Unread micro))) i (drop i m))
  unfolding plan layout_for
  unread_body show st micro = pass_free show fault (stamped micro (end 0)) m i h

  -- a layout that is refused, and a RIB record with no table in force
  pub refused_body : (st : St) (n place : ℕ) → read_body (plan st (layout_for longest (refused (suc n) place))) i (drop i m) ≡ bad (suc n) (i - (12 - place))
  unfolding plan layout_for read_body read
  refused_body st n place = refl

  pub untabled_body : (f g : Fmt) → read_body (plan no_table (entries f g)) i (drop i m) ≡ bad 12 (i - 6)
  unfolding plan read_body read
  untabled_body f g = refl

  module _ (oc : Octets (drop i m)) where
    pub table-body : (st : St) → whole to fault peer_table m i ≡ outcome_body to fault peer_table i (flat_body (read_body (plan st (layout_for longest PeerTable)) i (drop i m)))
    unfolding plan layout_for peer_list
    table-body st = rw table_then (whole_many to fault peer_count (table_head (end 0)) peer m i h oc)

    pub rib-body : (ns : List ℕ) (bits : ℕ) → whole to fault (rib bits (length ns)) m i
        ≡ outcome_body to fault (rib bits (length ns)) i (flat_body (read_body (plan (with_peers ns) (layout_for longest (Rib bits))) i (drop i m)))
    unfolding plan layout_for entry_list entry
    rib-body ns bits = rw (rib_then bits (length ns)) (whole_many to fault entry_count (rib_head bits (end 0)) (entry (length ns)) m i h oc)

    pub generic_body : (ns : List ℕ) → whole to fault (rib_generic (length ns)) m i
        ≡ outcome_body to fault (rib_generic (length ns)) i (flat_body (read_body (plan (with_peers ns) (layout_for longest RibGeneric)) i (drop i m)))
    unfolding plan layout_for entry_list entry
    generic_body ns = rw (generic_then (length ns)) (whole_many to fault entry_count (generic_head (end 0)) (entry (length ns)) m i h oc)
