-- The words of a good record tell all that reading shows: what is shown can be had back from them.
use mathlib.Core.Path.{◌≡◌, refl, sym, ap, ◌∙◌}
use mathlib.Core.List.{List, ◌++◌}
use Prim.Native.Nat.{ℕ}
use lib.Dec.{eqb}
use lib.ListN.{length, get_or}
use Rattle.form_spec.specs.Words.{◌$◌, choose}
use Rattle.record_spec.specs.declared.Header.{Header}
use Rattle.record_spec.specs.declared.Part.{Part}
use Rattle.record_spec.specs.declared.Session.{Session}
use Rattle.record_spec.specs.declared.Route.{Route}
use Rattle.record_spec.specs.declared.Peers.{Peers}
use Rattle.record_spec.specs.declared.Routes.{Routes}
use Rattle.record_spec.specs.Shown.{Shown, Good}
use Rattle.record_spec.specs.declared.Body.{Body}
use Rattle.record_spec.specs.declared.Body.TheVariants.{Unread, TableDump, PeerTable, Rib, RibGeneric, Change, Message}
use Rattle.dagsumilat_spec.specs.ReadWords.{head_words, body_words, read_words}
use Rattle.dagsumilat_laws.proofs.Words.{all_words}

module _ (w : List ℕ) where
  abbrev word : ℕ → ℕ
  word i = get_or w i 0

  abbrev part_by : (at size : ℕ) → Part
  part_by i j = record { at = word i; size = word j }

  abbrev header_by : Header
  header_by = record { timestamp = word 3; ty = word 4; subtype = word 5; length = word 6; microseconds = word 7 }

  abbrev route_by : Route
  route_by =
      record {
        view = word 8;
        sequence = word 9;
        prefix = part_by 10 11;
        bits = word 12;
        status = word 13;
        originated = word 14;
        address = part_by 15 16;
        peer = word 17;
        attributes = part_by 18 19;
      }

  abbrev peers_by : Peers
  peers_by = record { collector = word 8; name = part_by 9 10; count = word 11; peers = part_by 12 13 }

  abbrev routes_by : Routes
  routes_by = record { sequence = word 8; bits = word 9; prefix = part_by 10 11; count = word 12; entries = part_by 13 14 }

  abbrev session_by : Session
  session_by = record { peer = word 8; local = word 9; interface = word 10; family = word 11; theirs = part_by 12 13; ours = part_by 14 15 }

  abbrev body_by : Body
  body_by =
      choose (eqb (word 2) 1) (Unread (part_by 8 9))
      $ choose (eqb (word 2) 2) (TableDump route_by)
      $ choose (eqb (word 2) 3) (PeerTable peers_by)
      $ choose (eqb (word 2) 4) (Rib routes_by)
      $ choose (eqb (word 2) 5) (RibGeneric (record { family = word 15; safi = word 16 }) routes_by)
      $ choose (eqb (word 2) 6) (Change session_by (record { old = word 16; new = word 17 }))
      $ Message session_by (record { message = part_by 16 17; kind = word 18 })

  abbrev shown_by : Shown
  shown_by = Good header_by body_by

had_back : (h : Header) (b : Body) → shown_by (head_words (Good h b) ++ body_words (Good h b)) ≡ Good h b
unfolding choose
had_back h (Unread c) = refl
had_back h (TableDump r) = refl
had_back h (PeerTable p) = refl
had_back h (Rib r) = refl
had_back h (RibGeneric f r) = refl
had_back h (Change s w) = refl
had_back h (Message s b) = refl

-- good records with the same words are the same, whatever the arrays held before
pub same_words : (a c : List ℕ) (h k : Header) (x y : Body) → length a ≡ 20 → length c ≡ 20 → read_words a (Good h x) ≡ read_words c (Good k y) → Good h x ≡ Good k y
same_words a c h k x y l m e =
    sym (had_back h x) ∙ ap shown_by (sym (all_words a (Good h x) l) ∙ e ∙ all_words c (Good k y) m) ∙ had_back k y
