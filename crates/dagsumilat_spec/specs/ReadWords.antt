-- What `dagsumilat_read` tells of one record: 8 words that every record has, then 12 by its kind. What a kind does not have is 0; a part is
-- its offset from the record's header, and its size.
use Rattle.std.specs.Prelude.{List, [], ◌∷◌, ◌++◌, ℕ, replicate}
use Rattle.record_spec.specs.Answer.{of_body, fault, place, header_of}
use Rattle.record_spec.specs.declared.Part.{Part}
use Rattle.record_spec.specs.declared.Session.{Session}
use Rattle.record_spec.specs.declared.Route.{Route}
use Rattle.record_spec.specs.declared.Peers.{Peers}
use Rattle.record_spec.specs.declared.Routes.{Routes}
use Rattle.record_spec.specs.Shown.{Shown}
use Rattle.record_spec.specs.declared.Body.{Body}
use Rattle.record_spec.specs.declared.Body.TheVariants.{Unread, TableDump, PeerTable, Rib, RibGeneric, Change, Message}
use Rattle.dagsumilat_spec.specs.Answers.{words}

abbrev pub kind_in : Body → ℕ
kind_in (Unread c) = 1
kind_in (TableDump r) = 2
kind_in (PeerTable p) = 3
kind_in (Rib r) = 4
kind_in (RibGeneric f r) = 5
kind_in (Change s w) = 6
kind_in (Message s b) = 7

-- no octets, or a refusal: 0
abbrev pub kind_of : Shown → ℕ
kind_of x = of_body 0 kind_in x

-- fault, place, kind, timestamp, type, subtype, length, microseconds
abbrev pub head_words : Shown → List ℕ
head_words x =
    fault x
    ∷ place x
    ∷ kind_of x
    ∷ (header_of x).timestamp
    ∷ (header_of x).ty
    ∷ (header_of x).subtype
    ∷ (header_of x).length
    ∷ (header_of x).microseconds
    ∷ []

-- ---- the words of a body, from the 8th on

abbrev pub no_words : List ℕ
no_words = replicate 12 0

abbrev pub contents_words : Part → List ℕ
contents_words c = c.at ∷ c.size ∷ replicate 10 0

-- view, sequence, prefix, prefix length, status, originated, address, peer AS, attributes
abbrev pub route_words : Route → List ℕ
route_words r =
    r.view
    ∷ r.sequence
    ∷ r.prefix.at
    ∷ r.prefix.size
    ∷ r.bits
    ∷ r.status
    ∷ r.originated
    ∷ r.address.at
    ∷ r.address.size
    ∷ r.peer
    ∷ r.attributes.at
    ∷ r.attributes.size
    ∷ []

-- collector ID, name, count, peers
abbrev pub peers_words : Peers → List ℕ
peers_words p = p.collector ∷ p.name.at ∷ p.name.size ∷ p.count ∷ p.peers.at ∷ p.peers.size ∷ replicate 6 0

-- sequence, prefix length, prefix, count, entries; family and SAFI where there are any
abbrev pub rib_words : Routes → (family safi : ℕ) → List ℕ
rib_words r f i = r.sequence ∷ r.bits ∷ r.prefix.at ∷ r.prefix.size ∷ r.count ∷ r.entries.at ∷ r.entries.size ∷ f ∷ i ∷ replicate 3 0

-- peer AS, local AS, interface, family, peer address, local address; then three words of what the session met
abbrev pub session_words : Session → (a b c : ℕ) → List ℕ
session_words s a b c =
    s.peer
    ∷ s.local
    ∷ s.interface
    ∷ s.family
    ∷ s.theirs.at
    ∷ s.theirs.size
    ∷ s.ours.at
    ∷ s.ours.size
    ∷ a
    ∷ b
    ∷ c
    ∷ 0
    ∷ []

abbrev pub words_in : Body → List ℕ
words_in (Unread c) = contents_words c
words_in (TableDump r) = route_words r
words_in (PeerTable p) = peers_words p
words_in (Rib r) = rib_words r 0 0
words_in (RibGeneric f r) = rib_words r f.family f.safi
words_in (Change s w) = session_words s w.old w.new 0
words_in (Message s b) = session_words s b.message.at b.message.size b.kind

abbrev pub body_words : Shown → List ℕ
body_words x = of_body no_words words_in x

abbrev pub read_words : (array : List ℕ) → Shown → List ℕ
read_words a x = words a (head_words x ++ body_words x)
