-- A dump handed over call by call, however it is chopped: what is shown, and what is asked of who hands it over (document 02, change request 5).
use Rattle.std.specs.Prelude.{◌≡◌, Bool, true, List, [], ◌∷◌, ◌++◌, ℕ, ◌+◌, ◌^◌, ◌≤◌, ◌<◌, length, take, drop}
use Rattle.form_spec.specs.Record.{Rec, write}
use Rattle.record_spec.specs.Table.{Table}
use Rattle.record_spec.specs.One.{read_one}
use Rattle.record_spec.specs.Agrees.{Same}
use Rattle.feed_spec.specs.declared.Feed.{Feed}
use Rattle.feed_spec.specs.declared.Said.{Said}
use Rattle.feed_spec.specs.declared.Said.TheVariants.{More, Record, End, Fault}
use Rattle.feed_spec.specs.declared.Fed.{Fed}
use Rattle.feed_spec.specs.Feed.{size_of, feeds, feed_leaves}

-- a call: how many of the octets not taken yet are handed over (all, where there are fewer; none is an empty chunk), the sender's word, and the
-- room that is lent
pub record Call : Type 0 where
  pub many : ℕ
  pub ended : Bool
  pub room : List ℕ

-- between two calls: the feed, what the room holds of the record at hand, and the octets of the dump that were not taken yet
pub record Between : Type 0 where
  pub feed : Feed
  pub held : List ℕ
  pub left : List ℕ

-- a record that was shown: its octets, and the table that its reader is to be told
pub record Told : Type 0 where
  pub octets : List ℕ
  pub table : Table

module _ (longest : ℕ) where
  abbrev pub chunk_of : Between → Call → List ℕ
  chunk_of b c = take c.many b.left

  abbrev pub called : Between → Call → Fed
  called b c = feeds longest b.feed (chunk_of b c) c.ended c.room

  abbrev pub room_after : Between → Call → List ℕ
  room_after b c = feed_leaves b.feed (chunk_of b c) c.room (called b c)

  -- what was not taken is still to be handed over
  abbrev pub after : Between → Call → Between
  after b c =
      let r = called b c in
      record { feed = r.feed; held = take r.feed.taken (room_after b c); left = drop r.taken b.left }

  -- a record shown lies at the room's start
  abbrev pub told : Table → (room : List ℕ) → Said → List Told
  told t room More = []
  told t room (Record size) = record { octets = take size room; table = t } ∷ []
  told t room End = []
  told t room (Fault n p) = []

  abbrev pub told_by : Between → Call → List Told
  told_by b c = told b.feed.table (room_after b c) (called b c).said

  -- what is asked of a call
  pub record Fair (b : Between) (c : Call) : Type 0 where
    -- the room as the call before left it
    pub kept : take b.feed.taken c.room ≡ b.held
    pub header : 12 ≤ length c.room
    -- the record at hand, once its header is there, goes into the room and into 64 bits
    pub fits : let s = b.held ++ chunk_of b c in 12 ≤ length s → (size_of s ≤ length c.room) × (b.feed.at + size_of s < 2 ^ 64)
    -- the sender's word is given when all that is left is handed over
    pub honest : c.ended ≡ true → length b.left ≤ c.many

  -- calls one after another
  abbrev pub Fairs : Between → List Call → Type 0
  Fairs b [] = Unit
  Fairs b (c ∷ cs) = Fair b c × Fairs (after b c) cs

  abbrev pub after_all : Between → List Call → Between
  after_all b [] = b
  after_all b (c ∷ cs) = after_all (after b c) cs

  abbrev pub told_by_all : Between → List Call → List Told
  told_by_all b [] = []
  told_by_all b (c ∷ cs) = told_by b c ++ told_by_all (after b c) cs

  -- what was shown is the record: its octets, and, read where this table is told, its fields
  pub record Shows (r : Rec) (x : Told) : Type 0 where
    pub octets : x.octets ≡ write r
    pub fields : Same longest x.octets r (read_one longest x.table x.octets)

  -- these records, one by one
  abbrev pub ShowsAll : List Rec → List Told → Type 0
  ShowsAll [] [] = Unit
  ShowsAll [] (x ∷ xs) = ⊥
  ShowsAll (r ∷ rs) [] = ⊥
  ShowsAll (r ∷ rs) (x ∷ xs) = Shows r x × ShowsAll rs xs
