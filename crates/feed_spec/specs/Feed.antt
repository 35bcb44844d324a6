-- One call of a feed: what it says of a chunk, how many octets of it are taken, and what the feed and the room are afterwards (document 02,
-- change request 5).
use Rattle.std.specs.Prelude.{Bool, ◌||◌, List, ◌++◌, ℕ, ◌+◌, ◌-◌, ◌^◌, leb, ltb, length, take, Err}
use Rattle.form_spec.specs.Words.{◌$◌, choose}
use Rattle.octets_spec.specs.Be.{num_at}
use Rattle.octets_spec.specs.Over.{over}
use Rattle.record_spec.specs.Table.{Table, Absent}
use Rattle.record_spec.specs.One.{read_one}
use Rattle.walk_spec.specs.Step.{Step}
use Rattle.walk_spec.specs.Step as step
use Rattle.walk_spec.specs.Steps.{step_of}
use Rattle.feed_spec.specs.declared.Last.{Last}
use Rattle.feed_spec.specs.declared.Last.TheVariants as last
use Rattle.feed_spec.specs.declared.Feed.{Feed}
use Rattle.feed_spec.specs.declared.Reach.{Reach}
use Rattle.feed_spec.specs.declared.Reach.TheVariants.{Short, Large, Whole}
use Rattle.feed_spec.specs.declared.Said.{Said}
use Rattle.feed_spec.specs.declared.Said.TheVariants.{More, Record, End, Fault}
use Rattle.feed_spec.specs.declared.Fed.{Fed}

-- nothing was taken yet
abbrev pub start : Feed
start = record { at = 0; taken = 0; table = Absent; last = last.Open }

-- the octets that a record must have by its Length, where its header is there
abbrev pub size_of : List ℕ → ℕ
size_of s = 12 + num_at s 8 4

-- a record of so many octets does not go into the room, or leads past 64 bits
unfoldable pub too_large : (at : ℕ) (room : List ℕ) (size : ℕ) → Bool
too_large at room size = ltb (length room) size || leb (2 ^ 64) (at + size)

-- how far the record that starts s, at `at`, has come
unfoldable pub reach : (at : ℕ) (room s : List ℕ) → Reach
reach at room s =
    choose (ltb (length s) 12) Short
    $ choose (too_large at room (size_of s)) Large
    $ choose (ltb (length s) (size_of s)) Short (Whole (size_of s))

-- a room below a header, or below the octets that it holds
unfoldable pub unfit : Feed → (room : List ℕ) → Bool
unfit f room = ltb (length room) 12 || ltb (length room) f.taken

-- the octets of the record at hand that are there: those that the room holds, then the chunk's
unfoldable pub there : Feed → (chunk room : List ℕ) → List ℕ
there f chunk room = take f.taken room ++ chunk

-- how many octets of the chunk are taken: all, or up to the header's last, or up to the record's
abbrev pub taken_by : Feed → (chunk : List ℕ) → Reach → ℕ
taken_by f chunk Short = length chunk
taken_by f chunk Large = 12 - f.taken
taken_by f chunk (Whole size) = size - f.taken

-- nothing is taken, and the feed is as it was
abbrev pub stays : Feed → Said → Fed
stays f x = record { said = x; taken = 0; feed = f }

-- n octets more of the record at hand are taken
abbrev pub takes : Feed → (n : ℕ) → Last → Said → Fed
takes f n l x = record { said = x; taken = n; feed = record { at = f.at; taken = f.taken + n; table = f.table; last = l } }

-- with n octets more the record at hand is shown, of so many octets; the feed goes on behind it, where u is in force
abbrev pub shows : Feed → (n size : ℕ) (u : Table) → Fed
shows f n size u = record { said = Record size; taken = n; feed = record { at = f.at + size; taken = 0; table = u; last = last.Open } }

-- what reading says of the record at hand
abbrev pub tells : Feed → (n : ℕ) → Step → Fed
tells f n step.End = takes f n last.End End
tells f n (Err why) = takes f n (last.Fault why.number why.place) (Fault why.number why.place)
tells f n (step.Record i u) = shows f n (12 + i.length) u

-- octets that are missing are waited for until the sender's word
abbrev pub answers : Feed → (n : ℕ) (ended : Bool) → Step → Reach → Fed
answers f n ended x Short = choose ended (tells f n x) (takes f n last.Open More)
answers f n ended x Large = takes f n (last.Fault 18 f.at) (Fault 18 f.at)
answers f n ended x (Whole size) = tells f n x

-- a feed without a last word, in a room that will do; s is what is there of the record at hand
abbrev pub goes_on : (longest : ℕ) → Feed → (chunk : List ℕ) (ended : Bool) (room s : List ℕ) → Fed
goes_on longest f chunk ended room s =
    let r = reach f.at room s in answers f (taken_by f chunk r) ended (step_of f.table f.at (read_one longest f.table s)) r

-- the last word is repeated
abbrev pub unless_said : Feed → Last → Fed → Fed
unless_said f last.Open x = x
unless_said f last.End x = stays f End
unless_said f (last.Fault n p) x = stays f (Fault n p)

-- `longest` counts the octets of the longest BGP message
unfoldable pub feeds : (longest : ℕ) → Feed → (chunk : List ℕ) (ended : Bool) (room : List ℕ) → Fed
feeds longest f chunk ended room =
    unless_said f f.last
    $ choose (unfit f room) (stays f (Fault 18 0))
    $ goes_on longest f chunk ended room (there f chunk room)

-- the room afterwards: what was taken lies behind what it held, and the rest is as it was
unfoldable pub feed_leaves : Feed → (chunk room : List ℕ) → Fed → List ℕ
feed_leaves f chunk room r = over room f.taken (take r.taken chunk)
