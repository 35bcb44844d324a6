-- The invariant of a feed: between two calls the room and what is left make what is ahead of the walk, and a last word is the walk's.
use mathlib.Core.Path.{◌≡◌, refl, sym, ap, ◌∙◌, subst}
use mathlib.Core.Bool.{Bool, true, false, false≢true}
use mathlib.Core.List.{List, [], ◌∷◌, ◌++◌, append_assoc, append-nil}
use Prim.Native.Nat.{ℕ, ◌+◌, ◌-◌, ◌≤◌, ◌<◌}
use native.Mathlib.Omega.{arith}
use native.Mathlib.Nat.{le_refl}
use lib.Dec.{ltb}
use lib.ListN.{length, take, drop, length-take, length-append, take-append-drop}
use lib.Seq.{length-take-le, take_all, take-length, take-take, take_at, drop-drop, drop-append-add}
use Rattle.octets_spec.specs.Over.{over}
use borrow.Author.Tests.{ltb-true, ltb-false}
use Rattle.form_spec.specs.Octets.{Octets}
use Rattle.form_spec.specs.Words.{choose}
use Rattle.form_spec.specs.Record.{Rec, write}
use Rattle.form_spec.specs.Dump.{writes, walk_all}
use Rattle.page_spec.specs.Layout.{layout}
use Rattle.record_spec.specs.Table.{Table}
use Rattle.record_spec.specs.One.{read_one}
use Rattle.walk_spec.specs.declared.Item.{Item}
use Rattle.walk_spec.specs.Step.{Step}
use Rattle.walk_spec.specs.Step as step
use Rattle.walk_spec.specs.Steps.{step_of, step_at}
use Rattle.walk_laws.proofs.Ahead.{Ahead, ends, faults}
use Rattle.walk_laws.proofs.Goes.{goes_to}
use Rattle.feed_spec.specs.declared.Last.{Last}
use Rattle.feed_spec.specs.declared.Last.TheVariants.{Open, End, Fault}
use Rattle.feed_spec.specs.declared.Feed.{Feed}
use Rattle.feed_spec.specs.declared.Reach.{Reach}
use Rattle.feed_spec.specs.declared.Reach.TheVariants.{Short, Large, Whole}
use Rattle.feed_spec.specs.declared.Said.TheVariants as said
use Rattle.feed_spec.specs.declared.Fed.{Fed}
use Rattle.feed_spec.specs.Feed.{size_of, reach, unfit, there, taken_by, stays, takes, shows, tells, answers, goes_on, feed_leaves}
use Rattle.feed_spec.specs.Chopped.{Call, Between, chunk_of, called, told, Fair, ShowsAll}
use Rattle.feed_laws.proofs.Whole.{size_first, read_first}
use Rattle.feed_laws.proofs.Sized.{record_sized}
use Rattle.feed_laws.proofs.Past.{past}
use Rattle.feed_laws.proofs.Reach.{Reached, IsShort, not_large, reached}
use Rattle.feed_laws.proofs.Room.{front_after}
use Rattle.feed_laws.proofs.Goes.{not_unfit, goes_on_lem, end_again, fault_again}
use Rattle.std.specs.Prelude.{Err}

module _ (longest : ℕ) (d : List ℕ) where
  -- without a last word: the records rs are behind, and the record at hand is not all there yet
  pub record Going (b : Between) (rs : List Rec) : Type 0 where
    pub ahead : Ahead longest d b.feed.at b.feed.table rs
    pub size : length b.held ≡ b.feed.taken
    pub wanting : length b.held < size_of b.held
    pub octets : b.held ++ b.left ≡ drop b.feed.at d

  -- with one: it is the walk's, behind the records rs, which end at `at`
  pub record Closed (n p at : ℕ) (rs : List Rec) : Type 0 where
    pub walk : walk_all (layout longest) d ≡ record { fault = n; place = p; recs = rs }
    pub start : length (writes rs) ≡ at

  abbrev pub FeedingAs : Last → Between → List Rec → Type 0
  FeedingAs Open b rs = Going b rs
  FeedingAs End b rs = Closed 0 (length d) b.feed.at rs × (b.feed.at ≡ length d)
  FeedingAs (Fault n p) b rs = Closed n p b.feed.at rs

  abbrev pub Feeding : Between → List Rec → Type 0
  Feeding b rs = FeedingAs b.feed.last b rs

  -- what follows where a call answers r, which shows the records qs
  module _ (b : Between) (c : Call) where
    abbrev leaves : Fed → List ℕ
    leaves r = feed_leaves b.feed (chunk_of longest b c) c.room r

    abbrev then : Fed → Between
    then r = record { feed = r.feed; held = take r.feed.taken (leaves r); left = drop r.taken b.left }

    pub record Kept (rs : List Rec) (r : Fed) : Type 0 where
      pub recs : List Rec
      pub feeding : Feeding (then r) (rs ++ recs)
      pub shows : ShowsAll longest recs (told longest b.feed.table (leaves r) r.said)

    -- nothing is shown
    quiet : (rs : List Rec) (r : Fed) → Feeding (then r) rs → told longest b.feed.table (leaves r) r.said ≡ [] → Kept rs r
    quiet rs r h e = record { recs = []; feeding = rw append-nil h; shows = rw e tt }

  -- ---- a fair call of a feed without a last word

  module _ (oc : Octets d) (b : Between) (rs : List Rec) (g : Going b rs) (c : Call) (fair : Fair longest b c) where
    abbrev f : Feed
    f = b.feed

    abbrev chunk : List ℕ
    chunk = chunk_of longest b c

    abbrev s : List ℕ
    s = b.held ++ chunk

    -- the room is the one that was kept, so it holds what was taken
    holds : f.taken ≤ length c.room
    holds =
        let l : length (take f.taken c.room) ≡ f.taken = ap length fair.kept ∙ g.size in
        omega (arith, rw length-take at l)

    long : length s ≡ f.taken + length chunk
    long = rw (length-append, g.size) refl

    -- no octet is lost
    all : s ++ drop c.many b.left ≡ drop f.at d
    all = append_assoc b.held chunk (drop c.many b.left) ∙ ap (◌++◌ b.held) (take-append-drop c.many b.left) ∙ g.octets

    -- it was not all there before
    started : f.taken < size_of s
    started = go (ltb (length b.held) 12) refl
      where
        go : (x : Bool) → ltb (length b.held) 12 ≡ x → f.taken < size_of s
        go true e = omega (arith, ltb-true (length b.held) 12 e, g.size)
        go false e = omega (arith, size_first b.held chunk (ltb-false (length b.held) 12 e), g.wanting, g.size)

    -- ---- what the call finds is what a step over the dump finds

    abbrev found : Step
    found = step_of f.table f.at (read_one longest f.table s)

    found_whole : size_of s ≤ length s → found ≡ step_at longest f.table d f.at
    unfolding step_at
    found_whole h =
        let e : read_one longest f.table s ≡ read_one longest f.table (drop f.at d) = sym (read_first longest f.table s (drop c.many b.left) h) ∙ ap (read_one longest f.table) all in
        ap (step_of f.table f.at) e

    -- with the word nothing is left to come
    found_last : c.ended ≡ true → found ≡ step_at longest f.table d f.at
    unfolding step_at
    found_last h =
        let e : s ≡ drop f.at d = ap (◌++◌ b.held) (take_all c.many b.left (fair.honest h)) ∙ g.octets in
        ap (λ (x : List ℕ). step_of f.table f.at (read_one longest f.table x)) e

    -- ---- n octets of the chunk are taken

    module _ (n : ℕ) (in_chunk : n ≤ length chunk) where
      abbrev laid : List ℕ
      laid = over c.room f.taken (take n chunk)

      front : take (f.taken + n) laid ≡ b.held ++ take n chunk
      front = rw (← fair.kept) (front_after c.room chunk f.taken n holds in_chunk)

      -- what is handed over and what is still left
      parted : take n chunk ++ drop n b.left ≡ b.left
      parted =
          let h : n ≤ c.many = omega (arith, rw length-take at in_chunk) in
          ap (λ (x : List ℕ). x ++ drop n b.left) (take-take n c.many b.left h) ∙ take-append-drop n b.left

      -- what the room holds then, and what is left
      still : (b.held ++ take n chunk) ++ drop n b.left ≡ drop f.at d
      still = append_assoc b.held (take n chunk) (drop n b.left) ∙ ap (◌++◌ b.held) parted ∙ g.octets

      -- behind the octets taken is what is left
      behind : drop n b.left ≡ drop (f.at + (f.taken + n)) d
      behind =
          let e : drop (f.taken + n) (b.held ++ b.left) ≡ drop n b.left = rw g.size at (drop-append-add b.held b.left n) in
          sym e ∙ ap (drop (f.taken + n)) g.octets ∙ drop-drop (f.taken + n) f.at d

      -- a record that ends with them lies at the room's start
      lies : (m : ℕ) → m ≡ f.taken + n → take m laid ≡ take m (drop f.at d)
      lies m l =
          let k : length (b.held ++ take n chunk) ≡ m = rw (length-append, g.size, length-take-le n chunk in_chunk) (sym l) in
          ap (λ (x : ℕ). take x laid) l ∙ front ∙ sym (take_at (b.held ++ take n chunk) (drop n b.left) m k) ∙ ap (take m) still

      -- and is shown
      shown : (i : Item) (u : Table) → found ≡ step.Record i u → step_at longest f.table d f.at ≡ step.Record i u → 12 + i.length ≡ f.taken + n → Kept b c rs (shows f n (12 + i.length) u)
      unfolding feed_leaves
      shown i u e w l =
          let p = past longest d oc f.at f.table rs g.ahead i u w in
          let z = record_sized longest f.table f.at i u s e in
          let o : take (12 + i.length) laid ≡ write p.rec = lies (12 + i.length) l ∙ p.octets in
          record {
            recs = p.rec ∷ [];
            feeding = record {
              ahead = subst (λ (k : ℕ). Ahead longest d k u (rs ++ (p.rec ∷ []))) z.next p.ahead;
              size = refl;
              wanting = omega arith;
              octets = behind ∙ ap (λ (k : ℕ). drop (f.at + k) d) (sym l);
            };
            shows = (record { octets = o; fields = rw o p.alone }, tt);
          }

      -- what reading says is what the walk does there
      pub tells-kept : (x : Step) → found ≡ x → found ≡ step_at longest f.table d f.at → (size_of s ≤ length s → f.taken + n ≡ size_of s) → Kept b c rs (tells f n x)
      tells-kept step.End e w h =
          let a = g.ahead in
          let z : step_at longest f.table d f.at ≡ step.End = sym w ∙ e in
          let l : f.at ≡ length d = (goes_to longest d oc f.at a.bound f.table a.st a.tells step.End z).here in
          quiet b c rs _ (record { walk = ends longest d oc f.at f.table rs a z ∙ rw l refl; start = a.ended }, l) refl
      tells-kept (Err why) e w h = quiet b c rs _ (record { walk = faults longest d oc f.at f.table rs g.ahead why.number why.place (sym w ∙ e); start = g.ahead.ended }) refl
      tells-kept (step.Record i u) e w h =
          let z = record_sized longest f.table f.at i u s e in
          shown i u e (sym w ∙ e) (z.size ∙ sym (h z.there))

    -- ---- by how far the record at hand has come

    -- all of the chunk is taken, and octets are still missing
    more : IsShort c.room s → Kept b c rs (takes f (length chunk) Open said.More)
    unfolding feed_leaves
    more h =
        let e : take (f.taken + length chunk) (laid (length chunk) (le_refl (length chunk))) ≡ s = front (length chunk) (le_refl (length chunk)) ∙ ap (◌++◌ b.held) (take-length chunk) in
        let o : s ++ drop (length chunk) b.left ≡ drop f.at d = rw (take-length chunk) at (still (length chunk) (le_refl (length chunk))) in
        quiet b c rs _ (rw e (record { ahead = g.ahead; size = long; wanting = h.missing; octets = o })) refl

    short : IsShort c.room s → (x : Bool) → c.ended ≡ x → Kept b c rs (choose x (tells f (length chunk) found) (takes f (length chunk) Open said.More))
    unfolding choose
    short h true e = tells-kept (length chunk) (le_refl (length chunk)) found refl (found_last e) (λ z. absurd (omega (arith, h.missing)))
    short h false e = more h

    by_reach : (r : Reach) → Reached f.at c.room s r → Kept b c rs (answers f (taken_by f chunk r) c.ended found r)
    by_reach Short h = short h c.ended refl
    by_reach Large h =
        let l = fair.fits h.header in
        absurd (false≢true (sym (not_large f.at c.room (size_of s) l.0 l.1) ∙ h.large))
    by_reach (Whole size) h =
        let n : size - f.taken ≤ length chunk = omega (arith, h.own, h.there, long) in
        tells-kept (size - f.taken) n found refl (found_whole h.there) (λ z. omega (arith, h.own, started))

    fit : unfit f c.room ≡ false
    fit = not_unfit f c.room (record { header = fair.header; holds = holds })

    at_hand : there f chunk c.room ≡ s
    unfolding there
    at_hand = ap (λ (x : List ℕ). x ++ chunk) fair.kept

    pub goes : f.last ≡ Open → called longest b c ≡ goes_on longest f chunk c.ended c.room s
    goes e = goes_on_lem longest f chunk c.ended c.room e fit ∙ ap (goes_on longest f chunk c.ended c.room) at_hand

    pub open_kept : f.last ≡ Open → Kept b c rs (called longest b c)
    open_kept e = subst (Kept b c rs) (sym (goes e)) (by_reach (reach f.at c.room s) (reached f.at c.room s fair.header))

  -- ---- a fair call keeps the invariant

  by_last : (b : Between) (c : Call) (rs : List Rec) (l : Last) → b.feed.last ≡ l → FeedingAs l b rs → Octets d → Fair longest b c → Kept b c rs (called longest b c)
  by_last b c rs Open e h oc fair = open_kept oc b rs h c fair e
  by_last b c rs End e h oc fair = subst (Kept b c rs) (sym (end_again longest b.feed _ _ _ e)) (quiet b c rs (stays b.feed said.End) (rw e h) refl)
  by_last b c rs (Fault n p) e h oc fair = subst (Kept b c rs) (sym (fault_again longest b.feed _ _ _ n p e)) (quiet b c rs (stays b.feed (said.Fault n p)) (rw e h) refl)

  pub keeps : Octets d → (b : Between) (rs : List Rec) → Feeding b rs → (c : Call) → Fair longest b c → Kept b c rs (called longest b c)
  keeps oc b rs h c fair = by_last b c rs b.feed.last refl h oc fair
