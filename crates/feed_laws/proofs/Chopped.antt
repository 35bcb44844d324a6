-- The theorem of the feed: however a dump is chopped, what is shown of it, and the last word, are those of the walk over it whole.
use mathlib.Core.Path.{◌≡◌, refl, ap, ◌∙◌}
use mathlib.Core.List.{List, [], ◌∷◌, ◌++◌, append_assoc, append-nil}
use Prim.Native.Nat.{ℕ, suc}
use native.Mathlib.Omega.{arith}
use lib.ListN.{length}
use Rattle.form_spec.specs.Octets.{Octets}
use Rattle.form_spec.specs.Record.{Rec}
use Rattle.form_spec.specs.Dump.{Walk, stop, walk_all}
use Rattle.page_spec.specs.Layout.{layout}
use Rattle.walk_spec.specs.Walked.{befores, walked_of, walked}
use Rattle.walk_laws.proofs.Ahead.{ahead_all}
use Rattle.feed_spec.specs.declared.Last.{Last}
use Rattle.feed_spec.specs.declared.Last.TheVariants.{Open, End, Fault}
use Rattle.feed_spec.specs.declared.Feed.{Feed}
use Rattle.feed_spec.specs.Feed.{start}
use Rattle.feed_spec.specs.Chopped.{Call, Between, Told, after, told_by, Fairs, after_all, told_by_all, ShowsAll}
use Rattle.feed_laws.proofs.Feeding.{Feeding, FeedingAs, Closed, keeps}

-- before the first call
abbrev pub begun : List ℕ → Between
begun d = record { feed = start; held = []; left = d }

-- the walk over the dump d, where its feed has shown the records rs and this is its last word
abbrev pub Comes : (longest : ℕ) (d : List ℕ) → Last → List Rec → Type 0
Comes longest d Open rs = (w : Walk) × (walk_all (layout longest) d ≡ befores rs w)
Comes longest d End rs = walk_all (layout longest) d ≡ record { fault = 0; place = length d; recs = rs }
Comes longest d (Fault n p) rs = walk_all (layout longest) d ≡ record { fault = n; place = p; recs = rs }

module _ (longest : ℕ) where
  shows-append : (rs qs : List Rec) (xs ys : List Told) → ShowsAll longest rs xs → ShowsAll longest qs ys → ShowsAll longest (rs ++ qs) (xs ++ ys)
  shows-append [] qs [] ys h k = k
  shows-append (r ∷ rs) qs (x ∷ xs) ys h k = (h.0, shows-append rs qs xs ys h.1 k)
  shows-append [] qs (x ∷ xs) ys h k = elim h [ ]
  shows-append (r ∷ rs) qs [] ys h k = elim h [ ]

  shows-length : (rs : List Rec) (xs : List Told) → ShowsAll longest rs xs → length rs ≡ length xs
  shows-length [] [] h = refl
  shows-length (r ∷ rs) (x ∷ xs) h = ap suc (shows-length rs xs h.1)
  shows-length [] (x ∷ xs) h = elim h [ ]
  shows-length (r ∷ rs) [] h = elim h [ ]

  module _ (d : List ℕ) (oc : Octets d) where
    -- ---- by the invariant, call after call

    pub begins : Feeding longest d (begun d) []
    begins = record { ahead = ahead_all longest d; size = refl; wanting = omega arith; octets = refl }

    pub record KeptAll (b : Between) (rs : List Rec) (cs : List Call) : Type 0 where
      pub recs : List Rec
      pub feeding : Feeding longest d (after_all longest b cs) (rs ++ recs)
      pub shows : ShowsAll longest recs (told_by_all longest b cs)

    pub keeps_all : (cs : List Call) (b : Between) (rs : List Rec) → Feeding longest d b rs → Fairs longest b cs → KeptAll b rs cs
    keeps_all [] b rs h fair = record { recs = []; feeding = rw append-nil h; shows = tt }
    keeps_all (c ∷ cs) b rs h fair =
        let k = keeps longest d oc b rs h c fair.0 in
        let m = keeps_all cs (after longest b c) (rs ++ k.recs) k.feeding fair.1 in
        record {
          recs = k.recs ++ m.recs;
          feeding = rw append_assoc at m.feeding;
          shows = shows-append k.recs m.recs (told_by longest b c) (told_by_all longest (after longest b c) cs) k.shows m.shows;
        }

    module _ (cs : List Call) (fair : Fairs longest (begun d) cs) where
      abbrev finally : Feed
      finally = (after_all longest (begun d) cs).feed

      abbrev shown : List Told
      shown = told_by_all longest (begun d) cs

      all : KeptAll (begun d) [] cs
      all = keeps_all cs (begun d) [] begins fair

      -- ---- the theorem

      pub chopped_as_whole : (rs : List Rec) × ShowsAll longest rs shown × Comes longest d finally.last rs
      chopped_as_whole = (all.recs, all.shows, comes finally.last refl all.feeding)
        where
          comes : (l : Last) → finally.last ≡ l → FeedingAs longest d l (after_all longest (begun d) cs) all.recs → Comes longest d l all.recs
          comes Open e h = (_, h.ahead.whole)
          comes End e h = h.0.walk
          comes (Fault n p) e h = h.walk

      -- whatever was said, these records are the walk's first
      pub chopped_so_far : (rs : List Rec) × (w : Walk) × ShowsAll longest rs shown × (walk_all (layout longest) d ≡ befores rs w)
      chopped_so_far = let c = chopped_as_whole in let w = first finally.last c.0 c.2 in (c.0, w.0, c.1, w.1)
        where
          first : (l : Last) (rs : List Rec) → Comes longest d l rs → (w : Walk) × (walk_all (layout longest) d ≡ befores rs w)
          first Open rs h = h
          first End rs h = (stop 0 (length d), h ∙ rw append-nil refl)
          first (Fault n p) rs h = (stop n p, h ∙ rw append-nil refl)

      -- ---- in the terms of the walk's answer

      closed : (n p : ℕ) → Closed longest d n p finally.at all.recs → walked longest d ≡ record { fault = n; place = p; start = finally.at; records = length shown }
      unfolding walked
      closed n p h = ap walked_of h.walk ∙ rw (h.start, shows-length all.recs shown all.shows) refl

      pub end_as_walked : finally.last ≡ End → (finally.at ≡ length d) × (walked longest d ≡ record { fault = 0; place = length d; start = length d; records = length shown })
      end_as_walked e = let h = rw e at all.feeding in (h.1, closed 0 (length d) h.0 ∙ rw h.1 refl)

      pub fault_as_walked : (n p : ℕ) → finally.last ≡ Fault n p → walked longest d ≡ record { fault = n; place = p; start = finally.at; records = length shown }
      fault_as_walked n p e = closed n p (rw e at all.feeding)
