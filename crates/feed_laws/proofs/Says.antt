-- What one call says, takes and leaves, for any feed, chunk, word and room.
use mathlib.Core.Path.{◌≡◌, refl, sym, ap, ◌∙◌, subst}
use mathlib.Core.Bool.{Bool, true, false}
use mathlib.Core.Logic.{◌⊎◌}
use mathlib.Core.List.{List}
use Prim.Native.Nat.{ℕ, ◌+◌, ◌-◌, ◌≤◌, ◌<◌}
use native.Mathlib.Omega.{arith}
use native.Mathlib.Nat.{add-zero, le_refl}
use lib.ListN.{length, take, drop, length-append, take-append-drop}
use lib.Seq.{length-take-le}
use Rattle.form_spec.specs.Words.{choose}
use Rattle.octets_spec.specs.Over.{over}
use Rattle.record_spec.specs.One.{read_one}
use Rattle.walk_spec.specs.Steps.{step_of}
use Rattle.walk_spec.specs.Step.{Step}
use Rattle.walk_spec.specs.Step as step
use Rattle.feed_spec.specs.declared.Last.TheVariants as last
use Rattle.feed_spec.specs.declared.Feed.{Feed}
use Rattle.feed_spec.specs.declared.Reach.{Reach}
use Rattle.feed_spec.specs.declared.Reach.TheVariants.{Short, Large, Whole}
use Rattle.feed_spec.specs.declared.Said.{Said}
use Rattle.feed_spec.specs.declared.Said.TheVariants.{More, End, Fault}
use Rattle.feed_spec.specs.declared.Fed.{Fed}
use Rattle.feed_spec.specs.Feed.{size_of, too_large, reach, there, taken_by, stays, takes, tells, answers, goes_on, feeds, feed_leaves}
use Rattle.feed_laws.proofs.Goes.{Fit, is_unfit, not_unfit, end_again, fault_again, unfit-stays, goes_on_lem, by_way}
use Rattle.feed_laws.proofs.Reach.{Reached, reached, reach_large}
use Rattle.feed_laws.proofs.Room.{front_after, back_after, length_after, taken_there}
use Rattle.std.specs.Prelude.{Err}

module _ (longest : ℕ) (f : Feed) (chunk : List ℕ) (ended : Bool) (room : List ℕ) where
  abbrev call : Fed
  call = feeds longest f chunk ended room

  abbrev leaves : Fed → List ℕ
  leaves r = feed_leaves f chunk room r

  abbrev s : List ℕ
  s = there f chunk room

  -- ---- a call that takes nothing

  -- changes no octet of the room, however many it should hold
  nothing_laid : (x : Said) → leaves (stays f x) ≡ room
  unfolding feed_leaves over
  nothing_laid x = rw add-zero (take-append-drop f.taken room)

  stays_there : (x : Said) → call ≡ stays f x → (call ≡ stays f x) × (leaves call ≡ room)
  stays_there x e = (e, ap leaves e ∙ nothing_laid x)

  -- the end, once said, is said again
  pub end_repeats : f.last ≡ last.End → (call ≡ stays f End) × (leaves call ≡ room)
  end_repeats e = stays_there End (end_again longest f chunk ended room e)

  pub fault_repeats : (n p : ℕ) → f.last ≡ last.Fault n p → (call ≡ stays f (Fault n p)) × (leaves call ≡ room)
  fault_repeats n p e = stays_there (Fault n p) (fault_again longest f chunk ended room n p e)

  pub unfit-room : f.last ≡ last.Open → (length room < 12) ⊎ (length room < f.taken) → (call ≡ stays f (Fault 18 0)) × (leaves call ≡ room)
  unfit-room e h = stays_there (Fault 18 0) (unfit-stays longest f chunk ended room e (is_unfit f room h))

  -- the octets of the record at hand, where the room holds as many as were taken
  long : Fit f room → length s ≡ f.taken + length chunk
  unfolding there
  long fit = rw (length-append, length-take-le f.taken room fit.holds) refl

  -- ---- a record that is too large, before its other octets and its type are looked at

  pub too_large_lem : f.last ≡ last.Open → Fit f room → 12 ≤ length s → too_large f.at room (size_of s) ≡ true
      → call ≡ takes f (12 - f.taken) (last.Fault 18 f.at) (Fault 18 f.at)
  too_large_lem e fit h l = goes_on_lem longest f chunk ended room e (not_unfit f room fit) ∙ rw (reach_large f.at room s h l) refl

  -- ---- how many octets are taken

  -- no more than the chunk has, nor than goes into the room
  pub record Takes (n : ℕ) : Type 0 where
    pub there_is : n ≤ length chunk
    pub goes_in : Fit f room → f.taken + n ≤ length room

  module _ (n : ℕ) (x : Step) where
    told_taken : (y : Step) → (tells f n y).taken ≡ n
    told_taken step.End = refl
    told_taken (Err why) = refl
    told_taken (step.Record i u) = refl

    short_taken : (b : Bool) → (choose b (tells f n x) (takes f n last.Open More)).taken ≡ n
    unfolding choose
    short_taken true = told_taken x
    short_taken false = refl

    answer_taken : (r : Reach) → (answers f n ended x r).taken ≡ n
    answer_taken Short = short_taken ended
    answer_taken Large = refl
    answer_taken (Whole size) = told_taken x

  takes_by : Fit f room → (r : Reach) → Reached f.at room s r → Takes (taken_by f chunk r)
  takes_by fit Short h = record { there_is = le_refl (length chunk); goes_in = λ k. omega (arith, long fit, h.fits) }
  takes_by fit Large h = record { there_is = omega (arith, long fit, h.header); goes_in = λ k. omega (arith, fit.header, fit.holds) }
  takes_by fit (Whole size) h = record { there_is = omega (arith, long fit, h.own, h.there); goes_in = λ k. omega (arith, fit.holds, h.own, h.fits) }

  pub takes_no_more : Takes call.taken
  takes_no_more = by_way longest f chunk ended room (λ r. Takes r.taken) none (λ n p. none) on
    where
      none : Takes 0
      none = record { there_is = omega arith; goes_in = λ k. omega (arith, k.holds) }

      on : Fit f room → Takes (goes_on longest f chunk ended room s).taken
      on fit =
          let r : Reach = reach f.at room s in
          let x : Step = step_of f.table f.at (read_one longest f.table s) in
          subst Takes (sym (answer_taken (taken_by f chunk r) x r)) (takes_by fit r (reached f.at room s fit.header))

  pub never_more_than_the_chunk : call.taken ≤ length chunk
  never_more_than_the_chunk = takes_no_more.there_is

  -- ---- the room afterwards

  -- its first octets are those of the record at hand, and the others are as they were
  pub record Holds (n : ℕ) (after : List ℕ) : Type 0 where
    pub long : length after ≡ length room
    pub front : take (f.taken + n) after ≡ take (f.taken + n) s
    pub back : drop (f.taken + n) after ≡ drop (f.taken + n) room

  pub room_holds_what_was_taken : Fit f room → Holds call.taken (leaves call)
  unfolding feed_leaves there
  room_holds_what_was_taken fit =
      let n : ℕ = call.taken in
      let l : n ≤ length chunk = takes_no_more.there_is in
      record {
        long = length_after room chunk f.taken n fit.holds l (takes_no_more.goes_in fit);
        front = front_after room chunk f.taken n fit.holds l ∙ taken_there room chunk f.taken n fit.holds l;
        back = back_after room chunk f.taken n fit.holds l;
      }

  -- ---- more is asked for when all was taken

  module _ (n : ℕ) where
    told_not_more : (x : Step) → (tells f n x).said ≡ More → ⊥
    told_not_more step.End e = let z : ◌≡◌ {A = ℕ} 0 1 = cc in omega arith
    told_not_more (Err why) e = let z : ◌≡◌ {A = ℕ} 0 1 = cc in omega arith
    told_not_more (step.Record i u) e = let z : ◌≡◌ {A = ℕ} 0 1 = cc in omega arith

  more_by : (x : Step) (r : Reach) → let y = answers f (taken_by f chunk r) ended x r in y.said ≡ More → y.taken ≡ length chunk
  more_by x Short e = short_taken (length chunk) x ended
  more_by x Large e = let z : ◌≡◌ {A = ℕ} 0 1 = cc in absurd (omega arith)
  more_by x (Whole size) e = absurd (told_not_more (size - f.taken) x e)

  pub more_takes_all : call.said ≡ More → call.taken ≡ length chunk
  more_takes_all = by_way longest f chunk ended room (λ r. r.said ≡ More → r.taken ≡ length chunk) end_not_more fault_not_more
      (λ fit. more_by (step_of f.table f.at (read_one longest f.table s)) (reach f.at room s))
    where
      end_not_more : End ≡ More → 0 ≡ length chunk
      end_not_more e = let z : ◌≡◌ {A = ℕ} 0 1 = cc in absurd (omega arith)

      fault_not_more : (n p : ℕ) → Fault n p ≡ More → 0 ≡ length chunk
      fault_not_more n p e = let z : ◌≡◌ {A = ℕ} 0 1 = cc in absurd (omega arith)
