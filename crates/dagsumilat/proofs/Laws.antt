-- What is told of a record, from the step over it and what reading shows.
use mathlib.Core.Path.{◌≡◌, refl, sym, ap, ◌∙◌}
use mathlib.Core.Bool.{Bool, true, false, false≢true}
use mathlib.Core.Logic.{◌⊎◌}
use mathlib.Core.List.{List}
use Prim.Native.Nat.{ℕ}
use lib.Dec.{eqb}
use lib.ListN.{drop}
use borrow.Author.Tests.{eqb-true, eq-eqb}
use Rattle.record_spec.specs.Table.{Table}
use Rattle.record_spec.specs.Shown.{Shown}
use Rattle.walk_spec.specs.Steps.{step_at}
use Rattle.walk_spec.specs.declared.Item.{Item}
use Rattle.walk_spec.specs.Step.{Step}
use Rattle.walk_spec.specs.Step as step
use Rattle.walk_laws.proofs.Answers.{over_record, before_end}
use Rattle.record_spec.specs.One.{read_one}
use Rattle.look_spec.specs.Field as field
use Rattle.look_spec.specs.Field.{type_of, subtype_of, peer_of, items_at, count_of, shown, Good}
use Rattle.look_spec.specs.Sort.{Sort, unread, of_peer, table, rib, sort_of, sort_by}
use Rattle.look_laws.proofs.Sort.{sort_peer, sort_first, sort_other, sort_unread}
use Rattle.look_laws.proofs.There.{sorted}
use Rattle.dagsumilat_spec.specs.RecordAnswers.{none, table_by_count, good, by_sort, answer_of, answer_at}
use Rattle.dagsumilat_spec.specs.declared.RecordAnswer.{RecordAnswer}

-- o is the step that the code has taken, where it told the table t
module _ (longest force : ℕ) (d : List ℕ) (at : ℕ) (t : Table) (o : Step) (b : t ≡ table_by_count force) (r : o ≡ step_at longest t d at) where
  -- what the reader is told
  abbrev terms : field.Told
  terms = record { longest = longest; table = table_by_count force }

  pub answer-step : (y : Step) (z : RecordAnswer) → o ≡ y → z ≡ answer_of force at y (shown terms d at) → z ≡ answer_at longest force d at
  unfolding answer_at
  answer-step y z e s = s ∙ ap (λ (w : Step). answer_of force at w (shown terms d at)) (sym e ∙ rw b at r)

  -- a good record stands there
  pub stands : (i : Item) (v : Table) → o ≡ step.Record i v → Good terms d at
  unfolding step_at
  stands i v e = (
    before_end longest t at d i v (sym r ∙ e),
    rw (← b) (over_record t at i v (read_one longest t (drop at d)) (sym r ∙ e)).0,
  )

-- ---- the good record at `at`

module _ (t : field.Told) (d : List ℕ) (at : ℕ) (g : Good t d at) where
  abbrev x : Shown
  x = shown t d at

  -- of the type y
  typed : (y : ℕ) → y ≡ type_of x → sort_of x ≡ sort_by y (subtype_of x)
  typed y e = sorted t d at g ∙ ap (λ (n : ℕ). sort_by n (subtype_of x)) (sym e)

  -- z, which the code has told of it, is right
  module _ (i : Item) (force : ℕ) (z : RecordAnswer) where
    by : (s : Sort) → sort_of x ≡ s → z ≡ by_sort i force x s → z ≡ by_sort i force x (sort_of x)
    by s e h = h ∙ ap (by_sort i force x) (sym e)

    pub answer-peer : (y p : ℕ) → y ≡ type_of x → (y ≡ 12) ⊎ ((y ≡ 16) ⊎ (y ≡ 17)) → p ≡ peer_of x → z ≡ good i force p 0 0 → z ≡ by_sort i force x (sort_of x)
    answer-peer y p e k q h = by of_peer (typed y e ∙ sort_peer y _ k) (h ∙ ap (λ (n : ℕ). good i force n 0 0) q)

    -- type 13: a peer table or a RIB record
    pub answer-items : (y : ℕ) → y ≡ type_of x → y ≡ 13 → z ≡ good i force none (items_at x) (count_of x) → z ≡ by_sort i force x (sort_of x)
    answer-items y e k h = go (eqb (subtype_of x) 1) refl
      where
        go : (f : Bool) → eqb (subtype_of x) 1 ≡ f → z ≡ by_sort i force x (sort_of x)
        go true f = by table (typed y e ∙ sort_first y _ k (eqb-true _ 1 f)) h
        go false f = by rib (typed y e ∙ sort_other y _ k (λ n. false≢true (sym f ∙ eq-eqb _ 1 n))) h

    pub answer_unread : (y : ℕ) → y ≡ type_of x → (y ≡ 12 → ⊥) → (y ≡ 13 → ⊥) → (y ≡ 16 → ⊥) → (y ≡ 17 → ⊥) → z ≡ good i force none 0 0 → z ≡ by_sort i force x (sort_of x)
    answer_unread y e a b c f h = by unread (typed y e ∙ sort_unread y _ a b c f) h
