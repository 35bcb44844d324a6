-- Which of its ways a call goes: the last word again, an unfit room, or on with the record at hand.
use mathlib.Core.Path.{◌≡◌, refl, sym, subst}
use mathlib.Core.Bool.{Bool, true, false, ◌||◌}
use mathlib.Core.Logic.{◌⊎◌, ⊎_elim}
use mathlib.Core.List.{List}
use Prim.Native.Nat.{ℕ, ◌≤◌, ◌<◌}
use native.Mathlib.Omega.{arith}
use lib.Dec.{ltb}
use lib.ListN.{length}
use borrow.Author.Tests.{lt-ltb, le-ltb, ltb-false}
use Rattle.form_spec.specs.Words.{choose}
use Rattle.feed_spec.specs.declared.Last.{Last}
use Rattle.feed_spec.specs.declared.Last.TheVariants as last
use Rattle.feed_spec.specs.declared.Feed.{Feed}
use Rattle.feed_spec.specs.declared.Said.TheVariants.{End, Fault}
use Rattle.feed_spec.specs.declared.Fed.{Fed}
use Rattle.feed_spec.specs.Feed.{unfit, there, stays, goes_on, feeds}

-- ---- a room that will do, or not

module _ (f : Feed) (room : List ℕ) where
  pub record Fit : Type 0 where
    pub header : 12 ≤ length room
    pub holds : f.taken ≤ length room

  pub is_fit : unfit f room ≡ false → Fit
  unfolding unfit
  is_fit e = go (ltb (length room) 12) refl e
    where
      go : (b : Bool) → ltb (length room) 12 ≡ b → (b || ltb (length room) f.taken) ≡ false → Fit
      go true x e = let z : ◌≡◌ {A = ℕ} 0 1 = cc in absurd (omega arith)
      go false x e = record { header = ltb-false (length room) 12 x; holds = ltb-false (length room) f.taken e }

  pub not_unfit : Fit → unfit f room ≡ false
  unfolding unfit
  not_unfit h = rw (le-ltb (length room) 12 h.header, le-ltb (length room) f.taken h.holds) refl

  pub is_unfit : (length room < 12) ⊎ (length room < f.taken) → unfit f room ≡ true
  unfolding unfit
  is_unfit = ⊎_elim (λ h. rw (lt-ltb (length room) 12 h) refl) (λ h. rw (lt-ltb (length room) f.taken h) (either (ltb (length room) 12)))
    where
      either : (b : Bool) → (b || true) ≡ true
      either true = refl
      either false = refl

-- ---- the ways

module _ (longest : ℕ) (f : Feed) (chunk : List ℕ) (ended : Bool) (room : List ℕ) where
  pub end_again : f.last ≡ last.End → feeds longest f chunk ended room ≡ stays f End
  unfolding feeds
  end_again e = rw e refl

  pub fault_again : (n p : ℕ) → f.last ≡ last.Fault n p → feeds longest f chunk ended room ≡ stays f (Fault n p)
  unfolding feeds
  fault_again n p e = rw e refl

  module _ (silent : f.last ≡ last.Open) where
    pub unfit-stays : unfit f room ≡ true → feeds longest f chunk ended room ≡ stays f (Fault 18 0)
    unfolding feeds choose
    unfit-stays u = rw (u, silent) refl

    pub goes_on_lem : unfit f room ≡ false → feeds longest f chunk ended room ≡ goes_on longest f chunk ended room (there f chunk room)
    unfolding feeds choose
    goes_on_lem u = rw (u, silent) refl

  -- what holds of each holds of the call
  pub by_room : (P : Fed → Type 0) → f.last ≡ last.Open → P (stays f (Fault 18 0)) → (Fit f room → P (goes_on longest f chunk ended room (there f chunk room)))
      → P (feeds longest f chunk ended room)
  by_room P silent refused on = go (unfit f room) refl
    where
      go : (b : Bool) → unfit f room ≡ b → P (feeds longest f chunk ended room)
      go true u = subst P (sym (unfit-stays silent u)) refused
      go false u = subst P (sym (goes_on_lem silent u)) (on (is_fit f room u))

  pub by_way : (P : Fed → Type 0) → P (stays f End) → ((n p : ℕ) → P (stays f (Fault n p))) → (Fit f room → P (goes_on longest f chunk ended room (there f chunk room)))
      → P (feeds longest f chunk ended room)
  by_way P end fault on = go f.last refl
    where
      go : (l : Last) → f.last ≡ l → P (feeds longest f chunk ended room)
      go last.Open e = by_room P e (fault 18 0) on
      go last.End e = subst P (sym (end_again e)) end
      go (last.Fault n p) e = subst P (sym (fault_again n p e)) (fault n p)
