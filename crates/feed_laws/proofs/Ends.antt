-- The sender's word, brought often enough, ends a feed.
use mathlib.Core.Path.{◌≡◌, refl, sym, ap, ◌∙◌, subst}
use mathlib.Core.Bool.{true}
use mathlib.Core.List.{List, [], ◌∷◌, ◌++◌}
use Prim.Native.Nat.{ℕ, ◌+◌, ◌≤◌, ◌<◌}
use native.Mathlib.Omega.{arith}
use lib.ListN.{length}
use Rattle.form_spec.specs.Octets.{Octets}
use Rattle.form_spec.specs.Words.{choose}
use Rattle.form_spec.specs.Record.{Rec}
use Rattle.record_spec.specs.One.{read_one}
use Rattle.walk_spec.specs.Steps.{step_of}
use Rattle.walk_spec.specs.Step.{Step}
use Rattle.walk_spec.specs.Step as step
use Rattle.feed_spec.specs.declared.Last.{Last}
use Rattle.feed_spec.specs.declared.Last.TheVariants.{Open, End, Fault}
use Rattle.feed_spec.specs.declared.Feed.{Feed}
use Rattle.feed_spec.specs.declared.Reach.{Reach}
use Rattle.feed_spec.specs.declared.Reach.TheVariants.{Short, Large, Whole}
use Rattle.feed_spec.specs.declared.Fed.{Fed}
use Rattle.feed_spec.specs.Feed.{reach, taken_by, tells, answers, goes_on}
use Rattle.feed_spec.specs.Chopped.{Call, Between, chunk_of, called, after, Fair, Fairs, after_all}
use Rattle.feed_laws.proofs.Goes.{end_again, fault_again}
use Rattle.feed_laws.proofs.Feeding.{FeedingAs, Feeding, keeps, goes}
use Rattle.feed_laws.proofs.Chopped.{begun, begins, keeps_all}
use Rattle.std.specs.Prelude.{Err}

-- without a last word the feed is past a record more
abbrev On : Feed → Fed → Type 0
On f r = r.feed.last ≡ Open → f.at < r.feed.at

module _ (f : Feed) (n : ℕ) where
  tells_on : (x : Step) → On f (tells f n x)
  tells_on step.End e = let z : ◌≡◌ {A = ℕ} 0 1 = cc in absurd (omega arith)
  tells_on (Err why) e = let z : ◌≡◌ {A = ℕ} 0 1 = cc in absurd (omega arith)
  tells_on (step.Record i u) e = omega arith

  answers_on : (x : Step) (r : Reach) → On f (answers f n true x r)
  unfolding choose
  answers_on x Short e = tells_on x e
  answers_on x Large e = let z : ◌≡◌ {A = ℕ} 0 1 = cc in absurd (omega arith)
  answers_on x (Whole size) e = tells_on x e

goes_on_on : (longest : ℕ) (f : Feed) (chunk room s : List ℕ) → On f (goes_on longest f chunk true room s)
goes_on_on longest f chunk room s =
    let r : Reach = reach f.at room s in
    answers_on f (taken_by f chunk r) (step_of f.table f.at (read_one longest f.table s)) r

-- a call leaves a last word as it is
still_open : (longest : ℕ) (b : Between) (c : Call) (l : Last) → b.feed.last ≡ l → (after longest b c).feed.last ≡ Open → l ≡ Open
still_open longest b c Open e h = refl
still_open longest b c End e h = sym e ∙ sym (ap (λ (r : Fed). r.feed.last) (end_again longest b.feed _ _ _ e)) ∙ h
still_open longest b c (Fault n p) e h = sym e ∙ sym (ap (λ (r : Fed). r.feed.last) (fault_again longest b.feed _ _ _ n p e)) ∙ h

-- every call brings the word
abbrev pub Words : List Call → Type 0
Words [] = Unit
Words (c ∷ cs) = (c.ended ≡ true) × Words cs

module _ (longest : ℕ) (d : List ℕ) (oc : Octets d) where
  was_open : (cs : List Call) (b : Between) → (after_all longest b cs).feed.last ≡ Open → b.feed.last ≡ Open
  was_open [] b h = h
  was_open (c ∷ cs) b h = still_open longest b c b.feed.last refl (was_open cs (after longest b c) h)

  -- one call more, one octet more at least
  word_on : (b : Between) (rs : List Rec) → Feeding longest d b rs → b.feed.last ≡ Open → (c : Call) → Fair longest b c → c.ended ≡ true → On b.feed (called longest b c)
  word_on b rs h e c fair w =
      let g = subst (λ (l : Last). FeedingAs longest d l b rs) e h in
      rw (goes longest d oc b rs g c fair e, w) (goes_on_on longest b.feed (chunk_of longest b c) c.room (b.held ++ chunk_of longest b c))

  words_on : (cs : List Call) (b : Between) (rs : List Rec) → Feeding longest d b rs → Fairs longest b cs → Words cs → (after_all longest b cs).feed.last ≡ Open
      → b.feed.at + length cs ≤ (after_all longest b cs).feed.at
  words_on [] b rs h fair w e = omega arith
  words_on (c ∷ cs) b rs h fair w e =
      let k = keeps longest d oc b rs h c fair.0 in
      let o : b.feed.last ≡ Open = was_open (c ∷ cs) b e in
      let a : b.feed.at < (after longest b c).feed.at = word_on b rs h o c fair.0 w.0 (was_open cs (after longest b c) e) in
      omega (arith, words_on cs (after longest b c) (rs ++ k.recs) k.feeding fair.1 w.1 e)

  pub word_ends : (cs : List Call) → Fairs longest (begun d) cs → Words cs → length d < length cs → (after_all longest (begun d) cs).feed.last ≡ Open → ⊥
  word_ends cs fair w l e =
      let k = keeps_all longest d oc cs (begun d) [] (begins longest d oc) fair in
      let g = subst (λ (x : Last). FeedingAs longest d x (after_all longest (begun d) cs) k.recs) e k.feeding in
      omega (arith, g.ahead.bound, words_on cs (begun d) [] (begins longest d oc) fair w e)
