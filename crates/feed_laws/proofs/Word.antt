-- 1 and 2 are said only with the sender's word: a record that is all there is refused with neither.
use mathlib.Core.Path.{◌≡◌, refl, ap, ◌∙◌}
use mathlib.Core.Bool.{true, false}
use mathlib.Core.Logic.{◌⊎◌, ⊎_elim}
use mathlib.Core.List.{List}
use Prim.Native.Nat.{ℕ, ◌+◌, ◌-◌, ◌≤◌}
use native.Mathlib.Omega.{arith}
use lib.ListN.{length, take}
use Rattle.form_spec.specs.Octets.{Octets}
use Rattle.form_spec.specs.Words.{choose}
use Rattle.form_spec.specs.Body.{Plan, just, free, many}
use Rattle.form_laws.proofs.Octets.{octets-take, octets-append}
use Rattle.record_spec.specs.Table.{Table, state_of}
use Rattle.record_spec.specs.Shown.{Shown}
use Rattle.record_spec.specs.Shown as shown
use Rattle.record_spec.specs.One.{read_one}
use Rattle.record_laws.proofs.Accepts.{tells-table}
use Rattle.place_spec.specs.About.{about}
use Rattle.place_spec.specs.Faulty.{FailedRecord, laid_out, Faulty}
use Rattle.place_laws.proofs.Record.{faulty_record}
use Rattle.walk_spec.specs.Steps.{step_of, step_at}
use Rattle.walk_laws.proofs.Goes.{goes_to}
use Rattle.feed_spec.specs.declared.Last.TheVariants as last
use Rattle.feed_spec.specs.declared.Feed.{Feed}
use Rattle.feed_spec.specs.declared.Reach.{Reach}
use Rattle.feed_spec.specs.declared.Reach.TheVariants.{Short, Large, Whole}
use Rattle.feed_spec.specs.declared.Said.TheVariants.{Fault}
use Rattle.feed_spec.specs.declared.Fed.{Fed}
use Rattle.feed_spec.specs.Feed.{size_of, reach, there, taken_by, tells, answers, feeds}
use Rattle.feed_laws.proofs.Goes.{by_room}
use Rattle.feed_laws.proofs.Reach.{Reached, reached}
use Rattle.form_spec.specs.Refusal.{refused}
use Rattle.std.specs.Prelude.{Err}

-- these two
abbrev pub OneOrTwo : ℕ → Type 0
OneOrTwo n = (n ≡ 1) ⊎ (n ≡ 2)

-- ---- a record that is all there

-- a field that fails is placed at a field, and these are placed at none
field_fails : (l : Plan) (m : List ℕ) (n p : ℕ) → FailedRecord l m n p → (x : ℕ) × (about n x ≡ true)
field_fails (just f) m n p h = (_, h.names)
field_fails (free f) m n p h = (_, h.0.names)
field_fails (many f g) m n p h = (_, h.names)

about_none : (n x : ℕ) → OneOrTwo n → about n x ≡ true → ⊥
unfolding about
about_none n x w h =
    ⊎_elim (λ (e : n ≡ 1). let k = rw e at h in let z : ◌≡◌ {A = ℕ} 0 1 = cc in omega arith)
    (λ (e : n ≡ 2). let k = rw e at h in let z : ◌≡◌ {A = ℕ} 0 1 = cc in omega arith) w

module _ (longest : ℕ) (t : Table) (s : List ℕ) (oc : Octets s) (whole : size_of s ≤ length s) where
  pub not_one_or_two : (n p : ℕ) → read_one longest t s ≡ refused n p → OneOrTwo n → ⊥
  unfolding step_at
  not_one_or_two n p e w =
      let a = goes_to longest s oc 0 (omega arith) t (state_of t) (tells-table t) (refused n (0 + p)) (ap (step_of t 0) e) in
      let f : Faulty longest (state_of t) s n a.off = faulty_record longest (state_of t) s oc (omega arith) n a.off a.read in
      ⊎_elim (λ h. omega (arith, h.3)) (⊎_elim (λ h. omega (arith, h.3)) (λ h. let x = field_fails (laid_out longest (state_of t) s) _ n a.off h.1 in about_none n x.0 w x.1)) f

-- ---- the law

module _ (longest : ℕ) (f : Feed) (chunk room : List ℕ) (oc : Octets chunk) (or : Octets room) (n p : ℕ) (two : OneOrTwo n) where
  abbrev s : List ℕ
  s = there f chunk room

  -- this number and place are not said
  abbrev Silent : Fed → Type 0
  Silent r = r.said ≡ Fault n p → ⊥

  eighteen : (q : ℕ) → Fault 18 q ≡ Fault n p → ⊥
  eighteen q e = let z : 18 ≡ n = cc in ⊎_elim (λ (h : n ≡ 1). omega arith) (λ (h : n ≡ 2). omega arith) two

  octets : Octets s
  unfolding there
  octets = octets-append (take f.taken room) chunk (octets-take f.taken room or) oc

  told : size_of s ≤ length s → (k : ℕ) (x : Shown) → read_one longest f.table s ≡ x → Silent (tells f k (step_of f.table f.at x))
  told h k shown.Nothing e q = let z : ◌≡◌ {A = ℕ} 0 1 = cc in omega arith
  told h k (Err why) e q = let z : why.number ≡ n = cc in not_one_or_two longest f.table s octets h n why.place (e ∙ rw z refl) two
  told h k (shown.Good a b) e q = let z : ◌≡◌ {A = ℕ} 0 1 = cc in omega arith

  by_reach : (r : Reach) → Reached f.at room s r → Silent (answers f (taken_by f chunk r) false (step_of f.table f.at (read_one longest f.table s)) r)
  unfolding choose
  by_reach Short h q = let z : ◌≡◌ {A = ℕ} 0 1 = cc in omega arith
  by_reach Large h q = eighteen f.at q
  by_reach (Whole size) h q = told h.there (size - f.taken) (read_one longest f.table s) refl q

  pub one_and_two_need_the_word : f.last ≡ last.Open → (feeds longest f chunk false room).said ≡ Fault n p → ⊥
  one_and_two_need_the_word e =
      by_room longest f chunk false room Silent e (eighteen 0) (λ fit. by_reach (reach f.at room s) (reached f.at room s fit.header))
