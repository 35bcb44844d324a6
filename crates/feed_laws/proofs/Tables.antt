-- The table in force is that of 16 bits: a call leaves no larger one than a record's count says.
use mathlib.Core.Path.{◌≡◌, refl, ap, subst}
use mathlib.Core.Bool.{Bool, true, false}
use mathlib.Core.List.{List, [], ◌∷◌}
use Prim.Native.Nat.{ℕ, ◌<◌}
use native.Mathlib.Omega.{arith}
use lib.ListN.{length, take}
use Rattle.form_spec.specs.Octets.{Octets}
use Rattle.form_spec.specs.Words.{choose}
use Rattle.form_spec.specs.Body.{Plan, just, free, many, Body, plain, loose, listed, BodyFits}
use Rattle.form_spec.specs.Put.{items}
use Rattle.form_spec.specs.Gives.{tail_of}
use Rattle.form_laws.proofs.Octets.{octets-take, octets-append}
use Rattle.record_spec.specs.Table.{Table, Absent, Holds, state_of}
use Rattle.record_spec.specs.declared.Header.{Header}
use Rattle.record_spec.specs.declared.Body as shown
use Rattle.record_spec.specs.declared.Body.TheVariants as body
use Rattle.record_spec.specs.Shown.{Shown, Nothing, Good}
use Rattle.record_spec.specs.Answer.{table_behind}
use Rattle.record_spec.specs.One.{read_one}
use Rattle.record_spec.specs.Agrees.{Same}
use Rattle.record_laws.proofs.Accepts.{no_octets, tells-table}
use Rattle.walk_spec.specs.Steps.{step_of, step_at}
use Rattle.walk_laws.proofs.Goes.{goes_to, shown_past}
use Rattle.feed_spec.specs.declared.Feed.{Feed}
use Rattle.feed_spec.specs.declared.Reach.{Reach}
use Rattle.feed_spec.specs.declared.Reach.TheVariants.{Short, Large, Whole}
use Rattle.feed_spec.specs.declared.Last.TheVariants.{Open}
use Rattle.feed_spec.specs.declared.Said.TheVariants.{More}
use Rattle.feed_spec.specs.declared.Fed.{Fed}
use Rattle.feed_spec.specs.Feed.{reach, there, taken_by, takes, tells, answers, feeds}
use Rattle.feed_laws.proofs.Goes.{by_way}
use Rattle.std.specs.Prelude.{Err}

-- below what C's words have for no table
abbrev pub Small : Table → Type 0
Small Absent = Unit
Small (Holds k) = k < 65536

-- ---- the table behind a record

-- so many items go into a record's count
few : (l : Plan) (b : Body) (n : ℕ) (raw : List ℕ) → items n raw ≡ tail_of b → BodyFits l b → n < 65536
unfolding BodyFits
few l (plain cs) n raw e h = let z : ◌≡◌ {A = ℕ} 0 1 = cc in absurd (omega arith)
few l (loose cs r) n raw e h = let z : ◌≡◌ {A = ℕ} 0 1 = cc in absurd (omega arith)
few (many f g) (listed cs its) n raw e h = let z : n ≡ length its = cc in omega (arith, h.1)
few (just _) (listed cs its) n raw e h = elim h [ ]
few (free _) (listed cs its) n raw e h = elim h [ ]

module _ (longest : ℕ) (t : Table) (s : List ℕ) (oc : Octets s) (small : Small t) where
  some : (a : Header) (b : shown.Body) → read_one longest t s ≡ Good a b → 0 < length s
  some a b e = go s e
    where
      go : (s : List ℕ) → read_one longest t s ≡ Good a b → 0 < length s
      go [] e = let z : ◌≡◌ {A = ℕ} 0 1 = cc (no_octets longest t) in absurd (omega arith)
      go (x ∷ s) e = omega arith

  peers_few : (a : Header) (p : _) → read_one longest t s ≡ Good a (body.PeerTable p) → p.count < 65536
  unfolding step_at
  peers_few a p e =
      let g = goes_to longest s oc 0 (omega arith) t (state_of t) (tells-table t) _ (ap (step_of t 0) e) in
      let m : Same longest s g.rec (Good a (body.PeerTable p)) = subst (Same longest s g.rec) e (shown_past longest s oc 0 (some a _ e) t (state_of t) (tells-table t) _ _ g) in
      few _ g.rec.body p.count _ m.gives.tail g.valid.fits

  behind_small : (a : Header) (b : shown.Body) → read_one longest t s ≡ Good a b → Small (table_behind t b)
  behind_small a (body.Unread c) e = small
  behind_small a (body.TableDump r) e = small
  behind_small a (body.PeerTable p) e = peers_few a p e
  behind_small a (body.Rib r) e = small
  behind_small a (body.RibGeneric f r) e = small
  behind_small a (body.Change w c) e = small
  behind_small a (body.Message w c) e = small

-- ---- the law

module _ (longest : ℕ) (f : Feed) (chunk : List ℕ) (ended : Bool) (room : List ℕ) (oc : Octets chunk) (or : Octets room) (small : Small f.table) where
  abbrev s : List ℕ
  s = there f chunk room

  abbrev Leaves : Fed → Type 0
  Leaves r = Small r.feed.table

  octets : Octets s
  unfolding there
  octets = octets-append (take f.taken room) chunk (octets-take f.taken room or) oc

  told : (n : ℕ) (x : Shown) → read_one longest f.table s ≡ x → Leaves (tells f n (step_of f.table f.at x))
  told n Nothing e = small
  told n (Err why) e = small
  told n (Good a b) e = behind_small longest f.table s octets small a b e

  by_reach : (n : ℕ) (r : Reach) → Leaves (answers f n ended (step_of f.table f.at (read_one longest f.table s)) r)
  unfolding choose
  by_reach n Short = go ended
    where
      go : (b : Bool) → Leaves (choose b (tells f n (step_of f.table f.at (read_one longest f.table s))) (takes f n Open More))
      go true = told n (read_one longest f.table s) refl
      go false = small
  by_reach n Large = small
  by_reach n (Whole size) = told n (read_one longest f.table s) refl

  pub tables_are_small : Leaves (feeds longest f chunk ended room)
  tables_are_small = by_way longest f chunk ended room Leaves small (λ n p. small) (λ fit. let r : Reach = reach f.at room s in by_reach (taken_by f chunk r) r)
