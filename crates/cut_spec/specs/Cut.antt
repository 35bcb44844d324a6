-- What is left after a cut.
use Rattle.std.specs.Prelude.{Bool, true, false, not, ◌&&◌, ◌||◌, List, [], ◌∷◌, ℕ, get_or, ltb, leb, eqb}
use Rattle.std.proofs.Math.Option.{Option, none, some}
use Rattle.form_spec.specs.Octets.{be, to_be}
use Rattle.form_spec.specs.Body.{Body, listed}
use Rattle.form_spec.specs.Shape.{Layout, refuse, fields, unread, table, entries, St, no_table, with_peers, items_of, front_of, peer_as, as_of, index_of}
use Rattle.form_spec.specs.Fmt.{find}
use Rattle.form_spec.specs.Record.{Rec, layout_of, next, time_of}
use Rattle.form_spec.specs.Dump.{writes, walk_all}
use Rattle.cut_spec.specs.Keep.{cons_unless, kept, rank}

-- whom a cut mutes, and which times it keeps
pub record Cut : Type 0 where
  pub gone : ℕ → Bool
  pub inside : ℕ → Bool

-- a list of AS numbers, and a window
abbrev pub mem : ℕ → List ℕ → Bool
mem n [] = false
mem n (m ∷ ms) = eqb n m || mem n ms

abbrev pub cutting : ℕ → ℕ → List ℕ → Cut
cutting from to ms = record { gone = λ n. mem n ms; inside = λ t. leb from t && ltb t to }

-- the AS numbers of the table in force
abbrev pub numbers : St → List ℕ
numbers no_table = []
numbers (with_peers ns) = ns

-- an entry with another peer index
abbrev pub renumber : ℕ → List (List ℕ) → List (List ℕ)
renumber i [] = []
renumber i (c ∷ cs) = to_be 2 i ∷ cs

-- the entries of the peers that stay, renumbered
abbrev pub cut_entries : (ℕ → Bool) → List ℕ → List (List (List ℕ)) → List (List (List ℕ))
cut_entries g ns [] = []
cut_entries g ns (it ∷ its) = cons_unless (g (get_or ns (index_of it) 0)) (renumber (rank g ns (index_of it)) it) (cut_entries g ns its)

abbrev pub when : Bool → Option Body → Option Body
when true b = b
when false b = none

-- what had entries and lost them all goes
abbrev pub unless_emptied : List (List (List ℕ)) → List (List ℕ) → List (List (List ℕ)) → Option Body
unless_emptied [] cs its = some (listed cs its)
unless_emptied (x ∷ xs) cs [] = none
unless_emptied (x ∷ xs) cs (y ∷ ys) = some (listed cs (y ∷ ys))

-- whether this peer AS, if there is one, goes
abbrev pub muted : (ℕ → Bool) → Option (List ℕ) → Bool
muted g none = false
muted g (some c) = g (be c)

unfoldable pub cut_body : Cut → List ℕ → Layout → ℕ → Body → Option Body
cut_body c ns (refuse n k) t b = none
cut_body c ns (fields f) t b = when (c.inside t && not (muted c.gone (find peer_as f (front_of b)))) (some b)
cut_body c ns (unread f) t b = when (c.inside t) (some b)
cut_body c ns (table f g) t b = some (listed (front_of b) (kept (λ it. c.gone (as_of g it)) (items_of b)))
cut_body c ns (entries f g) t b = when (c.inside t) (unless_emptied (items_of b) (front_of b) (cut_entries c.gone ns (items_of b)))

-- the record with another body, before others; or the others alone
abbrev pub rebody : Rec → Option Body → List Rec → List Rec
rebody r none rs = rs
rebody r (some b) rs = record { stamp = r.stamp; type = r.type; sub = r.sub; body = b } ∷ rs

module _ (layout : ℕ → ℕ → Layout) where
  abbrev pub cut_recs : Cut → St → List Rec → List Rec
  cut_recs c st [] = []
  cut_recs c st (r ∷ rs) = rebody r (cut_body c (numbers st) (layout_of layout r) (time_of layout r) r.body) (cut_recs c (next layout r st) rs)

  unfoldable pub cut : Cut → List ℕ → List ℕ
  cut c d = writes (cut_recs c no_table (walk_all layout d).recs)
