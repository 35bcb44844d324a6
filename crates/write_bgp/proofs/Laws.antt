-- State changes and BGP messages as a writer has them: their kinds, and their octets.
use mathlib.Core.Path.{◌≡◌, refl, sym, ap, ◌∙◌}
use mathlib.Core.Bool.{Bool, true, false, cond}
use mathlib.Core.List.{List, [], ◌∷◌, ◌++◌, append_assoc, append-nil}
use Prim.Native.Nat.{ℕ, ◌+◌, ◌≤◌}
use native.Mathlib.Omega.{arith}
use lib.ListN.{length, take, drop, length-append, take-append-drop}
use lib.Seq.{drop-drop}
use types.Run.{OneOf, miss}
use denote.Enum.Declared.{tag_of}
use Rattle.form_spec.specs.Octets.{be, to_be}
use Rattle.form_spec.specs.Fmt.{Fmt, end, join}
use Rattle.form_spec.specs.Put.{Value, digits, bytes, misfit, or_else, refusal, lay, message, large}
use Rattle.form_spec.specs.Words.{choose, num, skip, fail, checked, in_range}
use Rattle.form_laws.proofs.Octets.{length-to_be}
use lib.Dec.{eqb}
use Rattle.page_spec.specs.Names.{old_state}
use Rattle.page_spec.specs.Bgp4mp.{session, addresses, state, state_change}
use Rattle.write_laws.proofs.Turns.{or_both}
use Rattle.page_spec.specs.Layout.{kind, kind16}
use Rattle.page_spec.specs.Chosen.{Chosen}
use Rattle.page_spec.specs.contracts.Kind as declared
use Rattle.page_spec.specs.Sane.{Sane}
use Rattle.page_laws.proofs.Widths.{sane16, Stamps, stamps16}
use Rattle.write_spec.specs.Times.{micro_size, micros, bgp4mp}
use Rattle.write_spec.specs.Only.{as_octets}
use Rattle.write_spec.specs.Givens.{session_values, state_values, bgp_values, bgp_given}
use Rattle.write_spec.specs.declared.Time.{Time}
use Rattle.write_spec.specs.declared.Time.TheVariants.{Seconds, Micro}
use Rattle.write_laws.proofs.Answers.{micros_long}
use Rattle.write_laws.proofs.Laid.{both}
use Rattle.write_bgp.specs.Opening.{opening_values, opening_size}
use Rattle.std.specs.Prelude.{Ok}
use Rattle.page_spec.specs.declared.Kind.{Kind}
use Rattle.page_spec.specs.declared.Kind.TheVariants as kinds

-- ---- the kinds of types 16 and 17

kind_is : (t : Time) (s : ℕ) → kind16 (micro_size t) s ≡ kind (bgp4mp t) s
unfolding kind choose
kind_is (Seconds x) s = refl
kind_is (Micro x u) s = refl

pub type-fits : (t : Time) → large 2 (bgp4mp t) ≡ 0
type-fits (Seconds x) = refl
type-fits (Micro x u) = refl

pub micro_small : (t : Time) → micro_size t ≤ 4
micro_small (Seconds x) = omega arith
micro_small (Micro x u) = omega arith

-- a kind as code finds it: k, where micro is m
pub record Found (t : Time) (s : ℕ) (k : Chosen) : Type 0 where
  pub page : k ≡ kind (bgp4mp t) s
  pub sane : Sane k
  pub stamps : Stamps (micro_size t) k

pub found : (t : Time) (s m : ℕ) (k : Chosen) → m ≡ micro_size t → k ≡ kind16 m s → Found t s k
found t s m k e h =
    let d : k ≡ kind16 (micro_size t) s = h ∙ ap (λ (x : ℕ). kind16 x s) e in
    record { page = d ∙ kind_is t s; sane = rw d (sane16 (micro_size t) s (micro_small t)); stamps = rw d (stamps16 (micro_size t) s) }

-- a kind that has no session
pub no_width : (k : Kind) → OneOf (0 ∷ 1 ∷ 2 ∷ 3 ∷ 4 ∷ []) (tag_of declared.the_type k) → 0 ≡ as_octets (Ok k)
no_width (kinds.Unread micro) h = refl
no_width (kinds.TableDump size) h = refl
no_width kinds.PeerTable h = refl
no_width (kinds.Rib bits) h = refl
no_width kinds.RibGeneric h = refl
no_width (kinds.Change micro w) h = absurd (miss (0 ∷ 1 ∷ 2 ∷ 3 ∷ 4 ∷ []) 5 tt h)
no_width (kinds.Message micro w) h = absurd (miss (0 ∷ 1 ∷ 2 ∷ 3 ∷ 4 ∷ []) 6 tt h)

-- ---- their octets

abbrev opening : (w p l i f : ℕ) (theirs ours : List ℕ) → List ℕ
opening w p l i f theirs ours = join (lay (session_values w p l i f theirs ours []))

pub opening_long : (w p l i f : ℕ) (theirs ours : List ℕ) → length (opening w p l i f theirs ours) ≡ w + (w + (4 + (length theirs + length ours)))
opening_long w p l i f theirs ours = simp (length-append, length-to_be, append-nil) (omega arith)

pub states_long : (o n : ℕ) → length (join (lay (state_values o n))) ≡ 4
states_long o n = simp (length-append, length-to_be)

-- a BGP message is its pieces
pub pieces : (b : List ℕ) → join (lay (bgp_values b)) ≡ b
pieces b =
    ap (λ (x : List ℕ). take 16 b ++ x)
    (ap (λ (x : List ℕ). take 2 (drop 16 b) ++ x)
    (ap (λ (x : List ℕ). take 1 (drop 18 b) ++ x) (append-nil (drop 19 b) ∙ sym (drop-drop 1 18 b))
    ∙ split 1 (drop 18 b) ∙ sym (drop-drop 2 16 b)) ∙ split 2 (drop 16 b)) ∙ split 16 b
  where
    split : (n : ℕ) (l : List ℕ) → take n l ++ drop n l ≡ l
    split n l = rw take-append-drop

module _ (t : Time) (w p l i f : ℕ) (theirs ours : List ℕ) where
  -- the microseconds and the session
  pub opened_long : length (join (lay (opening_values t w p l i f theirs ours))) ≡ opening_size t w theirs ours
  opened_long =
      let a = micros_long t in
      let b = opening_long w p l i f theirs ours in
      rw (both (micros t) (session_values w p l i f theirs ours []), length-append (join (lay (micros t))) (opening w p l i f theirs ours)) (omega arith)

  module _ (vs : List Value) where
    -- and values behind them
    pub behind : opening_values t w p l i f theirs ours ++ vs ≡ micros t ++ session_values w p l i f theirs ours vs
    behind = append_assoc (micros t) (session_values w p l i f theirs ours []) vs

    pub behind_long : (s : ℕ) → opening_size t w theirs ours + length (join (lay vs)) ≡ length (message (bgp_given t s (session_values w p l i f theirs ours vs)))
    behind_long s =
        rw (
          append-nil (join (lay (micros t ++ session_values w p l i f theirs ours vs))),
          ← behind,
          both (opening_values t w p l i f theirs ours) vs,
          length-append (join (lay (opening_values t w p l i f theirs ours))) (join (lay vs)),
          opened_long,
        )

-- ---- the refusal of a session before other fields, and of two states

shift : (m a b k : ℕ) → or_else a k ≡ b → or_else (or_else m a) k ≡ or_else m b
shift m a b k e = or_both m a k ∙ ap (or_else m) e

two : (m n k : ℕ) → or_else (or_else m (or_else n 0)) k ≡ or_else m (or_else n k)
two m n k = shift m (or_else n 0) (or_else n k) k (shift n 0 k k refl)

four : (m n o p a b k : ℕ) → or_else a k ≡ b → or_else (or_else m (or_else n (or_else o (or_else p a)))) k ≡ or_else m (or_else n (or_else o (or_else p b)))
four m n o p a b k e =
    shift m (or_else n (or_else o (or_else p a))) (or_else n (or_else o (or_else p b))) k
    (shift n (or_else o (or_else p a)) (or_else o (or_else p b)) k (shift o (or_else p a) (or_else p b) k (shift p a b k e)))

module _ (w p l i f : ℕ) (theirs ours : List ℕ) (g : Fmt) (vs : List Value) where
  sized_then : (n : ℕ) → or_else (refusal (addresses n (end 0)) (bytes theirs ∷ bytes ours ∷ [])) (refusal g vs) ≡ refusal (addresses n g) (bytes theirs ∷ bytes ours ∷ vs)
  unfolding addresses skip refusal
  sized_then n = two (misfit (bytes theirs) n) (misfit (bytes ours) n) (refusal g vs)

  -- behind the family, by whether it is 1 or 2
  addressed : (s t : Bool) (h : Fmt) → Fmt
  addressed s t h = choose s (addresses 4 h) (choose t (addresses 16 h) (fail 7 2))

  addressed_then : (s t : Bool) → or_else (refusal (addressed s t (end 0)) (bytes theirs ∷ bytes ours ∷ [])) (refusal g vs) ≡ refusal (addressed s t g) (bytes theirs ∷ bytes ours ∷ vs)
  unfolding addressed choose fail refusal
  addressed_then true t = sized_then 4
  addressed_then false true = sized_then 16
  addressed_then false false = refl

  pub session_then : or_else (refusal (session w (end 0)) (session_values w p l i f theirs ours [])) (refusal g vs) ≡ refusal (session w g) (session_values w p l i f theirs ours vs)
  unfolding session num refusal addressed
  session_then =
      let s : Bool = eqb (be (to_be 2 f)) 1 in
      let t : Bool = eqb (be (to_be 2 f)) 2 in
      four (misfit (digits w p) w) (misfit (digits w l) w) (misfit (digits 2 i) 2) (misfit (digits 2 f) 2)
      (refusal (addressed s t (end 0)) (bytes theirs ∷ bytes ours ∷ [])) (refusal (addressed s t g) (bytes theirs ∷ bytes ours ∷ vs)) (refusal g vs) (addressed_then s t)

pub states_then : (o n : ℕ) → or_else (refusal (state old_state (end 0)) (digits 2 o ∷ [])) (refusal (state old_state (end 0)) (digits 2 n ∷ [])) ≡ refusal state_change (state_values o n)
unfolding state_change state checked refusal
states_then o n = two (misfit (digits 2 o) 2) (cond (in_range 1 (be (to_be 2 o)) 6) 0 9) (refusal (state old_state (end 0)) (digits 2 n ∷ []))
