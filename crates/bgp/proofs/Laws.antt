-- Where a BGP message ends, the layout that a family's size of addresses chooses, and what stands behind a session.
use mathlib.Core.Path.{◌≡◌, refl, sym, ap, fun_ext, ◌∙◌}
use mathlib.Core.Bool.{Bool, true, false}
use mathlib.Core.List.{List, []}
use Prim.Native.Nat.{ℕ, ◌+◌, ◌-◌, ◌≤◌}
use native.Mathlib.Omega.{arith}
use lib.Dec.{ltb, eqb}
use lib.ListN.{length, take, drop}
use Rattle.form_spec.specs.Octets.{be}
use Rattle.form_spec.specs.Fmt.{Fmt, end}
use Rattle.form_spec.specs.Words.{◌$◌, choose, num, skip, fail}
use Rattle.form_spec.specs.Pass.{Seen, note, pass, whole}
use Rattle.form_laws.proofs.Pass.{pass-map}
use Rattle.page_spec.specs.Names.{peer_as, local_as, interface, family, peer_address, local_address}
use Rattle.page_spec.specs.Bgp4mp.{session, addresses}
use Rattle.record_spec.specs.Fields as show
use Rattle.record_spec.specs.declared.Session.{Session}
use Rattle.octets_spec.specs.Field.{Num, field_at}
use Rattle.std.specs.Prelude.{Option, Some, None, Result, Ok, Err}
use Rattle.form_spec.specs.declared.Fault.{Fault}
use Rattle.form_spec.specs.Refusal.{refused}
use Rattle.octets_spec.specs.Field.{room_at}
use Rattle.octets_laws.proofs.Rules.{is_past, fails}
use Rattle.bgp.specs.Size.{address_size}
use Rattle.bgp.specs.Met.{With, met}

-- the length n stands at d, and i is the place behind the type octet
pub far : (m : List ℕ) (d i n e : ℕ) → i ≡ d + 3 → 19 ≤ n → Ok e ≡ room_at m i (n - 19) → e ≡ d + (n - 16)
far m d i n e h l p = let s = is_past m i (n - 19) e p in omega arith

module _ {A : Type 0} (to : List Seen → ℕ → ℕ → A) (fault : ℕ → ℕ → A) (m : List ℕ) where
  -- the addresses of a family that has a size
  pub sized : (fam n i : ℕ) (f : Fmt) (s : Option ℕ) (y : A) → s ≡ address_size fam → s ≡ Some n → y ≡ pass to fault (addresses n f) m i
      → y ≡ pass to fault (choose (eqb fam 1) (addresses 4 f) (choose (eqb fam 2) (addresses 16 f) (fail 7 2))) m i
  unfolding address_size choose
  sized fam n i f s y p q h = go (eqb fam 1) (eqb fam 2) (sym p ∙ q)
    where
      go : (a b : Bool) → ◌≡◌ {A = Option ℕ} (choose a (Some 4) (choose b (Some 16) None)) (Some n)
          → y ≡ pass to fault (choose a (addresses 4 f) (choose b (addresses 16 f) (fail 7 2))) m i
      go true b e = let z : n ≡ 4 = cc in rw z at h
      go false true e = let z : n ≡ 16 = cc in rw z at h
      go false false e = let z : ◌≡◌ {A = ℕ} 0 1 = cc in absurd (omega arith)

  -- and of one that has none: the family stands at d
  pub unsized : (fam i d : ℕ) (f : Fmt) (s : Option ℕ) (y : A) → s ≡ address_size fam → s ≡ None → Num fam i ≡ field_at m d 2 → y ≡ fault 7 d
      → y ≡ pass to fault (choose (eqb fam 1) (addresses 4 f) (choose (eqb fam 2) (addresses 16 f) (fail 7 2))) m i
  unfolding address_size choose
  unsized fam i d f s y p q v h = go (eqb fam 1) (eqb fam 2) (sym p ∙ q)
    where
      go : (a b : Bool) → ◌≡◌ {A = Option ℕ} (choose a (Some 4) (choose b (Some 16) None)) None
          → y ≡ pass to fault (choose a (addresses 4 f) (choose b (addresses 16 f) (fail 7 2))) m i
      go true b e = let z : ◌≡◌ {A = ℕ} 0 1 = cc in absurd (omega arith)
      go false true e = let z : ◌≡◌ {A = ℕ} 0 1 = cc in absurd (omega arith)
      go false false e = fails to fault m 7 2 i d fam y v refl h

-- beside `flow`
pub ruleset sizes = (sized, unsized)

-- ---- a session, and what stands behind it

-- the field x of l octets at i of m, before others
abbrev noted : List ℕ → (x i l : ℕ) → List Seen → List Seen
noted m x i l fs = note x i l (i + l) (be (take l (drop i m))) fs

-- the four numbers of a session at i of m, before other fields: AS numbers of w octets
abbrev numbers : List ℕ → (w i : ℕ) → List Seen → List Seen
numbers m w i fs = noted m peer_as i w $ noted m local_as (i + w) w $ noted m interface (i + w + w) 2 $ noted m family (i + w + w + 2) 2 fs

-- all six fields: addresses of n octets
abbrev pub fields : List ℕ → (w i n : ℕ) → List Seen → List Seen
fields m w i n fs = numbers m w i $ noted m peer_address (i + w + w + 2 + 2) n $ noted m local_address (i + w + w + 2 + 2 + n) n fs

-- f stands behind a session; `tell` is told the session, and says the same whether the session's own fields stand before f's or not
module _ {A : Type 0} (tell : Session → List Seen → A) (fault : ℕ → ℕ → A) (m : List ℕ) (w i : ℕ) (f : Fmt)
    (apart : (s : Session) (n : ℕ) (fs : List Seen) → tell s (fields m w i n fs) ≡ tell s fs) where
  -- the answer of all fields at once, and that of the session's fields and then of f's
  abbrev once : List Seen → ℕ → ℕ → A
  once fs a p = choose (ltb a (length m)) (fault 6 p) (tell (show.session fs) fs)

  abbrev onward : List Seen → ℕ → ℕ → A
  onward fs a p = whole (tell (show.session fs)) fault f m a

  -- the two agree where all six fields are noted,
  known : (n a : ℕ) → whole (tell (show.session (fields m w i n []))) fault f m a ≡ pass (λ fs. once (fields m w i n fs)) fault f m a
  known n a = ap (λ (t : List Seen → A). whole t fault f m a) (fun_ext (λ fs. sym (apart _ n fs)))

  -- so before addresses of n octets,
  both : (n : ℕ) → pass (λ fs. onward (numbers m w i fs)) fault (addresses n (end 0)) m (i + w + w + 2 + 2) ≡ pass (λ fs. once (numbers m w i fs)) fault (addresses n f) m (i + w + w + 2 + 2)
  unfolding pass addresses skip
  both n = rw (known n)

  -- and before those of any family
  either : (b c : Bool) → pass (λ fs. onward (numbers m w i fs)) fault (choose b (addresses 4 (end 0)) (choose c (addresses 16 (end 0)) (fail 7 2))) m (i + w + w + 2 + 2)
      ≡ pass (λ fs. once (numbers m w i fs)) fault (choose b (addresses 4 f) (choose c (addresses 16 f) (fail 7 2))) m (i + w + w + 2 + 2)
  unfolding pass choose fail
  either true c = both 4
  either false true = both 16
  either false false = refl

  -- going through a session and f is going through the session, and then through f from where it ends
  session_then : pass (λ fs a p. whole (tell (show.session fs)) fault f m a) fault (session w (end 0)) m i ≡ whole (λ fs. tell (show.session fs) fs) fault (session w f) m i
  unfolding pass session num
  session_then = rw either

  -- the same of a session that was read: f goes on from its end, a fault stays
  abbrev pub behind : Result (Session × ℕ) Fault → A
  behind (With s a) = whole (tell s) fault f m a
  behind (Err why) = fault why.number why.place

  pub met_then : {x : Result (Session × ℕ) Fault} → x ≡ pass met refused (session w (end 0)) m i → behind x ≡ whole (λ fs. tell (show.session fs) fs) fault (session w f) m i
  met_then e = ap behind e ∙ pass-map behind met refused (session w (end 0)) m i ∙ session_then
