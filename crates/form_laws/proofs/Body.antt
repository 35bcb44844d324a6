-- What is read as a body is what its grammar says, both ways.
use mathlib.Core.Path.{◌≡◌, refl, sym, ap, ◌∙◌, subst}
use mathlib.Core.List.{List, [], ◌∷◌, ◌++◌, append_assoc, append-nil}
use Prim.Native.Nat.{ℕ, zero, suc, ◌+◌, ◌≤◌}
use native.Mathlib.Omega.{arith}
use lib.ListN.{length, take, drop, length-append, take-append-drop}
use lib.Seq.{take_at, drop_at, length-take-le}
use lib.Dec.{ltb}
use borrow.Author.Tests.{ltb-false, le-ltb}
use Rattle.form_spec.specs.Octets.{Octets, be, to_be}
use Rattle.form_spec.specs.Fmt.{Out, bad, good, bind, refuse_if, Fmt, read, Fits, join}
use Rattle.form_spec.specs.Body.{read_n, joins, AllFits, Items, Plan, just, free, many, Body, plain, loose, listed, ended, read_body, spell, BodyFits}
use Rattle.form_laws.proofs.Octets.{octets-take, octets-drop, octets_right, length-to_be, be-to_be, to_be_at, be_below}
use Rattle.form_laws.proofs.Fmt.{Right, right_bind, refuse_case, sound, complete}

right_cons : (f : Fmt) (n : ℕ) (bs r : List ℕ) (cs : List (List ℕ)) → Fits f cs → join cs ++ r ≡ bs → (o : Out (List (List (List ℕ))))
    → Right (Items f n) joins r o → Right (Items f (suc n)) joins bs (bind o (λ its q. good (cs ∷ its) q))
right_cons f n bs r cs h e (bad m p) q = q
right_cons f n bs r cs h e (good its z) q = (((h, q.0.0), ap suc q.0.1), rw (append_assoc, q.1) e)

pub sound_n : (f : Fmt) (n at : ℕ) (bs : List ℕ) → Octets bs → Right (Items f n) joins bs (read_n f n at bs)
unfolding read_n
sound_n f zero at bs oc = ((tt, refl), refl)
sound_n f (suc n) at bs oc =
    right_bind (Fits f) join (Right (Items f (suc n)) joins bs) bs (read f at bs) _ (λ m p z. z) (sound f at bs oc)
    (λ cs r h e. right_cons f n bs r cs h e (read_n f n (at + length (join cs)) r)
    (sound_n f n (at + length (join cs)) r (octets_right (join cs) r (subst Octets (sym e) oc))))

pub complete_n : (f : Fmt) (at : ℕ) (its : List (List (List ℕ))) (r : List ℕ) → AllFits f its → read_n f (length its) at (joins its ++ r) ≡ good its r
unfolding read_n
complete_n f at [] r h = refl
complete_n f at (c ∷ cs) r h = rw (append_assoc, complete f at c (joins cs ++ r) h.0, complete_n f (at + length (join c)) cs r h.1)

-- what is right of an outcome of reading the whole of bs
abbrev pub RightBody : Plan → List ℕ → Out Body → Type 0
RightBody p bs (bad n q) = n ≡ 0 → ⊥
RightBody p bs (good b r) = BodyFits p b × (spell b ≡ bs) × (r ≡ [])

right_whole : (p : Plan) (bs : List ℕ) (q : ℕ) (b : Body) (r : List ℕ) → BodyFits p b → spell b ++ r ≡ bs → RightBody p bs (ended q b r)
right_whole p bs q b [] h e = (h, sym (append-nil (spell b)) ∙ e, refl)
right_whole p bs q b (x ∷ r) h e = λ z. omega arith

sound-many : (f g : Fmt) (bs : List ℕ) (at : ℕ) (cs : List (List ℕ)) (r : List ℕ) → Fits f cs → join cs ++ r ≡ bs → Octets r
    → RightBody (many f g) bs (refuse_if (ltb (length r) 2) 5 at (bind (read_n g (be (take 2 r)) (at + 2) (drop 2 r)) (λ its q. ended (at + 2 + length (joins its)) (listed cs its) q)))
unfolding BodyFits spell
sound-many f g bs at cs r h e oc =
    refuse_case (RightBody (many f g) bs) 5 at _ (ltb (length r) 2) (λ z. omega arith)
    (λ t.
    let l : length (take 2 r) ≡ 2 = length-take-le 2 r (ltb-false _ _ t) in
    let o2 : Octets (take 2 r) = octets-take 2 r oc in
    right_bind (Items g (be (take 2 r))) joins (RightBody (many f g) bs) (drop 2 r) (read_n g (be (take 2 r)) (at + 2) (drop 2 r)) _ (λ m p z. z)
    (sound_n g (be (take 2 r)) (at + 2) (drop 2 r) (octets-drop 2 r oc))
    (λ its q v w.
    right_whole (many f g) bs _ (listed cs its) q
    (h, rw v.1 (be_below 2 (take 2 r) l o2), v.0)
    (simp append_assoc (rw (w, v.1, to_be_at 2 (take 2 r) l o2, take-append-drop) e))))

pub sound-body : (p : Plan) (at : ℕ) (bs : List ℕ) → Octets bs → RightBody p bs (read_body p at bs)
unfolding read_body BodyFits spell
sound-body (just f) at bs oc =
    right_bind (Fits f) join (RightBody (just f) bs) bs (read f at bs) _ (λ m p z. z) (sound f at bs oc)
    (λ cs r h e. right_whole (just f) bs _ (plain cs) r h e)
sound-body (free f) at bs oc =
    right_bind (Fits f) join (RightBody (free f) bs) bs (read f at bs) _ (λ m p z. z) (sound f at bs oc)
    (λ cs r h e. ((h, octets_right (join cs) r (subst Octets (sym e) oc)), e, refl))
sound-body (many f g) at bs oc =
    right_bind (Fits f) join (RightBody (many f g) bs) bs (read f at bs) _ (λ m p z. z) (sound f at bs oc)
    (λ cs r h e. sound-many f g bs (at + length (join cs)) cs r h e (octets_right (join cs) r (subst Octets (sym e) oc)))

pub complete_body : (p : Plan) (at : ℕ) (b : Body) → BodyFits p b → read_body p at (spell b) ≡ good b []
unfolding read_body BodyFits spell
complete_body (just f) at (plain cs) h =
    let e : read f at (join cs) ≡ good cs [] = rw append-nil at (complete f at cs [] h) in
    rw e
complete_body (free f) at (loose cs r) h = rw (complete f at cs r h.0)
complete_body (many f g) at (listed cs its) h =
    let n : ℕ = length its in
    let l : length (to_be 2 n) ≡ 2 = length-to_be 2 n in
    let g2 : 2 ≤ length (to_be 2 n ++ joins its) = simp length-append (omega arith) in
    let e : read_n g n (at + length (join cs) + 2) (joins its) ≡ good its [] = rw append-nil at (complete_n g (at + length (join cs) + 2) its [] h.2) in
    rw (complete f at cs (to_be 2 n ++ joins its) h.0, le-ltb _ _ g2, take_at (to_be 2 n) (joins its) 2 l, drop_at (to_be 2 n) (joins its) 2 l, be-to_be 2 n h.1, e)
complete_body (just f) at (loose cs r) h = elim h [ ]
complete_body (just f) at (listed cs its) h = elim h [ ]
complete_body (free f) at (plain cs) h = elim h [ ]
complete_body (free f) at (listed cs its) h = elim h [ ]
complete_body (many f g) at (plain cs) h = elim h [ ]
complete_body (many f g) at (loose cs r) h = elim h [ ]
