-- Types 16 and 17 show the record's fields, also behind microseconds.
use mathlib.Core.Path.{◌≡◌, refl, sym, ◌∙◌}
use mathlib.Core.Bool.{Bool, true, false, cond}
use mathlib.Core.Logic.{inl, inr}
use mathlib.Core.List.{List, [], ◌∷◌, ◌++◌, append_assoc}
use Prim.Native.Nat.{ℕ, ◌+◌}
use lib.ListN.{length, take, drop}
use lib.Dec.{ltb}
use Rattle.form_spec.specs.Octets.{be}
use Rattle.form_spec.specs.Fmt.{Fmt, Fits, find, join}
use Rattle.form_spec.specs.Words.{choose, num}
use Rattle.form_spec.specs.Body.{plain, read_body, spell}
use Rattle.form_spec.specs.Shape.{St, plan, fields, micros_in}
use Rattle.form_spec.specs.Pass.{Seen, number_of, pass, whole}
use Rattle.form_spec.specs.Put.{Value}
use Rattle.form_laws.proofs.Octets.{to_be_at, be_below}
use Rattle.form_laws.proofs.Pass.{seen}
use Rattle.form_laws.proofs.Whole.{number-find}
use Rattle.octets_spec.specs.Be.{num_at}
use Rattle.octets_spec.specs.Field.{Num, field_at}
use Rattle.page_spec.specs.Names.{microseconds}
use Rattle.page_spec.specs.Bgp4mp.{session, state_change, message}
use Rattle.page_spec.specs.Layout.{kind, layout_for, stamped, finer}
use Rattle.page_spec.specs.Chosen.{Chosen, Change, Message}
use Rattle.record_spec.specs.Fields as show
use Rattle.record_spec.specs.declared.Header.{Header}
use Rattle.record_spec.specs.Shown.{Shown}
use Rattle.record_spec.specs.Answer.{fault, place, header_of, end}
use Rattle.record_spec.specs.One.{micro_at, behind}
use Rattle.write_spec.specs.Times.{bgp4mp}
use Rattle.write_spec.specs.Only.{writer}
use Rattle.write_spec.specs.Givens.{bgp_given}
use Rattle.write_spec.specs.declared.Time.{Time}
use Rattle.write_spec.specs.declared.Time.TheVariants.{Seconds, Micro}
use Rattle.record_spec.specs.Again.{clock, again}
use Rattle.record_spec.specs.Agrees.{writer_of, Same}
use Rattle.page_laws.proofs.Choice.{Bgp}
use Rattle.record_laws.proofs.Parts.{by_parts, rest_here}
use Rattle.record_laws.proofs.Same.{head, rec, Stands, Reads, same, fields_agree}
use Rattle.record_laws.proofs.Bgp4mp.{WrittenAsRead, change_of, message_of, change-parts, message-parts}
use Rattle.form_spec.specs.Refusal.{refused}

abbrev rest : List Seen → List Seen
rest [] = []
rest (x ∷ fs) = fs

-- where there are four octets of microseconds
pub behind_micro : (m : List ℕ) (k : ℕ → ℕ → Shown) → behind (micro_at m 4) k ≡ cond (ltb (length m) 16) (refused 5 12) (k (be (take 4 (drop 12 m))) 16)
unfolding behind micro_at field_at num_at choose
behind_micro m k = go (ltb (length m) 16)
  where
    go : (b : Bool) → behind (choose b (refused 5 12) (Num (be (take 4 (drop 12 m))) 16)) k ≡ cond b (refused 5 12) (k (be (take 4 (drop 12 m))) 16)
    go true = refl
    go false = refl

-- they are the layout's first field
behind_whole : (m : List ℕ) (f : Fmt) (g : ℕ → List Seen → Shown)
    → behind (micro_at m 4) (λ n at. whole (g n) refused f m at) ≡ whole (λ fs. g (number_of microseconds fs) (rest fs)) refused (stamped 4 f) m 12
unfolding stamped num pass
behind_whole m f g = behind_micro m (λ n at. whole (g n) refused f m at)

-- f is the layout behind the microseconds, and values what a writer takes for it
module _ (longest : ℕ) (s m q : List ℕ) (t y u len : ℕ) (l : Stands s m q len) (micro : ℕ) (k : Chosen) (kd : kind y u ≡ k)
    (f : Fmt) (laid : layout_for longest k ≡ fields (stamped micro f))
    (show : Header → List Seen → Shown) (values : List Seen → List Value)
    (spelled : (i : ℕ) (cs : List (List ℕ)) (r : List ℕ) → join cs ++ r ≡ drop i s → Fits f cs → WrittenAsRead s show values cs (seen f i cs))
    (shown : (h : Header) (fs : List Seen) → (fault (show h fs) ≡ 0) × (place (show h fs) ≡ end h) × (header_of (show h fs) ≡ h) × (writer_of (show h fs) ≡ writer k))
    (given : (n : ℕ) (i : Time) → clock (head t y u len n) ≡ i → bgp4mp i ≡ y → (fs : List Seen) → again s (show (head t y u len n) fs) ≡ bgp_given i u (values fs)) where
  plainly : y ≡ 16 → micro ≡ 0 → (cs : List (List ℕ)) → Fits f cs → join cs ≡ drop 12 m → Same longest s (rec t y u (plain cs)) (show (head t y u len 0) (seen f 12 cs))
  unfolding micros_in stamped spell finer choose
  plainly e d cs h j =
      let z = spelled 12 cs q (rw j l.here) h in
      let x = shown (head t y u len 0) (seen f 12 cs) in
      let c : clock (head t y u len 0) ≡ Seconds t = rw e in
      same longest s m q t y u len l k kd (plain cs) j 0 _ x.0 x.1 x.2 (rw (laid, d) (z.1 ∙ number-find 0 f 12 cs)) x.3 (z.2 (head t y u len 0))
      (rw (given 0 (Seconds t) c (sym e) (seen f 12 cs)) (record { stamp = refl; type = sym e; sub = refl; fit = z.0.0; front = z.0.1; tail = refl }))

  finely : y ≡ 17 → micro ≡ 4 → (cs : List (List ℕ)) → Fits (stamped 4 f) cs → join cs ≡ drop 12 m
      → Same longest s (rec t y u (plain cs)) (show (head t y u len (number_of microseconds (seen (stamped 4 f) 12 cs))) (rest (seen (stamped 4 f) 12 cs)))
  unfolding micros_in stamped num Fits find seen spell finer choose
  finely e d (c ∷ cs) h j =
      let fs : List Seen = seen f (12 + length c) cs in
      let z = spelled (12 + length c) cs q (rest_here s c (join cs ++ q) 12 (sym (append_assoc c (join cs) q) ∙ rw j l.here)) h.2 in
      let x = shown (head t y u len (be c)) fs in
      let v : clock (head t y u len (be c)) ≡ Micro t (be c) = rw e in
      same longest s m q t y u len l k kd (plain (c ∷ cs)) j (be c) _ x.0 x.1 x.2 (rw (laid, d)) x.3 (z.2 (head t y u len (be c)))
      (rw (given (be c) (Micro t (be c)) v (sym e) fs)
      (record { stamp = refl; type = sym e; sub = refl; fit = (be_below 4 c h.0 h.1, z.0.0); front = rw (to_be_at 4 c h.0 h.1, z.0.1); tail = refl }))
  finely e d [] h j = elim h [ ]

  pub behind_agrees : (st : St) → Bgp y micro
      → Reads longest s m q t y u len l (read_body (plan st (layout_for longest k)) 12 (drop 12 m)) (behind (micro_at m micro) λ n at. whole (show (head t y u len n)) refused f m at)
  unfolding plan stamped micro_at behind choose
  behind_agrees st (inl (e, d)) = rw (laid, d) (fields_agree longest s m q t y u len l f (show (head t y u len 0)) (plainly e d))
  behind_agrees st (inr (e, d)) =
      rw (laid, d, behind_whole m f (λ n. show (head t y u len n)))
      (fields_agree longest s m q t y u len l (stamped 4 f) (λ fs. show (head t y u len (number_of microseconds fs)) (rest fs)) (finely e d))

module _ (longest : ℕ) (s m q : List ℕ) (t y u len : ℕ) (l : Stands s m q len) (st : St) (micro w : ℕ) (b : Bgp y micro) where
  pub change-agrees : kind y u ≡ Change micro w
      → Reads longest s m q t y u len l (read_body (plan st (layout_for longest (Change micro w))) 12 (drop 12 m))
      (behind (micro_at m micro) λ n at. whole (show.change (head t y u len n)) refused (session w state_change) m at)
  unfolding layout_for
  change-agrees kd =
      behind_agrees longest s m q t y u len l micro (Change micro w) kd (session w state_change) refl show.change (change_of s w)
      (λ i cs r e h. by_parts s (session w state_change) i _ (change-parts s w i) cs r e h) (λ h fs. (refl, refl, refl, refl)) (λ n i c e fs. rw (c, e, kd)) st b

  pub message-agrees : kind y u ≡ Message micro w
      → Reads longest s m q t y u len l (read_body (plan st (layout_for longest (Message micro w))) 12 (drop 12 m))
      (behind (micro_at m micro) λ n at. whole (show.message (head t y u len n)) refused (session w (message longest)) m at)
  unfolding layout_for
  message-agrees kd =
      behind_agrees longest s m q t y u len l micro (Message micro w) kd (session w (message longest)) refl show.message (message_of s w)
      (λ i cs r e h. by_parts s (session w (message longest)) i _ (message-parts s w longest i) cs r e h) (λ h fs. (refl, refl, refl, refl)) (λ n i c e fs. rw (c, e, kd)) st b
