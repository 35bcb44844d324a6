-- Contents that are carried unread: they are shown where they lie.
use mathlib.Core.Path.{◌≡◌, refl, ap, ◌∙◌}
use mathlib.Core.Bool.{true, false}
use mathlib.Core.Logic.{inl, inr}
use mathlib.Core.List.{List, [], ◌∷◌, ◌++◌}
use Prim.Native.Nat.{ℕ, ◌+◌}
use lib.ListN.{length, drop}
use Rattle.form_spec.specs.Octets.{be}
use Rattle.form_spec.specs.Fmt.{end, Fits, find, join}
use Rattle.form_spec.specs.Words.{choose, num}
use Rattle.form_spec.specs.Body.{loose, read_body, spell}
use Rattle.form_spec.specs.Shape.{St, plan, micros_in}
use Rattle.form_spec.specs.Pass.{Seen, number_of, pass}
use Rattle.form_spec.specs.Put.{carried}
use Rattle.form_laws.proofs.Octets.{to_be_at, be_below}
use Rattle.form_laws.proofs.Pass.{seen}
use Rattle.page_spec.specs.Names.{microseconds}
use Rattle.page_spec.specs.Layout.{kind, layout_for, stamped, finer}
use Rattle.page_spec.specs.Chosen as chosen
use Rattle.record_spec.specs.Fields.{rest_from}
use Rattle.record_spec.specs.Shown.{Shown, Good}
use Rattle.record_spec.specs.declared.Body.TheVariants.{Unread}
use Rattle.record_spec.specs.One.{micro_at, behind}
use Rattle.record_spec.specs.Agrees.{Same}
use Rattle.page_laws.proofs.Choice.{Says}
use Rattle.record_laws.proofs.Behind.{behind_micro}
use Rattle.record_laws.proofs.Same.{head, rec, Stands, Reads, same, rest_is, free_agree}
use Rattle.form_spec.specs.Refusal.{refused}

behind_pass : (m : List ℕ) (g : ℕ → ℕ → Shown) → behind (micro_at m 4) g ≡ pass (λ fs a p. g (number_of microseconds fs) a) refused (stamped 4 (end 0)) m 12
unfolding stamped num pass
behind_pass m g = behind_micro m g

module _ (longest : ℕ) (s m q : List ℕ) (t y u len : ℕ) (l : Stands s m q len) where
  abbrev shows : List Seen → ℕ → Shown
  shows fs a = Good (head t y u len (number_of microseconds fs)) (Unread (rest_from m a))

  plainly : finer y ≡ false → kind y u ≡ chosen.Unread 0 → (cs : List (List ℕ)) (c : List ℕ) → Fits (end 0) cs → join cs ++ c ≡ drop 12 m
      → Same longest s (rec t y u (loose cs c)) (shows (seen (end 0) 12 cs) (12 + length (join cs)))
  unfolding Fits find seen micros_in layout_for stamped spell choose
  plainly e kd [] c h j =
      same longest s m q t y u len l (chosen.Unread 0) kd (loose [] c) j 0 _ refl refl refl refl (rw e) tt
      (rw e (record { stamp = refl; type = refl; sub = refl; fit = tt; front = refl; tail = ap carried (rest_is longest s m q t y u len l [] c 12 j refl) }))
  plainly e kd (_ ∷ _) c h j = elim h [ ]

  finely : finer y ≡ true → kind y u ≡ chosen.Unread 4 → (cs : List (List ℕ)) (c : List ℕ) → Fits (stamped 4 (end 0)) cs → join cs ++ c ≡ drop 12 m
      → Same longest s (rec t y u (loose cs c)) (shows (seen (stamped 4 (end 0)) 12 cs) (12 + length (join cs)))
  unfolding Fits find seen micros_in layout_for stamped num spell choose
  finely e kd (b ∷ []) c h j =
      same longest s m q t y u len l (chosen.Unread 4) kd (loose (b ∷ []) c) j (be b) _ refl refl refl refl (rw e) tt
      (rw e (record {
        stamp = refl;
        type = refl;
        sub = refl;
        fit = (be_below 4 b h.0 h.1, tt);
        front = rw (to_be_at 4 b h.0 h.1);
        tail = ap carried (rest_is longest s m q t y u len l (b ++ []) c (12 + length (b ++ [])) j refl);
      }))
  finely e kd (b ∷ d ∷ cs) c h j = absurd h.2
  finely e kd [] c h j = elim h [ ]

  pub unread_agrees : (st : St) (micro : ℕ) → Says y u (chosen.Unread micro) → kind y u ≡ chosen.Unread micro
      → Reads longest s m q t y u len l (read_body (plan st (layout_for longest (chosen.Unread micro))) 12 (drop 12 m))
      (behind (micro_at m micro) λ n at. Good (head t y u len n) (Unread (rest_from m at)))
  unfolding plan layout_for stamped micro_at behind pass choose
  unread_agrees st micro (inl (e, d)) kd = rw d (free_agree longest s m q t y u len l (end 0) shows (plainly e (kd ∙ ap chosen.Unread d)))
  unread_agrees st micro (inr (e, d)) kd =
      rw (d, behind_pass m (λ n a. Good (head t y u len n) (Unread (rest_from m a)))) (free_agree longest s m q t y u len l (stamped 4 (end 0)) shows (finely e (kd ∙ ap chosen.Unread d)))
