-- How a record whose contents are carried unread is refused.
use mathlib.Core.Path.{◌≡◌, refl, sym, ◌∙◌}
use mathlib.Core.Bool.{false}
use mathlib.Core.List.{List}
use Prim.Native.Nat.{ℕ, ◌+◌}
use native.Mathlib.Omega.{arith}
use lib.Dec.{eqb}
use lib.ListN.{length, length-append}
use borrow.Author.Tests.{eq-eqb, ne_eqb}
use Rattle.form_spec.specs.Fmt.{end, join}
use Rattle.form_spec.specs.Put.{carried, lay, message, refusal, body_refusal, type_refusal}
use Rattle.form_spec.specs.Shape.{no_table, plan}
use Rattle.form_spec.specs.Words.{choose}
use Rattle.page_spec.specs.Layout.{stamped, layout_for}
use Rattle.page_spec.specs.Chosen.{Chosen, Unread}
use Rattle.write_spec.specs.Times.{micro_size, micros}
use Rattle.write_spec.specs.Only.{writer, unreads}
use Rattle.write_spec.specs.Givens.{unread_given}
use Rattle.write_laws.proofs.Answers.{micros_long}
use Rattle.write_spec.specs.declared.Time.{Time}
use Rattle.form_spec.specs.Refusal.{refused}

-- ---- whose a kind is

-- unread contents behind other microseconds
pub other_micro : (m n : ℕ) (k : Chosen) → k ≡ Unread n → (n ≡ m → ⊥) → eqb (writer k) (unreads m) ≡ false
other_micro m n k e d = rw e (ne_eqb (7 + n) (7 + m) (λ q. d (omega arith)))

module _ (longest : ℕ) where
  -- r is the kind k, as code found it
  pub not_unread : (m : ℕ) (r k : Chosen) → r ≡ k → eqb (writer r) (unreads m) ≡ false → type_refusal (layout_for longest (choose (eqb (writer k) (unreads m)) k (refused 3 4))) ≡ 3
  unfolding choose layout_for
  not_unread m r k s e = let d = rw s at e in rw d

  pub is_unread : (m n : ℕ) (r k : Chosen) → r ≡ k → r ≡ Unread n → n ≡ m → layout_for longest (choose (eqb (writer k) (unreads m)) k (refused 3 4)) ≡ layout_for longest (Unread m)
  unfolding choose
  is_unread m n r k s e d = let q : k ≡ Unread n = sym s ∙ e in rw (q, d, eq-eqb (7 + m) (7 + m) refl)

  pub unread_typed : (m : ℕ) → type_refusal (layout_for longest (Unread m)) ≡ 0
  unfolding layout_for
  unread_typed m = refl

  pub unread_body : (t : Time) (r : List ℕ) → refusal (stamped (micro_size t) (end 0)) (micros t) ≡ body_refusal (plan no_table (layout_for longest (Unread (micro_size t)))) (micros t) (carried r)
  unfolding layout_for plan body_refusal
  unread_body t r = refl

-- ---- how long it is

pub message_long : (t : Time) (y s : ℕ) (r : List ℕ) → length (message (unread_given t y s r)) ≡ micro_size t + length r
message_long t y s r = rw (length-append (join (lay (micros t))) r, micros_long t)
