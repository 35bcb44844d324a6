-- A table that loses no peer stays as it is, and so do the RIB records behind it.
use mathlib.Core.Path.{◌≡◌, refl, sym, ap, ◌∙◌}
use mathlib.Core.Bool.{true, ◌&&◌, ◌||◌}
use mathlib.Core.List.{List, map}
use Prim.Native.Nat.{ℕ, zero, suc, ◌+◌, ◌-◌}
use native.Mathlib.Omega.{arith}
use lib.Dec.{leb, ltb, eqb}
use lib.ListN.{length, take, drop}
use borrow.Author.Tests.{lt-ltb, ne_eqb}
use Rattle.form_spec.specs.Fmt.{Fmt}
use Rattle.form_spec.specs.Body.{Body}
use Rattle.form_spec.specs.Shape.{St, as_of}
use Rattle.form_spec.specs.Record.{Rec, write}
use Rattle.form_spec.specs.Dump.{writes}
use Rattle.page_spec.specs.Rib.{entry_rest, entry}
use Rattle.page_spec.specs.Peers.{peer}
use Rattle.page_spec.specs.Layout.{layout}
use Rattle.record_spec.specs.declared.Header.{Header}
use Rattle.record_spec.specs.declared.Peers.{Peers}
use Rattle.record_spec.specs.declared.Routes.{Routes}
use Rattle.record_spec.specs.Shown.{Shown, Good}
use Rattle.record_spec.specs.declared.Body.TheVariants.{PeerTable}
use Rattle.record_spec.specs.Answer.{place, time}
use Rattle.cut_spec.specs.Keep.{kept}
use Rattle.cut_spec.specs.Cut.{mem, cutting, numbers}
use Rattle.form_spec.specs.Found.{items}
use Rattle.cut_spec.specs.One.{first_rec, cut_one, items_left}
use Rattle.cut_laws.proofs.Lost.{entries_stay, peers_stay}
use Rattle.cut_laws.proofs.Items.{with_items, Held}
use Rattle.cut_laws.proofs.Tables.{peers_in, TableLeft}
use Rattle.cut_laws.proofs.Ribs.{entries_in, entries_left, RibLeft}

-- with the items that it had, a record is as it was
held_whole : {d : List ℕ} {at : ℕ} {r : Rec} {item : Fmt} {a n : ℕ} → Held d at r item a n → items_left d at (a - 14) (items item n (drop (at + a) d)) ≡ write r
held_whole {d} {at} {r} {item} {a} {n} i =
    let er : r ≡ with_items r i.fields (items item n (drop (at + a) d)) = ap (λ (b : Body). record { stamp = r.stamp; type = r.type; sub = r.sub; body = b }) i.body in
    sym (i.other (items item n (drop (at + a) d))) ∙ ap write (sym er)

some_stay : (n k : ℕ) → k ≡ n → (eqb n 0 || ltb 0 k) ≡ true
some_stay zero k e = refl
some_stay (suc n) k e = rw (ne_eqb (suc n) 0 (λ z. omega arith), lt-ltb 0 k (omega arith))

module _ {longest from to : ℕ} {ms d : List ℕ} {at : ℕ} {st : St} where
  pub table_whole : {h : Header} {p : Peers} → TableLeft longest from to ms d at st h p
      → length (kept (λ n. mem n ms) (map (as_of peer) (peers_in d at p))) ≡ length (map (as_of peer) (peers_in d at p))
      → writes (cut_one (layout longest) (cutting from to ms) st (first_rec (layout longest) st (drop at d))) ≡ take (place (Good h (PeerTable p))) (drop at d)
  table_whole {h} {p} w e =
      w.left ∙ ap (items_left d at (p.peers.at - 14)) (peers_stay (λ n. mem n ms) (as_of peer) (peers_in d at p) e) ∙ held_whole w.held ∙ sym w.shown.octets

  pub rib_whole : {new_indexes : List ℕ} {x : Shown} {h : Header} {e : Routes} → RibLeft longest from to ms new_indexes d at st x h e
      → length (kept (λ n. mem n ms) (numbers st)) ≡ length (numbers st) → (leb from (time h) && ltb (time h) to) ≡ true
      → writes (cut_one (layout longest) (cutting from to ms) st (first_rec (layout longest) st (drop at d))) ≡ take (place x) (drop at d)
  unfolding entry
  rib_whole {new_indexes} {x} {h} {e} w none inside =
      let same : entries_left new_indexes d at st e ≡ entries_in d at st e = w.cuts ∙ entries_stay (λ n. mem n ms) (numbers st) entry_rest (entries_in d at st e) none w.held.fit in
      w.left ∙ rw (inside, same, some_stay e.count (length (entries_in d at st e)) w.held.many) (held_whole w.held ∙ sym w.shown.octets)
