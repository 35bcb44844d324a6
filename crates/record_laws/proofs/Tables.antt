-- Type 13: what is shown are the record's fields.
use mathlib.Core.Path.{◌≡◌, refl, sym, ap₂, ◌∙◌}
use mathlib.Core.List.{List, [], ◌∷◌, ◌++◌, append_assoc}
use Prim.Native.Nat.{ℕ, zero, suc, ◌+◌, ◌-◌, ◌<◌}
use native.Mathlib.Omega.{arith}
use native.Mathlib.Nat.{add_assoc}
use lib.Dec.{leb}
use lib.ListN.{length, take, drop, length-append}
use Rattle.form_spec.specs.Octets.{be, to_be}
use Rattle.form_spec.specs.Fmt.{Fmt, end, test, field, read, Fits, join}
use Rattle.form_spec.specs.Words.{num, skip, checked, tested, in_range}
use Rattle.form_spec.specs.Body.{joins, many, listed, read_body, spell}
use Rattle.form_spec.specs.Shape.{St, no_table, with_peers, plan, micros_in}
use Rattle.form_spec.specs.Pass.{Seen, note, whole, ◌⨾◌, counted}
use Rattle.form_spec.specs.Put.{items}
use Rattle.form_spec.specs.Gives.{Gives}
use Rattle.form_laws.proofs.Octets.{be-to_be}
use Rattle.form_laws.proofs.Pass.{seen}
use Rattle.form_laws.proofs.Then.{flat}
use Rattle.page_spec.specs.Names.{sequence, family, safi, peer_count, entry_count}
use Rattle.page_spec.specs.Rib.{prefix, rib_head, generic_head, entry, entry_list, rib, rib_generic}
use Rattle.page_spec.specs.Peers.{table_head, peer, peer_list, peer_table}
use Rattle.page_spec.specs.Layout.{kind, layout_for}
use Rattle.page_spec.specs.Chosen.{Chosen, PeerTable, Rib, RibGeneric}
use Rattle.page_laws.proofs.Same.{rib_then, generic_then, table_then}
use Rattle.record_spec.specs.Fields as show
use Rattle.record_spec.specs.Shown.{Shown}
use Rattle.record_spec.specs.Table.{Table, Absent, Holds}
use Rattle.record_spec.specs.Answer.{fault, place, header_of}
use Rattle.record_spec.specs.One.{tabled}
use Rattle.write_spec.specs.Only.{writer}
use Rattle.record_spec.specs.Tells.{Tells}
use Rattle.record_spec.specs.Again.{again}
use Rattle.record_spec.specs.Agrees.{writer_of, Typed}
use Rattle.record_laws.proofs.Parts.{Parts, by_parts, parts-choose, spells, below}
use Rattle.record_laws.proofs.Same.{head, rec, Stands, Reads, same, rest_is, many_agree}
use Rattle.form_spec.specs.Refusal.{refused}

note_then : (x p z a n : ℕ) (fs gs : List Seen) → note x p z a n (fs ++ gs) ≡ note x p z a n fs ++ gs
note_then zero p z a n fs gs = refl
note_then (suc x) p z a n fs gs = refl

-- what is seen of one format after another
seen_then : (f g : Fmt) (i : ℕ) (cs ds : List (List ℕ)) → Fits f cs → seen (f ⨾ g) i (cs ++ ds) ≡ seen f i cs ++ seen g (i + length (join cs)) ds
unfolding seen Fits ◌⨾◌
seen_then (end b) g i [] ds h = let e : i + 0 ≡ i = omega arith in rw e
seen_then (test n b f) g i cs ds h = seen_then f g i cs ds h.1
seen_then (field x l b k) g i (c ∷ cs) ds h =
    rw (seen_then (k c) g (i + length c) cs ds h.2, length-append, ← add_assoc)
    (note_then x i (length c) (i + length c) (be c) (seen (k c) (i + length c) cs) (seen g (i + length c + length (join cs)) ds))
seen_then (end b) g i (c ∷ cs) ds h = elim h [ ]
seen_then (field x l b k) g i [] ds h = elim h [ ]

module _ (longest : ℕ) (s m q : List ℕ) (t y u len : ℕ) (l : Stands s m q len) where
  -- the count and the items, as a writer is given them
  tail_is : (cs : List (List ℕ)) (its : List (List (List ℕ))) → length its < 65536 → join cs ++ (to_be 2 (length its) ++ joins its) ≡ drop 12 m
      → items (be (to_be 2 (length its))) (take (length m - (12 + length (join cs) + length (to_be 2 (length its)))) (drop (12 + length (join cs) + length (to_be 2 (length its))) s))
      ≡ items (length its) (joins its)
  tail_is cs its h e =
      ap₂ items (be-to_be 2 (length its) h)
      (rest_is longest s m q t y u len l (join cs ++ to_be 2 (length its)) (joins its) _ (append_assoc (join cs) (to_be 2 (length its)) (joins its) ∙ e) (rw (length-append, add_assoc)))

  module _ (x : ℕ) (g : Fmt) (to : List Seen → Shown) where
    -- of a body of those items, and of what was seen of its front
    abbrev Shows : List (List (List ℕ)) → List (List ℕ) → List Seen → Type 0
    Shows its cs fs =
        length its < 65536 → join cs ++ (to_be 2 (length its) ++ joins its) ≡ drop 12 m
        → Gives (again s (to (fs ++ seen (counted x g) (12 + length (join cs)) (to_be 2 (length its) ∷ flat its)))) (rec t y u (listed cs its))

    listed_agrees : (f : Fmt) (k : Chosen) → kind y u ≡ k → ((cs : List (List ℕ)) (its : List (List (List ℕ))) → 0 ≡ micros_in (layout_for longest k) (listed cs its))
        → ((fs : List Seen) → (fault (to fs) ≡ 0) × (place (to fs) ≡ 12 + len) × (header_of (to fs) ≡ head t y u len 0) × (writer_of (to fs) ≡ writer k) × Typed s (to fs))
        → ((its : List (List (List ℕ))) → Parts s f 12 (Shows its))
        → Reads longest s m q t y u len l (read_body (many f g) 12 (drop 12 m)) (whole to refused (f ⨾ counted x g) m 12)
    unfolding spell
    listed_agrees f k kd z shown parts =
        many_agree longest s m q t y u len l x f g to
        (λ cs its h n e.
        let w = shown (seen f 12 cs ++ seen (counted x g) (12 + length (join cs)) (to_be 2 (length its) ∷ flat its)) in
        rw (seen_then f (counted x g) 12 cs (to_be 2 (length its) ∷ flat its) h)
        (same longest s m q t y u len l k kd (listed cs its) e 0 _ w.0 w.1 w.2 (z cs its) w.3 w.4
        (by_parts s f 12 (Shows its) (parts its) cs (to_be 2 (length its) ++ joins its ++ q) (sym (append_assoc (join cs) (to_be 2 (length its) ++ joins its) q) ∙ rw e l.here) h n e)))

  table-parts : y ≡ 13 → u ≡ 1 → (its : List (List (List ℕ))) → Parts s (table_head (end 0)) 12 (Shows peer_count peer (show.peer_table (head t y u len 0) m) its)
  unfolding Parts seen num tested
  table-parts e d its =
      λ c hc v hv n hn text small o.
      record {
        stamp = refl;
        type = sym e;
        sub = sym d;
        fit = (below hc, (rw (hn.here, hn.size) (below hv), (tt, tt)));
        front = rw (spells hc, hn.here, hn.size, spells hv);
        tail = tail_is (c ∷ v ∷ n ∷ []) its small o;
      }

  pub table-agrees : (st : St) → y ≡ 13 → u ≡ 1 → kind y u ≡ PeerTable
      → Reads longest s m q t y u len l (read_body (plan st (layout_for longest PeerTable)) 12 (drop 12 m)) (whole (show.peer_table (head t y u len 0) m) refused peer_table m 12)
  unfolding plan layout_for micros_in peer_list
  table-agrees st e d kd =
      rw table_then
      (listed_agrees peer_count peer (show.peer_table (head t y u len 0) m) (table_head (end 0)) PeerTable kd (λ cs its. refl) (λ fs. (refl, refl, refl, refl, tt)) (table-parts e d))

  module _ (peers : ℕ) where
    rib-parts : (bits : ℕ) → y ≡ 13 → (its : List (List (List ℕ))) → Parts s (rib_head bits (end 0)) 12 (Shows entry_count (entry peers) (show.rib (head t y u len 0) m) its)
    unfolding Parts seen num skip checked prefix
    rib-parts bits e its =
        λ n hn b hb ok p hp small o.
        record {
          stamp = refl;
          type = sym e;
          sub = refl;
          fit = (below hn, (below hb, (tt, tt)));
          front = rw (spells hn, spells hb, hp.here);
          tail = tail_is (n ∷ b ∷ p ∷ []) its small o;
        }

    -- whatever the family lets a prefix have
    generic_sized : (bits : ℕ) → y ≡ 13 → u ≡ 6 → (its : List (List (List ℕ)))
        → Parts s (num sequence 4 λ n. checked family 2 (λ f. in_range 1 f 2) 7 λ fam. checked safi 1 (λ i. in_range 1 i 2) 7 λ i. prefix bits (end 0)) 12
        (Shows entry_count (entry peers) (show.rib_generic (head t y u len 0) m) its)
    unfolding Parts seen num skip checked prefix
    generic_sized bits e d its =
        λ n hn f hf known i hi listed b hb ok p hp small o.
        record {
          stamp = refl;
          type = sym e;
          sub = sym d;
          fit = (below hn, (below hf, (below hi, (below hb, (tt, tt)))));
          front = rw (spells hn, spells hf, spells hi, spells hb, hp.here);
          tail = tail_is (n ∷ f ∷ i ∷ b ∷ p ∷ []) its small o;
        }

    generic_parts : y ≡ 13 → u ≡ 6 → (its : List (List (List ℕ))) → Parts s (generic_head (end 0)) 12 (Shows entry_count (entry peers) (show.rib_generic (head t y u len 0) m) its)
    unfolding Parts seen num checked
    generic_parts e d its =
        λ n hn f hf known i hi listed.
        parts-choose s (leb (be f) 1) (prefix 32 (end 0)) (prefix 128 (end 0)) _ _
        (λ v. generic_sized 32 e d its n hn f hf known i hi listed) (λ v. generic_sized 128 e d its n hn f hf known i hi listed)

  pub rib-agrees : (table : Table) (st : St) → Tells table st → (bits : ℕ) → y ≡ 13 → kind y u ≡ Rib bits
      → Reads longest s m q t y u len l (read_body (plan st (layout_for longest (Rib bits))) 12 (drop 12 m))
      (tabled table λ peers. whole (show.rib (head t y u len 0) m) refused (rib bits peers) m 12)
  unfolding plan layout_for micros_in read_body read tabled entry_list entry
  rib-agrees Absent no_table h bits e kd = refl
  rib-agrees (Holds n) (with_peers ns) h bits e kd =
      rw (← h, rib_then bits n)
      (listed_agrees entry_count (entry n) (show.rib (head t y u len 0) m) (rib_head bits (end 0)) (Rib bits) kd (λ cs its. refl) (λ fs. (refl, refl, refl, refl, tt)) (rib-parts n bits e))
  rib-agrees Absent (with_peers ns) h bits e kd = elim h [ ]
  rib-agrees (Holds n) no_table h bits e kd = elim h [ ]

  pub generic_agrees : (table : Table) (st : St) → Tells table st → y ≡ 13 → u ≡ 6 → kind y u ≡ RibGeneric
      → Reads longest s m q t y u len l (read_body (plan st (layout_for longest RibGeneric)) 12 (drop 12 m))
      (tabled table λ peers. whole (show.rib_generic (head t y u len 0) m) refused (rib_generic peers) m 12)
  unfolding plan layout_for micros_in read_body read tabled entry_list entry
  generic_agrees Absent no_table h e d kd = refl
  generic_agrees (Holds n) (with_peers ns) h e d kd =
      rw (← h, generic_then n)
      (listed_agrees entry_count (entry n) (show.rib_generic (head t y u len 0) m) (generic_head (end 0)) RibGeneric kd (λ cs its. refl) (λ fs. (refl, refl, refl, refl, tt)) (generic_parts n e d))
  generic_agrees Absent (with_peers ns) h e d kd = elim h [ ]
  generic_agrees (Holds n) no_table h e d kd = elim h [ ]
