-- Type 12: what is shown are the record's fields.
use mathlib.Core.Path.{◌≡◌, refl, sym, ◌∙◌}
use mathlib.Core.List.{List}
use Prim.Native.Nat.{ℕ}
use lib.ListN.{drop}
use Rattle.form_spec.specs.Words.{num, skip, checked, tested}
use Rattle.form_spec.specs.Body.{plain, read_body, spell}
use Rattle.form_spec.specs.Shape.{St, plan, micros_in}
use Rattle.form_spec.specs.Pass.{Seen, number_of, whole}
use Rattle.form_spec.specs.Gives.{Gives}
use Rattle.form_laws.proofs.Whole.{number-find}
use Rattle.page_spec.specs.Names.{microseconds}
use Rattle.page_spec.specs.Rib.{attributes, tiling}
use Rattle.page_spec.specs.TableDump.{table_dump, table_dump_rest}
use Rattle.page_spec.specs.Layout.{kind, layout_for}
use Rattle.page_spec.specs.Chosen.{TableDump}
use Rattle.record_spec.specs.Fields as show
use Rattle.record_spec.specs.Again.{again}
use Rattle.record_laws.proofs.Parts.{Parts, by_parts, spells, below}
use Rattle.record_laws.proofs.Same.{head, rec, Stands, Reads, same, fields_agree}
use Rattle.form_spec.specs.Refusal.{refused}

module _ (s : List ℕ) (t y u len : ℕ) where
  abbrev Shows : List (List ℕ) → List Seen → Type 0
  Shows cs fs = Gives (again s (show.table_dump (head t y u len 0) fs)) (rec t y u (plain cs)) × (0 ≡ number_of microseconds fs)

  parts : (size : ℕ) → 12 ≡ y → Parts s (table_dump size) 12 Shows
  unfolding Parts table_dump table_dump_rest attributes tiling num skip checked tested
  parts size e =
      λ v hv n hn p hp b hb ok o ho r hr a ha w hw l hl c hc tiled. (
        record {
          stamp = refl;
          type = e;
          sub = refl;
          fit = (below hv, (below hn, (tt, (below hb, (below ho, (below hr, (tt, (below hw, (rw (hc.here, hc.size) (below hl), (tt, tt))))))))));
          front = rw (spells hv, spells hn, hp.here, spells hb, spells ho, spells hr, ha.here, spells hw, hc.here, hc.size, spells hl);
          tail = refl;
        },
        refl,
      )

module _ (longest : ℕ) (s m q : List ℕ) (t y u len : ℕ) (l : Stands s m q len) where
  pub table_dump_agrees : (st : St) (size : ℕ) → y ≡ 12 → kind y u ≡ TableDump size
      → Reads longest s m q t y u len l (read_body (plan st (layout_for longest (TableDump size))) 12 (drop 12 m)) (whole (show.table_dump (head t y u len 0)) refused (table_dump size) m 12)
  unfolding plan layout_for micros_in spell
  table_dump_agrees st size e kd =
      fields_agree longest s m q t y u len l (table_dump size) (show.table_dump (head t y u len 0))
      (λ cs f d.
      let z = by_parts s (table_dump size) 12 (Shows s t y u len) (parts s t y u len size (sym e)) cs q (rw d l.here) f in
      same longest s m q t y u len l (TableDump size) kd (plain cs) d 0 _ refl refl refl (z.1 ∙ number-find 0 (table_dump size) 12 cs) refl tt z.0)
