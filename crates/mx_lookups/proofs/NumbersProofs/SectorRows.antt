-- The rows of a sector, by the number of its entry, and by what holds them.
use Rattle.std.proofs.Common.{◌≡◌, ℕ, Bool, List, map, nat_eq, pos, Option, None, Result, Vec, refl, sym, ap, subst, ◌∙◌}
use Rattle.std.specs.declared.alloc.Global.{Global}
use Rattle.std.specs.declared.cmp.Ordering.{Ordering}
use Rattle.std.proofs.lemmas.List.Elements.{All-map}
use Rattle.std.proofs.lemmas.Simd.{map-map}
use Rattle.sqlite.specs.Order.{Row}
use Rattle.sqlite.specs.State.{State}
use Rattle.sqlite.specs.declared.types.Value.TheVariants.{Int}
use Rattle.mx_layout.specs.Names.{table_named}
use Rattle.mx_layout.specs.declared.fault.TableFault.{TableFault}
use Rattle.mx_base.specs.declared.rows.rows.Sector2Row.{Sector2Row}
use Rattle.mx_layout.specs.kept.Kept.{Kept, held}
use Rattle.mx_layout.specs.kept.Cells.{kept_sector2, kept_sector2_rows}
use Rattle.mx_table_rows.specs.chosen.Calls.{ReadsBy, ReadsFirst}
use Rattle.mx_table_rows.specs.chosen.Choices.{AreFirst, has_value}
use Rattle.mx_row_rules.specs.found.Given as given
use Rattle.mx_row_rules.specs.found.Given.{found, rows_of}
use Rattle.mx_lookups.specs.numbers.Reads.{Reads}
use Rattle.mx_lookups.proofs.NumbersProofs.LookupLemmas.{rows_read, number_is}
use Rattle.mx_lookups.proofs.NumbersProofs.TableLemmas.{sectors}
use Rattle.mx_lookups.proofs.NumbersProofs.ReadLemmas.{map_ok}

-- what was read of things that hold rows was read of the rows
pub held_read : {X Y V : Type 0} (k : Kept X) (inner : Y → X) (outer : X → Y) → ((x : X) → inner (outer x) ≡ x) → (most : Option ℕ) (order : Row → Row → Ordering) (chosen : Row → Bool) (items : V → List Y) (old new : State) (result : Result V TableFault)
    → ReadsFirst (held k inner) most order chosen items old new result → ReadsFirst k most order chosen (λ v. map inner (items v)) old new result
held_read k inner outer back most order chosen items old new result r = record {
  rows = λ clean has. map_ok _ _ result (λ v are. subst (AreFirst most order (table_named k.name) chosen old.now.trees) (sym (map-map k.as_cells inner (items v))) are) (r.rows clean has);
  fits = map_ok _ _ result (λ v. All-map k.Fits inner (items v)) r.fits;
  cause = r.cause;
  damaged = λ clean has is. (let bad = r.damaged clean has is in
      (bad.0, bad.1, (bad.2.0, bad.2.1, λ good. bad.2.2 (outer good.0, subst k.Fits (sym (back good.0)) good.1, good.2 ∙ ap k.as_cells (sym (back good.0))))));
  unchanged = r.unchanged;
  inside = r.inside;
  within = r.within;
}

-- the rows of sectors behind what holds them
pub sectors_held : (n : ℕ) (old new : State) (result : Result (Vec Sector2Row Global) TableFault) → ReadsBy kept_sector2_rows 0 (Int (pos n)) old new result → ReadsFirst kept_sector2 None kept_sector2.order (has_value 0 (Int (pos n))) (λ rows. map (λ (row : Sector2Row). row.sector) rows.items) old new result
sectors_held n = held_read kept_sector2 (λ (row : Sector2Row). row.sector) (λ row. record { sector = row }) (λ _. refl) None kept_sector2.order (has_value 0 (Int (pos n))) (λ rows. rows.items)

pub sectors_read : (n : ℕ) (old new : State) (result : Result (Vec Sector2Row Global) TableFault) → ReadsBy kept_sector2_rows 0 (Int (pos n)) old new result → Reads (λ book rows. map (λ (row : Sector2Row). row.sector) rows.items ≡ found given.sectors book n) old new result
sectors_read n old new result r =
    rows_read kept_sector2 (rows_of given.sectors) sectors (has_value 0 (Int (pos n))) (λ row. nat_eq row.seq n) (λ row. number_is row.seq n) _ old new result
    (sectors_held n old new result r)
