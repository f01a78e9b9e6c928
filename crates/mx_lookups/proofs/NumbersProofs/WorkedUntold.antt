-- Worked rows: where no table is told damaged, though rows are none of their type: they are those of another name or number, of a span that was ended, or of another table.
use Rattle.std.proofs.Common.{◌≡◌, ◌∙◌, pos, List, [], ◌∷◌, filter, length, inl, inr, refl, ap, arith}
use Rattle.std.specs.Prelude.{codes, Bool}
use Rattle.std.proofs.lemmas.List.Sorted.{length_permutation}
use Rattle.sqlite.specs.declared.types.Value.TheVariants.{Int}
use Rattle.sqlite.specs.Order.{Row}
use Rattle.sqlite.specs.Tree.{Trees}
use Rattle.sqlite_sql.specs.Ops.{binary}
use Rattle.sqlite_value.specs.Order.{value_cmp}
use lib.Ieee.{is_nan, lt}
use Rattle.mx_book.proofs.Worked.{abcd}
use Rattle.mx_book.proofs.WorkedDefects.{x1}
use Rattle.mx_book.proofs.WorkedFittings.{efgh}
use Rattle.mx_layout.specs.TableName.{TableName}
use Rattle.mx_layout.specs.declared.fault.Table.TheVariants as table
use Rattle.mx_layout.specs.Contents.{rows_in}
use Rattle.mx_layout.specs.Names.{table_named}
use Rattle.mx_layout.specs.Tables as tables
use Rattle.mx_layout.specs.kept.Cells.{kept_aircraft, kept_entry, kept_span2}
use Rattle.mx_layout.specs.kept.Kept.{Kept}
use Rattle.mx_table_rows.specs.chosen.Choices.{is_open}
use Rattle.mx_lookups.specs.numbers.Told.{AircraftDamage, CountDamage, DocDamage, EntryDamage, TailDamage, TailNamedDamage, Unread}
use Rattle.mx_lookups.proofs.NumbersProofs.WorkedTold.{aircraft_row, entry_row, span}

-- nothing is chosen of the rows of the table
unchosen : {X : Type 0} (k : Kept X) (chosen : Row → Bool) (trees : Trees) (rows : List Row) → rows_in (table_named k.name) trees ≡ rows → filter chosen rows ≡ [] → (name : TableName) → ¬ Unread k chosen name trees
unchosen k chosen trees rows there none name (same, (all, first, (row, (at, below, is), other))) =
    let chose : filter chosen (rows_in (table_named k.name) trees) ≡ [] = ap (filter chosen) there ∙ none in
    let few : length first.those ≡ 0 = length_permutation _ first.those first.are.all ∙ ap length chose in
    let many : length all ≡ 0 = ap length first.first ∙ few in
    absurd (omega (arith, below, many))

-- D-EFGH alone is there, entry 7
aircraft_untold : (trees : Trees) → rows_in tables.aircraft trees ≡ aircraft_row 7 efgh ∷ [] → (name : TableName) → (¬ AircraftDamage abcd name trees) × (¬ TailDamage 1 name trees)
unfolding binary value_cmp is_nan lt
aircraft_untold trees there name = (unchosen kept_aircraft _ trees _ there refl name, unchosen kept_aircraft _ trees _ there refl name)

-- A1 alone is there, entry 1
entries_untold : (trees : Trees) → rows_in tables.entry trees ≡ entry_row 1 (codes "A1") ∷ [] → (name : TableName) → (¬ EntryDamage x1 name trees) × (¬ DocDamage 2 name trees)
unfolding binary value_cmp is_nan lt
entries_untold trees there name = (unchosen kept_entry _ trees _ there refl name, unchosen kept_entry _ trees _ there refl name)

-- E1, entry 2, was removed from D-ABCD, entry 1
spans_untold : (trees : Trees) → rows_in tables.span2 trees ≡ span 4 2 1 (Int (pos 5)) (Int (pos 28488090)) ∷ [] → (name : TableName) → (¬ Unread kept_span2 (is_open 2 (Int (pos 1))) name trees) × (¬ Unread kept_span2 (is_open 1 (Int (pos 2))) name trees)
unfolding binary value_cmp is_nan lt
spans_untold trees there name = (unchosen kept_span2 _ trees _ there refl name, unchosen kept_span2 _ trees _ there refl name)

-- an aircraft that is not there: what names it is to blame, and no other table
named_untold : (trees : Trees) → rows_in tables.aircraft trees ≡ aircraft_row 7 efgh ∷ [] → ¬ TailNamedDamage table.Span2 1 table.Component trees
named_untold trees there (inl told) = (aircraft_untold trees there table.Component).1 told
named_untold trees there (inr (same, none)) = absurd cc

uncounted_untold : (trees : Trees) → ¬ CountDamage table.Aircraft table.Component trees
uncounted_untold trees (same, many) = absurd cc
