-- The accomplishments of a task of an item, where the tables stand for a book at layout 3. The rows of a book are not listed in the order of the table, but those of a task are.
use Rattle.std.proofs.Common.{◌≡◌, ◌∙◌, ℕ, ◌+◌, List, [], ◌∷◌, map, filter, length, None, Some, Vec, Result, refl, sym, ap, subst}
use Rattle.std.specs.Prelude.{All, IsPermutation, IsSorted, fold, slice_get, ◌-◌, Option}
use Rattle.std.specs.Option.{option_map}
use Rattle.std.specs.declared.alloc.Global.{Global}
use Rattle.sqlite.specs.State.{State}
use Rattle.sqlite.specs.Tree.{Trees}
use Rattle.sqlite_keyed.proofs.ListLemmas.{filter-map, filter_same, IsPermutation-filter}
use Rattle.mx_base.specs.declared.rows.rows.DoneRow.{DoneRow}
use Rattle.mx_base.specs.rows.Rows.{line_key}
use Rattle.mx_book.specs.commands.Act.{Entry}
use Rattle.mx_book.specs.declared.commands.item.Item.{Item}
use Rattle.mx_registers.specs.Names.{item_at}
use Rattle.mx_registers.specs.late.Done.{done_rows, done_rows_of, is_done_of, last_base}
use Rattle.mx_registers.proofs.LateProofs.DoneOrder.{rows_rise}
use Rattle.mx_registers.proofs.LateProofs.DoneTable.{rows_of_task}
use Rattle.mx_layout.specs.Contents.{rows_in}
use Rattle.mx_layout.specs.Names.{table_named}
use Rattle.mx_layout.specs.Reading.{by_four}
use Rattle.mx_layout.specs.Tables.{done3}
use Rattle.mx_layout.specs.declared.fault.TableFault.{TableFault}
use Rattle.mx_layout.specs.kept.Cells.{kept_done3}
use Rattle.mx_layout.proofs.KeptProofs.MovedLawful.{done3_lawful}
use Rattle.mx_table_rows.specs.chosen.Calls.{ReadsFirst}
use Rattle.mx_table_rows.specs.chosen.Choices.{AreFirst}
use Rattle.mx_row_rules.proofs.FoundProofs.LastLemmas.{last_is}
use Rattle.mx_book_tables.specs.stands.Stands.{HasRowsAt}
use Rattle.mx_lookups.specs.numbers.Given.{is_of}
use Rattle.mx_lookups.specs.numbers.Later.{AreDoneRows}
use Rattle.mx_lookups.specs.numbers.Reads.{ReadsAt, later_point}
use Rattle.mx_lookups.proofs.LivesProofs.DoneOrder.{in_order, of_is}
use Rattle.mx_lookups.proofs.NumbersProofs.ChosenLemmas.{no_other}
use Rattle.mx_lookups.proofs.NumbersProofs.LaterTables.{done_fit, done_given, done_in}
use Rattle.mx_lookups.proofs.NumbersProofs.LookupLemmas.{chosen_read}

module _ (n : ℕ) (id : List ℕ) where
  -- the rows of the task of the item with the number stand there
  pub are_stored : (trees : Trees) (book : List Entry) → HasRowsAt later_point trees book → (item : Item) → item_at book n ≡ Some item → AreDoneRows n id trees (done_rows_of book n item id)
  are_stored trees book has item at =
      let passes = λ (x : DoneRow). is_of n id (kept_done3.as_cells x) in
      let those : filter (is_of n id) (map kept_done3.as_cells (done_rows book)) ≡ map kept_done3.as_cells (done_rows_of book n item id) =
      filter-map (is_of n id) kept_done3.as_cells (done_rows book) ∙ ap (map kept_done3.as_cells) (filter_same passes (is_done_of n id) (of_is n id) (done_rows book) ∙ rows_of_task book n item id has.is_book at) in
      subst (λ l. IsPermutation l (filter (is_of n id) (rows_in done3 trees))) those (IsPermutation-filter (is_of n id) _ _ (done_given trees book has))

  -- what was chosen are these rows, in their order
  done_is : (trees : Trees) (book : List Entry) → HasRowsAt later_point trees book → (item : Item) → item_at book n ≡ Some item → (xs : List DoneRow) → AreFirst None kept_done3.order (table_named kept_done3.name) (is_of n id) trees (map kept_done3.as_cells xs) → All kept_done3.Fits xs
      → xs ≡ done_rows_of book n item id
  done_is trees book has item at xs are fits =
      let shown : IsPermutation (filter (is_of n id) (rows_in done3 trees)) (map kept_done3.as_cells xs) = subst (IsPermutation (filter (is_of n id) (rows_in done3 trees))) (sym are.first) are.are.all in
      let sorted : IsSorted by_four (map kept_done3.as_cells xs) = subst (IsSorted by_four) (sym are.first) are.are.sorted in
      in_order n id (line_key 1 0) (line_key (length book + 1) 0) (done_rows_of book n item id) (rows_rise book n item id has.is_book) (rows_in done3 trees) (are_stored trees book has item at) xs (record { fit = fits; those = shown; sorted = sorted })

  pub done_by_task : (old new : State) (result : Result (Vec DoneRow Global) TableFault) → ReadsFirst kept_done3 None kept_done3.order (is_of n id) (λ rows. rows.items) old new result
      → ReadsAt later_point (λ book rows. (item : Item) → item_at book n ≡ Some item → rows.items ≡ done_rows_of book n item id) old new result
  done_by_task =
      chosen_read kept_done3 done3_lawful done_in (λ row is. is) (is_of n id) (λ (v : Vec DoneRow Global). v.items) (λ book v. (item : Item) → item_at book n ≡ Some item → v.items ≡ done_rows_of book n item id)
      (λ trees book has v are fits item at. done_is trees book has item at v.items are fits)
      (λ trees book has. no_other kept_done3 done3_lawful trees (done_rows book) (done_fit trees book has) (done_given trees book has))

-- ── the last base ──

based_from : (o : Option DoneRow) (rows : List DoneRow) → fold (λ before (row : DoneRow). Some row.base) (option_map (λ (row : DoneRow). row.base) o) rows ≡ option_map (λ (row : DoneRow). row.base) (fold (λ before row. Some row) o rows)
based_from o [] = refl
based_from o (row ∷ rows) = based_from (Some row) rows

-- the base of the last is at the end
pub last_base_is : (rows : List DoneRow) → last_base rows ≡ option_map (λ (row : DoneRow). row.base) (slice_get rows (length rows - 1))
last_base_is rows = based_from None rows ∙ ap (option_map (λ (row : DoneRow). row.base)) (last_is rows)
