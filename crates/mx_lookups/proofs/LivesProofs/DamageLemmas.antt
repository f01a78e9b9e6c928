-- What is damaged where an item has no total, or what is past what the office needs.
use Rattle.std.proofs.Common.{◌≡◌, ◌<◌, ◌^◌, inl, ℕ, pos, Bool, false, List, [], ◌∷◌, Option, None, Some, inr, ◌⊎◌, refl, sym, subst, arith}
use Rattle.std.specs.Prelude.{◌+◌, ◌≤◌, slice_get}
use Rattle.std.specs.List.{fold, list_all}
use Rattle.std.specs.Option.{option_map, option_map_or}
use Rattle.sqlite_rules.specs.Lists.{Has}
use Rattle.sqlite_rules.proofs.ListLemmas.{fails_has}
use Rattle.sqlite.specs.declared.types.Value.TheVariants.{Int}
use Rattle.sqlite.specs.Order.{Row}
use Rattle.sqlite.specs.Tree.{Trees}
use Rattle.mx_base.specs.declared.amounts.Base.{Base}
use Rattle.mx_book.specs.commands.Programme.{task_shape}
use Rattle.mx_book.specs.declared.commands.item.Item.{Item}
use Rattle.mx_book.specs.declared.commands.item.Item.TheVariants.{Airframe, Component}
use Rattle.mx_book.specs.due.Due.{IsLife}
use Rattle.mx_book.specs.Programme.{last_of}
use Rattle.mx_registers.specs.Merge.{task_said}
use Rattle.mx_base.specs.rows.Rows.{base_in_row}
use Rattle.mx_base.specs.declared.rows.rows.ProgrammeRow.{ProgrammeRow}
use Rattle.mx_base.specs.declared.rows.rows.TaskRow.{TaskRow}
use Rattle.mx_base.specs.declared.rows.rows.TotalRow.{TotalRow}
use Rattle.mx_layout.specs.declared.fault.Table.TheVariants as table
use Rattle.mx_layout.specs.kept.Cells.{kept_aircraft, kept_base2, kept_component, kept_programme, kept_task, kept_total2}
use Rattle.mx_table_rows.specs.chosen.Choices.{has_value}
use Rattle.mx_row_rules.specs.found.Lives.{base_found, life_in_base}
use Rattle.mx_row_rules.specs.found.Programmes.{revision_after}
use Rattle.mx_lookups.specs.numbers.AnyRows.{Gives}
use Rattle.mx_lookups.specs.numbers.Damage.{IsDamaged}
use Rattle.mx_lookups.specs.numbers.Given.{ItemNumber}
use Rattle.mx_lookups.proofs.NumbersProofs.AnyLemmas.{chosen_kept, first_kept, unmet}

-- an item has no total
pub total_unmet : {W : Type 0} (trees : Trees) (item : Item) (n : ℕ) (of : TotalRow → W) → ItemNumber item trees (Some n) → Gives kept_total2 (has_value 0 (Int (pos n))) (λ rows. option_map of (slice_get rows 0)) trees None → IsDamaged table.Total2 trees
unfolding IsDamaged
total_unmet trees (Airframe tail) n of one none = inr (inl (_, (2, omega arith, refl), refl, unmet kept_aircraft kept_total2 0 (λ row. row.seq) (λ row. refl) table.Total2 of one none))
total_unmet trees (Component serial) n of one none = inr (inl (_, (3, omega arith, refl), refl, unmet kept_component kept_total2 0 (λ row. row.seq) (λ row. refl) table.Total2 of one none))

-- ── past what the office needs ──

-- one of the tasks that were found lacks its shape
pub task_past : {chosen : Row → Bool} (trees : Trees) (rows : List TaskRow) → list_all (λ (row : TaskRow). task_shape (task_said row)) rows ≡ false → Gives kept_task chosen (λ found. found) trees rows → IsDamaged table.Task trees
unfolding IsDamaged
task_past trees rows lacks gave =
    let one = fails_has (λ (row : TaskRow). task_shape (task_said row)) rows lacks in
    inr (inr (one.0, chosen_kept kept_task one.0 gave.0 (subst (λ l. Has l one.0) gave.2 one.1) gave.1, one.2))

fold_has : {X : Type 0} (o : Option X) (xs : List X) (x : X) → fold (λ before y. Some y) o xs ≡ Some x → (o ≡ Some x) ⊎ Has xs x
fold_has o [] x h = inl h
fold_has o (y ∷ ys) x h = elim (fold_has (Some y) ys x h) [ inl same ↦ inr (inl cc) | inr later ↦ inr (inr later) ]

no_next : (rows : List ProgrammeRow) (o : Option ProgrammeRow) → last_of rows ≡ o → ¬ (option_map_or (λ (row : ProgrammeRow). row.revision + 1) o 1 < 2 ^ 32) → (row : ProgrammeRow) × Has rows row × (2 ^ 32 ≤ row.revision + 1)
no_next rows None is past = absurd (past (omega arith))
no_next rows (Some row) is past = (row, elim (fold_has None rows row is) [ inl none ↦ absurd cc | inr here ↦ here ], omega (arith, past))

-- the last programme of a kind has the last revision of 32 bits
pub revision_past : {chosen : Row → Bool} (trees : Trees) (rows : List ProgrammeRow) → ¬ (revision_after rows < 2 ^ 32) → Gives kept_programme chosen (λ found. found) trees rows → IsDamaged table.Programme trees
unfolding IsDamaged
revision_past trees rows past gave =
    let one = no_next rows (last_of rows) refl past in
    inr (inr (one.0, chosen_kept kept_programme one.0 gave.0 (subst (λ l. Has l one.0) gave.2 one.1) gave.1, one.2))

-- the last base of a task is past a life
pub base_past : {chosen : Row → Bool} (trees : Trees) (base : Base) → ¬ IsLife (life_in_base base) → Gives kept_base2 chosen base_found trees (Some base) → IsDamaged table.Base2 trees
unfolding IsDamaged
base_past trees base past gave =
    let row = first_kept kept_base2 base_in_row base gave in
    inr (inr (row.0, row.1, λ low. past (subst (λ b. IsLife (life_in_base b)) (sym row.2) (record { minutes = low.minutes; cycles = low.cycles }))))
