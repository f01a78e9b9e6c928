-- What a command makes of the rows of each table.
use Rattle.std.proofs.Common.{◌≡◌, ◌∙◌, ℕ, true, List, [], ◌∷◌, ◌++◌, map, Some, None, sym, ap, ap₂, subst, cond}
use Rattle.std.specs.List.Sorted.{IsPermutation}
use Rattle.std.proofs.lemmas.List.{map-append}
use Rattle.std.proofs.lemmas.List.Sorted.{IsPermutation-map, IsPermutation-refl}
use Rattle.mx_book.specs.commands.Act.{Act, Entry}
use Rattle.mx_book.proofs.JudgeLemmas.{both_true}
use Rattle.mx_registers.specs.Registers.{gives_by, entry_rows, entry_added, aircraft_by, places_by, components_by, programmes_by, tasks_by, openings_by, sectors_by, fittings_by, removals_by, releases_by, release_lines_by, deferrals_by, extensions_by}
use Rattle.mx_registers.proofs.RegisterLemmas.{gives-more}
use Rattle.mx_registers.specs.kept.Becomes.{Becomes, BecomesSome, Change, adding, spans_become, totals_become}
use Rattle.mx_registers.specs.kept.Spans.{span_rows}
use Rattle.mx_registers.specs.kept.Totals.{total_rows}
use Rattle.mx_registers.proofs.KeptProofs.ItemNumbers.{total_rows-changed}
use Rattle.mx_registers.proofs.KeptProofs.PutBases.{command_bases}
use Rattle.mx_registers.proofs.KeptProofs.SpanRows.{span_rows-more}
use Rattle.mx_registers.proofs.KeptProofs.TableLemmas.{register_becomes}
use Rattle.mx_registers.specs.late.Found.{found_become, found_rows}
use Rattle.mx_registers.proofs.LateProofs.DoneBecomes.{done_with_command}
use Rattle.mx_registers.proofs.LateProofs.FoundBecomes.{found_with_command}
use Rattle.mx_base.specs.Settled.{settled}
use Rattle.mx_registers.specs.points.Tables.{rows_at}
use Rattle.mx_layout.specs.Steps.{IsLayout}
use Rattle.mx_layout.specs.TableName.{TableName}
use Rattle.mx_layout.specs.declared.fault.Table.TheVariants as table
use Rattle.mx_book_tables.specs.stands.Family.{Rows, of, none, rows_of, BecomesAt, BecomesBy, Brings, is_there, is_register}
use Rattle.mx_book_tables.proofs.StandsProofs.FamilyLemmas.{Facts, facts, RegisterFacts, register_facts, never}

in_some_order : {Row : Type 0} (rows : List Entry → List Row) (change : Change Row) → Becomes rows change → BecomesSome rows change
in_some_order rows change becomes book command b new shape =
    subst (IsPermutation (change book command (rows book))) (sym (becomes book command b new shape)) (IsPermutation-refl (change book command (rows book)))

of_register : {Row : Type 0} (by : List Entry → Act → List Row) → BecomesSome (λ book. gives_by by [] book) (adding by)
of_register by = in_some_order (λ book. gives_by by [] book) (adding by) (register_becomes by)

-- with a new command the rows of each table become what its line says
pub become : (name : TableName) → BecomesBy (rows_of name)
become table.Entry = in_some_order entry_rows (λ before command rows. rows ++ entry_added before command) (λ book command b new shape. gives-more entry_added [] book command)
become table.Aircraft = of_register aircraft_by
become table.Place = of_register places_by
become table.Component = of_register components_by
become table.Programme = of_register programmes_by
become table.Task = of_register tasks_by
become table.Opening = of_register openings_by
become table.Crs = of_register releases_by
become table.CrsLine = of_register release_lines_by
become table.Defect = of_register deferrals_by
become table.Extension = of_register extensions_by
become table.Sector1 = of_register sectors_by
become table.Fit1 = of_register fittings_by
become table.Removal1 = of_register removals_by
become table.Sector2 = of_register sectors_by
become table.Span2 = in_some_order span_rows spans_become (λ book command b new shape. span_rows-more book command b new)
become table.Total2 = in_some_order total_rows totals_become (λ book command b new shape. total_rows-changed book command.doc command.act b new (both_true _ _ shape).0)
become table.Base2 = λ book command b new shape. command_bases book command.doc command.act b new shape
become table.Defect3 = in_some_order found_rows found_become (λ book command b new shape. found_with_command book command.doc command.act b new shape)
become table.Done3 = λ book command b new shape. done_with_command book command.doc command.act b new shape
become table.Office = tt

-- ── what a command brings to a register ──

pub brings_at : (name : TableName) (f : Rows) → Facts name f → RegisterFacts f → (layout : ℕ) → IsLayout layout → is_register f ≡ true → is_there f (settled layout) ≡ true → Brings f (settled layout)
brings_at name (of k line change (Some read)) fact register layout is _ there = λ book command.
    let more = change book command [] in
    ap (map k.as_cells) (fact.whole layout is there (book ++ command ∷ []) ∙ register.more book command)
    ∙ map-append k.as_cells (line.rows book) more
    ∙ ap₂ ◌++◌ (ap (map k.as_cells) (sym (fact.whole layout is there book))) (ap (λ b. cond b (map k.as_cells more) []) (sym there))
brings_at name (of k line change None) fact register layout is other _ = never other
brings_at name none fact register layout is other _ = never other

-- at a layout, to each register that a file has there
pub brings : (layout : ℕ) → IsLayout layout → (name : TableName) → is_register (rows_of name) ≡ true → is_there (rows_of name) (settled layout) ≡ true → Brings (rows_of name) (settled layout)
brings layout is name register there = brings_at name (rows_of name) (facts name) (register_facts name) layout is register there

-- ── what stands in the tables of a layout ──

-- at a layout, of the rows that stand in each table that a file has there
pub become_at : (layout : ℕ) → IsLayout layout → (name : TableName) → is_there (rows_of name) (settled layout) ≡ true → BecomesAt (rows_of name) (settled layout)
become_at layout is name = at name (rows_of name) (facts name) (become name)
  where
    at : (name : TableName) (f : Rows) → Facts name f → BecomesBy f → is_there f (settled layout) ≡ true → BecomesAt f (settled layout)
    at name (of k line change read) fact becomes there = λ book command b new shape.
        let before = fact.whole layout is there book in
        let after = fact.whole layout is there (book ++ command ∷ []) in
        IsPermutation-map k.as_cells (change book command (rows_at line (settled layout) book)) (rows_at line (settled layout) (book ++ command ∷ []))
        (subst (λ rows. IsPermutation (change book command rows) (rows_at line (settled layout) (book ++ command ∷ []))) (sym before)
        (subst (IsPermutation (change book command (line.rows book))) (sym after) (becomes book command b new shape)))
    at name none fact becomes there = tt
