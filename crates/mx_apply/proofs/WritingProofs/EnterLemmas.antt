-- The rows of a new command make of what a book gives each table what the book with the command gives it.
use Rattle.std.proofs.Common.{◌≡◌, inr, true, List, [], ◌∷◌, ◌++◌, map, refl, sym, ap, ◌∙◌}
use Rattle.std.specs.List.Sorted.{IsPermutation}
use Rattle.std.proofs.lemmas.List.{map-append}
use Rattle.std.proofs.lemmas.List.Sorted.{IsPermutation-append_comm, IsPermutation-map, IsPermutation-trans}
use Rattle.sqlite_keyed.proofs.ListLemmas.{map-map}
use Rattle.sqlite.specs.Order.{Row}
use Rattle.mx_book.specs.commands.Act.{Entry}
use Rattle.mx_book.specs.commands.Shape.{has_shape}
use Rattle.mx_book.specs.declared.verdict.Verdict.TheVariants.{New}
use Rattle.mx_book.specs.Book.{IsBook}
use Rattle.mx_book.specs.Judge.{judge}
use Rattle.mx_book.proofs.JudgeLemmas.{both_true}
use Rattle.mx_base.specs.declared.rows.rows.SpanRow.{SpanRow}
use Rattle.mx_base.specs.declared.rows.rows.TotalRow.{TotalRow}
use Rattle.mx_registers.specs.Registers.{sectors_by}
use Rattle.mx_registers.specs.kept.Bases.{base_rows, bases_put}
use Rattle.mx_registers.specs.kept.Spans.{span_rows, spans_opened}
use Rattle.mx_registers.specs.kept.Totals.{total_rows, totals_opened}
use Rattle.mx_registers.proofs.KeptProofs.PutBases.{command_bases}
use Rattle.mx_row_rules.specs.changes.Puts.{has_number_of, spans_put, totals_put}
use Rattle.mx_row_rules.specs.changes.Rows.{AreCommandRows, held, spans_touched, totals_touched}
use Rattle.mx_row_rules.specs.declared.changes.rows.ChangedRows.{ChangedRows}
use Rattle.mx_row_rules.specs.declared.changes.rows.CommandRows.{CommandRows}
use Rattle.mx_row_rules.proofs.ChangesProofs.PutLemmas.{same_rows}
use Rattle.mx_row_rules.proofs.ChangesProofs.TouchLemmas.{spans_are_put, totals_are_put}
use Rattle.mx_registers.specs.points.Tables.{bases_2, spans_2, totals_2}
use Rattle.mx_layout.specs.TableName.{TableName}
use Rattle.mx_layout.specs.declared.fault.Table.TheVariants as table
use Rattle.mx_layout.specs.kept.Kept.{Kept}
use Rattle.mx_layout.specs.kept.Cells.{kept_entry, kept_aircraft, kept_place, kept_component, kept_programme, kept_task, kept_opening, kept_crs, kept_crs_line, kept_defect, kept_extension, kept_sector2, kept_sector2_rows, kept_span2, kept_total2, kept_base2}
use Rattle.mx_book_tables.specs.stands.Family.{added, first_rows, given, is_at, is_register, is_there, rows_given, rows_of}
use Rattle.mx_registers.specs.declared.points.points.TheConstants.{NEWEST_LAYOUT}
use Rattle.mx_book_tables.proofs.StandsProofs.PointLemmas.{newest_is_layout}
use Rattle.mx_book_tables.proofs.StandsProofs.FamilyLemmas.{AreFacts, facts, never}
use Rattle.mx_book_tables.proofs.StandsProofs.ChangeLemmas.{brings}
use Rattle.mx_table_rows.proofs.ChosenProofs.EqualLemmas.{equal_numbers}
use Rattle.mx_apply.specs.writing.Changes.{all_in_place}
use Rattle.mx_apply.specs.writing.Written.{written_point, is_same_base, is_same_span, is_same_total, with_changed, with_rows}
use Rattle.mx_apply.proofs.WritingProofs.CellLemmas.{base_agrees, bases_put_are, is_of_same_task, other_table, own_table}

-- ── kept rows, of any book ──

pub span_facts : AreFacts table.Span2 kept_span2 spans_2
span_facts = facts table.Span2

pub total_facts : AreFacts table.Total2 kept_total2 totals_2
total_facts = facts table.Total2

pub base_facts : AreFacts table.Base2 kept_base2 bases_2
base_facts = facts table.Base2

-- the rows that a book gives these tables
pub spans_given : (book : List Entry) → rows_given written_point book table.Span2 ≡ map kept_span2.as_cells (span_rows book)
spans_given book = ap (map kept_span2.as_cells) (span_facts.whole NEWEST_LAYOUT newest_is_layout refl book)

pub totals_given : (book : List Entry) → rows_given written_point book table.Total2 ≡ map kept_total2.as_cells (total_rows book)
totals_given book = ap (map kept_total2.as_cells) (total_facts.whole NEWEST_LAYOUT newest_is_layout refl book)

pub bases_given : (book : List Entry) → rows_given written_point book table.Base2 ≡ map kept_base2.as_cells (base_rows book)
bases_given book = ap (map kept_base2.as_cells) (base_facts.whole NEWEST_LAYOUT newest_is_layout refl book)

-- a table to which rows are only added is left by those that are changed
changed_leave : (v : ChangedRows) (name : TableName) (rows : List Row) → is_register (rows_of name) ≡ true → with_changed v name rows ≡ rows
changed_leave v table.Span2 rows is = never is
changed_leave v table.Total2 rows is = never is
changed_leave v table.Base2 rows is = never is
changed_leave v table.Defect3 rows is = never is
changed_leave v table.Done3 rows is = never is
changed_leave v table.Office rows is = never is
changed_leave v name rows is =
    other_table kept_base2 is_same_base v.bases.items name _ refl ∙ other_table kept_total2 is_same_total v.totals.items name _ refl ∙ other_table kept_span2 is_same_span v.spans.items name rows refl

-- the point itself is left by all
office_left : (v : ChangedRows) (rows : List Row) → with_changed v table.Office rows ≡ rows
office_left v rows =
    other_table kept_base2 is_same_base v.bases.items table.Office _ refl ∙ other_table kept_total2 is_same_total v.totals.items table.Office _ refl ∙ other_table kept_span2 is_same_span v.spans.items table.Office rows refl

module _ (book : List Entry) (command : Entry) (x : CommandRows) (due : AreCommandRows book command x) (b : IsBook book) (new : judge book command ≡ New) (shape : has_shape command ≡ true) where
  abbrev after : List Entry
  after = book ++ command ∷ []

  abbrev given_rows : TableName → List Row
  given_rows = rows_given written_point book

  -- ── tables that only gain rows ──

  gained : (name : TableName) (top : List Row) → is_register (rows_of name) ≡ true → is_there (rows_of name) written_point ≡ true → first_rows written_point name ≡ [] → top ≡ added written_point name book command
      → IsPermutation (top ++ with_changed x.changed name (given_rows name)) (rows_given written_point after name)
  gained name top is there first same =
      let f = rows_of name in
      let brought : rows_given written_point after name ≡ given_rows name ++ top =
      ap (λ l. l ++ given f written_point after) first ∙ brings NEWEST_LAYOUT newest_is_layout name is there book command
      ∙ ap (λ l. given f written_point book ++ l) (sym same) ∙ ap (λ l. (l ++ given f written_point book) ++ top) (sym first) in
      IsPermutation-trans _ _ _ (same_rows _ _ (ap (λ l. top ++ l) (changed_leave x.changed name (given_rows name) is)))
      (IsPermutation-trans _ _ _ (IsPermutation-append_comm top (given_rows name)) (same_rows _ _ (sym brought)))

  -- ── kept rows ──

  -- what is put in place, with others on top, as cells
  on_top_of : {X : Type 0} (k : Kept X) (more put all : List X) → IsPermutation (more ++ put) all → IsPermutation (map k.as_cells more ++ map k.as_cells put) (map k.as_cells all)
  on_top_of k more put all is = IsPermutation-trans _ _ _ (same_rows _ _ (sym (map-append k.as_cells more put))) (IsPermutation-map k.as_cells (more ++ put) all is)

  spans_enter : IsPermutation (map kept_span2.as_cells x.added.spans.items ++ all_in_place kept_span2 is_same_span x.changed.spans.items table.Span2 (given_rows table.Span2)) (rows_given written_point after table.Span2)
  spans_enter =
      let act = command.act in
      let here : all_in_place kept_span2 is_same_span x.changed.spans.items table.Span2 (given_rows table.Span2) ≡ map kept_span2.as_cells (spans_put (spans_touched book act) (span_rows book)) =
      ap (all_in_place kept_span2 is_same_span x.changed.spans.items table.Span2) (spans_given book)
      ∙ own_table kept_span2 is_same_span (has_number_of (λ (row : SpanRow). row.fit_seq)) (λ one other. equal_numbers other.fit_seq one.fit_seq) x.changed.spans.items (span_rows book) table.Span2 refl
      ∙ ap (λ news. map kept_span2.as_cells (spans_put news (span_rows book))) due.changed.spans.0 in
      IsPermutation-trans _ _ _ (same_rows _ _ (ap (λ l. map kept_span2.as_cells x.added.spans.items ++ l) here ∙ ap (λ more. map kept_span2.as_cells more ++ map kept_span2.as_cells (spans_put (spans_touched book act) (span_rows book))) due.added.spans.0))
      (IsPermutation-trans _ _ _ (on_top_of kept_span2 (spans_opened book act) (spans_put (spans_touched book act) (span_rows book)) (span_rows after) (spans_are_put book command b new)) (same_rows _ _ (sym (spans_given after))))

  totals_enter : IsPermutation (map kept_total2.as_cells x.added.totals.items ++ all_in_place kept_total2 is_same_total x.changed.totals.items table.Total2 (given_rows table.Total2)) (rows_given written_point after table.Total2)
  totals_enter =
      let act = command.act in
      let here : all_in_place kept_total2 is_same_total x.changed.totals.items table.Total2 (given_rows table.Total2) ≡ map kept_total2.as_cells (totals_put (totals_touched book act) (total_rows book)) =
      ap (all_in_place kept_total2 is_same_total x.changed.totals.items table.Total2) (totals_given book)
      ∙ own_table kept_total2 is_same_total (has_number_of (λ (row : TotalRow). row.item)) (λ one other. equal_numbers other.item one.item) x.changed.totals.items (total_rows book) table.Total2 refl
      ∙ ap (λ news. map kept_total2.as_cells (totals_put news (total_rows book))) due.changed.totals.0 in
      IsPermutation-trans _ _ _ (same_rows _ _ (ap (λ l. map kept_total2.as_cells x.added.totals.items ++ l) here ∙ ap (λ more. map kept_total2.as_cells more ++ map kept_total2.as_cells (totals_put (totals_touched book act) (total_rows book))) due.added.totals.0))
      (IsPermutation-trans _ _ _ (on_top_of kept_total2 (totals_opened book act) (totals_put (totals_touched book act) (total_rows book)) (total_rows after) (totals_are_put book command b new (both_true _ _ shape).0)) (same_rows _ _ (sym (totals_given after))))

  bases_enter : IsPermutation (all_in_place kept_base2 is_same_base x.changed.bases.items table.Base2 (given_rows table.Base2)) (rows_given written_point after table.Base2)
  bases_enter =
      let act = command.act in
      IsPermutation-trans _ _ _ (same_rows _ _ (ap (all_in_place kept_base2 is_same_base x.changed.bases.items table.Base2) (bases_given book)
      ∙ own_table kept_base2 is_same_base is_of_same_task base_agrees x.changed.bases.items (base_rows book) table.Base2 refl
      ∙ ap (map kept_base2.as_cells) (bases_put_are x.changed.bases.items (base_rows book))
      ∙ ap (λ news. map kept_base2.as_cells (bases_put news (base_rows book))) due.changed.bases.0))
      (IsPermutation-trans _ _ _ (IsPermutation-map kept_base2.as_cells _ _ (command_bases book command.doc act b new shape)) (same_rows _ _ (sym (bases_given after))))

  -- ── each table ──

  sectors_are : map kept_sector2_rows.as_cells x.added.sectors.items ≡ map kept_sector2.as_cells (sectors_by book command.act)
  sectors_are = ap (map kept_sector2_rows.as_cells) due.added.sectors.0 ∙ map-map kept_sector2_rows.as_cells held (sectors_by book command.act)

  entry_enters : IsPermutation (with_changed x.changed table.Entry (kept_entry.as_cells x.entry ∷ given_rows table.Entry)) (rows_given written_point after table.Entry)
  entry_enters =
      let top = kept_entry.as_cells x.entry ∷ [] in
      IsPermutation-trans _ _ _ (same_rows _ _ (changed_leave x.changed table.Entry (top ++ given_rows table.Entry) refl ∙ ap (λ l. top ++ l) (sym (changed_leave x.changed table.Entry (given_rows table.Entry) refl))))
      (gained table.Entry top refl refl refl (ap (λ e. kept_entry.as_cells e ∷ []) due.entry))

  pub enter : (name : TableName) → is_at written_point name ≡ true → IsPermutation (with_rows x name (given_rows name)) (rows_given written_point after name)
  enter table.Office there = same_rows _ _ (office_left x.changed (given_rows table.Office))
  enter table.Entry there = entry_enters
  enter table.Aircraft there = gained table.Aircraft _ refl there refl (ap (map kept_aircraft.as_cells) due.added.aircraft.0)
  enter table.Place there = gained table.Place _ refl there refl (ap (map kept_place.as_cells) due.added.places.0)
  enter table.Component there = gained table.Component _ refl there refl (ap (map kept_component.as_cells) due.added.components.0)
  enter table.Programme there = gained table.Programme _ refl there refl (ap (map kept_programme.as_cells) due.added.programmes.0)
  enter table.Task there = gained table.Task _ refl there refl (ap (map kept_task.as_cells) due.added.tasks.0)
  enter table.Opening there = gained table.Opening _ refl there refl (ap (map kept_opening.as_cells) due.added.openings.0)
  enter table.Crs there = gained table.Crs _ refl there refl (ap (map kept_crs.as_cells) due.added.releases.0)
  enter table.CrsLine there = gained table.CrsLine _ refl there refl (ap (map kept_crs_line.as_cells) due.added.release_lines.0)
  enter table.Defect there = gained table.Defect _ refl there refl (ap (map kept_defect.as_cells) due.added.deferrals.0)
  enter table.Extension there = gained table.Extension _ refl there refl (ap (map kept_extension.as_cells) due.added.extensions.0)
  enter table.Sector2 there = gained table.Sector2 _ refl there refl sectors_are
  enter table.Span2 there =
      IsPermutation-trans _ _ _ (same_rows _ _ (ap (λ l. map kept_span2.as_cells x.added.spans.items ++ l) (other_table kept_base2 is_same_base x.changed.bases.items table.Span2 _ refl ∙ other_table kept_total2 is_same_total x.changed.totals.items table.Span2 _ refl))) spans_enter
  enter table.Total2 there =
      IsPermutation-trans _ _ _ (same_rows _ _ (ap (λ l. map kept_total2.as_cells x.added.totals.items ++ l) (other_table kept_base2 is_same_base x.changed.bases.items table.Total2 _ refl
      ∙ ap (all_in_place kept_total2 is_same_total x.changed.totals.items table.Total2) (other_table kept_span2 is_same_span x.changed.spans.items table.Total2 _ refl)))) totals_enter
  enter table.Base2 there =
      IsPermutation-trans _ _ _ (same_rows _ _ (ap (all_in_place kept_base2 is_same_base x.changed.bases.items table.Base2) (other_table kept_total2 is_same_total x.changed.totals.items table.Base2 _ refl ∙ other_table kept_span2 is_same_span x.changed.spans.items table.Base2 _ refl))) bases_enter
  enter table.Sector1 there = never there
  enter table.Fit1 there = never there
  enter table.Removal1 there = never there
  enter table.Defect3 there = never there
  enter table.Done3 there = never there
