-- Tables that stand for a book answer as it does whether a command is known.
use Rattle.std.proofs.Common.{◌≡◌, ◌↔◌, ℕ, ◌+◌, pos, Bool, true, List, [], ◌∷◌, filter, IsTrue, Option, None, Some, refl, sym, ap, ap₂, subst, ◌∙◌}
use Rattle.std.specs.Prelude.{nat_eq}
use Rattle.std.specs.List.{list_any}
use Rattle.std.specs.Option.{option_map}
use Rattle.sqlite.specs.declared.types.Value.TheVariants.{Int}
use Rattle.sqlite.specs.Order.{column}
use Rattle.sqlite.specs.Tree.{Trees}
use Rattle.mx_book.specs.commands.Act.{Act, Entry, Added, Listed, Loaded, Opened, Flown, Fitted, Removed, Released, Deferred, Extended}
use Rattle.mx_book.specs.commands.Shape.{has_shape}
use Rattle.mx_book.specs.declared.commands.release.Line.{Line}
use Rattle.mx_book.specs.declared.commands.release.Line.TheVariants.{Done, Rectified}
use Rattle.mx_book.specs.Asking.{known_same}
use Rattle.mx_book.specs.Book.{IsBook}
use Rattle.mx_book.specs.Judge.{item_at, known_from}
use Rattle.mx_base.specs.declared.rows.rows.ReleaseLineRow.{ReleaseLineRow}
use Rattle.mx_registers.specs.Lines.{lines_from}
use Rattle.mx_registers.specs.Names.{or_zero}
use Rattle.mx_registers.specs.Registers.{aircraft_row, aircraft_rows, component_row, component_rows, deferral_row, deferral_rows, entry_rows, extension_row, extension_rows, opening_row, opening_rows, place_row, place_rows, programme_row, programme_rows, release_line_row, release_line_rows, release_row, release_rows, sector_row, sector_rows, task_row, task_rows}
use Rattle.mx_registers.specs.kept.Spans.{span_rows}
use Rattle.mx_layout.specs.kept.Cells.{kept_aircraft, kept_component, kept_crs, kept_crs_line, kept_defect, kept_entry, kept_extension, kept_opening, kept_place, kept_programme, kept_sector2, kept_span2, kept_task}
use Rattle.mx_layout.specs.kept.Kept.{Kept}
use Rattle.mx_table_rows.specs.chosen.Choices.{has_value}
use Rattle.mx_book_tables.specs.stands.Stands.{HasRowsAt}
use Rattle.mx_row_rules.specs.found.Given.{line_row, seq_of_line}
use Rattle.mx_row_rules.specs.found.Names.{entry_number}
use Rattle.mx_row_rules.specs.found.Spans.{begins_with, ends_with, is_removed_by}
use Rattle.mx_row_rules.proofs.FoundProofs.AnswerLemmas.{fitting_by_spans, removal_by_spans}
use Rattle.mx_row_rules.proofs.FoundProofs.FoundLemmas.{entry_is}
use Rattle.mx_row_judge.specs.Answering.{Only}
use Rattle.mx_row_judge.specs.known.Known.{AreRows, KnownAs, LineNumber, LineRows, Says, Tells}
use Rattle.mx_lookups.specs.numbers.Reads.{rows_point}
use Rattle.mx_lookups.proofs.NumbersProofs.TableLemmas.{IsTable, aircraft as aircraft_table, components, deferrals, entries, extensions, openings, places, programmes, release_lines, releases, sectors, spans, tasks}
use Rattle.mx_row_judge.proofs.KnownProofs.TellLemmas.{both_told, tells}
use Rattle.mx_row_judge.proofs.GivenLemmas.{by_number, by_text, defect_number, given, item_number, looked, serial_number, some_number, tail_number}

module _ (trees : Trees) (book : List Entry) (has : HasRowsAt rows_point trees book) where
  b : IsBook book
  b = has.is_book

  -- ── what is known ──

  are_rows : {X : Type 0} (k : Kept X) (rows : List Entry → List X) (it : IsTable k rows) (number : X → ℕ) → ((x : X) → column (k.as_cells x) 0 ≡ Int (pos (number x))) → (n : ℕ) (wanted : List X) (same : Bool) → AreRows k n wanted trees same
      → IsTrue same ↔ (filter (λ x. nat_eq (number x) n) (rows book) ≡ wanted)
  are_rows k rows it number is n wanted same gave = subst (λ those. IsTrue same ↔ (those ≡ wanted)) (by_number trees book has k rows it 0 number is n (λ those. those) gave.0 (gave.0, gave.1, refl)) gave.2

  line_number : (certified : Line) (o : Option ℕ) → LineNumber certified trees o → o ≡ seq_of_line book certified
  line_number (Done item id) = item_number trees book has item
  line_number (Rectified doc) = defect_number trees book has doc

  one_line : (n line : ℕ) (certified : Line) (number : Option ℕ) → number ≡ seq_of_line book certified → line_row n line (or_zero number) certified ≡ release_line_row book n line certified
  one_line n line (Done item id) number is = ap (λ o. line_row n line (or_zero o) (Done item id)) is
  one_line n line (Rectified doc) number is = ap (λ o. line_row n line (or_zero o) (Rectified doc)) is

  lines : (n line : ℕ) (of : List Line) (rows : List ReleaseLineRow) → LineRows n line of trees rows → rows ≡ lines_from (release_line_row book) n line of
  lines n line [] rows none = none
  lines n line (certified ∷ later) rows gave =
      let row : gave.0 ≡ release_line_row book n line certified = gave.2.2 ∙ one_line n line certified gave.2.0 (line_number certified gave.2.0 gave.2.1) in
      gave.4 ∙ ap₂ ◌∷◌ row (lines n (line + 1) later gave.1 gave.3)

  said : (n : ℕ) (act : Act) (same : Bool) → Says n act trees same → Tells n act book same
  said n (Added a positions) same gave =
      let one = are_rows kept_aircraft aircraft_rows aircraft_table (λ row. row.seq) (λ row. refl) n (aircraft_row n a ∷ []) gave.0 gave.2 in
      let two = are_rows kept_place place_rows places (λ row. row.seq) (λ row. refl) n (lines_from place_row n 1 positions) gave.1 gave.3 in
      tells n (Added a positions) book same b (both_told _ _ gave.0 gave.1 gave.4 one two)
  said n (Listed c) same gave = tells n (Listed c) book same b (are_rows kept_component component_rows components (λ row. row.seq) (λ row. refl) n (component_row n c ∷ []) same gave)
  said n (Loaded p of) same gave =
      let one = are_rows kept_programme programme_rows programmes (λ row. row.seq) (λ row. refl) n (programme_row n p ∷ []) gave.0 gave.2 in
      let two = are_rows kept_task task_rows tasks (λ row. row.seq) (λ row. refl) n (lines_from task_row n 1 of) gave.1 gave.3 in
      tells n (Loaded p of) book same b (both_told _ _ gave.0 gave.1 gave.4 one two)
  said n (Opened o) same gave =
      tells n (Opened o) book same b (subst (λ i. IsTrue same ↔ (filter (λ row. nat_eq row.seq n) (opening_rows book) ≡ opening_row n (or_zero i) o ∷ [])) (item_number trees book has o.item gave.0 gave.1)
      (are_rows kept_opening opening_rows openings (λ row. row.seq) (λ row. refl) n (opening_row n (or_zero gave.0) o ∷ []) same gave.2))
  said n (Flown s) same gave =
      tells n (Flown s) book same b (subst (λ i. IsTrue same ↔ (filter (λ row. nat_eq row.seq n) (sector_rows book) ≡ sector_row n (or_zero i) s ∷ [])) (tail_number trees book has s.tail gave.0 gave.1)
      (are_rows kept_sector2 sector_rows sectors (λ row. row.seq) (λ row. refl) n (sector_row n (or_zero gave.0) s ∷ []) same gave.2))
  said n (Fitted f) same gave =
      λ doc shape number.
      let at = gave.2 in
      let those = by_number trees book has kept_span2 span_rows spans 0 (λ row. row.fit_seq) (λ row. refl) n (list_any (begins_with n (or_zero gave.0) (or_zero at.0) f)) same at.2 in
      let numbers = ap₂ (λ i j. list_any (begins_with n (or_zero i) (or_zero j) f) (filter (λ row. nat_eq row.fit_seq n) (span_rows book))) (serial_number trees book has f.serial gave.0 gave.1) (tail_number trees book has f.tail at.0 at.1) in
      fitting_by_spans book doc f n b shape (entry_is book doc ∙ number) ∙ ap (λ s. Some (n, s)) (sym (those ∙ numbers))
  said n (Removed r) same gave =
      λ doc shape number.
      let those = given trees book has kept_span2 span_rows spans (has_value 5 (Int (pos n))) (is_removed_by n) (λ row. some_number row.remove_seq n) (list_any (ends_with n (or_zero gave.0) r)) same gave.2 in
      let numbers = ap (λ i. list_any (ends_with n (or_zero i) r) (filter (is_removed_by n) (span_rows book))) (serial_number trees book has r.serial gave.0 gave.1) in
      removal_by_spans book doc r n b shape (entry_is book doc ∙ number) ∙ ap (λ s. Some (n, s)) (sym (those ∙ numbers))
  said n (Released r of) same gave =
      let named = gave.2 in
      let one = subst (λ i. IsTrue gave.0 ↔ (filter (λ row. nat_eq row.seq n) (release_rows book) ≡ release_row n (or_zero i) r ∷ [])) (item_number trees book has (item_at r.place) named.0 named.1)
      (are_rows kept_crs release_rows releases (λ row. row.seq) (λ row. refl) n (release_row n (or_zero named.0) r ∷ []) gave.0 named.2) in
      let on = gave.3 in
      let two = subst (λ rows. IsTrue gave.1 ↔ (filter (λ row. nat_eq row.seq n) (release_line_rows book) ≡ rows)) (lines n 1 of on.0 on.1) (are_rows kept_crs_line release_line_rows release_lines (λ row. row.seq) (λ row. refl) n on.0 gave.1 on.2) in
      tells n (Released r of) book same b (both_told _ _ gave.0 gave.1 gave.4 one two)
  said n (Deferred d) same gave =
      tells n (Deferred d) book same b (subst (λ i. IsTrue same ↔ (filter (λ row. nat_eq row.seq n) (deferral_rows book) ≡ deferral_row n (or_zero i) d ∷ [])) (tail_number trees book has d.tail gave.0 gave.1)
      (are_rows kept_defect deferral_rows deferrals (λ row. row.seq) (λ row. refl) n (deferral_row n (or_zero gave.0) d ∷ []) same gave.2))
  said n (Extended x) same gave =
      tells n (Extended x) book same b (subst (λ i. IsTrue same ↔ (filter (λ row. nat_eq row.seq n) (extension_rows book) ≡ extension_row n (or_zero i) x ∷ [])) (defect_number trees book has x.defect gave.0 gave.1)
      (are_rows kept_extension extension_rows extensions (λ row. row.seq) (λ row. refl) n (extension_row n (or_zero gave.0) x ∷ []) same gave.2))

  none_known : {X Y Z : Type 0} (f : X → Y) (g : X → Z) (o : Option X) → option_map f o ≡ None → None ≡ option_map g o
  none_known f g None h = refl
  none_known f g (Some x) h = absurd cc

  pub known_as : (command : Entry) → has_shape command ≡ true → Only (KnownAs command) trees (option_map (known_same command) (known_from command.doc 1 book))
  known_as command shape =
      looked (λ v. v ≡ option_map (known_same command) (known_from command.doc 1 book)) (option_map (λ (known : ℕ × Entry). known.0) (known_from command.doc 1 book))
      (λ o gave. by_text trees book has kept_entry entry_rows entries 1 (λ row. row.doc) (λ row. refl) command.doc entry_number o gave ∙ entry_is book command.doc) (none_known _ (known_same command) (known_from command.doc 1 book))
      (λ n is v gave. gave.2 ∙ sym (said n command.act gave.0 gave.1 command.doc shape is))
