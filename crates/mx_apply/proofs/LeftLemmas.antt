-- Rows that a command does not name stay, whatever table they are of.
use Rattle.std.proofs.Common.{◌≡◌, ◌==◌, ◌⊎◌, inl, inr, ℕ, pos, Bool, true, false, not, cond, List, [], ◌∷◌, ◌++◌, map, filter, nat_eq, Some, refl, sym, ap, subst, ◌∙◌}
use Rattle.std.specs.Prelude.{Contains}
use Rattle.std.proofs.lemmas.List.Elements.{All-contains}
use Rattle.sqlite.specs.declared.types.Value.TheVariants.{Int}
use Rattle.sqlite.specs.Order.{Row}
use Rattle.sqlite.specs.Tree.{Trees}
use Rattle.sqlite_rules.specs.Lists.{Has}
use Rattle.sqlite_rules.proofs.ListLemmas.{contains_had, has_contained, has_kept, has_right}
use Rattle.sqlite_rules.proofs.ProbeLemmas.{has_mapped, mapped_has}
use Rattle.mx_book.specs.commands.Act.{Act, Entry, Flown, Fitted, Removed, Released, Deferred}
use Rattle.mx_base.specs.declared.rows.rows.SpanRow.{SpanRow}
use Rattle.mx_base.specs.declared.rows.rows.TotalRow.{TotalRow}
use Rattle.mx_row_rules.specs.changes.Kept.{span_removed, total_clocked, total_credited, total_flown}
use Rattle.mx_row_rules.specs.changes.Made.{Findings, bases_made, spans_ended, totals_moved}
use Rattle.mx_row_rules.specs.declared.changes.rows.AddedRows.{AddedRows}
use Rattle.mx_row_rules.specs.declared.changes.rows.CommandRows.{CommandRows}
use Rattle.mx_layout.specs.TableName.{TableName}
use Rattle.mx_layout.specs.declared.fault.Table.TheVariants as table
use Rattle.mx_layout.specs.Contents.{rows_in}
use Rattle.mx_layout.specs.Names.{table_named}
use Rattle.mx_layout.specs.kept.Cells.{kept_entry, kept_aircraft, kept_place, kept_component, kept_programme, kept_task, kept_opening, kept_crs, kept_crs_line, kept_defect, kept_extension, kept_sector2_rows, kept_span2, kept_total2, kept_base2}
use Rattle.mx_layout.specs.kept.Family.{on_top}
use Rattle.mx_layout.specs.kept.Kept.{Kept}
use Rattle.mx_table_rows.specs.chosen.Choices.{has_value}
use Rattle.mx_apply.specs.made.Found.{AreRowsFor, AreTotalsOf, numbers_given}
use Rattle.mx_apply.specs.made.Totals.{TotalOf}
use Rattle.mx_row_rules.proofs.ChangesProofs.TouchLemmas.{raised_item}
use Rattle.mx_apply.specs.writing.Changes.{all_in_place, in_place}
use Rattle.mx_apply.specs.writing.Written.{is_same_base, is_same_span, is_same_total, with_added, with_rows}
use Rattle.mx_apply.proofs.WritingProofs.CellLemmas.{other_table}
use Rattle.mx_apply.specs.Named.{IsNamed, IsNumbered, numbers_ended}

false_of : (b : Bool) → (b ≡ true → ⊥) → b ≡ false
false_of true never = absurd (never refl)
false_of false never = refl

-- ── rows that are put on top, and in place ──

on_top_stays : {X : Type 0} (k : Kept X) (xs : List X) (name : TableName) (more : List Row) (row : Row) → Has more row → Has (on_top k xs name more) row
on_top_stays k xs name more row there = at (nat_eq (table_named k.name).tree (table_named name).tree)
  where
    at : (b : Bool) → Has (cond b (map k.as_cells xs ++ more) more) row
    at true = has_right (map k.as_cells xs) more row there
    at false = there

module _ {X : Type 0} (k : Kept X) (replaced : X → Row → Bool) (name : TableName) (row : Row) where
  one_stays : (x : X) (rows : List Row) → Has rows row → replaced x row ≡ false → Has (in_place k (replaced x) x name rows) row
  one_stays x rows there other = at (nat_eq (table_named k.name).tree (table_named name).tree)
    where
      at : (b : Bool) → Has (cond b (k.as_cells x ∷ cond b (filter (λ r. not (replaced x r)) rows) rows) (cond b (filter (λ r. not (replaced x r)) rows) rows)) row
      at true = inr (has_kept (λ r. not (replaced x r)) rows row there (ap not other))
      at false = there

  all_stay : (xs : List X) (rows : List Row) → Has rows row → ((x : X) → Has xs x → replaced x row ≡ false) → Has (all_in_place k replaced xs name rows) row
  all_stay [] rows there other = there
  all_stay (x ∷ xs) rows there other = all_stay xs (in_place k (replaced x) x name rows) (one_stays x rows there (other x (inl refl))) (λ y h. other y (inr h))

  -- of another table, or of none of these
  abbrev IsLeft : List X → Type 0
  IsLeft xs = (((table_named k.name).tree == (table_named name).tree) ≡ false) ⊎ ((x : X) → Has xs x → replaced x row ≡ false)

  placed : (xs : List X) (rows : List Row) → Has rows row → IsLeft xs → Has (all_in_place k replaced xs name rows) row
  placed xs rows there (inl other) = subst (λ l. Has l row) (sym (other_table k replaced xs name rows other)) there
  placed xs rows there (inr never) = all_stay xs rows there never

-- ── which rows come in place of others ──

-- the numbers of some rows, where none of these is that of a row
not_numbered : {X : Type 0} (row : Row) (number : X → ℕ) (ns : List ℕ) (xs : List X) → ((x : X) → Has xs x → Contains ns (number x)) → (IsNumbered ns row → ⊥) → (x : X) → Has xs x → has_value 0 (Int (pos (number x))) row ≡ false
not_numbered row number ns xs among never x there = false_of (has_value 0 (Int (pos (number x))) row) (λ is. never (number x, among x there, is))

-- what is made of some rows has their numbers
made_among : {X : Type 0} (number : X → ℕ) (f : X → X) (ns : List ℕ) (xs : List X) → ((x : X) → number (f x) ≡ number x) → ((x : X) → Has xs x → Contains ns (number x)) → (y : X) → Has (map f xs) y → Contains ns (number y)
made_among number f ns xs same among y there =
    let one = has_mapped f xs y there in
    subst (Contains ns) (sym (ap number one.2 ∙ same one.0)) (among one.0 one.1)

-- a total of some numbers has one of them
among : {trees : Trees} {ns : List ℕ} {totals : List TotalRow} → AreTotalsOf ns trees totals → (t : TotalRow) → Has totals t → Contains ns t.item
among {trees} {ns} {totals} of t there = (All-contains (λ (row : TotalRow). Contains ns row.item × TotalOf row.item trees (Some row)) totals t of.each (contains_had totals t there)).0

module _ (act : Act) (seq : ℕ) (found : Findings) where
  -- spans that are ended are those whose numbers a removal ends
  ended_among : (span : SpanRow) → Has (spans_ended act seq found) span → Contains (numbers_ended act found) span.fit_seq
  ended_among = by act
    where
      by : (act : Act) (span : SpanRow) → Has (spans_ended act seq found) span → Contains (numbers_ended act found) span.fit_seq
      by (Removed removal) span there =
          let number : SpanRow → ℕ = λ s. s.fit_seq in
          let ns = map number found.spans in
          made_among number (span_removed seq removal.moment) ns found.spans (λ s. refl) (λ s h. contains_had ns (number s) (mapped_has number found.spans s h)) span there
      by _ span there = absurd there

  -- totals that are given something have the numbers to which a command gives it
  given_among : (trees : Trees) → AreTotalsOf (numbers_given act found) trees found.totals → (total : TotalRow) → Has (totals_moved act found) total → Contains (numbers_given act found) total.item
  given_among trees of = by act of
    where
      item : TotalRow → ℕ
      item t = t.item

      by : (act : Act) → AreTotalsOf (numbers_given act found) trees found.totals → (total : TotalRow) → Has (totals_moved act found) total → Contains (numbers_given act found) total.item
      by (Flown sector) of total there = made_among item (total_flown found.number sector) (numbers_given (Flown sector) found) found.totals (λ t. raised_item found.number sector.on (total_credited sector t)) (λ t h. among of t h) total there
      by (Fitted fitting) of total there = made_among item (total_clocked fitting.moment) (numbers_given (Fitted fitting) found) found.totals (λ t. refl) (λ t h. among of t h) total there
      by (Removed removal) of total there = made_among item (total_clocked removal.moment) (numbers_given (Removed removal) found) found.totals (λ t. refl) (λ t h. among of t h) total there
      by (Released release lines) of total there = made_among item (total_clocked release.moment) (numbers_given (Released release lines) found) found.totals (λ t. refl) (λ t h. among of t h) total there
      by (Deferred deferral) of total there = made_among item (total_clocked deferral.moment) (numbers_given (Deferred deferral) found) found.totals (λ t. refl) (λ t h. among of t h) total there
      by _ of total there = absurd there

-- ── all tables ──

module _ (command : Entry) (trees : Trees) (x : CommandRows) (own : AreRowsFor command trees x) where
  abbrev found : Findings
  found = own.rows_by.found

  added_stay : (v : AddedRows) (name : TableName) (rows : List Row) (row : Row) → Has rows row → Has (with_added v name rows) row
  added_stay v name rows row there =
      on_top_stays kept_total2 v.totals.items name _ row
      (on_top_stays kept_span2 v.spans.items name _ row
      (on_top_stays kept_sector2_rows v.sectors.items name _ row
      (on_top_stays kept_extension v.extensions.items name _ row
      (on_top_stays kept_defect v.deferrals.items name _ row
      (on_top_stays kept_crs_line v.release_lines.items name _ row
      (on_top_stays kept_crs v.releases.items name _ row
      (on_top_stays kept_opening v.openings.items name _ row
      (on_top_stays kept_task v.tasks.items name _ row
      (on_top_stays kept_programme v.programmes.items name _ row
      (on_top_stays kept_component v.components.items name _ row
      (on_top_stays kept_place v.places.items name _ row
      (on_top_stays kept_aircraft v.aircraft.items name _ row there))))))))))))

  rows_stay : (name : TableName) (rows : List Row) (row : Row) → Has rows row → IsLeft kept_span2 is_same_span name row x.changed.spans.items → IsLeft kept_total2 is_same_total name row x.changed.totals.items → IsLeft kept_base2 is_same_base name row x.changed.bases.items
      → Has (with_rows x name rows) row
  rows_stay name rows row there spans totals bases =
      added_stay x.added name _ row
      (placed kept_base2 is_same_base name row x.changed.bases.items _
      (placed kept_total2 is_same_total name row x.changed.totals.items _
      (placed kept_span2 is_same_span name row x.changed.spans.items _ (on_top_stays kept_entry (x.entry ∷ []) name rows row there) spans) totals) bases)

  stays : (name : TableName) (row : Row) → Has (rows_in (table_named name) trees) row → (IsNamed command.act found name row → ⊥) → Has (with_rows x name (rows_in (table_named name) trees)) row
  stays table.Span2 row there never =
      rows_stay table.Span2 _ row there
      (inr (λ span h. not_numbered row (λ (s : SpanRow). s.fit_seq) (numbers_ended command.act found) x.changed.spans.items (λ s of. ended_among command.act x.entry.seq found s (subst (λ l. Has l s) own.rows_by.made.spans_changed of)) never span h))
      (inl refl) (inl refl)
  stays table.Total2 row there never =
      rows_stay table.Total2 _ row there (inl refl)
      (inr (λ total h. not_numbered row (λ (t : TotalRow). t.item) (numbers_given command.act found) x.changed.totals.items (λ t of. given_among command.act x.entry.seq found trees own.rows_by.looked_up.totals t (subst (λ l. Has l t) own.rows_by.made.totals_changed of)) never total h))
      (inl refl)
  stays table.Base2 row there never =
      rows_stay table.Base2 _ row there (inl refl) (inl refl)
      (inr (λ base h. false_of (is_same_base base row) (λ is. never (base, contains_had (bases_made command.act found) base (subst (λ l. Has l base) own.rows_by.made.bases_changed h), is))))
  stays name row there never = rows_stay name _ row there (inl refl) (inl refl) (inl refl)

  pub left_as_it_was : (name : TableName) (row : Row) → Contains (rows_in (table_named name) trees) row → (IsNamed command.act found name row → ⊥) → Contains (with_rows x name (rows_in (table_named name) trees)) row
  left_as_it_was name row there never = contains_had _ row (stays name row (has_contained _ row there) never)
