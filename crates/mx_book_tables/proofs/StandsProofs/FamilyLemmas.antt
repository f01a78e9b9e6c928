-- What holds of the rows of each table of the family, line by line.
use Rattle.std.proofs.Common.{inl, inr, ◌≡◌, ◌∙◌, ap, append_assoc, ℕ, ◌+◌, ◌*◌, ◌^◌, true, false, List, [], ◌∷◌, ◌++◌, length, Some, refl}
use Rattle.std.specs.Prelude.{⊤}
use Rattle.std.specs.List.{list_all}
use Rattle.sqlite.specs.Order.{Row}
use Rattle.sqlite.specs.Schema.{Schema}
use Rattle.mx_book.specs.commands.Act.{Entry}
use Rattle.mx_book.specs.commands.Shape.{has_shape}
use Rattle.mx_base.specs.rows.Rising.{IsRising}
use Rattle.mx_registers.specs.Registers.{entry_added, aircraft_by, places_by, components_by, programmes_by, tasks_by, openings_by, sectors_by, fittings_by, removals_by, releases_by, release_lines_by, deferrals_by, extensions_by}
use Rattle.mx_registers.proofs.RegisterLemmas.{gives-more, entry_rows-rising, aircraft_rows-rising, place_rows-rising, component_rows-rising, programme_rows-rising, task_rows-rising, opening_rows-rising, sector_rows-rising, fitting_rows-rising, removal_rows-rising, release_rows-rising, release_line_rows-rising, deferral_rows-rising, extension_rows-rising}
use Rattle.mx_registers.specs.kept.Becomes.{Change}
use Rattle.mx_base.specs.declared.point.Point.{Point}
use Rattle.mx_base.specs.Settled.{settled}
use Rattle.mx_registers.specs.points.Tables.{Line, rows_at, is_table_at, entries_all, aircraft_all, places_all, components_all, programmes_all, tasks_all, openings_all, releases_all, release_lines_all, extensions_all, deferrals_2, sectors_1, fittings_1, removals_1, sectors_2, spans_2, totals_2, bases_2, deferrals_3, done_3}
use Rattle.mx_registers.proofs.PointsProofs.OneBook.{all_there}
use Rattle.mx_registers.proofs.PointsProofs.StandingLemmas.{whole_where_settled}
use Rattle.mx_layout.specs.Steps.{IsLayout}
use Rattle.mx_layout.specs.TableName.{TableName}
use Rattle.sqlite.specs.Table.{Table}
use Rattle.mx_layout.specs.Tables.{defect, sector1, fit1, removal1, sector2, span2, total2, base2, defect3, done3}
use Rattle.mx_layout.specs.declared.fault.Table.TheVariants as table
use Rattle.mx_layout.specs.kept.Kept.{Kept}
use Rattle.mx_layout.specs.kept.Cells.{kept_defect, kept_sector1, kept_fit1, kept_removal1, kept_sector2, kept_span2, kept_total2, kept_base2, kept_defect3, kept_done3}
use Rattle.mx_layout.specs.kept.Family.{IsReadable, IsReadableAs}
use Rattle.mx_layout.specs.kept.Meanings.{IsLawful}
use Rattle.mx_layout.specs.kept.Schemas.{HasBehind, HasDefects, HasPermanent, HasSectors2, HasSpans, HasTotals, own_1, own_2, permanent}
use Rattle.mx_layout.proofs.KeptProofs.Lawful.{entry_lawful, aircraft_lawful, place_lawful, component_lawful, programme_lawful, task_lawful, opening_lawful, crs_lawful, crs_line_lawful, defect_lawful, extension_lawful, sector1_lawful, fit1_lawful, removal1_lawful}
use Rattle.mx_layout.proofs.KeptProofs.MovedLawful.{sector2_lawful, span2_lawful, total2_lawful, base2_lawful, defect3_lawful, done3_lawful}
use Rattle.mx_book_tables.specs.stands.Family.{Rows, of, none, rows_of, first_rows, is_there, IsIn}
use Rattle.mx_book_tables.specs.stands.Schemas.{IsUpTo, HasTablesAt, own_at}
use Rattle.mx_book_tables.proofs.StandsProofs.PointLemmas.{by_point}

-- ── which schemas have a table ──

-- wherever a file up to layout 3 can be and has the table, a schema with the tables there is one that the table's law is for
abbrev pub IsInWhereThere : {X : Type 0} → Kept X → Line X → Point → Type 0
IsInWhereThere k line at = is_table_at line at ≡ true → (schema : Schema) → HasTablesAt at schema → k.IsIn schema

pub never : {A : Type 0} → false ≡ true → A
never h = absurd cc

permanent_too : (at : Point) (schema : Schema) → HasTablesAt at schema → HasPermanent schema
permanent_too at schema has = record { rest = own_at at ++ has.rest; more = has.more; is = has.is }

-- own tables of a schema that are the first of those that it has
behind : (own more : List Table) (schema : Schema) → HasBehind (own ++ more) schema → HasBehind own schema
behind own more schema has = record { rest = more ++ has.rest; more = has.more; is = has.is ∙ ap (λ l. permanent l has.more) (append_assoc own more has.rest) }

defect_in : (at : Point) → IsUpTo 3 at → IsInWhereThere kept_defect deferrals_2 at
defect_in = by_point (IsInWhereThere kept_defect deferrals_2)
    (λ there. first (sector1 ∷ fit1 ∷ removal1 ∷ []))
    (λ mark there. first (sector1 ∷ fit1 ∷ removal1 ∷ sector2 ∷ []))
    (λ mark there. first (fit1 ∷ removal1 ∷ sector2 ∷ span2 ∷ []))
    (λ mark there. first (sector2 ∷ span2 ∷ total2 ∷ []))
    (λ mark there. first (sector2 ∷ span2 ∷ total2 ∷ base2 ∷ []))
    (λ there. first (sector2 ∷ span2 ∷ total2 ∷ base2 ∷ []))
    (λ mark there. first (sector2 ∷ span2 ∷ total2 ∷ base2 ∷ defect3 ∷ []))
    (λ mark there. never there) (λ there. never there)
  where
    first : (more : List Table) (schema : Schema) → HasBehind (defect ∷ more) schema → HasDefects schema
    first more = behind (defect ∷ []) more

sector1_in : (at : Point) → IsUpTo 3 at → IsInWhereThere kept_sector1 sectors_1 at
sector1_in = by_point (IsInWhereThere kept_sector1 sectors_1)
    (λ there schema has. has)
    (λ mark there. behind own_1 (sector2 ∷ []))
    (λ mark there. never there) (λ mark there. never there) (λ mark there. never there)
    (λ there. never there) (λ mark there. never there) (λ mark there. never there) (λ there. never there)

fit1_in : (at : Point) → IsUpTo 3 at → IsInWhereThere kept_fit1 fittings_1 at
fit1_in = by_point (IsInWhereThere kept_fit1 fittings_1)
    (λ there schema has. inl has)
    (λ mark there schema has. inl (behind own_1 (sector2 ∷ []) schema has))
    (λ mark there schema has. inr has) (λ mark there. never there) (λ mark there. never there)
    (λ there. never there) (λ mark there. never there) (λ mark there. never there) (λ there. never there)

removal1_in : (at : Point) → IsUpTo 3 at → IsInWhereThere kept_removal1 removals_1 at
removal1_in = by_point (IsInWhereThere kept_removal1 removals_1)
    (λ there schema has. inl has)
    (λ mark there schema has. inl (behind own_1 (sector2 ∷ []) schema has))
    (λ mark there schema has. inr has) (λ mark there. never there) (λ mark there. never there)
    (λ there. never there) (λ mark there. never there) (λ mark there. never there) (λ there. never there)

sector2_in : (at : Point) → IsUpTo 3 at → IsInWhereThere kept_sector2 sectors_2 at
sector2_in = by_point (IsInWhereThere kept_sector2 sectors_2)
    (λ there. never there) (λ mark there schema has. inl has) (λ mark there schema has. inr (inl has))
    (λ mark there. second (span2 ∷ total2 ∷ []))
    (λ mark there. second (span2 ∷ total2 ∷ base2 ∷ []))
    (λ there. second (span2 ∷ total2 ∷ base2 ∷ []))
    (λ mark there. second (span2 ∷ total2 ∷ base2 ∷ defect3 ∷ []))
    (λ mark there. first (span2 ∷ total2 ∷ base2 ∷ defect3 ∷ done3 ∷ []))
    (λ there. first (span2 ∷ total2 ∷ defect3 ∷ done3 ∷ []))
  where
    second : (more : List Table) (schema : Schema) → HasBehind (defect ∷ sector2 ∷ more) schema → HasSectors2 schema
    second more schema has = inr (inr (inl (behind (defect ∷ sector2 ∷ []) more schema has)))

    first : (more : List Table) (schema : Schema) → HasBehind (sector2 ∷ more) schema → HasSectors2 schema
    first more schema has = inr (inr (inr (behind (sector2 ∷ []) more schema has)))

span2_in : (at : Point) → IsUpTo 3 at → IsInWhereThere kept_span2 spans_2 at
span2_in = by_point (IsInWhereThere kept_span2 spans_2)
    (λ there. never there) (λ mark there. never there) (λ mark there schema has. inl has)
    (λ mark there. third (total2 ∷ []))
    (λ mark there. third (total2 ∷ base2 ∷ []))
    (λ there. third (total2 ∷ base2 ∷ []))
    (λ mark there. third (total2 ∷ base2 ∷ defect3 ∷ []))
    (λ mark there. second (total2 ∷ base2 ∷ defect3 ∷ done3 ∷ []))
    (λ there. second (total2 ∷ defect3 ∷ done3 ∷ []))
  where
    third : (more : List Table) (schema : Schema) → HasBehind (defect ∷ sector2 ∷ span2 ∷ more) schema → HasSpans schema
    third more schema has = inr (inl (behind (defect ∷ sector2 ∷ span2 ∷ []) more schema has))

    second : (more : List Table) (schema : Schema) → HasBehind (sector2 ∷ span2 ∷ more) schema → HasSpans schema
    second more schema has = inr (inr (behind (sector2 ∷ span2 ∷ []) more schema has))

total2_in : (at : Point) → IsUpTo 3 at → IsInWhereThere kept_total2 totals_2 at
total2_in = by_point (IsInWhereThere kept_total2 totals_2)
    (λ there. never there) (λ mark there. never there) (λ mark there. never there)
    (λ mark there. fourth [])
    (λ mark there. fourth (base2 ∷ []))
    (λ there. fourth (base2 ∷ []))
    (λ mark there. fourth (base2 ∷ defect3 ∷ []))
    (λ mark there. third (base2 ∷ defect3 ∷ done3 ∷ []))
    (λ there. third (defect3 ∷ done3 ∷ []))
  where
    fourth : (more : List Table) (schema : Schema) → HasBehind (defect ∷ sector2 ∷ span2 ∷ total2 ∷ more) schema → HasTotals schema
    fourth more schema has = inl (behind (defect ∷ sector2 ∷ span2 ∷ total2 ∷ []) more schema has)

    third : (more : List Table) (schema : Schema) → HasBehind (sector2 ∷ span2 ∷ total2 ∷ more) schema → HasTotals schema
    third more schema has = inr (behind (sector2 ∷ span2 ∷ total2 ∷ []) more schema has)

base2_in : (at : Point) → IsUpTo 3 at → IsInWhereThere kept_base2 bases_2 at
base2_in = by_point (IsInWhereThere kept_base2 bases_2)
    (λ there. never there) (λ mark there. never there) (λ mark there. never there) (λ mark there. never there)
    (λ mark there schema has. inl has) (λ there schema has. inl has)
    (λ mark there schema has. inl (behind own_2 (defect3 ∷ []) schema has))
    (λ mark there schema has. inr (behind (sector2 ∷ span2 ∷ total2 ∷ base2 ∷ []) (defect3 ∷ done3 ∷ []) schema has))
    (λ there. never there)

defect3_in : (at : Point) → IsUpTo 3 at → IsInWhereThere kept_defect3 deferrals_3 at
defect3_in = by_point (IsInWhereThere kept_defect3 deferrals_3)
    (λ there. never there) (λ mark there. never there) (λ mark there. never there) (λ mark there. never there)
    (λ mark there. never there) (λ there. never there)
    (λ mark there schema has. inl has)
    (λ mark there schema has. inr (inl (behind (sector2 ∷ span2 ∷ total2 ∷ base2 ∷ defect3 ∷ []) (done3 ∷ []) schema has)))
    (λ there schema has. inr (inr (behind (sector2 ∷ span2 ∷ total2 ∷ defect3 ∷ []) (done3 ∷ []) schema has)))

done3_in : (at : Point) → IsUpTo 3 at → IsInWhereThere kept_done3 done_3 at
done3_in = by_point (IsInWhereThere kept_done3 done_3)
    (λ there. never there) (λ mark there. never there) (λ mark there. never there) (λ mark there. never there)
    (λ mark there. never there) (λ there. never there) (λ mark there. never there)
    (λ mark there schema has. inl has) (λ there schema has. inr has)

-- ── one line for each table ──

-- what has to hold of the rows of the table with a name: it is kept by its law, a schema of a file up to layout 3 with the table is one that the law is for, and at a layout that has it all rows stand in it
pub record AreFacts {X : Type 0} (name : TableName) (k : Kept X) (line : Line X) : Type 0 where
  pub law : IsLawful k
  pub is_named : k.name ≡ name
  pub readable : (row : Row) → IsReadableAs k row → IsReadable name row
  pub no_first : (at : Point) → first_rows at name ≡ []
  pub is_in : (at : Point) → IsUpTo 3 at → is_table_at line at ≡ true → (schema : Schema) → HasTablesAt at schema → k.IsIn schema
  pub whole : (layout : ℕ) → IsLayout layout → is_table_at line (settled layout) ≡ true → (book : List Entry) → rows_at line (settled layout) book ≡ line.rows book

abbrev pub Facts : TableName → Rows → Type 0
Facts name (of k line change read) = AreFacts name k line
Facts name none = ⊤

pub facts : (name : TableName) → Facts name (rows_of name)
facts table.Entry = record { law = entry_lawful; is_named = refl; readable = λ _ h. h; no_first = λ _. refl; is_in = λ at _ _. permanent_too at; whole = λ _ _ _ book. all_there (entries_all.rows book) }
facts table.Aircraft = record { law = aircraft_lawful; is_named = refl; readable = λ _ h. h; no_first = λ _. refl; is_in = λ at _ _. permanent_too at; whole = λ _ _ _ book. all_there (aircraft_all.rows book) }
facts table.Place = record { law = place_lawful; is_named = refl; readable = λ _ h. h; no_first = λ _. refl; is_in = λ at _ _. permanent_too at; whole = λ _ _ _ book. all_there (places_all.rows book) }
facts table.Component = record { law = component_lawful; is_named = refl; readable = λ _ h. h; no_first = λ _. refl; is_in = λ at _ _. permanent_too at; whole = λ _ _ _ book. all_there (components_all.rows book) }
facts table.Programme = record { law = programme_lawful; is_named = refl; readable = λ _ h. h; no_first = λ _. refl; is_in = λ at _ _. permanent_too at; whole = λ _ _ _ book. all_there (programmes_all.rows book) }
facts table.Task = record { law = task_lawful; is_named = refl; readable = λ _ h. h; no_first = λ _. refl; is_in = λ at _ _. permanent_too at; whole = λ _ _ _ book. all_there (tasks_all.rows book) }
facts table.Opening = record { law = opening_lawful; is_named = refl; readable = λ _ h. h; no_first = λ _. refl; is_in = λ at _ _. permanent_too at; whole = λ _ _ _ book. all_there (openings_all.rows book) }
facts table.Crs = record { law = crs_lawful; is_named = refl; readable = λ _ h. h; no_first = λ _. refl; is_in = λ at _ _. permanent_too at; whole = λ _ _ _ book. all_there (releases_all.rows book) }
facts table.CrsLine = record { law = crs_line_lawful; is_named = refl; readable = λ _ h. h; no_first = λ _. refl; is_in = λ at _ _. permanent_too at; whole = λ _ _ _ book. all_there (release_lines_all.rows book) }
facts table.Defect = record { law = defect_lawful; is_named = refl; readable = λ _ h. h; no_first = λ _. refl; is_in = defect_in; whole = λ layout _ there book. (whole_where_settled (settled layout) book).deferrals_old refl there }
facts table.Extension = record { law = extension_lawful; is_named = refl; readable = λ _ h. h; no_first = λ _. refl; is_in = λ at _ _. permanent_too at; whole = λ _ _ _ book. all_there (extensions_all.rows book) }
facts table.Sector1 = record { law = sector1_lawful; is_named = refl; readable = λ _ h. h; no_first = λ _. refl; is_in = sector1_in; whole = λ layout _ there book. (whole_where_settled (settled layout) book).sectors_old refl there }
facts table.Fit1 = record { law = fit1_lawful; is_named = refl; readable = λ _ h. h; no_first = λ _. refl; is_in = fit1_in; whole = λ layout _ there book. (whole_where_settled (settled layout) book).fittings refl there }
facts table.Removal1 = record { law = removal1_lawful; is_named = refl; readable = λ _ h. h; no_first = λ _. refl; is_in = removal1_in; whole = λ layout _ there book. (whole_where_settled (settled layout) book).removals refl there }
facts table.Sector2 = record { law = sector2_lawful; is_named = refl; readable = λ _ h. h; no_first = λ _. refl; is_in = sector2_in; whole = λ layout _ there book. (whole_where_settled (settled layout) book).sectors_new refl there }
facts table.Span2 = record { law = span2_lawful; is_named = refl; readable = λ _ h. h; no_first = λ _. refl; is_in = span2_in; whole = λ layout _ there book. (whole_where_settled (settled layout) book).spans refl there }
facts table.Total2 = record { law = total2_lawful; is_named = refl; readable = λ _ h. h; no_first = λ _. refl; is_in = total2_in; whole = λ layout _ there book. (whole_where_settled (settled layout) book).totals refl there }
facts table.Base2 = record { law = base2_lawful; is_named = refl; readable = λ _ h. h; no_first = λ _. refl; is_in = base2_in; whole = λ layout _ there book. (whole_where_settled (settled layout) book).bases refl there }
facts table.Defect3 = record { law = defect3_lawful; is_named = refl; readable = λ _ h. h; no_first = λ _. refl; is_in = defect3_in; whole = λ layout _ there book. (whole_where_settled (settled layout) book).deferrals_new refl there }
facts table.Done3 = record { law = done3_lawful; is_named = refl; readable = λ _ h. h; no_first = λ _. refl; is_in = done3_in; whole = λ layout _ there book. (whole_where_settled (settled layout) book).done refl there }
facts table.Office = tt

-- so wherever it is there, the schema is one that its law is for
pub understood_there : (name : TableName) (at : Point) → IsUpTo 3 at → is_there (rows_of name) at ≡ true → (schema : Schema) → HasTablesAt at schema → IsIn (rows_of name) schema
understood_there name at up there schema has = by name (rows_of name) (facts name) there
  where
    by : (name : TableName) (f : Rows) → Facts name f → is_there f at ≡ true → IsIn f schema
    by name (of k line change read) fact there = fact.is_in at up there schema has
    by name none fact there = never there

-- ── and one for each register ──

-- the rows rise by their key
abbrev pub Rise : {X : Type 0} → (X → ℕ) → List X → Type 0
Rise key rows = (low : ℕ) × (high : ℕ) × IsRising key low rows high

-- what has to hold of a register beside: its rows rise by their key, and a command brings its own behind the others
pub record AreRegisterFacts {X : Type 0} (k : Kept X) (line : Line X) (change : Change X) : Type 0 where
  pub rise : (book : List Entry) → list_all has_shape book ≡ true → Rise k.key (line.rows book)
  pub more : (book : List Entry) (command : Entry) → line.rows (book ++ command ∷ []) ≡ line.rows book ++ change book command []

abbrev pub RegisterFacts : Rows → Type 0
RegisterFacts (of k line change (Some read)) = AreRegisterFacts k line change
RegisterFacts _ = ⊤

pub register_facts : (name : TableName) → RegisterFacts (rows_of name)
register_facts table.Entry = record { rise = λ book shaped. (1, length book + 1, entry_rows-rising book shaped); more = gives-more entry_added [] }
register_facts table.Aircraft = record { rise = λ book shaped. (1, length book + 1, aircraft_rows-rising book shaped); more = gives-more (λ before entry. aircraft_by before entry.act) [] }
register_facts table.Place = record { rise = λ book shaped. (1 * 2 ^ 32, (length book + 1) * 2 ^ 32, place_rows-rising book shaped); more = gives-more (λ before entry. places_by before entry.act) [] }
register_facts table.Component = record { rise = λ book shaped. (1, length book + 1, component_rows-rising book shaped); more = gives-more (λ before entry. components_by before entry.act) [] }
register_facts table.Programme = record { rise = λ book shaped. (1, length book + 1, programme_rows-rising book shaped); more = gives-more (λ before entry. programmes_by before entry.act) [] }
register_facts table.Task = record { rise = λ book shaped. (1 * 2 ^ 32, (length book + 1) * 2 ^ 32, task_rows-rising book shaped); more = gives-more (λ before entry. tasks_by before entry.act) [] }
register_facts table.Opening = record { rise = λ book shaped. (1, length book + 1, opening_rows-rising book shaped); more = gives-more (λ before entry. openings_by before entry.act) [] }
register_facts table.Crs = record { rise = λ book shaped. (1, length book + 1, release_rows-rising book shaped); more = gives-more (λ before entry. releases_by before entry.act) [] }
register_facts table.CrsLine = record { rise = λ book shaped. (1 * 2 ^ 32, (length book + 1) * 2 ^ 32, release_line_rows-rising book shaped); more = gives-more (λ before entry. release_lines_by before entry.act) [] }
register_facts table.Defect = record { rise = λ book shaped. (1, length book + 1, deferral_rows-rising book shaped); more = gives-more (λ before entry. deferrals_by before entry.act) [] }
register_facts table.Extension = record { rise = λ book shaped. (1, length book + 1, extension_rows-rising book shaped); more = gives-more (λ before entry. extensions_by before entry.act) [] }
register_facts table.Sector1 = record { rise = λ book shaped. (1, length book + 1, sector_rows-rising book shaped); more = gives-more (λ before entry. sectors_by before entry.act) [] }
register_facts table.Fit1 = record { rise = λ book shaped. (1, length book + 1, fitting_rows-rising book shaped); more = gives-more (λ before entry. fittings_by before entry.act) [] }
register_facts table.Removal1 = record { rise = λ book shaped. (1, length book + 1, removal_rows-rising book shaped); more = gives-more (λ before entry. removals_by before entry.act) [] }
register_facts table.Sector2 = record { rise = λ book shaped. (1, length book + 1, sector_rows-rising book shaped); more = gives-more (λ before entry. sectors_by before entry.act) [] }
register_facts _ = tt
