-- The statements of a step that write, one after another, from the schema of one point to that of the next.
use Rattle.std.proofs.Common.{◌≡◌, inl, inr, List, map, ◌++◌, ◌==◌, cond, Ok, Result, pos, refl, sym, ap, subst, subst₂}
use Rattle.std.proofs.lemmas.Simd.{map-map}
use Rattle.sqlite.specs.declared.types.Value.TheVariants.{Int}
use Rattle.sqlite.specs.Order.{Row}
use Rattle.sqlite.specs.Schema.{Schema}
use Rattle.sqlite.specs.State.{State}
use Rattle.mx_base.specs.declared.rows.rows.Sector2Row.{Sector2Row}
use Rattle.mx_base.specs.declared.rows.rows.SpanRow.{SpanRow}
use Rattle.mx_base.specs.Settled.{settled}
use Rattle.mx_base.specs.declared.point.Point.{Point}
use Rattle.mx_registers.specs.points.Points.{moving}
use Rattle.mx_layout.specs.TableName.{TableName}
use Rattle.mx_layout.specs.declared.fault.Table.TheVariants as table
use Rattle.mx_layout.specs.declared.fault.TableFault.{TableFault}
use Rattle.mx_layout.specs.Names.{table_named}
use Rattle.mx_layout.specs.Steps.{schema_after}
use Rattle.mx_layout.proofs.DropLemmas.{none_refer}
use Rattle.mx_layout.specs.kept.Cells.{kept_fit1, kept_removal1, kept_sector1, kept_sector2, kept_sector2_rows, kept_span2}
use Rattle.mx_layout.specs.kept.Family.{on_top}
use Rattle.mx_layout.specs.kept.Kept.{Kept}
use Rattle.mx_table_rows.specs.chosen.Choices.{is_up_to}
use Rattle.mx_book_tables.specs.stands.Schemas.{schema_at}
use Rattle.mx_book_tables.proofs.StandsProofs.SchemaLemmas.{file_schema}
use Rattle.mx_moves.specs.Changes.{Alters, WritesRows, emptied, less, unchanged}
use Rattle.mx_moves.specs.Keeping.{kept_point, point_set}
use Rattle.mx_moves.specs.Schemas.{IsFree}
use Rattle.mx_moves.proofs.AlterLemmas.{turns_new}
use Rattle.mx_moves.proofs.RowLemmas.{alters_then, less_keeps, rows_alter, turns_same}
use Rattle.mx_moves.proofs.TableTexts.{indexes_turn, span2_new}
use Rattle.mx_moves.specs.steps.Batches.{batch_moved}
use Rattle.mx_moves.specs.steps.Components.{component_moved, is_of_component}
use Rattle.mx_moves.specs.steps.Sectors.{sectors_moved}
use Rattle.mx_moves.specs.steps.Tables.{table_made}
use Rattle.mx_moves.proofs.StepsProofs.BatchLemmas.{point_keeps}

-- ── the schemas ──

first_is : schema_at (settled 1) ≡ schema_after 15
first_is = file_schema (settled 1) (inl refl)

moving_is : schema_at (moving 1 0) ≡ schema_after 16
moving_is = file_schema (moving 1 0) (inl refl)

pub spans_is : schema_at (moving 2 0) ≡ schema_after 21
spans_is = file_schema (moving 2 0) (inl refl)

moving_point : IsFree kept_point (schema_at (moving 1 0))
moving_point = (record { rest = _; more = _; is = refl }, none_refer (schema_at (moving 1 0)).tables refl)

spans_point : IsFree kept_point (schema_at (moving 2 0))
spans_point = (record { rest = _; more = _; is = refl }, none_refer (schema_at (moving 2 0)).tables refl)

old_free : IsFree kept_sector1 (schema_at (moving 1 0))
old_free = (record { rest = _; more = _; is = refl }, none_refer (schema_at (moving 1 0)).tables refl)

new_there : kept_sector2_rows.IsIn (schema_at (moving 1 0))
new_there = inl (record { rest = _; more = _; is = refl })

-- ── the point, last of all ──

module _ {T U : Type 0} (from to : Schema) (onto : TableName → List Row → List Row) (p : Point) (free : IsFree kept_point to) (s m s' : State) (t : T) (r : Result U TableFault) where
  pub point_then : Alters {V = T} from to onto s m (Ok t) → WritesRows (IsFree kept_point) (point_set p) m s' r → Alters from to (λ name rows. point_set p name (onto name rows)) s s' r
  point_then a w = alters_then from to to onto (point_set p) (turns_same to to (point_set p) refl (point_keeps p)) s m s' t r a (rows_alter (IsFree kept_point) to (point_set p) m s' r free w)

-- ── rows that move from one table to another ──

pub batch_then : {Old New T U V : Type 0} (old : Kept Old) (new : Kept New) (at : Schema) → new.IsIn at → IsFree old at → IsFree kept_point at → (rows : List New) (p : Point) (s0 s1 s2 s3 : State) (t : T) (u : U) (r : Result V TableFault)
    → WritesRows {V = T} new.IsIn (on_top new rows) s0 s1 (Ok t) → WritesRows {V = U} (IsFree old) (less old (is_up_to 0 (Int (pos p.mark)))) s1 s2 (Ok u) → WritesRows (IsFree kept_point) (point_set p) s2 s3 r
    → Alters at at (batch_moved old new rows p) s0 s3 r
batch_then old new at there old_free point_free rows p s0 s1 s2 s3 t u r a b c =
    let gone = less old (is_up_to 0 (Int (pos p.mark))) in
    let one = rows_alter new.IsIn at (on_top new rows) s0 s1 (Ok t) there a in
    let two = rows_alter (IsFree old) at gone s1 s2 (Ok u) old_free b in
    let both = alters_then at at at (on_top new rows) gone (turns_same at at gone refl (less_keeps old (is_up_to 0 (Int (pos p.mark))))) s0 s1 s2 t (Ok u) one two in
    point_then at at (λ name more. gone name (on_top new rows name more)) p point_free s0 s2 s3 u r both c

-- ── sectors ──

abbrev with_cells : List Row → TableName → List Row → List Row
with_cells cells name more = cond ((table_named kept_sector2.name).tree == (table_named name).tree) (cells ++ more) more

-- sectors by the type of the rows of `sector2`
as_sectors : (rows : List Sector2Row) → on_top kept_sector2_rows rows ≡ on_top kept_sector2 (map (λ row. row.sector) rows)
as_sectors rows = ap with_cells (sym (map-map kept_sector2.as_cells (λ (row : Sector2Row). row.sector) rows))

pub moved_then : {T U V : Type 0} (rows : List Sector2Row) (p : Point) (s0 s1 s2 s3 : State) (t : T) (u : U) (r : Result V TableFault)
    → WritesRows {V = T} kept_sector2_rows.IsIn (on_top kept_sector2_rows rows) s0 s1 (Ok t) → WritesRows {V = U} (IsFree kept_sector1) (less kept_sector1 (is_up_to 0 (Int (pos p.mark)))) s1 s2 (Ok u) → WritesRows (IsFree kept_point) (point_set p) s2 s3 r
    → Alters (schema_at (moving 1 0)) (schema_at (moving 1 0)) (sectors_moved (map (λ row. row.sector) rows) p) s0 s3 r
moved_then {V = V} rows p s0 s1 s2 s3 t u r a b c =
    let at = schema_at (moving 1 0) in
    subst (λ (onto : TableName → List Row → List Row). Alters {V = V} at at (λ name had. point_set p name (less kept_sector1 (is_up_to 0 (Int (pos p.mark))) name (onto name had))) s0 s3 r) (as_sectors rows)
    (batch_then kept_sector1 kept_sector2_rows at new_there old_free moving_point rows p s0 s1 s2 s3 t u r a b c)

-- ── tables ──

pub made_then : {T U : Type 0} (p : Point) (s m s' : State) (t : T) (r : Result U TableFault) → Alters {V = T} (schema_after 15) (schema_after 16) (emptied table.Sector2) s m (Ok t) → WritesRows (IsFree kept_point) (point_set p) m s' r
    → Alters (schema_at (settled 1)) (schema_at (moving 1 0)) (table_made table.Sector2 p) s s' r
made_then {T} p s m s' t r a w =
    point_then (schema_at (settled 1)) (schema_at (moving 1 0)) (emptied table.Sector2) p moving_point s m s' t r
    (subst₂ (λ from to. Alters {V = T} from to (emptied table.Sector2) s m (Ok t)) (sym first_is) (sym moving_is) a) w

pub changed_then : {T U V W : Type 0} (p : Point) (s0 s1 s2 s3 s4 : State) (t : T) (u : U) (v : V) (r : Result W TableFault)
    → Alters {V = T} (schema_after 16) (schema_after 17) unchanged s0 s1 (Ok t) → Alters {V = U} (schema_after 17) (schema_after 18) (emptied table.Span2) s1 s2 (Ok u) → Alters {V = V} (schema_after 18) (schema_after 21) unchanged s2 s3 (Ok v)
    → WritesRows (IsFree kept_point) (point_set p) s3 s4 r → Alters (schema_at (moving 1 0)) (schema_at (moving 2 0)) (table_made table.Span2 p) s0 s4 r
changed_then {T} {U} {V} p s0 s1 s2 s3 s4 t u v r a b c w =
    let made = alters_then (schema_after 16) (schema_after 17) (schema_after 18) unchanged (emptied table.Span2) (turns_new (schema_after 17) (schema_after 18) table.Span2 span2_new) s0 s1 s2 t (Ok u) a b in
    let indexed = alters_then (schema_after 16) (schema_after 18) (schema_after 21) (emptied table.Span2) unchanged indexes_turn s0 s2 s3 u (Ok v) made c in
    point_then (schema_at (moving 1 0)) (schema_at (moving 2 0)) (emptied table.Span2) p spans_point s0 s3 s4 v r
    (subst₂ (λ from to. Alters {V = V} from to (emptied table.Span2) s0 s3 (Ok v)) (sym moving_is) (sym spans_is) indexed) w

-- ── what there is of a component ──

fittings_free : IsFree kept_fit1 (schema_at (moving 2 0))
fittings_free = (inr (record { rest = _; more = _; is = refl }), none_refer (schema_at (moving 2 0)).tables refl)

removals_free : IsFree kept_removal1 (schema_at (moving 2 0))
removals_free = (inr (record { rest = _; more = _; is = refl }), none_refer (schema_at (moving 2 0)).tables refl)

spans_there : kept_span2.IsIn (schema_at (moving 2 0))
spans_there = inl (record { rest = _; more = _; is = refl })

pub component_then : {T U V W : Type 0} (spans : List SpanRow) (p : Point) (s0 s1 s2 s3 s4 : State) (t : T) (u : U) (v : V) (r : Result W TableFault)
    → WritesRows {V = T} kept_span2.IsIn (on_top kept_span2 spans) s0 s1 (Ok t) → WritesRows {V = U} (IsFree kept_fit1) (less kept_fit1 (is_of_component p.mark)) s1 s2 (Ok u)
    → WritesRows {V = V} (IsFree kept_removal1) (less kept_removal1 (is_of_component p.mark)) s2 s3 (Ok v) → WritesRows (IsFree kept_point) (point_set p) s3 s4 r
    → Alters (schema_at (moving 2 0)) (schema_at (moving 2 0)) (component_moved spans p) s0 s4 r
component_then {T} {U} {V} spans p s0 s1 s2 s3 s4 t u v r a b c w =
    let at = schema_at (moving 2 0) in
    let fitted = less kept_fit1 (is_of_component p.mark) in
    let removed = less kept_removal1 (is_of_component p.mark) in
    let one = rows_alter kept_span2.IsIn at (on_top kept_span2 spans) s0 s1 (Ok t) spans_there a in
    let two = rows_alter (IsFree kept_fit1) at fitted s1 s2 (Ok u) fittings_free b in
    let three = rows_alter (IsFree kept_removal1) at removed s2 s3 (Ok v) removals_free c in
    let both = alters_then at at at (on_top kept_span2 spans) fitted (turns_same at at fitted refl (less_keeps kept_fit1 (is_of_component p.mark))) s0 s1 s2 t (Ok u) one two in
    let all = alters_then at at at (λ name more. fitted name (on_top kept_span2 spans name more)) removed (turns_same at at removed refl (less_keeps kept_removal1 (is_of_component p.mark))) s0 s2 s3 u (Ok v) both three in
    point_then at at (λ name more. removed name (fitted name (on_top kept_span2 spans name more))) p spans_point s0 s3 s4 v r all w
