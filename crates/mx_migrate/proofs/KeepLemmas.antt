-- The statements of the steps that make and write kept rows, one after another, from the schema of one point to that of the next.
use Rattle.std.proofs.Common.{◌≡◌, inl, inr, List, [], ◌∷◌, Ok, Result, refl, sym, subst₂}
use Rattle.sqlite.specs.State.{State}
use Rattle.mx_base.specs.declared.rows.rows.BaseRow.{BaseRow}
use Rattle.mx_base.specs.declared.rows.rows.TotalRow.{TotalRow}
use Rattle.mx_base.specs.Settled.{settled}
use Rattle.mx_base.specs.declared.point.Point.{Point}
use Rattle.mx_registers.specs.points.Points.{moving}
use Rattle.mx_layout.specs.declared.fault.Table.TheVariants as table
use Rattle.mx_layout.specs.declared.fault.TableFault.{TableFault}
use Rattle.mx_layout.specs.Steps.{schema_after}
use Rattle.mx_layout.proofs.DropLemmas.{none_refer}
use Rattle.mx_layout.specs.kept.Cells.{kept_base2, kept_total2}
use Rattle.mx_layout.specs.kept.Family.{on_top}
use Rattle.mx_layout.proofs.KeptProofs.OntoLemmas.{on_top_keeps}
use Rattle.mx_book_tables.specs.stands.Schemas.{schema_at}
use Rattle.mx_book_tables.proofs.StandsProofs.SchemaLemmas.{file_schema}
use Rattle.mx_moves.specs.Changes.{Alters, WritesRows, emptied, unchanged}
use Rattle.mx_moves.specs.Keeping.{kept_point, point_set}
use Rattle.mx_moves.specs.Schemas.{IsFree}
use Rattle.mx_moves.proofs.AlterLemmas.{turns_new}
use Rattle.mx_moves.proofs.RowLemmas.{alters_then, rows_alter, turns_same}
use Rattle.mx_moves.proofs.TableTexts.{total2_new}
use Rattle.mx_moves.specs.steps.Tables.{table_made}
use Rattle.mx_moves.specs.steps.Written.{bases_written, total_written}
use Rattle.mx_migrate.proofs.WriteLemmas.{point_then, spans_is}

-- ── the schemas ──

totals_is : schema_at (moving 3 0) ≡ schema_after 24
totals_is = file_schema (moving 3 0) (inl refl)

bases_is : schema_at (moving 4 0) ≡ schema_after 25
bases_is = file_schema (moving 4 0) (inl refl)

last_is : schema_at (settled 2) ≡ schema_after 28
last_is = file_schema (settled 2) (inr refl)

totals_point : IsFree kept_point (schema_at (moving 3 0))
totals_point = (record { rest = _; more = _; is = refl }, none_refer (schema_at (moving 3 0)).tables refl)

bases_point : IsFree kept_point (schema_at (moving 4 0))
bases_point = (record { rest = _; more = _; is = refl }, none_refer (schema_at (moving 4 0)).tables refl)

last_point : IsFree kept_point (schema_at (settled 2))
last_point = (record { rest = _; more = _; is = refl }, none_refer (schema_at (settled 2)).tables refl)

totals_there : kept_total2.IsIn (schema_at (moving 3 0))
totals_there = inl (record { rest = _; more = _; is = refl })

bases_there : kept_base2.IsIn (schema_at (moving 4 0))
bases_there = inl (record { rest = _; more = _; is = refl })

-- ── totals ──

pub totals_then : {T U V : Type 0} (p : Point) (s0 s1 s2 s3 : State) (t : T) (u : U) (r : Result V TableFault)
    → Alters {V = T} (schema_after 21) (schema_after 23) unchanged s0 s1 (Ok t) → Alters {V = U} (schema_after 23) (schema_after 24) (emptied table.Total2) s1 s2 (Ok u)
    → WritesRows (IsFree kept_point) (point_set p) s2 s3 r → Alters (schema_at (moving 2 0)) (schema_at (moving 3 0)) (table_made table.Total2 p) s0 s3 r
totals_then {T} {U} p s0 s1 s2 s3 t u r a b w =
    let made = alters_then (schema_after 21) (schema_after 23) (schema_after 24) unchanged (emptied table.Total2) (turns_new (schema_after 23) (schema_after 24) table.Total2 total2_new) s0 s1 s2 t (Ok u) a b in
    point_then (schema_at (moving 2 0)) (schema_at (moving 3 0)) (emptied table.Total2) p totals_point s0 s2 s3 u r
    (subst₂ (λ from to. Alters {V = U} from to (emptied table.Total2) s0 s2 (Ok u)) (sym spans_is) (sym totals_is) made) w

pub total_then : {T U : Type 0} (row : TotalRow) (p : Point) (s m s' : State) (t : T) (r : Result U TableFault) → WritesRows {V = T} (IsFree kept_point) (point_set p) s m (Ok t) → WritesRows kept_total2.IsIn (on_top kept_total2 (row ∷ [])) m s' r
    → Alters (schema_at (moving 3 0)) (schema_at (moving 3 0)) (total_written row p) s s' r
total_then row p s m s' t r w a =
    let at = schema_at (moving 3 0) in
    let onto = on_top kept_total2 (row ∷ []) in
    alters_then at at at (point_set p) onto (turns_same at at onto refl (on_top_keeps kept_total2 (row ∷ []))) s m s' t r
    (rows_alter (IsFree kept_point) at (point_set p) s m (Ok t) totals_point w) (rows_alter kept_total2.IsIn at onto m s' r totals_there a)

-- ── last bases ──

pub bases_made_then : {T U : Type 0} (p : Point) (s m s' : State) (t : T) (r : Result U TableFault) → Alters {V = T} (schema_after 24) (schema_after 25) (emptied table.Base2) s m (Ok t) → WritesRows (IsFree kept_point) (point_set p) m s' r
    → Alters (schema_at (moving 3 0)) (schema_at (moving 4 0)) (table_made table.Base2 p) s s' r
bases_made_then {T} p s m s' t r a w =
    point_then (schema_at (moving 3 0)) (schema_at (moving 4 0)) (emptied table.Base2) p bases_point s m s' t r
    (subst₂ (λ from to. Alters {V = T} from to (emptied table.Base2) s m (Ok t)) (sym totals_is) (sym bases_is) a) w

pub bases_then : {T U : Type 0} (rows : List BaseRow) (p : Point) (s m s' : State) (t : T) (r : Result U TableFault) → WritesRows {V = T} (IsFree kept_point) (point_set p) s m (Ok t) → WritesRows kept_base2.IsIn (on_top kept_base2 rows) m s' r
    → Alters (schema_at (moving 4 0)) (schema_at (moving 4 0)) (bases_written rows p) s s' r
bases_then rows p s m s' t r w a =
    let at = schema_at (moving 4 0) in
    let onto = on_top kept_base2 rows in
    alters_then at at at (point_set p) onto (turns_same at at onto refl (on_top_keeps kept_base2 rows)) s m s' t r
    (rows_alter (IsFree kept_point) at (point_set p) s m (Ok t) bases_point w) (rows_alter kept_base2.IsIn at onto m s' r bases_there a)

-- ── the end ──

pub finished_then : {T U : Type 0} (p : Point) (s m s' : State) (t : T) (r : Result U TableFault) → Alters {V = T} (schema_after 25) (schema_after 28) unchanged s m (Ok t) → WritesRows (IsFree kept_point) (point_set p) m s' r
    → Alters (schema_at (moving 4 0)) (schema_at (settled 2)) (point_set p) s s' r
finished_then {T} p s m s' t r a w =
    point_then (schema_at (moving 4 0)) (schema_at (settled 2)) unchanged p last_point s m s' t r
    (subst₂ (λ from to. Alters {V = T} from to unchanged s m (Ok t)) (sym bases_is) (sym last_is) a) w
