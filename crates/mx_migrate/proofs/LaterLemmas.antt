-- The statements of the steps of the move from layout 2 to layout 3 that make and drop tables, or write accomplishments, one after another, from the schema of one point to that of the next.
use Rattle.std.proofs.Common.{◌≡◌, inl, inr, ℕ, List, Ok, Result, refl, sym, subst₂}
use Rattle.sqlite.specs.State.{State}
use Rattle.mx_base.specs.Settled.{settled}
use Rattle.mx_base.specs.declared.rows.rows.DoneRow.{DoneRow}
use Rattle.mx_base.specs.declared.point.Point.{Point}
use Rattle.mx_registers.specs.points.Points.{moving_from}
use Rattle.mx_layout.specs.declared.fault.Table.TheVariants as table
use Rattle.mx_layout.specs.declared.fault.TableFault.{TableFault}
use Rattle.mx_layout.specs.Steps.{schema_after}
use Rattle.mx_layout.proofs.DropLemmas.{none_refer}
use Rattle.mx_layout.specs.kept.Cells.{kept_base2, kept_defect, kept_defect3, kept_done3}
use Rattle.mx_layout.specs.kept.Family.{on_top}
use Rattle.mx_layout.proofs.KeptProofs.OntoLemmas.{on_top_keeps}
use Rattle.mx_book_tables.specs.stands.Schemas.{schema_at}
use Rattle.mx_book_tables.proofs.StandsProofs.SchemaLemmas.{point_schema}
use Rattle.mx_moves.specs.Changes.{Alters, WritesRows, emptied, less, unchanged}
use Rattle.mx_moves.specs.Keeping.{kept_point, point_set}
use Rattle.mx_moves.specs.Schemas.{IsFree}
use Rattle.mx_moves.proofs.AlterLemmas.{turns_new}
use Rattle.mx_moves.proofs.RowLemmas.{alters_then, less_keeps, rows_alter, turns_same}
use Rattle.mx_moves.proofs.TableTexts.{done3_new, layout3_turns}
use Rattle.mx_moves.specs.steps.Accomplishments.{accomplishments_written, is_of_item}
use Rattle.mx_moves.specs.steps.Tables.{table_made}
use Rattle.mx_migrate.proofs.WriteLemmas.{point_then}

-- ── the schemas ──

last_is : schema_at (settled 2) ≡ schema_after 28
last_is = point_schema (settled 2) (inl refl)

deferrals_is : schema_at (moving_from 2 1 0) ≡ schema_after 29
deferrals_is = point_schema (moving_from 2 1 0) (inl refl)

accomplishments_is : schema_at (moving_from 2 2 0) ≡ schema_after 31
accomplishments_is = point_schema (moving_from 2 2 0) (inl refl)

later_is : schema_at (settled 3) ≡ schema_after 35
later_is = point_schema (settled 3) (inr refl)

pub deferrals_point : IsFree kept_point (schema_at (moving_from 2 1 0))
deferrals_point = (record { rest = _; more = _; is = refl }, none_refer (schema_at (moving_from 2 1 0)).tables refl)

accomplishments_point : IsFree kept_point (schema_at (moving_from 2 2 0))
accomplishments_point = (record { rest = _; more = _; is = refl }, none_refer (schema_at (moving_from 2 2 0)).tables refl)

later_point : IsFree kept_point (schema_at (settled 3))
later_point = (record { rest = _; more = _; is = refl }, none_refer (schema_at (settled 3)).tables refl)

pub deferrals_free : IsFree kept_defect (schema_at (moving_from 2 1 0))
deferrals_free = (record { rest = _; more = _; is = refl }, none_refer (schema_at (moving_from 2 1 0)).tables refl)

pub new_deferrals_there : kept_defect3.IsIn (schema_at (moving_from 2 1 0))
new_deferrals_there = inl (record { rest = _; more = _; is = refl })

accomplishments_there : kept_done3.IsIn (schema_at (moving_from 2 2 0))
accomplishments_there = inl (record { rest = _; more = _; is = refl })

-- ── the tables that are looked at ──

pub has_deferrals : (mark : ℕ) → kept_defect.IsIn (schema_at (moving_from 2 1 mark))
has_deferrals mark = record { rest = _; more = _; is = refl }

pub has_bases : (mark : ℕ) → kept_base2.IsIn (schema_at (moving_from 2 2 mark))
has_bases mark = inr (record { rest = _; more = _; is = refl })

bases_free : IsFree kept_base2 (schema_at (moving_from 2 2 0))
bases_free = (has_bases 0, none_refer (schema_at (moving_from 2 2 0)).tables refl)

-- ── the statements ──

pub deferrals_made_then : {T U : Type 0} (p : Point) (s m s' : State) (t : T) (r : Result U TableFault) → Alters {V = T} (schema_after 28) (schema_after 29) (emptied table.Defect3) s m (Ok t) → WritesRows (IsFree kept_point) (point_set p) m s' r
    → Alters (schema_at (settled 2)) (schema_at (moving_from 2 1 0)) (table_made table.Defect3 p) s s' r
deferrals_made_then {T} p s m s' t r a w =
    point_then (schema_at (settled 2)) (schema_at (moving_from 2 1 0)) (emptied table.Defect3) p deferrals_point s m s' t r
    (subst₂ (λ from to. Alters {V = T} from to (emptied table.Defect3) s m (Ok t)) (sym last_is) (sym deferrals_is) a) w

pub accomplishments_made_then : {T U V : Type 0} (p : Point) (s0 s1 s2 s3 : State) (t : T) (u : U) (r : Result V TableFault)
    → Alters {V = T} (schema_after 29) (schema_after 30) unchanged s0 s1 (Ok t) → Alters {V = U} (schema_after 30) (schema_after 31) (emptied table.Done3) s1 s2 (Ok u)
    → WritesRows (IsFree kept_point) (point_set p) s2 s3 r → Alters (schema_at (moving_from 2 1 0)) (schema_at (moving_from 2 2 0)) (table_made table.Done3 p) s0 s3 r
accomplishments_made_then {T} {U} p s0 s1 s2 s3 t u r a b w =
    let made = alters_then (schema_after 29) (schema_after 30) (schema_after 31) unchanged (emptied table.Done3) (turns_new (schema_after 30) (schema_after 31) table.Done3 done3_new) s0 s1 s2 t (Ok u) a b in
    point_then (schema_at (moving_from 2 1 0)) (schema_at (moving_from 2 2 0)) (emptied table.Done3) p accomplishments_point s0 s2 s3 u r
    (subst₂ (λ from to. Alters {V = U} from to (emptied table.Done3) s0 s2 (Ok u)) (sym deferrals_is) (sym accomplishments_is) made) w

pub accomplishments_then : {T U V : Type 0} (rows : List DoneRow) (p : Point) (s0 s1 s2 s3 : State) (t : T) (u : U) (r : Result V TableFault)
    → WritesRows {V = T} (IsFree kept_point) (point_set p) s0 s1 (Ok t) → WritesRows {V = U} kept_done3.IsIn (on_top kept_done3 rows) s1 s2 (Ok u) → WritesRows (IsFree kept_base2) (less kept_base2 (is_of_item p.mark)) s2 s3 r
    → Alters (schema_at (moving_from 2 2 0)) (schema_at (moving_from 2 2 0)) (accomplishments_written rows p) s0 s3 r
accomplishments_then rows p s0 s1 s2 s3 t u r w a d =
    let at = schema_at (moving_from 2 2 0) in
    let added = on_top kept_done3 rows in
    let left = less kept_base2 (is_of_item p.mark) in
    let one = rows_alter (IsFree kept_point) at (point_set p) s0 s1 (Ok t) accomplishments_point w in
    let two = rows_alter kept_done3.IsIn at added s1 s2 (Ok u) accomplishments_there a in
    let three = rows_alter (IsFree kept_base2) at left s2 s3 r bases_free d in
    let both = alters_then at at at (point_set p) added (turns_same at at added refl (on_top_keeps kept_done3 rows)) s0 s1 s2 t (Ok u) one two in
    alters_then at at at (λ name more. added name (point_set p name more)) left (turns_same at at left refl (less_keeps kept_base2 (is_of_item p.mark))) s0 s2 s3 u r both three

pub later_finished_then : {T U V : Type 0} (p : Point) (s0 s1 s2 s3 : State) (t : T) (u : U) (r : Result V TableFault)
    → Alters {V = T} (schema_after 31) (schema_after 32) unchanged s0 s1 (Ok t) → Alters {V = U} (schema_after 32) (schema_after 35) unchanged s1 s2 (Ok u)
    → WritesRows (IsFree kept_point) (point_set p) s2 s3 r → Alters (schema_at (moving_from 2 2 0)) (schema_at (settled 3)) (point_set p) s0 s3 r
later_finished_then {T} {U} p s0 s1 s2 s3 t u r a b w =
    let indexed = alters_then (schema_after 31) (schema_after 32) (schema_after 35) unchanged unchanged layout3_turns s0 s1 s2 t (Ok u) a b in
    point_then (schema_at (moving_from 2 2 0)) (schema_at (settled 3)) unchanged p later_point s0 s2 s3 u r
    (subst₂ (λ from to. Alters {V = U} from to unchanged s0 s2 (Ok u)) (sym accomplishments_is) (sym later_is) indexed) w
