-- The point of a file as the one row of office, and why rows are not those of one point.
use Rattle.std.specs.Prelude.{◌≡◌, ◌≢◌, ◌⊎◌, ◌↔◌, ◌<◌, ◌^◌, ℕ, pos, List, [], ◌∷◌, length, codes, Result, Err, MatchResult}
use Rattle.sqlite.specs.declared.types.Value.{Value}
use Rattle.sqlite.specs.declared.types.Value.TheVariants.{Int}
use Rattle.sqlite.specs.Order.{Row}
use Rattle.mx_base.specs.declared.point.Point.{Point}
use Rattle.mx_layout.specs.declared.fault.TableFault.{TableFault}
use Rattle.mx_layout.specs.declared.fault.TableFault.TheVariants.{Memory, Store, NotOurs, Damaged}
use Rattle.mx_layout.specs.declared.fault.Table.TheVariants.{Office}
use Rattle.sqlite.specs.declared.error.Error.{Error}
use Rattle.sqlite.specs.declared.error.Error.TheVariants.{SqliteFailure, SqlInputError}
use Rattle.sqlite.specs.declared.error.ErrorCode.TheVariants.{OutOfMemory}
use Rattle.sqlite.specs.Effect.{Database}
use Rattle.sqlite.specs.Store.{Ghosts}
use Rattle.sqlite.specs.Held.{Held, state}
use Rattle.sqlite.specs.State.{State, Shown, FailsToQuery, IsTooLate}
use Rattle.sqlite_resolve.specs.declared.error.CompileError.{CompileError}
use Rattle.mx_layout.specs.Contents.{rows_in}
use Rattle.mx_layout.specs.Listed.{LacksOffice}
use Rattle.mx_layout.specs.Reading.{HasOther, IsRowOf}
use Rattle.mx_layout.specs.Tables.{office, HasOffice}

-- the values of the row of office that a point is, in the order of the columns
abbrev pub point_cells : Point → Row
point_cells p = Int (pos 1) ∷ Int (pos p.layout) ∷ Int (pos p.step) ∷ Int (pos p.mark) ∷ []

-- the numbers of the point fit their types
abbrev pub FitsPoint : Point → Type 0
FitsPoint p = (p.layout < 2 ^ 8) × (p.step < 2 ^ 8) × (p.mark < 2 ^ 32)

-- the row is that of some point
abbrev pub IsPoint : Row → Type 0
IsPoint = IsRowOf point_cells FitsPoint

-- the value is a whole number from 0 up to below the limit
abbrev pub HoldsBelow : ℕ → Value → Type 0
HoldsBelow limit value = (n : ℕ) × (value ≡ Int (pos n)) × (n < limit)

-- want of memory, or an error of the store
abbrev pub IsStop : TableFault → Type 0
IsStop fault = (fault ≡ Memory) ⊎ (fault ≡ Store)

-- the fault is the one that an error of sqlite is: want of memory exactly where that was the error, else the store's
abbrev pub IsFaultOf : Error → TableFault → Type 0
IsFaultOf error fault = IsStop fault × ((fault ≡ Memory) ↔ (error ≡ SqliteFailure OutOfMemory))

-- why no point was read, where the query of office had this error: its text was refused, or the call stopped
abbrev pub IsUnread : Error → TableFault → Type 0
IsUnread (SqlInputError refused) fault = fault ≡ NotOurs
IsUnread error fault = IsFaultOf error fault

-- why rows are not those of one point: there is not exactly one, or the one is no point
abbrev pub IsNoPoint : List Row → TableFault → Type 0
IsNoPoint rows fault = ((fault ≡ NotOurs) × (length rows ≢ 1)) ⊎ ((fault ≡ Damaged Office) × (length rows ≡ 1) × HasOther IsPoint rows)

-- office is the first table, and its one row is that of the point
abbrev pub HoldsPoint : Point → Database → Type 0
HoldsPoint p db = HasOffice db.schema × (rows_in office db.trees ≡ point_cells p ∷ [])

-- the answer is the point whose row is the only one, or says why there is none, or that the call stopped
abbrev pub ReadsPoint : List Row → Result Point TableFault → Type 0
ReadsPoint rows answer = MatchResult answer (λ p. rows ≡ point_cells p ∷ []) (λ fault. IsStop fault ⊎ IsNoPoint rows fault)

-- the answer is this point, or says that the call stopped
abbrev pub ReadsExactly : Point → Result Point TableFault → Type 0
ReadsExactly p answer = MatchResult answer (λ q. q ≡ p) IsStop

-- why no point is answered where no table is named `office`: the call stopped, or not ours, whatever was read
abbrev pub unnamed : Result Point TableFault → TableFault
unnamed (Err Memory) = Memory
unnamed (Err Store) = Store
unnamed _ = NotOurs

-- the answer where no table is ours: not ours, or that the call stopped
abbrev pub ReadsNone : Result Point TableFault → Type 0
ReadsNone answer = MatchResult answer (λ _. ⊥) (λ fault. IsStop fault ⊎ (fault ≡ NotOurs))

-- the text that reads the point
abbrev pub point_text : List ℕ
point_text = codes "SELECT id, layout, step, mark FROM office ORDER BY id"

-- the query of `office` was answered so, whatever the schema is, and this was made of it: it showed rows, of which the point is the only one, or they say why there is none; the call stopped; or its text was refused
abbrev pub AnswersPoint : State → State → Result Point TableFault → Type 0
AnswersPoint old new answer =
    ((rows : List Row) × Shown point_text [] old new rows × MatchResult answer (λ p. rows ≡ point_cells p ∷ []) (IsNoPoint rows))
    ⊎ (((fault : TableFault) × (answer ≡ Err fault) × IsStop fault)
    ⊎ ((refused : CompileError) × (answer ≡ Err NotOurs) × (FailsToQuery point_text [] old new (SqlInputError refused) ⊎ IsTooLate point_text [] old new (SqlInputError refused))))

-- the point of a database was read so, whatever its schema is: by its query, or no table is named `office`
abbrev pub TellsPoint : {S : Type 0} → Ghosts S → Held S → Result Point TableFault → Type 0
TellsPoint {S} g old answer =
    (LacksOffice (state g old).now.schema × ReadsNone answer)
    ⊎ ((before after : Held S) × ((state g before).now ≡ (state g old).now) × AnswersPoint (state g before) (state g after) answer)

-- the text that writes the point
abbrev pub insert_office_text : List ℕ
insert_office_text = codes "INSERT INTO office (id, layout, step, mark) VALUES (1, ?1, ?2, ?3)"
