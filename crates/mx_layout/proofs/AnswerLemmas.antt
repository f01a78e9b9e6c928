-- What a query answered, and what was made of it.
use Rattle.std.proofs.Common.{◌≡◌, ◌⊎◌, inl, inr, List, [], ◌∷◌, Ok, Err, Result, IfOk, IfErr, OnOk, IsTrue, refl, ap}
use Rattle.std.specs.Prelude.{MatchResult, IsErrAnd}
use Rattle.sqlite.specs.Order.{Row}
use Rattle.sqlite.specs.State.{State, Shown, FailsToQuery, IsTooLate, IsUnchanged}
use Rattle.sqlite.specs.declared.error.Error.{Error}
use Rattle.sqlite.specs.declared.error.Error.TheVariants.{SqlInputError}
use Rattle.sqlite_resolve.specs.declared.error.CompileError.{CompileError}
use Rattle.mx_base.specs.declared.point.Point.{Point}
use Rattle.mx_layout.specs.declared.fault.TableFault.{TableFault}
use Rattle.mx_layout.specs.declared.fault.TableFault.TheVariants.{Memory, Store, NotOurs, Exists, Damaged}
use Rattle.mx_layout.specs.Contents.{rows_in}
use Rattle.mx_layout.specs.Crash.{StaysInside}
use Rattle.mx_layout.specs.Listed.{FindsNoOffice}
use Rattle.mx_layout.specs.Point.{AnswersPoint, point_cells, point_text, FitsPoint, IsStop, IsFaultOf, IsUnread, IsNoPoint, HoldsPoint, ReadsPoint, ReadsExactly, ReadsNone, unnamed}
use Rattle.mx_layout.specs.Tables.{office, HasOffice}
use Rattle.mx_layout.proofs.InsideLemmas.{shown_stays}
use Rattle.mx_layout.proofs.ListedLemmas.{absent_point}
use Rattle.mx_layout.proofs.PointLemmas.{office_rows, office_same, office_input, reads_point, reads_exactly, open_either}
use Rattle.mx_layout.proofs.QueryLemmas.{refused_unchanged, refused_query, shown_open}
use Rattle.mx_layout.proofs.ReadLemmas.{on_ok}

-- ── a query whose rows are not looked at ──

pub answered_ok : {V W : Type 0} (P : Type 0) (answer : Result V Error) (result : Result W TableFault) → IfErr answer (λ error. IsErrAnd result (IsFaultOf error)) → IfOk answer (λ _. P) → OnOk result P
answered_ok P (Ok v) result stopped p = on_ok result p
answered_ok P (Err error) (Ok w) stopped p = absurd stopped
answered_ok P (Err error) (Err fault) stopped p = tt

-- ── the query of office ──

unread_cases : (error : Error) (fault : TableFault) → IsUnread error fault → IsStop fault ⊎ ((refused : CompileError) × (error ≡ SqlInputError refused) × (fault ≡ NotOurs))
unread_cases (SqlInputError refused) fault h = inr (refused, refl, h)
unread_cases error fault h = inl h.0

-- what the query answered and what was made of it: rows, and the point that they are or why they are none; that the call stopped; or that the text was refused
abbrev pub IsPointOf : {V : Type 0} → (V → List Row) → State → State → Result Point TableFault → Type 0
IsPointOf {V} items old new result =
    ((v : V) × Shown point_text [] old new (items v) × MatchResult result (λ p. items v ≡ point_cells p ∷ []) (IsNoPoint (items v)))
    ⊎ (((fault : TableFault) × (result ≡ Err fault) × IsStop fault)
    ⊎ ((refused : CompileError) × (result ≡ Err NotOurs) × (FailsToQuery point_text [] old new (SqlInputError refused) ⊎ IsTooLate point_text [] old new (SqlInputError refused))))

-- the same without the vector that held the rows
pub answers_point : {V : Type 0} (items : V → List Row) (old new : State) (result : Result Point TableFault) → IsPointOf items old new result → AnswersPoint old new result
answers_point items old new result (inl found) = inl (items found.0, found.1, found.2)
answers_point items old new result (inr other) = inr other

pub point_of_answer : {V : Type 0} (items : V → List Row) (old new : State) (answer : Result V Error) (result : Result Point TableFault)
    → IfOk answer (λ v. MatchResult result (λ p. items v ≡ point_cells p ∷ []) (IsNoPoint (items v))) → IfErr answer (λ error. IsErrAnd result (IsUnread error))
    → IfOk answer (λ v. Shown point_text [] old new (items v)) → IfErr answer (λ error. FailsToQuery point_text [] old new error ⊎ IsTooLate point_text [] old new error) → IsPointOf items old new result
point_of_answer items old new (Ok v) result found unread ok err = inl (v, ok, found)
point_of_answer items old new (Err error) (Ok p) found unread ok err = absurd unread
point_of_answer items old new (Err error) (Err fault) found unread ok err = elim (unread_cases error fault unread) [
  | inl stop ↦ inr (inl (fault, refl, stop))
  | inr refused ↦ inr (inr (refused.0, ap Err refused.2, rw refused.1 at err))
]

module _ {V : Type 0} (items : V → List Row) (old new : State) (result : Result Point TableFault) (it : IsPointOf items old new result) where
  pub point_inside : IsTrue old.in_transaction → OnOk result (StaysInside old new)
  point_inside inside = elim it [
    | inl found ↦ on_ok result (shown_stays old new point_text [] (items found.0) inside found.1)
    | inr (inl stop) ↦ rw stop.1 tt
    | inr (inr refused) ↦ rw refused.1 tt
  ]

  pub point_unchanged : HasOffice old.now.schema → OnOk result (IsUnchanged old new)
  point_unchanged has = elim it [
    | inl found ↦ on_ok result (office_same old new has (items found.0) found.1)
    | inr (inl stop) ↦ rw stop.1 tt
    | inr (inr refused) ↦ rw refused.1 tt
  ]

  pub point_reads : (IsTrue old.is_open → HasOffice old.now.schema) → ReadsPoint (rows_in office old.now.trees) result
  point_reads has = elim it [
    | inl found ↦
        let all = office_rows old new (has (shown_open old new point_text [] (items found.0) found.1)) (items found.0) found.1 in
        reads_point old.now.trees (items found.0) all result found.2
    | inr (inl stop) ↦ rw stop.1 (inl stop.2)
    | inr (inr refused) ↦
        let was_open = (refused_unchanged old new point_text [] refused.0 refused.2).0.was_open in
        absurd (office_input old new (has was_open) refused.0 (refused_query old new point_text [] refused.0 refused.2))
  ]

  pub point_exact : (p : Point) → (IsTrue old.is_open → HoldsPoint p old.now) → FitsPoint p → ReadsExactly p result
  point_exact p holds fits = elim it [
    | inl found ↦
        let held = holds (shown_open old new point_text [] (items found.0) found.1) in
        reads_exactly (rows_in office old.now.trees) p fits held.1 result (point_reads (λ k. (holds k).0))
    | inr (inl stop) ↦ rw stop.1 stop.2
    | inr (inr refused) ↦
        let was_open = (refused_unchanged old new point_text [] refused.0 refused.2).0.was_open in
        absurd (office_input old new (holds was_open).0 refused.0 (refused_query old new point_text [] refused.0 refused.2))
  ]

  pub point_open : MatchResult result (λ _. IsTrue old.is_open) (λ fault. IsStop fault ⊎ IsTrue old.is_open)
  point_open = elim it [
    | inl found ↦ open_either result (shown_open old new point_text [] (items found.0) found.1)
    | inr (inl stop) ↦ rw stop.1 (inl stop.2)
    | inr (inr refused) ↦ rw refused.1 (inr (refused_unchanged old new point_text [] refused.0 refused.2).0.was_open)
  ]

  pub point_absent : (IsTrue old.is_open → FindsNoOffice old.now.schema) → ReadsNone result
  point_absent none = elim it [
    | inl found ↦ absurd (absent_point old new (items found.0) (none (shown_open old new point_text [] (items found.0) found.1)) found.1)
    | inr (inl stop) ↦ rw stop.1 (inl stop.2)
    | inr (inr refused) ↦ rw refused.1 (inr refl)
  ]

-- where no table is named office no point is answered
pub unnamed_none : (read : Result Point TableFault) → IsStop (unnamed read) ⊎ (unnamed read ≡ NotOurs)
unnamed_none (Ok p) = inr refl
unnamed_none (Err Memory) = inl (inl refl)
unnamed_none (Err Store) = inl (inr refl)
unnamed_none (Err NotOurs) = inr refl
unnamed_none (Err Exists) = inr refl
unnamed_none (Err (Damaged table)) = inr refl

-- where a call that answered would be no answer, no table being named office, the call stopped
pub unnamed_stops : {P : Type 0} (read : Result Point TableFault) → MatchResult read (λ _. P) (λ fault. IsStop fault ⊎ P) → (P → ⊥) → IsStop (unnamed read)
unnamed_stops (Ok p) h never = absurd (never h)
unnamed_stops (Err Memory) h never = inl refl
unnamed_stops (Err Store) h never = inr refl
unnamed_stops (Err NotOurs) (inl stop) never = stop
unnamed_stops (Err NotOurs) (inr p) never = absurd (never p)
unnamed_stops (Err Exists) (inl stop) never = absurd (elim stop [ inl e ↦ cc | inr e ↦ cc ])
unnamed_stops (Err Exists) (inr p) never = absurd (never p)
unnamed_stops (Err (Damaged table)) (inl stop) never = absurd (elim stop [ inl e ↦ cc | inr e ↦ cc ])
unnamed_stops (Err (Damaged table)) (inr p) never = absurd (never p)
