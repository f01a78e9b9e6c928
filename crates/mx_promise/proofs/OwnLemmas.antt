-- Files with tables beside those of the program, at the point of the office; and what an opening makes of a file at any point.
use Rattle.std.proofs.Common.{◌≡◌, ◌≢◌, ◌⊎◌, ◌∙◌, inl, inr, false, ℕ, List, [], ◌∷◌, Option, Some, None, IsTrue, refl, sym, subst, arith}
use Rattle.sqlite.proofs.Callers.{one_permutation}
use Rattle.sqlite.specs.Held.{Held, state}
use Rattle.sqlite.specs.Schema.{Schema}
use Rattle.sqlite.specs.State.{State, HasCleanDisk}
use Rattle.sqlite.specs.Store.{Ghosts}
use Rattle.sqlite.specs.Tree.{Trees}
use Rattle.mx_base.specs.declared.point.Point.{Point}
use Rattle.mx_book.specs.commands.Act.{Entry}
use Rattle.mx_registers.specs.points.Commits.{point_behind}
use Rattle.mx_registers.specs.points.Points.{is_on_way}
use Rattle.mx_layout.specs.declared.fault.Table.TheVariants as table
use Rattle.mx_layout.specs.Contents.{rows_in}
use Rattle.mx_layout.specs.Crash.{ChangesNothing, Leaves, RestsAs}
use Rattle.mx_layout.specs.Point.{HoldsPoint, point_cells}
use Rattle.mx_layout.specs.Tables.{HasOffice, office}
use Rattle.mx_layout.proofs.CrashLemmas.{rests_kept}
use Rattle.mx_book_tables.specs.stands.Schemas.{IsOfFile, schema_at}
use Rattle.mx_book_tables.specs.stands.Stands.{RestsAt, RestsInSchema, StandsInSchema}
use Rattle.mx_apply.specs.writing.Written.{IsSettled}
use Rattle.mx_faults.specs.declared.fault.OpenFault.{OpenFault}
use Rattle.mx_faults.specs.declared.fault.OpenFault.TheVariants as opening
use Rattle.mx_office.specs.Faults.{IsStop, open_answer}
use Rattle.mx_office.specs.Layout.{office_point, office_schema}
use Rattle.mx_office.specs.Opening.{ChangesOnWay, HasReason, MovesOn}
use Rattle.mx_office.specs.Stands.{RestsIn}
use Rattle.mx_office.proofs.MoveLemmas.{nothing_changes}
use Rattle.mx_office.proofs.StandsLemmas.{office_first, own_settled}
use Rattle.mx_promise.specs.Moved.{StandsMoving}
use Rattle.mx_promise.specs.Reopened.{SaysHere}
use Rattle.mx_promise.specs.Own.{IsSchemaOf, RestsOn, StandsHere, StandsOn}

-- ── at the point of the office ──

pub settled_of : (own : Schema) (at : Point) (schema : Schema) → IsSchemaOf own at schema → IsSettled own
settled_of own at schema (inl alone) = subst IsSettled (sym alone.0) own_settled
settled_of own at schema (inr more) = more.0

own_of : (own schema : Schema) → IsSchemaOf own office_point schema → schema ≡ own
own_of own schema (inl alone) = alone.1 ∙ sym alone.0
own_of own schema (inr more) = more.2

pub stands_there : (own : Schema) (trees : Trees) (book : List Entry) → StandsOn own office_point trees book → StandsHere own book trees
stands_there own trees book stands = subst (λ schema. StandsInSchema schema office_point trees book) (own_of own stands.schema stands.is) stands.tables

pub stands_on : (own : Schema) → IsSettled own → (trees : Trees) (book : List Entry) → StandsHere own book trees → StandsOn own office_point trees book
stands_on own settled trees book stands = record { schema = own; is = inr (settled, refl, refl); tables = stands }

pub rests_there : (own : Schema) (s : State) (book : List Entry) → RestsOn own office_point s book → RestsIn own s book
rests_there own s book rests = subst (λ schema. RestsInSchema schema office_point s book) (own_of own rests.schema rests.is) rests.tables

pub rests_here : (own : Schema) → IsSettled own → (s : State) (book : List Entry) → RestsIn own s book → RestsOn own office_point s book
rests_here own settled s book rests = record { schema = own; is = inr (settled, refl, refl); tables = rests }

-- its row says the point
says_point : (own : Schema) (trees : Trees) (book : List Entry) → StandsHere own book trees → rows_in office trees ≡ point_cells office_point ∷ []
says_point own trees book stands = one_permutation (point_cells office_point) (rows_in office trees) (stands.rows.tables table.Office refl)

here_point : (own : Schema) → IsSettled own → (s : State) (book : List Entry) → RestsIn own s book → HasCleanDisk s → IsTrue s.is_open → HoldsPoint office_point s.now
here_point own settled s book rests clean is_open = (subst HasOffice (sym (rests.schema clean is_open)) (office_first own settled), says_point own s.now.trees book (rests.tables clean is_open))

-- so those of a book are
pub says_here : (own : Schema) → IsSettled own → (trees : Trees) (book : List Entry) → StandsHere own book trees → SaysHere trees
says_here own settled trees book stands = record { schema = own; settled = settled; sound = stands.lies.sound; says = says_point own trees book stands }

-- where nothing changed if the disk returned what was written, they rest as they did
still_in : (own : Schema) (old new : State) (book : List Entry) → (HasCleanDisk new → ChangesNothing old new) → RestsIn own old book → RestsIn own new book
still_in own old new book nothing rests =
    let now : HasCleanDisk new → RestsIn own new book = λ clean. rests_kept own (λ trees. StandsInSchema own office_point trees book) old new (nothing clean) rests in
    record { schema = λ clean. (now clean).schema clean; tables = λ clean. (now clean).tables clean; settled = λ clean. (now clean).settled clean; crash = λ clean. (now clean).crash clean }

pub rests_still : (own : Schema) (old new : State) (book : List Entry) → ChangesNothing old new → RestsIn own old book → RestsIn own new book
rests_still own old new book nothing = still_in own old new book (λ _. nothing)

-- what is as it was found rests as the book that the tables stand for
pub rests_found_here : (own : Schema) → IsSettled own → (now : State) (tables : Trees) (book : List Entry) → ((here : SaysHere tables) → RestsAs now here.schema (λ db. db ≡ tables)) → StandsHere own book tables → RestsIn own now book
unfolding says_here
rests_found_here own settled now tables book found stands =
    let rests = found (says_here own settled tables book stands) in
    record {
      schema = rests.schema;
      tables = λ clean is_open. subst (StandsHere own book) (sym (rests.tables clean is_open)) stands;
      settled = rests.settled;
      crash = λ clean db may. subst (StandsHere own book) (sym (rests.crash clean db may)) stands;
    }

-- ── at any point ──

-- a file that has the tables of the program alone; or others too, at the point of the office
which : (own : Schema) (at : Point) (s : State) (book : List Entry) → RestsOn own at s book → ((own ≡ office_schema) × RestsAt at s book) ⊎ (IsSettled own × (at ≡ office_point) × RestsIn own s book)
which own at s book rests = elim rests.is [
  | inl alone ↦ inl (alone.0, subst (λ schema. RestsInSchema schema at s book) alone.1 rests.tables)
  | inr more ↦ inr (more.0, more.1, subst (λ p. RestsInSchema own p s book) more.1 (subst (λ schema. RestsInSchema schema at s book) more.2 rests.tables))
]

alone_rests : (own : Schema) (at : Point) (s : State) (book : List Entry) → own ≡ office_schema → RestsAt at s book → RestsOn own at s book
alone_rests own at s book alone rests = record { schema = schema_at at; is = inl (alone, refl); tables = rests }

module _ {S : Type 0} (g : Ghosts S) (was : Held S) (now : State) (own : Schema) (at : Point) (book : List Entry) (rests : RestsOn own at (state g was) book) (changes : ChangesOnWay g was now) (why : Option OpenFault) (moves : MovesOn (state g was) now why) where
  -- one of the office with other tables is as it was
  left_alone : IsSettled own → RestsIn own (state g was) book → RestsIn own now book
  left_alone settled here = still_in own (state g was) now book (λ clean.
      let early : HasCleanDisk (state g was) = omega (arith, moves.clean) in
      nothing_changes g was now changes clean (λ is_open. here_point own settled (state g was) book here early is_open)) here

  -- an office was opened in it
  pub kept_on : why ≡ None → RestsIn own now book
  kept_on none = elim (which own at (state g was) book rests) [
    | inl alone ↦ subst (λ schema. RestsIn schema now book) (sym alone.0) (moves.kept at book alone.1 none)
    | inr more ↦ left_alone more.0 more.2
  ]

  -- or none was
  pub same_on : (fault : OpenFault) → why ≡ Some fault → fault ≢ opening.Store → (commits : ℕ) × RestsOn own (point_behind commits at book) now book
  same_on fault is other = elim (which own at (state g was) book rests) [
    | inl alone ↦
        let it = moves.same at book alone.1 fault is other in
        (it.0, alone_rests own (point_behind it.0 at book) now book alone.0 it.1)
    | inr more ↦ (0, subst (λ p. RestsOn own p now book) (sym more.1) (rests_here own more.0 now book (left_alone more.0 more.2)))
  ]

  -- what a crash may leave
  pub crash_on : Leaves now (StandsMoving own at book)
  crash_on clean db may = elim (which own at (state g was) book rests) [
    | inl alone ↦
        let it = moves.crash at book alone.1 clean db may in
        (it.0, record { schema = schema_at (point_behind it.0 at book); is = inl (alone.0, refl); tables = it.1 })
    | inr more ↦ (0, subst (λ p. StandsOn own p db book) (sym more.1) (stands_on own more.0 db book ((left_alone more.0 more.2).crash clean db may)))
  ]

-- why none was, of a file of a book
pub whole_on : (was : State) (own : Schema) (at : Point) (book : List Entry) (fault : OpenFault) → HasCleanDisk was → HasReason was fault → IsOfFile at → RestsOn own at was book → IsStop fault
whole_on was own at book fault clean reason file rests = elim (which own at was book rests) [
  | inl alone ↦ reason.whole at book file alone.1
  | inr more ↦ elim (reason.exact office_point (λ is_open. here_point own more.0 was book more.2 clean is_open) (omega arith, omega arith, omega arith)) [
    | inl says ↦ elim says [
      | inl answered ↦ let none : open_answer office_point ≡ None = refl in absurd cc
      | inr way ↦ let off : is_on_way office_point ≡ false = refl in absurd cc
    ]
    | inr stop ↦ stop
  ]
]
