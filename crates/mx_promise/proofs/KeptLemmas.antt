-- The book that a stop leaves of a run, from what the run answers and what is found.
use Rattle.std.proofs.Common.{arith, refl, sym, ap, subst, ◌∙◌, ◌≡◌, ◌≢◌, ◌≤◌, ◌<◌, ◌⊎◌, inl, inr, ℕ, ◌+◌, suc, length, take, drop, List, ◌++◌, Option, Some, None, slice_get, count_by, IsSomeAnd, ◌∷◌, []}
use Rattle.std.proofs.lemmas.List.{take-append-drop, take-take}
use Rattle.std.proofs.lemmas.Option.{slice_get_within}
use Rattle.sqlite.specs.Tree.{Trees}
use Rattle.sqlite.specs.Store.{Ghosts}
use Rattle.sqlite.specs.Held.{Held, state}
use Rattle.sqlite.specs.Schema.{Schema}
use Rattle.sqlite.specs.State.{State, HasCleanDisk}
use Rattle.sqlite.proofs.MarkLemmas.{slice_get-take}
use Rattle.mx_book.specs.commands.Act.{Entry}
use Rattle.mx_book.specs.Accepted.{accepted, is_accepted, Acknowledges, HasAcknowledged}
use Rattle.mx_book.specs.Book.{entry_at}
use Rattle.mx_book.specs.Run.{book_run, replies}
use Rattle.mx_book.proofs.GrowthLemmas.{book_run-append}
use Rattle.mx_book.proofs.AcceptedLemmas.{run_accepts, run_prefix, replies_count, one_more, run_has}
use Rattle.mx_layout.specs.Crash.{ChangesNothing, Leaves}
use Rattle.mx_database.specs.power.Found.{IsFound}
use Rattle.mx_database.proofs.PowerProofs.FoundLemmas.{rests_found}
use Rattle.mx_layout.specs.declared.fault.Table.{Table}
use Rattle.mx_faults.specs.declared.fault.Fault.{Fault}
use Rattle.mx_faults.specs.declared.fault.Fault.TheVariants.{Memory, Store, NeedsReopen, Damaged}
use Rattle.mx_office.specs.declared.fault.Outcomes.{Outcomes}
use Rattle.mx_office.specs.Layout.{office_point}
use Rattle.mx_office.specs.Opening.{ChangesOnWay}
use Rattle.mx_office.proofs.MoveLemmas.{nothing_changes}
use Rattle.mx_office.proofs.StandsLemmas.{office_first}
use Rattle.mx_layout.specs.Contents.{rows_in}
use Rattle.mx_layout.specs.Point.{point_cells}
use Rattle.mx_layout.specs.Tables.{office, HasOffice}
use Rattle.mx_base.specs.declared.point.Point.{Point}
use Rattle.mx_book_tables.specs.stands.Stands.{StandsInSchema}
use Rattle.mx_office.specs.Stands.{IsEitherIn, RestsIn}
use Rattle.mx_promise.specs.Own.{RestsOn, StandsHere, StandsOn}
use Rattle.mx_promise.specs.Reopened.{SaysHere}
use Rattle.mx_promise.specs.Kept.{count_accepted, HasReached, IsKept, IsBookKept}

-- the tables that were found stand for the book, so they rest as it
pub rests_on : (own : Schema) (at : Point) (may_leave : Trees → Type 0) (again : State) (book : List Entry) (found : IsFound may_leave again) → StandsOn own at found.tables book → RestsOn own at again book
rests_on own at may_leave again book found stands = record {
  schema = stands.schema;
  is = stands.is;
  tables = rests_found may_leave again stands.schema (λ trees. StandsInSchema stands.schema at trees book) found stands.tables.lies.sound stands.tables;
}

pub rests_as : (own : Schema) (may_leave : Trees → Type 0) (again : State) (book : List Entry) (found : IsFound may_leave again) → StandsHere own book found.tables → RestsIn own again book
rests_as own may_leave again book found stands = rests_found may_leave again own (λ trees. StandsHere own book trees) found stands.lies.sound stands

-- the tables that were found are at the point of the office, so an opening of it changed nothing
pub nothing_found : (may_leave : Trees → Type 0) {S : Type 0} (g : Ghosts S) (mid : Held S) (now : State) → HasCleanDisk (state g mid) → HasCleanDisk now → (found : IsFound may_leave (state g mid)) → SaysHere found.tables → ChangesOnWay g mid now → ChangesNothing (state g mid) now
nothing_found may_leave g mid now early clean found says changes =
    let there = rests_found may_leave (state g mid) says.schema (λ trees. rows_in office trees ≡ point_cells office_point ∷ []) found says.sound says.says in
    nothing_changes g mid now changes clean (λ is_open. (subst HasOffice (sym (there.schema early is_open)) (office_first says.schema says.settled), there.tables early is_open))

is_store : (stopped : Option Fault) → (stopped ≡ Some Store) ⊎ (stopped ≢ Some Store)
is_store None = inr (λ h. cc)
is_store (Some Memory) = inr (λ h. cc)
is_store (Some Store) = inl refl
is_store (Some NeedsReopen) = inr (λ h. cc)
is_store (Some (Damaged table)) = inr (λ h. cc)

-- whatever tables a crash leaves behind a run, they stand for the book after those commands
pub book_left : (own : Schema) (end : State) (before commands : List Entry) (outcomes : Outcomes) → let n = length outcomes.replies.items in (outcomes.stopped ≢ Some Store → RestsIn own end (book_run before (take n commands)))
    → Leaves end (IsEitherIn own (book_run before (take n commands)) (book_run before (take (n + 1) commands))) → HasCleanDisk end → (db : Trees) → end.may_leave db
    → (reached : ℕ) × HasReached outcomes reached × StandsHere own (book_run before (take reached commands)) db
book_left own end before commands outcomes kept crash clean db left =
    let n = length outcomes.replies.items in
    elim (is_store outcomes.stopped) [
      | inl store ↦ elim (crash clean db left) [ inl one ↦ (n, inl refl, one) | inr other ↦ (n + 1, inr (store, refl), other) ]
      | inr other ↦ (n, inl refl, (kept other).crash clean db left)
    ]

-- a longer run only adds to the book
grown : (before commands : List Entry) (n k : ℕ) → n ≤ k → (more : List Entry) × (book_run before (take k commands) ≡ book_run before (take n commands) ++ more)
grown before commands n k low =
    let first = book_run before (take n commands) in
    let rest = drop n (take k commands) in
    let front : take n (take k commands) ≡ take n commands = take-take n k commands low in
    let whole : take k commands ≡ take n commands ++ rest = sym (take-append-drop n (take k commands)) ∙ ap (λ l. l ++ rest) front in
    (accepted first rest, ap (book_run before) whole ∙ book_run-append before (take n commands) rest ∙ run_accepts first rest)

module _ (before commands : List Entry) (outcomes : Outcomes) (reached : ℕ) (reaches : HasReached outcomes reached) (answered : outcomes.replies.items ≡ replies before (take (length outcomes.replies.items) commands)) where
  at_least : length outcomes.replies.items ≤ reached
  at_least = elim reaches [ inl same ↦ omega arith | inr more ↦ let one : reached ≡ length outcomes.replies.items + 1 = more.1 in omega arith ]

  acknowledged : HasAcknowledged (book_run before (take reached commands)) outcomes.replies.items commands
  acknowledged at number says =
      let n = length outcomes.replies.items in
      let low : at < n = elim says [ inl h ↦ slice_get_within _ at _ h | inr h ↦ slice_get_within _ at _ h ] in
      let more = grown before commands n reached at_least in
      let says' = subst (λ l. Acknowledges (slice_get l at) number) answered says in
      let there = run_has before (take n commands) more.0 at number says' in
      subst (λ o. IsSomeAnd o (λ command. entry_at (book_run before (take reached commands)) number ≡ Some command)) (slice_get-take n commands at low)
      (subst (λ (book : List Entry). IsSomeAnd (slice_get (take n commands) at) (λ command. entry_at book number ≡ Some command)) (sym more.1) there)

  sure : count_accepted outcomes ≡ length (accepted before (take (length outcomes.replies.items) commands))
  sure = ap (count_by is_accepted) answered ∙ replies_count before (take (length outcomes.replies.items) commands)

  is_kept : IsKept (length (accepted before (take reached commands))) outcomes
  is_kept =
      let n = length outcomes.replies.items in
      elim reaches [
        | inl same ↦ inl (ap (λ k. length (accepted before (take k commands))) same ∙ sym sure)
        | inr more ↦
            let next : reached ≡ suc n = let one : reached ≡ n + 1 = more.1 in omega arith in
            let at = ap (λ k. length (accepted before (take k commands))) next in
            elim (one_more before commands n) [ inl none ↦ inl (at ∙ none ∙ sym sure) | inr one ↦ inr (more.0, at ∙ one ∙ ap (λ k. k + 1) (sym sure)) ]
      ]

  pub is_book_kept : ((table : Table) → outcomes.stopped ≢ Some (Damaged table)) → IsBookKept before commands outcomes (book_run before (take reached commands))
  is_book_kept undamaged = record {
    answered = answered;
    reached = reached;
    reaches = reaches;
    is = refl;
    kept = length (accepted before (take reached commands));
    prefix = run_prefix before commands reached;
    acknowledged = acknowledged;
    at_most_one_more = is_kept;
    undamaged = undamaged;
  }
