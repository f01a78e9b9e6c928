-- The tables of layout 1 after one command more, and after all of a book.
use Rattle.std.proofs.Common.{◌≡◌, ◌<◌, ◌+◌, inl, ℕ, suc, true, List, [], ◌∷◌, ◌++◌, All, Ok, Err, Result, IsTrue, Some, None, length, get_or, take, drop, refl, sym, ap, subst, ◌∙◌, arith}
use Rattle.std.specs.Prelude.{Contains, IsErr}
use Rattle.std.proofs.lemmas.List.{take_more}
use Rattle.std.proofs.Math.Seq.{drop-cons}
use Rattle.std.specs.List.Sorted.{IsPermutation}
use Rattle.std.proofs.lemmas.List.Elements.{All-append}
use Rattle.std.proofs.lemmas.List.Sorted.{IsPermutation-trans, IsPermutation-append_comm, IsPermutation-append_right}
use Rattle.sqlite.specs.Order.{Row}
use Rattle.sqlite.specs.Schema.{Schema}
use Rattle.sqlite.specs.Effect.{Database}
use Rattle.sqlite.specs.State.{State, HasCleanDisk}
use Rattle.sqlite_catalog.specs.Listing.{IsSound}
use Rattle.mx_book.specs.commands.Act.{Entry}
use Rattle.mx_book.specs.commands.Shape.{has_shape}
use Rattle.mx_book.specs.Book.{is_book_from, is_new}
use Rattle.mx_book.specs.Judge.{judge}
use Rattle.mx_book.specs.declared.verdict.Verdict.TheVariants.{New}
use Rattle.mx_book.proofs.JudgeLemmas.{IsBook-entered, both_true, is_new-New}
use Rattle.mx_layout.specs.TableName.{TableName}
use Rattle.mx_layout.specs.declared.fault.Table.TheVariants as table
use Rattle.mx_layout.specs.declared.fault.TableFault.{TableFault}
use Rattle.mx_layout.specs.Contents.{rows_in}
use Rattle.mx_layout.specs.Crash.{IsWithin, StaysInside}
use Rattle.mx_layout.specs.Making.{IsEmptyIn}
use Rattle.mx_layout.specs.Names.{table_named}
use Rattle.mx_layout.specs.Steps.{IsLayout, schema_of}
use Rattle.mx_layout.proofs.CrashLemmas.{stays_then, within_itself, within_then}
use Rattle.mx_book_tables.specs.stands.Family.{Rows, of, none, rows_of, rows_given, is_at, is_register, is_there, added, Fit, FitBrought}
use Rattle.mx_book_tables.specs.stands.Schemas.{schema_at}
use Rattle.mx_book_tables.specs.stands.Stands.{StandsAt}
use Rattle.mx_book_tables.proofs.StandsProofs.ChangeLemmas.{brings}
use Rattle.mx_book_tables.proofs.StandsProofs.EmptyLemmas.{empty_stands}
use Rattle.mx_book_tables.proofs.StandsProofs.FamilyLemmas.{Facts, RegisterFacts, facts, never, register_facts}
use Rattle.mx_book_tables.proofs.StandsProofs.SchemaLemmas.{has_tables, settled_schema}
use Rattle.mx_tables.specs.inserts.Sets.{GainsRows}
use Rattle.mx_tables.proofs.InsertsProofs.SetLemmas.{stays_open}
use Rattle.mx_moves.specs.install.Entries.{AddsEntries, FitsNext, first_point, with_command}

is_layout : IsLayout 1
is_layout = inl refl

-- ── the rows of a command ──

-- what stands in a register fits with what a command brings to it
more_fit : (name : TableName) (f : Rows) → Facts name f → RegisterFacts f → is_register f ≡ true → is_there f first_point ≡ true → (book : List Entry) (command : Entry) → Fit f first_point book → FitBrought f first_point book command → Fit f first_point (book ++ command ∷ [])
more_fit name (of k line change (Some read)) facts register is there book command fit fits =
    let before = facts.whole 1 is_layout there book in
    subst (All k.Fits) (sym (facts.whole 1 is_layout there (book ++ command ∷ []) ∙ register.more book command))
    (All-append k.Fits (line.rows book) (change book command []) (subst (All k.Fits) before fit) (fits there))
more_fit name (of k line change None) facts register other there book command fit fits = never other
more_fit name none facts register other there book command fit fits = never other

-- rows that were those of the book before, and have those of the command on top, are those of the book with it
more_rows : (given more stored new : List Row) → IsPermutation given stored → IsPermutation (more ++ stored) new → IsPermutation (given ++ more) new
more_rows given more stored new is gained =
    IsPermutation-trans (given ++ more) (more ++ given) _ (IsPermutation-append_comm given more) (IsPermutation-trans (more ++ given) (more ++ stored) _ (IsPermutation-append_right more given stored is) gained)

module _ (book : List Entry) (command : Entry) where
  abbrev after : List Entry
  after = book ++ command ∷ []

  rows_fit : FitsNext book command → (name : TableName) → is_at first_point name ≡ true → Fit (rows_of name) first_point book → Fit (rows_of name) first_point after
  rows_fit fits table.Office there fit = tt
  rows_fit fits table.Span2 there fit = never there
  rows_fit fits table.Total2 there fit = never there
  rows_fit fits table.Base2 there fit = never there
  rows_fit fits table.Defect3 there fit = never there
  rows_fit fits table.Done3 there fit = never there
  rows_fit fits name there fit = more_fit name (rows_of name) (facts name) (register_facts name) refl there book command fit (fits name)

  -- what a book gives a table with a command, and what is given to it before
  rows_more : (name : TableName) → is_at first_point name ≡ true → rows_given first_point after name ≡ rows_given first_point book name ++ added first_point name book command
  rows_more table.Office there = refl
  rows_more table.Span2 there = never there
  rows_more table.Total2 there = never there
  rows_more table.Base2 there = never there
  rows_more table.Defect3 there = never there
  rows_more table.Done3 there = never there
  rows_more name there = brings 1 is_layout name refl there book command

  -- the tables that stood for a book and gained the rows of a command that is new stand for the book with it
  pub stand : (old new : Database) → old.schema ≡ schema_at first_point → StandsAt first_point old.trees book → has_shape command ≡ true → judge book command ≡ New → FitsNext book command → GainsRows (with_command book command) old new
      → (new.schema ≡ schema_at first_point) × StandsAt first_point new.trees after
  stand old new has stands shape is_new fits gains =
      let new_has = gains.schema ∙ has in
      let in_old : (name : TableName) → is_at first_point name ≡ true → Contains old.schema.tables (table_named name) = λ name there.
      subst (λ (s : Schema). Contains s.tables (table_named name)) (sym has) ((has_tables first_point name).0 there) in (
        new_has,
        record {
          lies = record {
            sound = subst (λ (s : Schema). IsSound s new.trees) new_has (gains.sound (subst (λ (s : Schema). IsSound s old.trees) (sym has) stands.lies.sound));
            rises = λ name there. gains.rises name (subst (λ (s : Schema). Contains s.tables (table_named name)) (sym has) there) (stands.lies.rises name there);
          };
          rows = record {
            is_book = IsBook-entered book command stands.rows.is_book shape is_new;
            point = stands.rows.point;
            fit = λ name there. rows_fit fits name there (stands.rows.fit name there);
            tables = λ name there. subst (λ rows. IsPermutation rows (rows_in (table_named name) new.trees)) (sym (rows_more name there))
                (more_rows (rows_given first_point book name) (added first_point name book command) (rows_in (table_named name) old.trees) (rows_in (table_named name) new.trees) (stands.rows.tables name there) (gains.tables name (in_old name there)));
          };
        },
      )

-- new tables stand for the book with no entry
pub new_stand : (db : Database) → (db.schema ≡ schema_of 1) × IsEmptyIn 1 db.trees → (db.schema ≡ schema_at first_point) × StandsAt first_point db.trees []
new_stand db made = (made.0 ∙ sym (settled_schema 1 is_layout), empty_stands 1 is_layout db.trees made.1)

-- ── calls ──

-- the rows of a command that is new were added behind the entries of a book
pub adds_one : {V : Type 0} (book : List Entry) (command : Entry) (old new : State) (v : V) → has_shape command ≡ true → judge book command ≡ New → FitsNext book command
    → (HasCleanDisk new → IsTrue old.in_transaction → old.now.schema ≡ schema_at first_point → GainsRows (with_command book command) old.now new.now)
    → (HasCleanDisk new → IsTrue old.in_transaction → StaysInside old new) → IsWithin old new → AddsEntries {V = V} book (book ++ command ∷ []) old new (Ok v)
adds_one book command old new v shape is_new fits gains stays within = record {
  stands = λ clean inside has stands. stand book command old.now new.now has stands shape is_new fits (gains clean inside.0 has);
  mode = λ clean begun. (stays clean begun).mode;
  inside = λ clean inside. stays clean inside.0;
  within = within;
}

-- no entry was added yet
pub adds_none : (s : State) → AddsEntries {V = ℕ} [] [] s s (Ok 0)
adds_none s = record {
  stands = λ _ _ has stands. (has, stands);
  mode = λ _ begun. begun;
  inside = λ _ inside. stays_open s inside;
  within = within_itself s;
}

-- some entries, and then others
pub adds_then : {T U V : Type 0} (one two three : List Entry) (old mid new : State) (t : T) (u : U) (v : V) → AddsEntries {V = T} one two old mid (Ok t) → AddsEntries {V = U} two three mid new (Ok u) → AddsEntries {V = V} one three old new (Ok v)
adds_then one two three old mid new t u v first second =
    let early : HasCleanDisk new → HasCleanDisk mid = λ clean. omega (arith, second.within.survives.clean) in
    record {
      stands = λ clean inside has stands. (let stays = first.inside (early clean) inside in
          let it = first.stands (early clean) inside has stands in
          second.stands clean (stays.mode, stays.is_open) it.0 it.1);
      mode = λ clean begun. second.mode clean (first.mode (early clean) begun);
      inside = λ clean inside. (let stays = first.inside (early clean) inside in stays_then old mid new stays (second.inside clean (stays.mode, stays.is_open)));
      within = within_then old mid new first.within first.mode second.within;
    }

-- a call that stopped, behind entries that were added
pub adds_stopped : {V : Type 0} (before after : List Entry) (old new : State) (r : Result V TableFault) → IsErr r → IsWithin old new → AddsEntries before after old new r
adds_stopped before after old new (Ok v) is within = absurd (cc)
adds_stopped before after old new (Err e) is within = record { stands = λ _ _ _ _. tt; mode = λ _ _. tt; inside = λ _ _. tt; within = within }

-- ── the entries of a book, one after another ──

-- the next entry is new behind those before it, and the others are so behind it
pub next_new : (before entries : List Entry) (i : ℕ) (x : Entry) → i < length entries → get_or entries i x ≡ x → is_book_from before (drop i entries) ≡ true
    → (judge before x ≡ New) × (is_book_from (before ++ x ∷ []) (drop (i + 1) entries) ≡ true)
next_new before entries i x low here judged =
    let one : suc i ≡ i + 1 = omega arith in
    let next : drop i entries ≡ x ∷ drop (i + 1) entries = subst (λ n. drop i entries ≡ get_or entries i x ∷ drop n entries) one (drop-cons entries i x low) ∙ ap (λ y. y ∷ drop (i + 1) entries) here in
    let both = both_true (is_new (judge before x)) (is_book_from (before ++ x ∷ []) (drop (i + 1) entries)) (subst (λ es. is_book_from before es ≡ true) next judged) in
    (is_new-New (judge before x) both.0, both.1)

-- those so far with the next
pub next_taken : (entries : List Entry) (i : ℕ) (x : Entry) → i < length entries → get_or entries i x ≡ x → take i entries ++ x ∷ [] ≡ take (i + 1) entries
next_taken entries i x low here = sym (take_more entries i x low ∙ ap (λ y. take i entries ++ y ∷ []) here)
