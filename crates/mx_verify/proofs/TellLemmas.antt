-- What is answered of a file, by what was looked at and by whether its rows are those of a book.
use Rattle.std.proofs.Common.{◌≡◌, inl, inr, Bool, true, false, ◌&&◌, List, [], Ok, Err, Result, IfOk, IfErr, refl, sym, ap, subst}
use Rattle.std.specs.Prelude.{◌≢◌, IsErrAnd, MatchResult}
use Rattle.std.specs.Bool.{Decides}
use Rattle.sqlite.specs.State.{State}
use Rattle.sqlite.specs.Tree.{Trees}
use Rattle.mx_book.specs.commands.Act.{Entry}
use Rattle.mx_book.specs.Book.{IsBook}
use Rattle.mx_base.specs.declared.rows.rows.EntryKind.{EntryKind}
use Rattle.mx_base.specs.declared.rows.rows.EntryKind.TheVariants as kind
use Rattle.mx_registers.specs.Left.{all_rows}
use Rattle.mx_layout.specs.TableName.{TableName}
use Rattle.mx_layout.specs.declared.fault.TableFault.{TableFault}
use Rattle.mx_layout.specs.declared.fault.TableFault.TheVariants as fault
use Rattle.mx_layout.specs.Point.{IsStop}
use Rattle.mx_book_tables.specs.stands.Family.{is_at}
use Rattle.mx_book_tables.specs.stands.Stands.{HasRowsAt}
use Rattle.mx_verify.specs.merged.Merging.{merging}
use Rattle.mx_registers.specs.file.Tables.{AreFilePut, AreTablesOf}
use Rattle.mx_verify.specs.declared.merged.merged.NoBook.TheVariants as no_book
use Rattle.mx_registers.specs.declared.file.file_rows.FileRows.{FileRows}
use Rattle.mx_verify.specs.declared.verified.verified.Unverified.{Unverified}
use Rattle.mx_verify.specs.declared.verified.verified.Unverified.TheVariants as why
use Rattle.mx_book_tables.specs.reading.Layout.{verified_point}
use Rattle.mx_book_tables.specs.reading.Damage.{HasBadRow, IsCause, table_of}
use Rattle.mx_verify.specs.Damage.{IsDamaged, IsUndamaged}
use Rattle.mx_book_tables.specs.reading.Stored.{AreStored}
use Rattle.mx_verify.specs.Verifies.{HasBook, Tells, Verifies, told_file, told_rows}
use Rattle.mx_book_tables.specs.reading.Looks.{Looks, TellsPoint}
use Rattle.mx_tables.proofs.AnswerLemmas.{on_read}
use Rattle.mx_book_tables.proofs.ReadingProofs.StoredLemmas.{none_bad, point_given, tables_given, tables_read}

-- ── what stopped ──

stop_alone : (trees : Trees) (book : List Entry) → HasRowsAt verified_point trees book → (e : TableFault) → IsCause e → ((name : TableName) → e ≡ fault.Damaged name → HasBadRow trees name) → IsStop e
stop_alone trees book has e (inl stop) bad = stop
stop_alone trees book has e (inr damaged) bad = absurd (none_bad trees book has damaged.0 damaged.1 (bad damaged.0 damaged.2))

stops : {V : Type 0} (P : Trees → V → Type 0) (old new : State) (e : TableFault) → Looks P old new (Err e) → Verifies old new (Err e)
stops {V} P old new e r = record {
  tells = λ clean has. (let bad : (name : TableName) → e ≡ fault.Damaged name → HasBadRow old.now.trees name = λ name is. r.damaged clean has name (ap Err is) in
      record {
        exact = tt;
        whole = λ book. stop_alone old.now.trees book.0 book.1 e (r.cause clean) bad;
        damaged = λ name is. inl (bad name (let same : e ≡ fault.Damaged name = cc in same));
        undamaged = tt;
      });
  cause = r.cause;
  unchanged = r.unchanged;
  inside = r.inside;
  within = r.within;
}

-- what was not looked at is not verified
pub verify_stops : {V : Type 0} (P : Trees → V → Type 0) (old new : State) (e : TableFault) (result : Result Bool TableFault) → IsErrAnd result (λ f. f ≡ e) → Looks P old new (Err e) → Verifies old new result
verify_stops P old new e (Ok same) is r = absurd is
verify_stops P old new e (Err f) is r = subst (λ (x : TableFault). Verifies old new (Err x)) (sym is) (stops P old new e r)

-- ── rows that were read ──

-- what was found out of rows: whether they are those of a book
pub record Finds (rows : FileRows) (found : Result Bool Unverified) : Type 0 where
  pub exact : (book : List Entry) → IsBook book → AreTablesOf rows book → MatchResult found (λ same. same ≡ true) (λ e. e ≡ why.Memory)
  pub sound : found ≡ Ok true → (book : List Entry) × IsBook book × AreTablesOf rows book
  pub damaged : (bad : EntryKind) → found ≡ Err (why.Damaged bad) → (put : FileRows) × AreFilePut rows put × (merging [] put.registers.entries.items (all_rows put.registers) ≡ Err (no_book.Damaged bad))
  pub undamaged : IfOk found (λ same. (put : FileRows) × AreFilePut rows put × ((bad : EntryKind) → merging [] put.registers.entries.items (all_rows put.registers) ≢ Err (no_book.Damaged bad)))

both_true : (a b : Bool) → a && b ≡ true → (a ≡ true) × (b ≡ true)
both_true true true is = (refl, refl)
both_true true false is = absurd cc
both_true false b is = absurd cc

true_both : (a b : Bool) → a ≡ true → b ≡ true → a && b ≡ true
true_both true true is also = refl
true_both true false is also = absurd cc
true_both false b is also = absurd cc

-- the table of a kind is one of the layout
kind_there : (bad : EntryKind) → is_at verified_point (table_of bad) ≡ true
kind_there kind.AddAircraft = refl
kind_there _ = refl

module _ (trees : Trees) (at_point : Bool) (rows : FileRows) (told : TellsPoint trees at_point) (stored : AreStored trees rows) where
  exact_by : (found : Result Bool Unverified) → Finds rows found → IfOk (told_rows at_point found) (λ same. Decides same (HasBook trees))
  exact_by (Ok same) f = (
    λ yes. (let each = both_true at_point same yes in
        let book = f.sound (ap Ok each.1) in
        (book.0, tables_given trees rows book.0 stored (told.is.0 each.0) book.1 book.2)),
    λ has. true_both at_point same (told.is.1 (point_given trees has.0 has.1)) (f.exact has.0 has.1.is_book (tables_read trees rows has.0 stored has.1)),
  )
  exact_by (Err e) f = tt

  whole_by : (found : Result Bool Unverified) → Finds rows found → HasBook trees → MatchResult (told_rows at_point found) (λ same. same ≡ true) IsStop
  whole_by (Ok same) f has = true_both at_point same (told.is.1 (point_given trees has.0 has.1)) (f.exact has.0 has.1.is_book (tables_read trees rows has.0 stored has.1))
  whole_by (Err e) f has = rw (f.exact has.0 has.1.is_book (tables_read trees rows has.0 stored has.1)) (inl refl)

  damaged_by : (found : Result Bool Unverified) → Finds rows found → (name : TableName) → told_rows at_point found ≡ Err (fault.Damaged name) → IsDamaged trees name
  damaged_by (Ok same) f name is = absurd cc
  damaged_by (Err why.Memory) f name is = absurd cc
  damaged_by (Err (why.Damaged bad)) f name is =
      let here : table_of bad ≡ name = cc in
      let it = f.damaged bad refl in
      inr (bad, here, record { in_order = record { rows = rows; stored = stored; put = it.0; order = it.1 }; is = it.2 })

  undamaged_by : (found : Result Bool Unverified) → Finds rows found → IfOk (told_rows at_point found) (λ same. IsUndamaged trees)
  undamaged_by (Ok same) f = let it = f.undamaged in record { office = told.read; in_order = record { rows = rows; stored = stored; put = it.0; order = it.1 }; entries = it.2 }
  undamaged_by (Err e) f = tt

cause_by : (at_point : Bool) (found : Result Bool Unverified) → IfErr (told_rows at_point found) IsCause
cause_by at_point (Ok same) = tt
cause_by at_point (Err why.Memory) = inl (inl refl)
cause_by at_point (Err (why.Damaged bad)) = inr (table_of bad, kind_there bad, refl)

-- the answer, where the row of office and all rows were read
pub verify_told : (old new : State) (at_point : Bool) (rows : FileRows) (found : Result Bool Unverified) (result : Result Bool TableFault) → result ≡ told_rows at_point found → Finds rows found
    → Looks (λ trees rows. TellsPoint trees at_point × AreStored trees rows) old new (Ok rows) → Verifies old new result
verify_told old new at_point rows found result is f r =
    subst (Verifies old new) (sym is)
    (record {
      tells = λ clean has. (let read = r.found clean has in
          record {
            exact = exact_by old.now.trees at_point rows read.0 read.1 found f;
            whole = whole_by old.now.trees at_point rows read.0 read.1 found f;
            damaged = damaged_by old.now.trees at_point rows read.0 read.1 found f;
            undamaged = undamaged_by old.now.trees at_point rows read.0 read.1 found f;
          });
      cause = λ clean. cause_by at_point found;
      unchanged = λ clean has. on_read (told_rows at_point found) (r.unchanged clean has);
      inside = λ clean begun. on_read (told_rows at_point found) (r.inside clean begun);
      within = r.within;
    })

-- ── tables beside ──

-- what is told of rows is told of the tables too, where these are known to be those of the layout or not
pub tells_beside : (Is Also : Type 0) (trees : Trees) (alone : Bool) → Decides alone Also → (found : Result Bool TableFault) → Tells Is trees found → Tells (Also × Is) trees (told_file alone found)
tells_beside Is Also trees alone decides (Ok same) t = record {
  exact = (λ yes. (let each = both_true alone same yes in (decides.0 each.0, t.exact.0 each.1)), λ both. true_both alone same (decides.1 both.0) (t.exact.1 both.1));
  whole = λ both. true_both alone same (decides.1 both.0) (t.exact.1 both.1);
  damaged = λ name is. absurd cc;
  undamaged = t.undamaged;
}
tells_beside Is Also trees alone decides (Err e) t = record { exact = tt; whole = λ both. t.whole both.1; damaged = t.damaged; undamaged = tt }

pub cause_beside : (alone : Bool) (found : Result Bool TableFault) → IfErr found IsCause → IfErr (told_file alone found) IsCause
cause_beside alone (Ok same) cause = tt
cause_beside alone (Err e) cause = cause

-- a table that is missing is told as the store's
pub tells_store : (Is : Type 0) (trees : Trees) → Tells Is trees (Err fault.Store)
tells_store Is trees = record { exact = tt; whole = λ is. inr refl; damaged = λ name is. absurd cc; undamaged = tt }
