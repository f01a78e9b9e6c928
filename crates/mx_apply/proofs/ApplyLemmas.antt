-- What becomes of a command inside a transaction.
use Rattle.std.proofs.Common.{◌≡◌, inl, inr, true, ℕ, List, ◌+◌, length, Ok, Err, Result, IsTrue, refl, sym, ap, subst, ◌∙◌, arith}
use Rattle.std.specs.Prelude.{Contains, IsErrAnd}
use Rattle.sqlite.specs.Schema.{Schema}
use Rattle.sqlite.specs.Effect.{Database}
use Rattle.sqlite.specs.State.{State, HasCleanDisk}
use Rattle.sqlite.specs.Tree.{Trees}
use Rattle.mx_book.specs.commands.Act.{Entry}
use Rattle.mx_book.specs.commands.Shape.{has_shape}
use Rattle.mx_book.specs.Run.{reply, reply_to}
use Rattle.mx_book.specs.declared.verdict.Reply.{Reply}
use Rattle.mx_book.specs.declared.verdict.Reply.TheVariants as answers
use Rattle.mx_base.specs.declared.rows.rows.EntryRow.{EntryRow}
use Rattle.mx_row_rules.specs.declared.changes.rows.CommandRows.{CommandRows}
use Rattle.mx_layout.specs.TableName.{TableName}
use Rattle.mx_layout.specs.declared.fault.TableFault.{TableFault}
use Rattle.mx_layout.specs.declared.fault.TableFault.TheVariants as fault
use Rattle.mx_layout.specs.Crash.{StaysInside}
use Rattle.mx_layout.specs.Names.{table_named}
use Rattle.mx_layout.proofs.CrashLemmas.{stays_then, within_then}
use Rattle.mx_tables.specs.Calls.{OnRead}
use Rattle.mx_tables.specs.inserts.Sets.{GainsRows, IsInside}
use Rattle.mx_lookups.specs.numbers.AnyRows.{ReadsAny}
use Rattle.mx_lookups.specs.numbers.Reads.{HasTablesOfRows, IsStop, Reads, StandsFor}
use Rattle.mx_apply.specs.writing.Changes.{AllRise, WritesRows}
use Rattle.mx_apply.specs.writing.Written.{IsSettled, with_rows}
use Rattle.mx_apply.proofs.WritingProofs.StandLemmas.{stand}
use Rattle.mx_apply.specs.Applies.{IsNoDamage, ReplyOf, Runs, StandsIn, Wrote, behind}
use Rattle.mx_apply.specs.Judged.{IsJudged, JudgedOf}
use Rattle.mx_apply.specs.declared.judged.Judged.{Judged}
use Rattle.mx_apply.specs.declared.judged.Judged.TheVariants.{New, Already, Refused}

-- the rowids of tables that stand for a book rise
all_rise : (schema : Schema) (db : Database) (book : List Entry) → db.schema ≡ schema → StandsIn schema db.trees book → AllRise db
all_rise schema db book has stands = λ name at. stands.lies.rises name (subst (λ (s : Schema). Contains s.tables (table_named name)) has at)

-- a stop that tells no damage
sure : (e : TableFault) → IsStop e → ((name : TableName) → e ≡ fault.Damaged name → ⊥) → IsNoDamage e
sure e (inl memory) never = inl memory
sure e (inr (inl store)) never = inr store
sure e (inr (inr damaged)) never = absurd (never damaged.0 damaged.1)

-- the tables stand for the book, of which the rows are known
abbrev stands_for : (schema : Schema) → IsSettled schema → (s : State) (book : List Entry) → s.now.schema ≡ schema → StandsIn schema s.now.trees book → StandsFor s book
stands_for schema is s book has stands = record { schema = subst HasTablesOfRows (sym has) is.tables; rows = stands.rows }

module _ (command : Entry) (old mid : State) where
  -- the call did not answer
  pub unread : (e : TableFault) → Reads {V = Judged} (IsJudged command) old mid (Err e) → Runs command old mid (Err e)
  unread e r = record {
    judged = λ _ _. tt;
    damaged = λ clean has name is. (let same : e ≡ fault.Damaged name = cc in r.damaged clean has name (ap Err same));
    ran = λ clean begun schema settled book has stands. sure e r.cause (λ name is. r.no_book clean name (ap Err is) book (stands_for schema settled old book has stands));
    wrote = λ _ _. tt;
    cause = r.cause;
    inside = r.inside;
    within = r.within;
  }

  -- the command is not new
  module _ (j : Judged) (r : Reads (IsJudged command) old mid (Ok j)) (any : ReadsAny (JudgedOf command) old mid (Ok j)) where
    told : (a : Reply) → ((trees : Trees) → JudgedOf command trees j → ReplyOf command trees a) → ((book : List Entry) → IsJudged command book j → a ≡ reply book command) → ((book : List Entry) → behind book command a ≡ book) → Wrote command a old mid → Runs command old mid (Ok a)
    told a by says same_book wrote = record {
      judged = λ clean has. by old.now.trees (any.found clean has);
      damaged = λ _ _ name is. cc;
      ran = λ clean begun schema settled book has stands.
          let for = stands_for schema settled old book has stands in
          let same = r.unchanged clean for.schema in (
            says book (r.read clean book for),
            ap (λ (d : Database). d.schema) same ∙ has,
            subst (λ b. StandsIn schema mid.now.trees b) (sym (same_book book)) (subst (λ (d : Database). StandsIn schema d.trees book) (sym same) stands),
          );
      wrote = λ _ _. wrote;
      cause = tt;
      inside = r.inside;
      within = r.within;
    }

  pub already : (seq : ℕ) → Reads (IsJudged command) old mid (Ok (Already seq)) → ReadsAny (JudgedOf command) old mid (Ok (Already seq)) → Runs command old mid (Ok (answers.Already seq))
  already seq r any = told (Already seq) r any (answers.Already seq) (λ trees it. it.by) (λ book is. sym (ap (reply_to (length book + 1)) is)) (λ _. refl) tt

  pub refused : (refusal : _) → Reads (IsJudged command) old mid (Ok (Refused refusal)) → ReadsAny (JudgedOf command) old mid (Ok (Refused refusal)) → Runs command old mid (Ok (answers.Refused refusal))
  refused refusal r any = told (Refused refusal) r any (answers.Refused refusal) (λ trees it. it.by) (λ book is. sym (ap (reply_to (length book + 1)) is)) (λ _. refl) tt

  -- it is new
  module _ (x : CommandRows) (r : Reads (IsJudged command) old mid (Ok (New x))) (any : ReadsAny (JudgedOf command) old mid (Ok (New x))) (new : State) where
    begun_too : HasCleanDisk mid → IsTrue old.in_transaction → IsTrue mid.in_transaction
    begun_too clean begun = (r.inside clean begun).mode

    -- its rows were not written
    pub unwritten : {U : Type 0} (e : TableFault) → e ≡ fault.Store → WritesRows {V = U} IsSettled (with_rows x) mid new (Err e) → Runs command old new (Err e)
    unwritten e store w = record {
      judged = λ _ _. tt;
      damaged = λ _ _ name is. (let same : fault.Store ≡ fault.Damaged name = sym store ∙ (cc) in cc);
      ran = λ _ _ _ _ _ _ _. inr store;
      wrote = λ _ _. tt;
      cause = inr (inl store);
      inside = λ _ _. subst (λ f. OnRead {T = Reply} (Err f) (StaysInside old new)) (sym store) tt;
      within = within_then old mid new r.within begun_too w.within;
    }

    -- they were
    module _ {U : Type 0} (u : U) (shape : has_shape command ≡ true) (w : WritesRows {V = U} IsSettled (with_rows x) mid new (Ok u)) (opens : HasCleanDisk new → IsTrue mid.in_transaction → IsTrue mid.is_open) where
      early : HasCleanDisk new → HasCleanDisk mid
      early clean = omega (arith, w.within.survives.clean)

      inside_mid : HasCleanDisk new → IsTrue old.in_transaction → IsInside mid
      inside_mid clean begun = (let within = begun_too (early clean) begun in (within, opens clean within))

      gains : HasCleanDisk new → IsTrue old.in_transaction → IsSettled old.now.schema → AllRise old.now → GainsRows (with_rows x) old.now new.now
      gains clean begun has rise =
          let same = r.unchanged (early clean) has.tables in
          subst (λ (d : Database). GainsRows (with_rows x) d new.now) same
          (w.gains clean (inside_mid clean begun) (subst (λ (d : Database). IsSettled d.schema) (sym same) has) (subst AllRise (sym same) rise))

      pub written : Runs command old new (Ok (answers.Accepted x.entry.seq))
      written = record {
        judged = λ clean has. (any.found (early clean) has).by;
        damaged = λ _ _ name is. cc;
        ran = λ clean begun schema settled book has stands.
            let said = r.read (early clean) book (stands_for schema settled old book has stands) in
            let number : x.entry.seq ≡ length book + 1 = ap (λ (row : EntryRow). row.seq) said.1.entry in
            let made = stand book command x said.1 stands.rows.is_book said.0 shape schema settled old.now new.now has stands (gains clean begun (subst IsSettled (sym has) settled) (all_rise schema old.now book has stands)) in
            (ap answers.Accepted number ∙ sym (ap (reply_to (length book + 1)) said.0), made.0, made.1);
        wrote = λ clean begun. (x, λ has. (any.found (early clean) has).rows, refl, gains clean begun);
        cause = tt;
        inside = λ clean begun. stays_then old mid new (r.inside (early clean) begun) (w.inside clean (inside_mid clean begun));
        within = within_then old mid new r.within begun_too w.within;
      }

-- a fault that is handed on
pub handed_on : {V : Type 0} (P : Result V TableFault → Type 0) (e : TableFault) (r : Result V TableFault) → IsErrAnd r (λ f. f ≡ e) → P (Err e) → P r
handed_on P e (Ok v) is p = absurd is
handed_on P e (Err f) is p = subst (λ fault. P (Err fault)) (sym is) p
