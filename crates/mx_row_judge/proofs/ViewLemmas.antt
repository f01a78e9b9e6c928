-- What look-ups answer to the judge, and what its questions read of a connection.
use Rattle.std.proofs.Common.{◌≡◌, inl, inr, ◌∙◌, List, Ok, Err, Result, refl, sym, subst, arith}
use Rattle.std.specs.Prelude.{IfOk, OnOk, ⊤}
use Rattle.std.specs.Result.{MatchResult}
use Rattle.sqlite.specs.Store.{Ghosts}
use Rattle.sqlite.specs.Effect.{Database}
use Rattle.sqlite.specs.State.{State, HasCleanDisk}
use Rattle.sqlite.specs.Tree.{Trees}
use Rattle.sqlite.specs.Held.{Held, state}
use Rattle.mx_book.specs.commands.Act.{Entry}
use Rattle.mx_book.specs.Reading.{Answers}
use Rattle.mx_layout.specs.Crash.{IsWithin}
use Rattle.mx_layout.specs.declared.fault.TableFault.{TableFault}
use Rattle.mx_book_tables.specs.stands.Stands.{HasRowsAt}
use Rattle.mx_lookups.specs.numbers.AnyRows.{ReadsAny}
use Rattle.mx_lookups.specs.numbers.Reads.{HasTablesOfRows, Reads, rows_point}
use Rattle.mx_lookups.specs.numbers.Told.{Damage, TellsDamage}
use Rattle.mx_row_judge.specs.Answering.{Only, SpeaksFor}
use Rattle.mx_row_judge.specs.View.{Asks, AskedOn, IsAny, SharesWith, StoppedOn, held, rows_reading}
use Rattle.mx_row_judge.specs.declared.view.Rows.{Rows}
use Rattle.mx_lookups.proofs.NumbersProofs.AnyLemmas.{any_later}
use Rattle.mx_lookups.proofs.NumbersProofs.ReadLemmas.{follows, map_ok, reads_then, stops, told}
use Rattle.mx_lookups.proofs.NumbersProofs.ToldLemmas.{handed, told_later}

module _ {S V : Type 0} (g : Ghosts S) (Is : List Entry → V → Type 0) (start old new : Held S) where
  -- a look-up behind questions, if any
  behind : (result : Result V TableFault) → AskedOn g start old → Reads Is (state g old) (state g new) result → Reads Is (state g start) (state g new) result
  behind result (inl same) r = subst (λ h. Reads Is (state g h) (state g new) result) same r
  behind result (inr more) r = follows (λ book v. ⊤ × Is book v) Is (state g start) (state g new) result (λ book v is both. both.1) (reads_then IsAny Is (state g start) (state g old) (state g new) tt result more r)

-- what is so of any rows behind questions, if any
behind_any : {S V : Type 0} (g : Ghosts S) (Is : Trees → V → Type 0) (start old new : Held S) (result : Result V TableFault) → AskedOn g start old → IsWithin (state g old) (state g new) → ReadsAny Is (state g old) (state g new) result → ReadsAny Is (state g start) (state g new) result
behind_any g Is start old new result (inl same) within r = subst (λ h. ReadsAny Is (state g h) (state g new) result) same r
behind_any g Is start old new (Ok v) (inr more) within r = any_later IsAny Is (state g start) (state g old) (state g new) tt v more within r
behind_any g Is start old new (Err e) (inr more) within r = record { found = λ clean has. tt }

-- a table that is told damaged behind questions, if any
behind_told : {S V : Type 0} (g : Ghosts S) (Of : Damage) (start old new : Held S) (result : Result V TableFault) → AskedOn g start old → IsWithin (state g old) (state g new) → TellsDamage Of (state g old) (state g new) result → TellsDamage Of (state g start) (state g new) result
behind_told g Of start old new result (inl same) within told = subst (λ h. TellsDamage Of (state g h) (state g new) result) same told
behind_told g Of start old new result (inr more) within told = told_later {Of = Of} more within told

-- what was answered, without what it says
any : {V : Type 0} (Is : List Entry → V → Type 0) (old new : State) (v : V) → Reads Is old new (Ok v) → Reads IsAny old new (Ok tt)
any Is old new v r = told Is IsAny old new v tt (λ book is so. tt) r

-- ── rows that are asked ──

module _ {S Q A : Type 0} (g : Ghosts S) (AnswersAs : Trees → List Entry → Type 0) (Of : Damage) (what : List Entry → A) (old new : Rows S Q) (result : Result A TableFault) where
  -- a look-up answers a question
  pub answers_by : (Is : Trees → A → Type 0) → ((trees : Trees) (book : List Entry) → AnswersAs trees book → Only Is trees (what book)) → SharesWith old new → Reads (λ book a. a ≡ what book) (state g (held old)) (state g (held new)) result
      → ReadsAny Is (state g (held old)) (state g (held new)) result → TellsDamage Of (state g (held old)) (state g (held new)) result → Answers (rows_reading g AnswersAs Of) old new result what
  answers_by Is only shares r any_rows damage = record {
    asked = λ start before. goes start before result (behind g (λ book a. a ≡ what book) (held start) (held old) (held new) result before.1 r) (behind_told g Of (held start) (held old) (held new) result before.1 r.within damage);
    clean = λ clean. ok result (omega (arith, r.within.survives.clean));
    exact = λ start book speaks before clean. so start book before clean speaks;
  }
    where
      so : (start : Rows S Q) (book : List Entry) → (rows_reading g AnswersAs Of).Asked start old → HasCleanDisk (state g (held new)) → SpeaksFor AnswersAs (state g (held start)) book → IfOk result (λ a. a ≡ what book)
      so start book before clean speaks =
          let trees = (state g (held start)).now.trees in
          map_ok (Is trees) (λ a. a ≡ what book) result (only trees book speaks.answers) ((behind_any g Is (held start) (held old) (held new) result before.1 r.within any_rows).found clean speaks.schema)

      goes : (start : Rows S Q) → (rows_reading g AnswersAs Of).Asked start old → (it : Result A TableFault) → Reads (λ book a. a ≡ what book) (state g (held start)) (state g (held new)) it
          → TellsDamage Of (state g (held start)) (state g (held new)) it → MatchResult it (λ a. (rows_reading g AnswersAs Of).Asked start new) ((rows_reading g AnswersAs Of).Stopped start new)
      goes start before (Ok a) whole damage = (record { tx = shares.tx ∙ before.0.tx; conn = shares.conn ∙ before.0.conn }, inr (any _ _ _ a whole))
      goes start before (Err e) whole damage = (record { tx = shares.tx ∙ before.0.tx; conn = shares.conn ∙ before.0.conn }, record { reads = stops _ IsAny _ _ e whole; damage = handed (λ _ _ it. it) refl damage })

      ok : {P : Type 0} (it : Result A TableFault) → P → OnOk it P
      ok (Ok a) p = p
      ok (Err e) p = tt

-- rows that were not asked yet
pub unasked : {S Q : Type 0} (g : Ghosts S) (AnswersAs : Trees → List Entry → Type 0) (Of : Damage) (rows : Rows S Q) → (rows_reading g AnswersAs Of).Asked rows rows
unasked g AnswersAs Of rows = (record { tx = refl; conn = refl }, inl refl)

module _ {S Q A : Type 0} (g : Ghosts S) (AnswersAs : Trees → List Entry → Type 0) (Of : Damage) (what : List Entry → A) (old new : Rows S Q) where
  -- questions stay in the transaction
  pub shares_by : (result : Result A TableFault) → Answers (rows_reading g AnswersAs Of) old new result what → SharesWith old new
  shares_by (Ok a) q = (q.asked old (unasked g AnswersAs Of old)).0
  shares_by (Err e) q = (q.asked old (unasked g AnswersAs Of old)).0

  -- and what is answered to them is so of the book
  pub asks_by : (result : Result A TableFault) → Answers (rows_reading g AnswersAs Of) old new result what → Asks g AnswersAs Of (λ book a. a ≡ what book) (held old) (held new) result
  asks_by (Ok a) q = record { asked = (q.asked old (unasked g AnswersAs Of old)).1; exact = λ clean book speaks. q.exact old book speaks (unasked g AnswersAs Of old) clean }
  asks_by (Err e) q = record { asked = (q.asked old (unasked g AnswersAs Of old)).1; exact = λ clean book speaks. tt }

-- ── questions behind a look-up ──

module _ {S V W : Type 0} (g : Ghosts S) (AnswersAs : Trees → List Entry → Type 0) (Of : Damage) (P : List Entry → W → Type 0) (Is : List Entry → V → Type 0) (start old new : Held S) (w : W) (one : Reads P (state g start) (state g old) (Ok w)) where
  -- the disk that is clean behind them was so before
  clean_before : (result : Result V TableFault) → MatchResult result (λ v. AskedOn g old new) (StoppedOn g Of old new) → HasCleanDisk (state g new) → HasCleanDisk (state g old)
  clean_before (Ok v) (inl same) clean = subst (λ h. HasCleanDisk (state g h)) same clean
  clean_before (Ok v) (inr more) clean = omega (arith, clean, more.within.survives.clean)
  clean_before (Err e) stop clean = omega (arith, clean, stop.reads.within.survives.clean)

  -- the look-up changed nothing, so the rows answer as they did
  speaks_there : (result : Result V TableFault) → Asks g AnswersAs Of Is old new result → HasCleanDisk (state g new) → (book : List Entry) → SpeaksFor AnswersAs (state g start) book → SpeaksFor AnswersAs (state g old) book
  speaks_there result asks clean book speaks =
      let same = one.unchanged (clean_before result asks.asked clean) speaks.schema in
      record { schema = subst (λ (d : Database). HasTablesOfRows d.schema) (sym same) speaks.schema; answers = subst (λ (d : Database). AnswersAs d.trees book) (sym same) speaks.answers }

  -- what they leave
  frame : AskedOn g old new → Reads IsAny (state g start) (state g new) (Ok tt)
  frame (inl same) = subst (λ h. Reads IsAny (state g start) (state g h) (Ok tt)) (sym same) (any P (state g start) (state g old) w one)
  frame (inr more) = any (λ book u. P book w × IsAny book u) (state g start) (state g new) tt (reads_then P IsAny (state g start) (state g old) (state g new) w (Ok tt) one more)

  -- what comes of them is so of each book as which the rows answer
  pub asked_any : (result : Result V TableFault) → Asks g AnswersAs Of Is old new result → ReadsAny (λ trees v. (book : List Entry) → AnswersAs trees book → Is book v) (state g start) (state g new) result
  asked_any (Err e) asks = record { found = λ clean has. tt }
  asked_any (Ok v) asks = record { found = λ clean has book answers. asks.exact clean book (speaks_there (Ok v) asks clean book (record { schema = has; answers = answers })) }

  -- a table that they tell damaged is so of the rows before them
  pub asked_damage : (result : Result V TableFault) → Asks g AnswersAs Of Is old new result → TellsDamage Of (state g start) (state g new) result
  asked_damage (Ok v) asks = record { told = λ clean has name is. absurd cc }
  asked_damage (Err e) asks = handed (λ _ _ it. it) refl (told_later {Of = Of} one asks.asked.reads.within asks.asked.damage)

  -- and so of the one that the tables stand for, where rows of such tables answer as it does
  pub asked_then : ((trees : Trees) (book : List Entry) → HasRowsAt rows_point trees book → AnswersAs trees book) → (result : Result V TableFault) → Asks g AnswersAs Of Is old new result → Reads Is (state g start) (state g new) result
  asked_then standing (Err e) asks = stops IsAny Is _ _ e (follows (λ book u. P book w × IsAny book u) IsAny _ _ (Err e) (λ book v is so. tt) (reads_then P IsAny (state g start) (state g old) (state g new) w (Err e) one asks.asked.reads))
  asked_then standing (Ok v) asks = answered (frame asks.asked)
    where
      answered : Reads IsAny (state g start) (state g new) (Ok tt) → Reads Is (state g start) (state g new) (Ok v)
      answered r = record {
        read = λ clean book stands. (asked_any (Ok v) asks).found clean stands.schema book (standing (state g start).now.trees book stands.rows);
        cause = tt;
        no_book = λ clean name is. absurd cc;
        damaged = λ clean has name is. absurd cc;
        unchanged = r.unchanged;
        inside = r.inside;
        within = r.within;
      }
