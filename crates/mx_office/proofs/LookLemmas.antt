-- What is looked up in a transaction that is dropped, and the question that it answers.
use Rattle.std.proofs.Common.{◌≡◌, ◌≢◌, ◌⊎◌, inl, inr, true, refl, sym, ap, subst, ◌∙◌, arith, IsTrue, List, Option, Some, None, Result, Ok, Err}
use Rattle.std.specs.Prelude.{ok_or, IfErr, IfOk, MatchResult}
use Rattle.sqlite.specs.Held.{Held, state}
use Rattle.sqlite.specs.Schema.{Schema}
use Rattle.sqlite.specs.State.{HasCleanDisk, Survives, IsRolledBack}
use Rattle.sqlite.specs.Store.{Ghosts}
use Rattle.sqlite.specs.Tree.{Trees}
use Rattle.sqlite.proofs.Callers.{survives_begin}
use Rattle.sqlite.proofs.StateLemmas.{survives_then}
use Rattle.mx_book.specs.commands.Act.{Entry}
use Rattle.mx_book.specs.declared.commands.item.Item.{Item}
use Rattle.mx_base.specs.declared.amounts.Use.{Use}
use Rattle.mx_book.specs.Life.{life_now}
use Rattle.mx_book.specs.declared.verdict.Refusal.{Refusal}
use Rattle.mx_layout.specs.TableName.{TableName}
use Rattle.mx_layout.specs.Crash.{ChangesNothing, IsWithin, StaysInside}
use Rattle.mx_layout.specs.declared.fault.TableFault.{TableFault}
use Rattle.mx_layout.specs.declared.fault.TableFault.TheVariants as table
use Rattle.mx_tables.specs.Calls.{OnDamaged, OnRead}
use Rattle.mx_lookups.specs.numbers.AnyRows.{ReadsAny}
use Rattle.mx_lookups.specs.numbers.Damage.{IsDamaged}
use Rattle.mx_lookups.specs.numbers.Reads.{IsStop, Reads, StandsFor}
use Rattle.mx_lookups.specs.numbers.Told.{Damage, TellsDamage}
use Rattle.mx_row_questions.specs.entries.Damage.{ReadsOr, Refuses}
use Rattle.mx_row_questions.specs.lists.Answering.{AnswerListsAs}
use Rattle.mx_row_questions.specs.lists.Listing.{unknown, LifeAnswered}
use Rattle.mx_apply.specs.Applies.{IsNoDamage}
use Rattle.mx_office.specs.Faults.{call_answer, fault_from, found_or, question_answer, IsAnswer}
use Rattle.mx_office.specs.Looks.{LooksUp, IsFound, IsFoundIn}
use Rattle.mx_office.specs.Office.{office_state}
use Rattle.mx_office.specs.Questions.{AnswersDamage, IsAnsweredBy}
use Rattle.mx_apply.specs.writing.Written.{IsSettled}
use Rattle.mx_office.specs.Stands.{RestsIn}
use Rattle.mx_faults.specs.declared.fault.Ask.TheVariants.{Failed}
use Rattle.mx_faults.specs.declared.fault.Fault.{Fault}
use Rattle.mx_faults.specs.declared.fault.Fault.TheVariants.{Memory, Store, Damaged}
use Rattle.mx_office.specs.declared.office.Office.{Office}
use Rattle.mx_office.proofs.ReplyLemmas.{damage_from}
use Rattle.mx_office.proofs.StandsLemmas.{rests_found}

-- ── the transaction ──

module _ {S : Type 0} (g : Ghosts S) (old last end : Held S) (drop : Survives (state g last) (state g end) (λ _. ⊥)) (back : HasCleanDisk (state g end) → IsRolledBack (state g last) (state g end)) where
  abbrev begun : Held S
  begun = record old { in_transaction = true }

  mid : HasCleanDisk (state g end) → HasCleanDisk (state g last)
  mid clean = omega (arith, drop.clean)

  nothing_within : IsWithin (state g begun) (state g last) → ChangesNothing (state g old) (state g end)
  nothing_within within = record {
    survives = survives_begin g old (state g end) (λ _. ⊥) (survives_then (state g begun) (state g last) (state g end) (λ _. ⊥) (λ _. ⊥) (λ _. ⊥) (λ _ _ none. none) (λ _ _ none. none) within.survives drop);
    was_open = λ clean is_open. (within.kept (mid clean) refl).was_open ((back clean).was_open is_open);
    now_is = λ clean is_open. ((back clean).undone is_open).0 ∙ (within.kept (mid clean) refl).committed ((back clean).was_open is_open);
    committed_is = λ clean is_open. ((back clean).undone is_open).1 ∙ (within.kept (mid clean) refl).committed ((back clean).was_open is_open);
  }

  -- what the tables stand for as it begins
  begun_found : (schema : Schema) → IsSettled schema → (book : List Entry) → RestsIn schema (state g old) book → HasCleanDisk (state g old) → IsTrue (state g old).is_open → StandsFor (state g begun) book
  begun_found schema settled book rests clean is_open = let it = rests_found schema settled (state g old) book rests clean is_open in record { schema = it.schema; rows = it.rows }

  module _ {V : Type 0} (Is : List Entry → V → Type 0) (IsOfRows : Trees → V → Type 0) where
    -- what is so of a book, where the call found the connection open if it answered
    over_book : (within : IsWithin (state g begun) (state g last)) → (result : Result V TableFault) → IfErr result IsStop → (HasCleanDisk (state g last) → OnRead result (StaysInside (state g begun) (state g last)))
        → (HasCleanDisk (state g last) → (book : List Entry) → StandsFor (state g begun) book → IfOk result (Is book))
        → (HasCleanDisk (state g last) → (name : TableName) → result ≡ Err (table.Damaged name) → (book : List Entry) → StandsFor (state g begun) book → ⊥)
        → (schema : Schema) → IsSettled schema → (book : List Entry) → RestsIn schema (state g old) book → HasCleanDisk (state g end) → MatchResult result (Is book) IsNoDamage
    over_book within (Ok v) cause inside read whole schema settled book rests clean =
        let early : HasCleanDisk (state g old) = omega (arith, drop.clean, within.survives.clean) in
        read (mid clean) book (begun_found schema settled book rests early (inside (mid clean)).was_open)
    over_book within (Err e) (inl memory) inside read whole schema settled book rests clean = inl memory
    over_book within (Err e) (inr (inl store)) inside read whole schema settled book rests clean = inr store
    over_book within (Err e) (inr (inr damaged)) inside read whole schema settled book rests clean =
        let early : HasCleanDisk (state g old) = omega (arith, drop.clean, within.survives.clean) in
        let opened = (subst (λ f. OnDamaged f (StaysInside (state g begun) (state g last))) damaged.1 (inside (mid clean))).was_open in
        absurd (whole (mid clean) damaged.0 (ap Err damaged.1) book (begun_found schema settled book rests early opened))

    found_open : (result : Result V TableFault) → OnRead result (StaysInside (state g begun) (state g last)) → OnRead result (IsTrue (state g old).is_open)
    found_open (Ok v) stays = stays.was_open
    found_open (Err table.Memory) stays = tt
    found_open (Err table.Store) stays = tt
    found_open (Err table.NotOurs) stays = tt
    found_open (Err table.Exists) stays = tt
    found_open (Err (table.Damaged name)) stays = stays.was_open

    module _ (result : Result V TableFault) (any : ReadsAny IsOfRows (state g begun) (state g last) result) where
      pub looks_up : Reads Is (state g begun) (state g last) result → LooksUp Is IsOfRows IsDamaged (state g old) (state g end) result
      looks_up reads = record {
        untouched = nothing_within reads.within;
        cause = reads.cause;
        was_open = λ clean. found_open result (reads.inside (mid clean) refl);
        of_book = over_book reads.within result reads.cause (λ clean. reads.inside clean refl) reads.read reads.no_book;
        of_rows = λ clean has. any.found (mid clean) has;
        damaged = λ clean has. reads.damaged (mid clean) has;
      }

      -- a table was told damaged for a reason of its own
      looks_wider : (Why : TableName → Trees → Type 0) → LooksUp Is IsOfRows IsDamaged (state g old) (state g end) result → LooksUp Is IsOfRows (λ name trees. IsDamaged name trees ⊎ Why name trees) (state g old) (state g end) result
      looks_wider Why looks = record { untouched = looks.untouched; cause = looks.cause; was_open = looks.was_open; of_book = looks.of_book; of_rows = looks.of_rows; damaged = λ clean has name is. inl (looks.damaged clean has name is) }

      refused_stop : (name : TableName) → result ≡ Err (table.Damaged name) → IfErr result IsStop
      refused_stop name told = subst (λ (r : Result V TableFault). IfErr r IsStop) (sym told) (inr (inr (name, refl)))

      looks_refused : (Why : TableName → Trees → Type 0) → Refuses Why (state g begun) (state g last) result → LooksUp Is IsOfRows (λ name trees. IsDamaged name trees ⊎ Why name trees) (state g old) (state g end) result
      looks_refused Why refused =
          let stays : HasCleanDisk (state g last) → OnRead result (StaysInside (state g begun) (state g last)) =
          λ clean. subst (λ (r : Result V TableFault). OnRead r (StaysInside (state g begun) (state g last))) (sym refused.told) (refused.asked.inside clean refl) in
          record {
            untouched = nothing_within refused.asked.within;
            cause = refused_stop refused.name refused.told;
            was_open = λ clean. found_open result (stays (mid clean));
            of_book = over_book refused.asked.within result (refused_stop refused.name refused.told) stays (λ clean book stands. absurd (refused.asked.read clean book stands)) (λ clean _ _ book stands. refused.asked.read clean book stands);
            of_rows = λ clean has. any.found (mid clean) has;
            damaged = λ clean has name is. inr (let same : refused.name ≡ name = same_name refused.name name (sym refused.told ∙ is) in subst (λ n. Why n (state g begun).now.trees) same (refused.why (mid clean) has));
          }
        where
          same_name : (one other : TableName) → ◌≡◌ {A = Result V TableFault} (Err (table.Damaged one)) (Err (table.Damaged other)) → one ≡ other
          same_name one other is = cc

      pub looks_up_or : (Why : TableName → Trees → Type 0) → ReadsOr Why Is (state g begun) (state g last) result → LooksUp Is IsOfRows (λ name trees. IsDamaged name trees ⊎ Why name trees) (state g old) (state g end) result
      looks_up_or Why (inl reads) = looks_wider Why (looks_up reads)
      looks_up_or Why (inr refused) = looks_refused Why refused

  -- a table is told for what is so of the rows that there were before
  pub tells_up : {V : Type 0} {Of : Damage} (result : Result V TableFault) → TellsDamage Of (state g begun) (state g last) result → TellsDamage Of (state g old) (state g end) result
  tells_up result tells = record { told = λ clean has. tells.told (mid clean) has }

-- the same, of the transaction that was begun and of what was given back
module _ {S : Type 0} (g : Ghosts S) (old tx last end given : Held S) (starts : tx ≡ record old { in_transaction = true }) (same : end ≡ given) (drop : Survives (state g last) (state g end) (λ _. ⊥)) (back : HasCleanDisk (state g end) → IsRolledBack (state g last) (state g end))
    {V : Type 0} {Is : List Entry → V → Type 0} {IsOfRows : Trees → V → Type 0} (result : Result V TableFault) (any : ReadsAny IsOfRows (state g tx) (state g last) result) where
  pub looked : Reads Is (state g tx) (state g last) result → LooksUp Is IsOfRows IsDamaged (state g old) (state g given) result
  looked reads =
      subst (λ (h : Held S). LooksUp Is IsOfRows IsDamaged (state g old) (state g h) result) same
      (looks_up g old last end drop back Is IsOfRows result (subst (λ (h : Held S). ReadsAny IsOfRows (state g h) (state g last) result) starts any) (subst (λ (h : Held S). Reads Is (state g h) (state g last) result) starts reads))

  pub looked_or : {Why : TableName → Trees → Type 0} → ReadsOr Why Is (state g tx) (state g last) result → LooksUp Is IsOfRows (λ name trees. IsDamaged name trees ⊎ Why name trees) (state g old) (state g given) result
  looked_or {Why = Why} reads =
      subst (λ (h : Held S). LooksUp Is IsOfRows (λ name trees. IsDamaged name trees ⊎ Why name trees) (state g old) (state g h) result) same
      (looks_up_or g old last end drop back Is IsOfRows result (subst (λ (h : Held S). ReadsAny IsOfRows (state g h) (state g last) result) starts any) Why (subst (λ (h : Held S). ReadsOr Why Is (state g h) (state g last) result) starts reads))

-- so of what it tells damaged
pub tells_looked : {S : Type 0} (g : Ghosts S) (old tx last end given : Held S) → tx ≡ record old { in_transaction = true } → end ≡ given → Survives (state g last) (state g end) (λ _. ⊥) → (HasCleanDisk (state g end) → IsRolledBack (state g last) (state g end))
    → {V : Type 0} {Of : Damage} (result : Result V TableFault) → TellsDamage Of (state g tx) (state g last) result → TellsDamage Of (state g old) (state g given) result
tells_looked g old tx last end given starts same drop back {Of = Of} result tells =
    subst (λ (h : Held _). TellsDamage Of (state g old) (state g h) result) same (tells_up g old last end drop back result (subst (λ (h : Held _). TellsDamage Of (state g h) (state g last) result) starts tells))

-- ── what a call answers ──

-- damage is told as the tables tell it
pub call_damaged : {X : Type 0} (found : Result X TableFault) (name : TableName) → call_answer found ≡ Err (Damaged name) → found ≡ Err (table.Damaged name)
call_damaged (Ok x) name same = cc
call_damaged (Err e) name same = ap Err (damage_from e name (cc))

question_damaged : {X : Type 0} (found : Result (Result X Refusal) TableFault) (name : TableName) → question_answer found ≡ Err (Failed (Damaged name)) → found ≡ Err (table.Damaged name)
question_damaged (Ok (Ok x)) name same = cc
question_damaged (Ok (Err refusal)) name same = cc
question_damaged (Err e) name same = ap Err (damage_from e name (cc))

stops_as : (e : TableFault) → IsNoDamage e → (fault_from e ≡ Memory) ⊎ (fault_from e ≡ Store)
stops_as e (inl memory) = inl (ap fault_from memory)
stops_as e (inr store) = inr (ap fault_from store)

-- of a book, memory or the store alone are answered in place of what was looked up
pub call_of_book : {X : Type 0} (Is : X → Type 0) (found : Result X TableFault) → MatchResult found Is IsNoDamage → MatchResult (call_answer found) Is (λ fault. (fault ≡ Memory) ⊎ (fault ≡ Store))
call_of_book Is (Ok x) is = is
call_of_book Is (Err e) is = stops_as e is

-- ── a list or a life that was looked up ──

module _ {S : Type 0} {g : Ghosts S} {X : Type 0} (old new : Office S g) (refusal : Refusal) (what : List Entry → Option X) (found : Result (Result X Refusal) TableFault) {IsOfRows : Trees → Result X Refusal → Type 0}
    (looks : LooksUp (IsFound refusal what) IsOfRows IsDamaged (office_state old) (office_state new) found) where
  or_refused : (o : Option X) → question_answer (Ok (ok_or o refusal)) ≡ found_or refusal o
  or_refused None = refl
  or_refused (Some x) = refl

  match_question : (book : List Entry) (r : Result (Result X Refusal) TableFault) → MatchResult r (IsFound refusal what book) IsNoDamage → IsAnswer (found_or refusal (what book)) (question_answer r)
  match_question book (Ok answer) is = inl (ap (λ a. question_answer (Ok a)) is ∙ or_refused (what book))
  match_question book (Err e) is = elim (stops_as e is) [ inl memory ↦ inr (inl (ap (λ f. Err (Failed f)) memory)) | inr store ↦ inr (inr (ap (λ f. Err (Failed f)) store)) ]

  sound_question : (trees : Trees) → ((answer : Result X Refusal) → IsOfRows trees answer → IsFoundIn refusal what trees answer) → (r : Result (Result X Refusal) TableFault) → IfOk r (IsOfRows trees) → ((fault : Fault) → question_answer r ≢ Err (Failed fault))
      → (book : List Entry) → AnswerListsAs trees book → question_answer r ≡ found_or refusal (what book)
  sound_question trees says (Ok answer) is goes book as_book = ap (λ a. question_answer (Ok a)) (says answer is book as_book) ∙ or_refused (what book)
  sound_question trees says (Err e) is goes book as_book = absurd (goes (fault_from e) refl)

  pub question_answered : ((answer : Result X Refusal) → IsOfRows (office_state old).now.trees answer → IsFoundIn refusal what (office_state old).now.trees answer) → IsAnsweredBy (λ book. found_or refusal (what book)) old new (question_answer found)
  question_answered says = record {
    exact = λ schema settled book _ rests clean. match_question book found (looks.of_book schema settled book rests clean);
    sound = λ clean has goes. sound_question (office_state old).now.trees says found (looks.of_rows clean has) goes;
    damaged = λ clean has name same. looks.damaged clean has name (question_damaged found name same);
  }

-- a table that it tells damaged is answered so for the same reason
pub damage_answered : {S : Type 0} {g : Ghosts S} {X : Type 0} (old new : Office S g) (found : Result (Result X Refusal) TableFault) {Why : Damage} → TellsDamage Why (office_state old) (office_state new) found → AnswersDamage Why old new (question_answer found)
damage_answered old new found tells = record { told = λ clean has name same. tells.told clean has name (question_damaged found name same) }

-- the life that rows give is that of each book as which they answer
pub life_says : (item : Item) (trees : Trees) (answer : Result Use Refusal) → LifeAnswered item trees answer → IsFoundIn (unknown item) (λ book. life_now book item) trees answer
life_says item trees answer it book as_book = it.2 ∙ ap (λ o. ok_or o (unknown item)) (as_book.life item it.0 it.1)
