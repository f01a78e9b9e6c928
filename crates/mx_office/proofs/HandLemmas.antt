-- Commands that are handed in to tables, one after the other: one more, and the one at which a run stops.
use Rattle.std.proofs.Common.{◌≡◌, ◌≢◌, ◌⊎◌, inl, inr, ◌+◌, ◌≤◌, ◌<◌, ℕ, refl, sym, ap, subst, ◌∙◌, arith, IsTrue, List, [], ◌∷◌, ◌++◌, length, take, Option, Some, None, Result, Ok, Err, get_or}
use Rattle.std.proofs.Math.Nat.{le_refl}
use Rattle.std.proofs.Math.Seq.{take-length}
use Rattle.std.proofs.lemmas.List.{length-append, take-append-le, take_more}
use Rattle.sqlite.specs.Effect.{Database}
use Rattle.sqlite.specs.Schema.{Schema}
use Rattle.sqlite.specs.State.{State, HasCleanDisk, Survives}
use Rattle.sqlite.specs.Tree.{Trees}
use Rattle.sqlite.proofs.StateLemmas.{survives_then}
use Rattle.mx_book.specs.commands.Act.{Entry}
use Rattle.mx_book.specs.Run.{book_after, book_run, reply, replies}
use Rattle.mx_book.specs.declared.verdict.Reply.{Reply}
use Rattle.mx_book.specs.declared.verdict.Reply.TheVariants.{Accepted, Already, Refused}
use Rattle.mx_book.proofs.GrowthLemmas.{book_run-append, replies-append}
use Rattle.mx_layout.specs.TableName.{TableName}
use Rattle.mx_layout.specs.Crash.{ChangesNothing}
use Rattle.mx_layout.specs.declared.fault.TableFault.{TableFault}
use Rattle.mx_layout.specs.declared.fault.TableFault.TheVariants as table
use Rattle.mx_tables.specs.Calls.{OnRead}
use Rattle.mx_apply.specs.writing.Changes.{AllRise}
use Rattle.mx_apply.specs.writing.Written.{IsSettled}
use Rattle.mx_office.specs.Layout.{office_point}
use Rattle.mx_apply.specs.Applies.{HasOneCommit, behind}
use Rattle.mx_office.specs.Calls.{replies_in, stop_in, HandsIn, RunsOver}
use Rattle.mx_office.specs.Faults.{call_answer, fault_from}
use Rattle.mx_office.specs.OnTop.{AreAnswered, HasOnTop, IsBehind, IsDamagedBehind, IsOfOffice, LeadsTo, MayLeave, WasEntered}
use Rattle.mx_book_tables.specs.stands.Stands.{StandsInSchema}
use Rattle.mx_office.specs.Stands.{IsEitherIn, NoneAccepted, RestsIn}
use Rattle.mx_faults.specs.declared.fault.Fault.{Fault}
use Rattle.mx_faults.specs.declared.fault.Fault.TheVariants.{Store, Damaged}
use Rattle.mx_office.proofs.AppliedLemmas.{Handed, is_damaged, is_told, was_entered, was_open}
use Rattle.mx_office.proofs.OfficeLemmas.{after_is, behind_is, nothing_then, rests_as, survives_itself}
use Rattle.mx_office.proofs.ReplyLemmas.{answered_more, answered_on, damage_from, idle_fault, idle_reply, no_damage_stop, no_reopening, none_before, none_last, store_stop}

-- ── no command yet ──

-- the commands that have a reply and the next one
pub next_taken : (commands : List Entry) (said : List Reply) (i : ℕ) (command : Entry) → length said ≡ i → i < length commands → command ≡ get_or commands i command → take (length said + 1) commands ≡ take (length said) commands ++ command ∷ []
next_taken commands said i command count low is =
    subst (λ n. take (n + 1) commands ≡ take n commands ++ command ∷ []) (sym count) (take_more commands i command low ∙ ap (λ c. take i commands ++ c ∷ []) (sym is))

pub handed_none : (commands : List Entry) (s : State) → HandsIn commands [] None s s
handed_none commands s = record {
  clean = omega arith;
  usable = λ same. cc;
  opened = λ _ _ is_open. is_open;
  untouched = λ _ _ some. absurd (elim some [ inl said ↦ said refl | inr stop ↦ stop refl ]);
  over_book = λ schema settled book rests. record { answered = λ _. refl; whole = λ _ name same. cc; kept = λ _. rests; crash = λ clean trees may. inl (rests.crash clean trees may) };
  over_rows = record {
    crash = λ _. survives_itself s _;
    was_open = λ clean some. absurd (elim some [ inl said ↦ said refl | inr damaged ↦ (let same : None ≡ Some (Damaged damaged.0) = damaged.1 in cc) ]);
    told = λ clean is. (s.now, refl);
    sound = λ clean is is_open _. record { was_open = is_open; answered = refl; settled = is.settled };
    damaged = λ clean is name same. cc;
  };
}

-- ── one command, behind those that have a reply ──

module _ (commands : List Entry) (said : List Reply) (command : Entry) (first mid new : State) (next : take (length said + 1) commands ≡ take (length said) commands ++ command ∷ []) (so_far : HandsIn commands said None first mid)
    (result : Result Reply TableFault) (it : Handed command mid new result) where
  abbrev done : List Entry
  done = take (length said) commands

  early : HasCleanDisk new → HasCleanDisk mid
  early clean = omega (arith, it.applies.clean)

  -- ── over any rows ──

  before : HasCleanDisk new → IsOfOffice first → IsTrue mid.is_open → IsBehind commands said first mid
  before clean is is_open = so_far.over_rows.sound (early clean) is is_open (λ same. cc)

  -- the connection was open before, if it was at the last command
  first_open : HasCleanDisk new → IsTrue mid.is_open → IsTrue first.is_open
  first_open clean is_open = so_far.opened (λ same. cc) (early clean) is_open

  still : IsOfOffice first → IsBehind commands said first mid → IsSettled mid.now.schema × AllRise mid.now
  still is at = answered_on done said first.now mid.now at.answered is.schema is.rises

  -- what it may leave behind a crash
  left_next : HasCleanDisk new → IsOfOffice first → (trees : Trees) → HasOneCommit command mid trees → IsTrue first.is_open × AreAnswered done said first.now mid.now × HasOnTop command mid.now trees
  left_next clean is trees may =
      let at = before clean is may.2.was_open in
      let of = still is at in (at.was_open, at.answered, record { rows = may.0; are_its = may.1 of.0.tables; is_new = may.3 of.0.tables; tables = may.2.tables of.0 of.1 })

  survives_next : (more : List Reply) (stop : Option Fault) → length said ≤ length more → ((n : ℕ) → n ≤ length said → take n more ≡ take n said) → (length said < length more) ⊎ ((stop ≡ Some Store) × (length said ≡ length more)) → IsOfOffice first
      → Survives first new (MayLeave commands more stop first)
  survives_next more stop up same reached is = survives_then first mid new (MayLeave commands said None first) _ _
      (λ _ trees left.
      let low : left.count < length said = within left.count left.reached in
      record {
        was_open = left.was_open;
        count = left.count;
        next = left.next;
        is_next = left.is_next;
        reached = inl (omega (arith, low, up));
        before = left.before;
        answered = subst (λ (rs : List Reply). AreAnswered (take left.count commands) rs first.now left.before) (sym (same left.count (omega (arith, low)))) left.answered;
        on_top = left.on_top;
      })
      (λ clean trees may.
      let l = left_next clean is trees may in
      record {
        was_open = l.0;
        count = length said;
        next = command;
        is_next = next;
        reached = reached;
        before = mid.now;
        answered = subst (λ (rs : List Reply). AreAnswered done rs first.now mid.now) (sym (same (length said) (le_refl (length said)) ∙ take-length said)) l.1;
        on_top = l.2;
      }) (so_far.over_rows.crash is) it.survives
    where
      within : (n : ℕ) → (n < length said) ⊎ ((None ≡ Some Store) × (n ≡ length said)) → n < length said
      within n (inl low) = low
      within n (inr other) = absurd (cc)

  -- it changed nothing
  module _ (idle : ChangesNothing mid new) where
    untouched_too : (said ≡ [] → ChangesNothing mid new → ChangesNothing first new) → NoneAccepted said → ChangesNothing first new
    untouched_too start none = by_said said refl
      where
        by_said : (rs : List Reply) → said ≡ rs → ChangesNothing first new
        by_said [] is = start is idle
        by_said (r ∷ rs) is = nothing_then first mid new (so_far.untouched none (λ same. cc) (inl (λ empty. let both : r ∷ rs ≡ [] = sym is ∙ empty in cc))) idle

    as_it_was : (clean : HasCleanDisk new) → (is : IsOfOffice first) → IsTrue new.is_open → IsBehind commands said first mid × (new.now ≡ mid.now) × (new.now ≡ new.committed)
    as_it_was clean is is_open =
        let at = before clean is (idle.was_open clean is_open) in
        (at, idle.now_is clean is_open ∙ sym at.settled, idle.now_is clean is_open ∙ sym (idle.committed_is clean is_open))

  -- ── over a book ──

  module _ (schema : Schema) (settled : IsSettled schema) (book : List Entry) (rests : RestsIn schema first book) where
    abbrev now : List Entry
    now = book_run book done

    had : RunsOver schema book commands said None mid
    had = so_far.over_book schema settled book rests

    rests_mid : RestsIn schema mid now
    rests_mid = had.kept (λ same. cc)

    run_next : book_run book (take (length said + 1) commands) ≡ book_after now command
    run_next = ap (book_run book) next ∙ book_run-append book done (command ∷ [])

    either_next : (trees : Trees) → IsEitherIn schema now (now ++ command ∷ []) trees → IsEitherIn schema now (book_run book (take (length said + 1) commands)) trees
    either_next trees (inl one) = inl one
    either_next trees (inr other) = inr (subst (StandsInSchema schema office_point trees) (sym (run_next ∙ after_is now command other.rows.is_book)) other)

-- ── it was answered ──

module _ (commands : List Entry) (said : List Reply) (command : Entry) (first mid new : State) (next : take (length said + 1) commands ≡ take (length said) commands ++ command ∷ []) (so_far : HandsIn commands said None first mid)
    (start : said ≡ [] → ChangesNothing mid new → ChangesNothing first new) (r : Reply) (it : Handed command mid new (Ok r)) where
  abbrev more : List Reply
  more = said ++ r ∷ []

  one_more : length more ≡ length said + 1
  one_more = length-append said (r ∷ [])

  more_taken : take (length more) commands ≡ take (length said) commands ++ command ∷ []
  more_taken = ap (λ n. take n commands) one_more ∙ next

  -- the chain of replies has one more
  answered_next : (clean : HasCleanDisk new) → IsOfOffice first → IsBehind commands said first mid → (after : Database) → (IsSettled mid.now.schema → AllRise mid.now → LeadsTo command r mid.now after) → AreAnswered (take (length more) commands) more first.now after
  answered_next clean is at after leads =
      let of = still commands said command first mid new next so_far (Ok r) it is at in
      subst (λ (cs : List Entry). AreAnswered cs more first.now after) (sym more_taken)
      (answered_more (take (length said) commands) said command r first.now mid.now after at.answered (it.applies.judged clean of.0.tables) (leads of.0 of.1))

  mid_open : HasCleanDisk new → IsTrue mid.is_open
  mid_open clean = was_open command mid new (Ok r) it clean

  sound_entered : (seq : ℕ) → r ≡ Accepted seq → HasCleanDisk new → IsOfOffice first → IsBehind commands more first new
  sound_entered seq is_r clean is =
      let wrote : WasEntered command seq mid new = was_entered command mid new (Ok r) it seq (ap Ok is_r) clean in
      let at = before commands said command first mid new next so_far (Ok r) it clean is wrote.3.was_open in
      record {
        was_open = at.was_open;
        settled = wrote.3.settled;
        answered = answered_next clean is at new.now (λ has rise. subst (λ (a : Reply). LeadsTo command a mid.now new.now) (sym is_r) (wrote.0, wrote.1 has.tables, wrote.2, wrote.3.gains has rise));
      }

  sound_idle : ChangesNothing mid new → ((d : Database) → d ≡ mid.now → LeadsTo command r mid.now d) → HasCleanDisk new → IsOfOffice first → IsTrue new.is_open → IsBehind commands more first new
  sound_idle idle leads clean is is_open =
      let same = as_it_was commands said command first mid new next so_far (Ok r) it idle clean is is_open in
      record { was_open = same.0.was_open; settled = same.2; answered = answered_next clean is same.0 new.now (λ _ _. leads new.now same.1) }

  told_idle : ((d : Database) → d ≡ mid.now → LeadsTo command r mid.now d) → HasCleanDisk new → IsOfOffice first → (after : Database) × AreAnswered (take (length more) commands) more first.now after
  told_idle leads clean is =
      let at = before commands said command first mid new next so_far (Ok r) it clean is (mid_open clean) in
      (mid.now, answered_next clean is at mid.now (λ _ _. leads mid.now refl))

  untouched_next : NoneAccepted more → ChangesNothing first new
  untouched_next none = untouched_too commands said command first mid new next so_far (Ok r) it (it.applies.untouched (idle_reply r (none_last said r none))) start (none_before said r none)

  crash_next : IsOfOffice first → Survives first new (MayLeave commands more None first)
  crash_next = survives_next commands said command first mid new next so_far (Ok r) it more None (omega (arith, one_more)) (λ n low. take-append-le n said (r ∷ []) low) (inl (omega (arith, one_more)))

  over_more : (schema : Schema) → IsSettled schema → (book : List Entry) → RestsIn schema first book → RunsOver schema book commands more None new
  over_more schema settled book rests =
      let had = so_far.over_book schema settled book rests in
      let b = book_run book (take (length said) commands) in
      let at = rests_mid commands said command first mid new next so_far (Ok r) it schema settled book rests in
      let runs = ap (book_run book) (ap (λ n. take n commands) one_more) ∙ run_next commands said command first mid new next so_far (Ok r) it schema settled book rests in
      let kept : RestsIn schema new (book_run book (take (length more) commands)) =
      rests_as schema new (behind b command r) (book_run book (take (length more) commands)) (λ clean. behind_is b command r (it.applies.said schema settled b at clean) ∙ sym runs) (it.applies.kept schema settled b at) in
      record {
        answered = λ clean.
            ap (λ rs. rs ++ r ∷ []) (had.answered (early commands said command first mid new next so_far (Ok r) it clean))
            ∙ ap (λ a. replies book (take (length said) commands) ++ a ∷ []) (it.applies.said schema settled b at clean)
            ∙ sym (ap (replies book) more_taken ∙ replies-append book (take (length said) commands) (command ∷ []));
        whole = λ _ name same. cc;
        kept = λ _. kept;
        crash = λ clean trees may. inl (kept.crash clean trees may);
      }

  handed_as : (HasCleanDisk new → IsOfOffice first → (after : Database) × AreAnswered (take (length more) commands) more first.now after) → (HasCleanDisk new → IsOfOffice first → IsTrue new.is_open → IsBehind commands more first new)
      → HandsIn commands more None first new
  handed_as told sound = record {
    clean = omega (arith, so_far.clean, it.applies.clean);
    usable = λ same. cc;
    opened = λ _ clean _. first_open commands said command first mid new next so_far (Ok r) it clean (mid_open clean);
    untouched = λ none _ _. untouched_next none;
    over_book = over_more;
    over_rows = record {
      crash = crash_next;
      was_open = λ clean _. first_open commands said command first mid new next so_far (Ok r) it clean (mid_open clean);
      told = told;
      sound = λ clean is is_open _. sound clean is is_open;
      damaged = λ clean is name same. cc;
    };
  }

  handed_entered : (seq : ℕ) → r ≡ Accepted seq → HandsIn commands more None first new
  handed_entered seq is_r = handed_as (λ clean is. (new.now, (sound_entered seq is_r clean is).answered)) (λ clean is _. sound_entered seq is_r clean is)

  handed_idle : ((seq : ℕ) → r ≢ Accepted seq) → ((d : Database) → d ≡ mid.now → LeadsTo command r mid.now d) → HandsIn commands more None first new
  handed_idle never leads = handed_as (told_idle leads) (sound_idle (it.applies.untouched (idle_reply r never)) leads)

-- the reply is one more
pub handed_more : (commands : List Entry) (said : List Reply) (command : Entry) (first mid new : State) → take (length said + 1) commands ≡ take (length said) commands ++ command ∷ [] → HandsIn commands said None first mid
    → (said ≡ [] → ChangesNothing mid new → ChangesNothing first new) → (r : Reply) → Handed command mid new (Ok r) → HandsIn commands (said ++ r ∷ []) None first new
handed_more commands said command first mid new next so_far start (Accepted seq) it = handed_entered commands said command first mid new next so_far start (Accepted seq) it seq refl
handed_more commands said command first mid new next so_far start (Already seq) it = handed_idle commands said command first mid new next so_far start (Already seq) it (λ n is. cc) (λ d same. same)
handed_more commands said command first mid new next so_far start (Refused why) it = handed_idle commands said command first mid new next so_far start (Refused why) it (λ n is. cc) (λ d same. same)

-- ── it was not answered ──

-- the run stops at it
module _ (commands : List Entry) (said : List Reply) (command : Entry) (first mid new : State) (next : take (length said + 1) commands ≡ take (length said) commands ++ command ∷ []) (so_far : HandsIn commands said None first mid)
    (start : said ≡ [] → ChangesNothing mid new → ChangesNothing first new) (e : TableFault) (it : Handed command mid new (Err e)) where
  abbrev stop : Option Fault
  stop = Some (fault_from e)

  over_stop : (schema : Schema) → IsSettled schema → (book : List Entry) → RestsIn schema first book → RunsOver schema book commands said stop new
  over_stop schema settled book rests =
      let had = so_far.over_book schema settled book rests in
      let b = book_run book (take (length said) commands) in
      let at = rests_mid commands said command first mid new next so_far (Err e) it schema settled book rests in
      record {
        answered = λ clean. had.answered (early commands said command first mid new next so_far (Err e) it clean);
        whole = λ clean name same. no_damage_stop e name (it.applies.said schema settled b at clean) same;
        kept = λ other. it.applies.same schema settled b at (store_stop e other);
        crash = λ clean trees may. either_next commands said command first mid new next so_far (Err e) it schema settled book rests trees (it.applies.crash schema settled b at clean trees may);
      }

  nothing : e ≢ table.Store → ChangesNothing mid new
  nothing other = it.applies.untouched (idle_fault e other)

  crash_idle : ChangesNothing mid new → IsOfOffice first → Survives first new (MayLeave commands said stop first)
  crash_idle idle is = survives_then first mid new (MayLeave commands said None first) (λ _. ⊥) _
      (λ _ trees left. record { was_open = left.was_open; count = left.count; next = left.next; is_next = left.is_next; reached = within left.count left.reached; before = left.before; answered = left.answered; on_top = left.on_top }) (λ _ trees none. absurd none)
      (so_far.over_rows.crash is) idle.survives
    where
      within : (n : ℕ) → (n < length said) ⊎ ((None ≡ Some Store) × (n ≡ length said)) → (n < length said) ⊎ ((stop ≡ Some Store) × (n ≡ length said))
      within n (inl low) = inl low
      within n (inr other) = absurd (cc)

  crash_stop : IsOfOffice first → Survives first new (MayLeave commands said stop first)
  crash_stop is = elim it.applies.cause [
    | inl memory ↦ crash_idle (nothing (λ store. cc)) is
    | inr other ↦ elim other [
      | inl store ↦ survives_next commands said command first mid new next so_far (Err e) it said stop (omega arith) (λ n low. refl) (inr (ap (λ f. Some (fault_from f)) store, refl)) is
      | inr damaged ↦ crash_idle (nothing (λ store. let is : e ≡ table.Damaged damaged.0 = damaged.1 in cc)) is
    ]
  ]

  sound_stop : HasCleanDisk new → IsOfOffice first → IsTrue new.is_open → stop ≢ Some Store → IsBehind commands said first new
  sound_stop clean is is_open other =
      let same = as_it_was commands said command first mid new next so_far (Err e) it (nothing (store_stop e other)) clean is is_open in
      record {
        was_open = same.0.was_open;
        settled = same.2;
        answered = subst (λ (d : Database). AreAnswered (take (length said) commands) said first.now d) (sym same.1) same.0.answered;
      }

  damage_is : (name : TableName) → stop ≡ Some (Damaged name) → e ≡ table.Damaged name
  damage_is name same = damage_from e name (cc)

  damage_open : HasCleanDisk new → (name : TableName) → e ≡ table.Damaged name → IsTrue mid.is_open
  damage_open clean name is_e = subst (λ (f : TableFault). OnRead {T = Reply} (Err f) (IsTrue mid.is_open)) is_e (was_open command mid new (Err e) it clean)

  open_stop : HasCleanDisk new → (said ≢ []) ⊎ ((name : TableName) × (stop ≡ Some (Damaged name))) → IsTrue first.is_open
  open_stop clean (inl some) = so_far.over_rows.was_open (early commands said command first mid new next so_far (Err e) it clean) (inl some)
  open_stop clean (inr damaged) = first_open commands said command first mid new next so_far (Err e) it clean (damage_open clean damaged.0 (damage_is damaged.0 damaged.1))

  opened_stop : stop ≢ Some Store → HasCleanDisk new → IsTrue new.is_open → IsTrue first.is_open
  opened_stop other clean is_open = first_open commands said command first mid new next so_far (Err e) it clean ((nothing (store_stop e other)).was_open clean is_open)

  damaged_stop : HasCleanDisk new → IsOfOffice first → (name : TableName) → stop ≡ Some (Damaged name) → IsDamagedBehind name commands said first
  damaged_stop clean is name same =
      let is_e = damage_is name same in
      let is_open = damage_open clean name is_e in
      let at = before commands said command first mid new next so_far (Err e) it clean is is_open in
      let of = still commands said command first mid new next so_far (Err e) it is at in
      record {
        was_open = at.was_open;
        found = mid.now;
        answered = at.answered;
        damaged = is_damaged command mid new (Err e) it clean of.0.tables name (ap Err is_e);
        next = command;
        is_next = next;
        told = is_told command mid new (Err e) it clean of.0.tables name (ap Err is_e);
      }

  pub handed_stop : HandsIn commands said stop first new
  handed_stop = record {
    clean = omega (arith, so_far.clean, it.applies.clean);
    usable = no_reopening e;
    opened = opened_stop;
    untouched = λ none other _. untouched_too commands said command first mid new next so_far (Err e) it (nothing (store_stop e other)) start none;
    over_book = over_stop;
    over_rows = record {
      crash = crash_stop;
      was_open = open_stop;
      told = λ clean is. so_far.over_rows.told (early commands said command first mid new next so_far (Err e) it clean) is;
      sound = sound_stop;
      damaged = damaged_stop;
    };
  }

-- ── one command alone ──

pub handed_one : (command : Entry) (old new : State) (result : Result Reply TableFault) → Handed command old new result → HandsIn (command ∷ []) (replies_in (call_answer result)) (stop_in (call_answer result)) old new
handed_one command old new (Ok r) it = handed_more (command ∷ []) [] command old old new refl (handed_none (command ∷ []) old) (λ _ nothing. nothing) r it
handed_one command old new (Err e) it = handed_stop (command ∷ []) [] command old old new refl (handed_none (command ∷ []) old) (λ _ nothing. nothing) e it
