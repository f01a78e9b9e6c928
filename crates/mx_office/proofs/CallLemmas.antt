-- A run, from what handing the commands to the tables answered; and what stopped a question.
use Rattle.std.proofs.Common.{◌≡◌, ◌≢◌, ◌⊎◌, inl, inr, ◌≤◌, ◌<◌, true, false, refl, sym, ap, ◌∙◌, arith, Bool, List, [], ◌∷◌, length, Option, Some, None, Result, Ok, Err}
use Rattle.sqlite.specs.Schema.{Schema}
use Rattle.sqlite.specs.Store.{Ghosts}
use Rattle.mx_book.specs.commands.Act.{Entry}
use Rattle.mx_book.specs.declared.verdict.Reply.{Reply}
use Rattle.mx_layout.specs.Crash.{ChangesNothing}
use Rattle.mx_apply.specs.writing.Written.{IsSettled}
use Rattle.mx_office.specs.Calls.{stop_asking, HandsIn, IsRun, RunsOver, RunsOverRows, replies_in, stop_in}
use Rattle.mx_office.specs.Office.{office_state, IsReady, IsInDoubt}
use Rattle.mx_office.specs.Stands.{NoneAccepted, RestsIn}
use Rattle.mx_faults.specs.declared.fault.Ask.{Ask}
use Rattle.mx_faults.specs.declared.fault.Ask.TheVariants.{Refused, Failed}
use Rattle.mx_faults.specs.declared.fault.Fault.{Fault}
use Rattle.mx_faults.specs.declared.fault.Fault.TheVariants.{Memory, Store, NeedsReopen, Damaged}
use Rattle.mx_office.specs.declared.office.Office.{Office}
use Rattle.mx_office.proofs.OfficeLemmas.{survives_itself}

not_both : (b : Bool) → b ≡ false → b ≡ true → ⊥
not_both b ready doubt = cc

-- ── nothing was handed in ──

module _ {S : Type 0} {g : Ghosts S} (commands : List Entry) (office : Office S g) where
  -- tables of which no command was asked
  untouched_book : (fault : Fault) → ((name : _) → Some fault ≢ Some (Damaged name)) → (schema : Schema) → IsSettled schema → (book : List Entry) → RestsIn schema (office_state office) book → RunsOver schema book commands [] (Some fault) (office_state office)
  untouched_book fault whole schema settled book rests = record { answered = λ _. refl; whole = λ _. whole; kept = λ _. rests; crash = λ clean trees may. inl (rests.crash clean trees may) }

  untouched_rows : (fault : Fault) → ((name : _) → Some fault ≢ Some (Damaged name)) → RunsOverRows commands [] (Some fault) (office_state office) (office_state office)
  untouched_rows fault whole = record {
    crash = λ _. survives_itself (office_state office) _;
    was_open = λ clean some. absurd (elim some [ inl said ↦ said refl | inr damaged ↦ whole damaged.0 damaged.1 ]);
    told = λ clean is. ((office_state office).now, refl);
    sound = λ clean is is_open _. record { was_open = is_open; answered = refl; settled = is.settled };
    damaged = λ clean is name same. absurd (whole name same);
  }

  -- the office has to be opened again
  pub run_in_doubt : IsInDoubt office → IsRun commands [] (Some NeedsReopen) office office
  run_in_doubt doubt = record {
    counted = (omega arith);
    done = λ none. cc;
    cut = λ ready. absurd (not_both office.needs_reopen ready doubt);
    doubt = record {
      reopen = λ _. (refl, refl);
      usable = λ ready. absurd (not_both office.needs_reopen ready doubt);
      goes_on = λ ready _. ready;
      stopped = λ same. cc;
      clean = omega arith;
    };
    untouched = λ _ _. inl refl;
    over_book = untouched_book NeedsReopen (λ name same. cc);
    over_rows = untouched_rows NeedsReopen (λ name same. cc);
  }

  -- memory ran out before a command was looked for
  pub run_without_room : IsReady office → IsRun commands [] (Some Memory) office office
  run_without_room ready = record {
    counted = (omega arith);
    done = λ none. cc;
    cut = λ _ _. room commands;
    doubt = record {
      reopen = λ doubt. absurd (not_both office.needs_reopen ready doubt);
      usable = λ _ same. cc;
      goes_on = λ _ _. ready;
      stopped = λ same. cc;
      clean = omega arith;
    };
    untouched = λ _ _. inl refl;
    over_book = untouched_book Memory (λ name same. cc);
    over_rows = untouched_rows Memory (λ name same. cc);
  }
    where
      room : (cs : List Entry) → (0 < length cs) ⊎ ((cs ≡ []) × (Some Memory ≡ Some Memory) × (office ≡ office))
      room [] = inr (refl, refl, refl)
      room (c ∷ cs) = inl (omega arith)

-- ── commands were handed to the tables ──

module _ {S : Type 0} {g : Ghosts S} (commands : List Entry) (said : List Reply) (stop : Option Fault) (old new : Office S g) (ready : IsReady old) (handed : HandsIn commands said stop (office_state old) (office_state new)) where
  untouched_handed : (said ≡ [] → stop ≡ None → new.conn ≡ old.conn) → NoneAccepted said → stop ≢ Some Store → (new.conn ≡ old.conn) ⊎ ChangesNothing (office_state old) (office_state new)
  untouched_handed same none other = by said stop refl refl
    where
      by : (rs : List Reply) (why : Option Fault) → said ≡ rs → stop ≡ why → (new.conn ≡ old.conn) ⊎ ChangesNothing (office_state old) (office_state new)
      by [] None is_said is_stop = inl (same is_said is_stop)
      by [] (Some fault) is_said is_stop = inr (handed.untouched none other (inr (λ is. let both : Some fault ≡ None = sym is_stop ∙ is in cc)))
      by (r ∷ rs) why is_said is_stop = inr (handed.untouched none other (inl (λ is. let both : r ∷ rs ≡ [] = sym is_said ∙ is in cc)))

  -- the office has to be opened again from then on if its store failed, and only then
  pub run_handed : (said ≡ [] → stop ≡ None → new.conn ≡ old.conn) → length said ≤ length commands → (stop ≡ None → length said ≡ length commands) → (stop ≢ None → length said < length commands) → (stop ≢ Some Store → IsReady new) → (stop ≡ Some Store → IsInDoubt new)
      → IsRun commands said stop old new
  run_handed same counted done cut goes_on stopped = record {
    counted = counted;
    done = done;
    cut = λ _ some. inl (cut some);
    doubt = record {
      reopen = λ doubt. absurd (not_both old.needs_reopen ready doubt);
      usable = λ _. handed.usable;
      goes_on = λ _. goes_on;
      stopped = stopped;
      clean = handed.clean;
    };
    untouched = untouched_handed same;
    over_book = handed.over_book;
    over_rows = handed.over_rows;
  }

-- one command has a reply, or was stopped
pub one_handed : {P : Type 0} (result : Result Reply Fault) → replies_in result ≡ [] → stop_in result ≡ None → P
one_handed (Ok reply) none running = let is : reply ∷ [] ≡ [] = none in absurd cc
one_handed (Err fault) none running = let is : Some fault ≡ None = running in absurd cc

-- ── what stopped a question ──

pub stopped_asking : {X : Type 0} (result : Result X Ask) (fault : Fault) → stop_asking result ≡ Some fault → result ≡ Err (Failed fault)
stopped_asking (Ok x) fault same = cc
stopped_asking (Err (Refused refusal)) fault same = cc
stopped_asking (Err (Failed it)) fault same = let is : it ≡ fault = cc in ap (λ f. Err (Failed f)) is
