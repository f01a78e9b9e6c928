-- What the status that words end with says of how they ended.
use Rattle.std.proofs.Common.{rules, arith, sym, ◌≡◌, ◌<◌, ◌≤◌, ◌⊎◌, inl, inr, refl, ◌∙◌, ap, subst, ℕ, Bool, true, false, List, [], ◌++◌, Option, Some, None, Result, Ok, Err, IfOk, IfErr}
use Rattle.std.specs.Io.KnownBytes.{Appends, Keeps}
use Rattle.std.specs.Prelude.{max}
use Rattle.mx_faults.specs.declared.moving.MoveFault.{MoveFault}
use Rattle.mx_faults.specs.declared.moving.MoveFault.TheVariants as moving
use Rattle.mx_output.specs.declared.endings.ending.Ending.{Ending}
use Rattle.mx_output.specs.declared.endings.ending.Ending.TheVariants.{Done, Refused, Bad, Differs}
use Rattle.mx_output.specs.declared.endings.ending.Stop.{Stop}
use Rattle.mx_output.specs.declared.endings.ending.Stop.TheVariants.{Words, Shape, Intake, MakeMemory, Create, Move, Open, Office, Net, Print}
use Rattle.mx_words.specs.Done.{IsDone, IsEnded}
use Rattle.mx_words.specs.command_line.Job.{Job}
use Rattle.mx_output.specs.endings.Status.{LeavesUnread, Shows, done_status, move_status, stop_status}

-- what was printed in part alone has a status of 4 or more
whole_of : (whole : Bool) (status done : ℕ) → (whole ≡ false → status ≡ max done 4) → status < 4 → whole ≡ true
whole_of true status done h e = refl
whole_of false status done h e = let m = h refl in absurd (omega (arith, m, e))

-- a move that was stopped has one of 2 or more, as each stop
move_is_grave : (fault : MoveFault) → 2 ≤ move_status fault
move_is_grave moving.Memory = omega (arith)
move_is_grave moving.Store = omega (arith)
move_is_grave moving.NotOurs = omega (arith)
move_is_grave (moving.NewerLayout layout) = omega (arith)
move_is_grave (moving.Damaged name) = omega (arith)

-- a stop has a status of 2 or more
stop_is_grave : (stop : Stop) → 2 ≤ stop_status stop
stop_is_grave Words = omega (arith)
stop_is_grave Shape = omega (arith)
stop_is_grave (Intake fault) = omega (arith)
stop_is_grave MakeMemory = omega (arith)
stop_is_grave (Create fault) = omega (arith)
stop_is_grave (Open fault) = omega (arith)
stop_is_grave (Move fault) = move_is_grave fault
stop_is_grave Net = omega (arith)
stop_is_grave (Office fault) = omega (arith)
stop_is_grave Print = omega (arith)

-- with status 0 all was done
all_of : (done : Result Ending Stop) → done_status done ≡ 0 → done ≡ Ok Done
all_of (Ok Done) h = refl
all_of (Ok Refused) h = (cc)
all_of (Ok Bad) h = (cc)
all_of (Ok Differs) h = (cc)
all_of (Err stop) h = let grave = stop_is_grave stop in absurd (omega (arith, grave, h))

-- with status 1 something was refused
refusal_of : (done : Result Ending Stop) → done_status done ≡ 1 → done ≡ Ok Refused
refusal_of (Ok Done) h = (cc)
refusal_of (Ok Refused) h = refl
refusal_of (Ok Bad) h = (cc)
refusal_of (Ok Differs) h = (cc)
refusal_of (Err stop) h = let grave = stop_is_grave stop in absurd (omega (arith, grave, h))

-- what is said of whatever was done is said of an ending
ended_by : (P : Ending → Type 0) (ending : Ending) (done : Result Ending Stop) → IfOk done P → done ≡ Ok ending → P ending
ended_by P ending (Ok found) h e = let same : found ≡ ending = cc in subst P same h
ended_by P ending (Err stop) h e = (cc)

-- what was asked for was done, ending so, and its text printed
ended_so : (asked : Option Job) (ending : Ending) (old new : Option (List ℕ)) (done : Result Ending Stop) (before after shown : List ℕ)
    → before ≡ [] → shown ≡ after → Appends old new shown
    → IfOk done (λ ending. (job : Job) × (asked ≡ Some job) × Shows (IsDone job) before after ending)
    → done ≡ Ok ending → IsEnded asked ending old new
ended_so asked ending old new done before after shown b s a ok is =
    let found = ended_by _ ending done ok is in
    let told = found.2 in
    (found.0, found.1, told.0, told.2, subst (λ (x : List ℕ). Appends old new x) (s ∙ told.1 ∙ ap (λ (x : List ℕ). x ++ told.0) b) a)

-- nothing more was printed
kept : (old new : Option (List ℕ)) → Appends old new [] → Keeps old new
kept None new h = search rules
kept (Some xs) None h = h
kept (Some xs) (Some ys) h = search rules

-- with status 2 nothing was printed
unprinted_of : (old new : Option (List ℕ)) (done : Result Ending Stop) (before after shown : List ℕ)
    → before ≡ [] → shown ≡ after → Appends old new shown → IfErr done (λ stop. stop_status stop ≡ 2 → after ≡ before)
    → done_status done ≡ 2 → Keeps old new
unprinted_of old new (Ok Done) before after shown b s a err two = absurd (cc)
unprinted_of old new (Ok Refused) before after shown b s a err two = absurd (cc)
unprinted_of old new (Ok Bad) before after shown b s a err two = absurd (cc)
unprinted_of old new (Ok Differs) before after shown b s a err two = absurd (cc)
unprinted_of old new (Err stop) before after shown b s a err two = kept old new (subst (λ (x : List ℕ). Appends old new x) (s ∙ err two ∙ b) a)

-- with status 3 the input gave nothing and nothing was printed, or a row was bad and the lines of the rows were
bad_or_unread : (asked : Option Job) (old new : Option (List ℕ)) (done : Result Ending Stop) (before after shown : List ℕ)
    → before ≡ [] → shown ≡ after → Appends old new shown
    → IfOk done (λ ending. (job : Job) × (asked ≡ Some job) × Shows (IsDone job) before after ending)
    → IfErr done (LeavesUnread before after)
    → done_status done ≡ 3 → Keeps old new ⊎ IsEnded asked Bad old new
bad_or_unread asked old new (Ok Done) before after shown b s a ok err three = absurd (cc)
bad_or_unread asked old new (Ok Refused) before after shown b s a ok err three = absurd (cc)
bad_or_unread asked old new (Ok Differs) before after shown b s a ok err three = absurd (cc)
bad_or_unread asked old new (Ok Bad) before after shown b s a ok err three = inr (ended_so asked Bad old new (Ok Bad) before after shown b s a ok refl)
bad_or_unread asked old new (Err stop) before after shown b s a ok err three = inl (kept old new (subst (λ (x : List ℕ). Appends old new x) (s ∙ err three ∙ b) a))

-- how a word ended, by its status
pub record Ends (asked : Option Job) (old new : Option (List ℕ)) (status : ℕ) : Type 0 where
  pub done : status ≡ 0 → IsEnded asked Done old new
  pub refused : status ≡ 1 → IsEnded asked Refused old new
  pub unprinted : status ≡ 2 → Keeps old new
  pub unread : status ≡ 3 → Keeps old new ⊎ IsEnded asked Bad old new

-- what was done and printed says so
pub ends : (asked : Option Job) (old new : Option (List ℕ)) (done : Result Ending Stop) (whole : Bool) (status : ℕ) (before after shown : List ℕ)
    → (whole ≡ true → status ≡ done_status done) → (whole ≡ true → Appends old new shown) → (whole ≡ false → status ≡ max (done_status done) 4)
    → before ≡ [] → shown ≡ after
    → IfOk done (λ ending. (job : Job) × (asked ≡ Some job) × Shows (IsDone job) before after ending)
    → IfErr done (λ stop. stop_status stop ≡ 2 → after ≡ before) → IfErr done (LeavesUnread before after)
    → Ends asked old new status
ends asked old new done whole status before after shown told printed cut b s ok err unread =
    let all : status < 4 → whole ≡ true = whole_of whole status (done_status done) cut in
    let by : (n : ℕ) → n < 4 → status ≡ n → (done_status done ≡ n) × Appends old new shown =
    λ n few is. (sym (told (all (omega (arith, few, is)))) ∙ is, printed (all (omega (arith, few, is)))) in
    record {
      done = λ is. let p = by 0 (omega arith) is in ended_so asked Done old new done before after shown b s p.1 ok (all_of done p.0);
      refused = λ is. let p = by 1 (omega arith) is in ended_so asked Refused old new done before after shown b s p.1 ok (refusal_of done p.0);
      unprinted = λ is. let p = by 2 (omega arith) is in unprinted_of old new done before after shown b s p.1 err p.0;
      unread = λ is. let p = by 3 (omega arith) is in bad_or_unread asked old new done before after shown b s p.1 ok unread p.0;
    }
