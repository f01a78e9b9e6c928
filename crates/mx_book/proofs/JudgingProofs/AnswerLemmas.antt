-- What refuses a command by what it says refuses the command.
use Rattle.std.proofs.Common.{subst, ◌≡◌, Option}
use Rattle.std.specs.Prelude.{Result}
use Rattle.mx_book.specs.commands.Act.{Act}
use Rattle.mx_book.specs.declared.verdict.Refusal.{Refusal}
use Rattle.mx_book.specs.Judge.{refusals, first_of}
use Rattle.mx_book.specs.Reading.{Reading, Answers}

-- records answer why a command that says this is refused
abbrev pub Refuses : {S F : Type 0} → Reading S F → S → S → Result (Option Refusal) F → Act → Type 0
Refuses r old new result act = Answers r old new result (λ book. first_of (refusals book act))

-- so they do of a command that says the same
pub refuses_as : {S F : Type 0} (r : Reading S F) (old new : S) (result : Result (Option Refusal) F) (same act : Act) → same ≡ act → Refuses r old new result same → Refuses r old new result act
refuses_as r old new result same act e h = subst (Refuses r old new result) e h
