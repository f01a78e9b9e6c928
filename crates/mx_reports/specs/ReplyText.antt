-- The text of a reply.
use Rattle.std.specs.Prelude.{ℕ, List, [], ◌∷◌, ◌++◌, codes}
use Rattle.std.specs.Fmt.{decimal}
use Rattle.mx_base.specs.Texts.{day_text, moment_text}
use Rattle.mx_book.specs.declared.verdict.Refusal.{Refusal}
use Rattle.mx_book.specs.declared.verdict.Refusal.TheVariants.{Conflict, Full, UnknownAircraft, UnknownComponent, UnknownPosition, UnknownProgramme, UnknownTask, UnknownDefect, AircraftExists, ComponentExists, PositionTaken, AlreadyFitted, NotFitted, WrongPart, ItemElsewhere, TaskClosed, LifeLimit, DefectClosed, OutOfOrder, NotExtendable, AlreadyExtended, ExtensionTooLong, IntervalEnded, WrongRevision, OtherAircraft, OpeningTooLate, OpeningTooLarge, RepeatedLine}
use Rattle.mx_book.specs.declared.verdict.Reply.{Reply}
use Rattle.mx_book.specs.declared.verdict.Reply.TheVariants.{Accepted, Already, Refused}
use Rattle.mx_book.specs.Judge.{refusal_number}
use Rattle.mx_reports.specs.Words.{spaced}

-- what a refusal carries beside its number: the number of an entry, a moment, the days that an extension may have, the last day of a defect, or the revision that is expected
abbrev pub carried_words : Refusal → List ℕ
carried_words (Conflict seq) = spaced (decimal seq)
carried_words (OutOfOrder clock) = spaced (moment_text clock)
carried_words (ExtensionTooLong most) = spaced (decimal most)
carried_words (IntervalEnded last) = spaced (day_text last)
carried_words (WrongRevision expected) = spaced (decimal expected)
carried_words Full = []
carried_words UnknownAircraft = []
carried_words UnknownComponent = []
carried_words UnknownPosition = []
carried_words UnknownProgramme = []
carried_words UnknownTask = []
carried_words UnknownDefect = []
carried_words AircraftExists = []
carried_words ComponentExists = []
carried_words PositionTaken = []
carried_words AlreadyFitted = []
carried_words NotFitted = []
carried_words WrongPart = []
carried_words ItemElsewhere = []
carried_words TaskClosed = []
carried_words LifeLimit = []
carried_words DefectClosed = []
carried_words NotExtendable = []
carried_words AlreadyExtended = []
carried_words OtherAircraft = []
carried_words OpeningTooLate = []
carried_words OpeningTooLarge = []
carried_words RepeatedLine = []

-- the number of a refusal, and what it carries
abbrev pub refusal_words : Refusal → List ℕ
refusal_words refusal = spaced (decimal (refusal_number refusal)) ++ carried_words refusal

-- accepted SEQ; already SEQ; refused NUMBER and what it carries
abbrev pub reply_line : Reply → List ℕ
reply_line (Accepted seq) = (codes "accepted" ++ spaced (decimal seq)) ++ 10 ∷ []
reply_line (Already seq) = (codes "already" ++ spaced (decimal seq)) ++ 10 ∷ []
reply_line (Refused refusal) = (codes "refused" ++ refusal_words refusal) ++ 10 ∷ []
