-- The replies to commands: whether one is a refusal, and a line for each.
use Rattle.std.specs.Prelude.{ℕ, List, Bool, true, false}
use Rattle.std.specs.List.{flat_map}
use Rattle.mx_book.specs.declared.verdict.Reply.{Reply}
use Rattle.mx_book.specs.declared.verdict.Reply.TheVariants.{Accepted, Already, Refused}
use Rattle.mx_reports.specs.ReplyText.{reply_line}

-- the command was refused
abbrev pub is_refusal : Reply → Bool
is_refusal (Accepted seq) = false
is_refusal (Already seq) = false
is_refusal (Refused refusal) = true

-- a line for each reply
abbrev pub lines_of : List Reply → List ℕ
lines_of replies = flat_map reply_line replies
