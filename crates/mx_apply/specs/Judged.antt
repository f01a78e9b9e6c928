-- What was asked of a command.
use Rattle.std.specs.Prelude.{⊤, ◌≡◌, List}
use Rattle.sqlite.specs.Tree.{Trees}
use Rattle.mx_book.specs.commands.Act.{Entry}
use Rattle.mx_book.specs.Judge.{judge}
use Rattle.mx_book.specs.declared.verdict.Verdict.TheVariants as verdicts
use Rattle.mx_row_rules.specs.changes.Rows.{AreCommandRows}
use Rattle.mx_book.specs.declared.verdict.Verdict.{Verdict}
use Rattle.mx_apply.specs.made.Found.{AreRowsFor}
use Rattle.mx_lookups.specs.numbers.Told.{Damage, Either}
use Rattle.mx_apply.specs.made.Damage.{MadeDamage}
use Rattle.mx_row_judge.specs.Answering.{AnswerAs}
use Rattle.mx_row_judge.specs.Damage.{JudgeDamage}
use Rattle.mx_apply.specs.declared.judged.Judged.{Judged}
use Rattle.mx_apply.specs.declared.judged.Judged.TheVariants.{New, Already, Refused}

-- what was found of a command is so of the book: it is new, and these are its rows; or it is not, for this reason
abbrev pub IsJudged : Entry → List Entry → Judged → Type 0
IsJudged command book (New rows) = (judge book command ≡ verdicts.New) × AreCommandRows book command rows
IsJudged command book (Already seq) = judge book command ≡ verdicts.Already seq
IsJudged command book (Refused refusal) = judge book command ≡ verdicts.Refused refusal

-- what was found is by this verdict
abbrev pub IsBy : Verdict → Judged → Type 0
IsBy verdict (New rows) = verdict ≡ verdicts.New
IsBy verdict (Already seq) = verdict ≡ verdicts.Already seq
IsBy verdict (Refused refusal) = verdict ≡ verdicts.Refused refusal

-- the rows of a new command are its own: its entry behind the last, and what is made of what it says and of what was looked up for it
abbrev pub HasItsRows : Entry → Trees → Judged → Type 0
HasItsRows command trees (New rows) = AreRowsFor command trees rows
HasItsRows command trees _ = ⊤

-- what was found is by the verdict of each book as which the rows answer, and its rows are those of the command
pub record JudgedOf (command : Entry) (trees : Trees) (found : Judged) : Type 0 where
  pub by : (book : List Entry) → AnswerAs trees book → IsBy (judge book command) found
  pub rows : HasItsRows command trees found

-- a question of the judge tells it, or a look-up of what the command names, by which its rows are made
abbrev pub CommandDamage : Entry → Damage
CommandDamage command = Either JudgeDamage (MadeDamage command)
