-- Records that are read where memory may run out.
use Rattle.std.specs.Prelude.{List, Result, Ok, Err}
use Rattle.mx_book.specs.commands.Act.{Entry}
use Rattle.mx_book.specs.Reading.{Answers, Reading}
use Rattle.mx_lists.specs.declared.stop.Stop.{Stop}
use Rattle.mx_lists.specs.declared.stop.Stop.TheVariants.{NoMemory, Fault}

-- the records came from others by questions alone, and memory ran out; or a question of those stopped
abbrev pub StopsBy : {S F : Type 0} → Reading S F → S → S → Stop F → Type 0
StopsBy r start new NoMemory = r.Asked start new
StopsBy r start new (Fault fault) = r.Stopped start new fault

-- the same records, where memory may run out between questions
abbrev pub with_memory : {S F : Type 0} → Reading S F → Reading S (Stop F)
with_memory r = record { Clean = r.Clean; StandsFor = r.StandsFor; Asked = r.Asked; Stopped = StopsBy r }

-- what is so in the book that they stand for was gathered, or memory ran out, or a question was not answered
abbrev pub Gathers : {S F A : Type 0} → Reading S F → S → S → Result A (Stop F) → (List Entry → A) → Type 0
Gathers r old new result what = Answers (with_memory r) old new result what

-- the answer, seen as another value
abbrev pub seen_as : {A B F : Type 0} → (A → B) → Result A F → Result B F
seen_as view (Ok a) = Ok (view a)
seen_as view (Err fault) = Err fault
