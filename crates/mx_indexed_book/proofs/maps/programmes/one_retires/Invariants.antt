use Rattle.std.proofs.Common.{◌≡◌, List, true, length}
use Rattle.std.specs.List.{list_all, list_any}
use Rattle.mx_book.specs.commands.Act.{Entry}
use Rattle.mx_book.specs.commands.Programme.{task_shape}
use Rattle.mx_book.specs.declared.commands.item.Item.{Item}
use Rattle.mx_book.specs.Programme.{is_at_end}
use Rattle.mx_book.specs.Register.{found_of}
use Rattle.mx_indexed_book.proofs.maps.programmes.one_retires.Given as goal

-- what is left gives the answer, and each task of it has its shape
abbrev pub invariant-loop-task : goal.invariant-loop-task
invariant-loop-task l = record {
  same : (book : List Entry) (item : Item) → l.found ≡ found_of book item → list_any (is_at_end book item l.life l.day) l.rest ≡ list_any (is_at_end book item l.life l.day) l.tasks;
  shape : list_all task_shape l.rest ≡ true;
}

abbrev pub decreases-loop-task : goal.decreases-loop-task
decreases-loop-task l = length l.rest
