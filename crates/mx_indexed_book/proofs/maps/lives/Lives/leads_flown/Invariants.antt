use Rattle.std.proofs.Common.{◌≡◌, ◌++◌, List, length}
use Rattle.mx_book.specs.commands.Act.{Entry}
use Rattle.mx_book.specs.Book.{IsBook}
use Rattle.mx_indexed_book.specs.maps.Lives.{AreLives, leads_moved}
use Rattle.mx_indexed_book.specs.maps.Places.{ArePlaces}
use Rattle.mx_indexed_book.proofs.maps.lives.Lives.leads_flown.Given as goal

-- those so far, and those of the movements that are left, are all
abbrev pub invariant-loop-movement : goal.invariant-loop-movement
invariant-loop-movement l = (book : List Entry) → IsBook book → ArePlaces book l.places → AreLives book l.self
    → l.leads.items ++ leads_moved book l.sector l.rest ≡ leads_moved book l.sector l.moved

abbrev pub decreases-loop-movement : goal.decreases-loop-movement
decreases-loop-movement l = length l.rest
