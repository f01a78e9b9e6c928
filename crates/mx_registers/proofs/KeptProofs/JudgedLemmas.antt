-- What a new command passes, each fact by its name: it comes before no clock, and what it says of fittings and lines is so.
use Rattle.std.proofs.Common.{arith, refl, ◌≡◌, ℕ, ◌≤◌, List, Bool, true, false, cond, Some, None}
use Rattle.std.specs.Prelude.{is_none, nat_lt, not}
use Rattle.std.specs.List.{list_any}
use Rattle.std.proofs.lemmas.Bool.Decides.{nat_tests}
use Rattle.mx_book.specs.commands.Act.{Entry, Removed, Released}
use Rattle.mx_book.specs.commands.Bounds.{are_distinct}
use Rattle.mx_book.specs.commands.Same.{same_line}
use Rattle.mx_book.specs.declared.commands.fitting.Removal.{Removal}
use Rattle.mx_book.specs.declared.commands.release.Line.{Line}
use Rattle.mx_book.specs.declared.commands.release.Release.{Release}
use Rattle.mx_book.specs.declared.verdict.Verdict.TheVariants.{New}
use Rattle.mx_book.specs.Judge.{judge, too_early, clock_passed, fitted_in_shop, line_of_item_elsewhere}
use Rattle.mx_book.specs.Span.{fitted}
use Rattle.mx_book.proofs.PassLemmas.{new-passes}
use Rattle.mx_registers.specs.kept.Changes.{entry_of}

-- a command that is new comes before no clock
pub new-timely : (book : List Entry) (command : Entry) → judge book command ≡ New → too_early book command.act ≡ None
new-timely book command new = (new-passes book command new).out_of_order

-- a moment that is not before a clock is by it
pub not_passed : (moment clock : ℕ) → clock_passed moment clock ≡ None → clock ≤ moment
not_passed moment clock h = at (nat_lt moment clock) refl h
  where
    at : (b : Bool) → nat_lt moment clock ≡ b → cond b (Some clock) None ≡ None → clock ≤ moment
    at true e n = (cc)
    at false e n = grind (arith, nat_tests)

-- a component that is released in a shop is fitted nowhere
pub new-in_shop : (book : List Entry) (doc : List ℕ) (r : Release) (lines : List Line) → judge book (entry_of doc (Released r lines)) ≡ New → fitted_in_shop book r.place ≡ false
new-in_shop book doc r lines new = (new-passes book (entry_of doc (Released r lines)) new).already_fitted

-- a component that is removed is fitted
pub new-fitted : (book : List Entry) (doc : List ℕ) (r : Removal) → judge book (entry_of doc (Removed r)) ≡ New → is_none (fitted book r.serial) ≡ false
new-fitted book doc r new = (new-passes book (entry_of doc (Removed r)) new).not_fitted

-- each item on which a release certifies a task is at its place
pub new-at_place : (book : List Entry) (doc : List ℕ) (r : Release) (lines : List Line) → judge book (entry_of doc (Released r lines)) ≡ New → list_any (line_of_item_elsewhere book r.place) lines ≡ false
new-at_place book doc r lines new = (new-passes book (entry_of doc (Released r lines)) new).item_elsewhere

-- no two lines of a release are equal
pub new-distinct : (book : List Entry) (doc : List ℕ) (r : Release) (lines : List Line) → judge book (entry_of doc (Released r lines)) ≡ New → are_distinct same_line lines ≡ true
new-distinct book doc r lines new = flip (are_distinct same_line lines) (new-passes book (entry_of doc (Released r lines)) new).repeated_line
  where
    flip : (c : Bool) → not c ≡ false → c ≡ true
    flip true h = refl
    flip false h = (cc)
