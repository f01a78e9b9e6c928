-- The text of a due list, by what the office answered of it.
use Rattle.std.proofs.Common.{◌≡◌, inl, inr, refl, sym, ap, subst, Option, None, Some, Result, Ok, Err, List, ℕ}
use Rattle.std.specs.Prelude.{IsErrAnd, Vec}
use Rattle.std.specs.Option.{option_map}
use Rattle.mx_book.specs.commands.Act.{Entry}
use Rattle.mx_book.specs.declared.verdict.Refusal.TheVariants.{UnknownAircraft}
use Rattle.mx_faults.specs.declared.fault.Ask.{Ask}
use Rattle.mx_faults.specs.declared.fault.Ask.TheVariants.{Refused}
use Rattle.mx_lists.specs.DueList.{due_list}
use Rattle.mx_lists.specs.declared.due_row.DueList.{DueList}
use Rattle.mx_office.specs.Faults.{found_or, IsAnswer}
use Rattle.mx_reports.specs.DueText.{due_lines}
use Rattle.mx_promise.specs.Reopened.{IsPrintOf, IsUnprinted}

-- a list that was answered is the book's
pub listed : (found : Option DueList) (list : DueList) → IsAnswer (found_or UnknownAircraft found) (Ok list) → option_map due_lines found ≡ Some (due_lines list)
listed None list (inl same) = cc
listed (Some one) list (inl same) = let this : list ≡ one = cc in ap (λ l. Some (due_lines l)) (sym this)
listed found list (inr (inl memory)) = cc
listed found list (inr (inr store)) = cc

unlisted_as : (book : List Entry) (tail : List ℕ) (day : ℕ) (why : Ask) (found : Option DueList) → due_list book tail day ≡ found → IsAnswer (found_or UnknownAircraft found) (Err why) → IsUnprinted book tail day why
unlisted_as book tail day why None is (inl same) = let refused : why ≡ Refused UnknownAircraft = cc in inl (refused, is)
unlisted_as book tail day why (Some list) is (inl same) = cc
unlisted_as book tail day why found is (inr (inl memory)) = inr (inl (cc))
unlisted_as book tail day why found is (inr (inr store)) = inr (inr (cc))

-- and where none was, there is a reason
pub unlisted : (book : List Entry) (tail : List ℕ) (day : ℕ) (why : Ask) → IsAnswer (found_or UnknownAircraft (due_list book tail day)) (Err why) → IsUnprinted book tail day why
unlisted book tail day why = unlisted_as book tail day why (due_list book tail day) refl

-- which is handed on
pub handed : {Z : Type 0} (book : List Entry) (tail : List ℕ) (day : ℕ) (result : Result (Vec ℕ Z) Ask) (why : Ask) → IsErrAnd result (λ e. e ≡ why) → IsUnprinted book tail day why → IsPrintOf book tail day result
handed book tail day (Ok text) why is unprinted = absurd is
handed book tail day (Err e) why is unprinted = subst (IsUnprinted book tail day) (sym is) unprinted
