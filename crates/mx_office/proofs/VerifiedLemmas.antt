-- What is answered where the tables of an office stand for a book.
use Rattle.std.proofs.Common.{◌≡◌, ◌⊎◌, inl, inr, refl, ap, sym, Bool, true, List, [], IsTrue, Result, Ok, Err}
use Rattle.std.specs.Prelude.{MatchResult}
use Rattle.sqlite.specs.State.{State, HasCleanDisk}
use Rattle.mx_book.specs.commands.Act.{Entry}
use Rattle.mx_layout.specs.Point.{IsStop}
use Rattle.mx_layout.specs.declared.fault.TableFault.{TableFault}
use Rattle.mx_book_tables.specs.stands.Schemas.{HasTablesAt, indexes_at}
use Rattle.mx_book_tables.specs.stands.Stands.{RestsAt}
use Rattle.mx_verify.specs.Verifies.{IsVerified, Tells}
use Rattle.mx_office.specs.Faults.{call_answer, fault_from}
use Rattle.mx_office.specs.Layout.{office_point}
use Rattle.mx_faults.specs.declared.fault.Fault.{Fault}
use Rattle.mx_faults.specs.declared.fault.Fault.TheVariants.{Memory, Store}

-- it is so, unless memory or the store failed
found_of_book : (found : Result Bool TableFault) → MatchResult found (λ same. same ≡ true) IsStop → MatchResult (call_answer found) (λ same. same ≡ true) (λ fault. (fault ≡ Memory) ⊎ (fault ≡ Store))
found_of_book (Ok same) is = is
found_of_book (Err why) (inl memory) = inl (ap fault_from memory)
found_of_book (Err why) (inr store) = inr (ap fault_from store)

module _ (s : State) (book : List Entry) (rests : RestsAt office_point s book) (clean : HasCleanDisk s) (is_open : IsTrue s.is_open) where
  has_tables : HasTablesAt office_point s.now.schema
  has_tables = record { rest = []; more = indexes_at office_point; is = rests.schema clean is_open }

  is_verified : IsVerified s.now
  is_verified = (ap (λ schema. schema.tables) (rests.schema clean is_open), (book, (rests.tables clean is_open).rows))

  pub verified_of_book : (found : Result Bool TableFault) → (HasTablesAt office_point s.now.schema → Tells (IsVerified s.now) s.now.trees found)
      → MatchResult (call_answer found) (λ same. same ≡ true) (λ fault. (fault ≡ Memory) ⊎ (fault ≡ Store))
  verified_of_book found tells = found_of_book found ((tells has_tables).whole is_verified)
