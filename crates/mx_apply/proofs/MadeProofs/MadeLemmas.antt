-- What is made of what was looked up.
use Rattle.std.proofs.Common.{◌≡◌, ◌∙◌, ◌+◌, ◌-◌, ◌^◌, ◌≤◌, arith, inl, min, ℕ, List, length, Result, Ok, refl, sym, subst}
use Rattle.std.specs.Prelude.{IsErrAnd}
use Rattle.sqlite.specs.State.{State}
use Rattle.mx_book.specs.commands.Act.{Act, Entry}
use Rattle.mx_book.specs.Book.{IsBook}
use Rattle.mx_registers.specs.Registers.{next}
use Rattle.mx_base.specs.declared.rows.rows.EntryRow.{EntryRow}
use Rattle.mx_registers.specs.kept.Changes.{entry_of}
use Rattle.mx_row_rules.specs.changes.Rows.{AreCommandRows, IsEntryOf}
use Rattle.mx_row_rules.specs.declared.changes.rows.CommandRows.{CommandRows}
use Rattle.mx_layout.specs.declared.fault.TableFault.{TableFault}
use Rattle.mx_layout.specs.declared.fault.TableFault.TheVariants.{Memory}
use Rattle.mx_layout.proofs.CrashLemmas.{within_itself}
use Rattle.mx_lookups.specs.numbers.Reads.{Reads}
use Rattle.mx_lookups.proofs.NumbersProofs.ReadLemmas.{follows, no_memory, reads_then, stopped, told}
use Rattle.mx_apply.specs.made.Made.{AreRowsOf}

-- memory ran out behind what was answered
pub starved : {V W : Type 0} (P : List Entry → V → Type 0) (Q : List Entry → W → Type 0) (old new : State) (v : V) (result : Result W TableFault) → IsErrAnd result (λ e. e ≡ Memory) → Reads P old new (Ok v) → Reads Q old new result
starved P Q old new v result is r = stopped Q Q old new Memory result is (no_memory P Q old new v r)

-- the number behind the entries of a book, which has too few for the numbers of 32 bits to end
pub next_number : (book : List Entry) (count number : ℕ) → IsBook book → count ≡ length book → number ≡ min (count + 1) (2 ^ 32 - 1) → number ≡ next book
next_number book count number b is made =
    let few : length book ≤ 1000000 = b.few in
    made ∙ omega (arith, few, is)

-- ── the rows of a command, by its entry and by what it says ──

pub command_made : (command : Entry) (act : Act) (a b c : State) (entry : EntryRow) (result : Result CommandRows TableFault) → act ≡ command.act → Reads (λ book row. IsEntryOf book command row) a b (Ok entry) → Reads (AreRowsOf act entry) b c result
    → Reads (λ book rows. AreCommandRows book command rows) a c result
command_made command act a b c entry result is one two =
    follows _ _ a c result
    (λ book rows is_book both. subst (λ x. AreCommandRows book (entry_of command.doc x) rows) is (both.1 command.doc (subst (λ x. IsEntryOf book (entry_of command.doc x) entry) (sym is) both.0)))
    (reads_then _ _ a b c entry result one two)

-- so of rows that are made of the entry alone
pub command_made_alone : (command : Entry) (act : Act) (a b : State) (entry : EntryRow) (rows : CommandRows) → act ≡ command.act → ((book : List Entry) → AreRowsOf act entry book rows) → Reads (λ book row. IsEntryOf book command row) a b (Ok entry)
    → Reads (λ book rows. AreCommandRows book command rows) a b (Ok rows)
command_made_alone command act a b entry rows is made one =
    told _ _ a b entry rows (λ book is_book this. subst (λ x. AreCommandRows book (entry_of command.doc x) rows) is (made book command.doc (subst (λ x. IsEntryOf book (entry_of command.doc x) entry) (sym is) this))) one

-- want of memory before anything was asked
pub unasked : {V : Type 0} (Q : List Entry → V → Type 0) (s : State) (result : Result V TableFault) → IsErrAnd result (λ e. e ≡ Memory) → Reads Q s s result
unasked Q s result is = stopped Q Q s s Memory result is (record {
  read = λ clean book stands. tt;
  cause = inl refl;
  no_book = λ clean name is. absurd cc;
  damaged = λ clean has name is. absurd cc;
  unchanged = λ clean has. tt;
  inside = λ clean begun. tt;
  within = within_itself s;
})
