-- What the rows of an entry say of a command, whatever rows there are.
use Rattle.std.proofs.Common.{◌≡◌, ◌↔◌, ◌&&◌, ℕ, pos, Bool, List, [], ◌∷◌, ◌++◌, IsTrue, Option, None, Ok, refl, sym, ap, subst, ◌∙◌, arith, append_assoc, append-nil}
use Rattle.std.specs.Prelude.{◌+◌}
use Rattle.sqlite.specs.declared.types.Value.TheVariants.{Int}
use Rattle.sqlite.specs.State.{State}
use Rattle.sqlite.specs.Tree.{Trees}
use Rattle.mx_book.specs.commands.Act.{Act, Entry}
use Rattle.mx_book.specs.declared.commands.release.Line.{Line}
use Rattle.mx_registers.specs.Names.{or_zero}
use Rattle.mx_base.specs.declared.rows.rows.ReleaseLineRow.{ReleaseLineRow}
use Rattle.mx_layout.specs.Crash.{IsWithin}
use Rattle.mx_layout.specs.kept.Cells.{kept_crs_line}
use Rattle.mx_layout.specs.kept.Kept.{Kept}
use Rattle.mx_table_rows.specs.chosen.Calls.{ReadsFirst}
use Rattle.mx_table_rows.specs.chosen.Choices.{has_value}
use Rattle.mx_lookups.specs.numbers.AnyRows.{AreChosen, ReadsAny}
use Rattle.mx_row_judge.specs.known.Known.{AreLines, AreRows, ByNumber, InBoth, LineRow, LineRows, Tells, TellsRows}
use Rattle.mx_lookups.specs.numbers.Reads.{Reads}
use Rattle.mx_lookups.proofs.NumbersProofs.AnyLemmas.{any_later, gives}
use Rattle.mx_lookups.proofs.NumbersProofs.TableLemmas.{IsTable, release_lines}
use Rattle.sqlite.specs.Held.{state}
use Rattle.sqlite.specs.Store.{Ghosts}
use Rattle.sqlite.specs.declared.transaction.Transaction.{Transaction}
use Rattle.mx_row_rules.specs.found.Given.{AreSame, Register, found}
use Rattle.mx_lookups.specs.numbers.LookUp.{IsLookUp}
use Rattle.mx_lookups.specs.numbers.Told.{Damage}
use Rattle.mx_lookups.proofs.NumbersProofs.Composed.{answers, behind, chosen}
use Rattle.mx_row_judge.proofs.KnownProofs.TellLemmas.{both_told, compared, tells}

-- rows that were chosen by a number, and compared
pub are_rows : {X : Type 0} (n : ℕ) {k : Kept X} {trees : Trees} {rows read given wanted : List X} {same : Bool} → read ≡ rows → given ≡ wanted → IsTrue same ↔ (read ≡ given) → AreChosen k None k.order (has_value 0 (Int (pos n))) trees rows → AreRows k n wanted trees same
are_rows n {rows = rows} {read = read} {wanted = wanted} {same = same} of_entry of_command is are =
    (rows, are, subst (λ those. IsTrue same ↔ (those ≡ wanted)) of_entry (subst (λ those. IsTrue same ↔ (read ≡ those)) of_command is))

-- what is so by the number of what is named
pub named : (Number : Trees → Option ℕ → Type 0) (Is : ℕ → Trees → Bool → Type 0) {trees : Trees} {found : Option ℕ} {number : ℕ} {same : Bool} → number ≡ or_zero found → Number trees found → Is number trees same → ByNumber Number Is trees same
named Number Is {trees = trees} {found = found} {same = same} is first then = (found, first, subst (λ n. Is n trees same) is then)

-- rows that were chosen by a number, and compared with some that are made without a book
pub rows_tell : {S X V : Type 0} {g : Ghosts S} {k : Kept X} {book_rows : List Entry → List X} (it : IsTable k book_rows) (register : Register X) (n : ℕ) {items : V → List X} {Why : Damage} {old new : Transaction S} {v : V} {read given wanted : List X} {same : Bool}
    → new.conn.ghost_name ≡ old.conn.ghost_name → Reads (λ book w. items w ≡ found register book n) (state g old.conn.now) (state g new.conn.now) (Ok v) → ReadsFirst k None k.order (has_value 0 (Int (pos n))) items (state g old.conn.now) (state g new.conn.now) (Ok v)
    → read ≡ items v → given ≡ wanted → IsTrue same ↔ (read ≡ given) → IsLookUp g (TellsRows register n (λ _. wanted)) (AreRows k n wanted) Why old new (Ok same)
rows_tell it register n {wanted = wanted} reference reads raw of_entry of_command is =
    answers (chosen it reference reads raw) (λ book b those. compared register n (λ _. wanted) book _ _ _ is (of_entry ∙ those) of_command) (λ _ are. are_rows n of_entry of_command is are)

-- so, where they are made by the number of what is named
pub rows_tell_by : {S X V : Type 0} {g : Ghosts S} {k : Kept X} {book_rows : List Entry → List X} (it : IsTable k book_rows) (register : Register X) (n : ℕ) (Number : Trees → Option ℕ → Type 0) (rows : ℕ → List X)
    {seq : List Entry → Option ℕ} {items : V → List X} {Why Other : Damage} {old mid new : Transaction S} {number : Option ℕ} {v : V} {read given : List X} {zero : ℕ} {same : Bool} → IsLookUp g (λ book named. named ≡ seq book) Number Why old mid (Ok number)
    → new.conn.ghost_name ≡ mid.conn.ghost_name → Reads (λ book w. items w ≡ found register book n) (state g mid.conn.now) (state g new.conn.now) (Ok v) → ReadsFirst k None k.order (has_value 0 (Int (pos n))) items (state g mid.conn.now) (state g new.conn.now) (Ok v)
    → read ≡ items v → zero ≡ or_zero number → given ≡ rows zero → IsTrue same ↔ (read ≡ given) → IsLookUp g (TellsRows register n (λ book. rows (or_zero (seq book)))) (ByNumber Number (λ i. AreRows k n (rows i))) Other old new (Ok same)
rows_tell_by {k = k} it register n Number rows {seq = seq} first reference reads raw of_entry is_zero made is =
    answers (behind first (chosen it reference reads raw))
    (λ book b both. compared register n (λ around. rows (or_zero (seq around))) book _ _ _ is (of_entry ∙ both.1) (made ∙ ap rows (is_zero ∙ ap or_zero both.0)))
    (λ _ both. named Number (λ i. AreRows k n (rows i)) is_zero both.0 (are_rows n of_entry made is both.1))

-- rows in two tables
pub both_tell : {S : Type 0} {g : Ghosts S} {P Q : List Entry → Type 0} {A B : Trees → Bool → Type 0} {Why Or Other : Damage} {old mid new : Transaction S} {one two same : Bool} → IsLookUp g (λ book told. IsTrue told ↔ P book) A Why old mid (Ok one) → IsLookUp g (λ book told. IsTrue told ↔ Q book) B Or mid new (Ok two)
    → same ≡ (one && two) → IsLookUp g (λ book told. IsTrue told ↔ (P book × Q book)) (InBoth A B) Other old new (Ok same)
both_tell {one = one} {two = two} first second is = answers (behind first second) (λ book b both. both_told _ _ one two is both.0 both.1) (λ _ both. (one, two, both.0, both.1, is))

-- what the rows of each table of its kind tell is whether the entry says it
pub said : {S : Type 0} {g : Ghosts S} (n : ℕ) (act : Act) {A : Trees → Bool → Type 0} {Why : Damage} {old new : Transaction S} {same : Bool} → IsLookUp g (λ book told. IsTrue told ↔ AreSame book n act) A Why old new (Ok same) → IsLookUp g (Tells n act) A Why old new (Ok same)
said n act l = answers l (λ book b is. tells n act book _ b is) (λ _ are. are)

-- ── the lines of a release ──

-- the rows with the number are chosen, and those that the lines which are left would have come behind those that the others have
abbrev pub IsLined : ℕ → List Line → ℕ → List Line → List ReleaseLineRow → List ReleaseLineRow → Trees → Type 0
IsLined n lines line left rows given trees = AreChosen kept_crs_line None kept_crs_line.order (has_value 0 (Int (pos n))) trees rows × ((later : List ReleaseLineRow) → LineRows n line left trees later → LineRows n 1 lines trees (given ++ later))

pub lined_begun : {V : Type 0} (n : ℕ) {items : V → List ReleaseLineRow} {old new : State} {v : V} (lines : List Line) (given : List ReleaseLineRow) → given ≡ [] → ReadsFirst kept_crs_line None kept_crs_line.order (has_value 0 (Int (pos n))) items old new (Ok v)
    → ReadsAny {V = ℕ} (λ trees _. IsLined n lines 1 lines (items v) given trees) old new (Ok 0)
lined_begun n {items = items} {old = old} {v = v} lines given none raw = record {
  found = λ clean has.
      let gave = (gives release_lines {items = items} (λ rows. rows) refl raw).found clean has in (
        subst (AreChosen kept_crs_line None kept_crs_line.order (has_value 0 (Int (pos n))) old.now.trees) (sym gave.2) gave.1,
        λ later said. subst (λ before. LineRows n 1 lines old.now.trees (before ++ later)) (sym none) said,
      );
}

-- one line more has its row
pub lined_more : (P : List Entry → ℕ → Type 0) (a b c : State) (n : ℕ) (lines : List Line) (line : ℕ) (left later : List Line) (certified : Line) (rows given more : List ReleaseLineRow) (row : ReleaseLineRow) (next : ℕ) → left ≡ certified ∷ later → more ≡ given ++ row ∷ [] → next ≡ line + 1
    → Reads P a b (Ok 0) → ReadsAny {V = ℕ} (λ trees _. IsLined n lines line left rows given trees) a b (Ok 0) → IsWithin b c
    → ReadsAny (LineRow n line certified) b c (Ok row) → ReadsAny {V = ℕ} (λ trees _. IsLined n lines next later rows more trees) a c (Ok 0)
lined_more P a b c n lines line left later certified rows given more row next is pushed counted read lined within one = record {
  found = λ clean has.
      let was = lined.found (omega (arith, clean, within.survives.clean)) has in
      let it = (any_later P (LineRow n line certified) a b c 0 row read within one).found clean has in (
        was.0,
        λ rest said.
            let all : more ++ rest ≡ given ++ row ∷ rest = ap (λ l. l ++ rest) pushed ∙ append_assoc given (row ∷ []) rest in
            let those : LineRows n line (certified ∷ later) a.now.trees (row ∷ rest) = (row, rest, it, subst (λ m. LineRows n m later a.now.trees rest) counted said, refl) in
            subst (LineRows n 1 lines a.now.trees) (sym all) (was.1 (row ∷ rest) (subst (λ l. LineRows n line l a.now.trees (row ∷ rest)) (sym is) those)),
      );
}

-- no line is left, and the rows were compared
pub lined_ended : (a b : State) (n : ℕ) (lines : List Line) (line : ℕ) (left : List Line) (rows given read of_lines : List ReleaseLineRow) (same : Bool) → left ≡ [] → IsTrue same ↔ (read ≡ of_lines) → read ≡ rows → of_lines ≡ given
    → ReadsAny {V = ℕ} (λ trees _. IsLined n lines line left rows given trees) a b (Ok 0) → ReadsAny (AreLines n lines) a b (Ok same)
lined_ended a b n lines line left rows given read of_lines same none is of_entry of_command lined = record {
  found = λ clean has.
      let was = lined.found clean has in
      let all : LineRows n 1 lines a.now.trees (given ++ []) = was.1 [] (subst (λ l. LineRows n line l a.now.trees []) (sym none) refl) in (
        given ++ [],
        all,
        (rows, was.0, subst (λ l. IsTrue same ↔ (rows ≡ l)) (of_command ∙ sym (append-nil given)) (subst (λ l. IsTrue same ↔ (l ≡ of_lines)) of_entry is)),
      );
}
