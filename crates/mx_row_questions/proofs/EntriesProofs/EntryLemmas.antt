-- An entry by its row, and entries one after the other.
use Rattle.std.proofs.Common.{◌≡◌, ◌⊎◌, ◌<◌, ◌≤◌, ◌+◌, ◌-◌, ℕ, zero, suc, List, [], ◌∷◌, ◌++◌, take, drop, length, min, filter, nat_eq, pos, true, Option, Result, Vec, None, Some, Ok, Err, inl, inr, refl, sym, ap, ap₂, subst, ◌∙◌, arith, add-one, length-append, length-drop}
use Rattle.std.specs.Prelude.{IsErrAnd, MatchOption, slice_get}
use Rattle.std.specs.Option.{option_and_then, option_map}
use Rattle.std.specs.declared.alloc.Global.{Global}
use Rattle.std.proofs.lemmas.List.{take_all}
use Rattle.std.proofs.lemmas.Option.{slice_get_cases}
use Rattle.sqlite.specs.declared.types.Value.TheVariants.{Int}
use Rattle.sqlite.specs.State.{State, HasCleanDisk}
use Rattle.sqlite.specs.Tree.{Trees}
use Rattle.mx_book.specs.commands.Act.{Act, Entry, act_of}
use Rattle.mx_book.specs.declared.commands.body.Body.{Body}
use Rattle.mx_book.specs.commands.Shape.{has_shape}
use Rattle.mx_book.specs.Book.{IsBook, entries_from, entry_at}
use Rattle.mx_registers.specs.Registers.{entry_rows, kind_of}
use Rattle.mx_registers.specs.kept.Changes.{entry_of}
use Rattle.mx_base.specs.declared.rows.rows.EntryKind.{EntryKind}
use Rattle.mx_base.specs.declared.rows.rows.EntryRow.{EntryRow}
use Rattle.mx_layout.specs.declared.fault.Table.TheVariants as table
use Rattle.mx_layout.specs.declared.fault.TableFault.{TableFault}
use Rattle.mx_layout.specs.declared.fault.TableFault.TheVariants as fault
use Rattle.mx_layout.specs.kept.Cells.{kept_entry}
use Rattle.mx_table_rows.specs.chosen.Calls.{ReadsBy}
use Rattle.mx_row_rules.specs.found.Stated.{stated}
use Rattle.mx_row_rules.proofs.FoundProofs.EntryLemmas.{entry_is_at, shape_at}
use Rattle.mx_row_rules.proofs.FoundProofs.StatedLemmas.{doc_numbered, entry_stated, kind_numbered}
use Rattle.mx_lookups.specs.numbers.AnyRows.{ReadsAny}
use Rattle.mx_lookups.specs.numbers.Reads.{Reads}
use Rattle.mx_lookups.proofs.NumbersProofs.AnyLemmas.{any_later, gives}
use Rattle.mx_lookups.proofs.NumbersProofs.BookRows.{entries_of_number}
use Rattle.mx_lookups.proofs.NumbersProofs.ReadLemmas.{no_memory, reads_then, stopped, told}
use Rattle.mx_lookups.proofs.NumbersProofs.TableLemmas.{entries}
use Rattle.mx_row_questions.specs.entries.Damage.{IsSkipped, IsUnstated, ReadsOr}
use Rattle.mx_row_questions.specs.entries.Entries.{AreEntries, InTurn, IsEntry, IsLast, KindStated, command_said, table_of}
use Rattle.mx_row_questions.specs.entries.Stated.{FirstOf}
use Rattle.mx_row_questions.proofs.EntriesProofs.DamageLemmas.{answered, handed_on, refuses}
use Rattle.mx_row_questions.proofs.EntriesProofs.StatedLemmas.{any_none, any_this, starved}

-- ── an entry by its row ──

-- the rows of entries with a number
abbrev pub rows_numbered : List Entry → ℕ → List EntryRow
rows_numbered book n = filter (λ (row : EntryRow). nat_eq row.seq n) (entry_rows book)

none_there : (o : Option Entry) → ◌≡◌ {A = Option EntryKind} None (option_and_then (λ (e : Entry). Some (kind_of e.act)) o) → o ≡ None
none_there None h = refl
none_there (Some e) h = absurd cc

pub no_entry : (book : List Entry) (n : ℕ) → slice_get (rows_numbered book n) 0 ≡ None → entry_at book n ≡ None
no_entry book n none = none_there (entry_at book n) (ap (option_and_then (λ (r : EntryRow). Some r.kind)) (sym none) ∙ kind_numbered book n)

-- an entry has the document and the kind of its row
record HasRow (o : Option Entry) (row : EntryRow) : Type 0 where
  entry : Entry
  is : o ≡ Some entry
  doc : row.doc ≡ entry.doc
  kind : row.kind ≡ kind_of entry.act

row_there : (o : Option Entry) (row : EntryRow) → Some row.doc ≡ option_and_then (λ (e : Entry). Some e.doc) o → Some row.kind ≡ option_and_then (λ (e : Entry). Some (kind_of e.act)) o → HasRow o row
row_there None row h k = absurd cc
row_there (Some e) row h k = record { entry = e; is = refl; doc = cc; kind = cc }

has_row : (book : List Entry) (n : ℕ) (row : EntryRow) → slice_get (rows_numbered book n) 0 ≡ Some row → HasRow (entry_at book n) row
has_row book n row first =
    row_there (entry_at book n) row (ap (option_and_then (λ (r : EntryRow). Some r.doc)) (sym first) ∙ doc_numbered book n) (ap (option_and_then (λ (r : EntryRow). Some r.kind)) (sym first) ∙ kind_numbered book n)

shaped : (doc : List ℕ) (act : Act) → has_shape (entry_of doc act) ≡ true → command_said doc (Some act) ≡ Some (entry_of doc act)
shaped doc act h = rw h refl

-- what its rows state is its command
pub command_is : (book : List Entry) → IsBook book → (n : ℕ) (row : EntryRow) → slice_get (rows_numbered book n) 0 ≡ Some row → command_said row.doc (stated book n row.kind) ≡ entry_at book n
command_is book b n row first =
    let it = has_row book n row first in
    let e = it.entry in
    ap₂ (λ doc kind. command_said doc (stated book n kind)) it.doc it.kind ∙ ap (command_said e.doc) (entry_stated book n e b it.is) ∙ shaped e.doc e.act (shape_at book n e b (entry_is_at book b n e it.is)) ∙ sym it.is

-- and never none
pub command_there : (book : List Entry) → IsBook book → (n : ℕ) (row : EntryRow) → slice_get (rows_numbered book n) 0 ≡ Some row → command_said row.doc (stated book n row.kind) ≡ None → ⊥
command_there book b n row first none =
    let it = has_row book n row first in
    let same : Some it.entry ≡ None = sym it.is ∙ sym (command_is book b n row first) ∙ none in
    absurd cc

-- ── an entry that is looked up ──

module _ (n : ℕ) {a b : State} {rows : Vec EntryRow Global} (raw : ReadsBy kept_entry 0 (Int (pos n)) a b (Ok rows)) where
  abbrev Stands : List Entry → Option Entry → Type 0
  Stands book found = found ≡ entry_at book n

  -- the row with its number, where the entries of a book were read
  row_in : (row : Option EntryRow) → slice_get rows.items 0 ≡ row → (book : List Entry) → rows.items ≡ rows_numbered book n → slice_get (rows_numbered book n) 0 ≡ row
  row_in row this book read = sym (ap (λ l. slice_get l 0) read) ∙ this

  pub entry_none : slice_get rows.items 0 ≡ None → ReadsOr IsUnstated Stands a b (Ok None)
  entry_none none = inl (told _ Stands a b rows None (λ book is_book read. sym (no_entry book n (row_in None none book read))) (entries_of_number n raw))

  pub entry_none-any : slice_get rows.items 0 ≡ None → ReadsAny (IsEntry n) a b (Ok None)
  entry_none-any none = any_none _ _ (λ (command : Option Entry). command) a b (slice_get rows.items 0) None none refl (gives entries (λ all. slice_get all 0) refl raw)

  module _ (row : EntryRow) (this : slice_get rows.items 0 ≡ Some row) where
    abbrev RowsSay : List Entry → Option Body → Type 0
    RowsSay book said = option_map act_of said ≡ stated book n row.kind

    abbrev AnySay : Trees → Option Body → Type 0
    AnySay trees said = KindStated row.kind n trees (option_map act_of said)

    pub entry_stopped : {c : State} {e : TableFault} {result : Result (Option Entry) TableFault} → IsErrAnd result (λ f. f ≡ e) → Reads RowsSay b c (Err e) → ReadsOr IsUnstated Stands a c result
    entry_stopped {c} {e} {result} is r = inl (stopped _ Stands a c e result is (reads_then _ RowsSay a b c rows (Err e) (entries_of_number n raw) r))

    module _ {c : State} {said : Option Body} (reads : Reads RowsSay b c (Ok said)) (any : ReadsAny AnySay b c (Ok said)) where
      rows_said : Reads (λ book s. (rows.items ≡ rows_numbered book n) × RowsSay book s) a c (Ok said)
      rows_said = reads_then _ RowsSay a b c rows (Ok said) (entries_of_number n raw) reads

      pub entry_is : (command : Entry) → Some command ≡ command_said row.doc (option_map act_of said) → ReadsOr IsUnstated Stands a c (Ok (Some command))
      entry_is command is =
          inl (told _ Stands a c said (Some command) (λ book is_book h. is ∙ ap (command_said row.doc) h.1 ∙ command_is book is_book n row (row_in (Some row) this book h.0)) rows_said)

      pub entry_is-any : (command : Entry) → Some command ≡ command_said row.doc (option_map act_of said) → ReadsAny (IsEntry n) a c (Ok (Some command))
      entry_is-any command is =
          any_this _ _ (λ (found : Option Entry). found) _ AnySay a b c rows said (slice_get rows.items 0) row (Some command) this (entries_of_number n raw) (gives entries (λ all. slice_get all 0) refl raw) reads.within (λ trees has. (_, has, (command, refl, is))) any

      -- no command, or no memory for it
      pub entry_refused : (e : TableFault) (result : Result (Option Entry) TableFault) → IsErrAnd result (λ f. f ≡ e) → (e ≡ fault.Memory) ⊎ ((e ≡ fault.Damaged (table_of row.kind)) × (command_said row.doc (option_map act_of said) ≡ None)) → ReadsOr IsUnstated Stands a c result
      entry_refused e (Ok v) is why = absurd is
      entry_refused e (Err f) is (inl memory) = inl (stopped Stands Stands a c e (Err f) is (subst (λ x. Reads Stands a c (Err x)) (sym memory) (no_memory _ Stands a c said rows_said)))
      entry_refused e (Err f) is (inr none) =
          refuses IsUnstated _ Stands a c said (table_of row.kind) (Err f) (ap Err (is ∙ none.0))
          (λ book is_book h. command_there book is_book n row (row_in (Some row) this book h.0) (ap (command_said row.doc) (sym h.1) ∙ none.1))
          (λ clean has.
          let first = any_later _ AnySay a b c rows said (entries_of_number n raw) reads.within any in
          let early : HasCleanDisk b = omega (arith, reads.within.survives.clean) in
          record {
            number = n;
            row = row;
            first = subst (FirstOf kept_entry n a.now.trees) this ((gives entries (λ all. slice_get all 0) refl raw).found early has);
            is_table = refl;
            said = option_map act_of said;
            stated = first.found clean has;
            none = none.1;
          }) rows_said

-- ── entries one after the other ──

next_of : {X : Type 0} (xs : List X) (k : ℕ) (x : X) → slice_get xs k ≡ Some x → take (suc k) xs ≡ take k xs ++ x ∷ []
next_of [] k x h = absurd cc
next_of (y ∷ ys) zero x h = let same : y ≡ x = cc in ap (λ z. z ∷ []) same
next_of (y ∷ ys) (suc k) x h = ap (λ l. y ∷ l) (next_of ys k x h)

behind : {X : Type 0} (n : ℕ) (xs : List X) (k : ℕ) → slice_get (drop n xs) k ≡ slice_get xs (n + k)
behind zero xs k = let same : k ≡ 0 + k = omega arith in ap (slice_get xs) same
behind (suc n) [] k = refl
behind (suc n) (x ∷ xs) k = let same : suc (n + k) ≡ suc n + k = omega arith in behind n xs k ∙ ap (slice_get (x ∷ xs)) same

-- one more of those behind the first so many
one_more : (book : List Entry) (before asked : ℕ) (command : Entry) → Some command ≡ entry_at book (before + asked + 1) → take (asked + 1) (drop before book) ≡ take asked (drop before book) ++ command ∷ []
one_more book before asked command is =
    ap (λ n. take n (drop before book)) (add-one asked) ∙ next_of (drop before book) asked command (behind before book asked ∙ sym (ap (entry_at book) (add-one (before + asked))) ∙ sym is)

-- there is one where fewer were taken than there are
some_there : (book : List Entry) (k : ℕ) → k < length book → slice_get book k ≡ None → ⊥
some_there book k less none = elim (slice_get_cases book k).1 [ inl here ↦ (let some = here.2 in absurd cc) | inr past ↦ absurd (omega (arith, past.0)) ]

-- as many as are wanted are all
all_taken : (at_most : ℕ) (xs : List Entry) → take (min (length xs) at_most) xs ≡ take at_most xs
all_taken at_most xs =
    elim (slice_get_cases xs at_most).1 [
      | inl here ↦ (let least : min (length xs) at_most ≡ at_most = omega (arith, here.1) in ap (λ n. take n xs) least)
      | inr past ↦ (let least : min (length xs) at_most ≡ length xs = omega (arith, past.0) in ap (λ n. take n xs) least ∙ take_all (length xs) xs (omega arith) ∙ sym (take_all at_most xs past.0))
    ]

pub page_is : (from at_most : ℕ) (book : List Entry) → take (min (length book - (from - 1)) at_most) (drop (from - 1) book) ≡ entries_from from at_most book
page_is zero at_most book = let same : length book - 0 ≡ length book = omega arith in ap (λ n. take (min n at_most) book) same ∙ all_taken at_most book
page_is (suc before) at_most book =
    let same : suc before - 1 ≡ before = omega arith in
    ap (λ n. take (min (length book - n) at_most) (drop n book)) same ∙ ap (λ n. take (min n at_most) (drop before book)) (sym (length-drop before book)) ∙ all_taken at_most (drop before book)

in_turn : (trees : Trees) (n : ℕ) (done : List Entry) (m : ℕ) (command : Entry) → n + length done ≡ m → InTurn n trees done → IsEntry m trees (Some command) → InTurn n trees (done ++ command ∷ [])
in_turn trees n [] m command is h one = let same : m ≡ n = omega (arith, is) in (subst (λ k. IsEntry k trees (Some command)) same one, tt)
in_turn trees n (x ∷ xs) m command is h one = let later : n + 1 + length xs ≡ m = omega (arith, is) in (h.0, in_turn trees (n + 1) xs m command later h.1 one)

-- there is no row where there is no command
no_row : (n : ℕ) (trees : Trees) (row : Option EntryRow) → FirstOf kept_entry n trees row → MatchOption row (◌≡◌ {A = Option Entry} None None) (λ (r : EntryRow). (said : Option Act) × KindStated r.kind n trees said × ((it : Entry) × (◌≡◌ {A = Option Entry} None (Some it)) × (Some it ≡ command_said r.doc said))) → FirstOf kept_entry n trees None
no_row n trees None first says = first
no_row n trees (Some r) first says = let never = says.2.1 in absurd cc

-- so many entries were found behind the first, and there are so many in all; so over any rows
pub record EntriesWalk (before last asked : ℕ) (old new : State) (done : List Entry) : Type 0 where
  pub reads : Reads {V = ℕ} (λ book v. (last ≡ length book) × (done ≡ take asked (drop before book))) old new (Ok 0)
  pub any_rows : ReadsAny {V = ℕ} (λ trees v. IsLast trees last × InTurn (before + 1) trees done) old new (Ok 0)
  pub count : length done ≡ asked

pub entries_begun : (before last : ℕ) (old new : State) (done : List Entry) → done ≡ [] → Reads (λ book n. n ≡ length book) old new (Ok last) → ReadsAny IsLast old new (Ok last) → EntriesWalk before last 0 old new done
entries_begun before last old new done none reads any = record {
  reads = told _ _ old new last 0 (λ book b is. (is, none)) reads;
  any_rows = record { found = λ clean has. (any.found clean has, subst (InTurn (before + 1) old.now.trees) (sym none) tt) };
  count = ap length none;
}

module _ (before last asked : ℕ) (a b c : State) (done : List Entry) (walk : EntriesWalk before last asked a b done) where
  abbrev Found : List Entry → Option Entry → Type 0
  Found book found = found ≡ entry_at book (before + asked + 1)

  module _ (found : Option Entry) (reads : ReadsOr IsUnstated Found b c (Ok found)) (any : ReadsAny (IsEntry (before + asked + 1)) b c (Ok found)) where
    one : Reads Found b c (Ok found)
    one = answered IsUnstated Found b c found reads

    both : Reads (λ book f. ((last ≡ length book) × (done ≡ take asked (drop before book))) × Found book f) a c (Ok found)
    both = reads_then _ Found a b c 0 (Ok found) walk.reads one

    early : HasCleanDisk c → HasCleanDisk b
    early clean = omega (arith, one.within.survives.clean)

    pub entries_more : (command : Entry) (longer : List Entry) → found ≡ Some command → longer ≡ done ++ command ∷ [] → EntriesWalk before last (asked + 1) a c longer
    entries_more command longer some more = record {
      reads = told _ _ a c found 0 (λ book is_book h. (h.0.0, more ∙ ap (λ l. l ++ command ∷ []) h.0.1 ∙ sym (one_more book before asked command (sym some ∙ h.1)))) both;
      any_rows = record {
        found = λ clean has.
            let known = walk.any_rows.found (early clean) has in
            let it = subst (IsEntry (before + asked + 1) a.now.trees) some ((any_later _ (IsEntry (before + asked + 1)) a b c 0 found walk.reads one.within any).found clean has) in
            let number : before + 1 + length done ≡ before + asked + 1 = omega (arith, walk.count) in
            (known.0, subst (InTurn (before + 1) a.now.trees) (sym more) (in_turn a.now.trees (before + 1) done (before + asked + 1) command number known.1 it));
      };
      count = ap length more ∙ length-append done (command ∷ []) ∙ ap (λ n. n + 1) walk.count;
    }

    pub entries_missing : {W : Type 0} (Q : List Entry → W → Type 0) (at_most : ℕ) (result : Result W TableFault) → found ≡ None → asked < min (last - before) at_most → result ≡ Err (fault.Damaged table.Entry) → ReadsOr IsSkipped Q a c result
    entries_missing Q at_most result none less is =
        refuses IsSkipped _ Q a c found table.Entry result is
        (λ book is_book h.
        let within : before + asked < length book = omega (arith, h.0.0, less) in
        some_there book (before + asked) within (sym (ap (entry_at book) (add-one (before + asked))) ∙ sym h.1 ∙ none))
        (λ clean has.
        let known = walk.any_rows.found (early clean) has in
        let it = subst (IsEntry (before + asked + 1) a.now.trees) none ((any_later _ (IsEntry (before + asked + 1)) a b c 0 found walk.reads one.within any).found clean has) in
        inr (refl, record { number = before + asked + 1; last = last; is_last = known.0; first = omega arith; within = omega (arith, less); none = no_row (before + asked + 1) a.now.trees it.row it.first it.says })) both

    pub entries_starved : {W : Type 0} (Q : List Entry → W → Type 0) (result : Result W TableFault) → IsErrAnd result (λ e. e ≡ fault.Memory) → ReadsOr IsSkipped Q a c result
    entries_starved Q result is = inl (starved _ Q a c found result is both)

  pub entries_stopped : {W : Type 0} (Q : List Entry → W → Type 0) (e : TableFault) (result : Result W TableFault) → IsErrAnd result (λ f. f ≡ e) → ReadsOr IsUnstated Found b c (Err e) → ReadsOr IsSkipped Q a c result
  entries_stopped Q e result is r = handed_on IsUnstated IsSkipped (λ name trees why. inl why) _ Found Q a b c 0 e result is walk.reads r

-- as many were found as are wanted
pub entries_ended : (from at_most before last asked wanted : ℕ) (a b : State) (found : List Entry) {R : Type 0} (r : R) (view : R → List Entry) → view r ≡ found → asked ≤ wanted → wanted ≤ asked → wanted ≡ min (last - before) at_most → before ≡ from - 1 → EntriesWalk before last asked a b found
    → Reads (λ book v. view v ≡ entries_from from at_most book) a b (Ok r)
entries_ended from at_most before last asked wanted a b found r view is few many wants begins walk =
    let all : asked ≡ wanted = omega (arith, few, many) in
    told _ _ a b 0 r
    (λ book is_book h. is ∙ h.1 ∙ ap₂ (λ n m. take n (drop m book)) (all ∙ wants ∙ ap₂ (λ n m. min (n - m) at_most) h.0 begins) begins ∙ page_is from at_most book) walk.reads

pub entries_ended-any : (from at_most before last asked wanted : ℕ) (a b : State) (found : List Entry) {R : Type 0} (r : R) (view : R → List Entry) → view r ≡ found → asked ≤ wanted → wanted ≤ asked → wanted ≡ min (last - before) at_most → before ≡ from - 1 → EntriesWalk before last asked a b found
    → ReadsAny (λ trees v. AreEntries from at_most trees (view v)) a b (Ok r)
entries_ended-any from at_most before last asked wanted a b found r view is few many wants begins walk = record {
  found = λ clean has.
      let known = walk.any_rows.found clean has in
      let all : asked ≡ wanted = omega (arith, few, many) in
      subst (AreEntries from at_most a.now.trees) (sym is) (record {
        last = last;
        is_last = known.0;
        count = walk.count ∙ all ∙ wants ∙ ap (λ m. min (last - m) at_most) begins;
        each = subst (λ m. InTurn (m + 1) a.now.trees found) begins known.1;
      });
}
