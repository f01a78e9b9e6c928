-- Look-ups one after another, whatever they ask.
use Rattle.std.proofs.Common.{◌≡◌, inl, inr, List, Ok, Err, Result, refl, sym, ap, subst, ◌∙◌, arith}
use Rattle.std.specs.Prelude.{IsErrAnd, IfOk}
use Rattle.sqlite.specs.Effect.{Database}
use Rattle.sqlite.specs.State.{State, HasCleanDisk}
use Rattle.mx_base.specs.declared.point.Point.{Point}
use Rattle.mx_book.specs.commands.Act.{Entry}
use Rattle.mx_book.specs.Book.{IsBook}
use Rattle.mx_layout.specs.TableName.{TableName}
use Rattle.mx_layout.specs.declared.fault.TableFault.{TableFault}
use Rattle.mx_layout.specs.declared.fault.TableFault.TheVariants as fault
use Rattle.mx_layout.specs.Crash.{StaysInside}
use Rattle.mx_layout.proofs.CrashLemmas.{stays_then, within_then}
use Rattle.mx_tables.specs.Calls.{OnRead}
use Rattle.mx_book_tables.specs.stands.Stands.{HasRowsAt}
use Rattle.mx_lookups.specs.numbers.Damage.{IsDamaged}
use Rattle.mx_lookups.specs.numbers.Reads.{HasTablesOfRowsAt, ReadsAt, StandsForAt}

-- a look-up that did not answer is one of anything
pub stops : {at : Point} {V W : Type 0} (P : List Entry → V → Type 0) (Q : List Entry → W → Type 0) (old new : State) (e : TableFault) → ReadsAt at P old new (Err e) → ReadsAt at Q old new (Err e)
stops P Q old new e r = record {
  read = λ _ _ _. tt;
  cause = r.cause;
  no_book = λ clean name is. r.no_book clean name (let same : e ≡ fault.Damaged name = cc in ap Err same);
  damaged = λ clean has name is. r.damaged clean has name (let same : e ≡ fault.Damaged name = cc in ap Err same);
  unchanged = r.unchanged;
  inside = r.inside;
  within = r.within;
}

-- the fault is handed on
pub stopped : {at : Point} {V W : Type 0} (P : List Entry → V → Type 0) (Q : List Entry → W → Type 0) (old new : State) (e : TableFault) (result : Result W TableFault) → IsErrAnd result (λ f. f ≡ e) → ReadsAt at P old new (Err e) → ReadsAt at Q old new result
stopped {at} P Q old new e (Ok w) is r = absurd is
stopped {at} P Q old new e (Err f) is r = stops P Q old new f (subst (λ x. ReadsAt at P old new (Err x)) (sym is) r)

-- what follows from the answer
pub told : {at : Point} {V W : Type 0} (P : List Entry → V → Type 0) (Q : List Entry → W → Type 0) (old new : State) (v : V) (w : W) → ((book : List Entry) → IsBook book → P book v → Q book w) → ReadsAt at P old new (Ok v) → ReadsAt at Q old new (Ok w)
told P Q old new v w so r = record {
  read = λ clean book stands. so book stands.rows.is_book (r.read clean book stands);
  cause = tt;
  no_book = λ clean name is. absurd cc;
  damaged = λ clean has name is. absurd cc;
  unchanged = r.unchanged;
  inside = r.inside;
  within = r.within;
}

-- what was answered is so of no book, and the table is damaged
pub refused : {at : Point} {V W : Type 0} (P : List Entry → V → Type 0) (Q : List Entry → W → Type 0) (old new : State) (v : V) (name : TableName) → ((book : List Entry) → IsBook book → P book v → ⊥) → (HasCleanDisk new → HasTablesOfRowsAt at old.now.schema → IsDamaged name old.now.trees) → ReadsAt at P old new (Ok v) → ReadsAt at Q old new (Err (fault.Damaged name))
refused P Q old new v name never reason r = record {
  read = λ _ _ _. tt;
  cause = inr (inr (name, refl));
  no_book = λ clean _ _ book stands. never book stands.rows.is_book (r.read clean book stands);
  damaged = λ clean has other is. (let same : name ≡ other = cc in subst (λ it. IsDamaged it old.now.trees) same (reason clean has));
  unchanged = r.unchanged;
  inside = r.inside;
  within = r.within;
}

pub map_read : {V : Type 0} (P Q : Type 0) (r : Result V TableFault) → (P → Q) → OnRead r P → OnRead r Q
map_read P Q (Ok v) f h = f h
map_read P Q (Err (fault.Damaged t)) f h = f h
map_read P Q (Err fault.Memory) f h = tt
map_read P Q (Err fault.Store) f h = tt
map_read P Q (Err fault.NotOurs) f h = tt
map_read P Q (Err fault.Exists) f h = tt

pub map_ok : {V : Type 0} (P Q : V → Type 0) (r : Result V TableFault) → ((v : V) → P v → Q v) → IfOk r P → IfOk r Q
map_ok P Q (Ok v) f h = f v h
map_ok P Q (Err e) f h = tt

-- one look-up behind another
pub reads_then : {at : Point} {V W : Type 0} (P : List Entry → V → Type 0) (Q : List Entry → W → Type 0) (a b c : State) (v : V) (result : Result W TableFault) → ReadsAt at P a b (Ok v) → ReadsAt at Q b c result → ReadsAt at (λ book w. P book v × Q book w) a c result
reads_then {at} P Q a b c v result one two =
    let early : HasCleanDisk c → HasCleanDisk b = λ clean. omega (arith, two.within.survives.clean) in
    let same : HasCleanDisk c → HasTablesOfRowsAt at a.now.schema → b.now ≡ a.now = λ clean has. one.unchanged (early clean) has in
    let has_too : HasCleanDisk c → HasTablesOfRowsAt at a.now.schema → HasTablesOfRowsAt at b.now.schema = λ clean has. subst (λ (d : Database). HasTablesOfRowsAt at d.schema) (sym (same clean has)) has in
    let stands_too : HasCleanDisk c → (book : List Entry) → StandsForAt at a book → StandsForAt at b book = λ clean book stands. record { schema = has_too clean stands.schema; rows = subst (λ (d : Database). HasRowsAt at d.trees book) (sym (same clean stands.schema)) stands.rows } in
    record {
      read = λ clean book stands. map_ok _ _ result (λ w q. (one.read (early clean) book stands, q)) (two.read clean book (stands_too clean book stands));
      cause = two.cause;
      no_book = λ clean name is book stands. two.no_book clean name is book (stands_too clean book stands);
      damaged = λ clean has name is. subst (λ (d : Database). IsDamaged name d.trees) (same clean has) (two.damaged clean (has_too clean has) name is);
      unchanged = λ clean has. map_read _ _ result (λ more. more ∙ same clean has) (two.unchanged clean (has_too clean has));
      inside = λ clean begun. (let stays = one.inside (early clean) begun in map_read (StaysInside b c) (StaysInside a c) result (stays_then a b c stays) (two.inside clean stays.mode));
      within = within_then a b c one.within (λ clean begun. (one.inside clean begun).mode) two.within;
    }

-- what follows from what is answered, where it is
pub follows : {at : Point} {V : Type 0} (P Q : List Entry → V → Type 0) (old new : State) (result : Result V TableFault) → ((book : List Entry) (v : V) → IsBook book → P book v → Q book v) → ReadsAt at P old new result → ReadsAt at Q old new result
follows P Q old new result so r = record {
  read = λ clean book stands. map_ok (P book) (Q book) result (λ v p. so book v stands.rows.is_book p) (r.read clean book stands);
  cause = r.cause;
  no_book = r.no_book;
  damaged = r.damaged;
  unchanged = r.unchanged;
  inside = r.inside;
  within = r.within;
}

-- memory ran out behind what was answered
pub no_memory : {at : Point} {V W : Type 0} (P : List Entry → V → Type 0) (Q : List Entry → W → Type 0) (old new : State) (v : V) → ReadsAt at P old new (Ok v) → ReadsAt at Q old new (Err fault.Memory)
no_memory P Q old new v r = record {
  read = λ _ _ _. tt;
  cause = inl refl;
  no_book = λ clean name is. absurd cc;
  damaged = λ clean has name is. absurd cc;
  unchanged = λ _ _. tt;
  inside = λ _ _. tt;
  within = r.within;
}
