-- The kept rows of all items, as they are known or as the registers give them.
use Rattle.std.proofs.Common.{◌≡◌, ◌∙◌, ◌⊎◌, inl, inr, List, [], Option, None, Some, Ok, Err, Result, IsTrue, refl, sym, ap, subst}
use Rattle.std.specs.Prelude.{⊤, Contains, IsErrAnd, MatchResult}
use Rattle.std.proofs.lemmas.List.Elements.{All-contains}
use Rattle.sqlite.specs.State.{State, HasCleanDisk}
use Rattle.sqlite.specs.Tree.{Trees}
use Rattle.mx_book.specs.commands.Act.{Entry}
use Rattle.mx_book.specs.Book.{IsBook}
use Rattle.mx_base.specs.declared.point.Point.{Point}
use Rattle.mx_registers.specs.points.Points.{moving}
use Rattle.mx_layout.specs.TableName.{TableName}
use Rattle.mx_layout.specs.declared.fault.Table.TheVariants as table
use Rattle.mx_layout.specs.declared.fault.TableFault.{TableFault}
use Rattle.mx_layout.specs.declared.fault.TableFault.TheVariants.{Memory, Store, Damaged}
use Rattle.mx_layout.specs.Contents.{rows_in}
use Rattle.mx_layout.specs.Crash.{StaysInside}
use Rattle.mx_layout.specs.Names.{table_named}
use Rattle.mx_layout.specs.Point.{IsStop}
use Rattle.mx_layout.specs.kept.Family.{IsReadable}
use Rattle.mx_book_tables.specs.stands.Schemas.{schema_at}
use Rattle.mx_book_tables.specs.stands.Stands.{StandsAt}
use Rattle.mx_book_tables.proofs.StandsProofs.RowLemmas.{readable_stored}
use Rattle.mx_book_tables.proofs.StandsProofs.SchemaLemmas.{has_tables}
use Rattle.mx_tables.specs.Calls.{OnDamaged}
use Rattle.mx_tables.specs.inserts.Sets.{IsDamaged, ReadsTables}
use Rattle.mx_verify.specs.derived.Kept.{AreKeptOf}
use Rattle.mx_registers.specs.Left.{all_rows}
use Rattle.mx_registers.specs.file.Tables.{AreFilePut, AreRegistersIn}
use Rattle.mx_verify.specs.merged.Merging.{merging}
use Rattle.mx_verify.specs.declared.merged.merged.NoBook.{NoBook}
use Rattle.mx_verify.specs.declared.merged.merged.NoBook.TheVariants as no_book
use Rattle.mx_verify.specs.declared.derived.kept.KeptRows.{KeptRows}
use Rattle.mx_verify.specs.declared.derived.kept.Unkept.{Unkept}
use Rattle.mx_verify.specs.declared.derived.kept.Unkept.TheVariants as why
use Rattle.mx_registers.specs.declared.file.file_rows.FileRows.{FileRows}
use Rattle.mx_book_tables.specs.reading.Damage.{table_of}
use Rattle.mx_book_tables.specs.reading.Stored.{AreRegisters, HasRegisters}
use Rattle.mx_book_tables.proofs.ReadingProofs.RegisterLemmas.{moved_at_bases, moved_at_totals, registers_of, schema_at_bases, schema_at_totals}
use Rattle.mx_base.specs.declared.rows.rows.EntryKind.{EntryKind}
use Rattle.mx_migrate.specs.settle.Choices.{FindsKept, IsKeeping, IsToBlame, StandsIn, fault_by}
use Rattle.mx_migrate.specs.settle.Found.{AreMerged, KnowsIn}
use Rattle.mx_migrate.specs.settle.Items.{Knows}
use Rattle.mx_migrate.specs.settle.Numbers.{late_table}
use Rattle.mx_migrate.proofs.SettleProofs.NumberLemmas.{late_none}

-- ── rows that are known ──

pub known_found : (known : Option KeptRows) (kept : KeptRows) (s : State) → known ≡ Some kept → FindsKept known s s (Ok kept)
known_found known kept s is = record {
  whole = λ at book keeping clean stands knows. subst (λ k. Knows k book) is knows;
  cause = tt;
  damaged = λ _ _ _ _. tt;
  given = λ at keeping clean lies is_open knows. (subst (λ k. KnowsIn at k s.now.trees) is knows).1;
}

pub none_known : (known : Option KeptRows) (old new : State) (result : Result KeptRows TableFault) → known ≡ None → FindsKept None old new result → FindsKept known old new result
none_known known old new result is finds = subst (λ k. FindsKept k old new result) (sym is) finds

-- ── the registers of a file at such a point ──

keeping_has : (at : Point) → IsKeeping at → HasRegisters (schema_at at)
keeping_has at (mark, inl is) = subst (λ p. HasRegisters (schema_at p)) (sym is) (schema_at_totals mark)
keeping_has at (mark, inr is) = subst (λ p. HasRegisters (schema_at p)) (sym is) (schema_at_bases mark)

keeping_are : (at : Point) (trees : Trees) (rows : FileRows) (book : List Entry) → IsKeeping at → StandsAt at trees book → AreRegisters trees rows → AreRegistersIn rows book
keeping_are at trees rows book (mark, inl is) stands are = registers_of (moving 3 mark) trees rows book (moved_at_totals mark book) are (subst (λ p. StandsAt p trees book) is stands).rows
keeping_are at trees rows book (mark, inr is) stands are = registers_of (moving 4 mark) trees rows book (moved_at_bases mark book) are (subst (λ p. StandsAt p trees book) is stands).rows

-- of tables that stand for a book no row is none of its type
none_bad : (at : Point) (trees : Trees) (book : List Entry) (name : TableName) → StandsAt at trees book → Contains (schema_at at).tables (table_named name) → IsDamaged trees name → ⊥
none_bad at trees book name stands there damaged =
    damaged.2 (All-contains (IsReadable name) (rows_in (table_named name) trees) damaged.0 (readable_stored at trees book stands.rows name ((has_tables at name).1 there)) damaged.1)

-- ── why there are no kept rows ──

no_memory : (w : Unkept) (name : TableName) → fault_by w ≡ Damaged name → w ≡ why.Memory → ⊥
no_memory w name is memory = let two : Memory ≡ Damaged name = sym (ap fault_by memory) ∙ is in absurd cc

causes : (w : Unkept) → (fault_by w ≡ Memory) ⊎ ((fault_by w ≡ Store) ⊎ ((name : TableName) × (fault_by w ≡ Damaged name)))
causes why.Memory = inl refl
causes (why.Damaged kind) = inr (inr (table_of kind, refl))
causes why.Differs = inr (inr (table.Entry, refl))

-- ── rows that the registers give ──

module _ (old new : State) (begun : IsTrue old.in_transaction) where
  -- the registers were not read
  unread : (e : TableFault) → ReadsTables HasRegisters AreRegisters old new (Err e) → FindsKept None old new (Err e)
  unread e r = record {
    whole = λ at book keeping clean stands knows. by at book keeping clean stands r.cause;
    cause = r.cause;
    damaged = λ at keeping clean lies name is.
        let opened = (subst (λ f. OnDamaged f (StaysInside old new)) is (r.inside clean begun)).was_open in
        let here = lies opened in
        (opened, inl (r.damaged clean (subst HasRegisters (sym here.0) (keeping_has at keeping)) name is));
    given = λ _ _ _ _ _ _. tt;
  }
    where
      by : (at : Point) (book : List Entry) → IsKeeping at → HasCleanDisk new → (IsTrue old.is_open → StandsIn at book old.now) → (e ≡ Memory) ⊎ ((e ≡ Store) ⊎ ((name : TableName) × (e ≡ Damaged name))) → IsStop e
      by at book keeping clean stands (inl memory) = inl memory
      by at book keeping clean stands (inr (inl store)) = inr store
      by at book keeping clean stands (inr (inr damaged)) =
          let opened = (subst (λ f. OnDamaged f (StaysInside old new)) damaged.1 (r.inside clean begun)).was_open in
          let here = stands opened in
          let has = keeping_has at keeping in
          absurd (none_bad at old.now.trees book damaged.0 here.1 (r.there (schema_at at) has damaged.0 damaged.1) (r.damaged clean (subst HasRegisters (sym here.0) has) damaged.0 damaged.1))

  pub unread_stops : (e : TableFault) (result : Result KeptRows TableFault) → IsErrAnd result (λ f. f ≡ e) → ReadsTables HasRegisters AreRegisters old new (Err e) → FindsKept None old new result
  unread_stops e (Ok kept) is r = absurd is
  unread_stops e (Err f) is r = subst (λ x. FindsKept None old new (Err x)) (sym is) (unread e r)

  module _ (rows : FileRows) (r : ReadsTables HasRegisters AreRegisters old new (Ok rows)) where
    opened : HasCleanDisk new → IsTrue old.is_open
    opened clean = (r.inside clean begun).was_open

    are_read : (at : Point) → IsKeeping at → HasCleanDisk new → old.now.schema ≡ schema_at at → AreRegisters old.now.trees rows
    are_read at keeping clean has = r.rows clean (subst HasRegisters (sym has) (keeping_has at keeping))

    -- what was made of them is so of each book whose registers they are
    abbrev Makes : Result KeptRows Unkept → Type 0
    Makes made = (book : List Entry) → IsBook book → AreRegistersIn rows book → MatchResult made (λ kept. AreKeptOf kept book) (λ w. w ≡ why.Memory)

    -- and so they give this, over any rows
    abbrev Gives : Result (List Entry) NoBook → Type 0
    Gives given = (put : FileRows) × AreFilePut rows put × (merging [] put.registers.entries.items (all_rows put.registers) ≡ given)

    merged : AreRegisters old.now.trees rows → late_table rows ≡ None → (given : Result (List Entry) NoBook) → Gives given → AreMerged old.now.trees given
    merged are early given gives = record { rows = rows; are = are; early = early; put = gives.0; in_order = gives.1; gives = gives.2 }

    -- a table has a row whose number no entry can have
    pub late_stops : (name : TableName) → late_table rows ≡ Some name → FindsKept None old new (Err (Damaged name))
    late_stops name late = record {
      whole = λ at book keeping clean stands knows.
          let here = stands (opened clean) in
          let b = here.1.rows.is_book in
          let none = late_none rows book b (keeping_are at old.now.trees rows book keeping here.1 (are_read at keeping clean here.0)) in
          let two : Some name ≡ None = sym late ∙ none in
          absurd cc;
      cause = inr (inr (name, refl));
      damaged = λ at keeping clean lies other is.
          let same : name ≡ other = cc in
          let here = lies (opened clean) in
          (opened clean, inr (inr (inl (record { rows = rows; are = are_read at keeping clean here.0; late = late ∙ ap Some same }))));
      given = λ _ _ _ _ _ _. tt;
    }

    pub kept_made : (kept : KeptRows) → late_table rows ≡ None → Makes (Ok kept) → (put : FileRows) × (book : List Entry) × AreFilePut rows put × (merging [] put.registers.entries.items (all_rows put.registers) ≡ Ok book) × AreKeptOf kept book → FindsKept None old new (Ok kept)
    kept_made kept early makes of = record {
      whole = λ at book keeping clean stands knows.
          let here = stands (opened clean) in
          let b = here.1.rows.is_book in
          (b, makes book b (keeping_are at old.now.trees rows book keeping here.1 (are_read at keeping clean here.0)));
      cause = tt;
      damaged = λ _ _ _ _. tt;
      given = λ at keeping clean lies is_open _. (of.1, merged (are_read at keeping clean (lies is_open).0) early (Ok of.1) (of.0, of.2, of.3), of.4);
    }

    -- what the reason says of the registers
    abbrev Says : Unkept → Type 0
    Says why.Memory = ⊤
    Says (why.Damaged kind) = Gives (Err (no_book.Damaged kind))
    Says why.Differs = Gives (Err no_book.Differs)

    pub as_said : (w : Unkept) → ((kind : EntryKind) → ◌≡◌ {A = Result KeptRows Unkept} (Err w) (Err (why.Damaged kind)) → Gives (Err (no_book.Damaged kind))) → (◌≡◌ {A = Result KeptRows Unkept} (Err w) (Err why.Differs) → Gives (Err no_book.Differs)) → Says w
    as_said why.Memory damaged differs = tt
    as_said (why.Damaged kind) damaged differs = damaged kind refl
    as_said why.Differs damaged differs = differs refl

    -- the table that is to blame is that of the rows, or of the entries
    to_blame : (are : AreRegisters old.now.trees rows) (w : Unkept) (name : TableName) → fault_by w ≡ Damaged name → late_table rows ≡ None → Says w → ((book : List Entry) → IsBook book → AreRegistersIn rows book → ⊥) → IsToBlame name old.now.trees
    to_blame are why.Memory name is early says none = absurd cc
    to_blame are (why.Damaged kind) name is early says none =
        let same : table_of kind ≡ name = cc in
        inl (kind, sym same, record { merged = record { rows = rows; are = are; early = early; put = says.0; in_order = says.1; gives = says.2 }; none = none })
    to_blame are why.Differs name is early says none =
        let same : table.Entry ≡ name = cc in
        inr (sym same, record { merged = record { rows = rows; are = are; early = early; put = says.0; in_order = says.1; gives = says.2 }; none = none })

    pub kept_unmade : (w : Unkept) → late_table rows ≡ None → Makes (Err w) → Says w → FindsKept None old new (Err (fault_by w))
    kept_unmade w early makes says = record {
      whole = λ at book keeping clean stands knows.
          let here = stands (opened clean) in
          inl (ap fault_by (makes book here.1.rows.is_book (keeping_are at old.now.trees rows book keeping here.1 (are_read at keeping clean here.0))));
      cause = causes w;
      damaged = λ at keeping clean lies name is.
          let here = lies (opened clean) in
          let are = are_read at keeping clean here.0 in
          (opened clean, inr (inr (inr (to_blame are w name is early says (λ book b in_rows. no_memory w name is (makes book b in_rows))))));
      given = λ _ _ _ _ _ _. tt;
    }
