-- A defect by the rows of its deferral and of its aircraft, and what the rows that have its number say of it.
use Rattle.std.proofs.Common.{◌≡◌, ℕ, ◌+◌, Bool, true, false, cond, ◌||◌, nat_eq, List, [], ◌∷◌, ◌++◌, filter, Option, Some, None, refl, sym, ap, subst, ◌∙◌, append_assoc}
use Rattle.std.specs.Prelude.{find, is_some, IsSomeAnd}
use Rattle.std.specs.List.{cons_option, list_any}
use Rattle.std.specs.Option.{option_and_then, option_eq, option_map}
use Rattle.std.proofs.lemmas.Bool.Decides.{Decides-eqb, same_from_decides}
use Rattle.std.proofs.lemmas.List.Folds.{list_any-append}
use Rattle.mx_book.specs.commands.Act.{Act, Entry, Deferred, Extended, Released, extension_of, lines_of}
use Rattle.mx_book.specs.commands.Same.{same_text}
use Rattle.mx_book.specs.declared.commands.deferral.Extension.{Extension}
use Rattle.mx_book.specs.declared.commands.release.Line.{Line}
use Rattle.mx_book.specs.declared.commands.release.Line.TheVariants.{Done, Rectified}
use Rattle.mx_book.proofs.CommandsProofs.SameLemmas.{text_same}
use Rattle.mx_book.specs.declared.defects.Defect.{Defect}
use Rattle.mx_book.specs.Book.{IsBook, is_book_from, is_new, entry_at}
use Rattle.mx_book.specs.Defect.{deferred_by, defect, extension, is_rectified, rectifies as line_rectifies}
use Rattle.mx_book.specs.Judge.{judge}
use Rattle.mx_book.specs.Register.{register}
use Rattle.mx_book.proofs.JudgeLemmas.{both_true}
use Rattle.mx_registers.specs.Lines.{lines_from}
use Rattle.mx_registers.specs.Names.{or_zero, seq_of_defect, seq_of_tail, defect_deferred}
use Rattle.mx_registers.specs.Registers.{gives_by, next, aircraft_rows, deferral_rows, extension_row, extension_rows, extensions_by, release_line_row, release_line_rows, release_lines_by}
use Rattle.mx_registers.proofs.NameLemmas.{said_at-number, tail_known}
use Rattle.mx_base.specs.declared.rows.rows.AircraftRow.{AircraftRow}
use Rattle.mx_base.specs.declared.rows.rows.DeferralRow.{DeferralRow}
use Rattle.mx_base.specs.declared.rows.rows.ExtensionRow.{ExtensionRow}
use Rattle.mx_base.specs.declared.rows.rows.ReleaseLineRow.{ReleaseLineRow}
use Rattle.mx_registers.proofs.KeptProofs.KnownLemmas.{other_name}
use Rattle.mx_row_rules.specs.found.Defects.{deferral_aircraft, defect_in, defect_said, extension_in, extension_said, is_rectified_in, rectifies}
use Rattle.mx_row_rules.specs.found.Given.{deferrals}
use Rattle.mx_row_rules.specs.found.Names.{tail_in}
use Rattle.mx_row_rules.proofs.FoundProofs.EntryLemmas.{entry_is_at, named_in, rows_found}
use Rattle.mx_row_rules.proofs.FoundProofs.FoundLemmas.{tail_numbered}
use Rattle.mx_row_rules.proofs.FoundProofs.ListLemmas.{any_same, first_left, is_any, some_is}
use Rattle.mx_row_rules.proofs.FoundProofs.NumberLemmas.{once, stays}
use Rattle.mx_row_rules.proofs.FoundProofs.RowLemmas.{HaveNumbers, Named, deferrals_law, named}
use Rattle.mx_row_rules.proofs.FoundProofs.ThereLemmas.{found_said, found_there, tail_there}

-- ── the defect with a number ──

pub defect_there : (book : List Entry) (doc : List ℕ) (n : ℕ) → seq_of_defect book doc ≡ Some n → is_some (defect book doc) ≡ true
defect_there book doc n h = found_there deferred_by (λ (d : Defect). d.doc) doc book n h

pub no_defect : (book : List Entry) (doc : List ℕ) → seq_of_defect book doc ≡ None → defect book doc ≡ None
no_defect book doc h = found_said deferred_by (λ (d : Defect). d.doc) doc book None h

module _ (book : List Entry) (b : IsBook book) (doc : List ℕ) (n : ℕ) where
  abbrev Says : List DeferralRow → Option Defect → Type 0
  Says rows said = IsSomeAnd (deferral_aircraft rows) (λ m. defect_in doc rows (filter (λ (row : AircraftRow). nat_eq row.seq m) (aircraft_rows book)) ≡ said)

  -- the rows that an entry gives say the defect that it defers
  says : (name : List ℕ) (act : Act) → defect_deferred (record { doc = name; act = act }) ≡ Some doc → Named book act → Says (deferrals.given n book act) (deferred_by (record { doc = name; act = act }))
  says name (Deferred d) h there =
      let m = or_zero (seq_of_tail book d.tail) in
      let number = some_is (seq_of_tail book d.tail) there in
      let same : doc ≡ name = cc in
      let tail : tail_in (filter (λ (row : AircraftRow). nat_eq row.seq m) (aircraft_rows book)) ≡ Some d.tail = tail_numbered book m ∙ tail_known book d.tail (tail_there book d.tail number.0 number.1) in
      ap (option_map (λ (t : List ℕ). defect_said doc t (record { seq = n; aircraft = m; moment = d.moment; reference = d.reference; category = d.category }))) tail
      ∙ ap (λ (t : List ℕ). deferred_by (record { doc = t; act = Deferred d })) same
  says name _ h there = absurd cc

  pub defect_found : seq_of_defect book doc ≡ Some n → Says (filter (λ (row : DeferralRow). nat_eq row.seq n) (deferral_rows book)) (defect book doc)
  defect_found h = at (entry_at book n) refl (said_at-number defect_deferred book doc n h)
    where
      at : (o : Option Entry) → entry_at book n ≡ o → option_and_then defect_deferred o ≡ Some doc → Says (filter (λ (row : DeferralRow). nat_eq row.seq n) (deferral_rows book)) (defect book doc)
      at None i g = absurd cc
      at (Some e) i g =
          let place = entry_is_at book b n e i in
          let is : defect book doc ≡ deferred_by e = found_said deferred_by (λ (d : Defect). d.doc) doc book (Some n) h ∙ ap (option_and_then deferred_by) i in
          subst (λ rows. Says rows (defect book doc)) (sym (rows_found deferrals deferrals_law book n e place))
          (subst (Says (deferrals.given n book e.act)) (sym is) (says e.doc e.act g (named_in book n e place)))

-- ── what names a defect by its number ──

-- two defects have one number exactly where they have one document
pub one_defect : (book : List Entry) (a b : List ℕ) → is_some (seq_of_defect book a) ≡ true → nat_eq (or_zero (seq_of_defect book a)) (or_zero (seq_of_defect book b)) ≡ same_text a b
one_defect book a b h =
    same_from_decides {P = a ≡ b} _ _ (
      (λ e. once defect_deferred book a b h ((Decides-eqb (or_zero (seq_of_defect book a)) (or_zero (seq_of_defect book b))).0 e)),
      (λ e. (Decides-eqb (or_zero (seq_of_defect book a)) (or_zero (seq_of_defect book b))).1 (ap (λ t. or_zero (seq_of_defect book t)) e)),
    )
    (text_same a b)

-- a test of numbers that says of each defect of a book whether it has the document
module _ (doc : List ℕ) (test : ℕ → Bool) where
  abbrev Agrees : List Entry → Type 0
  Agrees book = (name : List ℕ) → is_some (seq_of_defect book name) ≡ true → test (or_zero (seq_of_defect book name)) ≡ same_text name doc

  -- it says so of the numbers that a defect has behind the first entries
  agrees_before : (before more : List Entry) (name : List ℕ) → Agrees (before ++ more) → is_some (seq_of_defect before name) ≡ true → test (or_zero (seq_of_defect before name)) ≡ same_text name doc
  agrees_before before more name agrees h =
      let kept = stays defect_deferred before more name h in
      ap (λ o. test (or_zero o)) (sym kept) ∙ agrees name (ap is_some kept ∙ h)

  -- ── extensions ──

  extended_if : (b c : Bool) (row : ExtensionRow) (x : Extension) (o : Option ExtensionRow) (p : Option Extension) → b ≡ c → (c ≡ true → extension_said doc row ≡ x) → option_map (extension_said doc) o ≡ p
      → option_map (extension_said doc) (cond b (Some row) o) ≡ cond c (Some x) p
  extended_if true true row x o p e same h = ap (λ (y : Extension). Some y) (same refl)
  extended_if false false row x o p e same h = h
  extended_if true false row x o p e same h = absurd cc
  extended_if false true row x o p e same h = absurd cc

  extension_from : (before later : List Entry) → is_book_from before later ≡ true → Agrees (before ++ later)
      → option_map (extension_said doc) (find (λ (row : ExtensionRow). test row.defect) (gives_by extensions_by before later)) ≡ find (λ (x : Extension). same_text x.defect doc) (register extension_of later)
  extension_from before [] judged agrees = refl
  extension_from before (e ∷ later) judged agrees =
      let both = both_true (is_new (judge before e)) (is_book_from (before ++ e ∷ []) later) judged in
      at e.act both.0 (extension_from (before ++ e ∷ []) later both.1 (subst Agrees (sym (append_assoc before (e ∷ []) later)) agrees))
    where
      at : (act : Act) → is_new (judge before (record { doc = e.doc; act = act })) ≡ true
          → option_map (extension_said doc) (find (λ (row : ExtensionRow). test row.defect) (gives_by extensions_by (before ++ e ∷ []) later)) ≡ find (λ (x : Extension). same_text x.defect doc) (register extension_of later)
          → option_map (extension_said doc) (find (λ (row : ExtensionRow). test row.defect) (extensions_by before act ++ gives_by extensions_by (before ++ e ∷ []) later)) ≡ find (λ (x : Extension). same_text x.defect doc) (cons_option (extension_of act) (register extension_of later))
      at (Extended x) new rest =
          let m = or_zero (seq_of_defect before x.defect) in
          extended_if (test m) (same_text x.defect doc) (extension_row (next before) m x) x _ _
          (agrees_before before (e ∷ later) x.defect agrees (named before e.doc (Extended x) new))
          (λ same i. record x { defect = sym ((text_same x.defect doc).0 same) i }) rest
      at _ new rest = rest

  -- ── lines of releases ──

  -- the line is of a defect whose number passes
  abbrev tests_line : ReleaseLineRow → Bool
  tests_line row = option_eq (λ m k. test m) row.defect (Some 0)

  line_tested : (before more : List Entry) (seq line : ℕ) (x : Line) → Agrees (before ++ more) → HaveNumbers before (x ∷ []) → tests_line (release_line_row before seq line x) ≡ line_rectifies doc x
  line_tested before more seq line (Done item task) agrees there = refl
  line_tested before more seq line (Rectified name) agrees there = agrees_before before more name agrees there.0

  lines_tested : (before more : List Entry) (seq line : ℕ) (xs : List Line) → Agrees (before ++ more) → HaveNumbers before xs → list_any tests_line (lines_from (release_line_row before) seq line xs) ≡ list_any (line_rectifies doc) xs
  lines_tested before more seq line [] agrees there = refl
  lines_tested before more seq line (x ∷ xs) agrees there =
      ap (λ c. c || list_any tests_line (lines_from (release_line_row before) seq (line + 1) xs)) (line_tested before more seq line x agrees (there.0, tt))
      ∙ ap (λ c. line_rectifies doc x || c) (lines_tested before more seq (line + 1) xs agrees there.1)

  rectified_from : (before later : List Entry) → is_book_from before later ≡ true → Agrees (before ++ later)
      → list_any tests_line (gives_by release_lines_by before later) ≡ list_any (λ (e : Entry). list_any (line_rectifies doc) (lines_of e.act)) later
  rectified_from before [] judged agrees = refl
  rectified_from before (e ∷ later) judged agrees =
      let both = both_true (is_new (judge before e)) (is_book_from (before ++ e ∷ []) later) judged in
      list_any-append tests_line (release_lines_by before e.act) (gives_by release_lines_by (before ++ e ∷ []) later)
      ∙ ap (λ c. c || list_any tests_line (gives_by release_lines_by (before ++ e ∷ []) later)) (at e.act both.0)
      ∙ ap (λ c. list_any (line_rectifies doc) (lines_of e.act) || c) (rectified_from (before ++ e ∷ []) later both.1 (subst Agrees (sym (append_assoc before (e ∷ []) later)) agrees))
    where
      at : (act : Act) → is_new (judge before (record { doc = e.doc; act = act })) ≡ true → list_any tests_line (release_lines_by before act) ≡ list_any (line_rectifies doc) (lines_of act)
      at (Released r lines) new = lines_tested before (e ∷ later) (next before) 1 lines agrees (named before e.doc (Released r lines) new).1
      at _ new = refl

-- ── by the number of the defect ──

module _ (book : List Entry) (b : IsBook book) (doc : List ℕ) where
  module _ (n : ℕ) (number : seq_of_defect book doc ≡ Some n) where
    agrees : Agrees doc (λ m. nat_eq m n) book
    agrees name there = ap (nat_eq (or_zero (seq_of_defect book name))) (sym (ap or_zero number)) ∙ one_defect book name doc there

    pub extension_is : extension_in doc (filter (λ (row : ExtensionRow). nat_eq row.defect n) (extension_rows book)) ≡ extension book doc
    extension_is = ap (option_map (extension_said doc)) (first_left (λ (row : ExtensionRow). nat_eq row.defect n) (extension_rows book)) ∙ extension_from doc (λ m. nat_eq m n) [] book b.judged agrees

    line_is : (row : ReleaseLineRow) → rectifies n row ≡ tests_line doc (λ m. nat_eq m n) row
    line_is row = at row.defect
      where
        at : (o : Option ℕ) → option_eq nat_eq o (Some n) ≡ option_eq (λ m k. nat_eq m n) o (Some 0)
        at None = refl
        at (Some m) = refl

    pub rectified_is : is_rectified_in (filter (rectifies n) (release_line_rows book)) ≡ is_rectified book doc
    rectified_is = is_any (rectifies n) (release_line_rows book) ∙ any_same (rectifies n) (tests_line doc (λ m. nat_eq m n)) line_is (release_line_rows book) ∙ rectified_from doc (λ m. nat_eq m n) [] book b.judged agrees

  module _ (none : seq_of_defect book doc ≡ None) where
    agrees_not : Agrees doc (λ m. false) book
    agrees_not name there = sym (other_name (λ t. is_some (seq_of_defect book t)) name doc there (ap is_some none))

    none_passes : {X : Type 0} (xs : List X) → find (λ (x : X). false) xs ≡ None
    none_passes [] = refl
    none_passes (x ∷ xs) = none_passes xs

    pub no_extension : extension book doc ≡ None
    no_extension = sym (extension_from doc (λ m. false) [] book b.judged agrees_not) ∙ ap (option_map (extension_said doc)) (none_passes (extension_rows book))

    no_line : (rows : List ReleaseLineRow) → list_any (tests_line doc (λ m. false)) rows ≡ false
    no_line [] = refl
    no_line (row ∷ rows) = at row.defect ∙ no_line rows
      where
        at : (o : Option ℕ) → option_eq (λ m k. false) o (Some 0) || list_any (tests_line doc (λ m. false)) rows ≡ list_any (tests_line doc (λ m. false)) rows
        at None = refl
        at (Some m) = refl

    pub not_rectified : is_rectified book doc ≡ false
    not_rectified = sym (rectified_from doc (λ m. false) [] book b.judged agrees_not) ∙ no_line (release_line_rows book)
