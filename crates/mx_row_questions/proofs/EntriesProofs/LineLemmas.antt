-- The lines of a release, out of their rows that are gone through one by one.
use Rattle.std.proofs.Common.{◌≡◌, ℕ, List, [], ◌∷◌, ◌++◌, Option, Result, Vec, None, Some, Ok, refl, sym, ap, subst, ◌∙◌, arith}
use Rattle.std.specs.Prelude.{IsErrAnd}
use Rattle.std.specs.Option.{option_and_then, option_map}
use Rattle.std.specs.declared.alloc.Global.{Global}
use Rattle.std.proofs.lemmas.List.{append_assoc, append-nil}
use Rattle.sqlite.specs.State.{State, HasCleanDisk}
use Rattle.mx_book.specs.commands.Act.{Entry}
use Rattle.mx_book.specs.declared.commands.release.Line.{Line}
use Rattle.mx_registers.specs.Merge.{line_said}
use Rattle.mx_base.specs.declared.rows.rows.ReleaseLineRow.{ReleaseLineRow}
use Rattle.mx_layout.specs.declared.fault.TableFault.{TableFault}
use Rattle.mx_layout.specs.declared.fault.TableFault.TheVariants.{Memory}
use Rattle.mx_layout.specs.kept.Cells.{kept_crs_line}
use Rattle.mx_row_rules.specs.found.Given.{found, release_lines}
use Rattle.mx_row_rules.specs.declared.found.stated.Certified.{Certified}
use Rattle.mx_row_rules.specs.found.Stated.{certified_in, certified_said, lines_stated}
use Rattle.mx_row_rules.proofs.FoundProofs.StatedLemmas.{line_certified}
use Rattle.mx_lookups.specs.numbers.AnyRows.{ReadsAny}
use Rattle.mx_lookups.specs.numbers.Reads.{HasTablesOfRows, Reads}
use Rattle.mx_lookups.proofs.NumbersProofs.AnyLemmas.{any_later}
use Rattle.mx_lookups.proofs.NumbersProofs.ReadLemmas.{reads_then, told}
use Rattle.mx_row_questions.specs.entries.Releases.{LineCertified, LineNamed, LineStated, LinesSaid, LinesStated}
use Rattle.mx_row_questions.specs.entries.Stated.{AllOf}
use Rattle.mx_row_questions.proofs.EntriesProofs.StatedLemmas.{starved}

-- ── lists of lines that may be none ──

none_before : (ls : Option (List Line)) → ls ≡ option_map (λ l. [] ++ l) ls
none_before None = refl
none_before (Some l) = refl

one_before : (done : List Line) (line : Line) (ls : Option (List Line)) → option_map (λ l. done ++ l) (option_map (λ l. line ∷ l) ls) ≡ option_map (λ l. (done ++ line ∷ []) ++ l) ls
one_before done line None = refl
one_before done line (Some l) = ap Some (sym (append_assoc done (line ∷ []) l))

-- ── the walk ──

-- some lines were said, and those that the rows that are left say come behind them; so over any rows
pub record LinesWalk (n : ℕ) (old new : State) (done : List Line) (left : List ReleaseLineRow) : Type 0 where
  pub reads : Reads {V = ℕ} (λ book v. lines_stated book (found release_lines book n) ≡ option_map (λ l. done ++ l) (lines_stated book left)) old new (Ok 0)
  pub any_rows : ReadsAny {V = ℕ} (λ trees v. (rows : List ReleaseLineRow) × AllOf kept_crs_line n trees rows × ((said : Option (List Line)) → LinesSaid left trees said → LinesSaid rows trees (option_map (λ l. done ++ l) said))) old new (Ok 0)

pub lines_begun : (n : ℕ) (old new : State) (rows : Vec ReleaseLineRow Global) (done : List Line) (left : List ReleaseLineRow) → done ≡ [] → left ≡ rows.items → Reads (λ book v. v.items ≡ found release_lines book n) old new (Ok rows) → ReadsAny (AllOf kept_crs_line n) old new (Ok rows.items)
    → LinesWalk n old new done left
lines_begun n old new rows done left none all reads any =
    let whole : (said : Option (List Line)) → said ≡ option_map (λ l. done ++ l) said = λ said. none_before said ∙ ap (λ d. option_map (λ l. d ++ l) said) (sym none) in
    record {
      reads = told _ _ old new rows 0 (λ book b is. ap (lines_stated book) (sym (all ∙ is)) ∙ whole (lines_stated book left)) reads;
      any_rows = record { found = λ clean has. (rows.items, any.found clean has, λ said h. subst (λ l. LinesSaid l old.now.trees (option_map (λ l. done ++ l) said)) all (subst (LinesSaid left old.now.trees) (whole said) h)) };
    }

module _ (n : ℕ) (a b : State) (done : List Line) (left later : List ReleaseLineRow) (row : ReleaseLineRow) (walk : LinesWalk n a b done left) (is : left ≡ row ∷ later) where
  here : LinesWalk n a b done (row ∷ later)
  here = subst (LinesWalk n a b done) is walk

  -- the row says none
  none_said : (book : List Entry) → line_said book row ≡ None → lines_stated book (found release_lines book n) ≡ option_map (λ l. done ++ l) (lines_stated book (row ∷ later)) → None ≡ lines_stated book (found release_lines book n)
  none_said book none split = sym (split ∙ ap (λ o. option_map (λ l. done ++ l) (option_and_then (λ x. option_map (λ l. x ∷ l) (lines_stated book later)) o)) none)

  -- it certifies nothing
  pub nothing_certified : certified_in row ≡ None → Reads {V = Option (Vec Line Global)} (λ book lines. option_map (λ v. v.items) lines ≡ lines_stated book (found release_lines book n)) a b (Ok None)
  nothing_certified none = told _ _ a b 0 None (λ book is_book split. none_said book (line_certified book row ∙ ap (option_and_then (certified_said book)) none) split) here.reads

  pub nothing_certified-any : certified_in row ≡ None → ReadsAny {V = Option (Vec Line Global)} (λ trees lines. LinesStated n trees (option_map (λ v. v.items) lines)) a b (Ok None)
  nothing_certified-any none = record {
    found = λ clean has.
        let known = here.any_rows.found clean has in
        (known.0, known.1, known.2 None (None, subst (λ o. LineCertified o a.now.trees None) (sym none) refl, refl));
  }

  module _ (c : State) (certified : Certified) (this : certified_in row ≡ Some certified) (line : Option Line) (named : Reads (λ book l. l ≡ certified_said book certified) b c (Ok line)) (any : ReadsAny (LineNamed certified) b c (Ok line)) where
    one : Reads (λ book l. l ≡ line_said book row) b c (Ok line)
    one = told _ _ b c line line (λ book is_book l. l ∙ sym (line_certified book row ∙ ap (option_and_then (certified_said book)) this)) named

    both : Reads (λ book l. (lines_stated book (found release_lines book n) ≡ option_map (λ ls. done ++ ls) (lines_stated book (row ∷ later))) × (l ≡ line_said book row)) a c (Ok line)
    both = reads_then _ _ a b c 0 (Ok line) here.reads one

    -- what was known of any rows before the line was looked up
    early : HasCleanDisk c → HasCleanDisk b
    early clean = omega (arith, named.within.survives.clean)

    -- and what the row says by them
    stated_any : HasCleanDisk c → HasTablesOfRows a.now.schema → LineStated row a.now.trees line
    stated_any clean has = subst (λ o. LineCertified o a.now.trees line) (sym this) ((any_later _ (LineNamed certified) a b c 0 line here.reads named.within any).found clean has)

    -- the row says a line
    pub lines_more : (said : Line) (longer : List Line) → line ≡ Some said → longer ≡ done ++ said ∷ [] → LinesWalk n a c longer later
    lines_more said longer some more = record {
      reads = told _ _ a c line 0
          (λ book is_book h. h.0
          ∙ ap (λ o. option_map (λ l. done ++ l) (option_and_then (λ x. option_map (λ l. x ∷ l) (lines_stated book later)) o)) (sym h.1 ∙ some)
          ∙ one_before done said (lines_stated book later) ∙ ap (λ d. option_map (λ l. d ++ l) (lines_stated book later)) (sym more)) both;
      any_rows = record {
        found = λ clean has.
            let known = here.any_rows.found (early clean) has in
            let stated = subst (LineStated row a.now.trees) some (stated_any clean has) in
            (known.0, known.1, λ rest h. subst (LinesSaid known.0 a.now.trees) (one_before done said rest ∙ ap (λ d. option_map (λ l. d ++ l) rest) (sym more)) (known.2 (option_map (λ l. said ∷ l) rest) (Some said, stated, (rest, h, refl))));
      };
    }

    -- what it names is not there
    pub lines_none : line ≡ None → Reads {V = Option (Vec Line Global)} (λ book lines. option_map (λ v. v.items) lines ≡ lines_stated book (found release_lines book n)) a c (Ok None)
    lines_none none = told _ _ a c line None (λ book is_book h. none_said book (sym h.1 ∙ none) h.0) both

    pub lines_none-any : line ≡ None → ReadsAny {V = Option (Vec Line Global)} (λ trees lines. LinesStated n trees (option_map (λ v. v.items) lines)) a c (Ok None)
    lines_none-any none = record {
      found = λ clean has.
          let known = here.any_rows.found (early clean) has in
          (known.0, known.1, known.2 None (None, subst (LineStated row a.now.trees) none (stated_any clean has), refl));
    }

    -- or there was no room for it
    pub lines_starved : {W : Type 0} (Q : List Entry → W → Type 0) (result : Result W TableFault) → IsErrAnd result (λ e. e ≡ Memory) → Reads Q a c result
    lines_starved Q result is = starved _ Q a c line result is both

pub lines_ended : (n : ℕ) (a b : State) (lines : Vec Line Global) (left : List ReleaseLineRow) → left ≡ [] → LinesWalk n a b lines.items left → Reads {V = Option (Vec Line Global)} (λ book said. option_map (λ v. v.items) said ≡ lines_stated book (found release_lines book n)) a b (Ok (Some lines))
lines_ended n a b lines left none walk =
    told _ _ a b 0 (Some lines) (λ book is_book is. sym (is ∙ ap (λ rows. option_map (λ l. lines.items ++ l) (lines_stated book rows)) none ∙ ap Some (append-nil lines.items))) walk.reads

pub lines_ended-any : (n : ℕ) (a b : State) (lines : Vec Line Global) (left : List ReleaseLineRow) → left ≡ [] → LinesWalk n a b lines.items left → ReadsAny {V = Option (Vec Line Global)} (λ trees said. LinesStated n trees (option_map (λ v. v.items) said)) a b (Ok (Some lines))
lines_ended-any n a b lines left none walk = record {
  found = λ clean has.
      let known = walk.any_rows.found clean has in
      (known.0, known.1, subst (LinesSaid known.0 a.now.trees) (ap Some (append-nil lines.items)) (known.2 (Some []) (subst (λ rows. LinesSaid rows a.now.trees (Some [])) (sym none) refl)));
}
