use Rattle.std.proofs.Common.{rules, ◌≡◌, ◌∙◌, ◌++◌, ◌∷◌, append-nil, refl, sym, ap, inl, inr, subst}
use Rattle.sqlite_rules.specs.Lists.{Has}
use Rattle.sqlite_rules.proofs.ListLemmas.{contains_had}
use Rattle.mx_registers.specs.Lines.{lines_from}
use Rattle.mx_registers.specs.Registers.{release_line_row}
use Rattle.mx_row_rules.specs.found.Given as registers
use Rattle.mx_lookups.proofs.NumbersProofs.AnyLemmas.{empty_is}
use Rattle.mx_lookups.proofs.NumbersProofs.BookRows.{lines_of}
use Rattle.mx_lookups.proofs.NumbersProofs.ReadLemmas.{reads_then, stopped, told}
use Rattle.mx_row_judge.proofs.KnownProofs.TellLemmas.{compared, one_more}
use Rattle.mx_row_judge.proofs.KnownProofs.KnownLemmas.{lined_begun, lined_ended, lined_more}
use Rattle.mx_lookups.proofs.NumbersProofs.ToldLemmas.{handed, told_as, told_later, unread}
use Rattle.mx_lookups.proofs.NumbersProofs.TableLemmas.{release_lines}
use Rattle.mx_row_judge.proofs.known.releases.are_lines.Goals as goal

pub loop-certified-init : goal.loop-certified-init
loop-certified-init g c = record {
  count = refl;
  same_reference = search rules;
  reads = told _ _ _ _ _ _ (λ book b read. (read, ap (λ rows. rows ++ lines_from (release_line_row book) c.args.seq 1 c.args.lines.now) (sym c.new-given.ensures.items)))
      (lines_of c.args.seq c.in_ok-rows.ensures.reads);
  any_rows = lined_begun c.args.seq c.args.lines.now _ c.new-given.ensures.items c.in_ok-rows.ensures.reads;
  left = λ certified here. here;
}

pub loop-certified-preserved : goal.loop-certified-preserved
loop-certified-preserved g c =
    let rest_is : c.loop-certified.rest.now ≡ c.in-Some.certified.now ∷ c.in-Some.later.now = search rules in
    record {
      count = search rules;
      same_reference = search rules;
      reads = told _ _ _ _ _ _ (λ book b both. (both.0.0, one_more (release_line_row book) c.args.seq c.loop-certified.line _ _ _ _ _ _ _ both.0.1 rest_is both.1 c.in_ok-push.ensures.items))
          (reads_then _ _ _ _ _ _ _ c.loop-certified.invariant.reads c.in_ok-row.ensures.looks_up.reads);
      any_rows = lined_more _ _ _ _ c.args.seq c.args.lines.now c.loop-certified.line _ _ _ _ _ _ _ _ rest_is c.in_ok-push.ensures.items refl c.loop-certified.invariant.reads c.loop-certified.invariant.any_rows c.in_ok-row.ensures.looks_up.reads.within c.in_ok-row.ensures.looks_up.any_rows;
      left = λ certified here. c.loop-certified.invariant.left certified (subst (λ l. Has l certified) (sym rest_is) (inr here));
    }

pub returns-in_err-rows : goal.returns-in_err-rows
returns-in_err-rows g c = record {
  looks_up = record {
    same_reference = search rules;
    reads = stopped _ _ _ _ _ _ c.from_residual.ensures.1 (lines_of c.args.seq c.in_err-rows.ensures.reads);
    any_rows = search rules;
    damage = told_as (λ _ _. inl) (unread release_lines c.from_residual.ensures.1 c.in_err-rows.ensures.reads);
  };
}

pub returns : goal.returns
returns g c =
    let n = c.args.seq in
    let all = c.args.lines.now in
    let given = c.loop-certified.given.items in
    let none = empty_is _ c.in_default.ensures.cases in
    record {
      looks_up = record {
        same_reference = search rules;
        reads = told _ _ _ _ _ _ (λ book b both.
            compared registers.release_lines n (λ around. lines_from (release_line_row around) n 1 all) book _ _ _ c.are_same_release_lines.ensures (c.deref.ensures.value ∙ both.0)
            (c.deref-2.ensures.value ∙ sym (append-nil given) ∙ ap (λ rest. given ++ lines_from (release_line_row book) n c.loop-certified.line rest) (sym none) ∙ sym both.1))
            c.loop-certified.invariant.reads;
        any_rows = lined_ended _ _ n all c.loop-certified.line _ _ _ _ _ _ none c.are_same_release_lines.ensures c.deref.ensures.value c.deref-2.ensures.value c.loop-certified.invariant.any_rows;
        damage = search rules;
      };
    }

pub returns-in_err-row : goal.returns-in_err-row
returns-in_err-row g c = record {
  looks_up = record {
    same_reference = search rules;
    reads = stopped _ _ _ _ _ _ c.from_residual-in_err-row.ensures.1 (reads_then _ _ _ _ _ _ _ c.loop-certified.invariant.reads c.in_err-row.ensures.looks_up.reads);
    any_rows = search rules;
    damage =
        let one = c.in-Some.certified.now in
        let rest_is : c.loop-certified.rest.now ≡ one ∷ c.in-Some.later.now = search rules in
        let here = c.loop-certified.invariant.left one (subst (λ l. Has l one) (sym rest_is) (inl refl)) in
        told_later c.loop-certified.invariant.reads c.in_err-row.ensures.looks_up.reads.within
        (handed (λ name trees it. inr (one, contains_had c.args.lines.now one here, it)) c.from_residual-in_err-row.ensures.1 c.in_err-row.ensures.looks_up.damage);
  };
}
