use Rattle.std.proofs.Common.{inl, refl, rules, subst, inr}
use Rattle.std.specs.Prelude.{⊤}
use Rattle.sqlite.specs.declared.types.Value.TheVariants.{Text}
use Rattle.mx_layout.specs.kept.Cells.{kept_entry}
use Rattle.mx_table_rows.specs.chosen.Choices.{has_value}
use Rattle.mx_row_rules.specs.found.Names.{entry_number}
use Rattle.mx_lookups.proofs.NumbersProofs.Composed.{answers, behind, by_first, hands, none_given, some_given}
use Rattle.mx_lookups.specs.numbers.AnyRows.{Gives}
use Rattle.mx_lookups.specs.numbers.Told.{EntryDamage}
use Rattle.mx_row_judge.proofs.known.known.known.Goals as goal

pub returns-in_ok-same-in-Some : goal.returns-in_ok-same-in-Some
returns-in_ok-same-in-Some g c = record {
  looks_up =
      record {
        same_reference = search rules;
        reads = search rules;
        any_rows = (answers {Q = λ _ _. ⊤} {Other = λ _ _. ⊤} (behind c.in_ok-found.ensures.looks_up c.in_ok-same-in-Some.ensures.looks_up) (λ _ _ _. tt) (λ trees both. some_given c.in-Some.is (subst (λ d. Gives kept_entry (has_value 1 (Text d)) entry_number trees c.in_ok-found.found) c.doc-doc.ensures.doc both.0) (_, both.1, refl))).any_rows;
        damage = search rules;
      };
}

pub returns-in-None : goal.returns-in-None
returns-in-None g c = record {
  looks_up =
      record {
        same_reference = search rules;
        reads = search rules;
        any_rows = (answers {Q = λ _ _. ⊤} {Other = λ _ _. ⊤} c.in_ok-found.ensures.looks_up (λ _ _ _. tt) (λ trees found. none_given c.in-None.is (subst (λ d. Gives kept_entry (has_value 1 (Text d)) entry_number trees c.in_ok-found.found) c.doc-doc.ensures.doc found) refl)).any_rows;
        damage = search rules;
      };
}

pub returns-in_err-found : goal.returns-in_err-found
returns-in_err-found g c = record { looks_up = hands c.from_residual.ensures.1 (λ name trees it. inl (subst (λ d. EntryDamage d name trees) c.doc-doc.ensures.doc it)) c.in_err-found.ensures.looks_up }

pub returns-in_err-same-in-Some : goal.returns-in_err-same-in-Some
returns-in_err-same-in-Some g c = record { looks_up = hands c.from_residual-in_err-same-in-Some.ensures.1 (λ _ trees it. inr (_, by_first (Gives kept_entry (has_value 1 (Text c.args.command.now.doc)) entry_number) c.in-Some.is (subst (λ d. Gives kept_entry (has_value 1 (Text d)) entry_number trees c.in_ok-found.found) c.doc-doc.ensures.doc it.0), it.1)) (behind c.in_ok-found.ensures.looks_up c.in_err-same-in-Some.ensures.looks_up) }
