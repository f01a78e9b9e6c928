use Rattle.std.proofs.Common.{◌≡◌, ◌++◌, [], ◌∷◌, ℕ, true, Ok, refl, sym, ap, subst, ◌∙◌, rules}
use Rattle.std.proofs.lemmas.List.{take_all}
use Rattle.sqlite.specs.Held.{state}
use Rattle.mx_book.specs.Book.{is_book_from}
use Rattle.mx_layout.proofs.CrashLemmas.{within_then}
use Rattle.mx_moves.specs.install.Entries.{AddsEntries}
use Rattle.mx_moves.proofs.InstallProofs.EntryLemmas.{adds_none, adds_stopped, adds_then, next_new, next_taken}
use Rattle.mx_moves.proofs.install.adding.add_all.Goals as goal

pub entries-init : goal.entries-init
entries-init g c =
    let s = state g.S.Store c.args.tx.now.conn.now in
    let none = sym c.new-book.ensures in
    record {
      same_reference = refl;
      so_far = c.new-book.ensures;
      judged = subst (λ b. is_book_from b c.args.entries.now ≡ true) none c.requires;
      adds = subst (λ b. AddsEntries {V = ℕ} [] b s s (Ok 0)) none (adds_none s);
    }

pub add_command-requires : goal.add_command-requires
add_command-requires g c =
    (next_new c.entries.book c.args.entries.now c.entries.command-index c.command-item.result c.entries-test.true (sym c.command-item.is) c.entries.invariant.judged).0

pub enter_copy-requires : goal.enter_copy-requires
enter_copy-requires g c =
    (next_new c.entries.book c.args.entries.now c.entries.command-index c.command-item.result c.entries-test.true (sym c.command-item.is) c.entries.invariant.judged).0

pub entries-preserved : goal.entries-preserved
entries-preserved g c =
    let so_far = c.entries.invariant in
    let entries = c.args.entries.now in
    let book = c.entries.book in
    let x = c.command-item.result in
    let i = c.entries.command-index in
    let entered = c.in_ok-enter_copy.ensures.entered in
    let next = next_new book entries i x c.entries-test.true (sym c.command-item.is) so_far.judged in
    record {
      same_reference = c.add_command.ensures.same_reference ∙ so_far.same_reference;
      so_far = entered ∙ ap (λ b. b ++ x ∷ []) so_far.so_far ∙ next_taken entries i x c.entries-test.true (sym c.command-item.is);
      judged = rw entered next.1;
      adds = subst (λ b. AddsEntries {V = ℕ} [] b (state g.S.Store c.args.tx.now.conn.now) (state g.S.Store c.add_command.new.tx.conn.now) (Ok 0)) (sym entered) (adds_then [] book (book ++ x ∷ []) _ _ _ 0 _ 0 so_far.adds c.in_ok-add_command.ensures.adds);
    }

pub returns-in_err-add_command : goal.returns-in_err-add_command
returns-in_err-add_command g c = record {
  same_reference = c.add_command.ensures.same_reference ∙ c.entries.invariant.same_reference;
  adds = adds_stopped _ _ _ _ c.from_residual.result c.from_residual.ensures.0 (within_then _ _ _ c.entries.invariant.adds.within c.entries.invariant.adds.mode c.add_command.ensures.adds.within);
  cause = search rules;
}

pub returns-in_err-enter_copy : goal.returns-in_err-enter_copy
returns-in_err-enter_copy g c = record {
  same_reference = c.add_command.ensures.same_reference ∙ c.entries.invariant.same_reference;
  adds = adds_stopped _ _ _ _ c.from_residual-in_err-enter_copy.result c.from_residual-in_err-enter_copy.ensures.0 (within_then _ _ _ c.entries.invariant.adds.within c.entries.invariant.adds.mode c.add_command.ensures.adds.within);
  cause = search rules;
}

pub returns-clause-adds : goal.returns-clause-adds
returns-clause-adds g c =
    let entries = c.args.entries.now in
    let all : c.entries.book ≡ entries = c.entries.invariant.so_far ∙ take_all c.entries.command-index entries c.entries-test.false in
    let it = subst (λ b. AddsEntries {V = ℕ} [] b (state g.S.Store c.args.tx.now.conn.now) (state g.S.Store c.entries.tx.conn.now) (Ok 0)) all c.entries.invariant.adds in
    record { stands = it.stands; mode = it.mode; inside = it.inside; within = it.within }
