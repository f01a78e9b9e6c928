-- What look-ups answer to lists, where memory may run out as well.
use Rattle.std.proofs.Common.{◌≡◌, List, Ok, Err, refl}
use Rattle.sqlite.specs.Store.{Ghosts}
use Rattle.sqlite.specs.Tree.{Trees}
use Rattle.sqlite.specs.Held.{state}
use Rattle.mx_book.specs.commands.Act.{Entry}
use Rattle.mx_book.specs.Reading.{Answers}
use Rattle.mx_layout.specs.declared.fault.TableFault.{TableFault}
use Rattle.mx_lists.specs.Memory.{with_memory}
use Rattle.mx_lists.specs.declared.stop.Stop.TheVariants.{Fault}
use Rattle.mx_lookups.specs.numbers.AnyRows.{ReadsAny}
use Rattle.mx_lookups.specs.numbers.Reads.{Reads}
use Rattle.mx_lookups.specs.numbers.Told.{Damage, TellsDamage}
use Rattle.mx_lookups.proofs.NumbersProofs.ReadLemmas.{stops, told}
use Rattle.mx_lookups.proofs.NumbersProofs.ToldLemmas.{handed}
use Rattle.mx_row_judge.specs.Answering.{Only}
use Rattle.mx_row_judge.specs.View.{SharesWith, held, rows_reading}
use Rattle.mx_row_judge.specs.declared.view.Rows.{Rows}
use Rattle.mx_row_judge.proofs.ViewLemmas.{answers_by}

module _ {S Q V A : Type 0} (g : Ghosts S) (AnswersAs : Trees → List Entry → Type 0) (Of : Damage) (view : V → A) (what : List Entry → A) (old new : Rows S Q) (Is : Trees → A → Type 0) (only : (trees : Trees) (book : List Entry) → AnswersAs trees book → Only Is trees (what book)) (shares : SharesWith old new) where
  -- a look-up gives a list
  pub gives_list : (v : V) → Reads (λ book it. view it ≡ what book) (state g (held old)) (state g (held new)) (Ok v) → ReadsAny (λ trees it. Is trees (view it)) (state g (held old)) (state g (held new)) (Ok v) → Answers (with_memory (rows_reading g AnswersAs Of)) old new (Ok (view v)) what
  gives_list v r any_rows =
      let q = answers_by g AnswersAs Of what old new (Ok (view v)) Is only shares (told _ _ _ _ v (view v) (λ book is so. so) r) (record { found = any_rows.found }) (record { told = λ clean has name is. absurd cc }) in
      record { asked = q.asked; clean = q.clean; exact = q.exact }

  -- or stops
  pub gives_none : (fault : TableFault) → Reads (λ book it. view it ≡ what book) (state g (held old)) (state g (held new)) (Err fault) → TellsDamage {V = V} Of (state g (held old)) (state g (held new)) (Err fault) → Answers (with_memory (rows_reading g AnswersAs Of)) old new (Err (Fault fault)) what
  gives_none fault r damage =
      let q = answers_by g AnswersAs Of what old new (Err fault) Is only shares (stops _ _ _ _ fault r) (record { found = λ clean has. tt }) (handed (λ _ _ it. it) refl damage) in
      record { asked = q.asked; clean = q.clean; exact = q.exact }
