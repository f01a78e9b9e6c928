-- From what a text means over a schema to what an insert does, for every table alike.
use Rattle.std.proofs.Common.{◌≡◌, ℕ, List, [], ◌∷◌, Some, sym, subst, OnOk, Ok, Err, Result, ap, ◌∙◌}
use Rattle.sqlite.specs.Order.{Row}
use Rattle.sqlite.specs.Table.{Table}
use Rattle.sqlite.specs.Schema.{Schema}
use Rattle.sqlite.specs.declared.error.Error.{Error}
use Rattle.sqlite.specs.Tree.{Trees}
use Rattle.sqlite.specs.State.{State}
use Rattle.sqlite_rules.proofs.ActionLemmas.{no_works}
use Rattle.sqlite_schema.specs.declared.schema.Keys.TheVariants.{Enforced}
use Rattle.mx_layout.specs.Contents.{cells}
use Rattle.mx_layout.specs.Writing.{Gains}
use Rattle.mx_layout.proofs.WriteLemmas.{inserts}
use Rattle.mx_layout.specs.Plans.{added, uncounted}
use Rattle.mx_layout.proofs.InsideLemmas.{gains}
use Rattle.mx_tables.specs.inserts.Calls.{AddsRow}
use Rattle.mx_layout.specs.kept.Meanings.{MeansAdded}

gains_same : (one other : Table) (row : Row) (old new : State) (ran : Result ℕ Error) → one ≡ other → OnOk ran (Gains one row old.now new.now) → OnOk ran (Gains other row old.now new.now)
gains_same one other row old new (Ok n) same h = subst (λ t. Gains t row old.now new.now) same h
gains_same one other row old new (Err e) same h = tt

pub adds_row : (schema : Schema) (text : List ℕ) (table : Table) (row : Row) → MeansAdded schema text table row → (old new : State) → old.now.schema ≡ schema → AddsRow text table row old new
adds_row schema text table row m old new has = record {
  gains = λ ran h. gains_same (uncounted table) table row old new ran m.same (gains old new text row (uncounted table) row ran
      (inserts schema m.at table m.terms m.width text row row m.stored (m.there ∙ ap Some (sym m.same)) m.is m.plain (no_works schema Enforced 0 table.tree)
      (subst (λ t. (db : Trees) → (added db t m.terms m.width row).news ≡ m.stored db ∷ []) (sym m.same) m.news)
      (subst (λ t. (db : Trees) → cells t (m.stored db) ≡ row) (sym m.same) m.shown) old has new) h);
}
