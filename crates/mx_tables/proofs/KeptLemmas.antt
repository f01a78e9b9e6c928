-- From what a text means over a schema to what a reader does, for every table alike.
use Rattle.std.proofs.Common.{◌≡◌, ℕ, List}
use Rattle.sqlite.specs.Order.{Row}
use Rattle.sqlite.specs.Table.{Table}
use Rattle.sqlite.specs.Schema.{Schema}
use Rattle.sqlite.specs.State.{State}
use Rattle.std.specs.declared.cmp.Ordering.{Ordering}
use Rattle.mx_layout.proofs.ReadLemmas.{reads_all, reads_unchanged}
use Rattle.mx_tables.specs.Calls.{ShowsAll}
use Rattle.mx_layout.specs.kept.Meanings.{MeansAll}

pub shows_all : (schema : Schema) (text : List ℕ) (table : Table) (order : Row → Row → Ordering) → MeansAll schema text table order → (old new : State) → old.now.schema ≡ schema → ShowsAll text table order old new
shows_all schema text table order m old new has = record {
  all = reads_all m.keys order schema text table m.project m.names m.shows m.sorts m.is m.unlisted m.plain m.low old new has;
  same = reads_unchanged m.keys order schema text table m.project m.names m.shows m.sorts m.is m.unlisted m.plain m.low old new has;
}
