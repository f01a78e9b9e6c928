-- Lemmas on a trial over a store in memory.
use Rattle.std.proofs.Common.{[], ◌∙◌, ap, sym, subst}
use Rattle.sqlite.specs.Held.{Held, state}
use Rattle.sqlite.specs.State.{State}
use Rattle.sqlite.specs.Steps.{over_memory, IsEmpty}
use Rattle.sqlite_catalog.specs.Listing.{IsSound}
use Rattle.mx_layout.specs.Crash.{RestsAs}
use Rattle.mx_layout.specs.Making.{IsEmptyIn}
use Rattle.mx_layout.specs.Steps.{schema_of}
use Rattle.mx_layout.specs.Tables.{no_schema}
use Rattle.mx_layout.proofs.CrashLemmas.{rests_same}
use Rattle.mx_office.specs.Layout.{office_point, office_schema}
use Rattle.mx_office.specs.Stands.{Rests, Stands}
use Rattle.mx_office.proofs.StandsLemmas.{empty_stands}

-- a database in memory that was just opened has no table
pub memory_rests : (conn : Held _) → IsEmpty (state over_memory conn) → RestsAs (state over_memory conn) no_schema (IsSound no_schema)
memory_rests conn (opens, live, empty) =
    let sound : IsSound no_schema (state over_memory conn).now.trees =
    subst (λ schema. IsSound schema (state over_memory conn).now.trees) empty (live opens.is_open).0 in
    record {
      schema = λ _ _. empty;
      tables = λ _ _. sound;
      settled = λ _ _. opens.clean;
      crash = λ _ trees may. subst (IsSound no_schema) (ap (λ database. database.trees) opens.clean ∙ sym may) sound;
    }

-- tables that were just made rest as the book with no entry
pub made_rests : (now : State) → RestsAs now (schema_of office_point.layout) (IsEmptyIn office_point.layout) → Rests now []
made_rests now made = rests_same now office_schema (IsEmptyIn office_point.layout) (λ trees. Stands trees []) (λ clean trees empty. empty_stands trees empty) made
