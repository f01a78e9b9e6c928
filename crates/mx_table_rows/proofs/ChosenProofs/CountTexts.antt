-- The texts that count the rows of a table: what each is understood as, computed.
use Rattle.std.proofs.Common.{◌≡◌, ℕ, List, [], ◌∷◌, ◌++◌, false, codes, refl, sym, subst}
use Rattle.sqlite.specs.Table.{Table}
use Rattle.sqlite.specs.Schema.{Schema}
use Rattle.sqlite.specs.Tree.{Trees}
use Rattle.sqlite.specs.Command.TheVariants.{Select}
use Rattle.sqlite.specs.Listing.{understood, reads_listing}
use Rattle.sqlite.specs.Program.{overlay}
use Rattle.sqlite.proofs.Callers.{IsPlain, command_of}
use Rattle.sqlite_schema.specs.declared.schema.Index.{Index}
use Rattle.sqlite_tied.specs.Compute.{everything}
use Rattle.mx_layout.specs.Names.{table_named}
use Rattle.mx_layout.specs.Tables.{aircraft, component}
use Rattle.mx_layout.specs.kept.Kept.{Kept}
use Rattle.mx_layout.specs.kept.Cells.{kept_aircraft, kept_component}
use Rattle.mx_layout.specs.kept.Schemas.{HasBehind, permanent}
use Rattle.mx_table_rows.specs.chosen.Counts.{tally, MeansCount, Counts, count_aircraft, count_component}

-- the text tells how many rows the table has
abbrev Tallies : Schema → List ℕ → Table → Type 0
Tallies schema text table =
    (command_of (understood schema text) ≡ Select (record { lets = []; body = tally table.tree }) (codes "count(*)" ∷ [])) × (reads_listing schema text ≡ false) × IsPlain (understood schema text)

-- over each schema that has the table
counted_by : {X : Type 0} (k : Kept X) (own : List Table) → ((schema : Schema) → k.IsIn schema → HasBehind own schema) → (text : List ℕ)
    → ((db : Trees) → overlay db [] (table_named k.name).tree ≡ db (table_named k.name).tree) → ((rest : List Table) (more : List Index) → Tallies (permanent (own ++ rest) more) text (table_named k.name)) → Counts k text
counted_by k own behind text low texts schema h =
    let has = behind schema h in
    let is = texts has.rest has.more in
    subst (λ s. MeansCount s text (table_named k.name)) (sym has.is) (record { names = codes "count(*)" ∷ []; is = is.0; unlisted = is.1; plain = is.2; low = low })

count_aircraft_texts : (rest : List Table) (more : List Index) → Tallies (permanent rest more) count_aircraft aircraft
unfolding understood everything
count_aircraft_texts rest more = (refl, refl, (refl, refl))

pub count_aircraft_counts : Counts kept_aircraft count_aircraft
count_aircraft_counts = counted_by kept_aircraft [] (λ _ has. has) count_aircraft (λ _. refl) count_aircraft_texts

count_component_texts : (rest : List Table) (more : List Index) → Tallies (permanent rest more) count_component component
unfolding understood everything
count_component_texts rest more = (refl, refl, (refl, refl))

pub count_component_counts : Counts kept_component count_component
count_component_counts = counted_by kept_component [] (λ _ has. has) count_component (λ _. refl) count_component_texts
