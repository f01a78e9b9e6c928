-- The names of things by their numbers, over any rows.
use Rattle.std.specs.Prelude.{◌≡◌, ℕ, pos, List, Option, Some, None, MatchOption}
use Rattle.std.specs.Option.{option_map}
use Rattle.sqlite.specs.declared.types.Value.TheVariants.{Int}
use Rattle.sqlite.specs.Tree.{Trees}
use Rattle.mx_book.specs.declared.commands.item.Item.{Item}
use Rattle.mx_book.specs.declared.commands.item.Item.TheVariants.{Airframe, Component}
use Rattle.mx_layout.specs.kept.Cells.{kept_entry}
use Rattle.mx_table_rows.specs.chosen.Choices.{has_value}
use Rattle.mx_row_rules.specs.found.Names.{deferred_doc}
use Rattle.mx_lookups.specs.numbers.AnyRows.{Gives}
use Rattle.mx_lookups.specs.numbers.Given.{SerialOfNumber, TailOfNumber}

-- the item with this number: the aircraft, or where there is none the component
abbrev pub ItemOfNumber : ℕ → Trees → Option Item → Type 0
ItemOfNumber n trees (Some (Airframe tail)) = TailOfNumber n trees (Some tail)
ItemOfNumber n trees (Some (Component serial)) = TailOfNumber n trees None × SerialOfNumber n trees (Some serial)
ItemOfNumber n trees None = TailOfNumber n trees None × SerialOfNumber n trees None

-- the document of the entry with this number, where it defers a defect
abbrev pub DocOfDefect : ℕ → Trees → Option (List ℕ) → Type 0
DocOfDefect n = Gives kept_entry (has_value 0 (Int (pos n))) deferred_doc

-- a name is looked up by a number: the answer is what is said with it, or nothing where there is none
abbrev pub WithName : {Name Said : Type 0} → (ℕ → Trees → Option Name → Type 0) → ℕ → (Name → Said) → Trees → Option Said → Type 0
WithName {Name} NameOf n says trees said = (name : Option Name) × NameOf n trees name × (said ≡ option_map says name)

-- a row is looked up first: the answer is what it says, or nothing where there is none
pub record ByRow {Row Said : Type 0} (First : Trees → Option Row → Type 0) (Says : Row → Trees → Option Said → Type 0) (trees : Trees) (said : Option Said) : Type 0 where
  pub row : Option Row
  pub first : First trees row
  pub says : MatchOption row (said ≡ None) (λ r. Says r trees said)
