-- Whether two commands have equal contents, field by field.
use Rattle.std.specs.Prelude.{ℕ, List, Bool, true, false, ◌&&◌, nat_eq}
use mathlib.Core.Bool.{beq}
use Rattle.std.specs.Option.{option_eq}
use Rattle.std.specs.Cmp.Lexicographic.{pointwise}
use Rattle.mx_base.specs.declared.amounts.Use.{Use}
use Rattle.mx_base.specs.declared.amounts.Limit.{Limit}
use Rattle.mx_base.specs.declared.amounts.Tolerance.{Tolerance}
use Rattle.mx_book.specs.commands.Act.{Act, Entry, Added, Listed, Loaded, Opened, Flown, Fitted, Removed, Released, Deferred, Extended}
use Rattle.mx_base.specs.declared.category.Category.{Category}
use Rattle.mx_base.specs.declared.category.Category.TheVariants.{A, B, C, D}
use Rattle.mx_book.specs.declared.commands.item.Item.{Item}
use Rattle.mx_book.specs.declared.commands.item.Item.TheVariants as items
use Rattle.mx_book.specs.declared.commands.programme.Applies.{Applies}
use Rattle.mx_book.specs.declared.commands.programme.Applies.TheVariants as applies
use Rattle.mx_book.specs.declared.commands.programme.Task.{Task}
use Rattle.mx_book.specs.declared.commands.release.Place.{Place}
use Rattle.mx_book.specs.declared.commands.release.Place.TheVariants as places
use Rattle.mx_book.specs.declared.commands.release.Line.{Line}
use Rattle.mx_book.specs.declared.commands.release.Line.TheVariants as lines

-- the texts are the same, byte by byte
abbrev pub same_text : List ℕ → List ℕ → Bool
same_text = pointwise nat_eq

-- the positions have the same name and take the same part
abbrev pub same_position : List ℕ × List ℕ → List ℕ × List ℕ → Bool
same_position a b = same_text a.0 b.0 && same_text a.1 b.1

-- the same minutes and cycles
abbrev pub same_use : Use → Use → Bool
same_use a b = nat_eq a.minutes b.minutes && nat_eq a.cycles b.cycles

-- the same airframe, or the same component
abbrev pub same_item : Item → Item → Bool
same_item (items.Airframe a) (items.Airframe b) = same_text a b
same_item (items.Component a) (items.Component b) = same_text a b
same_item _ _ = false

-- the limits have the same dimensions, and the same number in each
abbrev pub same_limit : Limit → Limit → Bool
same_limit a b = option_eq nat_eq a.minutes b.minutes && (option_eq nat_eq a.cycles b.cycles && option_eq nat_eq a.days b.days)

-- the same tolerance in each dimension
abbrev pub same_tolerance : Tolerance → Tolerance → Bool
same_tolerance a b = nat_eq a.minutes b.minutes && (nat_eq a.cycles b.cycles && nat_eq a.days b.days)

-- both are done on airframes, or both on components of the same part
abbrev pub same_applies : Applies → Applies → Bool
same_applies applies.Airframe applies.Airframe = true
same_applies (applies.Part a) (applies.Part b) = same_text a b
same_applies _ _ = false

-- the tasks have the same name, are done on the same, at the same limits, with the same tolerance, and retire alike
abbrev pub same_task : Task → Task → Bool
same_task a b =
    same_text a.id b.id && (same_applies a.applies b.applies && (same_limit a.first b.first
    && (option_eq same_limit a.repeat b.repeat && (same_tolerance a.tolerance b.tolerance && beq a.retire b.retire))))

-- the same aircraft, or the same component in a shop by the programme of the same kind
abbrev pub same_place : Place → Place → Bool
same_place (places.Aircraft a) (places.Aircraft b) = same_text a b
same_place (places.Shop a kind) (places.Shop b other) = same_text a b && same_text kind other
same_place _ _ = false

-- the lines certify the same
abbrev pub same_line : Line → Line → Bool
same_line (lines.Done a task) (lines.Done b other) = same_item a b && same_text task other
same_line (lines.Rectified a) (lines.Rectified b) = same_text a b
same_line _ _ = false

-- the same category, with the same days where the item states them
abbrev pub same_category : Category → Category → Bool
same_category (A a) (A b) = nat_eq a b
same_category B B = true
same_category C C = true
same_category D D = true
same_category _ _ = false

-- two commands say the same; positions, tasks and lines count in their order
abbrev pub same_act : Act → Act → Bool
same_act (Added a positions) (Added b others) =
    same_text a.tail b.tail && (same_text a.kind b.kind && (nat_eq a.birth b.birth
    && (same_use a.opening b.opening && (nat_eq a.as_of b.as_of && pointwise same_position positions others))))
same_act (Listed a) (Listed b) =
    same_text a.serial b.serial && (same_text a.part b.part && (nat_eq a.birth b.birth
    && (same_use a.opening b.opening && nat_eq a.as_of b.as_of)))
same_act (Loaded a tasks) (Loaded b others) =
    same_text a.kind b.kind && (nat_eq a.revision b.revision && pointwise same_task tasks others)
same_act (Opened a) (Opened b) =
    same_item a.item b.item && (same_text a.kind b.kind && (same_text a.task b.task
    && (same_use a.use_then b.use_then && nat_eq a.day b.day)))
same_act (Flown a) (Flown b) =
    same_text a.tail b.tail && (nat_eq a.page b.page && (nat_eq a.line b.line
    && (nat_eq a.off b.off && (nat_eq a.on b.on && nat_eq a.cycles b.cycles))))
same_act (Fitted a) (Fitted b) =
    same_text a.serial b.serial && (same_text a.tail b.tail && (same_text a.position b.position && nat_eq a.moment b.moment))
same_act (Removed a) (Removed b) = same_text a.serial b.serial && nat_eq a.moment b.moment
same_act (Released a lines) (Released b others) =
    same_place a.place b.place && (nat_eq a.moment b.moment && pointwise same_line lines others)
same_act (Deferred a) (Deferred b) =
    same_text a.tail b.tail && (nat_eq a.moment b.moment && (same_text a.reference b.reference && same_category a.category b.category))
same_act (Extended a) (Extended b) = same_text a.defect b.defect && (nat_eq a.day b.day && nat_eq a.days b.days)
same_act _ _ = false

-- two commands have the same document and say the same
abbrev pub same_entry : Entry → Entry → Bool
same_entry a b = same_text a.doc b.doc && same_act a.act b.act
