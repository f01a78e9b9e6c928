use Rattle.std.proofs.Common.{rules, ◌≡◌, ℕ, List, Bool, ◌&&◌, nat_eq, Option, ap}
use Rattle.std.specs.Prelude.{Decides}
use Rattle.std.specs.Option.{option_eq}
use mathlib.Core.Bool.{beq}
use Rattle.mx_base.specs.declared.amounts.Limit.{Limit}
use Rattle.mx_base.specs.declared.amounts.Tolerance.{Tolerance}
use Rattle.mx_book.specs.commands.Same.{same_text}
use Rattle.mx_base.specs.declared.rows.rows.TaskRow.{TaskRow}
use Rattle.mx_row_rules.proofs.FoundProofs.EqualLemmas.{as_one, both, equal_lists}
use Rattle.mx_row_rules.proofs.found.same.are_same_tasks.Goals as goal

-- the amounts of two rows are compared
same_limit : (a b : Limit) → Decides (option_eq nat_eq a.minutes b.minutes && (option_eq nat_eq a.cycles b.cycles && option_eq nat_eq a.days b.days)) (a ≡ b)
same_limit a b = search rules

same_tolerance : (a b : Tolerance) → Decides (nat_eq a.minutes b.minutes && (nat_eq a.cycles b.cycles && nat_eq a.days b.days)) (a ≡ b)
same_tolerance a b = search rules

abbrev amounts : TaskRow → TaskRow → Type 0
amounts x y = (x.first ≡ y.first) × ((x.repeat ≡ y.repeat) × (x.tolerance ≡ y.tolerance))

-- and the rest of them
abbrev names : TaskRow → TaskRow → Type 0
names x y = (x.seq ≡ y.seq) × ((x.line ≡ y.line) × ((x.id ≡ y.id) × ((x.part ≡ y.part) × (x.retire ≡ y.retire))))

one_row : (x y : TaskRow) → names x y × amounts x y → x ≡ y
one_row x y e i = record { seq = e.0.0 i; line = e.0.1.0 i; id = e.0.1.1.0 i; part = e.0.1.1.1.0 i; retire = e.0.1.1.1.1 i; first = e.1.0 i; repeat = e.1.1.0 i; tolerance = e.1.1.1 i }

its_parts : (x y : TaskRow) → x ≡ y → names x y × amounts x y
its_parts x y e = (
  (ap (λ (r : TaskRow). r.seq) e, (ap (λ (r : TaskRow). r.line) e, (ap (λ (r : TaskRow). r.id) e, (ap (λ (r : TaskRow). r.part) e, ap (λ (r : TaskRow). r.retire) e)))),
  (ap (λ (r : TaskRow). r.first) e, (ap (λ (r : TaskRow). r.repeat) e, ap (λ (r : TaskRow). r.tolerance) e)),
)

-- five tests and the rest decide five parts and the rest
five : {P Q R S T U : Type 0} (p q r s t u : Bool) → Decides p P → Decides q Q → Decides r R → Decides s S → Decides t T → Decides u U → Decides (p && (q && (r && (s && (t && u))))) ((P × (Q × (R × (S × T)))) × U)
five p q r s t u dp dq dr ds dt du =
    as_one (p && (q && (r && (s && (t && u))))) (both p _ dp (both q _ dq (both r _ dr (both s _ ds (both t u dt du)))))
    (λ e. ((e.0, (e.1.0, (e.1.1.0, (e.1.1.1.0, e.1.1.1.1.0)))), e.1.1.1.1.1)) (λ e. (e.0.0, (e.0.1.0, (e.0.1.1.0, (e.0.1.1.1.0, (e.0.1.1.1.1, e.1))))))

same_seq : (n m : ℕ) → Decides (nat_eq n m) (n ≡ m)
same_seq n m = search rules

same_name : (a b : List ℕ) → Decides (same_text a b) (a ≡ b)
same_name a b = search rules

same_part : (a b : Option (List ℕ)) → Decides (option_eq same_text a b) (a ≡ b)
same_part a b = search rules

same_mark : (a b : Bool) → Decides (beq a b) (a ≡ b)
same_mark a b = search rules

same_row : (x y : TaskRow) → Decides (nat_eq x.seq y.seq && (nat_eq x.line y.line && (same_text x.id y.id && (option_eq same_text x.part y.part && (beq x.retire y.retire
    && ((option_eq nat_eq x.first.minutes y.first.minutes && (option_eq nat_eq x.first.cycles y.first.cycles && option_eq nat_eq x.first.days y.first.days))
    && ((option_eq nat_eq x.repeat.minutes y.repeat.minutes && (option_eq nat_eq x.repeat.cycles y.repeat.cycles && option_eq nat_eq x.repeat.days y.repeat.days))
    && (nat_eq x.tolerance.minutes y.tolerance.minutes && (nat_eq x.tolerance.cycles y.tolerance.cycles && nat_eq x.tolerance.days y.tolerance.days))))))))) (x ≡ y)
same_row x y =
    as_one _ (five (nat_eq x.seq y.seq) (nat_eq x.line y.line) (same_text x.id y.id) (option_eq same_text x.part y.part) (beq x.retire y.retire) _ (same_seq x.seq y.seq) (same_seq x.line y.line) (same_name x.id y.id) (same_part x.part y.part) (same_mark x.retire y.retire)
    (both _ _ (same_limit x.first y.first) (both _ _ (same_limit x.repeat y.repeat) (same_tolerance x.tolerance y.tolerance)))) (one_row x y) (its_parts x y)

pub returns : goal.returns
returns c = equal_lists _ c.eq.result c.args.found.now c.args.given.now c.eq.ensures same_row
