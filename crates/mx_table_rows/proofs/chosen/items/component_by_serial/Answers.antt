use Rattle.std.proofs.Common.{None, rules, [], ◌∷◌}
use Rattle.sqlite.specs.declared.types.Value.TheVariants.{Text}
use Rattle.mx_layout.specs.kept.Cells.{kept_component}
use Rattle.mx_table_rows.specs.chosen.Texts.{by_value}
use Rattle.mx_table_rows.proofs.ChosenProofs.Understood.{component_by_serial_finds}
use Rattle.mx_table_rows.proofs.chosen.items.component_by_serial.Goals as goal

pub returns-clause-reads : goal.returns-clause-reads
returns-clause-reads g c = c.rows_chosen.ensures.reads None kept_component.order (by_value 1) (Text c.args.serial.now ∷ []) component_by_serial_finds (search rules)
