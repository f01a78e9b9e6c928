-- The law of each table, by its name.
use Rattle.mx_layout.specs.TableName.{TableName}
use Rattle.mx_layout.specs.declared.fault.Table.TheVariants as table
use Rattle.mx_layout.specs.kept.Meanings.{IsLawfulAt}
use Rattle.mx_layout.proofs.KeptProofs.Lawful
use Rattle.mx_layout.proofs.KeptProofs.MovedLawful

pub each_lawful : (name : TableName) → IsLawfulAt name
each_lawful table.Entry = Lawful.entry_lawful
each_lawful table.Aircraft = Lawful.aircraft_lawful
each_lawful table.Place = Lawful.place_lawful
each_lawful table.Component = Lawful.component_lawful
each_lawful table.Programme = Lawful.programme_lawful
each_lawful table.Task = Lawful.task_lawful
each_lawful table.Opening = Lawful.opening_lawful
each_lawful table.Crs = Lawful.crs_lawful
each_lawful table.CrsLine = Lawful.crs_line_lawful
each_lawful table.Defect = Lawful.defect_lawful
each_lawful table.Extension = Lawful.extension_lawful
each_lawful table.Sector1 = Lawful.sector1_lawful
each_lawful table.Fit1 = Lawful.fit1_lawful
each_lawful table.Removal1 = Lawful.removal1_lawful
each_lawful table.Sector2 = MovedLawful.sector2_lawful
each_lawful table.Span2 = MovedLawful.span2_lawful
each_lawful table.Total2 = MovedLawful.total2_lawful
each_lawful table.Base2 = MovedLawful.base2_lawful
each_lawful table.Defect3 = MovedLawful.defect3_lawful
each_lawful table.Done3 = MovedLawful.done3_lawful
each_lawful _ = tt
