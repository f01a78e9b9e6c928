-- The faults of a move that faults of the tables are.
use Rattle.mx_layout.specs.declared.fault.TableFault.{TableFault}
use Rattle.mx_layout.specs.declared.fault.TableFault.TheVariants as table
use Rattle.mx_faults.specs.declared.moving.MoveFault.{MoveFault}
use Rattle.mx_faults.specs.declared.moving.MoveFault.TheVariants.{Memory, Store, NotOurs, Damaged}

-- the fault of a move that one of the tables is: that there is a table already is an error of the store here
abbrev pub fault_from : TableFault → MoveFault
fault_from table.Memory = Memory
fault_from table.Store = Store
fault_from table.NotOurs = NotOurs
fault_from table.Exists = Store
fault_from (table.Damaged name) = Damaged name
