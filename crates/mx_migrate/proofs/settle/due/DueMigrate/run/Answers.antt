use Rattle.std.proofs.Common.{◌≡◌, Result, sym, subst}
use Rattle.sqlite.specs.Held.{state}
use Rattle.sqlite.specs.State.{State}
use Rattle.mx_base.specs.declared.point.Point.{Point}
use Rattle.mx_layout.specs.declared.fault.TableFault.{TableFault}
use Rattle.mx_migrate.specs.Steps.{Runs}
use Rattle.mx_migrate.specs.declared.settle.due.Due.{Due}
use Rattle.mx_migrate.specs.declared.settle.due.Due.TheVariants as due
use Rattle.mx_migrate.specs.settle.Due.{IsFor, IsOffFor, MakesBy}
use Rattle.mx_migrate.proofs.settle.due.DueMigrate.run.Goals as goal

-- what the step that is held did is what the step that is due did
as_due : (held step : Due) (old new : State) (result : Result Point TableFault) → step ≡ held → Runs (IsFor held) (MakesBy held) (IsOffFor held) old new result → Runs (IsFor step) (MakesBy step) (IsOffFor step) old new result
as_due held step old new result is runs = subst (λ s. Runs (IsFor s) (MakesBy s) (IsOffFor s) old new result) (sym is) runs

pub returns-in-SectorTable-clause-runs : goal.returns-in-SectorTable-clause-runs
returns-in-SectorTable-clause-runs g c =
    as_due (due.SectorTable c.in-SectorTable.step) c.args.self.now (state g.S.Store c.args.tx.now.conn.now) (state g.S.Store c.run.new.tx.conn.now) c.run.result c.in-SectorTable.is c.run.ensures.runs

pub returns-in-Sectors-clause-runs : goal.returns-in-Sectors-clause-runs
returns-in-Sectors-clause-runs g c =
    as_due (due.Sectors c.in-Sectors.step) c.args.self.now (state g.S.Store c.args.tx.now.conn.now) (state g.S.Store c.run-in-Sectors.new.tx.conn.now) c.run-in-Sectors.result c.in-Sectors.is c.run-in-Sectors.ensures.runs

pub returns-in-SpanTable-clause-runs : goal.returns-in-SpanTable-clause-runs
returns-in-SpanTable-clause-runs g c =
    as_due (due.SpanTable c.in-SpanTable.step) c.args.self.now (state g.S.Store c.args.tx.now.conn.now) (state g.S.Store c.run-in-SpanTable.new.tx.conn.now) c.run-in-SpanTable.result c.in-SpanTable.is c.run-in-SpanTable.ensures.runs

pub returns-in-Component-clause-runs : goal.returns-in-Component-clause-runs
returns-in-Component-clause-runs g c =
    as_due (due.Component c.in-Component.step) c.args.self.now (state g.S.Store c.args.tx.now.conn.now) (state g.S.Store c.run-in-Component.new.tx.conn.now) c.run-in-Component.result c.in-Component.is c.run-in-Component.ensures.runs

pub returns-in-TotalTable-clause-runs : goal.returns-in-TotalTable-clause-runs
returns-in-TotalTable-clause-runs g c =
    as_due (due.TotalTable c.in-TotalTable.step) c.args.self.now (state g.S.Store c.args.tx.now.conn.now) (state g.S.Store c.run-in-TotalTable.new.tx.conn.now) c.run-in-TotalTable.result c.in-TotalTable.is c.run-in-TotalTable.ensures.runs

pub returns-in-Total-clause-runs : goal.returns-in-Total-clause-runs
returns-in-Total-clause-runs g c =
    as_due (due.Total c.in-Total.step) c.args.self.now (state g.S.Store c.args.tx.now.conn.now) (state g.S.Store c.run-in-Total.new.tx.conn.now) c.run-in-Total.result c.in-Total.is c.run-in-Total.ensures.runs

pub returns-in-BaseTable-clause-runs : goal.returns-in-BaseTable-clause-runs
returns-in-BaseTable-clause-runs g c =
    as_due (due.BaseTable c.in-BaseTable.step) c.args.self.now (state g.S.Store c.args.tx.now.conn.now) (state g.S.Store c.run-in-BaseTable.new.tx.conn.now) c.run-in-BaseTable.result c.in-BaseTable.is c.run-in-BaseTable.ensures.runs

pub returns-in-Bases-clause-runs : goal.returns-in-Bases-clause-runs
returns-in-Bases-clause-runs g c =
    as_due (due.Bases c.in-Bases.step) c.args.self.now (state g.S.Store c.args.tx.now.conn.now) (state g.S.Store c.run-in-Bases.new.tx.conn.now) c.run-in-Bases.result c.in-Bases.is c.run-in-Bases.ensures.runs

pub returns-in-End-clause-runs : goal.returns-in-End-clause-runs
returns-in-End-clause-runs g c =
    as_due (due.End c.in-End.step) c.args.self.now (state g.S.Store c.args.tx.now.conn.now) (state g.S.Store c.run-in-End.new.tx.conn.now) c.run-in-End.result c.in-End.is c.run-in-End.ensures.runs
