use Rattle.sqlite.specs.Held.{state}
use Rattle.mx_layout.specs.CreateTexts.{crs_line_by_defect_text}
use Rattle.mx_layout.specs.Tables.{crs_line, crs_line_by_defect}
use Rattle.mx_layout.proofs.StepLemmas.{crs_line_by_defect_made}
use Rattle.mx_moves.proofs.AlterLemmas.{makes_index}
use Rattle.mx_tables.proofs.InsertsProofs.SetLemmas.{on_weaker}
use Rattle.mx_moves.proofs.tables.index_lines.Goals as goal

pub returns-clause-alters : goal.returns-clause-alters
returns-clause-alters g c =
    makes_index crs_line_by_defect_text (state g.S.Store c.args.tx.now.conn.now) (state g.S.Store c.execute.new.tx.conn.now) c.execute.result c.execute.ensures.runs c.execute.ensures.stays.inside c.execute.ensures.stays.within 25 crs_line crs_line_by_defect crs_line_by_defect_made

pub returns-clause-open : goal.returns-clause-open
returns-clause-open g c clean begun = on_weaker c.execute.result (λ stays. stays.was_open) (c.execute.ensures.stays.inside clean begun)
