use Rattle.std.specs.Option.{option_map}
use Rattle.mx_book.specs.commands.Act.{act_of}
use Rattle.mx_row_questions.specs.entries.Entries.{KindStated}
use Rattle.mx_row_questions.proofs.EntriesProofs.StatedLemmas.{any_as}
use Rattle.mx_row_questions.proofs.entries.stated.body_stated.Goals as goal

pub returns-in-Opening-clause-any_rows : goal.returns-in-Opening-clause-any_rows
returns-in-Opening-clause-any_rows g c = any_as (λ kind trees said. KindStated kind c.args.seq trees (option_map act_of said)) c.in-Opening.is c.opening_stated.ensures.any_rows

pub returns-in-Sector-clause-any_rows : goal.returns-in-Sector-clause-any_rows
returns-in-Sector-clause-any_rows g c = any_as (λ kind trees said. KindStated kind c.args.seq trees (option_map act_of said)) c.in-Sector.is c.sector_stated.ensures.any_rows

pub returns-in-Fit-clause-any_rows : goal.returns-in-Fit-clause-any_rows
returns-in-Fit-clause-any_rows g c = any_as (λ kind trees said. KindStated kind c.args.seq trees (option_map act_of said)) c.in-Fit.is c.fitting_stated.ensures.any_rows

pub returns-in-Remove-clause-any_rows : goal.returns-in-Remove-clause-any_rows
returns-in-Remove-clause-any_rows g c = any_as (λ kind trees said. KindStated kind c.args.seq trees (option_map act_of said)) c.in-Remove.is c.removal_stated.ensures.any_rows

pub returns-in-Release-clause-any_rows : goal.returns-in-Release-clause-any_rows
returns-in-Release-clause-any_rows g c = any_as (λ kind trees said. KindStated kind c.args.seq trees (option_map act_of said)) c.in-Release.is c.release_stated.ensures.any_rows

pub returns-in-Defer-clause-any_rows : goal.returns-in-Defer-clause-any_rows
returns-in-Defer-clause-any_rows g c = any_as (λ kind trees said. KindStated kind c.args.seq trees (option_map act_of said)) c.in-Defer.is c.deferral_stated.ensures.any_rows

pub returns-in-Extend-clause-any_rows : goal.returns-in-Extend-clause-any_rows
returns-in-Extend-clause-any_rows g c = any_as (λ kind trees said. KindStated kind c.args.seq trees (option_map act_of said)) c.in-Extend.is c.extension_stated.ensures.any_rows
