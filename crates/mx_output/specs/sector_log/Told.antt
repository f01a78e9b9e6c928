-- What the rows of a sector log were told: whether one is bad, or was refused.
use Rattle.std.specs.Prelude.{Bool, true, false}
use Rattle.mx_reports.specs.Replies.{is_refusal}
use Rattle.mx_output.specs.declared.sector_log.report.RowReply.{RowReply}
use Rattle.mx_output.specs.declared.sector_log.report.RowReply.TheVariants.{Entered, Bad}

-- the row states no sector
abbrev pub is_bad : RowReply → Bool
is_bad (Entered reply) = false
is_bad (Bad fault) = true

-- the sector of the row was refused
abbrev pub is_refused_row : RowReply → Bool
is_refused_row (Entered reply) = is_refusal reply
is_refused_row (Bad fault) = false
