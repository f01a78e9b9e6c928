-- The kept rows of a command: those that begin with it, and what becomes of those that it touches.
use Rattle.std.specs.Prelude.{ℕ, max, [], ◌∷◌, Some, None}
use Rattle.mx_base.specs.declared.amounts.Use.{Use}
use Rattle.mx_book.specs.declared.commands.fitting.Fitting.{Fitting}
use Rattle.mx_book.specs.declared.commands.sector.Sector.{Sector}
use Rattle.mx_book.specs.due.Due.{IsLife}
use Rattle.mx_book.specs.Life.{use_after}
use Rattle.mx_base.specs.declared.rows.rows.SpanRow.{SpanRow}
use Rattle.mx_base.specs.declared.rows.rows.TotalRow.{TotalRow}
use Rattle.mx_registers.specs.kept.Totals.{raised_row}

-- ── totals ──

-- the life of a total is one that an item may have
abbrev pub HasLife : TotalRow → Type 0
HasLife row = IsLife row.life

-- the first total of the item with a number: the use that it brings with it, and the moment up to which that counts
abbrev pub total_begun : ℕ → Use → ℕ → TotalRow
total_begun item life clock = record { item = item; life = life; clock = clock }

-- a total, its clock raised to a moment where that is later
abbrev pub total_clocked : ℕ → TotalRow → TotalRow
total_clocked moment row = record row { clock = max row.clock moment }

-- a total with a sector added to its life
abbrev pub total_credited : Sector → TotalRow → TotalRow
total_credited s row = record row { life = use_after (s ∷ []) row.life }

-- the same, and where it is that of the aircraft with a number its clock raised to the landing
abbrev pub total_flown : ℕ → Sector → TotalRow → TotalRow
total_flown aircraft s row = raised_row aircraft s.on (total_credited s row)

-- ── spans ──

-- the span that a fitting begins, by the numbers of its entry, its component and its aircraft
abbrev pub span_fitted : ℕ → ℕ → ℕ → Fitting → SpanRow
span_fitted seq component aircraft f = record { fit_seq = seq; component = component; aircraft = aircraft; position = f.position; from = f.moment; remove_seq = None; to = None }

-- a span, ended by the entry with a number at a moment
abbrev pub span_removed : ℕ → ℕ → SpanRow → SpanRow
span_removed seq to row = record row { remove_seq = Some seq; to = Some to }
