-- Worked answers to questions and ends of imports, computed from the definitions.
use Rattle.std.proofs.Common.{refl, ◌≡◌, [], ◌∷◌, Some, None}
use Rattle.std.specs.Prelude.{codes}
use Rattle.std.specs.Fmt.{digits}
use Rattle.mx_book.specs.declared.verdict.Refusal.TheVariants.{UnknownAircraft}
use Rattle.mx_book.specs.declared.verdict.Reply.TheVariants.{Accepted, Already}
use Rattle.mx_book.specs.declared.verdict.Reply.TheVariants as reply
use Rattle.mx_output.specs.declared.endings.ending.Ending.TheVariants.{Done, Refused, Bad}
use Rattle.mx_output.specs.printed.Listed.{list_answer, list_ending}
use Rattle.mx_lists.specs.declared.report.Report.TheVariants as report
use Rattle.mx_base.specs.Calendar.{date_of}
use Rattle.mx_base.specs.Texts.{day_text}
use Rattle.mx_output.specs.declared.sector_log.report.RowReply.TheVariants as row
use Rattle.mx_output.specs.printed.Imported.{import_ending}

-- a question about an aircraft that is there, and about one that is not
known : list_answer (Some (report.Life (record { tail = codes "D-ABCD"; kind = codes "TRY"; life = record { minutes = 60090; cycles = 801 }; parts = [] })))
    ≡ codes "life D-ABCD\nairframe TRY 1001:30 801\nend 1\n"
unfolding digits
known = refl

known_ending : list_ending (Some (report.Life (record { tail = codes "D-ABCD"; kind = codes "TRY"; life = record { minutes = 60090; cycles = 801 }; parts = [] }))) ≡ Done
known_ending = refl

unknown : list_answer None ≡ codes "refused 20\n"
unfolding digits
unknown = refl

unknown_ending : list_ending None ≡ Refused
unknown_ending = refl

-- what is due on one
due : list_answer (Some (report.Due (record { tail = codes "D-ABCD"; day = 19792; life = record { minutes = 60090; cycles = 801 }; rows = [] })))
    ≡ codes "due D-ABCD 2024-03-10 1001:30 801\nend 0\n"
unfolding digits day_text date_of
due = refl

due_ends : list_ending (Some (report.Due (record { tail = codes "D-ABCD"; day = 19792; life = record { minutes = 60090; cycles = 801 }; rows = [] }))) ≡ Done
due_ends = refl

-- the last days of the defects of one
limits : list_answer (Some (report.Limits (record { tail = codes "D-ABCD"; day = 19792; rows = [] }))) ≡ codes "limits D-ABCD 2024-03-10\nend 0\n"
unfolding digits day_text date_of
limits = refl

-- an import ends as its gravest row
no_row : import_ending [] ≡ Done
no_row = refl

good_rows_alone : import_ending (row.Entered (Accepted 2) ∷ row.Entered (Already 1) ∷ []) ≡ Done
good_rows_alone = refl

refused_row : import_ending (row.Entered (Accepted 2) ∷ row.Entered (reply.Refused UnknownAircraft) ∷ []) ≡ Refused
refused_row = refl

bad_row_before_a_refused_one : import_ending (row.Bad (record { number = 65; entry = 1 }) ∷ row.Entered (reply.Refused UnknownAircraft) ∷ []) ≡ Bad
bad_row_before_a_refused_one = refl

bad_row_behind_a_refused_one : import_ending (row.Entered (reply.Refused UnknownAircraft) ∷ row.Bad (record { number = 63; entry = 2 }) ∷ row.Entered (Accepted 2) ∷ []) ≡ Bad
bad_row_behind_a_refused_one = refl
