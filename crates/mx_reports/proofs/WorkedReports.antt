-- Worked lists of a book, and their texts, computed from the definitions.
use Rattle.std.proofs.Common.{refl, ◌≡◌, ℕ, List, [], ◌∷◌, Some, None}
use Rattle.std.specs.Prelude.{codes, map}
use Rattle.std.specs.Fmt.{digits}
use Rattle.mx_base.specs.Calendar.{date_of}
use Rattle.mx_base.specs.Texts.{day_text}
use Rattle.mx_book.specs.commands.Act.{Entry, Added, Flown}
use Rattle.mx_lists.specs.declared.question.Question.TheVariants as asked
use Rattle.mx_lists.specs.declared.report.Report.TheVariants as report
use Rattle.mx_lists.specs.Report.{report_of, tail_asked}
use Rattle.mx_reports.specs.ReportText.{report_lines}

-- D-ABCD of a kind, built on a day, with 60,000 minutes and 800 cycles as of a moment, and on 2024-03-01 a sector of 90 minutes and one cycle, the first of a page
abbrev pub flown_once : List ℕ → ℕ → ℕ → ℕ → List ℕ → List Entry
flown_once kind birth as_of page doc =
    record {
      doc = codes "A1";
      act = Added (record { tail = codes "D-ABCD"; kind = kind; birth = birth; opening = record { minutes = 60000; cycles = 800 }; as_of = as_of }) [];
    }
    ∷ record { doc = doc; act = Flown (record { tail = codes "D-ABCD"; page = page; line = 1; off = 28488000; on = 28488090; cycles = 1 }) }
    ∷ []

-- built on 2000-01-01, and as of 2024-01-01T00:00
abbrev flown : List Entry
flown = flown_once (codes "C172") 10957 28401120 12 (codes "TL/D-ABCD/12/1")

-- ── each question is of its aircraft or of all, and has its list ──

tails : map tail_asked (asked.Life (codes "D-ABCD") ∷ asked.Due (codes "D-EABC") 0 ∷ asked.Forecast (codes "D-MINE") 1 2 3 4 ∷ asked.Limits (codes "D-NONE") 0 ∷ [])
    ≡ Some (codes "D-ABCD") ∷ Some (codes "D-EABC") ∷ Some (codes "D-MINE") ∷ Some (codes "D-NONE") ∷ []
tails = refl

of_all : map tail_asked (asked.Fleet 0 ∷ asked.Outlook 0 1 2 3 ∷ asked.Aircraft ∷ asked.Components ∷ asked.Deferred 0 ∷ []) ≡ None ∷ None ∷ None ∷ None ∷ None ∷ []
of_all = refl

life : report_of flown (asked.Life (codes "D-ABCD"))
    ≡ Some (report.Life (record { tail = codes "D-ABCD"; kind = codes "C172"; life = record { minutes = 60090; cycles = 801 }; parts = [] }))
life = refl

-- day 19,792 is 2024-03-10; the kind has no programme, and no defect is open
due : report_of flown (asked.Due (codes "D-ABCD") 19792)
    ≡ Some (report.Due (record { tail = codes "D-ABCD"; day = 19792; life = record { minutes = 60090; cycles = 801 }; rows = [] }))
due = refl

forecast : report_of flown (asked.Forecast (codes "D-ABCD") 19792 30 120 4)
    ≡ Some (report.Forecast (record { tail = codes "D-ABCD"; day = 19792; days = 30; minutes = 120; cycles = 4; rows = [] }))
forecast = refl

limits : report_of flown (asked.Limits (codes "D-ABCD") 19792) ≡ Some (report.Limits (record { tail = codes "D-ABCD"; day = 19792; rows = [] }))
limits = refl

of_another : map (report_of flown) (asked.Life (codes "D-NONE") ∷ asked.Due (codes "D-NONE") 0 ∷ asked.Forecast (codes "D-NONE") 0 1 1 1 ∷ asked.Limits (codes "D-NONE") 0 ∷ [])
    ≡ None ∷ None ∷ None ∷ None ∷ []
of_another = refl

-- ── each list has its text ──

text_of_a_life : report_lines (report.Life (record { tail = codes "D-ABCD"; kind = codes "C172"; life = record { minutes = 60090; cycles = 801 }; parts = [] }))
    ≡ codes "life D-ABCD\nairframe C172 1001:30 801\nend 1\n"
unfolding digits
text_of_a_life = refl

text_of_what_is_due : report_lines (report.Due (record { tail = codes "D-ABCD"; day = 19792; life = record { minutes = 60090; cycles = 801 }; rows = [] }))
    ≡ codes "due D-ABCD 2024-03-10 1001:30 801\nend 0\n"
unfolding digits day_text date_of
text_of_what_is_due = refl

text_of_a_forecast : report_lines (report.Forecast (record { tail = codes "D-ABCD"; day = 19792; days = 30; minutes = 120; cycles = 4; rows = [] }))
    ≡ codes "forecast D-ABCD 2024-03-10 30 120 4\nend 0\n"
unfolding digits day_text date_of
text_of_a_forecast = refl

text_of_limits : report_lines (report.Limits (record { tail = codes "D-ABCD"; day = 19792; rows = [] })) ≡ codes "limits D-ABCD 2024-03-10\nend 0\n"
unfolding digits day_text date_of
text_of_limits = refl
