-- Worked answers of a book and what inputs ask for, computed from the definitions.
use Rattle.std.proofs.Common.{refl, ◌≡◌, [], ◌∷◌, true, Some, None, Ok, Err}
use Rattle.std.specs.Prelude.{codes}
use Rattle.std.specs.Fmt.{digits}
use Rattle.mx_book.specs.declared.verdict.Refusal.TheVariants.{UnknownAircraft}
use Rattle.mx_faults.specs.declared.fault.Ask.TheVariants.{Refused}
use Rattle.mx_faults.specs.declared.fault.Fault.TheVariants as office
use Rattle.mx_intake.specs.Fault.{fault}
use Rattle.mx_lists.specs.declared.question.Question.TheVariants.{Life}
use Rattle.mx_http.specs.declared.request.rejection.Rejection.TheVariants.{BadRequest, NotFound, WrongMethod, BodyTooLarge}
use Rattle.mx_http.specs.declared.request.routes.Place.TheVariants as place
use Rattle.mx_http.specs.responses.Request.{enters, imports, asks, unread, rejected}
use Rattle.mx_http.proofs.ResponsesProofs.Worked.{abcd, sector}
use Rattle.mx_desk.specs.BookAnswer.{book_list_answer, answer_of}
use Rattle.mx_desk.specs.Served.{behind_head, bytes_of}

-- ── the answers of a book ──

-- a fault stops the question, whatever the list would be
question_stopped : book_list_answer (Err (Refused UnknownAircraft)) (Some office.Memory) ≡ (503, codes "fault memory\n")
question_stopped = refl

-- both commands have replies, or the first alone where the store failed at the second
both_entered : answer_of [] (enters (abcd ∷ sector ∷ [])) 2 None ≡ (200, codes "accepted 1\naccepted 2\n")
unfolding digits
both_entered = refl

first_entered : answer_of [] (enters (abcd ∷ sector ∷ [])) 1 (Some office.Store) ≡ (503, codes "accepted 1\nfault store\n")
unfolding digits
first_entered = refl

-- the first row of a log is bad, and the second is flown by the aircraft
log_entered : answer_of (abcd ∷ []) (imports (Err (fault 63 1) ∷ Ok sector ∷ [])) 1 None ≡ (409, codes "row 1 fault 63\nrow 2 accepted 2\n")
unfolding digits
log_entered = refl

-- the life of the aircraft after its sector, and of one that is not there
life_asked : answer_of (abcd ∷ sector ∷ []) (asks (Life (codes "D-ABCD"))) 0 None ≡ (200, codes "life D-ABCD\nairframe C172 1001:30 801\nend 1\n")
unfolding digits
life_asked = refl

life_of_another : answer_of (abcd ∷ []) (asks (Life (codes "D-NONE"))) 0 None ≡ (409, codes "refused 20\n")
unfolding digits
life_of_another = refl

unread_body : answer_of [] (unread (fault 67 0)) 0 None ≡ (400, codes "fault 67 entry 0\n")
unfolding digits
unread_body = refl

too_large : answer_of [] (rejected BodyTooLarge) 0 None ≡ (413, codes "too large\n")
too_large = refl

-- ── inputs ──

-- the body ends before the length that its head says
body_ends_too_soon : behind_head (Ok ((place.Life, codes "D-ABCD" ∷ []), 3)) (codes "ab") ≡ rejected BadRequest
body_ends_too_soon = refl

-- what stands behind the body is not read
behind_the_body : behind_head (Ok ((place.Life, codes "D-ABCD" ∷ []), 0)) (codes "ab") ≡ asks (Life (codes "D-ABCD"))
behind_the_body = refl

head_is_rejected : behind_head (Err NotFound) (codes "ab") ≡ rejected NotFound
head_is_rejected = refl

-- the method that is allowed stands behind the other fields
other_method : bytes_of (rejected (WrongMethod true)) (405, []) ≡ codes "HTTP/1.1 405 Method Not Allowed\r\nContent-Type: text/plain\r\nContent-Length: 0\r\nConnection: close\r\nAllow: POST\r\n\r\n"
unfolding digits
other_method = refl

entered_by_bytes : bytes_of (enters []) (200, []) ≡ codes "HTTP/1.1 200 OK\r\nContent-Type: text/plain\r\nContent-Length: 0\r\nConnection: close\r\n\r\n"
unfolding digits
entered_by_bytes = refl
