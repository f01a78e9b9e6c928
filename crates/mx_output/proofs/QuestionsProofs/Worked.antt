-- The question that texts ask, computed from the definitions.
use Rattle.std.proofs.Common.{refl, ◌≡◌, [], ◌∷◌, true, false, Some, None}
use Rattle.std.specs.Prelude.{codes, map, is_some}
use Rattle.mx_intake.proofs.Worked.{intake_on_literals}
use Rattle.mx_output.specs.questions.Asking.{deferred_question, doc_of, due_question, fleet_question, forecast_question, is_in_reach, life_question, limits_question, outlook_question, tail_of}
use Rattle.mx_lists.specs.declared.question.Question.TheVariants as asked

-- a registration has up to 8 characters, A to Z, 0 to 9 and the hyphen
registrations : map tail_of (codes "D-ABCDEF" ∷ codes "D-ABCDEFG" ∷ codes "d-abcd" ∷ codes "" ∷ []) ≡ Some (codes "D-ABCDEF") ∷ None ∷ None ∷ None ∷ []
registrations = refl

-- a document has up to 40 characters
longest_document : map (λ text. is_some (doc_of text)) (codes "0123456789012345678901234567890123456789" ∷ codes "01234567890123456789012345678901234567890" ∷ []) ≡ true ∷ false ∷ []
longest_document = refl

life_asked : map life_question (codes "D-ABCD" ∷ codes "d-abcd" ∷ []) ≡ Some (asked.Life (codes "D-ABCD")) ∷ None ∷ []
life_asked = refl

due_asked : map (due_question (codes "D-ABCD")) (codes "2024-03-10" ∷ codes "2024-3-10" ∷ []) ≡ Some (asked.Due (codes "D-ABCD") 19792) ∷ None ∷ []
unfolding intake_on_literals
due_asked = refl

limits_asked : map (limits_question (codes "D-ABCD")) (codes "2024-03-10" ∷ codes "2024-02-30" ∷ []) ≡ Some (asked.Limits (codes "D-ABCD") 19792) ∷ None ∷ []
unfolding intake_on_literals
limits_asked = refl

-- 3,650 days ahead at most, at up to 1,440 minutes and 50 cycles a day
farthest : is_in_reach 3650 1440 50 ≡ true
farthest = refl

beyond : is_in_reach 3651 1440 50 ∷ is_in_reach 3650 1441 50 ∷ is_in_reach 3650 1440 51 ∷ [] ≡ false ∷ false ∷ false ∷ []
beyond = refl

forecast_asked : forecast_question (codes "D-ABCD") (codes "2024-03-10") 30 120 4 ≡ Some (asked.Forecast (codes "D-ABCD") 19792 30 120 4)
unfolding intake_on_literals
forecast_asked = refl

forecast_too_far : forecast_question (codes "D-ABCD") (codes "2024-03-10") 3651 120 4 ≡ None
unfolding intake_on_literals
forecast_too_far = refl

fleet_asked : map fleet_question (codes "2024-03-10" ∷ codes "2024-3-10" ∷ []) ≡ Some (asked.Fleet 19792) ∷ None ∷ []
unfolding intake_on_literals
fleet_asked = refl

deferred_asked : map deferred_question (codes "2024-03-10" ∷ codes "2024-02-30" ∷ []) ≡ Some (asked.Deferred 19792) ∷ None ∷ []
unfolding intake_on_literals
deferred_asked = refl

outlook_asked : outlook_question (codes "2024-03-10") 30 120 4 ≡ Some (asked.Outlook 19792 30 120 4)
unfolding intake_on_literals
outlook_asked = refl

outlook_too_far : outlook_question (codes "2024-03-10") 30 1441 4 ≡ None
unfolding intake_on_literals
outlook_too_far = refl
