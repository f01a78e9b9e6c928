-- Worked lengths, parts and answers, computed from the definitions.
use Rattle.std.proofs.Common.{refl, ◌≡◌, [], ◌∷◌, Ok, Err, true}
use Rattle.std.specs.Prelude.{codes}
use Rattle.httparse.specs.Grammar.{crlf}
use Rattle.matchit.proofs.OnLiterals.{matchit_on_literals}
use Rattle.mx_http.specs.request.Asked.{asked_by, as_asked, with_body}
use Rattle.mx_http.specs.request.Fields.{body_length, length_said}
use Rattle.mx_http.specs.request.Routes.{desk_routes, part, path_of, with_route}
use Rattle.mx_http.specs.declared.request.routes.NoRoute.TheVariants as no_route
use Rattle.mx_http.specs.declared.request.routes.Place.TheVariants as place
use Rattle.mx_http.specs.declared.request.routes.Route.TheVariants.{Entries}
use Rattle.mx_http.specs.declared.request.rejection.Rejection.TheVariants.{BadRequest, WrongMethod, LengthRequired, BodyTooLarge}

-- a number is digits alone
plain_number : length_said (codes "0042") ≡ Ok 42
plain_number = refl

signed_number : length_said (codes "+2") ≡ Err BadRequest
signed_number = refl

no_number : length_said [] ≡ Err BadRequest
no_number = refl

list_of_numbers : length_said (codes "2, 2") ≡ Err BadRequest
list_of_numbers = refl

-- the most, and one more
most : length_said (codes "65536") ≡ Ok 65536
most = refl

one_more : length_said (codes "65537") ≡ Err BodyTooLarge
one_more = refl

past_any_word : length_said (codes "100000000000000000000000000000002") ≡ Err BodyTooLarge
past_any_word = refl

-- a length is said once, in any case of its name, and no coding is taken
said_once : body_length ((codes "Host", codes "a") ∷ (codes "content-length", codes "7") ∷ []) ≡ Ok 7
said_once = refl

said_twice : body_length ((codes "Content-Length", codes "7") ∷ (codes "CONTENT-LENGTH", codes "7") ∷ []) ≡ Err BadRequest
said_twice = refl

not_said : body_length ((codes "Host", codes "a") ∷ []) ≡ Err LengthRequired
not_said = refl

coded : body_length ((codes "Content-Length", codes "7") ∷ (codes "Transfer-Encoding", codes "chunked") ∷ []) ≡ Err LengthRequired
coded = refl

-- the parts of a path, behind the slash that it begins with
tail_of_a_path : part 2 (path_of (codes "/aircraft/D-ABCD/due/2026-01-02?page=1/2")) ≡ codes "D-ABCD"
tail_of_a_path = refl

day_of_a_path : part 4 (path_of (codes "/aircraft/D-ABCD/due/2026-01-02?page=1/2")) ≡ codes "2026-01-02"
day_of_a_path = refl

-- a place that takes GET has no body, whatever length is said
no_body : with_body ((codes "Content-Length", codes "x") ∷ []) (Ok (place.Life, codes "D-ABCD" ∷ [])) ≡ Ok ((place.Life, codes "D-ABCD" ∷ []), 0)
no_body = refl

-- a wrong method is told before a missing length
wrong_method : with_body [] (Err (no_route.WrongMethod true)) ≡ Err (WrongMethod true)
wrong_method = refl

length_wanted : with_body [] (Ok (place.Sectors, [])) ≡ Err LengthRequired
length_wanted = refl

-- a place that takes POST has a body of the length that is said
length_given : with_body ((codes "Content-Length", codes "7") ∷ []) (Ok (place.Sectors, [])) ≡ Ok ((place.Sectors, []), 7)
length_given = refl

-- the method stands before the target, in a head as in an answer
asked_for_a_life : asked_by (record { blank = []; method = codes "GET"; target = codes "/aircraft/D-ABCD/life"; minor = 1; line_end = crlf; fields = []; last = crlf }) ≡ Ok ((place.Life, codes "D-ABCD" ∷ []), 0)
unfolding matchit_on_literals desk_routes with_route
asked_for_a_life = refl

-- the length stays beside what is asked for
answer_with_a_length : as_asked (Ok (Entries, 7)) ≡ Ok ((place.Entries, []), 7)
answer_with_a_length = refl
