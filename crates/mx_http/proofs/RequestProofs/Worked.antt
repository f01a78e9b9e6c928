-- Worked responses and heads, computed from the definitions.
use Rattle.std.proofs.Common.{refl, ◌≡◌, [], ◌∷◌, false, true, Some, None, Ok, Err}
use Rattle.std.specs.Prelude.{codes, map}
use Rattle.std.specs.Fmt.{digits}
use Rattle.mx_http.specs.request.Body.{whole_body}
use Rattle.mx_http.specs.request.Head.{head_length, head_of}
use Rattle.mx_http.specs.request.Response.{allow_line, response_bytes}
use Rattle.mx_http.specs.request.Rejected.{rejection_status, rejection_allows, rejection_body}
use Rattle.mx_http.specs.declared.request.rejection.Rejection.TheVariants.{BadRequest, NotFound, WrongMethod, LengthRequired, BodyTooLarge, HeadTooLarge}
use Rattle.mx_http.specs.declared.request.head.TheConstants.{MOST_HEAD, MOST_FIELDS}
use Rattle.mx_http.specs.declared.request.input.TheConstants.{CHUNK}
use Rattle.mx_http.specs.declared.request.length.TheConstants.{MOST_BODY}

empty_and_fine : response_bytes 200 None [] ≡ codes "HTTP/1.1 200 OK\r\nContent-Type: text/plain\r\nContent-Length: 0\r\nConnection: close\r\n\r\n"
unfolding digits
empty_and_fine = refl

with_a_body : response_bytes 422 None (codes "refused 20\n") ≡ codes "HTTP/1.1 422 Unprocessable Entity\r\nContent-Type: text/plain\r\nContent-Length: 11\r\nConnection: close\r\n\r\nrefused 20\n"
unfolding digits
with_a_body = refl

other_method : response_bytes (rejection_status (WrongMethod true)) (rejection_allows (WrongMethod true)) (rejection_body (WrongMethod true)) ≡ codes "HTTP/1.1 405 Method Not Allowed\r\nContent-Type: text/plain\r\nContent-Length: 0\r\nConnection: close\r\nAllow: POST\r\n\r\n"
unfolding digits
other_method = refl

-- GET is allowed instead, the last of the fields
get_allowed : allow_line (rejection_allows (WrongMethod false)) ≡ codes "Allow: GET\r\n"
get_allowed = refl

-- the status and the body of each rejection
statuses : map rejection_status (BadRequest ∷ NotFound ∷ WrongMethod true ∷ LengthRequired ∷ BodyTooLarge ∷ HeadTooLarge ∷ []) ≡ 400 ∷ 404 ∷ 405 ∷ 411 ∷ 413 ∷ 431 ∷ []
statuses = refl

bodies : map rejection_body (BadRequest ∷ LengthRequired ∷ BodyTooLarge ∷ HeadTooLarge ∷ []) ≡ codes "bad request\n" ∷ codes "length required\n" ∷ codes "too large\n" ∷ codes "too large\n" ∷ []
bodies = refl

no_bodies : map rejection_body (NotFound ∷ WrongMethod false ∷ []) ≡ [] ∷ [] ∷ []
no_bodies = refl

head_before_a_body : head_length (codes "GET / HTTP/1.1\r\nHost: a\r\n\r\nbody\r\n\r\n") ≡ Some 27
head_before_a_body = refl

no_head_yet : head_length (codes "GET / HTTP/1.1\r\n\n\r\n") ≡ None
no_head_yet = refl

head_at_the_front : head_of (codes "GET / HTTP/1.0\r\n\r\n") ≡ Ok 18
head_at_the_front = refl

input_ends_within_its_head : head_of (codes "GET / HTTP/1.0\r\n") ≡ Err BadRequest
input_ends_within_its_head = refl

body_behind_which_more_stands : whole_body 3 (codes "abcd") ≡ Some (codes "abc")
body_behind_which_more_stands = refl

body_that_ends_too_soon : whole_body 3 (codes "ab") ≡ None
body_that_ends_too_soon = refl

-- the bytes and the fields of a head, the bytes of a body, and those that are asked of a read
most_of_a_request : MOST_HEAD ∷ MOST_FIELDS ∷ MOST_BODY ∷ CHUNK ∷ [] ≡ 8192 ∷ 64 ∷ 65536 ∷ 4096 ∷ []
most_of_a_request = refl
