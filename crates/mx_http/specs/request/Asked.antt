-- What the head of a request asks for.
use Rattle.std.specs.Prelude.{◌≡◌, ◌⊎◌, ℕ, List, map, Result, Ok, Err, if◌then◌else◌}
use Rattle.httparse.specs.Grammar.{RequestHead}
use Rattle.httparse.specs.Spans.{name_and_value}
use Rattle.mx_http.specs.request.Fields.{body_length}
use Rattle.mx_http.specs.request.Head.{IsReadable}
use Rattle.mx_http.specs.request.Routes.{Asked, asked, route_of, takes_post}
use Rattle.mx_http.specs.declared.request.rejection.Rejection.{Rejection}
use Rattle.mx_http.specs.declared.request.rejection.Rejection.TheVariants.{BadRequest, NotFound, WrongMethod}
use Rattle.mx_http.specs.declared.request.routes.Route.{Route}
use Rattle.mx_http.specs.declared.request.routes.NoRoute.{NoRoute}
use Rattle.mx_http.specs.declared.request.routes.NoRoute.TheVariants as no_route

-- what is asked for with the length of its body, or why that is rejected
abbrev pub with_length : Asked → Result ℕ Rejection → Result (Asked × ℕ) Rejection
with_length asked (Ok n) = Ok (asked, n)
with_length asked (Err why) = Err why

-- how it is rejected where nothing is asked for
abbrev pub rejected : NoRoute → Rejection
rejected no_route.NotFound = NotFound
rejected (no_route.WrongMethod allow_post) = WrongMethod allow_post
rejected no_route.Memory = BadRequest

-- what is asked for, and how long the body is: a request that has no body to give is not asked for its length
abbrev pub with_body : List (List ℕ × List ℕ) → Result Asked NoRoute → Result (Asked × ℕ) Rejection
with_body fields (Ok asked) = if takes_post asked.0 then with_length asked (body_length fields) else Ok (asked, 0)
with_body fields (Err why) = Err (rejected why)

-- what a head asks for, or why it is rejected: first by its target, then by its method, then by the length of its body
abbrev pub asked_by : RequestHead → Result (Asked × ℕ) Rejection
asked_by head = with_body (map name_and_value head.fields) (route_of head.method head.target)

-- what these bytes ask for as a head: those that can't be read are rejected
abbrev pub AsksFor : List ℕ → Result (Asked × ℕ) Rejection → Type 0
AsksFor bytes said =
    ((head : RequestHead) × IsReadable bytes head × (said ≡ asked_by head))
    ⊎ (((head : RequestHead) → ¬ (IsReadable bytes head)) × (said ≡ Err BadRequest))

-- an answer without what its route borrows
abbrev pub as_asked : Result (Route × ℕ) Rejection → Result (Asked × ℕ) Rejection
as_asked (Ok said) = Ok (asked said.0, said.1)
as_asked (Err why) = Err why
