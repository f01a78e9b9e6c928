-- The seven routes of the desk, over the meaning of `matchit`, and the parts of their paths.
use Rattle.std.specs.Prelude.{ℕ, zero, suc, List, [], ◌∷◌, codes, Bool, true, false, ◌==◌, Option, Some, None, Result, Ok, Err, option_map, if◌then◌else◌}
use Rattle.std.specs.List.{before_first, after_first}
use Rattle.std.specs.Str.{bytes_eq}
use Rattle.matchit.specs.Rows.{RowsOf}
use Rattle.matchit.specs.Seek.{first}
use Rattle.matchit.specs.Order.{placed}
use Rattle.matchit.specs.Route.{Scan, parse_route}
use Rattle.matchit.specs.Router.{RouteOf, route_from}
use Rattle.matchit.specs.declared.error.InsertError.{InsertError}
use Rattle.mx_http.specs.declared.request.routes.Place.{Place}
use Rattle.mx_http.specs.declared.request.routes.Place.TheVariants as place
use Rattle.mx_http.specs.declared.request.routes.Route.{Route}
use Rattle.mx_http.specs.declared.request.routes.Route.TheVariants.{Entries, Programme, Sectors, Due, Limits, Forecast, Life}
use Rattle.mx_http.specs.declared.request.routes.NoRoute.{NoRoute}
use Rattle.mx_http.specs.declared.request.routes.NoRoute.TheVariants.{NotFound, WrongMethod}

-- the routes of a router, each with the place that it leads to
abbrev pub Rows : Type 0
Rows = RowsOf (RouteOf Place)

-- the rows with one more
abbrev pub added : Result Scan InsertError → Place → Rows → Rows
added (Ok s) p rows = placed (s.pattern, route_from s p) rows
added (Err e) p rows = rows

unfoldable pub with_route : List ℕ → Place → Rows → Rows
with_route text p rows = added (parse_route text) p rows

-- the seven patterns
unfoldable pub desk_routes : Rows
desk_routes =
    with_route (codes "/aircraft/{tail}/life") place.Life
    (with_route (codes "/aircraft/{tail}/forecast/{day}/{days}/{minutes}/{cycles}") place.Forecast
    (with_route (codes "/aircraft/{tail}/limits/{day}") place.Limits
    (with_route (codes "/aircraft/{tail}/due/{day}") place.Due
    (with_route (codes "/sectors") place.Sectors
    (with_route (codes "/programmes/{doc}") place.Programme
    (with_route (codes "/entries") place.Entries []))))))

-- the place that a path names
abbrev pub place_of : List ℕ → Option Place
place_of path = option_map (λ e. e.value) (first desk_routes path)

-- part n of a path, counted from 0: what stands between its slashes
abbrev pub part : ℕ → List ℕ → List ℕ
part zero path = before_first (λ b. b == 47) path
part (suc n) path = part n (after_first (λ b. b == 47) path)

-- a route without what it borrows: its place, and the variable parts of its path
abbrev pub Asked : Type 0
Asked = Place × List (List ℕ)

abbrev pub asked : Route → Asked
asked Entries = (place.Entries, [])
asked (Programme doc) = (place.Programme, doc.now ∷ [])
asked Sectors = (place.Sectors, [])
asked (Due tail day) = (place.Due, tail.now ∷ day.now ∷ [])
asked (Limits tail day) = (place.Limits, tail.now ∷ day.now ∷ [])
asked (Forecast tail day days minutes cycles) = (place.Forecast, tail.now ∷ day.now ∷ days.now ∷ minutes.now ∷ cycles.now ∷ [])
asked (Life tail) = (place.Life, tail.now ∷ [])

-- what a path of a place asks for
abbrev pub at_place : Place → List ℕ → Asked
at_place place.Entries path = (place.Entries, [])
at_place place.Programme path = (place.Programme, part 2 path ∷ [])
at_place place.Sectors path = (place.Sectors, [])
at_place place.Due path = (place.Due, part 2 path ∷ part 4 path ∷ [])
at_place place.Limits path = (place.Limits, part 2 path ∷ part 4 path ∷ [])
at_place place.Forecast path = (place.Forecast, part 2 path ∷ part 4 path ∷ part 5 path ∷ part 6 path ∷ part 7 path ∷ [])
at_place place.Life path = (place.Life, part 2 path ∷ [])

-- whether a place takes POST, or else GET
abbrev pub takes_post : Place → Bool
takes_post place.Entries = true
takes_post place.Programme = true
takes_post place.Sectors = true
takes_post place.Due = false
takes_post place.Limits = false
takes_post place.Forecast = false
takes_post place.Life = false

abbrev pub method_of : Place → List ℕ
method_of p = if takes_post p then codes "POST" else codes "GET"

abbrev pub by_method : List ℕ → List ℕ → Option Place → Result Asked NoRoute
by_method method path None = Err NotFound
by_method method path (Some p) = if bytes_eq method (method_of p) then Ok (at_place p path) else Err (WrongMethod (takes_post p))

-- the path of a target: up to the first question mark
abbrev pub path_of : List ℕ → List ℕ
path_of target = before_first (λ b. b == 63) target

-- what a method and a target ask for, or why nothing
abbrev pub route_of : List ℕ → List ℕ → Result Asked NoRoute
route_of method target = by_method method (path_of target) (place_of (path_of target))
