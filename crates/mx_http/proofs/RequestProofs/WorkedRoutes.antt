-- Worked routes, computed from the definitions: each of the seven patterns, the wrong method, and no path.
use Rattle.std.proofs.Common.{refl, ◌≡◌, [], ◌∷◌, Ok, Err, false, true}
use Rattle.std.specs.Prelude.{codes}
use Rattle.matchit.proofs.OnLiterals.{matchit_on_literals}
use Rattle.mx_http.specs.request.Routes.{desk_routes, route_of, with_route}
use Rattle.mx_http.specs.declared.request.routes.NoRoute.TheVariants.{NotFound, WrongMethod}
use Rattle.mx_http.specs.declared.request.routes.Place.TheVariants as place

entries : route_of (codes "POST") (codes "/entries") ≡ Ok (place.Entries, [])
unfolding matchit_on_literals desk_routes with_route
entries = refl

programme : route_of (codes "POST") (codes "/programmes/P-7") ≡ Ok (place.Programme, codes "P-7" ∷ [])
unfolding matchit_on_literals desk_routes with_route
programme = refl

sectors : route_of (codes "POST") (codes "/sectors") ≡ Ok (place.Sectors, [])
unfolding matchit_on_literals desk_routes with_route
sectors = refl

due : route_of (codes "GET") (codes "/aircraft/D-ABCD/due/2026-01-02") ≡ Ok (place.Due, codes "D-ABCD" ∷ codes "2026-01-02" ∷ [])
unfolding matchit_on_literals desk_routes with_route
due = refl

limits : route_of (codes "GET") (codes "/aircraft/D-ABCD/limits/2026-01-02") ≡ Ok (place.Limits, codes "D-ABCD" ∷ codes "2026-01-02" ∷ [])
unfolding matchit_on_literals desk_routes with_route
limits = refl

forecast : route_of (codes "GET") (codes "/aircraft/T/forecast/D/1/2/3") ≡ Ok (place.Forecast, codes "T" ∷ codes "D" ∷ codes "1" ∷ codes "2" ∷ codes "3" ∷ [])
unfolding matchit_on_literals desk_routes with_route
forecast = refl

life : route_of (codes "GET") (codes "/aircraft/D-ABCD/life") ≡ Ok (place.Life, codes "D-ABCD" ∷ [])
unfolding matchit_on_literals desk_routes with_route
life = refl

-- what stands behind a question mark is no part of the path
query : route_of (codes "GET") (codes "/aircraft/D-ABCD/life?at=/sectors") ≡ Ok (place.Life, codes "D-ABCD" ∷ [])
unfolding matchit_on_literals desk_routes with_route
query = refl

-- a path with the other method
post_wanted : route_of (codes "GET") (codes "/sectors") ≡ Err (WrongMethod true)
unfolding matchit_on_literals desk_routes with_route
post_wanted = refl

get_wanted : route_of (codes "POST") (codes "/aircraft/D-ABCD/life") ≡ Err (WrongMethod false)
unfolding matchit_on_literals desk_routes with_route
get_wanted = refl

-- a path that no pattern is like
no_path : route_of (codes "POST") (codes "/sector") ≡ Err NotFound
unfolding matchit_on_literals desk_routes with_route
no_path = refl

empty_tail : route_of (codes "GET") (codes "/aircraft//life") ≡ Err NotFound
unfolding matchit_on_literals desk_routes with_route
empty_tail = refl

slash_behind : route_of (codes "POST") (codes "/sectors/") ≡ Err NotFound
unfolding matchit_on_literals desk_routes with_route
slash_behind = refl
