use Rattle.mx_http.specs.request.Routes.{desk_routes}
use Rattle.mx_http.proofs.request.finding.desk_router.Goals as goal

pub returns : goal.returns
unfolding desk_routes
returns c =
    rw (c.in_ok-router-6.ensures, c.in_ok-router-5.ensures, c.in_ok-router-4.ensures, c.in_ok-router-3.ensures, c.in_ok-router-2.ensures, c.in_ok-router.ensures, c.new.ensures)
    at c.with_route-7.ensures
