use Rattle.matchit.specs.Route.{parse_route}
use Rattle.mx_http.specs.request.Routes.{with_route}
use Rattle.mx_http.proofs.RequestProofs.RoutesLemmas.{inserted}
use Rattle.mx_http.proofs.request.finding.with_route.Goals as goal

pub returns-in-Ok : goal.returns-in-Ok
unfolding with_route
returns-in-Ok c = inserted (parse_route c.args.text.now) c.args.place c.args.router c.insert.new.self c.in-Ok.ensures
