-- What an insert leaves.
use Rattle.std.proofs.Common.{◌≡◌, Ok, Err, Result}
use Rattle.matchit.specs.Route.{Scan}
use Rattle.matchit.specs.Router.{InsertsRead}
use Rattle.matchit.specs.declared.error.InsertError.{InsertError}
use Rattle.mx_http.specs.declared.request.routes.Place.{Place}
use Rattle.mx_http.specs.request.Routes.{Rows, added}

pub inserted : (x : Result Scan InsertError) (p : Place) (old new : Rows) → InsertsRead x p old new (Ok tt) → new ≡ added x p old
inserted (Ok s) p old new h = h.1
inserted (Err e) p old new h = h.0
