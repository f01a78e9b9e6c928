-- What a request is answered that is rejected: the status, the method that is allowed instead, and the body.
use Rattle.std.specs.Prelude.{ℕ, List, [], codes, Bool, Option, Some, None}
use Rattle.mx_http.specs.declared.request.rejection.Rejection.{Rejection}
use Rattle.mx_http.specs.declared.request.rejection.Rejection.TheVariants.{BadRequest, NotFound, WrongMethod, LengthRequired, BodyTooLarge, HeadTooLarge}

-- the status of a rejection (RFC 9110, section 15.5; 431 by RFC 6585, section 5)
abbrev pub rejection_status : Rejection → ℕ
rejection_status BadRequest = 400
rejection_status NotFound = 404
rejection_status (WrongMethod allow_post) = 405
rejection_status LengthRequired = 411
rejection_status BodyTooLarge = 413
rejection_status HeadTooLarge = 431

-- the body of a rejection
abbrev pub rejection_body : Rejection → List ℕ
rejection_body BadRequest = codes "bad request\n"
rejection_body NotFound = []
rejection_body (WrongMethod allow_post) = []
rejection_body LengthRequired = codes "length required\n"
rejection_body BodyTooLarge = codes "too large\n"
rejection_body HeadTooLarge = codes "too large\n"

-- whether POST, or else GET, is the method that is allowed, where another was asked for
abbrev pub rejection_allows : Rejection → Option Bool
rejection_allows (WrongMethod allow_post) = Some allow_post
rejection_allows _ = None
