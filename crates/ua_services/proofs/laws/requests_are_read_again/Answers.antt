use Rattle.ua_structures.proofs.BodyLaws.{bodies_lawful}
use Rattle.ua_services.specs.Families.{requests, request_put, written_request}
use Rattle.ua_services.proofs.Asked.{service_asked}
use Rattle.ua_services.proofs.Spelled.{request_spelled}
use Rattle.ua_services.proofs.laws.requests_are_read_again.Goals as goal

pub returns-clause-lawful : goal.returns-clause-lawful
returns-clause-lawful c = bodies_lawful requests request_put request_spelled

pub returns-clause-again : goal.returns-clause-again
returns-clause-again c request kept is =
    service_asked (written_request request) request is ((bodies_lawful requests request_put request_spelled).again request kept)
