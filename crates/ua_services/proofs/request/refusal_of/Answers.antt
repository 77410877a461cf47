use Rattle.std.proofs.Common.{rules, ◌≡◌, true, false}
use Rattle.ua_services.specs.Families.{request_put}
use Rattle.ua_services.specs.Requests.{is_service}
use Rattle.ua_services.proofs.Asked.{service_told, none_told}
use Rattle.ua_services.proofs.request.refusal_of.Goals as goal

pub returns-in-Ok : goal.returns-in-Ok
returns-in-Ok c =
    let service : is_service (request_put c.in-Ok.request).kind ≡ true = search rules in
    service_told c.args.body.now c.args.read.now c.in-Ok.request c.in-Ok.is service

pub returns-in-Ok-2 : goal.returns-in-Ok-2
returns-in-Ok-2 c =
    let service : is_service (request_put c.in-Ok-2.request).kind ≡ false = search rules in
    none_told c.args.body.now c.args.read.now c.in-Ok-2.request c.header.result.now c.in-Ok-2.is c.header.ensures service
