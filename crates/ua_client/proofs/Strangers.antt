-- Events of servers that the client doesn't have.
use Rattle.std.proofs.Common.{◌≡◌, false, cond, ap}
use Rattle.ua_client.specs.declared.event.ClientEvent.{ClientEvent}
use Rattle.ua_client.specs.State.{BytesState}
use Rattle.ua_client.specs.Step.{ended, happened, is_of_client, stepped}

pub no_event : (e : ClientEvent) (s : BytesState) → is_of_client e s.hub ≡ false → stepped e s ≡ s
no_event e s is = ap (λ b. cond b (ended (happened e s)) s) is
