-- Bytes that come in two pieces come as one.
use Rattle.std.proofs.Common.{◌≡◌, ◌∙◌, ℕ, List, take, drop, sym, ap}
use Rattle.std.proofs.lemmas.List.{take-append-drop}
use Rattle.ua_server.specs.State as server
use Rattle.ua_server.specs.declared.event.ServerEvent.TheVariants as served
use Rattle.ua_server.specs.Step as serving
use Rattle.ua_server.proofs.Taking.{taken_cut}
use Rattle.ua_client.specs.State as client
use Rattle.ua_client.specs.declared.event.ClientEvent.TheVariants as learned
use Rattle.ua_client.specs.Step as learning
use Rattle.client_cuts.specs.Resting.{IsAtRest}
use Rattle.client_cuts.proofs.Cutting.{events_cut}

pub server_cut : (conn count : ℕ) (bytes : List ℕ) (s : server.BytesState)
    → serving.stepped (served.Bytes conn (drop count bytes)) (serving.stepped (served.Bytes conn (take count bytes)) s)
    ≡ serving.stepped (served.Bytes conn bytes) s
server_cut conn count bytes s =
    sym (taken_cut conn (take count bytes) (drop count bytes) s)
    ∙ ap (λ b. serving.taken conn b s) (take-append-drop count bytes)

pub client_cut : (number count : ℕ) (bytes : List ℕ) (c : client.BytesState) → IsAtRest c
    → learning.stepped (learned.Bytes number (drop count bytes)) (learning.stepped (learned.Bytes number (take count bytes)) c)
    ≡ learning.stepped (learned.Bytes number bytes) c
client_cut number count bytes c rests =
    sym (events_cut number (take count bytes) (drop count bytes) c rests)
    ∙ ap (λ b. learning.stepped (learned.Bytes number b) c) (take-append-drop count bytes)
