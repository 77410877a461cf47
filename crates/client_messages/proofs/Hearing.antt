-- The bytes of messages that come from a server, as these messages.
use Rattle.std.proofs.Common.{◌≡◌, ◌⊎◌, inl, inr, ℕ, ◌&&◌, Bool, true, false, cond, nat_le, List, [], ◌∷◌, map, sym, ap, ◌∙◌}
use Rattle.ua_channel.specs.State.{WireState, is_deaf}
use Rattle.ua_channel.specs.Arriving.{Chain, Sent, bytes_of}
use Rattle.ua_channel.specs.Sharing.{end_at}
use Rattle.link_keeps.specs.Fitting.{FitsHeard}
use Rattle.client_rules.specs.State.{is_server}
use Rattle.client_rules.specs.Acts.{Hears}
use Rattle.client_rules.specs.Step.{ears}
use Rattle.client_keeps.specs.Fitting.{FitsClient}
use Rattle.client_keeps.proofs.Rules.{after_client}
use Rattle.ua_client.specs.declared.event.ClientEvent.TheVariants as event
use Rattle.ua_client.specs.State.{BytesState}
use Rattle.ua_client.specs.Step as bytes
use Rattle.ua_client.proofs.Deafening.{deafens}
use Rattle.client_cuts.proofs.Cutting.{taken_follows}
use Rattle.message_ends.specs.Showing.{ExpectsIn}
use Rattle.message_ends.proofs.Coming as coming
use Rattle.client_messages.specs.Messages as messages
use Rattle.client_messages.specs.Messages.{MessagesState, answers}
use Rattle.client_messages.specs.Showing.{AllComeFit, Brings, Limits, Stands}
use Rattle.client_messages.proofs.Ending.{ended_expects, ended_stands, is_shut, talk}
use Rattle.client_messages.proofs.Events.{Orders, by_hub, event_by}

abbrev pub wires_of : List Sent → List WireState
wires_of sent = map (λ (m : Sent). m.wire) sent

come_fit : (sent : List Sent) → AllComeFit sent → coming.AllComeFit ears answers FitsHeard sent
come_fit [] fits = tt
come_fit (m ∷ sent) fits = (fits.0, come_fit sent fits.1)

pub ended_shown : (firsts : ℕ → ℕ) (r : BytesState) (t : MessagesState) → Stands firsts r t → Stands firsts (bytes.ended r) (messages.ended t)
ended_shown firsts r t s = by_hub firsts firsts r (bytes.ended r) t messages.ended (λ ends shown. ended_stands firsts r ends shown) s

-- nothing more is heard of the server, or the number after all these is awaited
abbrev pub Awaits : ℕ → ℕ → BytesState → Type 0
Awaits server next r = (is_deaf (ears server r.hub) ≡ true) ⊎ ExpectsIn next (end_at server r.channels)

server_stays : (server : ℕ) (all : List ℕ) (r : BytesState) → is_server server (bytes.taken server all r).hub ≡ is_server server r.hub
server_stays server all r = ap (λ n. nat_le 1 server && nat_le server n) (taken_follows server all r).count

awaits_open : (server next : ℕ) (r : BytesState) → is_server server r.hub ≡ true → Awaits server next r → is_shut server r.hub ≡ false
    → ExpectsIn next (end_at server r.channels)
awaits_open server next r known (inl deaf) e =
    let bad : true ≡ false = sym deaf ∙ sym (ap (λ b. b && is_deaf (ears server r.hub)) known) ∙ e in absurd cc
awaits_open server next r known (inr x) e = x

ended_awaits : (b : Bool) (server next : ℕ) (r d : BytesState) → b ≡ true → is_server server d.hub ≡ true → Awaits server next d
    → ExpectsIn next (end_at server (cond b (bytes.ended d) r).channels)
ended_awaits true server next r d e known awaits = ended_expects next server d (awaits_open server next d known awaits)
ended_awaits false server next r d e known awaits = absurd cc

module _ (orders : Orders) where
  client_laws : coming.Laws ears answers FitsClient FitsHeard Limits Brings
  client_laws = record {
    deafens = λ conn code hub. deafens conn code (record { hub = hub; channels = [] });
    keeps = λ conn h hub keeps fits. after_client (Hears conn h) hub fits keeps;
    lawful = λ conn number h hub keeps fits. orders.lawful (Hears conn h) hub fits keeps number;
    brings = λ conn h hub keeps fits. orders.brings (Hears conn h) hub fits keeps;
  }

  came : (server first next : ℕ) (firsts : ℕ → ℕ) (sent : List Sent) (r : BytesState) (t : MessagesState) → AllComeFit sent
      → Chain first sent next → Awaits server first r → Stands firsts r t
      → coming.CameAll ears answers FitsClient FitsHeard Limits Brings client_laws server next firsts r (bytes.taken server (bytes_of sent) r)
      (messages.heard_of server (wires_of sent) t)
  unfolding bytes.taken
  came server first next firsts sent r t fits chain awaits s =
      coming.hears ears answers FitsClient FitsHeard Limits Brings client_laws server first next firsts sent r t (come_fit sent fits) chain awaits s

  pub hears : (firsts : ℕ → ℕ) (server first next : ℕ) (sent : List Sent) (r : BytesState) (t : MessagesState) → AllComeFit sent
      → Chain first sent next → Awaits server first r → Stands firsts r t
      → Stands firsts (bytes.stepped (event.Bytes server (bytes_of sent)) r) (messages.hears server (wires_of sent) t)
  hears firsts server first next sent r t fits chain awaits s =
      by_hub firsts firsts r (bytes.stepped (event.Bytes server (bytes_of sent)) r) t (messages.hears server (wires_of sent))
      (λ ends shown. event_by (is_server server r.hub) firsts r (bytes.ended (bytes.taken server (bytes_of sent) r)) ends
      (messages.ended (messages.heard_of server (wires_of sent) (talk r.hub ends))) shown
      (λ e. ended_shown firsts (bytes.taken server (bytes_of sent) r) (messages.heard_of server (wires_of sent) (talk r.hub ends))
      (came server first next firsts sent r (talk r.hub ends) fits chain awaits shown).stands)) s

  pub heard_expects : (firsts : ℕ → ℕ) (server first next : ℕ) (sent : List Sent) (r : BytesState) (t : MessagesState) → AllComeFit sent
      → Chain first sent next → Awaits server first r → is_server server r.hub ≡ true → Stands firsts r t
      → ExpectsIn next (end_at server (bytes.stepped (event.Bytes server (bytes_of sent)) r).channels)
  heard_expects firsts server first next sent r t fits chain awaits known s =
      ended_awaits (is_server server r.hub) server next r (bytes.taken server (bytes_of sent) r) known
      (server_stays server (bytes_of sent) r ∙ known) (came server first next firsts sent r t fits chain awaits s).awaits
