-- The client is what happened to it.
use Rattle.std.proofs.Common.{◌≡◌, ℕ, ◌+◌, Bool, true, false, cond, List, [], ◌∷◌, ◌++◌, Option, Some, None, refl, sym, ap, ◌∙◌}
use Rattle.ua_channel.specs.State.{WireState, is_deaf}
use Rattle.ua_channel.specs.Messages.{hearing_of}
use Rattle.message_ends.specs.Ends.{MessageEnd}
use Rattle.message_ends.specs.Talk as talks
use Rattle.client_rules.specs.State.{ClientState, is_server}
use Rattle.client_rules.specs.Acts as acts
use Rattle.client_rules.specs.Step.{Ends, Goes, Moment, Takes, after_all, at_moment, ears}
use Rattle.client_rules.specs.Dialling.{dialled}
use Rattle.client_messages.specs.Messages as learning
use Rattle.set_fronts.specs.Below.{Client}
use Rattle.set_fronts.specs.Noting.{NotedClient, noting}
use Rattle.set_histories.specs.Recording.{RecordedClient, event_of, learned_here, learned_in, recording}
use Rattle.set_histories.proofs.Ends.{has_heard}
use Rattle.set_histories.proofs.Linking.{ClientKept}

-- ---- moments

pub moments_append : (some more : List Moment) (c : ClientState) → (after_all (some ++ more) c).client ≡ (after_all more (after_all some c).client).client
unfolding after_all
moments_append [] more c = refl
moments_append (m ∷ some) more c = moments_append some more (at_moment m c).client

pub at_one : (m : Moment) (c : ClientState) → (after_all (m ∷ []) c).client ≡ (at_moment m c).client
unfolding after_all
at_one m c = refl

pub at_two : (m n : Moment) (c : ClientState) → (after_all (m ∷ n ∷ []) c).client ≡ (at_moment n (at_moment m c).client).client
unfolding after_all
at_two m n c = refl

pub at_none : (c : ClientState) → (after_all [] c).client ≡ c
unfolding after_all
at_none c = refl

-- ---- messages

hears_if : (b : Bool) (number : ℕ) (wire : WireState) (e : MessageEnd) (t : Client) → t.ends number ≡ Some e
    → (cond b t (talks.judged ears learning.answers number (hearing_of (ears number t.hub) wire e.tokens) e t)).hub
    ≡ (after_all (cond b [] (Goes (acts.Hears number (hearing_of (ears number t.hub) wire e.tokens).heard) ∷ [])) t.hub).client
unfolding after_all
hears_if true number wire e t there = refl
hears_if false number wire e t there = (has_heard ears learning.answers number wire e t there).hub

hears_by : (found : Option MessageEnd) (number : ℕ) (wire : WireState) (t : Client) → t.ends number ≡ found
    → (talks.heard_by ears learning.answers found number wire t).hub ≡ (after_all (learned_here found number wire t) t.hub).client
unfolding after_all
hears_by None number wire t there = refl
hears_by (Some e) number wire t there = hears_if (is_deaf (ears number t.hub)) number wire e t there

pub hears_one : (number : ℕ) (wire : WireState) (t : Client)
    → (talks.heard_one ears learning.answers number wire t).hub ≡ (after_all (learned_here (t.ends number) number wire t) t.hub).client
unfolding talks.heard_one
hears_one number wire t = hears_by (t.ends number) number wire t refl

pub hears_all : (number : ℕ) (wires : List WireState) (t : Client)
    → (talks.heard_all ears learning.answers number wires t).hub ≡ (after_all (learned_in number wires t) t.hub).client
hears_all number [] t = sym (at_none t.hub)
hears_all number (wire ∷ wires) t =
    hears_all number wires (talks.heard_one ears learning.answers number wire t)
    ∙ ap (λ (c : ClientState). (after_all (learned_in number wires (talks.heard_one ears learning.answers number wire t)) c).client) (hears_one number wire t)
    ∙ sym (moments_append (learned_here (t.ends number) number wire t) (learned_in number wires (talks.heard_one ears learning.answers number wire t)) t.hub)

-- ---- what is kept of the client, which began so

module _ (first : ClientState) where
  abbrev pub IsStated : NotedClient RecordedClient WireState → Type 0
  IsStated c = c.node.talk.hub ≡ (after_all c.node.moments first).client

  stated_then : (more moments : List Moment) (s t : ClientState) → s ≡ (after_all moments first).client → t ≡ (after_all more s).client → t ≡ (after_all (moments ++ more) first).client
  stated_then more moments s t is step = step ∙ ap (λ (c : ClientState). (after_all more c).client) is ∙ sym (moments_append moments more first)

  -- an event, and its end
  event_is : (b : Bool) (some : List Moment) (t u : Client) → u.hub ≡ (after_all some t.hub).client
      → (cond b (learning.ended u) t).hub ≡ (after_all (cond b (some ++ Ends ∷ []) []) t.hub).client
  event_is true some t u step = ap (λ (c : ClientState). dialled c) step ∙ sym (moments_append some (Ends ∷ []) t.hub ∙ at_one Ends (after_all some t.hub).client)
  event_is false some t u step = sym (at_none t.hub)

  pub state_kept : (J : ℕ → Bool → NotedClient RecordedClient WireState → Type 0) (count : ℕ) → ClientKept (noting recording) IsStated J count
  state_kept J count = record {
    connects = λ place c within is. stated_then (event_of (place + 1) c.node.talk (Goes (acts.Opens (place + 1)) ∷ [])) c.node.moments c.node.talk.hub
        (learning.connects (place + 1) c.node.talk).hub is
        (event_is (is_server (place + 1) c.node.talk.hub) (Goes (acts.Opens (place + 1)) ∷ []) c.node.talk (learning.opened (place + 1) c.node.talk)
        (sym (at_one (Goes (acts.Opens (place + 1))) c.node.talk.hub)));
    is_refused = λ place c within is. stated_then (event_of (place + 1) c.node.talk (Goes (acts.Refuses (place + 1)) ∷ [])) c.node.moments c.node.talk.hub
        (learning.is_refused (place + 1) c.node.talk).hub is
        (event_is (is_server (place + 1) c.node.talk.hub) (Goes (acts.Refuses (place + 1)) ∷ []) c.node.talk (learning.refused (place + 1) c.node.talk)
        (sym (at_one (Goes (acts.Refuses (place + 1))) c.node.talk.hub)));
    loses = λ place c within is. stated_then (event_of (place + 1) c.node.talk (Goes (acts.Closes (place + 1)) ∷ [])) c.node.moments c.node.talk.hub
        (learning.closes (place + 1) c.node.talk).hub is
        (event_is (is_server (place + 1) c.node.talk.hub) (Goes (acts.Closes (place + 1)) ∷ []) c.node.talk (learning.closed (place + 1) c.node.talk)
        (sym (at_one (Goes (acts.Closes (place + 1))) c.node.talk.hub)));
    learns = λ place wires c within is. stated_then (event_of (place + 1) c.node.talk (learned_in (place + 1) wires c.node.talk)) c.node.moments c.node.talk.hub
        (learning.hears (place + 1) wires c.node.talk).hub is
        (event_is (is_server (place + 1) c.node.talk.hub) (learned_in (place + 1) wires c.node.talk) c.node.talk (learning.heard_of (place + 1) wires c.node.talk)
        (hears_all (place + 1) wires c.node.talk));
    waits = λ ms c is. stated_then (Goes (acts.Ticks ms) ∷ Ends ∷ []) c.node.moments c.node.talk.hub (learning.waits ms c.node.talk).hub is
        (sym (at_two (Goes (acts.Ticks ms)) Ends c.node.talk.hub));
    cleared = λ place c within is. is;
    wish_taken = λ place c within is. stated_then (Takes (place + 1) ∷ []) c.node.moments c.node.talk.hub (learning.without_wish_of (place + 1) c.node.talk).hub is
        (sym (at_one (Takes (place + 1)) c.node.talk.hub));
  }
