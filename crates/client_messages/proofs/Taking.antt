-- Messages that are taken, and wishes.
use Rattle.std.proofs.Common.{◌≡◌, ℕ, ◌-◌, ◌&&◌, Bool, true, false, cond, nat_le, Option, Some, None, slice_index_or, refl, sym, ap, subst, ◌∙◌}
use Rattle.ua_channel.specs.State.{ChannelState}
use Rattle.ua_channel.specs.Sharing.{end_at, out_by as bytes_out_by}
use Rattle.link_rules.specs.declared.phase.Phase.{Phase}
use Rattle.link_rules.specs.declared.phase.Phase.TheVariants as phase
use Rattle.link_rules.specs.Closing.{stands_in}
use Rattle.link_rules.specs.State.{LinkState, new_link}
use Rattle.link_rules.specs.Step.{taken_in, wish_taken}
use Rattle.client_rules.specs.State.{ClientState, is_server, link_config, link_of, with_link}
use Rattle.client_keeps.specs.Fitting.{FitsClient}
use Rattle.client_keeps.proofs.Rules.{wish_fits}
use Rattle.ua_client.specs.State.{BytesState, out_of as bytes_out_of, without_out, without_wish}
use Rattle.client_cuts.proofs.Wishing.{wish_count}
use Rattle.message_ends.specs.Ends.{MessageEnd, out_by}
use Rattle.message_ends.specs.Talk.{out_of, without_out as messages_without_out}
use Rattle.message_ends.specs.Showing.{AllBring, ExpectsIn, LimitIn, ShowsEnd, firsts_with, next_in}
use Rattle.message_ends.proofs.Ordering.{expects_emptied, taken}
use Rattle.client_messages.specs.Messages as messages
use Rattle.client_messages.specs.Messages.{MessagesState}
use Rattle.client_messages.specs.Showing.{Brings, KnowsLimit, Limits, Puts, Stands, next_of, taken_firsts}
use Rattle.client_messages.proofs.Dialling.{at_set}
use Rattle.client_messages.proofs.Events.{by_hub}

-- ---- messages

next_is : (end : Option ChannelState) → next_in end ≡ next_of end
next_is None = refl
next_is (Some c) = refl

pub out_taken : (firsts : ℕ → ℕ) (server : ℕ) (r : BytesState) (t : MessagesState) → Stands firsts r t
    → Stands (taken_firsts server r firsts) (without_out server r) (messages_without_out server t)
out_taken firsts server r t s =
    subst (λ n. Stands (firsts_with server n firsts) (without_out server r) (messages_without_out server t)) (next_is (end_at server r.channels))
    (taken FitsClient Limits Brings firsts server r t s)

puts_by : (first : ℕ) (end : Option ChannelState) (e : Option MessageEnd) → ShowsEnd first end e → AllBring Brings (out_by e)
    → Puts first end (bytes_out_by end) (out_by e)
puts_by first None None s all = (refl, refl)
puts_by first None (Some e) s all = absurd s
puts_by first (Some c) None s all = absurd s
puts_by first (Some c) (Some e) s all = record { sent = s.sent; wires = s.wires; bytes = s.bytes; chain = s.chain; brings = all }

pub out_put : (firsts : ℕ → ℕ) (server : ℕ) (r : BytesState) (t : MessagesState) → Stands firsts r t
    → Puts (firsts server) (end_at server r.channels) (bytes_out_of server r) (out_of server t)
out_put firsts server r t s = puts_by (firsts server) (end_at server r.channels) (t.ends server) (s.shows.ends server) (s.brings server)

pub out_expects : (server number next : ℕ) (r : BytesState) → ExpectsIn next (end_at number r.channels)
    → ExpectsIn next (end_at number (without_out server r).channels)
out_expects server number next r x = expects_emptied server number next r.channels x

-- ---- wishes

stands_taken : (p : Phase) → stands_in (taken_in p) ≡ stands_in p
stands_taken (phase.Dialing taken) = refl
stands_taken other = refl

abbrev taken_by : Bool → LinkState → LinkState
taken_by b l = cond b (record l { closes = false }) (record l { phase = taken_in l.phase })

knows_taken : (b : Bool) (limit : ℕ) (l : LinkState) → KnowsLimit l limit → KnowsLimit (taken_by b l) limit
knows_taken true limit l knows = knows
knows_taken false limit l knows = λ stands. knows (sym (stands_taken l.phase) ∙ stands)

wish_knows : (b : Bool) (limit number server : ℕ) (c : ClientState) → KnowsLimit (link_of number c) limit
    → KnowsLimit (link_of number (cond b (with_link server (wish_taken (link_of server c)) c) c)) limit
wish_knows true limit number server c knows =
    let blank : LinkState = new_link (link_config c.config) in
    at_set (λ l. KnowsLimit l limit) c.links (server - 1) (number - 1) (wish_taken (link_of server c)) blank
    (λ same. knows_taken (link_of server c).closes limit (link_of server c)
    (subst (λ n. KnowsLimit (slice_index_or c.links n blank) limit) (sym same) knows)) knows
wish_knows false limit number server c knows = knows

wish_limits : (end : Option ChannelState) (number server : ℕ) (c : ClientState) → LimitIn Limits end number c
    → LimitIn Limits end number (without_wish server c)
wish_limits None number server c knows = tt
wish_limits (Some end) number server c knows = λ is.
    wish_knows (is_server server c) _ number server c (knows (sym (ap (λ n. nat_le 1 number && nat_le number n) (wish_count server c)) ∙ is))

pub wish_stands : (firsts : ℕ → ℕ) (server : ℕ) (r : BytesState) (t : MessagesState) → Stands firsts r t
    → Stands firsts (record r { hub = without_wish server r.hub }) (messages.without_wish_of server t)
wish_stands firsts server r t s =
    by_hub firsts firsts r (record r { hub = without_wish server r.hub }) t (messages.without_wish_of server)
    (λ ends shown. record {
      shows = record { hub = refl; ends = shown.shows.ends };
      keeps = wish_fits (is_server server r.hub) server r.hub shown.keeps;
      limits = λ k. wish_limits (end_at k r.channels) k server r.hub (shown.limits k);
      brings = shown.brings;
    }) s
