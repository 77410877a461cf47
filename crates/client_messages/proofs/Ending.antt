-- The end of an event: deaf ends are shut, and the links dial that may.
use Rattle.std.proofs.Common.{◌≡◌, ℕ, ◌&&◌, Bool, true, false, cond, Option, Some, None, refl, sym, ap, subst, ◌∙◌, arith}
use Rattle.ua_channel.specs.State.{ChannelState, is_deaf}
use Rattle.ua_channel.specs.Sharing.{end_at}
use Rattle.client_rules.specs.State.{ClientState, is_server}
use Rattle.client_rules.specs.Dialling.{dialled}
use Rattle.client_rules.specs.Step.{ears}
use Rattle.client_keeps.proofs.Rules.{dialled_fits}
use Rattle.ua_client.specs.State.{BytesState}
use Rattle.ua_client.specs.Step.{ended}
use Rattle.client_cuts.proofs.Cutting.{ended_is}
use Rattle.message_ends.specs.Ends.{MessageEnd, MessageEnds, out_by}
use Rattle.message_ends.specs.Talk.{settled_by}
use Rattle.message_ends.specs.Showing.{AllBring, ExpectsIn, LimitIn, ShowsEnd}
use Rattle.client_messages.specs.Messages as messages
use Rattle.client_messages.specs.Messages.{MessagesState}
use Rattle.client_messages.specs.Showing.{Brings, Limits, Stands}
use Rattle.client_messages.proofs.Dialling.{dialled_limits}
use Rattle.client_messages.proofs.Shutting.{end_shut, shut_in}

-- a client and the ends of its connections over messages
abbrev pub talk : ClientState → MessageEnds → MessagesState
talk hub ends = record { hub = hub; ends = ends }

abbrev pub is_shut : ℕ → ClientState → Bool
is_shut number c = is_server number c && is_deaf (ears number c)

pub end_after : (number : ℕ) (r : BytesState) → end_at number (ended r).channels ≡ shut_in (is_shut number r.hub) (end_at number r.channels)
end_after number r = ap (λ (x : BytesState). end_at number x.channels) (ended_is r) ∙ end_shut number r.hub r.channels

-- ---- ends are shown

shut_shows : (b : Bool) (first : ℕ) (end : Option ChannelState) (e : Option MessageEnd) → ShowsEnd first end e
    → ShowsEnd first (shut_in b end) (cond b (settled_by ears messages.answers e) e)
shut_shows true first None None s = tt
shut_shows true first None (Some e) s = s
shut_shows true first (Some c) None s = s
shut_shows true first (Some c) (Some e) s = record {
  tokens = refl;
  sending = s.sending;
  sent = s.sent;
  wires = s.wires;
  bytes = s.bytes;
  chain = s.chain;
}
shut_shows false first end e s = s

shut_limits : (b : Bool) (end : Option ChannelState) (number : ℕ) (c : ClientState) → LimitIn Limits end number c
    → LimitIn Limits (shut_in b end) number (dialled c)
shut_limits true None number c s = tt
shut_limits false None number c s = tt
shut_limits true (Some end) number c s = dialled_limits number _ c s
shut_limits false (Some end) number c s = dialled_limits number _ c s

shut_brings : (b : Bool) (e : Option MessageEnd) → AllBring Brings (out_by e) → AllBring Brings (out_by (cond b (settled_by ears messages.answers e) e))
shut_brings true None all = all
shut_brings true (Some e) all = all
shut_brings false e all = all

pub ended_stands : (firsts : ℕ → ℕ) (r : BytesState) (ends : MessageEnds) → Stands firsts r (talk r.hub ends)
    → Stands firsts (ended r) (messages.ended (talk r.hub ends))
ended_stands firsts r ends s =
    subst (λ (x : BytesState). Stands firsts x (messages.ended (talk r.hub ends))) (sym (ended_is r))
    (record {
      shows = record {
        hub = refl;
        ends = λ k. subst (λ (x : Option ChannelState). ShowsEnd (firsts k) x (messages.shut r.hub ends k)) (sym (end_shut k r.hub r.channels))
            (shut_shows (is_shut k r.hub) (firsts k) (end_at k r.channels) (ends k) (s.shows.ends k));
      };
      keeps = dialled_fits r.hub s.keeps;
      limits = λ k. subst (λ (x : Option ChannelState). LimitIn Limits x k (dialled r.hub)) (sym (end_shut k r.hub r.channels))
          (shut_limits (is_shut k r.hub) (end_at k r.channels) k r.hub (s.limits k));
      brings = λ k. shut_brings (is_shut k r.hub) (ends k) (s.brings k);
    })

-- ---- what is awaited

-- an end that is shut takes any number
shut_expects : (next : ℕ) (end : Option ChannelState) → ExpectsIn next (shut_in true end)
shut_expects next None = tt
shut_expects next (Some c) = record { number = refl; chunks = refl; body = refl; fault = refl; between = (omega arith, refl, refl) }

still_expects : (b : Bool) (next : ℕ) (end : Option ChannelState) → (b ≡ false → ExpectsIn next end) → ExpectsIn next (shut_in b end)
still_expects true next end x = shut_expects next end
still_expects false next end x = x refl

-- where a server's end isn't deaf it awaits what it awaited
pub ended_expects : (next number : ℕ) (r : BytesState) → (is_shut number r.hub ≡ false → ExpectsIn next (end_at number r.channels))
    → ExpectsIn next (end_at number (ended r).channels)
ended_expects next number r x =
    subst (ExpectsIn next) (sym (end_after number r)) (still_expects (is_shut number r.hub) next (end_at number r.channels) x)
