-- An end that begins anew where no connection stood.
use Rattle.std.proofs.Common.{◌≡◌, ℕ, ◌==◌, Bool, true, false, cond, Option, Some, None, refl, sym, subst, ◌∙◌}
use Rattle.ua_channel.specs.State.{ChannelState}
use Rattle.ua_channel.specs.Sharing.{end_at, with_end}
use Rattle.link_rules.specs.declared.phase.Phase.{Phase}
use Rattle.link_rules.specs.declared.phase.Phase.TheVariants as phase
use Rattle.link_rules.specs.Closing.{stands_in}
use Rattle.link_rules.specs.Opening.{begins_anew, is_apart}
use Rattle.client_rules.specs.State.{ClientState, link_of}
use Rattle.ua_client.specs.State.{BytesState}
use Rattle.message_ends.specs.Ends.{MessageEnd, MessageEnds, out_by, set_end}
use Rattle.message_ends.specs.Showing.{AllBring, LimitIn, ShowsEnd}
use Rattle.message_ends.proofs.Lookups.{number_is}
use Rattle.client_messages.specs.Messages.{renewed_by}
use Rattle.client_messages.specs.Showing.{Brings, Limits, Stands}
use Rattle.client_messages.proofs.Awaiting.{anew, anew_at, blank}
use Rattle.client_messages.proofs.Beginning.{new_shows}
use Rattle.client_messages.proofs.Ending.{talk}

apart_phase : (p : Phase) → is_apart p ≡ true → stands_in p ≡ false
apart_phase phase.Idle e = refl
apart_phase (phase.Dialing taken) e = refl
apart_phase other e = absurd cc

pub apart_stands : (server : ℕ) (c : ClientState) → begins_anew (link_of server c) ≡ true → stands_in (link_of server c).phase ≡ false
apart_stands server c e = apart_phase (link_of server c).phase e

-- the same numbers
pub firsts_same : (one other : ℕ → ℕ) (r : BytesState) (ends : MessageEnds) → ((k : ℕ) → other k ≡ one k) → Stands one r (talk r.hub ends)
    → Stands other r (talk r.hub ends)
firsts_same one other r ends same s = record {
  shows = record {
    hub = refl;
    ends = λ k. subst (λ n. ShowsEnd n (end_at k r.channels) (ends k)) (sym (same k)) (s.shows.ends k);
  };
  keeps = s.keeps;
  limits = s.limits;
  brings = s.brings;
}

anew_shows : (first : ℕ) (end : Option ChannelState) (e : Option MessageEnd) → ShowsEnd first end e → ShowsEnd 1 (anew end) (renewed_by e)
anew_shows first None None s = tt
anew_shows first None (Some e) s = s
anew_shows first (Some c) None s = s
anew_shows first (Some c) (Some e) s = new_shows

shows_by : (b : Bool) (k server first : ℕ) (end : Option ChannelState) (ends : MessageEnds) → (k == server) ≡ b → ShowsEnd first end (ends k)
    → ShowsEnd (cond b 1 first) (cond b (anew end) end) (cond b (renewed_by (ends server)) (ends k))
shows_by true k server first end ends e s =
    anew_shows first end (ends server) (subst (λ n. ShowsEnd first end (ends n)) (number_is k server e) s)
shows_by false k server first end ends e s = s

knows_anew : (end : Option ChannelState) (k : ℕ) (c : ClientState) → stands_in (link_of k c).phase ≡ false → LimitIn Limits (anew end) k c
knows_anew None k c e = tt
knows_anew (Some d) k c e = λ is stands. clash (sym stands ∙ e)
  where
    clash : {A : Type 0} → true ≡ false → A
    clash bad = absurd cc

knows_by : (b : Bool) (k server : ℕ) (end : Option ChannelState) (c : ClientState) → (k == server) ≡ b → stands_in (link_of server c).phase ≡ false
    → LimitIn Limits end k c → LimitIn Limits (cond b (anew end) end) k c
knows_by true k server end c e apart l =
    knows_anew end k c (subst (λ n. stands_in (link_of n c).phase ≡ false) (sym (number_is k server e)) apart)
knows_by false k server end c e apart l = l

anew_brings : (e : Option MessageEnd) → AllBring Brings (out_by (renewed_by e))
anew_brings None = tt
anew_brings (Some e) = tt

brings_by : (b : Bool) (e f : Option MessageEnd) → AllBring Brings (out_by f) → AllBring Brings (out_by (cond b (renewed_by e) f))
brings_by true e f all = anew_brings e
brings_by false e f all = all

abbrev pub anew_firsts : ℕ → (ℕ → ℕ) → ℕ → ℕ
anew_firsts server firsts k = cond (k == server) 1 (firsts k)

pub renewed_stands : (firsts : ℕ → ℕ) (server : ℕ) (r : BytesState) (ends : MessageEnds) → stands_in (link_of server r.hub).phase ≡ false
    → Stands firsts r (talk r.hub ends)
    → Stands (anew_firsts server firsts) (record r { channels = with_end server blank r.channels })
    (talk r.hub (set_end server (renewed_by (ends server)) ends))
renewed_stands firsts server r ends apart s = record {
  shows = record {
    hub = refl;
    ends = λ k. subst (λ (x : Option ChannelState). ShowsEnd (anew_firsts server firsts k) x (set_end server (renewed_by (ends server)) ends k))
        (sym (anew_at (k == server) k server r.channels refl))
        (shows_by (k == server) k server (firsts k) (end_at k r.channels) ends refl (s.shows.ends k));
  };
  keeps = s.keeps;
  limits = λ k. subst (λ (x : Option ChannelState). LimitIn Limits x k r.hub) (sym (anew_at (k == server) k server r.channels refl))
      (knows_by (k == server) k server (end_at k r.channels) r.hub refl apart (s.limits k));
  brings = λ k. brings_by (k == server) (ends server) (ends k) (s.brings k);
}
