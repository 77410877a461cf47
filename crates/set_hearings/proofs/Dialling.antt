-- What happens to the client of a set is awaited by its links, after any lines.
use Rattle.std.proofs.Common.{◌≡◌, ◌≢◌, ◌≤◌, ℕ, zero, suc, ◌+◌, ◌-◌, Bool, true, false, List, [], ◌∷◌, ◌++◌, length, Some, refl, sym, ap, subst, ◌∙◌, arith}
use Rattle.std.proofs.lemmas.List.{length-append, length-replicate}
use Rattle.ua_base.specs.declared.modes.SetMode.{SetMode}
use Rattle.scenario.specs.declared.line.Line.{Line}
use Rattle.ua_channel.specs.State.{WireState}
use Rattle.link_rules.specs.declared.notice.Wish.TheVariants as wish
use Rattle.link_rules.specs.State.{new_link}
use Rattle.client_rules.specs.declared.config.ClientConfig.{ClientConfig}
use Rattle.client_rules.specs.State.{ClientState, idle_client, is_server, link_config, servers_of}
use Rattle.client_rules.specs.Acts as acts
use Rattle.client_rules.specs.Step.{Ends, Goes, Moment, Takes, after_all, new_client, without_wish}
use Rattle.client_links.specs.Awaited.{AreAwaited}
use Rattle.client_orders.proofs.Clients.{dialled_long}
use Rattle.client_messages.specs.Messages as learning
use Rattle.ua_client.specs.State as client
use Rattle.set_histories.specs.Below.{client_config, url_text, urls, beginning, NotedClient, noted_client, noted_life, noting}
use Rattle.set_histories.specs.Recording.{RecordedClient, event_of, learned_in, recorded_client, recorded_life, recording}
use Rattle.set_histories.specs.Histories.{recorded_after}
use Rattle.set_histories.proofs.Dialled.{all_long, same_servers}
use Rattle.set_histories.proofs.Learning.{IsStated, at_none, at_one, moments_append, state_kept}
use Rattle.set_histories.proofs.Linking.{LinkKept, links_keep}
use Rattle.set_histories.proofs.Links.{Told, links_kept, within_is}
use Rattle.set_hearings.proofs.Awaiting.{awaited_append, dials_then, event_awaited, other_awaited, own_awaited}

abbrev Noted : Type 0
Noted = NotedClient RecordedClient WireState

differs : (place q : ℕ) → q ≢ place → place + 1 ≢ q + 1
differs place q differ = λ same. absurd (differ (equal place q same))
  where
    equal : (place q : ℕ) → place + 1 ≡ q + 1 → q ≡ place
    equal place q same = omega (arith, same)

-- ---- what is kept of the client, which began so

module _ (count : ℕ) (first : ClientState) (long : length first.links ≡ count) where
  pub record IsAwaiting (place : ℕ) (b : Bool) (c : Noted) : Type 0 where
    pub told : Told count first long place b c
    pub awaited : AreAwaited (place + 1) c.node.moments first

  -- with more moments behind
  more_awaited : (q : ℕ) (c : Noted) (more : List Moment) → IsStated first c → AreAwaited (q + 1) c.node.moments first → AreAwaited (q + 1) more c.node.talk.hub
      → AreAwaited (q + 1) (c.node.moments ++ more) first
  more_awaited q c more is x y = awaited_append (q + 1) c.node.moments more first x (subst (λ (s : ClientState). AreAwaited (q + 1) more s) is y)

  -- with an event of the server at a place
  with_event : (place q : ℕ) (c : Noted) (some : List Moment) → IsStated first c → AreAwaited (q + 1) c.node.moments first → AreAwaited (q + 1) some c.node.talk.hub
      → AreAwaited (q + 1) (c.node.moments ++ event_of (place + 1) c.node.talk some) first
  with_event place q c some is x y =
      more_awaited q c (event_of (place + 1) c.node.talk some) is x (event_awaited (is_server (place + 1) c.node.talk.hub) (q + 1) some c.node.talk.hub y)

  taken_awaited : (place q : ℕ) (c : Noted) → IsStated first c → AreAwaited (q + 1) c.node.moments first
      → AreAwaited (q + 1) ((noting recording).wish_taken (place + 1) c).node.moments first
  taken_awaited place q c is x = more_awaited q c (Takes (place + 1) ∷ []) is x (tt, tt)

  taken_stated : (place : ℕ) (c : Noted) → IsStated first c → IsStated first ((noting recording).wish_taken (place + 1) c)
  taken_stated place c is =
      ap (λ (s : ClientState). without_wish (place + 1) s) is
      ∙ sym (moments_append c.node.moments (Takes (place + 1) ∷ []) first ∙ at_one (Takes (place + 1)) (after_all c.node.moments first).client)

  has_server : (place : ℕ) (c : Noted) → place + 1 ≤ count → IsStated first c → is_server (place + 1) c.node.talk.hub ≡ true
  has_server place c within is =
      same_servers (place + 1) first c.node.talk.hub (ap (λ (s : ClientState). length s.links) is ∙ all_long c.node.moments first)
      (within_is (place + 1) (length first.links) (omega arith) (subst (λ n. place + 1 ≤ n) (sym long) within))

  connects_own : (place : ℕ) (c : Noted) → place + 1 ≤ count → IsStated first c → client.wished (place + 1) c.node.talk.hub ≡ wish.Dial
      → AreAwaited (place + 1) c.node.moments first
      → AreAwaited (place + 1) ((noting recording).connects (place + 1) ((noting recording).wish_taken (place + 1) c)).node.moments first
  connects_own place c within is wishes x =
      with_event place place ((noting recording).wish_taken (place + 1) c) (Goes (acts.Opens (place + 1)) ∷ []) (taken_stated place c is) (taken_awaited place place c is x)
      (λ same. dials_then (place + 1) c.node.talk.hub (has_server place c within is) wishes, tt)

  refused_own : (place : ℕ) (c : Noted) → IsStated first c → AreAwaited (place + 1) c.node.moments first
      → AreAwaited (place + 1) ((noting recording).is_refused (place + 1) ((noting recording).wish_taken (place + 1) c)).node.moments first
  refused_own place c is x =
      with_event place place ((noting recording).wish_taken (place + 1) c) (Goes (acts.Refuses (place + 1)) ∷ []) (taken_stated place c is)
      (taken_awaited place place c is x) (tt, tt)

  pub awaiting_kept : LinkKept (noting recording) (IsStated first) IsAwaiting count
  awaiting_kept = let old = links_kept count first long in record {
    connects = λ place b c within is wishes x. record {
      told = old.connects place b c within is wishes x.told;
      awaited = connects_own place c within is wishes x.awaited;
    };
    is_refused = λ place b c within is wishes x. record {
      told = old.is_refused place b c within is wishes x.told;
      awaited = refused_own place c is x.awaited;
    };
    loses = λ place c within is x. record {
      told = old.loses place c within is x.told;
      awaited = with_event place place c (Goes (acts.Closes (place + 1)) ∷ []) is x.awaited (tt, tt);
    };
    learns = λ place wires c within is x. record {
      told = old.learns place wires c within is x.told;
      awaited = with_event place place c (learned_in (place + 1) wires c.node.talk) is x.awaited
          (own_awaited (place + 1) wires c.node.talk (record { is = x.told.is; holds = x.told.holds refl }));
    };
    none = λ place b c within is wishes x. record { told = old.none place b c within is wishes x.told; awaited = taken_awaited place place c is x.awaited };
    closes = λ place b c within is wishes x. record { told = old.closes place b c within is wishes x.told; awaited = taken_awaited place place c is x.awaited };
    gone = λ place b c within is x. record { told = old.gone place b c within is x.told; awaited = x.awaited };
    waits = λ place b ms c within is x. record {
      told = old.waits place b ms c within is x.told;
      awaited = more_awaited place c (Goes (acts.Ticks ms) ∷ Ends ∷ []) is x.awaited (tt, (tt, tt));
    };
    cleared = λ place q b c within also is x. record { told = old.cleared place q b c within also is x.told; awaited = x.awaited };
    other_connects = λ place q b c within also differ is x. record {
      told = old.other_connects place q b c within also differ is x.told;
      awaited = with_event place q c (Goes (acts.Opens (place + 1)) ∷ []) is x.awaited (λ same. absurd (differs place q differ same), tt);
    };
    other_refused = λ place q b c within also differ is x. record {
      told = old.other_refused place q b c within also differ is x.told;
      awaited = with_event place q c (Goes (acts.Refuses (place + 1)) ∷ []) is x.awaited (tt, tt);
    };
    other_loses = λ place q b c within also differ is x. record {
      told = old.other_loses place q b c within also differ is x.told;
      awaited = with_event place q c (Goes (acts.Closes (place + 1)) ∷ []) is x.awaited (tt, tt);
    };
    other_learns = λ place q b wires c within also differ is x. record {
      told = old.other_learns place q b wires c within also differ is x.told;
      awaited = with_event place q c (learned_in (place + 1) wires c.node.talk) is x.awaited
          (other_awaited (q + 1) (place + 1) wires c.node.talk c.node.talk.hub (differs place q differ));
    };
    other_taken = λ place q b c within also differ is x. record {
      told = old.other_taken place q b c within also differ is x.told;
      awaited = taken_awaited place q c is x.awaited;
    };
  }

-- ---- a set that begins

urls_long : (servers : ℕ) → length (urls servers) ≡ servers
unfolding urls
urls_long zero = refl
urls_long (suc count) =
    let last = length-append (urls count) (Some (url_text (count + 1)) ∷ []) in let before = urls_long count in omega (arith, last, before)

links_long : (config : ClientConfig) → length (new_client config).links ≡ servers_of config
links_long config = dialled_long (idle_client config) ∙ length-replicate (servers_of config) (new_link (link_config config))

module _ (mode : SetMode) (servers items queue : ℕ) (oldest : Bool) where
  abbrev first_client : ClientState
  first_client = new_client (client_config mode servers items queue oldest)

  abbrev first_noted : Noted
  first_noted = noted_client (recorded_client (learning.new_talk (client_config mode servers items queue oldest)))

  first_long : length first_client.links ≡ servers
  first_long = links_long (client_config mode servers items queue oldest) ∙ urls_long servers

  first_awaiting : (q : ℕ) → q + 1 ≤ servers → IsAwaiting servers first_client first_long q false first_noted
  first_awaiting q within = record {
    told = record {
      is = within_is (q + 1) (length first_client.links) (omega arith) (subst (λ n. q + 1 ≤ n) (sym first_long) within);
      holds = λ now. absurd cc;
      dials_are = tt;
    };
    awaited = tt;
  }

  by_place : (server place : ℕ) (lines : List Line) → server ≡ place + 1 → server ≤ servers
      → AreAwaited server (recorded_after mode servers items queue oldest lines).client.node.moments first_client
  by_place server place lines same least =
      let awaiting = IsAwaiting servers first_client first_long in
      let kept = links_keep (noting recording) (IsStated first_client) awaiting servers (state_kept first_client awaiting servers) (awaiting_kept servers first_client first_long)
      (noted_life (recorded_life (beginning mode servers items))) items lines first_noted (sym (at_none first_client)) first_awaiting in
      subst (λ n. AreAwaited n (recorded_after mode servers items queue oldest lines).client.node.moments first_client) (sym same)
      (kept.links place (subst (λ n. n ≤ servers) same least)).awaited

  pub client_awaits : (lines : List Line) (server : ℕ) → 1 ≤ server → server ≤ servers
      → AreAwaited server (recorded_after mode servers items queue oldest lines).client.node.moments first_client
  client_awaits lines server least most = by_place server (server - 1) lines (next_is server least) most
    where
      next_is : (server : ℕ) → 1 ≤ server → server ≡ server - 1 + 1
      next_is server least = omega (arith, least)
