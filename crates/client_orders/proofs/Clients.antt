-- The same of a client, to each of its servers.
use Rattle.std.proofs.Common.{◌≡◌, ◌≢◌, ◌⊎◌, inl, inr, ℕ, zero, suc, ◌+◌, ◌-◌, ◌<◌, ◌≤◌, ◌^◌, ◌&&◌, ◌==◌, List, [], ◌∷◌, ◌++◌, length, nat_le, Bool, true, false, Option, Some, None, if◌then◌else◌, slice_index_or, slice_set, codes, refl, sym, ◌∙◌, ap, subst, arith}
use Rattle.std.specs.List.{AllByRecursion}
use Rattle.std.specs.Fmt.{decimal}
use Rattle.std.proofs.lemmas.Bool.Decides.{nat_tests}
use Rattle.std.proofs.lemmas.Fmt.{length-decimal-le}
use Rattle.std.proofs.lemmas.List.{length-append}
use Rattle.ua_base.specs.declared.modes.SetMode.{SetMode}
use Rattle.ua_base.specs.declared.modes.SetMode.TheVariants.{Direct, Hot, Warm, Cold}
use Rattle.ua_values.specs.Laws.{KeepsText}
use Rattle.ua_chunks.specs.Sending.{Sending, limit_of}
use Rattle.ua_channel.specs.declared.wire.Order.{Order}
use Rattle.ua_channel.specs.Arriving.{AreLawful, after_orders}
use Rattle.ua_channel.specs.Sharing.{own}
use Rattle.failover_core.specs.declared.choice.Candidate.{Candidate}
use Rattle.failover_core.specs.Choice.{switch_of, wanted}
use Rattle.link_rules.specs.declared.notice.Notice.{Notice}
use Rattle.link_rules.specs.declared.notice.Notice.TheVariants as notice
use Rattle.link_rules.specs.Said.{LinkDid, orders_of}
use Rattle.link_rules.specs.State.{LinkState, is_ready, new_link}
use Rattle.link_rules.specs.Opening as opening
use Rattle.link_rules.specs.Time as time
use Rattle.link_rules.specs.Step as link
use Rattle.link_keeps.specs.Fitting.{Fits, FitsLink}
use Rattle.link_keeps.proofs.Rules as links
use Rattle.client_rules.specs.declared.config.ClientConfig.{ClientConfig}
use Rattle.client_rules.specs.State.{ClientState, is_server, link_config, link_of, with_link}
use Rattle.client_rules.specs.Acts.{Happening, Opens, Refuses, Hears, Closes, Ticks}
use Rattle.client_rules.specs.Doing.{ClientDid, and_then, each_server, nothing}
use Rattle.client_rules.specs.Links.{all_told, fell, falls, linked, linked_by, moved, ordered, told}
use Rattle.client_rules.specs.Settling.{are_fewer, chosen, modes_told, ready_of, round, settled, settled_within, switched, told_mode, with_choice}
use Rattle.client_rules.specs.Dialling.{are_idle, dialled, dialled_by, dials_among, dials_at, dials_if, first_to_dial, has_numbers}
use Rattle.client_rules.specs.Step.{after, counted, dial_text, endpoint, happening, happens, is_known, url_text}
use Rattle.client_keeps.specs.Fitting.{FitsClient, FitsConfig, FitsHappening, FitsUrl}
use Rattle.client_orders.specs.Holding.{HoldsConnection, IsBeside}
use Rattle.client_orders.proofs.Saying.{Does, Stands, and_first, and_second}
use Rattle.client_orders.proofs.Answering.{closed_does, heard_does, opened_does, refused_does, ticked_does, wants_does}
use Rattle.client_orders.proofs.Ordering.{AllGo, IsPut, all_go, all_put, header_fits}
use Rattle.client_orders.proofs.Using.{Limits, Rests, Uses, closed_idles, heard_idles, opened_idles, refused_idles, ticked_idles, uses_of, wants_idles}
use Rattle.client_orders.proofs.Lists.{after_append, all_append, all_at, all_ordered, all_set, lawful_append, own_append, own_other, own_same, set_elsewhere, set_here, set_keeps, set_long}

-- ---- links

link_fits : (config : ClientConfig) → FitsConfig config → FitsLink (new_link (link_config config))
link_fits config fits = links.new_fits (link_config config) (record { items = fits.items; queue = fits.queue; start = fits.start })

of_server : (server : ℕ) (c : ClientState) → FitsClient c → FitsLink (link_of server c)
of_server server c fits =
    all_at FitsLink c.links (server - 1) (new_link (link_config c.config)) fits.links (link_fits c.config fits.config)

-- the same links
record IsAlike (c d : ClientState) : Type 0 where
  config : d.config ≡ c.config
  links : d.links ≡ c.links

alike_then : (c d e : ClientState) → IsAlike c d → IsAlike d e → IsAlike c e
alike_then c d e first second = record { config = second.config ∙ first.config; links = second.links ∙ first.links }

link_alike : (server : ℕ) (c d : ClientState) → IsAlike c d → link_of server d ≡ link_of server c
link_alike server c d same =
    ap (λ (l : List LinkState). slice_index_or l (server - 1) (new_link (link_config d.config))) same.links
    ∙ ap (λ (k : ClientConfig). slice_index_or c.links (server - 1) (new_link (link_config k))) same.config

fits_alike : (c d : ClientState) → IsAlike c d → FitsClient c → FitsClient d
fits_alike c d same fits = record {
  config = subst FitsConfig (sym same.config) fits.config;
  links = subst (AllByRecursion FitsLink) (sym same.links) fits.links;
}

told_alike : (server : ℕ) (n : Notice) (c : ClientState) → IsAlike c (told server n c)
unfolding told
told_alike server (notice.Level level) c = record { config = refl; links = refl }
told_alike server notice.Ready c = record { config = refl; links = refl }
told_alike server notice.Lost c = record { config = refl; links = refl }
told_alike server notice.Unsupported c = record { config = refl; links = refl }
told_alike server (notice.Stream item) c = record { config = refl; links = refl }
told_alike server notice.Jump c = record { config = refl; links = refl }
told_alike server (notice.Taken item value) c = record { config = refl; links = refl }
told_alike server (notice.Sent mode) c = record { config = refl; links = refl }
told_alike server (notice.Confirmed mode) c = record { config = refl; links = refl }

all_told_alike : (server : ℕ) (notices : List Notice) (c : ClientState) → IsAlike c (all_told server notices c)
unfolding all_told
all_told_alike server [] c = record { config = refl; links = refl }
all_told_alike server (n ∷ notices) c =
    alike_then c (told server n c) (all_told server notices (told server n c)) (told_alike server n c)
    (all_told_alike server notices (told server n c))

fell_alike : (server : ℕ) (b : Bool) (c : ClientState) → IsAlike c (fell server b c)
fell_alike server true c = record { config = refl; links = refl }
fell_alike server false c = record { config = refl; links = refl }

linked_alike : (server : ℕ) (did : LinkDid) (c : ClientState) → IsAlike (with_link server did.link c) (linked_by server did c).client
unfolding linked_by
linked_alike server did c =
    alike_then (with_link server did.link c) (moved server did.link c) (all_told server did.notices (moved server did.link c))
    (fell_alike server (falls (link_of server c) did.link) (with_link server did.link c))
    (all_told_alike server did.notices (moved server did.link c))

switched_alike : (o : Option (ℕ × ℕ)) (ready : List Candidate) (c : ClientState) → IsAlike c (switched o (with_choice ready c)).client
switched_alike None ready c = record { config = refl; links = refl }
switched_alike (Some both) ready c = record { config = refl; links = refl }

switched_quiet : (o : Option (ℕ × ℕ)) (c : ClientState) → (switched o c).orders ≡ []
switched_quiet None c = refl
switched_quiet (Some both) c = refl

-- ---- endpoints

text_short : (url : Option (List ℕ)) → FitsUrl url → length (url_text url) ≤ 4070
text_short None known = omega arith
text_short (Some run) known = known

endpoint_keeps : (server : ℕ) (c : ClientState) → c.dials < 2 ^ 64 → FitsClient c → KeepsText (Some (endpoint server c))
endpoint_keeps server c dials fits =
    let url : Option (List ℕ) = slice_index_or c.config.urls (server - 1) None in
    let first : length (url_text url) ≤ 4070 = text_short url (all_at FitsUrl c.config.urls (server - 1) None fits.config.urls tt) in
    let digits : length (decimal c.dials) ≤ 20 = length-decimal-le 20 c.dials (omega arith) (omega arith) dials in
    let all : length (url_text url ++ dial_text c.dials) ≡ length (url_text url) + length (dial_text c.dials) =
    length-append (url_text url) (dial_text c.dials) in
    let slash : length (codes "/") ≡ 1 = refl in
    let tail : length (dial_text c.dials) ≡ length (codes "/") + length (decimal c.dials) = length-append (codes "/") (decimal c.dials) in
    omega arith

-- ---- numbers of servers

pub same_number : (a b : ℕ) → (a == b) ≡ true → a ≡ b
same_number a b test = grind (arith, nat_tests)

equal_number : (a b : ℕ) → a ≡ b → (a == b) ≡ true
equal_number a b same = by_test (a == b) refl
  where
    by_test : (t : Bool) → (a == b) ≡ t → t ≡ true
    by_test true test = refl
    by_test false test = let apart : a ≢ b = grind (arith, nat_tests) in absurd (apart same)

other_number : (a b : ℕ) → a ≢ b → (a == b) ≡ false
other_number a b other = by_test (a == b) refl
  where
    by_test : (t : Bool) → (a == b) ≡ t → t ≡ false
    by_test true test = absurd (other (same_number a b test))
    by_test false test = refl

pub first_within : (server count : ℕ) → (nat_le 1 server && nat_le server count) ≡ true → 1 ≤ server
first_within server count e =
    let test : nat_le 1 server ≡ true = and_first (nat_le 1 server) (nat_le server count) e in grind (arith, nat_tests)

pub last_within : (server count : ℕ) → (nat_le 1 server && nat_le server count) ≡ true → server ≤ count
last_within server count e =
    let test : nat_le server count ≡ true = and_second (nat_le 1 server) (nat_le server count) e in grind (arith, nat_tests)

-- H: that a connection is held to begin with; K: that what happens keeps the limits
module _ (H K : Type 0) (always : Bool) (number total : ℕ) where
  -- the client has this server
  abbrev pub IsHere : Type 0
  IsHere = (1 ≤ number) × (number ≤ total)

  pub record Known (s : Sending) (c : ClientState) : Type 0 where
    pub count : length c.links ≡ total
    pub fits : K → FitsClient c
    pub limit : K → IsHere → Limits always (limit_of s) (link_of number c)

  pub record Client (s : Sending) (c : ClientState) : Type 0 where
    pub known : Known s c
    pub holds : IsHere → H → HoldsConnection (link_of number c)

  pub record Obeys (s : Sending) (did : ClientDid) : Type 0 where
    pub lawful : K → AreLawful (own number did.orders) s
    pub put : K → AllByRecursion (λ (o : ℕ × Order). IsPut o.1) did.orders
    pub none : (IsHere → ⊥) → own number did.orders ≡ []
    pub after : Client (after_orders (own number did.orders) s) did.client

  known_alike : (s : Sending) (c d : ClientState) → IsAlike c d → Known s c → Known s d
  known_alike s c d same on = record {
    count = ap length same.links ∙ on.count;
    fits = λ k. fits_alike c d same (on.fits k);
    limit = λ k here. subst (Limits always (limit_of s)) (sym (link_alike number c d same)) (on.limit k here);
  }

  client_alike : (s : Sending) (c d : ClientState) → IsAlike c d → Client s c → Client s d
  client_alike s c d same on = record {
    known = known_alike s c d same on.known;
    holds = λ here h. subst HoldsConnection (sym (link_alike number c d same)) (on.holds here h);
  }

  obeys_nothing : (s : Sending) (c : ClientState) → Client s c → Obeys s (nothing c)
  obeys_nothing s c on = record { lawful = λ k. tt; put = λ k. tt; none = λ away. refl; after = on }

  obeys_then : (s : Sending) (did : ClientDid) (rule : ClientState → ClientDid) → Obeys s did
      → (Client (after_orders (own number did.orders) s) did.client → Obeys (after_orders (own number did.orders) s) (rule did.client))
      → Obeys s (and_then rule did)
  obeys_then s did rule first second =
      let t : Sending = after_orders (own number did.orders) s in
      let more : Obeys t (rule did.client) = second first.after in
      let all : own number (did.orders ++ (rule did.client).orders) ≡ own number did.orders ++ own number (rule did.client).orders =
      own_append number did.orders (rule did.client).orders in
      record {
        lawful = λ k. subst (λ l. AreLawful l s) (sym all)
            (lawful_append (own number did.orders) (own number (rule did.client).orders) s (first.lawful k) (more.lawful k));
        put = λ k. all_append (λ (o : ℕ × Order). IsPut o.1) did.orders (rule did.client).orders (first.put k) (more.put k);
        none = λ away. all ∙ ap (λ (l : List Order). l ++ own number (rule did.client).orders) (first.none away) ∙ more.none away;
        after = subst (λ u. Client u (rule did.client).client)
            (after_append (own number did.orders) (own number (rule did.client).orders) s ∙ ap (λ l. after_orders l s) (sym all)) more.after;
      }

  obeys_if : (s : Sending) (b : Bool) (one other : ClientDid) → Obeys s one → Obeys s other → Obeys s (if b then one else other)
  obeys_if s true one other first second = first
  obeys_if s false one other first second = second

  -- the first so many servers, one by one
  each_obeys : (rule : ℕ → ClientState → ClientDid) (count : ℕ) (s : Sending) (c : ClientState) → count ≤ total → Client s c
      → ((server : ℕ) (t : Sending) (d : ClientState) → 1 ≤ server → server ≤ total → Client t d → Obeys t (rule server d))
      → Obeys s (each_server rule count c)
  unfolding each_server
  each_obeys rule zero s c less on each = obeys_nothing s c on
  each_obeys rule (suc count) s c less on each =
      obeys_then s (each_server rule count c) (rule (count + 1)) (each_obeys rule count s c (omega arith) on each)
      (each (count + 1) _ (each_server rule count c).client (omega arith) (omega arith))

  -- ---- a link does something

  set_fits : (server : ℕ) (l : LinkState) (c : ClientState) → FitsLink l → FitsClient c → FitsClient (with_link server l c)
  set_fits server l c one fits = record { config = fits.config; links = all_set FitsLink c.links (server - 1) l fits.links one }

  -- the link to this server
  linked_own : (s : Sending) (server : ℕ) (did : LinkDid) (c : ClientState) → 1 ≤ server → server ≤ total → server ≡ number
      → Known s c → (K → Fits did) → Uses H K always (limit_of s) did → Obeys s (linked_by server did c)
  unfolding linked_by
  linked_own s server did c least most same on fits does =
      let now : ClientState = with_link server did.link c in
      let orders : List Order = orders_of did.said in
      let u : Sending = after_orders orders s in
      let mine : own number (ordered server orders) ≡ orders = own_same server number orders (equal_number server number same) in
      let count : length c.links ≡ total = on.count in
      let at : link_of number now ≡ did.link =
      ap (λ n. slice_index_or (slice_set c.links (server - 1) did.link) (n - 1) (new_link (link_config c.config))) (sym same)
      ∙ set_here c.links (server - 1) did.link (new_link (link_config c.config)) (omega arith) in
      let go : K → AllGo (limit_of s) did.said s = λ k. all_go (limit_of s) did.said s (fits k).said (does.short k) refl in
      let stands : Client u now = record {
        known = record {
          count = set_long c.links (server - 1) did.link ∙ count;
          fits = λ k. set_fits server did.link c (fits k).link (on.fits k);
          limit = λ k here. subst (Limits always (limit_of u)) (sym at)
              (subst (λ m. Limits always m did.link) (sym (go k).limit) (does.limit k));
        };
        holds = λ here h. subst HoldsConnection (sym at) (does.holds h);
      } in
      record {
        lawful = λ k. subst (λ l. AreLawful l s) (sym mine) (go k).lawful;
        put = λ k. all_ordered IsPut server orders (all_put (limit_of s) did.said (fits k).said (does.short k));
        none = λ away. absurd (away (subst (λ n. 1 ≤ n) same least, subst (λ n. n ≤ total) same most));
        after = subst (λ l. Client (after_orders l s) (linked_by server did c).client) (sym mine)
            (client_alike u now (linked_by server did c).client (linked_alike server did c) stands);
      }

  -- the link to another one
  linked_other : (s : Sending) (n server : ℕ) (did : LinkDid) (c : ClientState) → 1 ≤ server → server ≤ total → server ≢ number
      → Client s c → (K → Fits did) → Does ⊥ K n did → Obeys s (linked_by server did c)
  unfolding linked_by
  linked_other s n server did c least most other on fits does =
      let now : ClientState = with_link server did.link c in
      let orders : List Order = orders_of did.said in
      let nobody : own number (ordered server orders) ≡ [] = own_other server number orders (other_number server number other) in
      let at : IsHere → link_of number now ≡ link_of number c = λ here.
      let first : 1 ≤ number = here.0 in
      set_elsewhere c.links (server - 1) (number - 1) did.link (new_link (link_config c.config)) (λ e. other (omega arith)) in
      let stands : Client s now = record {
        known = record {
          count = set_long c.links (server - 1) did.link ∙ on.known.count;
          fits = λ k. set_fits server did.link c (fits k).link (on.known.fits k);
          limit = λ k here. subst (Limits always (limit_of s)) (sym (at here)) (on.known.limit k here);
        };
        holds = λ here h. subst HoldsConnection (sym (at here)) (on.holds here h);
      } in
      record {
        lawful = λ k. subst (λ l. AreLawful l s) (sym nobody) tt;
        put = λ k. all_ordered IsPut server orders (all_put n did.said (fits k).said (does.short k));
        none = λ away. nobody;
        after = subst (λ l. Client (after_orders l s) (linked_by server did c).client) (sym nobody)
            (client_alike s now (linked_by server did c).client (linked_alike server did c) stands);
      }

  -- the link to whichever server
  linked_obeys : (s : Sending) (server : ℕ) (rule : LinkState → LinkDid) (c : ClientState) → 1 ≤ server → server ≤ total
      → Known s c → (server ≢ number → Client s c) → (server ≡ number → Uses H K always (limit_of s) (rule (link_of server c)))
      → Does ⊥ K (link_of server c).conversation.limit (rule (link_of server c))
      → (K → Fits (rule (link_of server c))) → Obeys s (linked server rule c)
  linked_obeys s server rule c least most on beside mine any fits = by_test (server == number) refl
    where
      by_test : (b : Bool) → (server == number) ≡ b → Obeys s (linked server rule c)
      by_test true test =
          let same : server ≡ number = same_number server number test in
          linked_own s server (rule (link_of server c)) c least most same on fits (mine same)
      by_test false test =
          let other : server ≢ number = grind (arith, nat_tests) in
          linked_other s (link_of server c).conversation.limit server (rule (link_of server c)) c least most other (beside other) fits any

  -- ---- what its links are then

  any_stands : (s : Sending) (server : ℕ) (c : ClientState) → Known s c
      → Stands ⊥ K (link_of server c).conversation.limit (link_of server c)
  any_stands s server c on = record {
    limit = λ k. omega arith;
    holds = λ h. absurd h;
    header = λ k. header_fits (link_of server c) (of_server server c (on.fits k));
  }

  own_stands : (s : Sending) (server : ℕ) (c : ClientState) → 1 ≤ server → server ≤ total → Known s c → server ≡ number
      → Rests ⊥ K always (limit_of s) (link_of server c)
  own_stands s server c least most on same = record {
    limit = λ k. subst (λ n. Limits always (limit_of s) (link_of n c)) (sym same)
        (on.limit k (subst (λ n. 1 ≤ n) same least, subst (λ n. n ≤ total) same most));
    holds = λ h. absurd h;
    header = λ k. header_fits (link_of server c) (of_server server c (on.fits k));
  }

  held_stands : (s : Sending) (server : ℕ) (c : ClientState) → 1 ≤ server → server ≤ total → Client s c → server ≡ number
      → Rests H K always (limit_of s) (link_of server c)
  held_stands s server c least most on same =
      let bare : Rests ⊥ K always (limit_of s) (link_of server c) = own_stands s server c least most on.known same in record {
        limit = bare.limit;
        holds = λ h. subst (λ n. HoldsConnection (link_of n c)) (sym same)
            (on.holds (subst (λ n. 1 ≤ n) same least, subst (λ n. n ≤ total) same most) h);
        header = bare.header;
      }

  fits_of : (s : Sending) (server : ℕ) (c : ClientState) → Known s c → K → FitsLink (link_of server c)
  fits_of s server c on k = of_server server c (on.fits k)

  -- ---- what follows

  switched_obeys : (o : Option (ℕ × ℕ)) (ready : List Candidate) (s : Sending) (c : ClientState) → Client s c
      → Obeys s (switched o (with_choice ready c))
  switched_obeys None ready s c on = record {
    lawful = λ k. tt;
    put = λ k. tt;
    none = λ away. refl;
    after = client_alike s c (switched None (with_choice ready c)).client (record { config = refl; links = refl }) on;
  }
  switched_obeys (Some both) ready s c on = record {
    lawful = λ k. tt;
    put = λ k. tt;
    none = λ away. refl;
    after = client_alike s c (switched (Some both) (with_choice ready c)).client (record { config = refl; links = refl }) on;
  }

  chosen_obeys : (ready : List Candidate) (s : Sending) (c : ClientState) → Client s c → Obeys s (chosen ready c)
  unfolding chosen
  chosen_obeys ready s c on = switched_obeys (switch_of ready c.core) ready s c on

  told_mode_obeys : (server : ℕ) (s : Sending) (c : ClientState) → 1 ≤ server → server ≤ total → Client s c
      → Obeys s (told_mode server c)
  unfolding told_mode
  told_mode_obeys server s c least most on =
      obeys_if s (is_ready (link_of server c)) (linked server (link.wants (wanted server c.core)) c) (nothing c)
      (linked_obeys s server (link.wants (wanted server c.core)) c least most on.known (λ other. on)
      (λ same. uses_of H H K always (limit_of s) (link_of server c) (link.wants (wanted server c.core) (link_of server c))
      (held_stands s server c least most on same) (λ m. wants_does H K m (wanted server c.core) (link_of server c))
      (wants_idles (wanted server c.core) (link_of server c)))
      (wants_does ⊥ K _ (wanted server c.core) (link_of server c) (any_stands s server c on.known))
      (λ k. links.wants_fits (wanted server c.core) (link_of server c) (fits_of s server c on.known k)))
      (obeys_nothing s c on)

  modes_obey : (s : Sending) (c : ClientState) → Client s c → Obeys s (modes_told c)
  modes_obey s c on =
      let count : length c.links ≡ total = on.known.count in
      each_obeys told_mode (length c.links) s c (omega arith) on told_mode_obeys

  round_obeys : (ready : List Candidate) (s : Sending) (c : ClientState) → Client s c → Obeys s (round ready c)
  unfolding round
  round_obeys ready s c on =
      obeys_then s (chosen ready c) modes_told (chosen_obeys ready s c on) (modes_obey _ (chosen ready c).client)

  settled_obeys : (most : ℕ) (ready : List Candidate) (s : Sending) (c : ClientState) → Client s c
      → Obeys s (settled_within most ready c)
  unfolding settled_within
  settled_obeys zero ready s c on = obeys_nothing s c on
  settled_obeys (suc most) ready s c on =
      let did : ClientDid = round ready c in
      let went : Obeys s did = round_obeys ready s c on in
      obeys_if s (are_fewer (ready_of did.client) ready) (and_then (settled_within most (ready_of did.client)) did) did
      (obeys_then s did (settled_within most (ready_of did.client)) went (settled_obeys most (ready_of did.client) _ did.client)) went

  -- ---- events

  opens_obeys : (s : Sending) (server : ℕ) (c : ClientState) → 1 ≤ server → server ≤ total → Known s c
      → (server ≢ number → Client s c) → (server ≡ number → H → opening.begins_anew (link_of server c) ≡ true)
      → Obeys s (happens (Opens server) c)
  opens_obeys s server c least most on beside anew =
      let d : ClientState = counted c in
      let same_links : IsAlike c d = record { config = refl; links = refl } in
      let known : Known s d = known_alike s c d same_links on in
      let url : Option (List ℕ) = Some (endpoint server d) in
      linked_obeys s server (opening.opened url) d least most known (λ other. client_alike s c d same_links (beside other))
      (λ same. uses_of ⊥ H K always (limit_of s) (link_of server d) (opening.opened url (link_of server d))
      (own_stands s server d least most known same) (λ m. opened_does H K m url (link_of server d) (anew same))
      (opened_idles url (link_of server d)))
      (opened_does ⊥ K _ url (link_of server d) (λ h. absurd h) (any_stands s server d known))
      (λ k. links.opened_fits url (link_of server d) (endpoint_keeps server d (omega arith) (known.fits k)) (fits_of s server d known k))

  happens_obeys : (s : Sending) (h : Happening) (c : ClientState) → is_known h c ≡ true → (K → FitsHappening h)
      → (H → IsBeside number h) → Client s c → Obeys s (happens h c)
  happens_obeys s (Opens server) c is kept beside on =
      let count : length c.links ≡ total = on.known.count in
      let last : server ≤ length c.links = last_within server (length c.links) is in
      opens_obeys s server c (first_within server (length c.links) is) (omega arith) on.known (λ other. on)
      (λ same h. absurd (beside h same))
  happens_obeys s (Refuses server) c is kept beside on =
      let count : length c.links ≡ total = on.known.count in
      let least : 1 ≤ server = first_within server (length c.links) is in
      let last : server ≤ length c.links = last_within server (length c.links) is in
      let most : server ≤ total = omega arith in
      linked_obeys s server opening.refused c least most on.known (λ other. on)
      (λ same. uses_of H H K always (limit_of s) (link_of server c) (opening.refused (link_of server c))
      (held_stands s server c least most on same) (λ m. refused_does H K m (link_of server c) (λ h. beside h same))
      (refused_idles (link_of server c)))
      (refused_does ⊥ K _ (link_of server c) (λ h. h) (any_stands s server c on.known))
      (λ k. links.refused_fits (link_of server c) (fits_of s server c on.known k))
  happens_obeys s (Hears server h) c is kept beside on =
      let count : length c.links ≡ total = on.known.count in
      let least : 1 ≤ server = first_within server (length c.links) is in
      let last : server ≤ length c.links = last_within server (length c.links) is in
      let most : server ≤ total = omega arith in
      linked_obeys s server (link.heard h) c least most on.known (λ other. on)
      (λ same. uses_of H H K always (limit_of s) (link_of server c) (link.heard h (link_of server c))
      (held_stands s server c least most on same) (λ m. heard_does H K m h (link_of server c) kept) (heard_idles h (link_of server c)))
      (heard_does ⊥ K _ h (link_of server c) kept (any_stands s server c on.known))
      (λ k. links.heard_fits h (link_of server c) (kept k) (fits_of s server c on.known k))
  happens_obeys s (Closes server) c is kept beside on =
      let count : length c.links ≡ total = on.known.count in
      let least : 1 ≤ server = first_within server (length c.links) is in
      let last : server ≤ length c.links = last_within server (length c.links) is in
      let most : server ≤ total = omega arith in
      linked_obeys s server opening.closed c least most on.known (λ other. on)
      (λ same. uses_of H H K always (limit_of s) (link_of server c) (opening.closed (link_of server c))
      (held_stands s server c least most on same) (λ m. closed_does H K m (link_of server c) (λ h. beside h same))
      (closed_idles (link_of server c)))
      (closed_does ⊥ K _ (link_of server c) (λ h. h) (any_stands s server c on.known))
      (λ k. links.closed_fits (link_of server c) (fits_of s server c on.known k))
  happens_obeys s (Ticks ms) c is kept beside on =
      let count : length c.links ≡ total = on.known.count in
      each_obeys (λ server. linked server (time.ticked ms)) (length c.links) s c (omega arith) on
      (λ server t d least most now. linked_obeys t server (time.ticked ms) d least most now.known (λ other. now)
      (λ same. uses_of H H K always (limit_of t) (link_of server d) (time.ticked ms (link_of server d))
      (held_stands t server d least most now same) (λ m. ticked_does H K m ms (link_of server d)) (ticked_idles ms (link_of server d)))
      (ticked_does ⊥ K _ ms (link_of server d) (any_stands t server d now.known))
      (λ k. links.ticked_fits ms (link_of server d) (fits_of t server d now.known k)))

  after_by : (s : Sending) (h : Happening) (c : ClientState) (b : Bool) → is_known h c ≡ b → Client s c ⊎ (b ≡ true)
      → (b ≡ true → Obeys s (happens h c)) → Obeys s (if b then and_then settled (and_then (happens h) (happening h c)) else nothing c)
  after_by s h c true is known went =
      let did : ClientDid = and_then (happens h) (happening h c) in
      let first : Obeys s (happens h c) = went refl in
      obeys_then s did settled (record { lawful = first.lawful; put = first.put; none = first.none; after = first.after })
      (settled_obeys (length did.client.links + 1) (ready_of did.client) _ did.client)
  after_by s h c false is (inl on) went = obeys_nothing s c on
  after_by s h c false is (inr e) went = absurd cc

  pub after_obeys : (s : Sending) (h : Happening) (c : ClientState) → (K → FitsHappening h) → (H → IsBeside number h)
      → Client s c → Obeys s (after h c)
  unfolding after
  after_obeys s h c kept beside on = after_by s h c _ refl (inl on) (λ is. happens_obeys s h c is kept beside on)

  -- a connection that is opened anew
  pub opening_obeys : (s : Sending) (c : ClientState) → is_server number c ≡ true → Known s c
      → (H → opening.begins_anew (link_of number c) ≡ true) → Obeys s (after (Opens number) c)
  unfolding after
  opening_obeys s c is on anew =
      let count : length c.links ≡ total = on.count in
      let last : number ≤ length c.links = last_within number (length c.links) is in
      after_by s (Opens number) c _ refl (inr is) (λ e. opens_obeys s number c (first_within number (length c.links) is) (omega arith) on
      (λ other. absurd (other refl)) (λ same. anew))

-- ---- dials

if_long : (b : Bool) (d c : ClientState) → length d.links ≡ length c.links → length (if b then d else c).links ≡ length c.links
if_long true d c same = same
if_long false d c same = refl

dials_long : (server : ℕ) (c : ClientState) → length (dials_at server c).links ≡ length c.links
dials_long server c =
    if_long (opening.may_dial (link_of server c)) (with_link server (opening.dials (link_of server c)) c) c
    (set_long c.links (server - 1) (opening.dials (link_of server c)))

among_long : (count : ℕ) (c : ClientState) → length (dials_among count c).links ≡ length c.links
unfolding dials_among
among_long zero c = refl
among_long (suc count) c = dials_long (count + 1) (dials_among count c) ∙ among_long count c

one_long : (o : Option ℕ) (c : ClientState) → length (dials_if o c).links ≡ length c.links
one_long None c = refl
one_long (Some server) c = dials_long server c

mode_long : (set : SetMode) (c : ClientState) → length (dialled_by set c).links ≡ length c.links
mode_long Direct c = refl
mode_long Hot c = among_long (length c.links) c
mode_long Warm c = among_long (length c.links) c
mode_long Cold c =
    if_long (are_idle (length c.links) c) (dials_if (first_to_dial (length c.links) c.cursor c) c) c
    (one_long (first_to_dial (length c.links) c.cursor c) c)

pub dialled_long : (c : ClientState) → length (dialled c).links ≡ length c.links
unfolding dialled
dialled_long c = if_long (has_numbers c) (dialled_by c.config.mode c) c (mode_long c.config.mode c)

-- what dials leave of a link they leave of each
module _ (P : LinkState → Type 0) (kept : (l : LinkState) → P l → P (opening.dials l)) (number : ℕ) where
  dials_test : (server : ℕ) (b : Bool) (c : ClientState) → P (link_of number c)
      → P (link_of number (if b then with_link server (opening.dials (link_of server c)) c else c))
  dials_test server true c one =
      set_keeps P c.links (server - 1) (number - 1) (opening.dials (link_of server c)) (new_link (link_config c.config))
      (kept (link_of server c)) one
  dials_test server false c one = one

  dials_keep : (server : ℕ) (c : ClientState) → P (link_of number c) → P (link_of number (dials_at server c))
  dials_keep server c one = dials_test server (opening.may_dial (link_of server c)) c one

  among_keep : (count : ℕ) (c : ClientState) → P (link_of number c) → P (link_of number (dials_among count c))
  unfolding dials_among
  among_keep zero c one = one
  among_keep (suc count) c one = dials_keep (count + 1) (dials_among count c) (among_keep count c one)

  one_keeps : (o : Option ℕ) (c : ClientState) → P (link_of number c) → P (link_of number (dials_if o c))
  one_keeps None c one = one
  one_keeps (Some server) c one = dials_keep server c one

  if_keeps : (b : Bool) (d c : ClientState) → P (link_of number d) → P (link_of number c) → P (link_of number (if b then d else c))
  if_keeps true d c first second = first
  if_keeps false d c first second = second

  mode_keeps : (set : SetMode) (c : ClientState) → P (link_of number c) → P (link_of number (dialled_by set c))
  mode_keeps Direct c one = one
  mode_keeps Hot c one = among_keep (length c.links) c one
  mode_keeps Warm c one = among_keep (length c.links) c one
  mode_keeps Cold c one =
      if_keeps (are_idle (length c.links) c) (dials_if (first_to_dial (length c.links) c.cursor c) c) c
      (one_keeps (first_to_dial (length c.links) c.cursor c) c one) one

  pub dialled_keeps : (c : ClientState) → P (link_of number c) → P (link_of number (dialled c))
  unfolding dialled
  dialled_keeps c one = if_keeps (has_numbers c) (dialled_by c.config.mode c) c (mode_keeps c.config.mode c one) one
