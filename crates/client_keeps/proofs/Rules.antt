-- Each rule leaves a client that fits, and lets it say what keeps the limits.
use Rattle.std.proofs.Common.{◌≡◌, ℕ, zero, suc, ◌+◌, ◌-◌, ◌<◌, ◌≤◌, ◌^◌, List, [], ◌∷◌, ◌++◌, map, length, replicate, Bool, true, false, Option, Some, None, if◌then◌else◌, slice_index_or, slice_set, codes, refl, sym, subst, arith, cond}
use Rattle.std.specs.List.{AllByRecursion}
use Rattle.std.specs.Fmt.{decimal}
use Rattle.std.proofs.lemmas.Fmt.{length-decimal-le}
use Rattle.std.proofs.lemmas.List.{length-append}
use Rattle.ua_base.specs.declared.modes.SetMode.{SetMode}
use Rattle.ua_base.specs.declared.modes.SetMode.TheVariants.{Direct, Hot, Warm, Cold}
use Rattle.ua_values.specs.Laws.{KeepsText}
use Rattle.failover_core.specs.declared.choice.Candidate.{Candidate}
use Rattle.failover_core.specs.Choice.{switch_of, wanted}
use Rattle.link_rules.specs.declared.notice.Notice.{Notice}
use Rattle.link_rules.specs.declared.notice.Notice.TheVariants as notice
use Rattle.link_rules.specs.declared.phase.Phase.{Phase}
use Rattle.link_rules.specs.declared.phase.Phase.TheVariants as phase
use Rattle.link_rules.specs.Said.{LinkDid, Said}
use Rattle.link_rules.specs.State.{LinkState, is_ready, new_link}
use Rattle.link_rules.specs.Opening as opening
use Rattle.link_rules.specs.Time as time
use Rattle.link_rules.specs.Step as link
use Rattle.link_keeps.specs.Fitting.{Fits, FitsLink, FitsPhase, KeepsSaid}
use Rattle.link_keeps.proofs.Rules as links
use Rattle.client_rules.specs.declared.config.ClientConfig.{ClientConfig}
use Rattle.client_rules.specs.State.{ClientState, idle_client, link_config, link_of, servers_of, with_link, is_server}
use Rattle.client_rules.specs.Acts.{Happening, Tells, Says, Opens, Refuses, Hears, Closes, Ticks}
use Rattle.client_rules.specs.Doing.{ClientDid, and_then, each_server, nothing}
use Rattle.client_rules.specs.Links.{all_told, fell, falls, linked, linked_by, moved, told}
use Rattle.client_rules.specs.Settling.{are_fewer, chosen, modes_told, ready_of, round, settled, settled_within, switched, told_mode, with_choice}
use Rattle.client_rules.specs.Dialling.{are_idle, dialled, dialled_by, dials_among, dials_at, dials_if, first_to_dial, has_numbers}
use Rattle.client_rules.specs.Step.{Moment, Goes, Ends, Takes, without_wish, after, after_all, at_moment, counted, dial_text, endpoint, happening, happens, is_known, new_client, url_text}
use Rattle.client_keeps.specs.Fitting.{FitsClient, FitsConfig, FitsHappening, FitsMoment, FitsUrl, KeepsAct}

-- ---- lists

all_set : {A : Type 0} (P : A → Type 0) (xs : List A) (i : ℕ) (a : A) → AllByRecursion P xs → P a → AllByRecursion P (slice_set xs i a)
all_set P [] i a all one = tt
all_set P (x ∷ xs) zero a all one = (one, all.1)
all_set P (x ∷ xs) (suc i) a all one = (all.0, all_set P xs i a all.1 one)

all_at : {A : Type 0} (P : A → Type 0) (xs : List A) (i : ℕ) (d : A) → AllByRecursion P xs → P d → P (slice_index_or xs i d)
all_at P [] i d all one = one
all_at P (x ∷ xs) zero d all one = all.0
all_at P (x ∷ xs) (suc i) d all one = all_at P xs i d all.1 one

all_append : {A : Type 0} (P : A → Type 0) (first more : List A) → AllByRecursion P first → AllByRecursion P more
    → AllByRecursion P (first ++ more)
all_append P [] more first second = second
all_append P (one ∷ first) more all second = (all.0, all_append P first more all.1 second)

all_same : {A : Type 0} (P : A → Type 0) (count : ℕ) (a : A) → P a → AllByRecursion P (replicate count a)
all_same P zero a one = tt
all_same P (suc count) a one = (one, all_same P count a one)

-- ---- a rule

record FitsDid (did : ClientDid) : Type 0 where
  client : FitsClient did.client
  acts : AllByRecursion KeepsAct did.acts

fits_nothing : (c : ClientState) → FitsClient c → FitsDid (nothing c)
fits_nothing c fits = record { client = fits; acts = tt }

fits_then : (did : ClientDid) (rule : ClientState → ClientDid) → FitsDid did
    → (FitsClient did.client → FitsDid (rule did.client)) → FitsDid (and_then rule did)
fits_then did rule first second = record {
  client = (second first.client).client;
  acts = all_append KeepsAct did.acts (rule did.client).acts first.acts (second first.client).acts;
}

fits_if : (b : Bool) (one other : ClientDid) → FitsDid one → FitsDid other → FitsDid (if b then one else other)
fits_if true one other first second = first
fits_if false one other first second = second

each_fits : (rule : ℕ → ClientState → ClientDid) (count : ℕ) (c : ClientState) → FitsClient c
    → ((server : ℕ) (d : ClientState) → FitsClient d → FitsDid (rule server d)) → FitsDid (each_server rule count c)
unfolding each_server
each_fits rule zero c fits each = fits_nothing c fits
each_fits rule (suc count) c fits each =
    fits_then (each_server rule count c) (rule (count + 1)) (each_fits rule count c fits each)
    (each (count + 1) (each_server rule count c).client)

-- ---- links

link_fits : (config : ClientConfig) → FitsConfig config → FitsLink (new_link (link_config config))
link_fits config fits = links.new_fits (link_config config) (record { items = fits.items; queue = fits.queue; start = fits.start })

pub of_server : (server : ℕ) (c : ClientState) → FitsClient c → FitsLink (link_of server c)
of_server server c fits =
    all_at FitsLink c.links (server - 1) (new_link (link_config c.config)) fits.links (link_fits c.config fits.config)

-- what it has of links and config alone counts
fits_alike : (c d : ClientState) → d.config ≡ c.config → d.links ≡ c.links → FitsClient c → FitsClient d
fits_alike c d config links fits = record {
  config = subst FitsConfig (sym config) fits.config;
  links = subst (AllByRecursion FitsLink) (sym links) fits.links;
}

record IsAlike (c d : ClientState) : Type 0 where
  config : d.config ≡ c.config
  links : d.links ≡ c.links

told_alike : (server : ℕ) (n : Notice) (c : ClientState) → IsAlike c (told server n c)
unfolding told
told_alike server (notice.Level level) c = record { config = refl; links = refl }
told_alike server notice.Ready c = record { config = refl; links = refl }
told_alike server notice.Lost c = record { config = refl; links = refl }
told_alike server notice.Unsupported c = record { config = refl; links = refl }
told_alike server (notice.Stream item) c = record { config = refl; links = refl }
told_alike server notice.Jump c = record { config = refl; links = refl }
told_alike server (notice.Taken item value) c = record { config = refl; links = refl }
told_alike server (notice.Sent mode) c = record { config = refl; links = refl }
told_alike server (notice.Confirmed mode) c = record { config = refl; links = refl }

all_told_fits : (server : ℕ) (notices : List Notice) (c : ClientState) → FitsClient c → FitsClient (all_told server notices c)
unfolding all_told
all_told_fits server [] c fits = fits
all_told_fits server (n ∷ notices) c fits =
    let same = told_alike server n c in
    all_told_fits server notices (told server n c) (fits_alike c (told server n c) same.config same.links fits)

fell_fits : (server : ℕ) (b : Bool) (c : ClientState) → FitsClient c → FitsClient (fell server b c)
fell_fits server true c fits = record { config = fits.config; links = fits.links }
fell_fits server false c fits = fits

pub with_link_fits : (server : ℕ) (l : LinkState) (c : ClientState) → FitsLink l → FitsClient c → FitsClient (with_link server l c)
with_link_fits server l c known fits = record { config = fits.config; links = all_set FitsLink c.links (server - 1) l fits.links known }

tells_keep : (server : ℕ) (notices : List Notice) → AllByRecursion KeepsAct (map (Tells server) notices)
tells_keep server [] = tt
tells_keep server (n ∷ notices) = (tt, tells_keep server notices)

says_keep : (server : ℕ) (said : List Said) → AllByRecursion KeepsSaid said → AllByRecursion KeepsAct (map (Says server) said)
says_keep server [] all = tt
says_keep server (s ∷ said) all = (all.0, says_keep server said all.1)

linked_fits : (server : ℕ) (did : LinkDid) (c : ClientState) → Fits did → FitsClient c → FitsDid (linked_by server did c)
unfolding linked_by
linked_fits server did c known fits = record {
  client = all_told_fits server did.notices (moved server did.link c)
      (fell_fits server (falls (link_of server c) did.link) (with_link server did.link c) (with_link_fits server did.link c known.link fits));
  acts = all_append KeepsAct (map (Tells server) did.notices) (map (Says server) did.said)
      (tells_keep server did.notices) (says_keep server did.said known.said);
}

-- ---- settling

chosen_by : (o : Option (ℕ × ℕ)) (c : ClientState) → FitsClient c → FitsDid (switched o c)
chosen_by None c fits = fits_nothing c fits
chosen_by (Some both) c fits = record { client = record { config = fits.config; links = fits.links }; acts = (tt, tt) }

chosen_fits : (ready : List Candidate) (c : ClientState) → FitsClient c → FitsDid (chosen ready c)
unfolding chosen
chosen_fits ready c fits =
    chosen_by (switch_of ready c.core) (with_choice ready c) (record { config = fits.config; links = fits.links })

mode_fits : (server : ℕ) (c : ClientState) → FitsClient c → FitsDid (told_mode server c)
unfolding told_mode
mode_fits server c fits =
    fits_if (is_ready (link_of server c)) (linked server (link.wants (wanted server c.core)) c) (nothing c)
    (linked_fits server (link.wants (wanted server c.core) (link_of server c)) c
    (links.wants_fits (wanted server c.core) (link_of server c) (of_server server c fits)) fits) (fits_nothing c fits)

round_fits : (ready : List Candidate) (c : ClientState) → FitsClient c → FitsDid (round ready c)
unfolding round
round_fits ready c fits =
    fits_then (chosen ready c) modes_told (chosen_fits ready c fits)
    (λ now. each_fits told_mode (length (chosen ready c).client.links) (chosen ready c).client now mode_fits)

settled_fits : (most : ℕ) (ready : List Candidate) (c : ClientState) → FitsClient c → FitsDid (settled_within most ready c)
unfolding settled_within
settled_fits zero ready c fits = fits_nothing c fits
settled_fits (suc most) ready c fits =
    fits_if (are_fewer (ready_of (round ready c).client) ready)
    (and_then (settled_within most (ready_of (round ready c).client)) (round ready c)) (round ready c)
    (fits_then (round ready c) (settled_within most (ready_of (round ready c).client)) (round_fits ready c fits)
    (settled_fits most (ready_of (round ready c).client) (round ready c).client)) (round_fits ready c fits)

-- ---- dialling

client_if : (b : Bool) (one other : ClientState) → FitsClient one → FitsClient other → FitsClient (if b then one else other)
client_if true one other first second = first
client_if false one other first second = second

dials_fit : (server : ℕ) (c : ClientState) → FitsClient c → FitsClient (dials_at server c)
dials_fit server c fits =
    client_if (opening.may_dial (link_of server c)) (with_link server (opening.dials (link_of server c)) c) c
    (with_link_fits server (opening.dials (link_of server c)) c (links.dials_fits (link_of server c) (of_server server c fits)) fits) fits

among_fit : (count : ℕ) (c : ClientState) → FitsClient c → FitsClient (dials_among count c)
unfolding dials_among
among_fit zero c fits = fits
among_fit (suc count) c fits = dials_fit (count + 1) (dials_among count c) (among_fit count c fits)

one_fits : (o : Option ℕ) (c : ClientState) → FitsClient c → FitsClient (dials_if o c)
one_fits None c fits = fits
one_fits (Some server) c fits = dials_fit server c fits

dialled_by_fits : (set : SetMode) (c : ClientState) → FitsClient c → FitsClient (dialled_by set c)
dialled_by_fits Direct c fits = fits
dialled_by_fits Hot c fits = among_fit (length c.links) c fits
dialled_by_fits Warm c fits = among_fit (length c.links) c fits
dialled_by_fits Cold c fits =
    client_if (are_idle (length c.links) c) (dials_if (first_to_dial (length c.links) c.cursor c) c) c
    (one_fits (first_to_dial (length c.links) c.cursor c) c fits) fits

pub dialled_fits : (c : ClientState) → FitsClient c → FitsClient (dialled c)
unfolding dialled
dialled_fits c fits =
    client_if (has_numbers c) (dialled_by c.config.mode c) c (dialled_by_fits c.config.mode c fits) fits

-- ---- events

text_short : (url : Option (List ℕ)) → FitsUrl url → length (url_text url) ≤ 4070
text_short None known = omega arith
text_short (Some run) known = known

endpoint_keeps : (server : ℕ) (c : ClientState) → c.dials < 2 ^ 64 → FitsClient c → KeepsText (Some (endpoint server c))
endpoint_keeps server c dials fits =
    let url : Option (List ℕ) = slice_index_or c.config.urls (server - 1) None in
    let first : length (url_text url) ≤ 4070 = text_short url (all_at FitsUrl c.config.urls (server - 1) None fits.config.urls tt) in
    let digits : length (decimal c.dials) ≤ 20 = length-decimal-le 20 c.dials (omega arith) (omega arith) dials in
    let all : length (url_text url ++ dial_text c.dials) ≡ length (url_text url) + length (dial_text c.dials) =
    length-append (url_text url) (dial_text c.dials) in
    let slash : length (codes "/") ≡ 1 = refl in
    let tail : length (dial_text c.dials) ≡ length (codes "/") + length (decimal c.dials) = length-append (codes "/") (decimal c.dials) in
    omega arith

happens_fits : (h : Happening) (c : ClientState) → FitsHappening h → FitsClient c → FitsDid (happens h c)
happens_fits (Opens server) c kept fits =
    let now : FitsClient (counted c) = record { config = fits.config; links = fits.links } in
    linked_fits server _ (counted c)
    (links.opened_fits (Some (endpoint server (counted c))) (link_of server (counted c))
    (endpoint_keeps server (counted c) (omega arith) now) (of_server server (counted c) now)) now
happens_fits (Refuses server) c kept fits =
    linked_fits server _ c (links.refused_fits (link_of server c) (of_server server c fits)) fits
happens_fits (Hears server h) c kept fits =
    linked_fits server _ c (links.heard_fits h (link_of server c) kept (of_server server c fits)) fits
happens_fits (Closes server) c kept fits =
    linked_fits server _ c (links.closed_fits (link_of server c) (of_server server c fits)) fits
happens_fits (Ticks ms) c kept fits =
    each_fits (λ server. linked server (time.ticked ms)) (length c.links) c fits
    (λ server d now. linked_fits server (time.ticked ms (link_of server d)) d (links.ticked_fits ms (link_of server d) (of_server server d now)) now)

happening_fits : (h : Happening) (c : ClientState) → FitsClient c → FitsDid (happening h c)
happening_fits h c fits = record { client = fits; acts = (tt, tt) }

after_fits : (h : Happening) (c : ClientState) → FitsHappening h → FitsClient c → FitsDid (after h c)
unfolding after
after_fits h c kept fits =
    let did : ClientDid = and_then (happens h) (happening h c) in
    fits_if (is_known h c) (and_then settled did) (nothing c)
    (fits_then did settled (fits_then (happening h c) (happens h) (happening_fits h c fits) (happens_fits h c kept))
    (λ now. settled_fits (length did.client.links + 1) (ready_of did.client) did.client now)) (fits_nothing c fits)

pub after_client : (h : Happening) (c : ClientState) → FitsHappening h → FitsClient c → FitsClient (after h c).client
after_client h c kept fits = (after_fits h c kept fits).client

-- ---- wishes

taken_phase : (p : Phase) → FitsPhase p → FitsPhase (link.taken_in p)
taken_phase (phase.Dialing taken) fits = tt
taken_phase other fits = fits

abbrev taken_by : Bool → LinkState → LinkState
taken_by b l = cond b (record l { closes = false }) (record l { phase = link.taken_in l.phase })

link_taken : (b : Bool) (l : LinkState) → FitsLink l → FitsLink (taken_by b l)
link_taken true l fits = record {
  config = fits.config;
  phase = fits.phase;
  url = fits.url;
  session = fits.session;
  conversation = fits.conversation;
  remembered = fits.remembered;
  monitored = fits.monitored;
  monitored_count = fits.monitored_count;
  acks = fits.acks;
}
link_taken false l fits = record {
  config = fits.config;
  phase = taken_phase l.phase fits.phase;
  url = fits.url;
  session = fits.session;
  conversation = fits.conversation;
  remembered = fits.remembered;
  monitored = fits.monitored;
  monitored_count = fits.monitored_count;
  acks = fits.acks;
}

pub wish_fits : (b : Bool) (server : ℕ) (c : ClientState) → FitsClient c → FitsClient (cond b (with_link server (link.wish_taken (link_of server c)) c) c)
wish_fits true server c fits =
    with_link_fits server (link.wish_taken (link_of server c)) c (link_taken (link_of server c).closes (link_of server c) (of_server server c fits)) fits
wish_fits false server c fits = fits

moment_fits : (m : Moment) (c : ClientState) → FitsMoment m → FitsClient c → FitsDid (at_moment m c)
moment_fits (Goes h) c kept fits = after_fits h c kept fits
moment_fits Ends c kept fits = fits_nothing (dialled c) (dialled_fits c fits)
moment_fits (Takes server) c kept fits = fits_nothing (without_wish server c) (wish_fits (is_server server c) server c fits)

all_fit : (moments : List Moment) (c : ClientState) → AllByRecursion FitsMoment moments → FitsClient c → FitsDid (after_all moments c)
unfolding after_all
all_fit [] c kept fits = fits_nothing c fits
all_fit (m ∷ moments) c kept fits =
    fits_then (at_moment m c) (after_all moments) (moment_fits m c kept.0 fits) (all_fit moments (at_moment m c).client kept.1)

pub new_fits : (config : ClientConfig) → FitsConfig config → FitsClient (new_client config)
new_fits config known =
    dialled_fits (idle_client config)
    (record { config = known; links = all_same FitsLink (servers_of config) (new_link (link_config config)) (link_fits config known) })

pub life_acts : (config : ClientConfig) (moments : List Moment) → FitsConfig config → AllByRecursion FitsMoment moments
    → AllByRecursion KeepsAct (after_all moments (new_client config)).acts
life_acts config moments known kept = (all_fit moments (new_client config) kept (new_fits config known)).acts

pub life_client : (config : ClientConfig) (moments : List Moment) → FitsConfig config → AllByRecursion FitsMoment moments
    → FitsClient (after_all moments (new_client config)).client
life_client config moments known kept = (all_fit moments (new_client config) kept (new_fits config known)).client
