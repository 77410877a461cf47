-- Each rule's log is what its acts come to, and its acts are of the client's own servers and items.
use Rattle.std.proofs.Common.{◌≡◌, ℕ, zero, suc, ◌+◌, ◌≤◌, ◌-◌, ◌&&◌, List, [], ◌∷◌, ◌++◌, map, length, Bool, true, false, nat_le, Option, Some, None, if◌then◌else◌, refl, sym, ◌∙◌, ap, subst, arith}
use Rattle.std.proofs.lemmas.Bool.Decides.{nat_tests}
use Rattle.std.proofs.lemmas.List.{length-set, length-replicate}
use Rattle.ua_base.specs.declared.modes.Mode.{Mode}
use Rattle.ua_base.specs.declared.modes.Mode.TheVariants.{Disabled, Sampling, Reporting}
use Rattle.ua_base.specs.declared.modes.SetMode.{SetMode}
use Rattle.ua_base.specs.declared.modes.SetMode.TheVariants.{Direct, Hot, Warm, Cold}
use Rattle.delivery_log.specs.State.{LogState}
use Rattle.delivery_log.specs.Caused.{Caused}
use Rattle.delivery_log.specs.Log.{IsWithin, new_log}
use Rattle.delivery_log.specs.History.{Act, AreWithin, IsActWithin, StandsFor, lines_of, log_after, log_of}
use Rattle.delivery_log.specs.WellFed.{AreNotes, IsNoteAct}
use Rattle.delivery_log.proofs.Kept as kept
use Rattle.delivery_log.proofs.Causes.{caused_lines}
use Rattle.failover_core.specs.declared.choice.Candidate.{Candidate}
use Rattle.failover_core.specs.Choice.{switch_of, wanted}
use Rattle.link_rules.specs.declared.notice.Notice.{Notice}
use Rattle.link_rules.specs.declared.notice.Notice.TheVariants as notice
use Rattle.link_rules.specs.Said.{LinkDid, Said}
use Rattle.link_rules.specs.State.{LinkState, is_ready}
use Rattle.link_rules.specs.Opening as opening
use Rattle.link_rules.specs.Time as time
use Rattle.link_rules.specs.Step as link
use Rattle.client_rules.specs.declared.config.ClientConfig.{ClientConfig}
use Rattle.client_rules.specs.State.{ClientState, idle_client, is_server, link_of, servers_of, with_link}
use Rattle.client_rules.specs.Acts.{ClientAct, Happening, Tells, Says, Opens, Refuses, Hears, Closes, Ticks, acted_if, of_item, on_confirmed, on_sent, seen_of_act, seen_of_notice}
use Rattle.client_rules.specs.Doing.{ClientDid, and_then, each_server, nothing}
use Rattle.client_rules.specs.Links.{all_told, fell, falls, linked, linked_by, moved, told}
use Rattle.client_rules.specs.Settling.{are_fewer, chosen, ready_of, round, settled, settled_within, switched, told_mode, with_choice}
use Rattle.client_rules.specs.Dialling.{are_idle, dialled, dialled_by, dials_among, dials_at, dials_if, first_to_dial, has_numbers}
use Rattle.client_rules.specs.Step.{Moment, Goes, Ends, Takes, after, after_all, at_moment, counted, happening, happens, is_known, new_client, opens}
use Rattle.client_rules.specs.History.{history_after, seen_before}
use Rattle.client_laws.specs.Life.{acts_of, client_after, history_of}

-- ---- what a log comes to by acts

abbrev pub logged : SetMode → ℕ → List ClientAct → LogState → LogState
logged set items [] log = log
logged set items (act ∷ acts) log = logged set items acts (acted_if (seen_of_act set items act) log)

logged_append : (set : SetMode) (items : ℕ) (acts more : List ClientAct) (log : LogState)
    → logged set items (acts ++ more) log ≡ logged set items more (logged set items acts log)
logged_append set items [] more log = refl
logged_append set items (act ∷ acts) more log =
    logged_append set items acts more (acted_if (seen_of_act set items act) log)

acted_before : (seen : Option Act) (earlier : List Act) (log : LogState)
    → acted_if seen (log_after earlier log) ≡ log_after (seen_before seen earlier) log
acted_before None earlier log = refl
acted_before (Some act) earlier log = refl

-- it is the log after the history of the acts
pub logged_is : (set : SetMode) (items : ℕ) (acts : List ClientAct) (earlier : List Act) (log : LogState)
    → logged set items acts (log_after earlier log) ≡ log_after (history_after set items acts earlier) log
unfolding history_after
logged_is set items [] earlier log = refl
logged_is set items (act ∷ acts) earlier log =
    ap (logged set items acts) (acted_before (seen_of_act set items act) earlier log)
    ∙ logged_is set items acts (seen_before (seen_of_act set items act) earlier) log

-- ---- acts of servers and items of so many

abbrev pub IsSeenWithin : ℕ → ℕ → Option Act → Type 0
IsSeenWithin servers items None = Unit {0}
IsSeenWithin servers items (Some act) = IsActWithin servers items act × IsNoteAct act

abbrev pub AreSeenWithin : SetMode → ℕ → ℕ → List ClientAct → Type 0
AreSeenWithin set servers items [] = Unit {0}
AreSeenWithin set servers items (act ∷ acts) =
    IsSeenWithin servers items (seen_of_act set items act) × AreSeenWithin set servers items acts

within_append : (set : SetMode) (servers items : ℕ) (acts more : List ClientAct)
    → AreSeenWithin set servers items acts → AreSeenWithin set servers items more
    → AreSeenWithin set servers items (acts ++ more)
within_append set servers items [] more u w = w
within_append set servers items (act ∷ acts) more w v = (w.0, within_append set servers items acts more w.1 v)

before_within : (servers items : ℕ) (seen : Option Act) (earlier : List Act) → IsSeenWithin servers items seen
    → AreWithin servers items earlier → AreWithin servers items (seen_before seen earlier)
before_within servers items None earlier s w = w
before_within servers items (Some act) earlier s w = (s.0, w)

pub history_within : (set : SetMode) (servers items : ℕ) (acts : List ClientAct) (earlier : List Act)
    → AreSeenWithin set servers items acts → AreWithin servers items earlier
    → AreWithin servers items (history_after set items acts earlier)
unfolding history_after
history_within set servers items [] earlier s w = w
history_within set servers items (act ∷ acts) earlier s w =
    history_within set servers items acts (seen_before (seen_of_act set items act) earlier) s.1
    (before_within servers items (seen_of_act set items act) earlier s.0 w)

before_notes : (servers items : ℕ) (seen : Option Act) (earlier : List Act) → IsSeenWithin servers items seen
    → AreNotes earlier → AreNotes (seen_before seen earlier)
before_notes servers items None earlier s w = w
before_notes servers items (Some act) earlier s w = (s.1, w)

pub history_notes : (set : SetMode) (servers items : ℕ) (acts : List ClientAct) (earlier : List Act)
    → AreSeenWithin set servers items acts → AreNotes earlier
    → AreNotes (history_after set items acts earlier)
unfolding history_after
history_notes set servers items [] earlier s w = w
history_notes set servers items (act ∷ acts) earlier s w =
    history_notes set servers items acts (seen_before (seen_of_act set items act) earlier) s.1
    (before_notes servers items (seen_of_act set items act) earlier s.0 w)

-- ---- what each rule keeps

pub record Keeps (c : ClientState) (did : ClientDid) : Type 0 where
  pub config : did.client.config ≡ c.config
  pub links : length did.client.links ≡ length c.links
  pub log : did.client.log ≡ logged c.config.mode c.config.items did.acts c.log
  pub within : AreSeenWithin c.config.mode (length c.links) c.config.items did.acts

keeps_nothing : (c : ClientState) → Keeps c (nothing c)
keeps_nothing c = record { config = refl; links = refl; log = refl; within = tt }

-- one rule after another
pub keeps_then : (c : ClientState) (did : ClientDid) (rule : ClientState → ClientDid)
    → Keeps c did → Keeps did.client (rule did.client) → Keeps c (and_then rule did)
keeps_then c did rule first second =
    let logs : logged did.client.config.mode did.client.config.items (rule did.client).acts did.client.log
    ≡ logged c.config.mode c.config.items (rule did.client).acts did.client.log =
    ap (λ (g : ClientConfig). logged g.mode g.items (rule did.client).acts did.client.log) first.config in
    let withins : AreSeenWithin c.config.mode (length did.client.links) c.config.items (rule did.client).acts =
    subst (λ (g : ClientConfig). AreSeenWithin g.mode (length did.client.links) g.items (rule did.client).acts) first.config second.within in
    record {
      config = second.config ∙ first.config;
      links = second.links ∙ first.links;
      log = second.log ∙ logs ∙ ap (logged c.config.mode c.config.items (rule did.client).acts) first.log
          ∙ sym (logged_append c.config.mode c.config.items did.acts (rule did.client).acts c.log);
      within = within_append c.config.mode (length c.links) c.config.items did.acts (rule did.client).acts first.within
          (subst (λ n. AreSeenWithin c.config.mode n c.config.items (rule did.client).acts) first.links withins);
    }

-- ---- what a link tells

item_test : (servers items server item : ℕ) (act : Act) (p q : Bool) → nat_le 1 item ≡ p → nat_le item items ≡ q
    → (IsWithin servers items server item → IsActWithin servers items act × IsNoteAct act)
    → 1 ≤ server → server ≤ servers → IsSeenWithin servers items (if p && q then Some act else None)
item_test servers items server item act false q e f is from to = tt
item_test servers items server item act true false e f is from to = tt
item_test servers items server item act true true e f is from to =
    is (record { server_from = from; server_to = to; item_from = grind (arith, nat_tests); item_to = grind (arith, nat_tests) })

item_within : (servers items server item : ℕ) (act : Act)
    → (IsWithin servers items server item → IsActWithin servers items act × IsNoteAct act)
    → 1 ≤ server → server ≤ servers → IsSeenWithin servers items (of_item items item act)
item_within servers items server item act is from to =
    item_test servers items server item act _ _ refl refl is from to

sent_within : (set : SetMode) (mode : Mode) (servers items server : ℕ) → 1 ≤ server → server ≤ servers
    → IsSeenWithin servers items (on_sent set mode server)
sent_within Direct mode servers items server from to = tt
sent_within Hot mode servers items server from to = tt
sent_within Cold mode servers items server from to = tt
sent_within Warm Disabled servers items server from to = (record { server_from = from; server_to = to }, tt)
sent_within Warm Sampling servers items server from to = tt
sent_within Warm Reporting servers items server from to = tt

confirmed_within : (set : SetMode) (mode : Mode) (servers items server : ℕ) → 1 ≤ server → server ≤ servers
    → IsSeenWithin servers items (on_confirmed set mode server)
confirmed_within Direct mode servers items server from to = tt
confirmed_within Hot mode servers items server from to = tt
confirmed_within Cold mode servers items server from to = tt
confirmed_within Warm Disabled servers items server from to = tt
confirmed_within Warm Sampling servers items server from to = tt
confirmed_within Warm Reporting servers items server from to = (record { server_from = from; server_to = to }, tt)

notice_within : (set : SetMode) (servers items server : ℕ) (n : Notice) → 1 ≤ server → server ≤ servers
    → IsSeenWithin servers items (seen_of_notice set items server n)
notice_within set servers items server notice.Ready from to = (tt, refl)
notice_within set servers items server notice.Lost from to = (tt, refl)
notice_within set servers items server notice.Unsupported from to = (tt, refl)
notice_within set servers items server (notice.Level level) from to = tt
notice_within set servers items server (notice.Stream item) from to =
    item_within servers items server item _ (λ w. (w, tt)) from to
notice_within set servers items server notice.Jump from to = (record { server_from = from; server_to = to }, tt)
notice_within set servers items server (notice.Taken item value) from to =
    item_within servers items server item _ (λ w. (w, tt)) from to
notice_within set servers items server (notice.Sent mode) from to = sent_within set mode servers items server from to
notice_within set servers items server (notice.Confirmed mode) from to =
    confirmed_within set mode servers items server from to

notices_within : (set : SetMode) (servers items server : ℕ) (notices : List Notice) → 1 ≤ server → server ≤ servers
    → AreSeenWithin set servers items (map (Tells server) notices)
notices_within set servers items server [] from to = tt
notices_within set servers items server (n ∷ notices) from to =
    (notice_within set servers items server n from to, notices_within set servers items server notices from to)

said_within : (set : SetMode) (servers items server : ℕ) (said : List Said)
    → AreSeenWithin set servers items (map (Says server) said)
said_within set servers items server [] = tt
said_within set servers items server (s ∷ said) = (tt, said_within set servers items server said)

said_logs : (set : SetMode) (items server : ℕ) (said : List Said) (log : LogState)
    → logged set items (map (Says server) said) log ≡ log
said_logs set items server [] log = refl
said_logs set items server (s ∷ said) log = said_logs set items server said log

-- one client is another one but for what its log and its levels say
record IsTold (acts : List ClientAct) (c after : ClientState) : Type 0 where
  config : after.config ≡ c.config
  links : after.links ≡ c.links
  log : after.log ≡ logged c.config.mode c.config.items acts c.log

told_is : (server : ℕ) (n : Notice) (c : ClientState) → IsTold (Tells server n ∷ []) c (told server n c)
unfolding told
told_is server notice.Ready c = record { config = refl; links = refl; log = refl }
told_is server notice.Lost c = record { config = refl; links = refl; log = refl }
told_is server notice.Unsupported c = record { config = refl; links = refl; log = refl }
told_is server (notice.Level level) c = record { config = refl; links = refl; log = refl }
told_is server (notice.Stream item) c = record { config = refl; links = refl; log = refl }
told_is server notice.Jump c = record { config = refl; links = refl; log = refl }
told_is server (notice.Taken item value) c = record { config = refl; links = refl; log = refl }
told_is server (notice.Sent mode) c = record { config = refl; links = refl; log = refl }
told_is server (notice.Confirmed mode) c = record { config = refl; links = refl; log = refl }

told_then : (act : ClientAct) (acts : List ClientAct) (c one after : ClientState) → IsTold (act ∷ []) c one
    → IsTold acts one after → IsTold (act ∷ acts) c after
told_then act acts c one after first second = record {
  config = second.config ∙ first.config;
  links = second.links ∙ first.links;
  log = second.log ∙ ap (λ (g : ClientConfig). logged g.mode g.items acts one.log) first.config
      ∙ ap (logged c.config.mode c.config.items acts) first.log;
}

all_told_is : (server : ℕ) (notices : List Notice) (c : ClientState)
    → IsTold (map (Tells server) notices) c (all_told server notices c)
unfolding all_told
all_told_is server [] c = record { config = refl; links = refl; log = refl }
all_told_is server (n ∷ notices) c =
    told_then (Tells server n) (map (Tells server) notices) c (told server n c) (all_told server notices (told server n c))
    (told_is server n c) (all_told_is server notices (told server n c))

-- ---- a link

-- a client whose log stays
record Stays (c after : ClientState) : Type 0 where
  config : after.config ≡ c.config
  links : length after.links ≡ length c.links
  log : after.log ≡ c.log

stays_then : (c one after : ClientState) → Stays c one → Stays one after → Stays c after
stays_then c one after first second = record {
  config = second.config ∙ first.config;
  links = second.links ∙ first.links;
  log = second.log ∙ first.log;
}

fell_stays : (server : ℕ) (b : Bool) (c : ClientState) → Stays c (fell server b c)
fell_stays server true c = record { config = refl; links = refl; log = refl }
fell_stays server false c = record { config = refl; links = refl; log = refl }

link_stays : (server : ℕ) (l : LinkState) (c : ClientState) → Stays c (with_link server l c)
link_stays server l c = record { config = refl; links = length-set c.links (server - 1) l; log = refl }

moved_stays : (server : ℕ) (l : LinkState) (c : ClientState) → Stays c (moved server l c)
moved_stays server l c =
    stays_then c (with_link server l c) (moved server l c) (link_stays server l c)
    (fell_stays server (falls (link_of server c) l) (with_link server l c))

linked_keeps : (server : ℕ) (did : LinkDid) (c : ClientState) → 1 ≤ server → server ≤ length c.links
    → Keeps c (linked_by server did c)
unfolding linked_by
linked_keeps server did c from to =
    let stays = moved_stays server did.link c in
    let told_all = all_told_is server did.notices (moved server did.link c) in record {
      config = told_all.config ∙ stays.config;
      links = ap length told_all.links ∙ stays.links;
      log = told_all.log
          ∙ ap (λ (g : ClientConfig). logged g.mode g.items (map (Tells server) did.notices) (moved server did.link c).log) stays.config
          ∙ ap (logged c.config.mode c.config.items (map (Tells server) did.notices)) stays.log
          ∙ sym (said_logs c.config.mode c.config.items server did.said
          (logged c.config.mode c.config.items (map (Tells server) did.notices) c.log))
          ∙ sym (logged_append c.config.mode c.config.items (map (Tells server) did.notices) (map (Says server) did.said) c.log);
      within = within_append c.config.mode (length c.links) c.config.items (map (Tells server) did.notices) (map (Says server) did.said)
          (notices_within c.config.mode (length c.links) c.config.items server did.notices from to)
          (said_within c.config.mode (length c.links) c.config.items server did.said);
    }

-- ---- all servers

each_keeps : (rule : ℕ → ClientState → ClientDid) (count : ℕ) (c : ClientState) → count ≤ length c.links
    → ((server : ℕ) (d : ClientState) → 1 ≤ server → server ≤ length d.links → Keeps d (rule server d))
    → Keeps c (each_server rule count c)
unfolding each_server
each_keeps rule zero c most keeps = keeps_nothing c
each_keeps rule (suc count) c most keeps =
    let first = each_keeps rule count c (omega arith) keeps in
    let same : length (each_server rule count c).client.links ≡ length c.links = first.links in
    keeps_then c (each_server rule count c) (rule (count + 1)) first
    (keeps (count + 1) (each_server rule count c).client (omega arith) (omega arith))

-- ---- settling

switched_keeps : (switch : Option (ℕ × ℕ)) (c : ClientState) → Keeps c (switched switch c)
switched_keeps None c = keeps_nothing c
switched_keeps (Some both) c = record { config = refl; links = refl; log = refl; within = ((tt, refl), tt) }

chosen_keeps : (ready : List Candidate) (c : ClientState) → Keeps c (chosen ready c)
unfolding chosen
chosen_keeps ready c =
    let k = switched_keeps (switch_of ready c.core) (with_choice ready c) in
    record { config = k.config; links = k.links; log = k.log; within = k.within }

mode_test : (b : Bool) (server : ℕ) (did : ClientDid) (c : ClientState) → Keeps c did → Keeps c (if b then did else nothing c)
mode_test true server did c keeps = keeps
mode_test false server did c keeps = keeps_nothing c

mode_keeps : (server : ℕ) (c : ClientState) → 1 ≤ server → server ≤ length c.links → Keeps c (told_mode server c)
unfolding told_mode
mode_keeps server c from to =
    mode_test (is_ready (link_of server c)) server (linked server (link.wants (wanted server c.core)) c) c
    (linked_keeps server (link.wants (wanted server c.core) (link_of server c)) c from to)

round_keeps : (ready : List Candidate) (c : ClientState) → Keeps c (round ready c)
unfolding round
round_keeps ready c =
    keeps_then c (chosen ready c) (λ d. each_server told_mode (length d.links) d) (chosen_keeps ready c)
    (each_keeps told_mode (length (chosen ready c).client.links) (chosen ready c).client (omega arith) mode_keeps)

settled_test : (b : Bool) (c : ClientState) (did : ClientDid) (rule : ClientState → ClientDid) → Keeps c did
    → Keeps did.client (rule did.client) → Keeps c (if b then and_then rule did else did)
settled_test true c did rule first second = keeps_then c did rule first second
settled_test false c did rule first second = first

settled_keeps : (most : ℕ) (ready : List Candidate) (c : ClientState) → Keeps c (settled_within most ready c)
unfolding settled_within
settled_keeps zero ready c = keeps_nothing c
settled_keeps (suc most) ready c =
    settled_test (are_fewer (ready_of (round ready c).client) ready) c (round ready c)
    (settled_within most (ready_of (round ready c).client)) (round_keeps ready c)
    (settled_keeps most (ready_of (round ready c).client) (round ready c).client)

-- ---- dialling

dials_test : (b : Bool) (server : ℕ) (l : LinkState) (c : ClientState) → Stays c (if b then with_link server l c else c)
dials_test true server l c = link_stays server l c
dials_test false server l c = record { config = refl; links = refl; log = refl }

dials_at_stays : (server : ℕ) (c : ClientState) → Stays c (dials_at server c)
dials_at_stays server c = dials_test _ server (opening.dials (link_of server c)) c

among_stays : (count : ℕ) (c : ClientState) → Stays c (dials_among count c)
unfolding dials_among
among_stays zero c = record { config = refl; links = refl; log = refl }
among_stays (suc count) c =
    stays_then c (dials_among count c) (dials_at (count + 1) (dials_among count c)) (among_stays count c)
    (dials_at_stays (count + 1) (dials_among count c))

if_stays : (o : Option ℕ) (c : ClientState) → Stays c (dials_if o c)
if_stays None c = record { config = refl; links = refl; log = refl }
if_stays (Some server) c = dials_at_stays server c

one_test : (b : Bool) (c after : ClientState) → Stays c after → Stays c (if b then after else c)
one_test true c after stays = stays
one_test false c after stays = record { config = refl; links = refl; log = refl }

dialled_by_stays : (set : SetMode) (c : ClientState) → Stays c (dialled_by set c)
dialled_by_stays Direct c = record { config = refl; links = refl; log = refl }
dialled_by_stays Hot c = among_stays (length c.links) c
dialled_by_stays Warm c = among_stays (length c.links) c
dialled_by_stays Cold c =
    one_test (are_idle (length c.links) c) c (dials_if (first_to_dial (length c.links) c.cursor c) c)
    (if_stays (first_to_dial (length c.links) c.cursor c) c)

numbers_stay : (b : Bool) (c next : ClientState) → Stays c next → Stays c (if b then next else c)
numbers_stay true c next stays = stays
numbers_stay false c next stays = record { config = refl; links = refl; log = refl }

dialled_stays : (c : ClientState) → Stays c (dialled c)
unfolding dialled
dialled_stays c =
    numbers_stay (has_numbers c) c (dialled_by c.config.mode c) (dialled_by_stays c.config.mode c)

-- ---- events

server_test : (server count : ℕ) (p q : Bool) → nat_le 1 server ≡ p → nat_le server count ≡ q → (p && q) ≡ true
    → (1 ≤ server) × (server ≤ count)
server_test server count true true e f h = (grind (arith, nat_tests), grind (arith, nat_tests))
server_test server count true false e f h = absurd cc
server_test server count false q e f h = absurd cc

server_is : (server : ℕ) (c : ClientState) → is_server server c ≡ true → (1 ≤ server) × (server ≤ length c.links)
server_is server c h = server_test server (length c.links) _ _ refl refl h

happening_keeps : (h : Happening) (c : ClientState) → Keeps c (happening h c)
happening_keeps h c = record { config = refl; links = refl; log = refl; within = (tt, tt) }

of_counted : (c : ClientState) (did : ClientDid) → Keeps (counted c) did → Keeps c did
of_counted c did k = record { config = k.config; links = k.links; log = k.log; within = k.within }

happens_keeps : (h : Happening) (c : ClientState) → is_known h c ≡ true → Keeps c (happens h c)
happens_keeps (Opens server) c known =
    let is = server_is server c known in
    of_counted c (opens server c) (linked_keeps server _ (counted c) is.0 is.1)
happens_keeps (Refuses server) c known = let is = server_is server c known in linked_keeps server _ c is.0 is.1
happens_keeps (Hears server h) c known = let is = server_is server c known in linked_keeps server _ c is.0 is.1
happens_keeps (Closes server) c known = let is = server_is server c known in linked_keeps server _ c is.0 is.1
happens_keeps (Ticks ms) c known =
    each_keeps (λ server. linked server (time.ticked ms)) (length c.links) c (omega arith)
    (λ server d from to. linked_keeps server (time.ticked ms (link_of server d)) d from to)

after_test : (b : Bool) (h : Happening) (c : ClientState) → is_known h c ≡ b
    → Keeps c (if b then and_then settled (and_then (happens h) (happening h c)) else nothing c)
after_test false h c e = keeps_nothing c
after_test true h c e =
    let first = keeps_then c (happening h c) (happens h) (happening_keeps h c) (happens_keeps h c e) in
    let did : ClientDid = and_then (happens h) (happening h c) in
    keeps_then c did settled first
    (settled_keeps (length did.client.links + 1) (ready_of did.client) did.client)

after_keeps : (h : Happening) (c : ClientState) → Keeps c (after h c)
unfolding after
after_keeps h c = after_test (is_known h c) h c refl

moment_keeps : (m : Moment) (c : ClientState) → Keeps c (at_moment m c)
moment_keeps (Goes h) c = after_keeps h c
moment_keeps Ends c =
    let stays = dialled_stays c in
    record { config = stays.config; links = stays.links; log = stays.log; within = tt }
moment_keeps (Takes server) c =
    let stays = dials_test (is_server server c) server (link.wish_taken (link_of server c)) c in
    record { config = stays.config; links = stays.links; log = stays.log; within = tt }

all_keep : (moments : List Moment) (c : ClientState) → Keeps c (after_all moments c)
unfolding after_all
all_keep [] c = keeps_nothing c
all_keep (m ∷ moments) c =
    keeps_then c (at_moment m c) (after_all moments) (moment_keeps m c) (all_keep moments (at_moment m c).client)

-- ---- a life

start_log : (config : ClientConfig) → (new_client config).log ≡ log_of (servers_of config) config.items []
start_log config = (dialled_stays (idle_client config)).log

start_config : (config : ClientConfig) → (new_client config).config ≡ config
start_config config = (dialled_stays (idle_client config)).config

start_links : (config : ClientConfig) → length (new_client config).links ≡ servers_of config
start_links config = (dialled_stays (idle_client config)).links ∙ length-replicate (servers_of config) _

life_log : (config : ClientConfig) (moments : List Moment)
    → (client_after config moments).log ≡ logged config.mode config.items (acts_of config moments) (new_client config).log
life_log config moments =
    (all_keep moments (new_client config)).log
    ∙ ap (λ (g : ClientConfig). logged g.mode g.items (acts_of config moments) (new_client config).log) (start_config config)

-- the log of a life is that of its history
pub log_is : (config : ClientConfig) (moments : List Moment)
    → (client_after config moments).log ≡ log_of (servers_of config) config.items (history_of config moments)
log_is config moments =
    life_log config moments
    ∙ ap (logged config.mode config.items (acts_of config moments)) (start_log config)
    ∙ logged_is config.mode config.items (acts_of config moments) [] (new_log (servers_of config) config.items)

life_within : (config : ClientConfig) (moments : List Moment)
    → AreSeenWithin config.mode (servers_of config) config.items (acts_of config moments)
life_within config moments =
    let within = (all_keep moments (new_client config)).within in
    let counted : AreSeenWithin (new_client config).config.mode (servers_of config) (new_client config).config.items (acts_of config moments) =
    subst (λ n. AreSeenWithin (new_client config).config.mode n (new_client config).config.items (acts_of config moments)) (start_links config) within in
    subst (λ (g : ClientConfig). AreSeenWithin g.mode (servers_of config) g.items (acts_of config moments)) (start_config config) counted

pub acts_within : (config : ClientConfig) (moments : List Moment)
    → AreWithin (servers_of config) config.items (history_of config moments)
acts_within config moments =
    history_within config.mode (servers_of config) config.items (acts_of config moments) [] (life_within config moments) tt

pub acts_note : (config : ClientConfig) (moments : List Moment) → AreNotes (history_of config moments)
acts_note config moments =
    history_notes config.mode (servers_of config) config.items (acts_of config moments) [] (life_within config moments) tt

pub log_stands : (config : ClientConfig) (moments : List Moment)
    → StandsFor (servers_of config) config.items (history_of config moments) (client_after config moments).log
log_stands config moments =
    subst (StandsFor (servers_of config) config.items (history_of config moments)) (sym (log_is config moments))
    (kept.log_stands (servers_of config) config.items (history_of config moments) (acts_within config moments))

-- its lines are those of its history
pub lines_are : (config : ClientConfig) (moments : List Moment)
    → (client_after config moments).log.lines ≡ lines_of (history_of config moments)
lines_are config moments = (log_stands config moments).lines

pub causes : (config : ClientConfig) (moments : List Moment)
    → Caused (history_of config moments) (client_after config moments).log.lines
causes config moments =
    subst (Caused (history_of config moments)) (sym (lines_are config moments))
    (caused_lines (history_of config moments) (acts_note config moments))
