-- A link that wishes that its connection be closed does so until this is taken, or a connection is opened, refused or closed.
use Rattle.std.proofs.Common.{◌≡◌, ◌≢◌, ℕ, zero, suc, ◌+◌, ◌-◌, ◌≤◌, ◌||◌, nat_le, Bool, true, false, cond, List, [], ◌∷◌, length, pos, Option, Some, None, slice_index_or, refl, sym, ap, subst, ◌∙◌, arith}
use Rattle.ua_base.specs.declared.modes.Mode.{Mode}
use Rattle.ua_channel.specs.declared.ear.Ear.TheVariants as ear
use Rattle.ua_channel.specs.declared.heard.Heard.{Heard}
use Rattle.ua_channel.specs.State.{is_deaf}
use Rattle.ua_services.specs.declared.request.Request.{Request}
use Rattle.ua_services.specs.Families.{written_request}
use Rattle.failover_core.specs.declared.choice.Candidate.{Candidate}
use Rattle.failover_core.specs.Choice.{switch_of, wanted}
use Rattle.link_rules.specs.declared.notice.Notice.{Notice}
use Rattle.link_rules.specs.declared.notice.Notice.TheVariants as notice
use Rattle.link_rules.specs.declared.phase.ReadyState.{ReadyState}
use Rattle.link_rules.specs.declared.remembered.Remembered.{Remembered}
use Rattle.link_rules.specs.declared.phase.Phase.TheVariants as phase
use Rattle.link_rules.specs.Asking.{asked, asked_opening, next_request, numbered}
use Rattle.link_rules.specs.Closing.{broken, stands_in}
use Rattle.link_rules.specs.Opening as opening
use Rattle.link_rules.specs.Publishing.{mode_due, sets, sets_if, sets_in, sets_mode, tells_sent, with_setting}
use Rattle.link_rules.specs.Requests as requests
use Rattle.link_rules.specs.Said.{Asks, LinkDid, Opens, and_then, nothing, tells}
use Rattle.link_rules.specs.State.{LinkState, is_ready, new_link, ready_in, with_phase, with_ready}
use Rattle.link_rules.specs.Step as link
use Rattle.link_rules.specs.Time.{aged, is_level_due, is_overdue, is_renewal_due, keeps_up, reads_level, renews_token, ticked, with_reading, with_renewal}
use Rattle.client_rules.specs.State.{ClientState, link_config, link_of, with_link}
use Rattle.client_rules.specs.Acts as acts
use Rattle.client_rules.specs.Doing.{ClientDid, each_server}
use Rattle.client_rules.specs.Doing as doing
use Rattle.client_rules.specs.Links.{all_told, fell, falls, linked, linked_by, moved, told}
use Rattle.client_rules.specs.Settling.{are_fewer, chosen, ready_of, round, settled, settled_within, switched, told_mode, with_choice}
use Rattle.client_rules.specs.Dialling.{dialled}
use Rattle.client_rules.specs.Step.{after, counted, endpoint, happening, happens, is_known}
use Rattle.client_orders.specs.Holding.{IsBeside}
use Rattle.client_orders.proofs.Clients.{dialled_keeps, first_within}
use Rattle.client_messages.proofs.Dialling.{at_set}

-- ---- a link

abbrev pub Closes : LinkState → Type 0
Closes l = l.closes ≡ true

abbrev StillCloses : LinkDid → Type 0
StillCloses did = Closes did.link

still_if : (b : Bool) (one other : LinkDid) → StillCloses one → StillCloses other → StillCloses (cond b one other)
still_if true one other first second = first
still_if false one other first second = second

broken_still : (l : LinkState) → Closes l → StillCloses (broken l)
unfolding broken
broken_still l closes = ap (λ b. b || stands_in l.phase) closes

asked_still : (request : Request) (l : LinkState) → Closes l → StillCloses (asked request l)
unfolding asked
asked_still request l closes =
    still_if (nat_le (length (written_request request)) l.conversation.limit)
    (numbered (Asks (next_request l) request) l) (broken l) closes (broken_still l closes)

opening_still : (request : Request) (l : LinkState) → Closes l → StillCloses (asked_opening request l)
unfolding asked_opening
opening_still request l closes =
    still_if _ (numbered (Opens (next_request l) request) l) (broken l) closes (broken_still l closes)

level_still : (l : LinkState) → Closes l → StillCloses (reads_level l)
unfolding reads_level
level_still l closes =
    still_if (is_level_due l.conversation.reading l) (asked (requests.level_request l) (with_reading l)) (nothing l)
    (asked_still (requests.level_request l) (with_reading l) closes) closes

renews_still : (l : LinkState) → Closes l → StillCloses (renews_token l)
unfolding renews_token
renews_still l closes =
    still_if (is_ready l)
    (cond (is_renewal_due l.conversation.renewal l) (asked_opening (requests.channel_request (pos 1) l) (with_renewal l)) (nothing l)) (nothing l)
    (still_if (is_renewal_due l.conversation.renewal l) (asked_opening (requests.channel_request (pos 1) l) (with_renewal l)) (nothing l)
    (opening_still (requests.channel_request (pos 1) l) (with_renewal l) closes) closes) closes

keeps_still : (l : LinkState) → Closes l → StillCloses (keeps_up l)
unfolding keeps_up
keeps_still l closes =
    still_if (is_ready l) (and_then renews_token (reads_level l)) (nothing l) (renews_still (reads_level l).link (level_still l closes)) closes

ticked_still : (ms : ℕ) (l : LinkState) → Closes l → StillCloses (ticked ms l)
unfolding ticked
ticked_still ms l closes =
    still_if (is_overdue (aged ms l)) (broken (aged ms l)) (keeps_up (aged ms l)) (broken_still (aged ms l) closes) (keeps_still (aged ms l) closes)

sent_still : (mode : Mode) (l : LinkState) → Closes l → StillCloses (tells_sent mode l)
unfolding tells_sent
sent_still mode l closes = still_if (is_ready l) (tells (notice.Sent mode ∷ []) l) (nothing l) closes closes

sets_still : (mode : Mode) (ready : ReadyState) (remembered : Remembered) (l : LinkState) → Closes l → StillCloses (sets mode ready remembered l)
unfolding sets
sets_still mode ready remembered l closes =
    sent_still mode (asked (requests.mode_request remembered.id mode l) (with_setting mode ready l)).link
    (asked_still (requests.mode_request remembered.id mode l) (with_setting mode ready l) closes)

sets_if_still : (due : Option Mode) (ready : ReadyState) (remembered : Option Remembered) (l : LinkState) → Closes l → StillCloses (sets_if due ready remembered l)
sets_if_still (Some mode) ready (Some remembered) l closes = sets_still mode ready remembered l closes
sets_if_still (Some mode) ready None l closes = closes
sets_if_still None ready remembered l closes = closes

sets_in_still : (ready : Option ReadyState) (l : LinkState) → Closes l → StillCloses (sets_in ready l)
sets_in_still (Some ready) l closes = sets_if_still (mode_due ready) ready l.remembered l closes
sets_in_still None l closes = closes

mode_still : (l : LinkState) → Closes l → StillCloses (sets_mode l)
unfolding sets_mode
mode_still l closes = sets_in_still (ready_in l.phase) l closes

wants_in_still : (ready : Option ReadyState) (mode : Mode) (l : LinkState) → Closes l → StillCloses (link.wants_in ready mode l)
wants_in_still (Some ready) mode l closes = mode_still (with_ready (record ready { wanted = Some mode }) l) closes
wants_in_still None mode l closes = closes

wants_still : (mode : Mode) (l : LinkState) → Closes l → StillCloses (link.wants mode l)
unfolding link.wants
wants_still mode l closes = wants_in_still (ready_in l.phase) mode l closes

-- it is deaf
pub closes_deaf : (l : LinkState) → Closes l → is_deaf (link.ear_of l) ≡ true
closes_deaf l closes = ap (λ b. is_deaf (cond b ear.Deaf (link.ear_in l.phase))) closes

deaf_still : (b : Bool) (h : Heard) (l : LinkState) → b ≡ true → Closes l → StillCloses (cond b (nothing l) (link.hears h l))
deaf_still true h l is closes = closes
deaf_still false h l is closes = absurd cc

heard_still : (h : Heard) (l : LinkState) → Closes l → StillCloses (link.heard h l)
unfolding link.heard
heard_still h l closes = deaf_still (is_deaf (link.ear_of l)) h l (closes_deaf l closes) closes

dials_by : (b : Bool) (l : LinkState) → Closes l → Closes (cond b (with_phase (phase.Dialing false) l) l)
dials_by true l closes = closes
dials_by false l closes = closes

dials_still : (l : LinkState) → Closes l → Closes (opening.dials l)
dials_still l closes = dials_by (opening.may_dial l) l closes

-- ---- the links of a client

-- the same links
record IsAlike (c d : ClientState) : Type 0 where
  config : d.config ≡ c.config
  links : d.links ≡ c.links

alike_then : (c d e : ClientState) → IsAlike c d → IsAlike d e → IsAlike c e
alike_then c d e first second = record { config = second.config ∙ first.config; links = second.links ∙ first.links }

told_alike : (server : ℕ) (n : Notice) (c : ClientState) → IsAlike c (told server n c)
unfolding told
told_alike server (notice.Level level) c = record { config = refl; links = refl }
told_alike server notice.Ready c = record { config = refl; links = refl }
told_alike server notice.Lost c = record { config = refl; links = refl }
told_alike server notice.Unsupported c = record { config = refl; links = refl }
told_alike server (notice.Stream item) c = record { config = refl; links = refl }
told_alike server notice.Jump c = record { config = refl; links = refl }
told_alike server (notice.Taken item value) c = record { config = refl; links = refl }
told_alike server (notice.Sent mode) c = record { config = refl; links = refl }
told_alike server (notice.Confirmed mode) c = record { config = refl; links = refl }

all_told_alike : (server : ℕ) (notices : List Notice) (c : ClientState) → IsAlike c (all_told server notices c)
unfolding all_told
all_told_alike server [] c = record { config = refl; links = refl }
all_told_alike server (n ∷ notices) c =
    alike_then c (told server n c) (all_told server notices (told server n c)) (told_alike server n c) (all_told_alike server notices (told server n c))

fell_alike : (server : ℕ) (b : Bool) (c : ClientState) → IsAlike c (fell server b c)
fell_alike server true c = record { config = refl; links = refl }
fell_alike server false c = record { config = refl; links = refl }

linked_alike : (server : ℕ) (did : LinkDid) (c : ClientState) → IsAlike (with_link server did.link c) (linked_by server did c).client
unfolding linked_by
linked_alike server did c =
    alike_then (with_link server did.link c) (moved server did.link c) (all_told server did.notices (moved server did.link c))
    (fell_alike server (falls (link_of server c) did.link) (with_link server did.link c))
    (all_told_alike server did.notices (moved server did.link c))

switched_alike : (o : Option (ℕ × ℕ)) (ready : List Candidate) (c : ClientState) → IsAlike c (switched o (with_choice ready c)).client
switched_alike None ready c = record { config = refl; links = refl }
switched_alike (Some both) ready c = record { config = refl; links = refl }

module _ (number : ℕ) where
  abbrev LinkCloses : ClientState → Type 0
  LinkCloses c = Closes (link_of number c)

  alike_closes : (c d : ClientState) → IsAlike c d → LinkCloses c → LinkCloses d
  alike_closes c d same closes =
      subst (λ k. Closes (slice_index_or d.links (number - 1) (new_link (link_config k)))) (sym same.config)
      (subst (λ links. Closes (slice_index_or links (number - 1) (new_link (link_config c.config)))) (sym same.links) closes)

  -- a rule of a link: this one keeps its wish, or another one moves
  linked_closes : (server : ℕ) (rule : LinkState → LinkDid) (c : ClientState) → (server - 1 ≡ number - 1 → (l : LinkState) → Closes l → StillCloses (rule l)) → LinkCloses c
      → LinkCloses (linked server rule c).client
  linked_closes server rule c own closes =
      let blank = new_link (link_config c.config) in
      alike_closes (with_link server (rule (link_of server c)).link c) (linked server rule c).client (linked_alike server (rule (link_of server c)) c)
      (at_set Closes c.links (server - 1) (number - 1) (rule (link_of server c)).link blank
      (λ same. own same (link_of server c) (subst (λ k. Closes (slice_index_or c.links k blank)) (sym same) closes)) closes)

  each_closes : (rule : ℕ → ClientState → ClientDid) → ((server : ℕ) (c : ClientState) → LinkCloses c → LinkCloses (rule server c).client)
      → (count : ℕ) (c : ClientState) → LinkCloses c → LinkCloses (each_server rule count c).client
  unfolding each_server
  each_closes rule step zero c closes = closes
  each_closes rule step (suc count) c closes = step (count + 1) (each_server rule count c).client (each_closes rule step count c closes)

  client_if : (b : Bool) (one other : ClientDid) → LinkCloses one.client → LinkCloses other.client → LinkCloses (cond b one other).client
  client_if true one other first second = first
  client_if false one other first second = second

  mode_closes : (server : ℕ) (c : ClientState) → LinkCloses c → LinkCloses (told_mode server c).client
  unfolding told_mode
  mode_closes server c closes =
      client_if (is_ready (link_of server c)) (linked server (link.wants (wanted server c.core)) c) (doing.nothing c)
      (linked_closes server (link.wants (wanted server c.core)) c (λ same. wants_still (wanted server c.core)) closes) closes

  chosen_closes : (ready : List Candidate) (c : ClientState) → LinkCloses c → LinkCloses (chosen ready c).client
  unfolding chosen
  chosen_closes ready c closes = alike_closes c (switched (switch_of ready c.core) (with_choice ready c)).client (switched_alike (switch_of ready c.core) ready c) closes

  round_closes : (ready : List Candidate) (c : ClientState) → LinkCloses c → LinkCloses (round ready c).client
  unfolding round
  round_closes ready c closes =
      each_closes told_mode mode_closes (length (chosen ready c).client.links) (chosen ready c).client (chosen_closes ready c closes)

  within_closes : (most : ℕ) (ready : List Candidate) (c : ClientState) → LinkCloses c → LinkCloses (settled_within most ready c).client
  unfolding settled_within
  within_closes zero ready c closes = closes
  within_closes (suc most) ready c closes =
      let once = round_closes ready c closes in
      client_if (are_fewer (ready_of (round ready c).client) ready)
      (doing.and_then (settled_within most (ready_of (round ready c).client)) (round ready c)) (round ready c)
      (within_closes most (ready_of (round ready c).client) (round ready c).client once) once

  settled_closes : (c : ClientState) → LinkCloses c → LinkCloses (settled c).client
  settled_closes c closes = within_closes (length c.links + 1) (ready_of c) c closes

  apart : (server : ℕ) → 1 ≤ server → 1 ≤ number → server ≢ number → server - 1 ≡ number - 1 → ⊥
  apart server first own differ same = absurd (differ (equal server first own same))
    where
      equal : (server : ℕ) → 1 ≤ server → 1 ≤ number → server - 1 ≡ number - 1 → server ≡ number
      equal server first own same = omega (arith, first, own, same)

  happens_closes : (h : acts.Happening) (c : ClientState) → 1 ≤ number → is_known h c ≡ true → IsBeside number h → LinkCloses c → LinkCloses (happens h c).client
  happens_closes (acts.Opens server) c own known beside closes =
      linked_closes server (opening.opened (Some (endpoint server (counted c)))) (counted c)
      (λ same. absurd (apart server (first_within server (length c.links) known) own beside same)) closes
  happens_closes (acts.Refuses server) c own known beside closes =
      linked_closes server opening.refused c (λ same. absurd (apart server (first_within server (length c.links) known) own beside same)) closes
  happens_closes (acts.Hears server h) c own known beside closes = linked_closes server (link.heard h) c (λ same. heard_still h) closes
  happens_closes (acts.Closes server) c own known beside closes =
      linked_closes server opening.closed c (λ same. absurd (apart server (first_within server (length c.links) known) own beside same)) closes
  happens_closes (acts.Ticks ms) c own known beside closes =
      each_closes (λ server. linked server (ticked ms)) (λ server d. linked_closes server (ticked ms) d (λ same. ticked_still ms)) (length c.links) c closes

  after_if : (b : Bool) (h : acts.Happening) (c : ClientState) → is_known h c ≡ b → 1 ≤ number → IsBeside number h → LinkCloses c
      → LinkCloses (cond b (doing.and_then settled (doing.and_then (happens h) (happening h c))) (doing.nothing c)).client
  after_if true h c known own beside closes = settled_closes (happens h c).client (happens_closes h c own known beside closes)
  after_if false h c known own beside closes = closes

  pub after_closes : (h : acts.Happening) (c : ClientState) → 1 ≤ number → IsBeside number h → LinkCloses c → LinkCloses (after h c).client
  unfolding after
  after_closes h c own beside closes = after_if (is_known h c) h c refl own beside closes

  pub dialled_closes : (c : ClientState) → LinkCloses c → LinkCloses (dialled c)
  dialled_closes c closes = dialled_keeps Closes dials_still number c closes
