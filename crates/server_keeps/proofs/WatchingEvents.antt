-- One connection is watched while time passes, an OPN is answered, and connections come and go.
use Rattle.std.proofs.Common.{◌≡◌, ◌⊎◌, ℕ, zero, suc, ◌+◌, ◌-◌, ◌==◌, ◌^◌, ◌≤◌, List, Bool, true, false, not, cond, Option, Some, None, length, refl, ap, arith}
use Rattle.ua_base.specs.Status.{bad_tcp_message_too_large, bad_decoding_error, bad_security_policy_rejected, bad_sequence_number_invalid, bad_tcp_secure_channel_unknown}
use Rattle.subscription.specs.State.{SubState}
use Rattle.server_rules.specs.declared.conn.Conn.{Conn}
use Rattle.server_rules.specs.State.{ServerState, conn_at, is_conn, sub_at, with_conn, with_sub}
use Rattle.server_rules.specs.Said.{each, nothing}
use Rattle.server_rules.specs.Answering.{deafened, refused_on, takes}
use Rattle.server_rules.specs.Moves.{owner}
use Rattle.server_rules.specs.Requests.{asked}
use Rattle.subscription.specs.declared.cycle.Cycle.{Cycle}
use Rattle.subscription.specs.declared.cycle.Cycle.TheVariants.{Quiet, Notify, KeepAlive, Late, Expired}
use Rattle.subscription.specs.Cycle.{cycled, row_of}
use Rattle.server_rules.specs.Timer.{by_row, cycle, cycle_of, ids_due, is_served, millisecond, moment, sends_for, sessions_expired, ticked}
use Rattle.ua_base.specs.Number.{after_message}
use Rattle.ua_channel.specs.declared.ear.Ear.{Ear}
use Rattle.ua_channel.specs.declared.ear.Ear.TheVariants as ear
use Rattle.ua_channel.specs.declared.heard.Heard.{Heard}
use Rattle.ua_channel.specs.declared.heard.Heard.TheVariants as heard
use Rattle.server_rules.specs.declared.opening.OpeningRequest.{OpeningRequest}
use Rattle.server_rules.specs.declared.opening.SecurityTokenRequestType.{SecurityTokenRequestType}
use Rattle.server_rules.specs.declared.opening.SecurityTokenRequestType.TheVariants as request_type
use Rattle.server_rules.specs.Opening.{asked_at, granted, granted_on, is_unsecured, issued, opened_as, opened_by, opened_for, opening, opening_reply, opening_response, request_type_of, security_mode_of, token_renewed, with_channel, with_next_channel}
use Rattle.server_rules.specs.Connecting.{closed, closed_by, closing, first_ear, hears_on, is_above, new_conn, opened, with_new_conn, without_conn}
use Rattle.ua_structures.specs.Structures.{a_response_header, an_unused_of_response}
use Rattle.ua_session_msgs.specs.Structures.{a_channel_security_token, an_open_secure_channel_response}
use Rattle.ua_session_msgs.specs.declared.channel.OpenSecureChannelResponse.{OpenSecureChannelResponse}
use Rattle.ua_services.specs.Families.{written_reply}
use Rattle.server_keeps.proofs.Lists.{choice}
use Rattle.ua_channel.specs.State.{is_deaf}
use Rattle.server_keeps.proofs.Watching.{Watch, Has, Is, Keeps, appended_has, each_in_turn, expired_sub_keeps, filtered_has, in_turn, quiet, refused_keeps, renewed_has, sends_keeps}
use Rattle.server_keeps.proofs.WatchingServices.{requested_keeps}

-- an OPN's reply stands in one chunk
opening_long : (conn : Conn) (asked : OpeningRequest) (s : ServerState) → length (written_reply (opening_reply (opening_response conn asked s))) ≤ 4096
unfolding an_open_secure_channel_response a_channel_security_token a_response_header an_unused_of_response
opening_long conn asked s = omega arith

module _ (watch : Watch) where
  -- ---- time

  sends_for_keeps : (session : Option ℕ) (id : ℕ) (s : ServerState) → Has watch s → Keeps watch (sends_for session id s)
  sends_for_keeps None id s h = quiet watch s h
  sends_for_keeps (Some session) id s h = sends_keeps watch id session s h

  by_row_keeps : (row : Cycle) (id : ℕ) (s : ServerState) → Has watch s → Keeps watch (by_row row id s)
  by_row_keeps Quiet id s h = quiet watch s h
  by_row_keeps Notify id s h = sends_for_keeps (owner id s) id s h
  by_row_keeps KeepAlive id s h = sends_for_keeps (owner id s) id s h
  by_row_keeps Late id s h = quiet watch s h
  by_row_keeps Expired id s h = expired_sub_keeps watch id s h

  cycle_of_keeps : (sub : Option SubState) (id : ℕ) (s : ServerState) → Has watch s → Keeps watch (cycle_of sub id s)
  cycle_of_keeps None id s h = quiet watch s h
  cycle_of_keeps (Some sub) id s h = by_row_keeps (row_of (is_served id s) sub) id (with_sub id (cycled (is_served id s)) s) h

  cycle_keeps : (id : ℕ) (s : ServerState) → Has watch s → Keeps watch (cycle id s)
  unfolding cycle
  cycle_keeps id s h = cycle_of_keeps (sub_at id s.subs) id s h

  moment_keeps : (s : ServerState) → Has watch s → Keeps watch (moment s)
  unfolding moment
  moment_keeps s h =
      in_turn watch (λ after. nothing (sessions_expired after)) (each cycle (ids_due s) s) (each_in_turn watch cycle cycle_keeps (ids_due s) s h)
      (λ t kept. quiet watch (sessions_expired t) kept)

  millisecond_keeps : (s : ServerState) → Has watch s → Keeps watch (millisecond s)
  unfolding millisecond
  millisecond_keeps s h =
      choice (Keeps watch) (s.age == 2 ^ 64 - 1) (nothing s) (moment (record s { age = s.age + 1 })) (quiet watch s h) (moment_keeps (record s { age = s.age + 1 }) h)

  pub ticked_keeps : (ms : ℕ) (s : ServerState) → Has watch s → Keeps watch (ticked ms s)
  unfolding ticked
  ticked_keeps zero s h = quiet watch s h
  ticked_keeps (suc more) s h = in_turn watch (ticked more) (millisecond s) (millisecond_keeps s h) (ticked_keeps more)

  -- ---- an OPN

  granted_on_keeps : (conn : Conn) (request : ℕ) (response : OpenSecureChannelResponse) (s : ServerState) → Has watch s → Is watch conn
      → takes conn (opening_reply response) ≡ true → length (written_reply (opening_reply response)) ≤ 4096
      → Keeps watch (granted_on conn request response s)
  unfolding granted_on
  granted_on_keeps conn request response s h own test few = record {
    known = renewed_has watch conn own s.conns h;
    said = (watch.opens conn request response own test few, (λ same. watch.renews conn.channel conn.token, tt));
  }

  granted_keeps : (channel token : ℕ) (conn : Conn) (request : ℕ) (asked : OpeningRequest) (s : ServerState) → Has watch s → Is watch conn
      → is_deaf conn.ear ≡ false → Keeps watch (granted channel token conn request asked s)
  unfolding granted
  granted_keeps channel token conn request asked s h own hears =
      by_test (takes (with_channel channel token conn) (opening_reply (opening_response (with_channel channel token conn) asked s))) refl
    where
      by_test : (b : Bool) → takes (with_channel channel token conn) (opening_reply (opening_response (with_channel channel token conn) asked s)) ≡ b
          → Keeps watch (cond b (granted_on (with_channel channel token conn) request (opening_response (with_channel channel token conn) asked s) s)
          (refused_on conn bad_tcp_message_too_large s))
      by_test true test =
          granted_on_keeps (with_channel channel token conn) request (opening_response (with_channel channel token conn) asked s) s h
          (watch.channelled channel token conn hears own) test
          (opening_long (with_channel channel token conn) asked s)
      by_test false test = refused_keeps watch conn bad_tcp_message_too_large s h own

  issued_keeps : (conn : Conn) (request : ℕ) (asked : OpeningRequest) (s : ServerState) → Has watch s → Is watch conn → is_deaf conn.ear ≡ false → Keeps watch (issued conn request asked s)
  unfolding issued
  issued_keeps conn request asked s h own hears = granted_keeps (after_message s.channels_given) 1 conn request asked (with_next_channel s) h own hears

  token_renewed_keeps : (conn : Conn) (request : ℕ) (asked : OpeningRequest) (s : ServerState) → Has watch s → Is watch conn → is_deaf conn.ear ≡ false → Keeps watch (token_renewed conn request asked s)
  unfolding token_renewed
  token_renewed_keeps conn request asked s h own hears = granted_keeps conn.channel (after_message conn.token) conn request asked s h own hears

  unknown_keeps : (conn : Conn) (s : ServerState) → Has watch s → Is watch conn → Keeps watch (refused_on conn bad_tcp_secure_channel_unknown s)
  unknown_keeps conn s h own = refused_keeps watch conn bad_tcp_secure_channel_unknown s h own

  opened_as_keeps : (one : Ear) (named : Option SecurityTokenRequestType) (channel : ℕ) (conn : Conn) (request : ℕ) (asked : OpeningRequest) (s : ServerState)
      → conn.ear ≡ one → Has watch s → Is watch conn → Keeps watch (opened_as one named channel conn request asked s)
  opened_as_keeps ear.Opening (Some request_type.Issue) channel conn request asked s is h own = issued_keeps conn request asked s h own (ap is_deaf is)
  opened_as_keeps ear.Open (Some request_type.Renew) channel conn request asked s is h own =
      choice (Keeps watch) (channel == conn.channel) (token_renewed conn request asked s) (refused_on conn bad_tcp_secure_channel_unknown s)
      (token_renewed_keeps conn request asked s h own (ap is_deaf is)) (unknown_keeps conn s h own)
  opened_as_keeps ear.Opening (Some request_type.Renew) channel conn request asked s is h own = unknown_keeps conn s h own
  opened_as_keeps ear.Opening None channel conn request asked s is h own = unknown_keeps conn s h own
  opened_as_keeps ear.Open (Some request_type.Issue) channel conn request asked s is h own = unknown_keeps conn s h own
  opened_as_keeps ear.Open None channel conn request asked s is h own = unknown_keeps conn s h own
  opened_as_keeps ear.Hello named channel conn request asked s is h own = unknown_keeps conn s h own
  opened_as_keeps ear.Acknowledge named channel conn request asked s is h own = unknown_keeps conn s h own
  opened_as_keeps ear.Deaf named channel conn request asked s is h own = unknown_keeps conn s h own

  opened_for_keeps : (channel : ℕ) (follows : Bool) (conn : Conn) (request : ℕ) (asked : OpeningRequest) (s : ServerState) → Has watch s → Is watch conn
      → Keeps watch (opened_for channel follows conn request asked s)
  unfolding opened_for
  opened_for_keeps channel follows conn request asked s h own =
      choice (Keeps watch) (not follows) (refused_on conn bad_sequence_number_invalid s)
      (cond (not (is_unsecured (security_mode_of asked.security_mode))) (refused_on conn bad_security_policy_rejected s)
      (opened_as conn.ear (request_type_of asked.request_type) channel conn request asked s))
      (refused_keeps watch conn bad_sequence_number_invalid s h own)
      (choice (Keeps watch) (not (is_unsecured (security_mode_of asked.security_mode))) (refused_on conn bad_security_policy_rejected s)
      (opened_as conn.ear (request_type_of asked.request_type) channel conn request asked s) (refused_keeps watch conn bad_security_policy_rejected s h own)
      (opened_as_keeps conn.ear (request_type_of asked.request_type) channel conn request asked s refl h own))

  opened_by_keeps : (asked : Option OpeningRequest) (channel : ℕ) (follows : Bool) (conn : Conn) (request : ℕ) (s : ServerState) → Has watch s → Is watch conn
      → Keeps watch (opened_by asked channel follows conn request s)
  opened_by_keeps None channel follows conn request s h own = refused_keeps watch conn bad_decoding_error s h own
  opened_by_keeps (Some asked) channel follows conn request s h own = opened_for_keeps channel follows conn request asked s h own

  opening_keeps : (channel : ℕ) (follows : Bool) (request : ℕ) (body : List ℕ) (conn : Conn) (s : ServerState) → Has watch s → Is watch conn
      → Keeps watch (opening channel follows request body conn s)
  unfolding opening
  opening_keeps channel follows request body conn s h own = opened_by_keeps (asked_at body) channel follows conn request s h own

  closing_keeps : (conn : Conn) (s : ServerState) → Has watch s → Is watch conn → Keeps watch (closing conn s)
  unfolding closing
  closing_keeps conn s h own = quiet watch (with_conn (deafened conn) s) (renewed_has watch (deafened conn) (watch.deaf conn own) s.conns h)

  -- ---- connections

  closed_by_keeps : (conn : Option Conn) (n : ℕ) (s : ServerState) → Has watch s → Keeps watch (closed_by conn n s)
  closed_by_keeps None n s h = quiet watch s h
  closed_by_keeps (Some conn) n s h = quiet watch (without_conn n s) (filtered_has watch n s.conns h)

  pub closed_keeps : (n : ℕ) (s : ServerState) → Has watch s → Keeps watch (closed n s)
  unfolding closed
  closed_keeps n s h = closed_by_keeps (conn_at n s.conns) n s h

  pub opened_keeps : (n : ℕ) (s : ServerState) → (is_conn watch.number (new_conn n (first_ear s.conns)) ≡ false) ⊎ watch.Good (new_conn n (first_ear s.conns)) → Has watch s
      → Keeps watch (opened n s)
  unfolding opened
  opened_keeps n s which h =
      choice (Keeps watch) (is_above s.highest n) (nothing (with_new_conn n s)) (nothing s)
      (quiet watch (with_new_conn n s) (appended_has watch (new_conn n (first_ear s.conns)) which s.conns h)) (quiet watch s h)

  -- ---- what is heard, but for a HEL

  -- it isn't a greeting
  abbrev pub IsNoHello : Heard → Type 0
  IsNoHello (heard.Greeting body) = ⊥
  IsNoHello (heard.Opening channel follows request body) = Unit {0}
  IsNoHello (heard.Message request body) = Unit {0}
  IsNoHello heard.Close = Unit {0}
  IsNoHello (heard.Fault code) = Unit {0}

  pub hears_on_keeps : (one : Heard) (conn : Conn) (s : ServerState) → Has watch s → Is watch conn → IsNoHello one → Keeps watch (hears_on one conn s)
  hears_on_keeps (heard.Greeting body) conn s h own no_hello = absurd no_hello
  hears_on_keeps (heard.Opening channel follows request body) conn s h own no_hello = opening_keeps channel follows request body conn s h own
  hears_on_keeps (heard.Message request body) conn s h own no_hello = requested_keeps watch conn.number request body s h
  hears_on_keeps heard.Close conn s h own no_hello = closing_keeps conn s h own
  hears_on_keeps (heard.Fault code) conn s h own no_hello = refused_keeps watch conn code s h own
