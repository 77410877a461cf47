-- One message is put where one is answered.
use Rattle.std.proofs.Common.{◌≡◌, ℕ, List, Bool, true, false, cond, not, Option, Some, None, refl, subst}
use Rattle.std.specs.Prelude.{Result, Ok, Err}
use Rattle.ua_base.specs.Number.{after_message}
use Rattle.ua_base.specs.Status.{bad_decoding_error, bad_response_too_large, bad_security_policy_rejected, bad_sequence_number_invalid, bad_tcp_message_too_large, bad_tcp_secure_channel_unknown}
use Rattle.ua_values.specs.Reading.{Fault, input}
use Rattle.ua_chunks.specs.Bodies.{hello_at, value_of, whole_at}
use Rattle.ua_chunks.specs.declared.greeting.Greeting.{Greeting}
use Rattle.ua_channel.specs.declared.ear.Ear.{Ear}
use Rattle.ua_channel.specs.declared.ear.Ear.TheVariants as ear
use Rattle.ua_channel.specs.declared.heard.Heard.{Heard}
use Rattle.ua_channel.specs.declared.heard.Heard.TheVariants as heard_as
use Rattle.ua_channel.specs.State.{is_deaf}
use Rattle.ua_session_msgs.specs.declared.channel.OpenSecureChannelResponse.{OpenSecureChannelResponse}
use Rattle.ua_services.specs.declared.reply.Reply.{Reply}
use Rattle.server_rules.specs.declared.conn.Asker.{Asker}
use Rattle.server_rules.specs.declared.conn.Conn.{Conn}
use Rattle.server_rules.specs.declared.opening.OpeningRequest.{OpeningRequest}
use Rattle.server_rules.specs.declared.opening.SecurityTokenRequestType.{SecurityTokenRequestType}
use Rattle.server_rules.specs.declared.opening.SecurityTokenRequestType.TheVariants as request_type
use Rattle.server_rules.specs.State.{ServerState, conn_at}
use Rattle.server_rules.specs.Said.{Acknowledged, Did, Opened, Refused, Replied, nothing}
use Rattle.server_rules.specs.Answering.{fault_reply, refused_on, replied, replied_on, replied_to, replied_within, said_on, takes}
use Rattle.server_rules.specs.Opening.{asked_at, granted, granted_on, is_unsecured, issued, opened_as, opened_by, opened_for, opening, opening_reply, opening_response, security_mode_of, token_renewed, with_channel, with_next_channel}
use Rattle.server_rules.specs.Connecting.{acknowledged, acknowledgement, greeted_by, greeting, hears, hears_by, hears_on, is_small}
use Rattle.server_rules.specs.Step.{Hears, after, ear_of, ears, heard}
use Rattle.server_laws.specs.Lockstep.{IsOnePut, IsOpening}
use Rattle.server_laws.proofs.Silent.{found_conn}

either_one : (n : ℕ) (b : Bool) (first other : Did) → IsOnePut n first → IsOnePut n other → IsOnePut n (cond b first other)
either_one n true first other h rest = h
either_one n false first other h rest = rest

refused_one : (conn : Conn) (code : ℕ) (s : ServerState) → IsOnePut conn.number (refused_on conn code s)
unfolding refused_on
refused_one conn code s = record { one = said_on conn (Refused code); put = refl; on = refl }

-- ---- an answer

within_one : (conn : Conn) (number : ℕ) (answer : Reply) (s : ServerState) → IsOnePut conn.number (replied_within conn number answer s)
unfolding replied_within
within_one conn number answer s = record { one = said_on conn (Replied number answer); put = refl; on = refl }

on_one : (conn : Conn) (number handle : ℕ) (answer : Reply) (s : ServerState) → IsOnePut conn.number (replied_on conn number handle answer s)
unfolding replied_on
on_one conn number handle answer s =
    let fault : Reply = fault_reply handle bad_response_too_large s in
    either_one conn.number (takes conn answer) _ _ (within_one conn number answer s)
    (either_one conn.number (takes conn fault) _ _ (within_one conn number fault s) (refused_one conn bad_tcp_message_too_large s))

to_one : (found : Option Conn) (number handle : ℕ) (answer : Reply) (s : ServerState) (c : Conn) → found ≡ Some c
    → IsOnePut c.number (replied_to found number handle answer s)
to_one None number handle answer s c is = absurd cc
to_one (Some conn) number handle answer s c is =
    let same : conn ≡ c = cc in
    subst (λ (d : Conn). IsOnePut d.number (replied_on conn number handle answer s)) same (on_one conn number handle answer s)

pub replied_one : (asker : Asker) (answer : Reply) (s : ServerState) (c : Conn) → conn_at asker.conn s.conns ≡ Some c → IsOnePut asker.conn (replied asker answer s)
unfolding replied
replied_one asker answer s c is =
    subst (λ n. IsOnePut n (replied_to (conn_at asker.conn s.conns) asker.request asker.handle answer s)) (found_conn asker.conn s.conns c is)
    (to_one (conn_at asker.conn s.conns) asker.request asker.handle answer s c is)

-- ---- an OPN

granted_on_one : (conn : Conn) (number : ℕ) (response : OpenSecureChannelResponse) (s : ServerState) → IsOnePut conn.number (granted_on conn number response s)
unfolding granted_on
granted_on_one conn number response s = record { one = said_on conn (Opened number response); put = refl; on = refl }

granted_one : (channel token : ℕ) (conn : Conn) (number : ℕ) (a : OpeningRequest) (s : ServerState) → IsOnePut conn.number (granted channel token conn number a s)
unfolding granted
granted_one channel token conn number a s =
    either_one conn.number (takes conn (opening_reply (opening_response (with_channel channel token conn) a s))) _ _
    (granted_on_one (with_channel channel token conn) number (opening_response (with_channel channel token conn) a s) s)
    (refused_one conn bad_tcp_message_too_large s)

issued_one : (conn : Conn) (number : ℕ) (a : OpeningRequest) (s : ServerState) → IsOnePut conn.number (issued conn number a s)
unfolding issued
issued_one conn number a s = granted_one (after_message s.channels_given) 1 conn number a (with_next_channel s)

renewed_one : (conn : Conn) (number : ℕ) (a : OpeningRequest) (s : ServerState) → IsOnePut conn.number (token_renewed conn number a s)
unfolding token_renewed
renewed_one conn number a s = granted_one conn.channel (after_message conn.token) conn number a s

opened_as_one : (e : Ear) (t : Option SecurityTokenRequestType) (channel : ℕ) (conn : Conn) (number : ℕ) (a : OpeningRequest) (s : ServerState)
    → IsOnePut conn.number (opened_as e t channel conn number a s)
opened_as_one ear.Opening (Some request_type.Issue) channel conn number a s = issued_one conn number a s
opened_as_one ear.Open (Some request_type.Renew) channel conn number a s =
    either_one conn.number _ _ _ (renewed_one conn number a s) (refused_one conn bad_tcp_secure_channel_unknown s)
opened_as_one _ _ channel conn number a s = refused_one conn bad_tcp_secure_channel_unknown s

opened_for_one : (channel : ℕ) (follows : Bool) (conn : Conn) (number : ℕ) (a : OpeningRequest) (s : ServerState)
    → IsOnePut conn.number (opened_for channel follows conn number a s)
unfolding opened_for
opened_for_one channel follows conn number a s =
    either_one conn.number (not follows) _ _ (refused_one conn bad_sequence_number_invalid s)
    (either_one conn.number (not (is_unsecured (security_mode_of a.security_mode))) _ _ (refused_one conn bad_security_policy_rejected s)
    (opened_as_one conn.ear _ channel conn number a s))

opened_by_one : (a : Option OpeningRequest) (channel : ℕ) (follows : Bool) (conn : Conn) (number : ℕ) (s : ServerState)
    → IsOnePut conn.number (opened_by a channel follows conn number s)
opened_by_one None channel follows conn number s = refused_one conn bad_decoding_error s
opened_by_one (Some a) channel follows conn number s = opened_for_one channel follows conn number a s

opening_one : (channel : ℕ) (follows : Bool) (number : ℕ) (body : List ℕ) (conn : Conn) (s : ServerState)
    → IsOnePut conn.number (opening channel follows number body conn s)
unfolding opening
opening_one channel follows number body conn s = opened_by_one (asked_at body) channel follows conn number s

-- ---- a HEL

acknowledged_one : (hello : Greeting) (conn : Conn) (s : ServerState) → IsOnePut conn.number (acknowledged hello conn s)
unfolding acknowledged
acknowledged_one hello conn s = record { one = said_on conn (Acknowledged (acknowledgement hello)); put = refl; on = refl }

greeted_one : (read : Result (Greeting × Option (List ℕ)) Fault) (conn : Conn) (s : ServerState) → IsOnePut conn.number (greeted_by read conn s)
greeted_one (Ok hello) conn s = either_one conn.number (is_small hello.0) _ _ (refused_one conn bad_decoding_error s) (acknowledged_one hello.0 conn s)
greeted_one (Err fault) conn s = refused_one conn bad_decoding_error s

greeting_one : (body : List ℕ) (conn : Conn) (s : ServerState) → IsOnePut conn.number (greeting body conn s)
unfolding greeting
greeting_one body conn s = greeted_one (value_of (whole_at hello_at (input 0 body))) conn s

-- ---- on a connection that hears

hears_on_one : (h : Heard) (conn : Conn) (s : ServerState) → IsOpening h → IsOnePut conn.number (hears_on h conn s)
hears_on_one (heard_as.Greeting body) conn s opens = greeting_one body conn s
hears_on_one (heard_as.Opening channel follows number body) conn s opens = opening_one channel follows number body conn s
hears_on_one (heard_as.Message number body) conn s opens = absurd opens
hears_on_one heard_as.Close conn s opens = absurd opens
hears_on_one (heard_as.Fault code) conn s opens = refused_one conn code s

hears_by_one : (conn : ℕ) (found : Option Conn) (h : Heard) (s : ServerState) → conn_at conn s.conns ≡ found → is_deaf (ear_of found) ≡ false → IsOpening h
    → IsOnePut conn (hears_by found h s)
hears_by_one conn None h s is hears opens = absurd cc
hears_by_one conn (Some c) h s is hears opens =
    subst (λ n. IsOnePut n (hears_on h c s)) (found_conn conn s.conns c is) (hears_on_one h c s opens)

heard_by_one : (conn : ℕ) (b : Bool) (s : ServerState) (did : Did) → b ≡ false → IsOnePut conn did → IsOnePut conn (cond b (nothing s) did)
heard_by_one conn true s did is h = absurd cc
heard_by_one conn false s did is h = h

pub opening_answered : (conn : ℕ) (h : Heard) (s : ServerState) → is_deaf (ears conn s) ≡ false → IsOpening h → IsOnePut conn (after (Hears conn h) s)
unfolding heard hears
opening_answered conn h s hears opens =
    heard_by_one conn (is_deaf (ears conn s)) s (hears_by (conn_at conn s.conns) h s) hears
    (hears_by_one conn (conn_at conn s.conns) h s refl hears opens)
