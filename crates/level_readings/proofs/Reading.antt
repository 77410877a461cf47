-- A Read response is said where a Read was heard, and its first value is the level where that was asked for first.
use Rattle.std.proofs.Common.{◌≡◌, ℕ, List, [], ◌∷◌, map, Bool, true, false, cond, Option, Some, None, refl, sym, ap, ◌∙◌, subst, arith}
use Rattle.std.specs.Prelude.{Result, Ok, Err}
use Rattle.std.specs.List.{AllByRecursion}
use Rattle.std.proofs.lemmas.Bool.Decides.{nat_tests}
use Rattle.ua_base.specs.Status.{bad_decoding_error, bad_response_too_large, bad_service_unsupported, bad_tcp_message_too_large}
use Rattle.ua_variants.specs.declared.variant.Stamped.{Stamped}
use Rattle.ua_variants.specs.declared.variant.Scalar.{Scalar}
use Rattle.ua_variants.specs.declared.variant.Scalar.TheVariants as scalar
use Rattle.ua_variants.specs.declared.variant.Variant.{Variant, Variant-F, out-Variant, out-roll-Variant}
use Rattle.ua_variants.specs.declared.variant.Variant.TheVariants as variant
use Rattle.ua_variants.specs.declared.variant.Variant.TheVariants.{rolls-Scalar}
use Rattle.ua_channel.specs.State.{is_deaf}
use Rattle.ua_channel.specs.declared.heard.Heard.{Heard}
use Rattle.ua_channel.specs.declared.heard.Heard.TheVariants as heard_as
use Rattle.ua_structures.specs.declared.header.ResponseHeader.{ResponseHeader}
use Rattle.ua_structures.specs.declared.shared.ReadValueId.{ReadValueId}
use Rattle.ua_session_msgs.specs.declared.attribute.ReadRequest.{ReadRequest}
use Rattle.ua_session_msgs.specs.declared.reply.SessionReply.{SessionReply}
use Rattle.ua_session_msgs.specs.declared.reply.SessionReply.TheVariants as session_reply
use Rattle.ua_session_msgs.specs.declared.request.SessionRequest.{SessionRequest}
use Rattle.ua_session_msgs.specs.declared.request.SessionRequest.TheVariants as session_request
use Rattle.ua_services.specs.declared.reply.Reply.{Reply}
use Rattle.ua_services.specs.declared.reply.Reply.TheVariants as reply
use Rattle.ua_services.specs.declared.request.Request.{Request}
use Rattle.ua_services.specs.declared.request.Request.TheVariants as request
use Rattle.ua_services.specs.declared.request.RequestFault.{RequestFault}
use Rattle.ua_services.specs.declared.request.RequestFault.TheVariants as faults
use Rattle.ua_services.specs.Requests.{header_of, request_at, sub_header}
use Rattle.redundancy_nodes.specs.declared.nodes.Nodes.{Nodes}
use Rattle.ua_base.specs.declared.modes.Timestamps.{Timestamps}
use Rattle.link_rules.specs.Ready.{byte_of}
use Rattle.link_rules.specs.Requests.{value_id}
use Rattle.server_rules.specs.declared.conn.Asker.{Asker}
use Rattle.server_rules.specs.declared.conn.Conn.{Conn}
use Rattle.server_rules.specs.State.{ServerState, conn_at, is_conn}
use Rattle.server_rules.specs.Said.{Did, Told, Replied, nothing}
use Rattle.server_rules.specs.Answering.{fault_reply, faulted, good_header, refused_on, replied, replied_on, replied_to, replied_within, takes}
use Rattle.server_rules.specs.Reading.{call, nodes_of, read, read_all, read_checked, read_reply, value_read}
use Rattle.server_rules.specs.Operations.{done}
use Rattle.server_rules.specs.Sessions.{activate_session, close_session, create_session, find_servers, get_endpoints}
use Rattle.server_rules.specs.Requests.{asked, asker_of, call_served, close_served, done_for, in_session, noted, requested, served, session_served, sub_served, token_in}
use Rattle.server_rules.specs.Connecting.{closed, hears, hears_by, hears_on, opened}
use Rattle.sessions.specs.Table.{check_answer}
use Rattle.server_rules.specs.Timer.{ticked}
use Rattle.server_rules.specs.Step.{Happening, Opens, Hears, Closes, Feeds, Ticks, Levels, after, ears, fed, heard, leveled}
use Rattle.level_readings.specs.Levels.{AnswersRead, IsForLevel, IsLevelSaid, IsLevelTold, TellLevel}
use Rattle.level_readings.proofs.Lists.{all_to}
use Rattle.level_readings.proofs.Quieting.{IsOther, IsOtherReply, IsOtherSaid, IsQuiet, fault_quiet, refused_quiet, ticked_quiet, within_quiet}
use Rattle.level_readings.proofs.Services.{activate_quiet, call_quiet, close_session_quiet, closed_quiet, closing_quiet, create_session_quiet, endpoints_quiet, greeting_quiet, in_bound_quiet, in_session_quiet, opened_quiet, opening_quiet, servers_quiet, sub_served_quiet}

-- ---- the value that is read

out_scalar : (value : Scalar) → out-Variant (variant.Scalar value) ≡ Variant-F.Scalar value
out_scalar value = ap out-Variant (sym (rolls-Scalar value)) ∙ out-roll-Variant (Variant-F.Scalar value)

-- what the node ServiceLevel holds
level_first : (nodes : Nodes) (stamps : Timestamps) (more : List ReadValueId) → TellLevel nodes.level (map (value_read nodes stamps) (value_id 0 2267 ∷ more))
unfolding value_read
level_first nodes stamps more = (_, _, refl, ap byte_of (out_scalar (scalar.Byte nodes.level)))

level_told : (s : ServerState) (stamps : Timestamps) (nodes : List ReadValueId) → IsForLevel nodes → TellLevel s.level (map (value_read (nodes_of s) stamps) nodes)
unfolding nodes_of
level_told s stamps nodes first =
    subst (λ (x : List ReadValueId). TellLevel s.level (map (value_read (nodes_of s) stamps) x)) (sym first.1) (level_first (nodes_of s) stamps first.0)

-- ---- connections

found_by : (b : Bool) (number : ℕ) (one found : Conn) (rest : Option Conn) → is_conn number one ≡ b → (rest ≡ Some found → found.number ≡ number)
    → cond b (Some one) rest ≡ Some found → found.number ≡ number
found_by true number one found rest test on is =
    let same : one ≡ found = cc in
    let own : one.number ≡ number = grind (arith, nat_tests) in
    sym (ap (λ (c : Conn). c.number) same) ∙ own
found_by false number one found rest test on is = on is

found_number : (number : ℕ) (conns : List Conn) (found : Conn) → conn_at number conns ≡ Some found → found.number ≡ number
found_number number [] found is = absurd cc
found_number number (one ∷ conns) found is =
    found_by (is_conn number one) number one found (conn_at number conns) refl (found_number number conns found) is

module _ (happening : Happening) (s : ServerState) where
  -- each Read response is of what was heard
  abbrev Says : Did → Type 0
  Says did = AllByRecursion (IsLevelSaid happening s) did.said

  -- ---- where none is said

  other_session : (conn number : ℕ) (r : SessionReply) → IsOtherReply (reply.Session r) → IsLevelTold happening s conn (Replied number (reply.Session r))
  other_session conn number (session_reply.Read r) h = absurd h
  other_session conn number other h = tt

  other_reply : (conn number : ℕ) (r : Reply) → IsOtherReply r → IsLevelTold happening s conn (Replied number r)
  other_reply conn number (reply.Session r) h = other_session conn number r h
  other_reply conn number (reply.Subscription r) h = tt

  other_told : (conn : ℕ) (told : Told) → IsOther told → IsLevelTold happening s conn told
  other_told conn (Replied number r) h = other_reply conn number r h
  other_told conn other h = tt

  quiet_says : (did : Did) → IsQuiet did → Says did
  quiet_says did h = all_to IsOtherSaid (IsLevelSaid happening s) (λ said. other_told said.conn said.told) did.said h

  either : (b : Bool) (one other : Did) → Says one → Says other → Says (cond b one other)
  either true one other h rest = h
  either false one other h rest = rest

  -- ---- a Read response

  on_says : (conn : Conn) (number handle : ℕ) (values : List (Stamped Variant)) (header : ResponseHeader) (t : ServerState)
      → AnswersRead happening s conn.number values → Says (replied_on conn number handle (read_reply values header) t)
  unfolding replied_on replied_within
  on_says conn number handle values header t h =
      let fault : Reply = fault_reply handle bad_response_too_large t in
      either (takes conn (read_reply values header)) _ _ (h, tt)
      (either (takes conn fault) _ _ (quiet_says (replied_within conn number fault t) (within_quiet conn number fault t tt))
      (quiet_says (refused_on conn bad_tcp_message_too_large t) (refused_quiet conn bad_tcp_message_too_large t)))

  to_says : (found : Option Conn) (number handle : ℕ) (values : List (Stamped Variant)) (header : ResponseHeader) (t : ServerState)
      → ((conn : Conn) → found ≡ Some conn → AnswersRead happening s conn.number values)
      → Says (replied_to found number handle (read_reply values header) t)
  to_says None number handle values header t h = tt
  to_says (Some conn) number handle values header t h = on_says conn number handle values header t (h conn refl)

  replied_says : (asker : Asker) (values : List (Stamped Variant)) (header : ResponseHeader) (t : ServerState)
      → ((conn : ℕ) → conn ≡ asker.conn → AnswersRead happening s conn values) → Says (replied asker (read_reply values header) t)
  unfolding replied
  replied_says asker values header t h =
      to_says (conn_at asker.conn t.conns) asker.request asker.handle values header t
      (λ conn is. h conn.number (found_number asker.conn t.conns conn is))

  -- the Read that was heard
  read_answered : (conn number : ℕ) (body : List ℕ) (r : ReadRequest) (t : ServerState) (stamps : Timestamps) → happening ≡ Hears conn (heard_as.Message number body)
      → request_at body ≡ Ok (request.Session (session_request.Read r)) → t.level ≡ s.level
      → AnswersRead happening s conn (map (value_read (nodes_of t) stamps) r.nodes_to_read)
  read_answered conn number body r t stamps is reads same = record {
    number = number;
    body = body;
    asked = r;
    is = is;
    reads = reads;
    tells = λ first. subst (λ level. TellLevel level (map (value_read (nodes_of t) stamps) r.nodes_to_read)) same
        (level_told t stamps r.nodes_to_read first);
  }

  all_says : (asker : Asker) (number : ℕ) (body : List ℕ) (r : ReadRequest) (t : ServerState) (stamps : Result Timestamps ℕ)
      → happening ≡ Hears asker.conn (heard_as.Message number body) → request_at body ≡ Ok (request.Session (session_request.Read r)) → t.level ≡ s.level
      → Says (done asker (read_all asker r.nodes_to_read) stamps t)
  all_says asker number body r t (Ok stamps) is reads same =
      replied_says asker (map (value_read (nodes_of t) stamps) r.nodes_to_read) (good_header asker.handle t) t
      (λ conn own. read_answered conn number body r t stamps (is ∙ ap (λ n. Hears n (heard_as.Message number body)) (sym own)) reads same)
  all_says asker number body r t (Err code) is reads same = quiet_says (faulted asker code t) (fault_quiet asker code t)

  read_says : (asker : Asker) (number : ℕ) (body : List ℕ) (r : ReadRequest) (t : ServerState) → happening ≡ Hears asker.conn (heard_as.Message number body)
      → request_at body ≡ Ok (request.Session (session_request.Read r)) → t.level ≡ s.level → Says (read asker r t)
  unfolding read
  read_says asker number body r t is reads same = all_says asker number body r t (read_checked r) is reads same

  -- ---- requests

  done_says : (asker : Asker) (number : ℕ) (body : List ℕ) (r : ReadRequest) (session : Result ℕ ℕ) (t : ServerState)
      → happening ≡ Hears asker.conn (heard_as.Message number body) → request_at body ≡ Ok (request.Session (session_request.Read r)) → t.level ≡ s.level
      → Says (done_for (λ one. read asker r) asker session t)
  done_says asker number body r (Ok session) t is reads same = read_says asker number body r t is reads same
  done_says asker number body r (Err code) t is reads same = quiet_says (faulted asker code t) (fault_quiet asker code t)

  session_served_says : (asker : Asker) (number : ℕ) (body : List ℕ) (r : SessionRequest) → happening ≡ Hears asker.conn (heard_as.Message number body)
      → request_at body ≡ Ok (request.Session r) → Says (session_served asker r s)
  unfolding session_served
  session_served_says asker number body (session_request.Read r) is reads =
      done_says asker number body r (check_answer (token_in r.request_header) asker.conn s.sessions) (noted asker (token_in r.request_header) s) is reads refl
  session_served_says asker number body (session_request.OpenSecureChannel r) is reads =
      quiet_says (faulted asker bad_service_unsupported s) (fault_quiet asker bad_service_unsupported s)
  session_served_says asker number body (session_request.CloseSecureChannel r) is reads =
      quiet_says (faulted asker bad_service_unsupported s) (fault_quiet asker bad_service_unsupported s)
  session_served_says asker number body (session_request.FindServers r) is reads = quiet_says (find_servers asker r s) (servers_quiet asker r s)
  session_served_says asker number body (session_request.GetEndpoints r) is reads = quiet_says (get_endpoints asker r s) (endpoints_quiet asker r s)
  session_served_says asker number body (session_request.CreateSession r) is reads = quiet_says (create_session asker r s) (create_session_quiet asker r s)
  session_served_says asker number body (session_request.ActivateSession r) is reads = quiet_says (activate_session asker r s) (activate_quiet asker r s)
  session_served_says asker number body (session_request.CloseSession r) is reads =
      quiet_says (close_served asker r s)
      (in_bound_quiet (λ session. close_session asker session r) asker (token_in r.request_header) s (λ session t. close_session_quiet asker session r t))
  session_served_says asker number body (session_request.Call r) is reads =
      quiet_says (call_served asker r s)
      (in_session_quiet (λ session. call asker session r) asker (token_in r.request_header) s (λ session t. call_quiet asker session r t))

  served_says : (asker : Asker) (number : ℕ) (body : List ℕ) (r : Request) → happening ≡ Hears asker.conn (heard_as.Message number body)
      → request_at body ≡ Ok r → Says (served asker r s)
  unfolding served
  served_says asker number body (request.Session r) is reads = session_served_says asker number body r is reads
  served_says asker number body (request.Subscription r) is reads =
      quiet_says (in_session (sub_served asker r) asker (token_in (sub_header r)) s)
      (in_session_quiet (sub_served asker r) asker (token_in (sub_header r)) s (sub_served_quiet asker r))

  asked_says : (conn number : ℕ) (body : List ℕ) (r : Result Request RequestFault) → happening ≡ Hears conn (heard_as.Message number body)
      → request_at body ≡ r → Says (asked conn number r s)
  asked_says conn number body (Ok r) is reads = served_says (asker_of conn number (header_of r).request_handle) number body r is reads
  asked_says conn number body (Err faults.Header) is reads =
      quiet_says (faulted (asker_of conn number 0) bad_decoding_error s) (fault_quiet (asker_of conn number 0) bad_decoding_error s)
  asked_says conn number body (Err (faults.Service handle)) is reads =
      quiet_says (faulted (asker_of conn number handle) bad_service_unsupported s) (fault_quiet (asker_of conn number handle) bad_service_unsupported s)
  asked_says conn number body (Err (faults.Body handle)) is reads =
      quiet_says (faulted (asker_of conn number handle) bad_decoding_error s) (fault_quiet (asker_of conn number handle) bad_decoding_error s)
  asked_says conn number body (Err faults.OutOfMemory) is reads = tt

  requested_says : (conn number : ℕ) (body : List ℕ) → happening ≡ Hears conn (heard_as.Message number body) → Says (requested conn number body s)
  unfolding requested
  requested_says conn number body is = asked_says conn number body (request_at body) is refl

  -- ---- what is heard

  hears_on_says : (h : Heard) (conn : Conn) → happening ≡ Hears conn.number h → Says (hears_on h conn s)
  hears_on_says (heard_as.Greeting body) conn is = quiet_says (hears_on (heard_as.Greeting body) conn s) (greeting_quiet body conn s)
  hears_on_says (heard_as.Opening channel follows number body) conn is =
      quiet_says (hears_on (heard_as.Opening channel follows number body) conn s) (opening_quiet channel follows number body conn s)
  hears_on_says (heard_as.Message number body) conn is = requested_says conn.number number body is
  hears_on_says heard_as.Close conn is = quiet_says (hears_on heard_as.Close conn s) (closing_quiet conn s)
  hears_on_says (heard_as.Fault code) conn is = quiet_says (hears_on (heard_as.Fault code) conn s) (refused_quiet conn code s)

  hears_by_says : (found : Option Conn) (h : Heard) → ((conn : Conn) → found ≡ Some conn → happening ≡ Hears conn.number h) → Says (hears_by found h s)
  hears_by_says None h is = tt
  hears_by_says (Some conn) h is = hears_on_says h conn (is conn refl)

  hears_says : (number : ℕ) (h : Heard) → happening ≡ Hears number h → Says (hears number h s)
  unfolding hears
  hears_says number h is =
      hears_by_says (conn_at number s.conns) h
      (λ conn found. is ∙ ap (λ n. Hears n h) (sym (found_number number s.conns conn found)))

  heard_says : (number : ℕ) (h : Heard) → happening ≡ Hears number h → Says (heard number h s)
  unfolding heard
  heard_says number h is = either (is_deaf (ears number s)) (nothing s) (hears number h s) tt (hears_says number h is)

-- ---- all that happens

fed_quiet : (change : _) (s : ServerState) → IsQuiet (fed change s)
unfolding fed
fed_quiet change s = tt

leveled_quiet : (level : ℕ) (s : ServerState) → IsQuiet (leveled level s)
unfolding leveled
leveled_quiet level s = tt

pub levels_were_had : (happening : Happening) (s : ServerState) → AllByRecursion (IsLevelSaid happening s) (after happening s).said
levels_were_had (Opens number) s = quiet_says (Opens number) s (opened number s) (opened_quiet number s)
levels_were_had (Hears number h) s = heard_says (Hears number h) s number h refl
levels_were_had (Closes number) s = quiet_says (Closes number) s (closed number s) (closed_quiet number s)
levels_were_had (Feeds change) s = quiet_says (Feeds change) s (fed change s) (fed_quiet change s)
levels_were_had (Ticks ms) s = quiet_says (Ticks ms) s (ticked ms s) (ticked_quiet ms s)
levels_were_had (Levels level) s = quiet_says (Levels level) s (leveled level s) (leveled_quiet level s)
