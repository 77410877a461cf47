-- What a server says of itself and of a session keeps the limits.
use Rattle.std.proofs.Common.{ℕ, pos, ◌-◌, ◌^◌, ◌<◌, ◌≤◌, List, [], ◌∷◌, Option, Some, None, IfSome, filter, length, FitsSigned, arith, slice_get}
use Rattle.std.specs.Int.{to_le_bytes, w16, w32}
use Rattle.std.specs.Float.Ieee.{binary64, of_int}
use Rattle.std.proofs.lemmas.Int.{ints}
use Rattle.std.proofs.lemmas.List.{length-map}
use lib.Ieee.Bits.{to_bits-lt}
use lib.Ieee.Fits.{of_int-fits}
use Rattle.ua_values.specs.Laws.{KeepsArray, KeepsNode, KeepsText}
use Rattle.ua_structures.specs.Structures.{a_response_header}
use Rattle.ua_session_msgs.specs.Structures.{a_create_session_response, a_signature_data, a_user_token_policy, an_application_description, an_endpoint_description}
use Rattle.sessions.specs.Token.{token_of}
use Rattle.redundancy_nodes.specs.declared.member.Member.{Member}
use Rattle.redundancy_nodes.specs.Texts.{uris_of}
use Rattle.server_rules.specs.declared.config.ServerConfig.{ServerConfig}
use Rattle.server_rules.specs.declared.conn.Asker.{Asker}
use Rattle.server_rules.specs.Durations.{duration_bits}
use Rattle.server_rules.specs.State.{ServerState}
use Rattle.server_rules.specs.Answering.{good_header}
use Rattle.server_rules.specs.Reading.{own_uri, uri_of}
use Rattle.server_rules.specs.Sessions.{application, created_response, described, endpoint, endpoint_of, is_listed, nonce, own_url, servers_listed, session_node, url_of}
use Rattle.server_keeps.specs.Fitting.{FitsConfig, KeepsMember}
use Rattle.server_keeps.proofs.Lengths.{joined_long, little_long}
use Rattle.server_keeps.proofs.Lists.{all_filter, all_map, fewer, got}

pub duration_fits : (ms : ℕ) → duration_bits ms < 2 ^ 64
unfolding duration_bits
duration_fits ms = to_bits-lt binary64 (of_int binary64 (pos ms)) (of_int-fits binary64 (pos ms))

-- ---- texts of members

own_uri_by : (member : Option Member) → IfSome member KeepsMember → KeepsText (uri_of member)
own_uri_by None h = tt
own_uri_by (Some member) h = h.uri

own_url_by : (member : Option Member) → IfSome member KeepsMember → KeepsText (url_of member)
own_url_by None h = tt
own_url_by (Some member) h = h.url

pub own_uri_keeps : (config : ServerConfig) → FitsConfig config → KeepsText (own_uri config)
own_uri_keeps config h = own_uri_by (slice_get config.members (config.number - 1)) (got KeepsMember config.members (config.number - 1) h.members.1)

own_url_keeps : (config : ServerConfig) → FitsConfig config → KeepsText (own_url config)
own_url_keeps config h = own_url_by (slice_get config.members (config.number - 1)) (got KeepsMember config.members (config.number - 1) h.members.1)

pub uris_keep : (config : ServerConfig) → FitsConfig config → KeepsArray KeepsText (uris_of config.members)
uris_keep config h =
    let same = length-map config.members (λ (member : Member). member.uri) in
    let few = h.members.0 in
    (omega (arith, same, few), all_map KeepsMember KeepsText (λ member. member.uri) (λ member fits. fits.uri) config.members h.members.1)

-- ---- applications and endpoints

int32_fits : (n : ℕ) → n < 2 ^ 8 → FitsSigned w32 (pos n)
int32_fits n h = omega (arith, ints)

application_keeps : (uri url : Option (List ℕ)) → KeepsText uri → KeepsText url → an_application_description.keeps (application uri url)
unfolding an_application_description
application_keeps uri url one other =
    (one, (omega arith, ((tt, omega arith), (int32_fits 0 (omega arith), (tt, (tt, (omega arith, (other, tt))))))))

endpoint_of_keeps : (uri url : Option (List ℕ)) → KeepsText uri → KeepsText url → an_endpoint_description.keeps (endpoint_of uri url)
unfolding an_endpoint_description a_user_token_policy
endpoint_of_keeps uri url one other = (
  other,
  (
    application_keeps uri url one other,
    (
      tt,
      (
        int32_fits 1 (omega arith),
        (
          omega arith,
          (
            (omega arith, ((omega arith, (int32_fits 0 (omega arith), (tt, (tt, tt)))), tt)),
            (omega arith, omega arith),
          ),
        ),
      ),
    ),
  ),
)

endpoint_keeps : (config : ServerConfig) → FitsConfig config → an_endpoint_description.keeps (endpoint config)
unfolding endpoint
endpoint_keeps config h = endpoint_of_keeps (own_uri config) (own_url config) (own_uri_keeps config h) (own_url_keeps config h)

pub endpoints_keep : (config : ServerConfig) → FitsConfig config → KeepsArray an_endpoint_description.keeps (endpoint config ∷ [])
endpoints_keep config h = (omega arith, (endpoint_keeps config h, tt))

described_keeps : (member : Member) → KeepsMember member → an_application_description.keeps (described member)
described_keeps member h = application_keeps member.uri member.url h.uri h.url

pub listed_keep : (uris : List (Option (List ℕ))) (members : List Member) → KeepsArray KeepsMember members
    → KeepsArray an_application_description.keeps (servers_listed uris members)
unfolding servers_listed
listed_keep uris members h =
    let same = length-map (filter (is_listed uris) members) described in
    let less = fewer (is_listed uris) members in
    let few = h.0 in (
      omega (arith, same, less, few),
      all_map KeepsMember an_application_description.keeps described described_keeps (filter (is_listed uris) members)
          (all_filter KeepsMember (is_listed uris) members h.1),
    )

-- ---- sessions

token_long : (boot counter : ℕ) → length (token_of boot counter) ≤ 6
token_long boot counter =
    let one = little_long 2 boot in
    let other = little_long 4 counter in
    joined_long (to_le_bytes w16 boot) (to_le_bytes w32 counter) 2 4 (omega (arith, one)) (omega (arith, other))

node_keeps : (namespace boot counter : ℕ) → namespace < 2 ^ 16 → KeepsNode (session_node namespace boot counter)
node_keeps namespace boot counter h = let long = token_long boot counter in (h, omega (arith, long))

pub nonce_keeps : KeepsText nonce
nonce_keeps = omega arith

pub created_keeps : (asker : Asker) (counter timeout : ℕ) (s : ServerState) → FitsConfig s.config
    → a_response_header.keeps (good_header asker.handle s) → a_create_session_response.keeps (created_response asker counter timeout s)
unfolding created_response a_create_session_response a_signature_data
created_keeps asker counter timeout s h header = (
  header,
  (
    node_keeps 1 s.config.boot counter (omega arith),
    (
      node_keeps 0 s.config.boot counter (omega arith),
      (
        duration_fits timeout,
        (
          nonce_keeps,
          (tt, (endpoints_keep s.config h, ((omega arith, tt), ((tt, tt), omega arith)))),
        ),
      ),
    ),
  ),
)
