-- The structures of this crate: their fields in their order.
use Rattle.std.specs.Prelude.{refl}
use Rattle.ua_session_msgs.specs.declared.channel.ChannelSecurityToken.{ChannelSecurityToken}
use Rattle.ua_session_msgs.specs.declared.channel.OpenSecureChannelRequest.{OpenSecureChannelRequest}
use Rattle.ua_session_msgs.specs.declared.channel.OpenSecureChannelResponse.{OpenSecureChannelResponse}
use Rattle.ua_session_msgs.specs.declared.discovery.ApplicationDescription.{ApplicationDescription}
use Rattle.ua_session_msgs.specs.declared.discovery.UserTokenPolicy.{UserTokenPolicy}
use Rattle.ua_session_msgs.specs.declared.discovery.EndpointDescription.{EndpointDescription}
use Rattle.ua_session_msgs.specs.declared.discovery.FindServersRequest.{FindServersRequest}
use Rattle.ua_session_msgs.specs.declared.discovery.FindServersResponse.{FindServersResponse}
use Rattle.ua_session_msgs.specs.declared.discovery.GetEndpointsRequest.{GetEndpointsRequest}
use Rattle.ua_session_msgs.specs.declared.discovery.GetEndpointsResponse.{GetEndpointsResponse}
use Rattle.ua_session_msgs.specs.declared.session.SignatureData.{SignatureData}
use Rattle.ua_session_msgs.specs.declared.session.SignedSoftwareCertificate.{SignedSoftwareCertificate}
use Rattle.ua_session_msgs.specs.declared.identity.AnonymousIdentityToken.{AnonymousIdentityToken}
use Rattle.ua_session_msgs.specs.declared.session.CreateSessionRequest.{CreateSessionRequest}
use Rattle.ua_session_msgs.specs.declared.session.CreateSessionResponse.{CreateSessionResponse}
use Rattle.ua_session_msgs.specs.declared.session.ActivateSessionRequest.{ActivateSessionRequest}
use Rattle.ua_session_msgs.specs.declared.session.ActivateSessionResponse.{ActivateSessionResponse}
use Rattle.ua_session_msgs.specs.declared.session.CloseSessionRequest.{CloseSessionRequest}
use Rattle.ua_session_msgs.specs.declared.attribute.ReadRequest.{ReadRequest}
use Rattle.ua_session_msgs.specs.declared.attribute.ReadResponse.{ReadResponse}
use Rattle.ua_session_msgs.specs.declared.method.CallMethodRequest.{CallMethodRequest}
use Rattle.ua_session_msgs.specs.declared.method.CallMethodResult.{CallMethodResult}
use Rattle.ua_session_msgs.specs.declared.method.CallRequest.{CallRequest}
use Rattle.ua_session_msgs.specs.declared.method.CallResponse.{CallResponse}
use Rattle.ua_structures.specs.Form.{Form, a_boolean, a_byte, a_data_value, a_date_time, a_double, a_localized_text, a_node_id, a_text, a_uint32, a_variant, an_array, an_extension_object, an_int32, structure, ◌then◌}
use Rattle.ua_structures.specs.Structures.{a_read_value_id, a_request_header, a_response_header, unused_diagnostics}

-- OPC 10000-4, 5.5.2.2
unfoldable pub a_channel_security_token : Form ChannelSecurityToken
a_channel_security_token = structure (a_uint32 then a_uint32 then a_date_time then a_uint32)
    (λ r. (r.channel_id, (r.token_id, (r.created_at, r.revised_lifetime))))
    (λ f. record { channel_id = f.0; token_id = f.1.0; created_at = f.1.1.0; revised_lifetime = f.1.1.1 }) (λ r. refl) (λ f. refl)

-- OPC 10000-4, 5.5.2
unfoldable pub an_open_secure_channel_request : Form OpenSecureChannelRequest
an_open_secure_channel_request = structure (a_request_header then a_uint32 then an_int32 then an_int32 then a_text then a_uint32)
    (λ r. (r.request_header, (r.client_protocol_version, (r.request_type, (r.security_mode, (r.client_nonce, r.requested_lifetime))))))
    (λ f. record { request_header = f.0; client_protocol_version = f.1.0; request_type = f.1.1.0; security_mode = f.1.1.1.0; client_nonce = f.1.1.1.1.0; requested_lifetime = f.1.1.1.1.1 }) (λ r. refl) (λ f. refl)

-- OPC 10000-4, 5.5.2
unfoldable pub an_open_secure_channel_response : Form OpenSecureChannelResponse
an_open_secure_channel_response = structure (a_response_header then a_uint32 then a_channel_security_token then a_text)
    (λ r. (r.response_header, (r.server_protocol_version, (r.security_token, r.server_nonce))))
    (λ f. record { response_header = f.0; server_protocol_version = f.1.0; security_token = f.1.1.0; server_nonce = f.1.1.1 }) (λ r. refl) (λ f. refl)

-- OPC 10000-4, 7.1
unfoldable pub an_application_description : Form ApplicationDescription
an_application_description = structure (a_text then a_text then a_localized_text then an_int32 then a_text then a_text then an_array a_text)
    (λ r. (r.application_uri, (r.product_uri, (r.application_name, (r.application_type, (r.gateway_server_uri, (r.discovery_profile_uri, r.discovery_urls)))))))
    (λ f. record { application_uri = f.0; product_uri = f.1.0; application_name = f.1.1.0; application_type = f.1.1.1.0; gateway_server_uri = f.1.1.1.1.0; discovery_profile_uri = f.1.1.1.1.1.0; discovery_urls = f.1.1.1.1.1.1 }) (λ r. refl) (λ f. refl)

-- OPC 10000-4, 7.37
unfoldable pub a_user_token_policy : Form UserTokenPolicy
a_user_token_policy = structure (a_text then an_int32 then a_text then a_text then a_text)
    (λ r. (r.policy_id, (r.token_type, (r.issued_token_type, (r.issuer_endpoint_url, r.security_policy_uri)))))
    (λ f. record { policy_id = f.0; token_type = f.1.0; issued_token_type = f.1.1.0; issuer_endpoint_url = f.1.1.1.0; security_policy_uri = f.1.1.1.1 }) (λ r. refl) (λ f. refl)

-- OPC 10000-4, 7.10
unfoldable pub an_endpoint_description : Form EndpointDescription
an_endpoint_description = structure (a_text then an_application_description then a_text then an_int32 then a_text then an_array a_user_token_policy then a_text then a_byte)
    (λ r. (r.endpoint_url, (r.server, (r.server_certificate, (r.security_mode, (r.security_policy_uri, (r.user_identity_tokens, (r.transport_profile_uri, r.security_level))))))))
    (λ f. record { endpoint_url = f.0; server = f.1.0; server_certificate = f.1.1.0; security_mode = f.1.1.1.0; security_policy_uri = f.1.1.1.1.0; user_identity_tokens = f.1.1.1.1.1.0; transport_profile_uri = f.1.1.1.1.1.1.0; security_level = f.1.1.1.1.1.1.1 }) (λ r. refl) (λ f. refl)

-- OPC 10000-4, 5.4.2
unfoldable pub a_find_servers_request : Form FindServersRequest
a_find_servers_request = structure (a_request_header then a_text then an_array a_text then an_array a_text)
    (λ r. (r.request_header, (r.endpoint_url, (r.locale_ids, r.server_uris))))
    (λ f. record { request_header = f.0; endpoint_url = f.1.0; locale_ids = f.1.1.0; server_uris = f.1.1.1 }) (λ r. refl) (λ f. refl)

-- OPC 10000-4, 5.4.2
unfoldable pub a_find_servers_response : Form FindServersResponse
a_find_servers_response = structure (a_response_header then an_array an_application_description)
    (λ r. (r.response_header, r.servers))
    (λ f. record { response_header = f.0; servers = f.1 }) (λ r. refl) (λ f. refl)

-- OPC 10000-4, 5.4.4
unfoldable pub a_get_endpoints_request : Form GetEndpointsRequest
a_get_endpoints_request = structure (a_request_header then a_text then an_array a_text then an_array a_text)
    (λ r. (r.request_header, (r.endpoint_url, (r.locale_ids, r.profile_uris))))
    (λ f. record { request_header = f.0; endpoint_url = f.1.0; locale_ids = f.1.1.0; profile_uris = f.1.1.1 }) (λ r. refl) (λ f. refl)

-- OPC 10000-4, 5.4.4
unfoldable pub a_get_endpoints_response : Form GetEndpointsResponse
a_get_endpoints_response = structure (a_response_header then an_array an_endpoint_description)
    (λ r. (r.response_header, r.endpoints))
    (λ f. record { response_header = f.0; endpoints = f.1 }) (λ r. refl) (λ f. refl)

-- OPC 10000-4, 7.32
unfoldable pub a_signature_data : Form SignatureData
a_signature_data = structure (a_text then a_text)
    (λ r. (r.algorithm, r.signature))
    (λ f. record { algorithm = f.0; signature = f.1 }) (λ r. refl) (λ f. refl)

-- OPC 10000-4, 7.33
unfoldable pub a_signed_software_certificate : Form SignedSoftwareCertificate
a_signed_software_certificate = structure (a_text then a_text)
    (λ r. (r.certificate_data, r.signature))
    (λ f. record { certificate_data = f.0; signature = f.1 }) (λ r. refl) (λ f. refl)

-- OPC 10000-4, 7.36.3
unfoldable pub an_anonymous_identity_token : Form AnonymousIdentityToken
an_anonymous_identity_token = structure (a_text)
    (λ r. r.policy_id)
    (λ f. record { policy_id = f }) (λ r. refl) (λ f. refl)

-- OPC 10000-4, 5.6.2
unfoldable pub a_create_session_request : Form CreateSessionRequest
a_create_session_request = structure (a_request_header then an_application_description then a_text then a_text then a_text then a_text then a_text then a_double then a_uint32)
    (λ r. (r.request_header, (r.client_description, (r.server_uri, (r.endpoint_url, (r.session_name, (r.client_nonce, (r.client_certificate, (r.requested_session_timeout, r.max_response_message_size)))))))))
    (λ f. record { request_header = f.0; client_description = f.1.0; server_uri = f.1.1.0; endpoint_url = f.1.1.1.0; session_name = f.1.1.1.1.0; client_nonce = f.1.1.1.1.1.0; client_certificate = f.1.1.1.1.1.1.0; requested_session_timeout = f.1.1.1.1.1.1.1.0; max_response_message_size = f.1.1.1.1.1.1.1.1 }) (λ r. refl) (λ f. refl)

-- OPC 10000-4, 5.6.2
unfoldable pub a_create_session_response : Form CreateSessionResponse
a_create_session_response = structure (a_response_header then a_node_id then a_node_id then a_double then a_text then a_text then an_array an_endpoint_description then an_array a_signed_software_certificate then a_signature_data then a_uint32)
    (λ r. (r.response_header, (r.session_id, (r.authentication_token, (r.revised_session_timeout, (r.server_nonce, (r.server_certificate, (r.server_endpoints, (r.server_software_certificates, (r.server_signature, r.max_request_message_size))))))))))
    (λ f. record { response_header = f.0; session_id = f.1.0; authentication_token = f.1.1.0; revised_session_timeout = f.1.1.1.0; server_nonce = f.1.1.1.1.0; server_certificate = f.1.1.1.1.1.0; server_endpoints = f.1.1.1.1.1.1.0; server_software_certificates = f.1.1.1.1.1.1.1.0; server_signature = f.1.1.1.1.1.1.1.1.0; max_request_message_size = f.1.1.1.1.1.1.1.1.1 }) (λ r. refl) (λ f. refl)

-- OPC 10000-4, 5.6.3
unfoldable pub an_activate_session_request : Form ActivateSessionRequest
an_activate_session_request = structure (a_request_header then a_signature_data then an_array a_signed_software_certificate then an_array a_text then an_extension_object then a_signature_data)
    (λ r. (r.request_header, (r.client_signature, (r.client_software_certificates, (r.locale_ids, (r.user_identity_token, r.user_token_signature))))))
    (λ f. record { request_header = f.0; client_signature = f.1.0; client_software_certificates = f.1.1.0; locale_ids = f.1.1.1.0; user_identity_token = f.1.1.1.1.0; user_token_signature = f.1.1.1.1.1 }) (λ r. refl) (λ f. refl)

-- OPC 10000-4, 5.6.3
unfoldable pub an_activate_session_response : Form ActivateSessionResponse
an_activate_session_response = structure (a_response_header then a_text then an_array a_uint32 then unused_diagnostics)
    (λ r. (r.response_header, (r.server_nonce, (r.results, r.diagnostic_infos))))
    (λ f. record { response_header = f.0; server_nonce = f.1.0; results = f.1.1.0; diagnostic_infos = f.1.1.1 }) (λ r. refl) (λ f. refl)

-- OPC 10000-4, 5.6.4
unfoldable pub a_close_session_request : Form CloseSessionRequest
a_close_session_request = structure (a_request_header then a_boolean)
    (λ r. (r.request_header, r.delete_subscriptions))
    (λ f. record { request_header = f.0; delete_subscriptions = f.1 }) (λ r. refl) (λ f. refl)

-- OPC 10000-4, 5.10.2
unfoldable pub a_read_request : Form ReadRequest
a_read_request = structure (a_request_header then a_double then an_int32 then an_array a_read_value_id)
    (λ r. (r.request_header, (r.max_age, (r.timestamps_to_return, r.nodes_to_read))))
    (λ f. record { request_header = f.0; max_age = f.1.0; timestamps_to_return = f.1.1.0; nodes_to_read = f.1.1.1 }) (λ r. refl) (λ f. refl)

-- OPC 10000-4, 5.10.2
unfoldable pub a_read_response : Form ReadResponse
a_read_response = structure (a_response_header then an_array a_data_value then unused_diagnostics)
    (λ r. (r.response_header, (r.results, r.diagnostic_infos)))
    (λ f. record { response_header = f.0; results = f.1.0; diagnostic_infos = f.1.1 }) (λ r. refl) (λ f. refl)

-- OPC 10000-4, 5.11.2
unfoldable pub a_call_method_request : Form CallMethodRequest
a_call_method_request = structure (a_node_id then a_node_id then an_array a_variant)
    (λ r. (r.object_id, (r.method_id, r.input_arguments)))
    (λ f. record { object_id = f.0; method_id = f.1.0; input_arguments = f.1.1 }) (λ r. refl) (λ f. refl)

-- OPC 10000-4, 5.11.2
unfoldable pub a_call_method_result : Form CallMethodResult
a_call_method_result = structure (a_uint32 then an_array a_uint32 then unused_diagnostics then an_array a_variant)
    (λ r. (r.status_code, (r.input_argument_results, (r.input_argument_diagnostic_infos, r.output_arguments))))
    (λ f. record { status_code = f.0; input_argument_results = f.1.0; input_argument_diagnostic_infos = f.1.1.0; output_arguments = f.1.1.1 }) (λ r. refl) (λ f. refl)

-- OPC 10000-4, 5.11.2
unfoldable pub a_call_request : Form CallRequest
a_call_request = structure (a_request_header then an_array a_call_method_request)
    (λ r. (r.request_header, r.methods_to_call))
    (λ f. record { request_header = f.0; methods_to_call = f.1 }) (λ r. refl) (λ f. refl)

-- OPC 10000-4, 5.11.2
unfoldable pub a_call_response : Form CallResponse
a_call_response = structure (a_response_header then an_array a_call_method_result then unused_diagnostics)
    (λ r. (r.response_header, (r.results, r.diagnostic_infos)))
    (λ f. record { response_header = f.0; results = f.1.0; diagnostic_infos = f.1.1 }) (λ r. refl) (λ f. refl)
