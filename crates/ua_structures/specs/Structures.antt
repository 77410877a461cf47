-- The structures that several services share (OPC 10000-4, 7): their fields in their order.
use Rattle.std.specs.Prelude.{ℕ, ℤ, [], None, refl}
use Rattle.ua_values.specs.declared.node.NodeId.{NodeId}
use Rattle.ua_values.specs.declared.node.NodeId.TheVariants as node
use Rattle.ua_values.specs.declared.extension.ExtensionObject.{ExtensionObject}
use Rattle.ua_values.specs.declared.extension.ExtensionBody.TheVariants as extension
use Rattle.ua_variants.specs.declared.variant.DiagnosticInfo.{DiagnosticInfo}
use Rattle.ua_structures.specs.declared.header.RequestHeader.{RequestHeader}
use Rattle.ua_structures.specs.declared.header.ResponseHeader.{ResponseHeader}
use Rattle.ua_structures.specs.declared.shared.ReadValueId.{ReadValueId}
use Rattle.ua_structures.specs.declared.unused.UnusedOfRequest.{UnusedOfRequest}
use Rattle.ua_structures.specs.declared.unused.UnusedOfResponse.{UnusedOfResponse}
use Rattle.ua_structures.specs.declared.unused.UnusedDiagnostics.{UnusedDiagnostics}
use Rattle.ua_structures.specs.Fitting.{fits_rest_of_request, fits_rest_of_response, fits_none}
use Rattle.ua_structures.specs.Form.{Form, structure, unused, ◌then◌, an_array, a_uint32, a_date_time, a_text, a_node_id, a_qualified_name, an_extension_object, a_diagnostic_info}

-- ---- what is never used: read and checked, not kept, and written as 0, null or empty

-- of no type, and without a body
abbrev pub no_object : ExtensionObject
no_object = record { type_id = node.Numeric 0 0; body = extension.Absent }

-- ReturnDiagnostics, AuditEntryId, TimeoutHint and AdditionalHeader
unfoldable pub an_unused_of_request : Form UnusedOfRequest
an_unused_of_request = unused (a_uint32 then a_text then a_uint32 then an_extension_object) (0, (None, (0, no_object))) fits_rest_of_request (record {}) (λ u. refl)

-- ServiceDiagnostics, StringTable and AdditionalHeader
unfoldable pub an_unused_of_response : Form UnusedOfResponse
an_unused_of_response = unused (a_diagnostic_info then an_array a_text then an_extension_object) (record {}, ([], no_object)) fits_rest_of_response (record {}) (λ u. refl)

-- an array of DiagnosticInfos
unfoldable pub unused_diagnostics : Form UnusedDiagnostics
unused_diagnostics = unused (an_array a_diagnostic_info) [] (fits_none (λ (d : DiagnosticInfo). Unit {0})) (record {}) (λ u. refl)

-- ---- the structures

-- OPC 10000-4, 7.28
unfoldable pub a_request_header : Form RequestHeader
a_request_header = structure (a_node_id then a_date_time then a_uint32 then an_unused_of_request)
    (λ h. (h.authentication_token, (h.timestamp, (h.request_handle, h.rest))))
    (λ f. record { authentication_token = f.0; timestamp = f.1.0; request_handle = f.1.1.0; rest = f.1.1.1 }) (λ h. refl) (λ f. refl)

-- the header of a request with this token, time and number: all else is what is never used
abbrev pub request_header : NodeId → ℤ → ℕ → RequestHeader
request_header token time number = record { authentication_token = token; timestamp = time; request_handle = number; rest = record {} }

-- OPC 10000-4, 7.29
unfoldable pub a_response_header : Form ResponseHeader
a_response_header = structure (a_date_time then a_uint32 then a_uint32 then an_unused_of_response)
    (λ h. (h.timestamp, (h.request_handle, (h.service_result, h.rest))))
    (λ f. record { timestamp = f.0; request_handle = f.1.0; service_result = f.1.1.0; rest = f.1.1.1 }) (λ h. refl) (λ f. refl)

-- the header of a reply at this time to the request of this number, with the StatusCode of the whole service
abbrev pub response_header : ℤ → ℕ → ℕ → ResponseHeader
response_header time number code = record { timestamp = time; request_handle = number; service_result = code; rest = record {} }

-- OPC 10000-4, 7.24
unfoldable pub a_read_value_id : Form ReadValueId
a_read_value_id = structure (a_node_id then a_uint32 then a_text then a_qualified_name)
    (λ r. (r.node_id, (r.attribute_id, (r.index_range, r.data_encoding))))
    (λ f. record { node_id = f.0; attribute_id = f.1.0; index_range = f.1.1.0; data_encoding = f.1.1.1 }) (λ r. refl) (λ f. refl)
