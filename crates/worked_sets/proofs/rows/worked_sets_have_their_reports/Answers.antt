-- each by computing the definitions
use Rattle.std.proofs.Common.{refl}
use Rattle.client_rules.specs.Arrival.{seen_of, arrived_of}
use Rattle.client_rules.specs.Dialling.{dials_among, are_idle, first_to_dial, dialled}
use Rattle.client_rules.specs.Doing.{each_server}
use Rattle.client_rules.specs.History.{history_after}
use Rattle.client_rules.specs.Links.{told as told_0, all_told, linked_by}
use Rattle.client_rules.specs.Settling.{ready_among, chosen, told_mode, round, settled_within}
use Rattle.client_rules.specs.Step.{after, after_all}
use Rattle.link_rules.specs.Asking.{asked, asked_opening}
use Rattle.link_rules.specs.Closing.{dropped, broken}
use Rattle.link_rules.specs.Messages.{content_of, kept_alive, data_taken}
use Rattle.link_rules.specs.Opening.{greets, opened as opened_1, refused, closed as closed_2, opens_channel, acknowledged_by, greeted_by, greeted, renews, creates_session, channel_replied_in, in_opening}
use Rattle.link_rules.specs.Publishing.{published, publishes, fills, tells_sent, sets, sets_mode, enters_ready, subscribes}
use Rattle.link_rules.specs.Ready.{restarts, brings, publish_replied_by, publish_replied, publish_refused, leaves_low, level_told, level_replied, confirms, mode_replied, in_ready}
use Rattle.link_rules.specs.Requests.{channel_request, session_request_of, activation_request, probe_request, level_request, subscription_request, transfer_request, republish_request, publish_request, item_request, items_request, mode_request}
use Rattle.link_rules.specs.Starting.{activates, in_creating, probes, in_activating, unsupported, judges, probed_by, probed, in_probing}
use Rattle.link_rules.specs.Step.{replied as replied_3, opening_replied, heard as heard_4, wants}
use Rattle.link_rules.specs.Subscribing.{begins, asks_again, transferred, in_transferring, goes_on, brings_again, message_again, in_republishing, adds_items, subscribed, in_subscribing, added, in_adding}
use Rattle.link_rules.specs.Time.{reads_level, renews_token, keeps_up, ticked as ticked_5}
use Rattle.message_ends.specs.Talk.{heard_one}
use Rattle.scenario.specs.Generate.{next_state, drawn}
use Rattle.server_rules.specs.Acts.{state_after, history}
use Rattle.server_rules.specs.Answering.{refused_on, replied_within, replied_on, replied as replied_6}
use Rattle.server_rules.specs.Connecting.{opened as opened_7, closed as closed_8, acknowledged, greeting, closing, hears as hears_9}
use Rattle.server_rules.specs.Durations.{revised_duration, duration_bits}
use Rattle.server_rules.specs.Items.{judged, item_result, with_item, create_items, item_known, with_mode_set, set_modes, without_item_of, delete_items}
use Rattle.server_rules.specs.Moves.{noticed, told as told_10, served_within, answered_within, left, deleted, expired_sub, transferred_sub}
use Rattle.server_rules.specs.Opening.{granted_on, granted, issued, token_renewed, opened_for, opening}
use Rattle.server_rules.specs.Publishing.{sent, sent_within, sends, enqueued, used, taken as taken_11, publish}
use Rattle.server_rules.specs.Reading.{nodes_of, value_read, read, called, call}
use Rattle.server_rules.specs.Requests.{sub_served, session_served, served, requested}
use Rattle.server_rules.specs.Sessions.{endpoint, servers_listed, find_servers, get_endpoints, created_response, creation_answered, create_session, activation_done, session_activated, activate_session, close_answered, session_closed, close_session}
use Rattle.server_rules.specs.Step.{heard as heard_12, fed, leveled}
use Rattle.server_rules.specs.Subscriptions.{revised_spec, with_new_sub, create_sub, modify_sub, sub_known, with_publishing, set_publishing, republish, transfer_result, transfer_one, transfer_subs, delete_one, delete_subs}
use Rattle.server_rules.specs.Timer.{cycle, moment, millisecond, ticked as ticked_13}
use Rattle.set_rules.specs.Moves.{gathered_among}
use Rattle.set_rules.specs.Rounds.{turns_among, rounds, ticked_among}
use Rattle.set_rules.specs.Slots.{currents}
use Rattle.set_rules.specs.World.{new_slots}
use Rattle.set_world.specs.Texts.{members, urls}
use Rattle.ua_channel.specs.Arriving.{heard_next}
use Rattle.ua_channel.specs.Hearing.{hearing}
use Rattle.ua_channel.specs.Messages.{hearing_of, message_told, message_after}
use Rattle.ua_channel.specs.Node.{told as told_14, with_frame, stepped, node_after}
use Rattle.ua_channel.specs.Orders.{put_on}
use Rattle.ua_chunks.specs.Assembly.{after_frame, message_of}
use Rattle.ua_chunks.specs.Frames.{header_of, framed}
use Rattle.ua_chunks.specs.Framing.{after_feed, frames_of}
use Rattle.ua_chunks.specs.Sending.{message_parts}
use Rattle.ua_chunks.specs.Traffic.{hears as hears_15}
use Rattle.ua_client.specs.State.{first_ends}
use Rattle.ua_client.specs.Step.{taken as taken_16, shut_among}
use Rattle.ua_server.specs.Step.{taken as taken_17}
use Rattle.ua_session_msgs.specs.Structures.{a_channel_security_token, an_open_secure_channel_request, an_open_secure_channel_response, an_application_description, a_user_token_policy, an_endpoint_description, a_find_servers_request, a_find_servers_response, a_get_endpoints_request, a_get_endpoints_response, a_signature_data, a_signed_software_certificate, an_anonymous_identity_token, a_create_session_request, a_create_session_response, an_activate_session_request, an_activate_session_response, a_close_session_request, a_read_request, a_read_response, a_call_method_request, a_call_method_result, a_call_request, a_call_response}
use Rattle.ua_structures.specs.Structures.{an_unused_of_request, an_unused_of_response, unused_diagnostics, a_request_header, a_response_header, a_read_value_id}
use Rattle.ua_sub_msgs.specs.Structures.{a_results_response, a_data_change_filter, a_monitoring_parameters, a_monitored_item_create_request, a_monitored_item_create_result, a_create_monitored_items_request, a_create_monitored_items_response, a_set_monitoring_mode_request, a_delete_monitored_items_request, a_monitored_item_notification, a_data_change_notification, a_status_change_notification, a_notification_message, a_create_subscription_request, a_create_subscription_response, a_modify_subscription_request, a_modify_subscription_response, a_set_publishing_mode_request, a_transfer_subscriptions_request, a_transfer_result, a_transfer_subscriptions_response, a_delete_subscriptions_request, a_subscription_acknowledgement, a_publish_request, a_publish_response, a_republish_request, a_republish_response}
use Rattle.ua_variants.specs.Grammar.{diagnostic_info, diagnostic_cut, variant_spells, data_value, variant_cut, data_value_cut}
use Rattle.ua_variants.specs.Keeps.{KeepsVariant, KeepsDataValue}
use Rattle.ua_variants.specs.Reader.{diagnostic_at, variant_at, data_value_at}
use Rattle.ua_variants.specs.Spelling.{written_within, written_variant}
use Rattle.ua_variants.specs.declared.variant.Variant.{out-Variant}
use Rattle.worked_sets.proofs.rows.worked_sets_have_their_reports.Goals as goal

pub returns : goal.returns
unfolding seen_of arrived_of dials_among are_idle first_to_dial dialled each_server history_after told_0 all_told linked_by ready_among chosen told_mode round settled_within after after_all asked asked_opening dropped broken content_of kept_alive data_taken greets opened_1 refused closed_2 opens_channel acknowledged_by greeted_by greeted renews creates_session channel_replied_in in_opening published publishes fills tells_sent sets sets_mode enters_ready subscribes restarts brings publish_replied_by publish_replied publish_refused leaves_low level_told level_replied confirms mode_replied in_ready channel_request session_request_of activation_request probe_request level_request subscription_request transfer_request republish_request publish_request item_request items_request mode_request activates in_creating probes in_activating unsupported judges probed_by probed in_probing replied_3 opening_replied heard_4 wants begins asks_again transferred in_transferring goes_on brings_again message_again in_republishing adds_items subscribed in_subscribing added in_adding reads_level renews_token keeps_up ticked_5 heard_one next_state drawn state_after history refused_on replied_within replied_on replied_6 opened_7 closed_8 acknowledged greeting closing hears_9 revised_duration duration_bits judged item_result with_item create_items item_known with_mode_set set_modes without_item_of delete_items noticed told_10 served_within answered_within left deleted expired_sub transferred_sub granted_on granted issued token_renewed opened_for opening sent sent_within sends enqueued used taken_11 publish nodes_of value_read read called call sub_served session_served served requested endpoint servers_listed find_servers get_endpoints created_response creation_answered create_session activation_done session_activated activate_session close_answered session_closed close_session heard_12 fed leveled revised_spec with_new_sub create_sub modify_sub sub_known with_publishing set_publishing republish transfer_result transfer_one transfer_subs delete_one delete_subs cycle moment millisecond ticked_13 gathered_among turns_among rounds ticked_among currents new_slots members urls heard_next hearing hearing_of message_told message_after told_14 with_frame stepped node_after put_on after_frame message_of header_of framed after_feed frames_of message_parts hears_15 first_ends taken_16 shut_among taken_17 a_channel_security_token an_open_secure_channel_request an_open_secure_channel_response an_application_description a_user_token_policy an_endpoint_description a_find_servers_request a_find_servers_response a_get_endpoints_request a_get_endpoints_response a_signature_data a_signed_software_certificate an_anonymous_identity_token a_create_session_request a_create_session_response an_activate_session_request an_activate_session_response a_close_session_request a_read_request a_read_response a_call_method_request a_call_method_result a_call_request a_call_response an_unused_of_request an_unused_of_response unused_diagnostics a_request_header a_response_header a_read_value_id a_results_response a_data_change_filter a_monitoring_parameters a_monitored_item_create_request a_monitored_item_create_result a_create_monitored_items_request a_create_monitored_items_response a_set_monitoring_mode_request a_delete_monitored_items_request a_monitored_item_notification a_data_change_notification a_status_change_notification a_notification_message a_create_subscription_request a_create_subscription_response a_modify_subscription_request a_modify_subscription_response a_set_publishing_mode_request a_transfer_subscriptions_request a_transfer_result a_transfer_subscriptions_response a_delete_subscriptions_request a_subscription_acknowledgement a_publish_request a_publish_response a_republish_request a_republish_response diagnostic_info diagnostic_cut variant_spells data_value variant_cut data_value_cut KeepsVariant KeepsDataValue diagnostic_at variant_at data_value_at written_within written_variant out-Variant denote.Hole.Carrier.out Rattle.std.specs.Fmt.digits
returns c = (refl, (refl, (refl, (refl, (refl, (refl, (refl, (refl, (refl, tt)))))))))
