use Rattle.std.proofs.Common.{◌∙◌, Ok, None, Some, ap, arith, refl}
use Rattle.redundancy_nodes.specs.Values.{item_value, value_of}
use Rattle.redundancy_nodes.specs.declared.node.Node.TheVariants as node
use Rattle.redundancy_nodes.proofs.Sent.{byte_sent, change_sent, item_read, pico_sent, support_sent, texts_sent, time_sent}
use Rattle.redundancy_nodes.proofs.laws.values_are_sent.Goals as goal

pub returns-clause-server_array : goal.returns-clause-server_array
returns-clause-server_array c = λ nodes. (value_of nodes node.ServerArray, refl, texts_sent _)

pub returns-clause-namespace_array : goal.returns-clause-namespace_array
returns-clause-namespace_array c = λ nodes. (value_of nodes node.NamespaceArray, refl, texts_sent _)

pub returns-clause-start_time : goal.returns-clause-start_time
returns-clause-start_time c = λ nodes. (value_of nodes node.StartTime, refl, time_sent nodes.start)

pub returns-clause-current_time : goal.returns-clause-current_time
returns-clause-current_time c = λ nodes. (value_of nodes node.CurrentTime, refl, time_sent nodes.now)

pub returns-clause-state : goal.returns-clause-state
returns-clause-state c = λ nodes. (value_of nodes node.State, refl, support_sent 0 (omega arith))

pub returns-clause-service_level : goal.returns-clause-service_level
returns-clause-service_level c = λ nodes within. (value_of nodes node.ServiceLevel, refl, byte_sent _ within)

pub returns-clause-support : goal.returns-clause-support
returns-clause-support c = λ nodes within. (value_of nodes node.RedundancySupport, refl, support_sent _ within)

pub returns-clause-server_uri_array : goal.returns-clause-server_uri_array
returns-clause-server_uri_array c = λ nodes. (value_of nodes node.ServerUriArray, refl, texts_sent _)

pub returns-clause-item : goal.returns-clause-item
returns-clause-item c = λ nodes number change least most is none.
    (item_value (Some change), item_read nodes number least most ∙ ap (λ o. Ok (item_value o)) is, change_sent change none)

pub returns-clause-item_with_pico : goal.returns-clause-item_with_pico
returns-clause-item_with_pico c = λ nodes number change least most is some.
    (item_value (Some change), item_read nodes number least most ∙ ap (λ o. Ok (item_value o)) is, pico_sent change some)

pub returns-clause-no_change : goal.returns-clause-no_change
returns-clause-no_change c = λ nodes number least most is.
    (item_value None, item_read nodes number least most ∙ ap (λ o. Ok (item_value o)) is, refl)
