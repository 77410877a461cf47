-- A client's life, from its beginning on: its acts, what its log saw of them, and what it comes to.
use Rattle.std.specs.Prelude.{List, []}
use Rattle.delivery_log.specs.History.{Act}
use Rattle.client_rules.specs.declared.config.ClientConfig.{ClientConfig}
use Rattle.client_rules.specs.State.{ClientState}
use Rattle.client_rules.specs.Acts.{ClientAct}
use Rattle.client_rules.specs.Doing.{ClientDid}
use Rattle.client_rules.specs.Step.{Moment, after_all, new_client}
use Rattle.client_rules.specs.History.{history_after}

abbrev pub life : ClientConfig → List Moment → ClientDid
life config moments = after_all moments (new_client config)

abbrev pub client_after : ClientConfig → List Moment → ClientState
client_after config moments = (life config moments).client

abbrev pub acts_of : ClientConfig → List Moment → List ClientAct
acts_of config moments = (life config moments).acts

-- newest first
abbrev pub history_of : ClientConfig → List Moment → List Act
history_of config moments = history_after config.mode config.items (acts_of config moments) []
