-- What a subscription kept at any time of a life (OPC 10000-4, 5.13.1.1).
use Rattle.std.specs.Prelude.{◌≡◌, ◌++◌, ℕ, List}
use Rattle.ua_sub_msgs.specs.declared.notification.NotificationMessage.{NotificationMessage}
use Rattle.server_rules.specs.State.{ServerState}
use Rattle.server_rules.specs.Step.{Happening}
use Rattle.server_rules.specs.Acts.{state_after}
use Rattle.server_laws.specs.Beginning.{KeptUnder}
use Rattle.server_laws.specs.Lives.{IsSent}

-- whatever the subscription of an id kept at any time is one of these messages, under the number under which it was kept
abbrev pub AreKeptOf : ℕ → List Happening → ServerState → List NotificationMessage → Type 0
AreKeptOf id happenings s messages = (later earlier : List Happening) (number : ℕ) (message : NotificationMessage)
    → happenings ≡ later ++ earlier → KeptUnder id number message (state_after earlier s) → IsSent number message messages
