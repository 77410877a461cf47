-- What the nodes of a set are made with: the names of its servers, and how it uses them.
use Rattle.std.specs.Prelude.{ℕ, ◌+◌, zero, suc, pos, Bool, List, [], ◌∷◌, ◌++◌, Option, Some, codes}
use Rattle.std.specs.Fmt.{decimal}
use Rattle.ua_base.specs.declared.modes.SetMode.{SetMode}
use Rattle.ua_base.specs.declared.modes.SetMode.TheVariants.{Direct, Hot, Warm, Cold}
use Rattle.redundancy_nodes.specs.declared.member.Member.{Member}
use Rattle.server_rules.specs.declared.config.ServerConfig.{ServerConfig}
use Rattle.client_rules.specs.declared.config.ClientConfig.{ClientConfig}

-- each server has a name and an address by its number
abbrev pub uri_text : ℕ → List ℕ
uri_text number = codes "urn:uaset:server:" ++ decimal number

abbrev pub url_text : ℕ → List ℕ
url_text number = codes "opc.tcp://server" ++ decimal number ++ codes ":4840"

abbrev pub member : ℕ → Member
member number = record { uri = Some (uri_text number); url = Some (url_text number) }

-- those of so many servers, in order
unfoldable pub members : ℕ → List Member
members zero = []
members (suc count) = members count ++ member (count + 1) ∷ []

unfoldable pub urls : ℕ → List (Option (List ℕ))
urls zero = []
urls (suc count) = urls count ++ Some (url_text (count + 1)) ∷ []

-- RedundancySupport, by its number (OPC 10000-5, 12.5); a direct set has none
abbrev pub support_of : SetMode → ℕ
support_of Direct = 0
support_of Hot = 3
support_of Warm = 2
support_of Cold = 1

-- every node starts at this DateTime (the subject's own choice)
abbrev pub server_config : SetMode → ℕ → ℕ → ℕ → ℕ → ServerConfig
server_config mode servers items number boot = record {
  boot = boot;
  number = number;
  support = support_of mode;
  members = members servers;
  items = items;
  start = pos 132000000000000000;
}

abbrev pub client_config : SetMode → ℕ → ℕ → ℕ → Bool → ClientConfig
client_config mode servers items queue oldest = record {
  mode = mode;
  urls = urls servers;
  items = items;
  queue = queue;
  oldest = oldest;
  start = pos 132000000000000000;
}
