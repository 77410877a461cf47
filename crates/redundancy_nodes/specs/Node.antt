-- The nodes that have a value (OPC 10000-6, A.3, gives the numbers of namespace 0).
use Rattle.std.specs.Prelude.{◌≡◌, ◌≤◌, ◌⊎◌, ℕ, ◌==◌, ◌&&◌, nat_lt, nat_le, List, [], ◌∷◌, true, Option, Some, None, if◌then◌else◌}
use Rattle.std.specs.List.{list_any}
use Rattle.ua_values.specs.declared.node.NodeId.{NodeId}
use Rattle.ua_values.specs.declared.node.NodeId.TheVariants as id
use Rattle.redundancy_nodes.specs.declared.node.Node.{Node}
use Rattle.redundancy_nodes.specs.declared.node.Node.TheVariants as node

-- the nodes of namespace 0
abbrev pub server_node : ℕ → Option Node
server_node number =
    if number == 2254 then Some node.ServerArray
    else if number == 2255 then Some node.NamespaceArray
    else if number == 2257 then Some node.StartTime
    else if number == 2258 then Some node.CurrentTime
    else if number == 2259 then Some node.State
    else if number == 2267 then Some node.ServiceLevel
    else if number == 3709 then Some node.RedundancySupport
    else if number == 11314 then Some node.ServerUriArray
    else None

-- the nodes of namespace 2: the items, counted from 1
abbrev pub item_node : ℕ → ℕ → Option Node
item_node items number = if nat_lt 0 number && nat_le number items then Some (node.Item number) else None

abbrev pub numeric_node : ℕ → ℕ → ℕ → Option Node
numeric_node items namespace number =
    if namespace == 0 then server_node number
    else if namespace == 2 then item_node items number
    else None

-- the node of an id, in a server of so many items
abbrev pub node_of : ℕ → NodeId → Option Node
node_of items (id.Numeric namespace number) = numeric_node items namespace number
node_of items (id.Text namespace name) = None
node_of items (id.Guid namespace name) = None
node_of items (id.Opaque namespace name) = None

-- the numbers of namespace 0 that have a value
abbrev pub server_numbers : List ℕ
server_numbers = 2254 ∷ 2255 ∷ 2257 ∷ 2258 ∷ 2259 ∷ 2267 ∷ 3709 ∷ 11314 ∷ []

-- an id of one of these, or of one of so many items
abbrev pub HasValue : ℕ → NodeId → Type 0
HasValue items (id.Numeric namespace number) =
    ((namespace ≡ 0) × (list_any (λ known. number == known) server_numbers ≡ true)) ⊎ ((namespace ≡ 2) × (1 ≤ number) × (number ≤ items))
HasValue items (id.Text namespace name) = ⊥
HasValue items (id.Guid namespace name) = ⊥
HasValue items (id.Opaque namespace name) = ⊥
