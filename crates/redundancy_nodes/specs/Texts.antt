-- The arrays of texts that nodes of namespace 0 have.
use Rattle.std.specs.Prelude.{ℕ, List, [], ◌∷◌, map, codes, Option, Some}
use Rattle.redundancy_nodes.specs.declared.member.Member.{Member}

-- ServerArray (OPC 10000-5, 6.3.1): a server that is no aggregate names itself alone
abbrev pub servers_of : Option (List ℕ) → List (Option (List ℕ))
servers_of uri = uri ∷ []

-- NamespaceArray (OPC 10000-5, 6.3.1): the standard's namespace, the server's own, and that of the items
abbrev pub namespaces_of : Option (List ℕ) → List (Option (List ℕ))
namespaces_of uri = Some (codes "http://opcfoundation.org/UA/") ∷ uri ∷ Some (codes "urn:uaset:plant") ∷ []

-- ServerUriArray (OPC 10000-5, 6.3.9): the members of the set, in order
abbrev pub uris_of : List Member → List (Option (List ℕ))
uris_of members = map (λ member. member.uri) members
