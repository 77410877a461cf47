-- Which ids have a value.
use Rattle.std.proofs.Common.{◌≡◌, ℕ, ◌≤◌, Bool, true, false, ◌||◌, ◌&&◌, ◌==◌, nat_lt, nat_le, Option, Some, None, is_some, refl, sym, ◌∙◌, ap, inl, inr, ⊎_elim, arith}
use Rattle.std.specs.Prelude.{IsOk, IsSome, ◌≢◌, Err, ◌↔◌, if◌then◌else◌}
use Rattle.std.specs.List.{list_any}
use Rattle.std.proofs.lemmas.Bool.Decides.{nat_tests}
use Rattle.ua_values.specs.declared.node.NodeId.{NodeId}
use Rattle.ua_values.specs.declared.node.NodeId.TheVariants as id
use Rattle.std.proofs.lemmas.Bool.{ne_eqb}
use Rattle.ua_base.specs.Status.{bad_node_id_unknown, bad_attribute_id_invalid}
use Rattle.redundancy_nodes.specs.declared.node.Node.{Node}
use Rattle.redundancy_nodes.specs.declared.nodes.Nodes.{Nodes}
use Rattle.redundancy_nodes.specs.Read.{checked_node, read_checked, read_of}
use Rattle.redundancy_nodes.specs.Node.{server_node, item_node, numeric_node, node_of, server_numbers, HasValue}

some_else : {A : Type 0} (b : Bool) (x : A) (o : Option A) (rest : Bool) → is_some o ≡ rest → is_some (if b then Some x else o) ≡ (b || rest)
some_else true x o rest is = refl
some_else false x o rest is = is

some_server : (number : ℕ) → is_some (server_node number) ≡ list_any (λ known. number == known) server_numbers
some_server number =
    some_else (number == 2254) _ _ _ (some_else (number == 2255) _ _ _ (some_else (number == 2257) _ _ _ (some_else (number == 2258) _ _ _
    (some_else (number == 2259) _ _ _ (some_else (number == 2267) _ _ _ (some_else (number == 3709) _ _ _ (some_else (number == 11314) _ _ _ refl)))))))

some_if : {A : Type 0} (b : Bool) (x : A) → is_some (if b then Some x else None) ≡ b
some_if true x = refl
some_if false x = refl

some_item : (items number : ℕ) → is_some (item_node items number) ≡ (nat_lt 0 number && nat_le number items)
some_item items number = some_if (nat_lt 0 number && nat_le number items) _

numeric_by : (zero two : Bool) (items namespace number : ℕ) → (namespace == 0) ≡ zero → (namespace == 2) ≡ two
    → IsSome (numeric_node items namespace number) ↔ HasValue items (id.Numeric namespace number)
numeric_by true two items namespace number zero two_is =
    let is : numeric_node items namespace number ≡ server_node number = rw zero refl in
    let none : namespace ≡ 0 = grind (arith, nat_tests) in (
      λ some. inl (none, sym (some_server number) ∙ ap is_some (sym is) ∙ some),
      ⊎_elim
          (λ (h : (namespace ≡ 0) × (list_any (λ known. number == known) server_numbers ≡ true)). ap is_some is ∙ some_server number ∙ h.1)
          (λ (h : (namespace ≡ 2) × (1 ≤ number) × (number ≤ items)). absurd (omega (arith, h.0))),
    )
numeric_by false true items namespace number zero two =
    let is : numeric_node items namespace number ≡ item_node items number = rw (zero, two) refl in
    let second : namespace ≡ 2 = grind (arith, nat_tests) in (
      λ some.
          let test : (nat_lt 0 number && nat_le number items) ≡ true = sym (some_item items number) ∙ ap is_some (sym is) ∙ some in
          inr (second, grind (arith, nat_tests), grind (arith, nat_tests)),
      ⊎_elim
          (λ (h : (namespace ≡ 0) × (list_any (λ known. number == known) server_numbers ≡ true)). absurd (omega (arith, h.0)))
          (λ (h : (namespace ≡ 2) × (1 ≤ number) × (number ≤ items)).
          let least = h.1 in
          let most = h.2 in
          let test : (nat_lt 0 number && nat_le number items) ≡ true = grind (arith, nat_tests) in
          ap is_some is ∙ some_item items number ∙ test),
    )
numeric_by false false items namespace number zero two =
    let is : numeric_node items namespace number ≡ None = rw (zero, two) refl in (
      λ some. let no : false ≡ true = ap is_some (sym is) ∙ some in absurd cc,
      ⊎_elim
          (λ (h : (namespace ≡ 0) × (list_any (λ known. number == known) server_numbers ≡ true)). let e = h.0 in absurd (grind (arith, nat_tests)))
          (λ (h : (namespace ≡ 2) × (1 ≤ number) × (number ≤ items)). let e = h.0 in absurd (grind (arith, nat_tests))),
    )

pub known : (items : ℕ) (i : NodeId) → IsSome (node_of items i) ↔ HasValue items i
known items (id.Numeric namespace number) = numeric_by _ _ items namespace number refl refl
known items (id.Text namespace name) = (λ some. absurd cc, λ none. absurd none)
known items (id.Guid namespace name) = (λ some. absurd cc, λ none. absurd none)
known items (id.Opaque namespace name) = (λ some. absurd cc, λ none. absurd none)

-- the answers, by whether there is such a node
refused_by : (nodes : Nodes) (attribute : ℕ) (o : Option Node) → (IsSome o → ⊥) → read_checked nodes (checked_node attribute o) ≡ Err bad_node_id_unknown
refused_by nodes attribute None none = refl
refused_by nodes attribute (Some node) none = absurd (none refl)

pub refused : (nodes : Nodes) (i : NodeId) (attribute : ℕ) → (HasValue nodes.items i → ⊥) → read_of nodes i attribute ≡ Err bad_node_id_unknown
refused nodes i attribute none = refused_by nodes attribute (node_of nodes.items i) (λ some. none ((known nodes.items i).0 some))

not_read_by : (nodes : Nodes) (attribute : ℕ) (o : Option Node) → IsSome o → (attribute == 13) ≡ false
    → read_checked nodes (checked_node attribute o) ≡ Err bad_attribute_id_invalid
not_read_by nodes attribute None some is = absurd cc
not_read_by nodes attribute (Some node) some is = rw is refl

pub not_read : (nodes : Nodes) (i : NodeId) (attribute : ℕ) → HasValue nodes.items i → attribute ≢ 13 → read_of nodes i attribute ≡ Err bad_attribute_id_invalid
not_read nodes i attribute has other =
    not_read_by nodes attribute (node_of nodes.items i) ((known nodes.items i).1 has) (ne_eqb attribute 13 other)

read_by : (nodes : Nodes) (o : Option Node) → IsSome o → IsOk (read_checked nodes (checked_node 13 o))
read_by nodes None some = absurd cc
read_by nodes (Some node) some = refl

pub is_read : (nodes : Nodes) (i : NodeId) → HasValue nodes.items i → IsOk (read_of nodes i 13)
is_read nodes i has = read_by nodes (node_of nodes.items i) ((known nodes.items i).1 has)
