-- An end that is taken out, changed and put back.
use Rattle.std.proofs.Common.{◌≡◌, ℕ, Bool, true, false, cond, List, [], ◌∷◌, Option, Some, None, is_some, unwrap_or, refl, sym, ap, ◌∙◌}
use Rattle.std.specs.Ordering.{nat_cmp}
use Rattle.std.specs.BTreeMap.{is_at}
use Rattle.std.specs.Map.{set_value}
use Rattle.ua_channel.specs.declared.ear.Ear.{Ear}
use Rattle.ua_channel.specs.declared.heard.Heard.{Heard}
use Rattle.ua_channel.specs.declared.hub.Rest.{Rest}
use Rattle.ua_channel.specs.declared.wire.Order.{Order}
use Rattle.ua_channel.specs.State.{ChannelState, blank_end}
use Rattle.ua_channel.specs.Orders.{obeyed}
use Rattle.ua_channel.specs.Sharing.{Ends, end_at, obeyed_at, obeyed_by, others, own, put_back, taken_at, taken_by, with_end}
use Rattle.ua_channel.specs.Node.{node_after, node_of}

set_by : (b : Bool) (t : ℕ → Bool) (e : ℕ × ChannelState) (es : Ends) (x y : ChannelState) → t e.0 ≡ b → set_value t (set_value t es x) y ≡ set_value t es y
    → set_value t (set_value t (e ∷ es) x) y ≡ set_value t (e ∷ es) y
set_by true t e es x y h others =
    ap (λ b. set_value t (cond b ((e.0, x) ∷ es) (e ∷ set_value t es x)) y) h
    ∙ ap (λ b. cond b ((e.0, y) ∷ es) ((e.0, x) ∷ set_value t es y)) h
    ∙ sym (ap (λ b. cond b ((e.0, y) ∷ es) (e ∷ set_value t es y)) h)
set_by false t e es x y h others =
    ap (λ b. set_value t (cond b ((e.0, x) ∷ es) (e ∷ set_value t es x)) y) h
    ∙ ap (λ b. cond b ((e.0, y) ∷ set_value t es x) (e ∷ set_value t (set_value t es x) y)) h
    ∙ ap (λ (l : Ends). e ∷ l) others
    ∙ sym (ap (λ b. cond b ((e.0, y) ∷ es) (e ∷ set_value t es y)) h)

-- what was put in between is forgotten
pub set_twice : (t : ℕ → Bool) (es : Ends) (x y : ChannelState) → set_value t (set_value t es x) y ≡ set_value t es y
set_twice t [] x y = refl
set_twice t (e ∷ es) x y = set_by (t e.0) t e es x y refl (set_twice t es x y)

there_by : (o : Option ChannelState) (number : ℕ) (order : Order) (ends : Ends) (blank : ChannelState) → is_some o ≡ true
    → with_end number (obeyed order (unwrap_or o blank)) (with_end number blank ends) ≡ obeyed_by o number order ends
there_by None number order ends blank is = absurd cc
there_by (Some c) number order ends blank is = set_twice (is_at (nat_cmp number)) ends blank (obeyed order c)

-- an order obeyed at an end that is there
pub obeyed_there : (number : ℕ) (order : Order) (ends : Ends) (blank : ChannelState) → is_some (end_at number ends) ≡ true
    → with_end number (obeyed order (unwrap_or (end_at number ends) blank)) (with_end number blank ends) ≡ obeyed_at number order ends
obeyed_there number order ends blank is = there_by (end_at number ends) number order ends blank is

-- ---- bytes for an end that is there

module _ {C : Type 0} (ears : C → Ear) (answer : Heard → C → C × List Order) (ends : C → Ends) (with_ends : Ends → C → C) where
  taken_there : (o : Option ChannelState) (conn : ℕ) (bytes : List ℕ) (r : C) (blank : ChannelState) → is_some o ≡ true → blank ≡ blank_end
      → put_back ears answer ends with_ends conn (node_after ears answer bytes (node_of (with_ends (with_end conn blank (ends r)) r) (unwrap_or o blank)))
      ≡ taken_by ears answer ends with_ends o conn bytes r
  taken_there None conn bytes r blank is e = absurd cc
  taken_there (Some c) conn bytes r blank is e =
      ap (λ (b : ChannelState). put_back ears answer ends with_ends conn (node_after ears answer bytes (node_of (with_ends (with_end conn b (ends r)) r) c))) e

module _ {H : Type 0} (ears : ℕ → H → Ear) (answers : ℕ → Heard → H → H × List (ℕ × Order)) (conn : ℕ) where
  abbrev pub rest_ears : Rest H → Ear
  rest_ears r = ears conn r.hub

  abbrev pub rest_answer : Heard → Rest H → Rest H × List Order
  rest_answer h r = (record { hub = (answers conn h r.hub).0; channels = others conn (answers conn h r.hub).1 r.channels }, own conn (answers conn h r.hub).1)

  abbrev pub rest_ends : Rest H → Ends
  rest_ends r = r.channels

  abbrev pub rest_with : Ends → Rest H → Rest H
  rest_with ends r = record r { channels = ends }

  pub taken_is : (bytes : List ℕ) (old new : Rest H) (middle back : Ends) (blank former left : ChannelState) → is_some (end_at conn old.channels) ≡ true → blank ≡ blank_end
      → middle ≡ with_end conn blank old.channels
      → former ≡ unwrap_or (end_at conn old.channels) blank
      → node_of new left ≡ node_after rest_ears rest_answer bytes (node_of (rest_with middle old) former)
      → back ≡ with_end conn left new.channels
      → rest_with back new ≡ taken_at rest_ears rest_answer rest_ends rest_with conn bytes old
  taken_is bytes old new middle back blank former left is blank_is middle_is former_is node_is back_is =
      ap (λ (es : Ends). rest_with es new) back_is
      ∙ ap (put_back rest_ears rest_answer rest_ends rest_with conn) node_is
      ∙ ap (λ (es : Ends). put_back rest_ears rest_answer rest_ends rest_with conn (node_after rest_ears rest_answer bytes (node_of (rest_with es old) former))) middle_is
      ∙ ap (λ (d : ChannelState). put_back rest_ears rest_answer rest_ends rest_with conn (node_after rest_ears rest_answer bytes (node_of (rest_with (with_end conn blank old.channels) old) d))) former_is
      ∙ taken_there rest_ears rest_answer rest_ends rest_with (end_at conn old.channels) conn bytes old blank is blank_is
