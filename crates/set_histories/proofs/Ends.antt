-- What the ends of a node put, whatever tokens they take.
use Rattle.std.proofs.Common.{◌≡◌, ℕ, ◌==◌, Bool, true, false, cond, List, [], ◌∷◌, ◌++◌, map, Option, Some, None, refl, sym, ap, ◌∙◌, append_assoc}
use Rattle.std.proofs.lemmas.List.{append-nil}
use Rattle.ua_channel.specs.declared.wire.Order.{Order}
use Rattle.ua_channel.specs.declared.wire.Order.TheVariants as order
use Rattle.ua_channel.specs.declared.ear.Ear.{Ear}
use Rattle.ua_channel.specs.declared.heard.Heard.{Heard}
use Rattle.ua_channel.specs.State.{WireState, is_deaf}
use Rattle.ua_channel.specs.Messages.{hearing_of}
use Rattle.ua_channel.specs.Sharing.{own}
use Rattle.ua_channel.specs.Orders.{put_by, puts_of}
use Rattle.message_ends.specs.Ends.{MessageEnd, MessageEnds, obeyed, obeyed_all, obeyed_by, set_end}
use Rattle.message_ends.specs.Talk.{Talk, judged, settled_by, told}
use Rattle.message_ends.proofs.Lookups.{number_is, same_number}

-- the messages of an end, if one stands
abbrev pub outs : Option MessageEnd → Option (List WireState)
outs None = None
outs (Some e) = Some e.out

abbrev pub grown : List WireState → Option (List WireState) → Option (List WireState)
grown more None = None
grown more (Some out) = Some (out ++ more)

-- ---- orders

one_puts : (o : Order) (e : MessageEnd) → (obeyed o e).out ≡ e.out ++ put_by o
one_puts (order.Put wire) e = refl
one_puts (order.Limit limits) e = sym (append-nil e.out)
one_puts (order.Renew channel token) e = sym (append-nil e.out)

all_put : (orders : List Order) (e : MessageEnd) → (obeyed_all orders e).out ≡ e.out ++ puts_of orders
all_put [] e = sym (append-nil e.out)
all_put (o ∷ orders) e =
    all_put orders (obeyed o e) ∙ ap (λ (l : List WireState). l ++ puts_of orders) (one_puts o e) ∙ append_assoc e.out (put_by o) (puts_of orders)

pub obeyed_outs : (orders : List Order) (o : Option MessageEnd) → outs (obeyed_by orders o) ≡ grown (puts_of orders) (outs o)
obeyed_outs orders None = refl
obeyed_outs orders (Some e) = ap (λ (l : List WireState). Some l) (all_put orders e)

pub own_append : (k : ℕ) (one more : List (ℕ × Order)) → own k (one ++ more) ≡ own k one ++ own k more
own_append k [] more = refl
own_append k (o ∷ one) more =
    ap (λ (l : List Order). cond (o.0 == k) (o.1 ∷ []) [] ++ l) (own_append k one more) ∙ sym (append_assoc (cond (o.0 == k) (o.1 ∷ []) []) (own k one) (own k more))

pub puts_append : (one more : List Order) → puts_of (one ++ more) ≡ puts_of one ++ puts_of more
puts_append [] more = refl
puts_append (o ∷ one) more =
    ap (λ (l : List WireState). put_by o ++ l) (puts_append one more) ∙ sym (append_assoc (put_by o) (puts_of one) (puts_of more))

pub map_append : {A B : Type 0} (f : A → B) (one more : List A) → map f (one ++ more) ≡ map f one ++ map f more
map_append f [] more = refl
map_append f (x ∷ one) more = ap (λ l. f x ∷ l) (map_append f one more)

-- ---- ends that are set

pub set_same : (k : ℕ) (end : Option MessageEnd) (ends : MessageEnds) → set_end k end ends k ≡ end
set_same k end ends = ap (λ b. cond b end (ends k)) (same_number k)

pub set_other : (k conn : ℕ) (end : Option MessageEnd) (ends : MessageEnds) → (k == conn) ≡ false → set_end conn end ends k ≡ ends k
set_other k conn end ends differ = ap (λ b. cond b end (ends k)) differ

-- an end in whose place one with the same messages comes
same_by : (b : Bool) (k conn : ℕ) (end : Option MessageEnd) (ends : MessageEnds) → (k == conn) ≡ b → outs end ≡ outs (ends conn) → outs (cond b end (ends k)) ≡ outs (ends k)
same_by true k conn end ends is same = same ∙ ap (λ n. outs (ends n)) (sym (number_is k conn is))
same_by false k conn end ends is same = refl

pub set_outs : (k conn : ℕ) (end : Option MessageEnd) (ends : MessageEnds) → outs end ≡ outs (ends conn) → outs (set_end conn end ends k) ≡ outs (ends k)
set_outs k conn end ends same = same_by (k == conn) k conn end ends refl same

-- ---- a hub that hears

module _ {H : Type 0} (ears : ℕ → H → Ear) (answers : ℕ → Heard → H → H × List (ℕ × Order)) where
  pub settled_out : (o : Option MessageEnd) → outs (settled_by ears answers o) ≡ outs o
  settled_out None = refl
  settled_out (Some e) = refl

  settled_if : (b : Bool) (k conn : ℕ) (t : Talk H) → outs ((cond b (record t { ends = set_end conn (settled_by ears answers (t.ends conn)) t.ends }) t).ends k) ≡ outs (t.ends k)
  settled_if true k conn t = set_outs k conn (settled_by ears answers (t.ends conn)) t.ends (settled_out (t.ends conn))
  settled_if false k conn t = refl

  settled_hub : (b : Bool) (conn : ℕ) (t : Talk H) → (cond b (record t { ends = set_end conn (settled_by ears answers (t.ends conn)) t.ends }) t).hub ≡ t.hub
  settled_hub true conn t = refl
  settled_hub false conn t = refl

  -- what a message that is heard makes of the hub, and of what its ends put
  pub record HasHeard (conn : ℕ) (h : Heard) (t u : Talk H) : Type 0 where
    pub hub : u.hub ≡ (answers conn h t.hub).0
    pub outs : (k : ℕ) → outs (u.ends k) ≡ grown (puts_of (own k (answers conn h t.hub).1)) (outs (t.ends k))

  pub has_heard : (conn : ℕ) (wire : WireState) (e : MessageEnd) (t : Talk H) → t.ends conn ≡ Some e
      → HasHeard conn (hearing_of (ears conn t.hub) wire e.tokens).heard t (judged ears answers conn (hearing_of (ears conn t.hub) wire e.tokens) e t)
  has_heard conn wire e t is =
      let j = hearing_of (ears conn t.hub) wire e.tokens in
      let before : Talk H = record t { ends = set_end conn (Some (record e { tokens = j.tokens })) t.ends } in
      let after : Talk H = told ears answers conn j.heard before in
      record {
        hub = settled_hub (is_deaf (ears conn after.hub)) conn after;
        outs = λ k. settled_if (is_deaf (ears conn after.hub)) k conn after ∙ obeyed_outs (own k (answers conn j.heard t.hub).1) (before.ends k)
            ∙ ap (grown (puts_of (own k (answers conn j.heard t.hub).1))) (set_outs k conn (Some (record e { tokens = j.tokens })) t.ends (sym (ap (λ (o : Option MessageEnd). outs o) is)));
      }
