-- What a client's acts tell of its connections to a server is what its moments tell of them.
use Rattle.std.proofs.Common.{◌≡◌, ℕ, zero, suc, ◌+◌, ◌==◌, List, [], ◌∷◌, ◌++◌, map, length, Bool, true, false, Option, Some, None, if◌then◌else◌, refl, sym, ◌∙◌, ap, ap₂, arith}
use Rattle.std.proofs.lemmas.Bool.Decides.{nat_tests}
use Rattle.std.proofs.lemmas.List.{append-nil, append_assoc, map-append}
use Rattle.ua_channel.specs.declared.heard.Heard.{Heard}
use Rattle.ua_channel.specs.declared.wire.Order.{Order}
use Rattle.ua_channel.specs.State.{WireState}
use Rattle.ua_channel.specs.Orders.{put_by, puts_of}
use Rattle.ua_channel.specs.Sharing.{own}
use Rattle.failover_core.specs.declared.choice.Candidate.{Candidate}
use Rattle.failover_core.specs.Choice.{switch_of, wanted}
use Rattle.link_rules.specs.Said.{LinkDid, Said, order_of, orders_of}
use Rattle.link_rules.specs.State.{is_ready}
use Rattle.link_rules.specs.Opening as opening
use Rattle.link_rules.specs.Step as alone
use Rattle.link_rules.specs.Time.{ticked}
use Rattle.client_rules.specs.State.{ClientState, is_server, link_of}
use Rattle.client_rules.specs.Acts.{Happening, Opens, Refuses, Hears, Closes, Ticks}
use Rattle.client_rules.specs.Doing.{ClientDid, and_then, each_server, nothing}
use Rattle.client_rules.specs.Links.{linked_by}
use Rattle.client_rules.specs.Settling.{are_fewer, chosen, modes_told, ready_of, round, settled, settled_within, switched, told_mode, with_choice}
use Rattle.client_rules.specs.Step.{Ends, Goes, Moment, Takes, after, after_all, at_moment, counted, endpoint, happening, happens, is_known}
use Rattle.client_orders.proofs.Lists.{own_append, own_other, own_same}
use Rattle.client_links.specs.Links.{Opened, Passing, Put, Took, begun_with, passed_in}
use Rattle.set_meetings.proofs.Lists.{passed_append, passed_other, passed_own}
use Rattle.client_dials.specs.Spoken.{Spoken, spoken_in, spoken_with}
use Rattle.set_talks.specs.Lives.{Dial, dialled_by, dials_after, dials_with, new_dial, on_last}
use Rattle.set_histories.proofs.Dialled.{all_long, same_servers}

-- ---- what a rule says to a server

-- what passes on its connections begins so, and then all that is said is put, which is what is ordered
record Passes (server : ℕ) (begun : List Passing) (did : ClientDid) : Type 0 where
  said : List Said
  passed : passed_in server did.acts ≡ begun ++ map Put said
  orders : own server did.orders ≡ orders_of said

passes_then : (server : ℕ) (begun : List Passing) (rule : ClientState → ClientDid) (did : ClientDid) → Passes server begun did
    → Passes server [] (rule did.client) → Passes server begun (and_then rule did)
passes_then server begun rule did first second =
    let next : ClientDid = rule did.client in record {
      said = first.said ++ second.said;
      passed = passed_append server did.acts next.acts ∙ ap₂ (λ (a b : List Passing). a ++ b) first.passed second.passed
          ∙ append_assoc begun (map Put first.said) (map Put second.said)
          ∙ ap (λ (l : List Passing). begun ++ l) (sym (map-append Put first.said second.said));
      orders = own_append server did.orders next.orders ∙ ap₂ (λ (a b : List Order). a ++ b) first.orders second.orders
          ∙ sym (map-append order_of first.said second.said);
    }

passes_nothing : (server : ℕ) (c : ClientState) → Passes server [] (nothing c)
passes_nothing server c = record { said = []; passed = refl; orders = refl }

passes_if : (server : ℕ) (b : Bool) (c : ClientState) (did : ClientDid) → Passes server [] did
    → Passes server [] (if b then did else nothing c)
passes_if server true c did passes = passes
passes_if server false c did passes = passes_nothing server c

linked_test : (s server : ℕ) (did : LinkDid) (c : ClientState) (b : Bool) → (s == server) ≡ b
    → Passes server [] (linked_by s did c)
unfolding linked_by
linked_test s server did c true test = record {
  said = did.said;
  passed = passed_own s server did.notices did.said test;
  orders = own_same s server (orders_of did.said) test;
}
linked_test s server did c false test = record {
  said = [];
  passed = passed_other s server did.notices did.said test;
  orders = own_other s server (orders_of did.said) test;
}

linked_passes : (s server : ℕ) (did : LinkDid) (c : ClientState) → Passes server [] (linked_by s did c)
linked_passes s server did c = linked_test s server did c (s == server) refl

each_passes : (server : ℕ) (rule : ℕ → ClientState → ClientDid) (count : ℕ) (c : ClientState)
    → ((s : ℕ) (d : ClientState) → Passes server [] (rule s d)) → Passes server [] (each_server rule count c)
unfolding each_server
each_passes server rule zero c each = passes_nothing server c
each_passes server rule (suc count) c each =
    passes_then server [] (rule (count + 1)) (each_server rule count c) (each_passes server rule count c each)
    (each (count + 1) (each_server rule count c).client)

-- ---- what follows what links told

switched_passes : (server : ℕ) (o : Option (ℕ × ℕ)) (c : ClientState) → Passes server [] (switched o c)
switched_passes server None c = passes_nothing server c
switched_passes server (Some both) c = record { said = []; passed = refl; orders = refl }

chosen_passes : (server : ℕ) (ready : List Candidate) (c : ClientState) → Passes server [] (chosen ready c)
unfolding chosen
chosen_passes server ready c = switched_passes server (switch_of ready c.core) (with_choice ready c)

mode_passes : (server s : ℕ) (c : ClientState) → Passes server [] (told_mode s c)
unfolding told_mode
mode_passes server s c =
    passes_if server (is_ready (link_of s c)) c (linked_by s (alone.wants (wanted s c.core) (link_of s c)) c)
    (linked_passes s server (alone.wants (wanted s c.core) (link_of s c)) c)

round_passes : (server : ℕ) (ready : List Candidate) (c : ClientState) → Passes server [] (round ready c)
unfolding round
round_passes server ready c =
    passes_then server [] modes_told (chosen ready c) (chosen_passes server ready c)
    (each_passes server told_mode (length (chosen ready c).client.links) (chosen ready c).client (mode_passes server))

settled_test : (server : ℕ) (b : Bool) (rule : ClientState → ClientDid) (did : ClientDid) → Passes server [] did
    → Passes server [] (rule did.client) → Passes server [] (if b then and_then rule did else did)
settled_test server true rule did first second = passes_then server [] rule did first second
settled_test server false rule did first second = first

settled_passes : (server most : ℕ) (ready : List Candidate) (c : ClientState) → Passes server [] (settled_within most ready c)
unfolding settled_within
settled_passes server zero ready c = passes_nothing server c
settled_passes server (suc most) ready c =
    let did : ClientDid = round ready c in
    settled_test server (are_fewer (ready_of did.client) ready) (settled_within most (ready_of did.client)) did
    (round_passes server ready c) (settled_passes server most (ready_of did.client) did.client)

-- ---- events

happens_passes : (server : ℕ) (h : Happening) (c : ClientState) → Passes server [] (happens h c)
happens_passes server (Opens s) c =
    linked_passes s server (opening.opened (Some (endpoint s (counted c))) (link_of s (counted c))) (counted c)
happens_passes server (Refuses s) c = linked_passes s server (opening.refused (link_of s c)) c
happens_passes server (Hears s h) c = linked_passes s server (alone.heard h (link_of s c)) c
happens_passes server (Closes s) c = linked_passes s server (opening.closed (link_of s c)) c
happens_passes server (Ticks ms) c =
    each_passes server (λ s d. linked_by s (ticked ms (link_of s d)) d) (length c.links) c
    (λ s d. linked_passes s server (ticked ms (link_of s d)) d)

-- what isn't known isn't of a server that is

known_here : (s server : ℕ) (c : ClientState) (passing : Passing) (b : Bool) → (s == server) ≡ b → is_server s c ≡ false
    → is_server server c ≡ true → (if b then passing ∷ [] else []) ≡ []
known_here s server c passing false test away known = refl
known_here s server c passing true test away known =
    let same : s ≡ server = grind (arith, nat_tests) in
    let never : false ≡ true = sym away ∙ ap (λ n. is_server n c) same ∙ known in absurd cc

begins_nothing : (server : ℕ) (h : Happening) (c : ClientState) → is_known h c ≡ false → is_server server c ≡ true
    → begun_with server h ≡ []
begins_nothing server (Opens s) c away known = known_here s server c Opened (s == server) refl away known
begins_nothing server (Refuses s) c away known = refl
begins_nothing server (Hears s h) c away known = known_here s server c (Took h) (s == server) refl away known
begins_nothing server (Closes s) c away known = refl
begins_nothing server (Ticks ms) c away known = refl

after_test : (server : ℕ) (b : Bool) (h : Happening) (c : ClientState) → is_known h c ≡ b → is_server server c ≡ true
    → Passes server (begun_with server h) (if b then and_then settled (and_then (happens h) (happening h c)) else nothing c)
after_test server true h c test known =
    let did : ClientDid = and_then (happens h) (happening h c) in
    let begun : List Passing = begun_with server h in
    passes_then server begun settled did
    (passes_then server begun (happens h) (happening h c) (record { said = []; passed = refl; orders = refl })
    (happens_passes server h c)) (settled_passes server (length did.client.links + 1) (ready_of did.client) did.client)
after_test server false h c test known =
    record { said = []; passed = ap (λ (l : List Passing). l ++ []) (sym (begins_nothing server h c test known)); orders = refl }

after_passes : (server : ℕ) (h : Happening) (c : ClientState) → is_server server c ≡ true
    → Passes server (begun_with server h) (after h c)
unfolding after
after_passes server h c known = after_test server (is_known h c) h c refl known

-- ---- connections

-- the messages that were put on one, of all that was said there
abbrev pub dial_of : Spoken → Dial
dial_of spoken = record { heard = spoken.heard; put = puts_of (orders_of spoken.said) }

spoken_append : (first more : List Passing) (earlier : List Spoken)
    → spoken_in (first ++ more) earlier ≡ spoken_in more (spoken_in first earlier)
spoken_append [] more earlier = refl
spoken_append (passing ∷ first) more earlier = spoken_append first more (spoken_with passing earlier)

puts_append : (said more : List Said) → puts_of (orders_of (said ++ more)) ≡ puts_of (orders_of said) ++ puts_of (orders_of more)
puts_append [] more = refl
puts_append (one ∷ said) more =
    ap (λ (l : List WireState). put_by (order_of one) ++ l) (puts_append said more)
    ∙ sym (append_assoc (put_by (order_of one)) (puts_of (orders_of said)) (puts_of (orders_of more)))

-- nothing is put
none_put : (dials : List Dial) → dials ≡ on_last (λ d. record d { put = d.put ++ [] }) dials
none_put [] = refl
none_put (d ∷ dials) = ap (λ (l : List WireState). record d { put = l } ∷ dials) (sym (append-nil d.put))

said_dials : (said : List Said) (earlier : List Spoken)
    → map dial_of (spoken_in (map Put said) earlier)
    ≡ on_last (λ d. record d { put = d.put ++ puts_of (orders_of said) }) (map dial_of earlier)
said_dials [] earlier = none_put (map dial_of earlier)
said_dials (one ∷ said) [] = said_dials said []
said_dials (one ∷ said) (s ∷ earlier) =
    said_dials said (record s { said = s.said ++ one ∷ [] } ∷ earlier)
    ∙ ap (λ (l : List WireState). record { heard = s.heard; put = l } ∷ map dial_of earlier)
    (sym (puts_append (s.said ++ one ∷ []) said)
    ∙ ap (λ (l : List Said). puts_of (orders_of l)) (append_assoc s.said (one ∷ []) said) ∙ puts_append s.said (one ∷ said))

opens_dials : (b : Bool) (earlier : List Spoken)
    → map dial_of (spoken_in (if b then Opened ∷ [] else []) earlier) ≡ (if b then new_dial ∷ map dial_of earlier else map dial_of earlier)
opens_dials true earlier = refl
opens_dials false earlier = refl

hears_dials : (b : Bool) (h : Heard) (earlier : List Spoken)
    → map dial_of (spoken_in (if b then Took h ∷ [] else []) earlier)
    ≡ (if b then on_last (λ d. record d { heard = d.heard ++ h ∷ [] }) (map dial_of earlier) else map dial_of earlier)
hears_dials true h [] = refl
hears_dials true h (s ∷ earlier) = refl
hears_dials false h earlier = refl

begun_dials : (server : ℕ) (h : Happening) (c : ClientState) (earlier : List Spoken)
    → map dial_of (spoken_in (begun_with server h) earlier) ≡ dialled_by server h c (map dial_of earlier)
begun_dials server (Opens s) c earlier = opens_dials (s == server) earlier
begun_dials server (Refuses s) c earlier = refl
begun_dials server (Hears s h) c earlier = hears_dials (s == server) h earlier
begun_dials server (Closes s) c earlier = refl
begun_dials server (Ticks ms) c earlier = refl

moment_dials : (server : ℕ) (m : Moment) (c : ClientState) (earlier : List Spoken) → is_server server c ≡ true
    → map dial_of (spoken_in (passed_in server (at_moment m c).acts) earlier) ≡ dials_with server m c (map dial_of earlier)
moment_dials server (Goes h) c earlier known =
    let begun : List Passing = begun_with server h in
    let does : Passes server begun (after h c) = after_passes server h c known in
    ap (λ (l : List Passing). map dial_of (spoken_in l earlier)) does.passed
    ∙ ap (λ (l : List Spoken). map dial_of l) (spoken_append begun (map Put does.said) earlier)
    ∙ said_dials does.said (spoken_in begun earlier)
    ∙ ap₂ (λ (orders : List Order) (dials : List Dial). on_last (λ d. record d { put = d.put ++ puts_of orders }) dials)
    (sym does.orders) (begun_dials server h c earlier)
moment_dials server Ends c earlier known = none_put (map dial_of earlier)
moment_dials server (Takes s) c earlier known = none_put (map dial_of earlier)

moment_servers : (server : ℕ) (m : Moment) (c : ClientState) → is_server server c ≡ true
    → is_server server (at_moment m c).client ≡ true
unfolding after_all
moment_servers server m c known = same_servers server c (at_moment m c).client (all_long (m ∷ []) c) known

-- of all moments, after any connections
pub are_dials : (server : ℕ) (moments : List Moment) (c : ClientState) (earlier : List Spoken) → is_server server c ≡ true
    → map dial_of (spoken_in (passed_in server (after_all moments c).acts) earlier)
    ≡ dials_after server moments c (map dial_of earlier)
unfolding after_all
are_dials server [] c earlier known = refl
are_dials server (m ∷ moments) c earlier known =
    let next : ClientState = (at_moment m c).client in
    let now : List Passing = passed_in server (at_moment m c).acts in
    let later : List Passing = passed_in server (after_all moments next).acts in
    ap (λ (l : List Passing). map dial_of (spoken_in l earlier)) (passed_append server (at_moment m c).acts (after_all moments next).acts)
    ∙ ap (λ (l : List Spoken). map dial_of l) (spoken_append now later earlier)
    ∙ are_dials server moments next (spoken_in now earlier) (moment_servers server m c known)
    ∙ ap (dials_after server moments next) (moment_dials server m c earlier known)
