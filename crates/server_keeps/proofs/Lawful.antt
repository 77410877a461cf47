-- The orders for a connection are those that its end may be given.
use Rattle.std.proofs.Common.{◌≡◌, ◌≢◌, inl, inr, ℕ, ◌==◌, ◌||◌, ◌≤◌, List, [], ◌∷◌, ◌++◌, Bool, true, false, cond, Option, Some, None, IfSome, map, length, nat_le, nat_lt, refl, sym, ap, ◌∙◌, subst, arith}
use Rattle.std.specs.Prelude.{Result, Ok, Err}
use Rattle.std.specs.List.{AllByRecursion}
use Rattle.std.proofs.lemmas.Bool.Decides.{nat_tests}
use Rattle.set_model.specs.declared.source.Change.{Change}
use Rattle.ua_base.specs.Status.{bad_decoding_error}
use Rattle.ua_values.specs.Reading.{Fault, input}
use Rattle.ua_chunks.specs.declared.greeting.Greeting.{Greeting}
use Rattle.ua_chunks.specs.declared.frame.Kind.TheVariants as kind
use Rattle.ua_chunks.specs.Bodies.{hello_at, value_of, whole_at}
use Rattle.ua_chunks.specs.Sending.{Part, Sending, after_parts, limit_of, parts_of, stepped}
use Rattle.ua_channel.specs.declared.heard.Heard.{Heard}
use Rattle.ua_channel.specs.declared.heard.Heard.TheVariants as heard
use Rattle.ua_channel.specs.declared.wire.Order.{Order}
use Rattle.ua_channel.specs.State.{first_sending, is_deaf}
use Rattle.ua_channel.specs.Arriving.{AreLawful, IsLawfulOrder, after_order, after_orders}
use Rattle.ua_channel.specs.Sharing.{own, own_first}
use Rattle.ua_services.specs.Families.{written_reply}
use Rattle.server_rules.specs.declared.conn.Conn.{Conn}
use Rattle.server_rules.specs.State.{ServerState, conn_at, is_conn, renewed_conn, with_conn}
use Rattle.server_rules.specs.Said.{Did, Said, Told, Acknowledged, Opened, Replied, Refused, Limited, Renewed, nothing, order_of, orders_of, told_order}
use Rattle.server_rules.specs.Answering.{refused_on}
use Rattle.server_rules.specs.Opening.{opening_reply}
use Rattle.server_rules.specs.Connecting.{closed, acknowledged, acknowledgement, greeted, greeted_by, greeting, hears, hears_by, hears_on, is_small, limits_of, opened}
use Rattle.server_rules.specs.Timer.{ticked}
use Rattle.server_rules.specs.Step.{Happening, Opens, Hears, Closes, Feeds, Ticks, Levels, after, ears, fed, heard as heard_by, leveled}
use Rattle.server_keeps.specs.Fitting.{FitsHappening, FitsServer, IsUInt32, KeepsDid, KeepsSaid, KeepsTold}
use Rattle.server_keeps.specs.Lawful.{HasLimit, IsLawfulOn, OpensOther}
use Rattle.server_keeps.proofs.Lists.{choice}
use Rattle.server_keeps.proofs.Living.{after_keeps}
use Rattle.server_keeps.proofs.Watching.{Is, Keeps, MaySay, of_found, refused_keeps, renewed_has}
use Rattle.server_keeps.proofs.WatchingEvents.{closed_keeps, hears_on_keeps, opened_keeps, ticked_keeps}
use Rattle.server_keeps.proofs.Short.{ShortTold, limited}

-- ---- what is put leaves the limits

parts_leave : (parts : List Part) (s : Sending) → limit_of (after_parts parts s) ≡ limit_of s
parts_leave [] s = refl
parts_leave (part ∷ parts) s = parts_leave parts (stepped s)

-- ---- one thing that is said

-- it is an order that the end may be given, and it leaves the limit
record Goes (o : Order) (s : Sending) : Type 0 where
  lawful : IsLawfulOrder o s
  stays : limit_of (after_order o s) ≡ limit_of s

-- a length within a limit, as it is compared
within : (count limit : ℕ) (s : Sending) → limit_of s ≡ limit → count ≤ limit → nat_le count (limit_of s) ≡ true
within count limit s same h = let few : count ≤ limit_of s = subst (λ n. count ≤ n) (sym same) h in grind (arith, nat_tests)

told_goes : (limit : ℕ) (channel token : ℕ) (told : Told) (s : Sending) → IsUInt32 channel → IsUInt32 token → KeepsTold told → ShortTold limit told → limit_of s ≡ limit
    → Goes (told_order channel token told) s
told_goes limit channel token (Acknowledged greeting) s c t kept short same =
    record { lawful = (c, t, omega arith, omega arith, refl); stays = refl }
told_goes limit channel token (Opened request response) s c t kept short same =
    let body : List ℕ = written_reply (opening_reply response) in
    record {
      lawful = (c, t, kept.0, short.1, within (length body) limit s same short.0);
      stays = parts_leave (parts_of kind.Opn request body (record s { channel = channel; token = token })) (record s { channel = channel; token = token });
    }
told_goes limit channel token (Replied request answer) s c t kept short same =
    let body : List ℕ = written_reply answer in
    record {
      lawful = (c, t, kept.0, tt, within (length body) limit s same short);
      stays = parts_leave (parts_of kind.Msg request body (record s { channel = channel; token = token })) (record s { channel = channel; token = token });
    }
told_goes limit channel token (Refused code) s c t kept short same =
    record { lawful = (c, t, omega arith, omega arith, refl); stays = refl }
told_goes limit channel token (Limited limits) s c t kept short same = absurd short
told_goes limit channel token (Renewed new other) s c t kept short same = record { lawful = tt; stays = refl }

-- ---- all that is said

record AllGo (number limit : ℕ) (said : List Said) (s : Sending) : Type 0 where
  lawful : AreLawful (own number (orders_of said)) s
  stays : limit_of (after_orders (own number (orders_of said)) s) ≡ limit

all_go : (number limit : ℕ) (said : List Said) (s : Sending) → AllByRecursion KeepsSaid said → AllByRecursion (MaySay (limited number limit)) said → limit_of s ≡ limit
    → AllGo number limit said s
all_go number limit [] s kept short same = record { lawful = tt; stays = same }
all_go number limit (said ∷ more) s kept short same =
    by_test (said.conn == number) refl (all_go number limit more s kept.1 short.1 same)
    (λ goes. all_go number limit more (after_order (told_order said.channel said.token said.told) s) kept.1 short.1 (goes.stays ∙ same))
  where
    by_test : (b : Bool) → (said.conn == number) ≡ b → AllGo number limit more s
        → (Goes (told_order said.channel said.token said.told) s → AllGo number limit more (after_order (told_order said.channel said.token said.told) s))
        → AllGo number limit (said ∷ more) s
    by_test true test here rest =
        let same_conn : said.conn ≡ number = grind (arith, nat_tests) in
        let first : own_first number (order_of said) ≡ told_order said.channel said.token said.told ∷ [] =
        ap (λ b. cond b (told_order said.channel said.token said.told ∷ []) []) test in
        let goes : Goes (told_order said.channel said.token said.told) s =
        told_goes limit said.channel said.token said.told s kept.0.channel kept.0.token kept.0.told (short.0 same_conn) same in
        let later : AllGo number limit more (after_order (told_order said.channel said.token said.told) s) = rest goes in
        record {
          lawful = subst (λ l. AreLawful (l ++ own number (orders_of more)) s) (sym first) (goes.lawful, later.lawful);
          stays = ap (λ l. limit_of (after_orders (l ++ own number (orders_of more)) s)) first ∙ later.stays;
        }
    by_test false test here rest =
        let first : own_first number (order_of said) ≡ [] = ap (λ b. cond b (told_order said.channel said.token said.told ∷ []) []) test in
        record {
          lawful = subst (λ l. AreLawful (l ++ own number (orders_of more)) s) (sym first) here.lawful;
          stays = ap (λ l. limit_of (after_orders (l ++ own number (orders_of more)) s)) first ∙ here.stays;
        }

short_lawful : (number : ℕ) (sending : Sending) (did : Did) → KeepsDid did → Keeps (limited number (limit_of sending)) did → IsLawfulOn number sending did
short_lawful number sending did kept short =
    let all = all_go number (limit_of sending) did.said sending kept.said short.said refl in
    record { lawful = all.lawful; limit = subst (λ n. HasLimit number n did.state) (sym all.stays) short.known }

-- ---- a HEL

not_small : (hello : Greeting) → is_small hello ≡ false → 8192 ≤ hello.receive
not_small hello small = by_receive (nat_lt hello.receive 8192) refl small
  where
    by_receive : (b : Bool) → nat_lt hello.receive 8192 ≡ b → (b || nat_lt hello.send 8192) ≡ false → 8192 ≤ hello.receive
    by_receive true test none = absurd cc
    by_receive false test none = grind (arith, nat_tests)

-- the connection has the limit that it got
renewed_is : (number : ℕ) (conn : Conn) → conn.number ≡ number → (conns : List Conn)
    → IfSome (conn_at number (map (renewed_conn conn) conns)) (λ c. c.limit ≡ conn.limit)
renewed_is number conn same [] = tt
renewed_is number conn same (one ∷ conns) = by_test (is_conn conn.number one) refl (renewed_is number conn same conns)
  where
    by_test : (b : Bool) → is_conn conn.number one ≡ b → IfSome (conn_at number (map (renewed_conn conn) conns)) (λ c. c.limit ≡ conn.limit)
        → IfSome (conn_at number (cond b conn one ∷ map (renewed_conn conn) conns)) (λ c. c.limit ≡ conn.limit)
    by_test true test rest =
        choice (λ o. IfSome o (λ (c : Conn). c.limit ≡ conn.limit)) (is_conn number conn) (Some conn) (conn_at number (map (renewed_conn conn) conns)) refl rest
    by_test false test rest =
        let other : is_conn number one ≡ false = subst (λ n. is_conn n one ≡ false) same test in
        subst (λ b. IfSome (cond b (Some one) (conn_at number (map (renewed_conn conn) conns))) (λ (c : Conn). c.limit ≡ conn.limit)) (sym other) rest

-- numbers that aren't one
differ : (a b : ℕ) → (a == b) ≡ false → a ≡ b → ⊥
differ a b test same = grind (arith, nat_tests)

-- these orders may be given, and the limit is known after them
abbrev pub Fine : ℕ → Sending → ServerState → List Order → Type 0
Fine number sending s orders = AreLawful orders sending × HasLimit number (limit_of (after_orders orders sending)) s

acknowledged_by : (number : ℕ) (sending : Sending) (hello : Greeting) (conn : Conn) (s : ServerState) → IsUInt32 conn.channel → IsUInt32 conn.token
    → HasLimit number (limit_of sending) s → 8192 ≤ hello.receive → (b : Bool) → (conn.number == number) ≡ b
    → Fine number sending (with_conn (greeted hello conn) s)
    (cond b (told_order conn.channel conn.token (Limited (limits_of hello)) ∷ []) []
    ++ (cond b (told_order conn.channel conn.token (Acknowledged (acknowledgement hello)) ∷ []) [] ++ []))
acknowledged_by number sending hello conn s c t h large true test =
    let same : conn.number ≡ number = grind (arith, nat_tests) in
    ((large, ((c, t, omega arith, omega arith, refl), tt)), renewed_is number (greeted hello conn) same s.conns)
acknowledged_by number sending hello conn s c t h large false test =
    (tt, renewed_has (limited number (limit_of sending)) (greeted hello conn) (λ same. absurd (differ conn.number number test same)) s.conns h)

acknowledged_lawful : (number : ℕ) (sending : Sending) (hello : Greeting) (conn : Conn) (s : ServerState) → KeepsDid (acknowledged hello conn s)
    → HasLimit number (limit_of sending) s → 8192 ≤ hello.receive → IsLawfulOn number sending (acknowledged hello conn s)
unfolding acknowledged
acknowledged_lawful number sending hello conn s kept h large =
    let fine = acknowledged_by number sending hello conn s kept.said.0.channel kept.said.0.token h large (conn.number == number) refl in
    record { lawful = fine.0; limit = fine.1 }

greeted_by_lawful : (number : ℕ) (sending : Sending) (read : Result (Greeting × Option (List ℕ)) Fault) (conn : Conn) (s : ServerState)
    → KeepsDid (greeted_by read conn s) → HasLimit number (limit_of sending) s → Is (limited number (limit_of sending)) conn
    → IsLawfulOn number sending (greeted_by read conn s)
greeted_by_lawful number sending (Ok hello) conn s kept h own = by_test (is_small hello.0) refl kept
  where
    by_test : (b : Bool) → is_small hello.0 ≡ b → KeepsDid (cond b (refused_on conn bad_decoding_error s) (acknowledged hello.0 conn s))
        → IsLawfulOn number sending (cond b (refused_on conn bad_decoding_error s) (acknowledged hello.0 conn s))
    by_test true test kept = short_lawful number sending (refused_on conn bad_decoding_error s) kept (refused_keeps (limited number (limit_of sending)) conn bad_decoding_error s h own)
    by_test false test kept = acknowledged_lawful number sending hello.0 conn s kept h (not_small hello.0 test)
greeted_by_lawful number sending (Err fault) conn s kept h own =
    short_lawful number sending (refused_on conn bad_decoding_error s) kept (refused_keeps (limited number (limit_of sending)) conn bad_decoding_error s h own)

greeting_lawful : (number : ℕ) (sending : Sending) (body : List ℕ) (conn : Conn) (s : ServerState) → KeepsDid (greeting body conn s)
    → HasLimit number (limit_of sending) s → Is (limited number (limit_of sending)) conn → IsLawfulOn number sending (greeting body conn s)
unfolding greeting
greeting_lawful number sending body conn s kept h own =
    greeted_by_lawful number sending (value_of (whole_at hello_at (input 0 body))) conn s kept h own

-- ---- what is heard

hears_on_lawful : (number : ℕ) (sending : Sending) (one : Heard) (conn : Conn) (s : ServerState) → KeepsDid (hears_on one conn s)
    → HasLimit number (limit_of sending) s → Is (limited number (limit_of sending)) conn → IsLawfulOn number sending (hears_on one conn s)
hears_on_lawful number sending (heard.Greeting body) conn s kept h own = greeting_lawful number sending body conn s kept h own
hears_on_lawful number sending (heard.Opening channel follows request body) conn s kept h own =
    short_lawful number sending (hears_on (heard.Opening channel follows request body) conn s) kept
    (hears_on_keeps (limited number (limit_of sending)) (heard.Opening channel follows request body) conn s h own tt)
hears_on_lawful number sending (heard.Message request body) conn s kept h own =
    short_lawful number sending (hears_on (heard.Message request body) conn s) kept
    (hears_on_keeps (limited number (limit_of sending)) (heard.Message request body) conn s h own tt)
hears_on_lawful number sending heard.Close conn s kept h own =
    short_lawful number sending (hears_on heard.Close conn s) kept (hears_on_keeps (limited number (limit_of sending)) heard.Close conn s h own tt)
hears_on_lawful number sending (heard.Fault code) conn s kept h own =
    short_lawful number sending (hears_on (heard.Fault code) conn s) kept (hears_on_keeps (limited number (limit_of sending)) (heard.Fault code) conn s h own tt)

quiet_lawful : (number : ℕ) (sending : Sending) (s : ServerState) → HasLimit number (limit_of sending) s → IsLawfulOn number sending (nothing s)
quiet_lawful number sending s h = record { lawful = tt; limit = h }

hears_by_lawful : (number : ℕ) (sending : Sending) (found : Option Conn) (one : Heard) (s : ServerState) → KeepsDid (hears_by found one s)
    → HasLimit number (limit_of sending) s → ((conn : Conn) → found ≡ Some conn → Is (limited number (limit_of sending)) conn)
    → IsLawfulOn number sending (hears_by found one s)
hears_by_lawful number sending None one s kept h own = quiet_lawful number sending s h
hears_by_lawful number sending (Some conn) one s kept h own = hears_on_lawful number sending one conn s kept h (own conn refl)

hears_lawful : (number : ℕ) (sending : Sending) (n : ℕ) (one : Heard) (s : ServerState) → KeepsDid (hears n one s) → HasLimit number (limit_of sending) s
    → IsLawfulOn number sending (hears n one s)
unfolding hears
hears_lawful number sending n one s kept h =
    hears_by_lawful number sending (conn_at n s.conns) one s kept h (of_found (limited number (limit_of sending)) n s.conns s refl h)

heard_lawful : (number : ℕ) (sending : Sending) (n : ℕ) (one : Heard) (s : ServerState) → KeepsDid (heard_by n one s) → HasLimit number (limit_of sending) s
    → IsLawfulOn number sending (heard_by n one s)
unfolding heard_by
heard_lawful number sending n one s kept h = by_test (is_deaf (ears n s)) kept
  where
    by_test : (b : Bool) → KeepsDid (cond b (nothing s) (hears n one s)) → IsLawfulOn number sending (cond b (nothing s) (hears n one s))
    by_test true kept = quiet_lawful number sending s h
    by_test false kept = hears_lawful number sending n one s kept h

-- ---- whatever happens

other_conn : (number n : ℕ) → n ≢ number → (n == number) ≡ false
other_conn number n other = by_test (n == number) refl
  where
    by_test : (b : Bool) → (n == number) ≡ b → b ≡ false
    by_test true test = let same : n ≡ number = grind (arith, nat_tests) in absurd (other same)
    by_test false test = refl

fed_lawful : (number : ℕ) (sending : Sending) (change : Change) (s : ServerState) → HasLimit number (limit_of sending) s
    → IsLawfulOn number sending (fed change s)
unfolding fed
fed_lawful number sending change s h = record { lawful = tt; limit = h }

leveled_lawful : (number : ℕ) (sending : Sending) (level : ℕ) (s : ServerState) → HasLimit number (limit_of sending) s
    → IsLawfulOn number sending (leveled level s)
unfolding leveled
leveled_lawful number sending level s h = record { lawful = tt; limit = h }

after_lawful : (number : ℕ) (sending : Sending) (happening : Happening) (s : ServerState) → KeepsDid (after happening s) → OpensOther number happening
    → HasLimit number (limit_of sending) s → IsLawfulOn number sending (after happening s)
after_lawful number sending (Opens n) s kept other h =
    short_lawful number sending (opened n s) kept (opened_keeps (limited number (limit_of sending)) n s (inl (other_conn number n other)) h)
after_lawful number sending (Hears n one) s kept other h = heard_lawful number sending n one s kept h
after_lawful number sending (Closes n) s kept other h = short_lawful number sending (closed n s) kept (closed_keeps (limited number (limit_of sending)) n s h)
after_lawful number sending (Feeds change) s kept other h = fed_lawful number sending change s h
after_lawful number sending (Ticks ms) s kept other h = short_lawful number sending (ticked ms s) kept (ticked_keeps (limited number (limit_of sending)) ms s h)
after_lawful number sending (Levels level) s kept other h = leveled_lawful number sending level s h

pub orders_lawful : (number : ℕ) (sending : Sending) (happening : Happening) (s : ServerState) → FitsServer s → FitsHappening happening → OpensOther number happening
    → HasLimit number (limit_of sending) s → IsLawfulOn number sending (after happening s)
orders_lawful number sending happening s fits happens other h = after_lawful number sending happening s (after_keeps happening s fits happens) other h

pub opens_lawful : (number : ℕ) (s : ServerState) → conn_at number s.conns ≡ None → HasLimit number (limit_of first_sending) (after (Opens number) s).state
opens_lawful number s none =
    let has : HasLimit number (limit_of first_sending) s = subst (λ o. IfSome o (λ (c : Conn). c.limit ≡ limit_of first_sending)) (sym none) tt in
    let short = opened_keeps (limited number (limit_of first_sending)) number s (inr refl) has in
    short.known
