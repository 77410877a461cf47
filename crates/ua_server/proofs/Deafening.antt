-- A fault is the last thing that a server hears of a connection.
use Rattle.std.proofs.Common.{◌≡◌, ℕ, ◌==◌, Bool, true, false, cond, List, [], ◌∷◌, map, Option, Some, None, is_some, refl, sym, ap, subst, ◌∙◌, arith}
use Rattle.std.proofs.lemmas.Bool.Decides.{nat_tests}
use Rattle.ua_channel.specs.declared.heard.Heard.TheVariants as said
use Rattle.ua_channel.specs.State.{is_deaf}
use Rattle.ua_channel.specs.Node.{Deafens}
use Rattle.server_rules.specs.declared.conn.Conn.{Conn}
use Rattle.server_rules.specs.State.{ServerState, conn_at, is_conn, renewed_conn}
use Rattle.server_rules.specs.Answering.{deafened, refused_on}
use Rattle.server_rules.specs.Said.{nothing}
use Rattle.server_rules.specs.Connecting.{hears, hears_by}
use Rattle.server_rules.specs.Step.{ear_of, ears, heard}
use Rattle.ua_server.specs.Step.{rest_answer, rest_ears}

-- ---- a connection that is renewed is found

number_is : (n : ℕ) → (n == n) ≡ true
number_is n = grind (arith, nat_tests)

found_by : (b : Bool) (c x : Conn) (conns : List Conn) → is_conn c.number x ≡ b
    → (is_some (conn_at c.number conns) ≡ true → conn_at c.number (map (renewed_conn c) conns) ≡ Some c)
    → is_some (conn_at c.number (x ∷ conns)) ≡ true
    → conn_at c.number (map (renewed_conn c) (x ∷ conns)) ≡ Some c
found_by true c x conns h found is =
    ap (λ b. conn_at c.number (cond b c x ∷ map (renewed_conn c) conns)) h
    ∙ ap (λ b. cond b (Some c) (conn_at c.number (map (renewed_conn c) conns))) (number_is c.number)
found_by false c x conns h found is =
    ap (λ b. conn_at c.number (cond b c x ∷ map (renewed_conn c) conns)) h
    ∙ ap (λ b. cond b (Some x) (conn_at c.number (map (renewed_conn c) conns))) h
    ∙ found (sym (ap (λ b. is_some (cond b (Some x) (conn_at c.number conns))) h) ∙ is)

found_renewed : (c : Conn) (conns : List Conn) → is_some (conn_at c.number conns) ≡ true
    → conn_at c.number (map (renewed_conn c) conns) ≡ Some c
found_renewed c [] is = absurd cc
found_renewed c (x ∷ conns) is = found_by (is_conn c.number x) c x conns refl (found_renewed c conns) is

number_same : (m n : ℕ) → (m == n) ≡ true → m ≡ n
number_same m n e = grind (arith, nat_tests)

some_same : (x y : Conn) → Some x ≡ Some y → x ≡ y
some_same x y e = cc

number_by : (b : Bool) (conn : ℕ) (c x : Conn) (conns : List Conn) → is_conn conn x ≡ b
    → (conn_at conn conns ≡ Some c → c.number ≡ conn) → conn_at conn (x ∷ conns) ≡ Some c → c.number ≡ conn
number_by true conn c x conns h later e =
    let same : x ≡ c = some_same x c (sym (ap (λ b. cond b (Some x) (conn_at conn conns)) h) ∙ e) in
    subst (λ (d : Conn). d.number ≡ conn) same (number_same x.number conn h)
number_by false conn c x conns h later e = later (sym (ap (λ b. cond b (Some x) (conn_at conn conns)) h) ∙ e)

-- the one that is found has the number
number_found : (conn : ℕ) (c : Conn) (conns : List Conn) → conn_at conn conns ≡ Some c → c.number ≡ conn
number_found conn c [] e = absurd cc
number_found conn c (x ∷ conns) e = number_by (is_conn conn x) conn c x conns refl (number_found conn c conns) e

deaf_found : (conn : ℕ) (c : Conn) (conns : List Conn) → c.number ≡ conn → conn_at conn conns ≡ Some c
    → is_deaf (ear_of (conn_at conn (map (renewed_conn (deafened c)) conns))) ≡ true
deaf_found conn c conns is e =
    subst (λ n. is_deaf (ear_of (conn_at n (map (renewed_conn (deafened c)) conns))) ≡ true) is
    (ap (λ (o : Option Conn). is_deaf (ear_of o))
    (found_renewed (deafened c) conns
    (ap (λ n. is_some (conn_at n conns)) is ∙ ap (λ (o : Option Conn). is_some o) e)))

-- ---- a fault

refused_by : (o : Option Conn) (conn code : ℕ) (s : ServerState) → conn_at conn s.conns ≡ o
    → is_deaf (ears conn (hears_by o (said.Fault code) s).state) ≡ true
unfolding refused_on
refused_by None conn code s e = ap (λ (o : Option Conn). is_deaf (ear_of o)) e
refused_by (Some c) conn code s e = deaf_found conn c s.conns (number_found conn c s.conns e) e

hears_fault : (conn code : ℕ) (s : ServerState) → is_deaf (ears conn (hears conn (said.Fault code) s).state) ≡ true
unfolding hears
hears_fault conn code s = refused_by (conn_at conn s.conns) conn code s refl

heard_by : (b : Bool) (conn code : ℕ) (s : ServerState) → is_deaf (ears conn s) ≡ b
    → is_deaf (ears conn (cond b (nothing s) (hears conn (said.Fault code) s)).state) ≡ true
heard_by true conn code s e = e
heard_by false conn code s e = hears_fault conn code s

heard_fault : (conn code : ℕ) (s : ServerState) → is_deaf (ears conn (heard conn (said.Fault code) s).state) ≡ true
unfolding heard
heard_fault conn code s = heard_by (is_deaf (ears conn s)) conn code s refl

pub deafens : (conn : ℕ) → Deafens (rest_ears conn) (rest_answer conn)
deafens conn = λ code s. heard_fault conn code s.hub
