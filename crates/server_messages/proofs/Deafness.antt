-- A connection that is deaf stays so, until another one is opened in its place.
use Rattle.std.proofs.Common.{◌≡◌, ◌≢◌, ℕ, ◌==◌, Bool, true, false, cond, List, Option, Some, None, IfSome, refl, ap, inl, arith}
use Rattle.std.specs.Prelude.{Result, Ok, Err}
use Rattle.std.proofs.lemmas.Bool.Decides.{nat_tests}
use Rattle.ua_base.specs.Status.{bad_decoding_error}
use Rattle.set_model.specs.declared.source.Change.{Change}
use Rattle.ua_values.specs.Reading.{Fault, input}
use Rattle.ua_chunks.specs.declared.greeting.Greeting.{Greeting}
use Rattle.ua_chunks.specs.Bodies.{hello_at, value_of, whole_at}
use Rattle.ua_channel.specs.declared.heard.Heard.{Heard}
use Rattle.ua_channel.specs.declared.heard.Heard.TheVariants as heard
use Rattle.ua_channel.specs.State.{is_deaf}
use Rattle.server_rules.specs.declared.conn.Conn.{Conn}
use Rattle.server_rules.specs.State.{ServerState, conn_at}
use Rattle.server_rules.specs.Said.{nothing}
use Rattle.server_rules.specs.Answering.{refused_on}
use Rattle.server_rules.specs.Connecting.{acknowledged as acknowledged_hello, greeted, greeted_by, greeting, hears, hears_by, hears_on, is_small}
use Rattle.server_rules.specs.Step.{Closes, Feeds, Happening, Hears, Levels, Opens, Ticks, after, ear_of, ears, fed, heard as heard_now, leveled}
use Rattle.server_keeps.specs.Lawful.{OpensOther}
use Rattle.server_keeps.proofs.Lists.{choice}
use Rattle.server_keeps.proofs.Watching.{AtConn, Has, Is, Keeps, Watch, of_found, quiet, refused_keeps, renewed_has}
use Rattle.server_keeps.proofs.WatchingEvents.{closed_keeps, hears_on_keeps, opened_keeps, ticked_keeps}

of_deaf : (found : Option Conn) → is_deaf (ear_of found) ≡ true → IfSome found (λ conn. is_deaf conn.ear ≡ true)
of_deaf None is = tt
of_deaf (Some conn) is = is

deaf_of : (found : Option Conn) → IfSome found (λ conn. is_deaf conn.ear ≡ true) → is_deaf (ear_of found) ≡ true
deaf_of None h = refl
deaf_of (Some conn) h = h

both_not : (b : Bool) → b ≡ true → b ≡ false → ⊥
both_not true t f = absurd cc
both_not false t f = absurd cc

other_conn : (number n : ℕ) → n ≢ number → (n == number) ≡ false
other_conn number n other = by_test (n == number) refl
  where
    by_test : (b : Bool) → (n == number) ≡ b → b ≡ false
    by_test true test = let same : n ≡ number = grind (arith, nat_tests) in absurd (other same)
    by_test false test = refl

-- the connection is deaf, and anything may be told there
abbrev deafness : ℕ → Watch
deafness number = record {
  number = number;
  Good = λ conn. is_deaf conn.ear ≡ true;
  May = λ told. Unit {0};
  deaf = λ conn own same. refl;
  channelled = λ channel token conn hears own same. absurd (both_not (is_deaf conn.ear) (own same) hears);
  replies = λ conn request answer own test same. tt;
  opens = λ conn request response own test few same. tt;
  renews = λ channel token. tt;
  refuses = λ code. tt;
}

module _ (number : ℕ) where
  abbrev Deaf : ServerState → Type 0
  Deaf s = Has (deafness number) s

  -- ---- a HEL

  acknowledged_stays : (hello : Greeting) (conn : Conn) (s : ServerState) → Deaf s → Is (deafness number) conn → is_deaf conn.ear ≡ false
      → Keeps (deafness number) (acknowledged_hello hello conn s)
  unfolding acknowledged_hello
  acknowledged_stays hello conn s h own hears = record {
    known = renewed_has (deafness number) (greeted hello conn) (λ same. absurd (both_not (is_deaf conn.ear) (own same) hears)) s.conns h;
    said = (λ same. tt, (λ same. tt, tt));
  }

  greeted_by_stays : (read : Result (Greeting × Option (List ℕ)) Fault) (conn : Conn) (s : ServerState) → Deaf s → Is (deafness number) conn
      → is_deaf conn.ear ≡ false → Keeps (deafness number) (greeted_by read conn s)
  greeted_by_stays (Ok hello) conn s h own hears =
      choice (Keeps (deafness number)) (is_small hello.0) (refused_on conn bad_decoding_error s) (acknowledged_hello hello.0 conn s)
      (refused_keeps (deafness number) conn bad_decoding_error s h own) (acknowledged_stays hello.0 conn s h own hears)
  greeted_by_stays (Err fault) conn s h own hears = refused_keeps (deafness number) conn bad_decoding_error s h own

  greeting_stays : (body : List ℕ) (conn : Conn) (s : ServerState) → Deaf s → Is (deafness number) conn → is_deaf conn.ear ≡ false
      → Keeps (deafness number) (greeting body conn s)
  unfolding greeting
  greeting_stays body conn s h own hears = greeted_by_stays (value_of (whole_at hello_at (input 0 body))) conn s h own hears

  -- ---- what is heard

  hears_on_stays : (one : Heard) (conn : Conn) (s : ServerState) → Deaf s → Is (deafness number) conn → is_deaf conn.ear ≡ false
      → Keeps (deafness number) (hears_on one conn s)
  hears_on_stays (heard.Greeting body) conn s h own hears = greeting_stays body conn s h own hears
  hears_on_stays (heard.Opening channel follows request body) conn s h own hears =
      hears_on_keeps (deafness number) (heard.Opening channel follows request body) conn s h own tt
  hears_on_stays (heard.Message request body) conn s h own hears = hears_on_keeps (deafness number) (heard.Message request body) conn s h own tt
  hears_on_stays heard.Close conn s h own hears = hears_on_keeps (deafness number) heard.Close conn s h own tt
  hears_on_stays (heard.Fault code) conn s h own hears = hears_on_keeps (deafness number) (heard.Fault code) conn s h own tt

  hears_by_stays : (found : Option Conn) (one : Heard) (s : ServerState) → Deaf s → ((conn : Conn) → found ≡ Some conn → Is (deafness number) conn)
      → is_deaf (ear_of found) ≡ false → Keeps (deafness number) (hears_by found one s)
  hears_by_stays None one s h own hears = quiet (deafness number) s h
  hears_by_stays (Some conn) one s h own hears = hears_on_stays one conn s h (own conn refl) hears

  hears_stays : (n : ℕ) (one : Heard) (s : ServerState) → Deaf s → is_deaf (ears n s) ≡ false → Keeps (deafness number) (hears n one s)
  unfolding hears
  hears_stays n one s h hears = hears_by_stays (conn_at n s.conns) one s h (of_found (deafness number) n s.conns s refl h) hears

  heard_by_stays : (b : Bool) (n : ℕ) (one : Heard) (s : ServerState) → is_deaf (ears n s) ≡ b → Deaf s
      → Keeps (deafness number) (cond b (nothing s) (hears n one s))
  heard_by_stays true n one s is h = quiet (deafness number) s h
  heard_by_stays false n one s is h = hears_stays n one s h is

  heard_stays : (n : ℕ) (one : Heard) (s : ServerState) → Deaf s → Keeps (deafness number) (heard_now n one s)
  unfolding heard_now
  heard_stays n one s h = heard_by_stays (is_deaf (ears n s)) n one s refl h

  -- ---- whatever happens

  fed_stays : (change : Change) (s : ServerState) → Deaf s → Keeps (deafness number) (fed change s)
  unfolding fed
  fed_stays change s h = record { known = h; said = tt }

  leveled_stays : (level : ℕ) (s : ServerState) → Deaf s → Keeps (deafness number) (leveled level s)
  unfolding leveled
  leveled_stays level s h = record { known = h; said = tt }

  after_stays : (happening : Happening) (s : ServerState) → OpensOther number happening → Deaf s → Keeps (deafness number) (after happening s)
  after_stays (Opens n) s other h = opened_keeps (deafness number) n s (inl (other_conn number n other)) h
  after_stays (Hears n one) s other h = heard_stays n one s h
  after_stays (Closes n) s other h = closed_keeps (deafness number) n s h
  after_stays (Feeds change) s other h = fed_stays change s h
  after_stays (Ticks ms) s other h = ticked_keeps (deafness number) ms s h
  after_stays (Levels level) s other h = leveled_stays level s h

-- a connection that is deaf stays so
pub stays_deaf : (number : ℕ) (happening : Happening) (s : ServerState) → OpensOther number happening → is_deaf (ears number s) ≡ true
    → is_deaf (ears number (after happening s).state) ≡ true
stays_deaf number happening s other deaf =
    deaf_of (conn_at number (after happening s).state.conns) (after_stays number happening s other (of_deaf (conn_at number s.conns) deaf)).known
