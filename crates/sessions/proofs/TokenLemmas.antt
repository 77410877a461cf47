-- Which session a token names.
use Rattle.std.proofs.Common.{◌≡◌, ◌≢◌, ℕ, ◌<◌, ◌≤◌, ◌^◌, List, [], ◌∷◌, Bool, true, false, cond, Some, None, length, take, drop, refl, sym, ◌∙◌, ap, ap₂, arith}
use Rattle.std.specs.Int.{from_le_bytes, w16, w32}
use Rattle.std.specs.List.{All, find}
use Rattle.std.proofs.lemmas.Bool.Decides.{Decides-eqb}
use Rattle.std.proofs.lemmas.List.Elements.{All-head, All-tail, All-cons, All-nil}
use Rattle.std.proofs.lemmas.Nat.{from_le_bytes-to_le_bytes_2, from_le_bytes-to_le_bytes_4}
use Rattle.std.proofs.lemmas.Slice.Eq.{bytes_eq-Decides}
use Rattle.sessions.specs.declared.session.Session.{Session}
use Rattle.sessions.specs.Session.{has_token, is_numbered}
use Rattle.sessions.specs.Sound.{IsSound, counters}
use Rattle.sessions.specs.State.{SessionsState}
use Rattle.sessions.specs.Table.{session_at, session_of}
use Rattle.sessions.specs.Token.{token_of}

same_boot : (boot counter other another : ℕ) → boot < 2 ^ 16 → other < 2 ^ 16 → token_of boot counter ≡ token_of other another → boot ≡ other
same_boot boot counter other another first second same =
    sym (from_le_bytes-to_le_bytes_2 boot first)
    ∙ ap (λ token. from_le_bytes w16 (take 2 token)) same
    ∙ from_le_bytes-to_le_bytes_2 other second

same_counter : (boot counter other another : ℕ) → counter < 2 ^ 32 → another < 2 ^ 32 → token_of boot counter ≡ token_of other another → counter ≡ another
same_counter boot counter other another first second same =
    sym (from_le_bytes-to_le_bytes_4 counter first)
    ∙ ap (λ token. from_le_bytes w32 (drop 2 token)) same
    ∙ from_le_bytes-to_le_bytes_4 another second

pub apart : (boot counter other another : ℕ) → boot < 2 ^ 16 → other < 2 ^ 16 → counter < 2 ^ 32 → another < 2 ^ 32
    → token_of boot counter ≡ token_of other another → (boot ≡ other) × (counter ≡ another)
apart boot counter other another b o c a same = (same_boot boot counter other another b o same, same_counter boot counter other another c a same)

-- two tests are one where each is true with the other
same_test : (first second : Bool) → (first ≡ true → second ≡ true) → (second ≡ true → first ≡ true) → first ≡ second
same_test true second to from = sym (to refl)
same_test false true to from = from refl
same_test false false to from = refl

never : (test : Bool) → (test ≡ true → ⊥) → test ≡ false
never true fails = absurd (fails refl)
never false fails = refl

-- in a life the token of a counter is that of the session that has it
named : (boot counter : ℕ) (session : Session) → counter < 2 ^ 32 → session.counter < 2 ^ 32
    → has_token boot (Some (token_of boot counter)) session ≡ is_numbered counter session
named boot counter session given known =
    let tells = bytes_eq-Decides (token_of boot counter) (token_of boot session.counter) in
    let numbered = Decides-eqb session.counter counter in
    same_test _ _
    (λ same. numbered.1 (sym (same_counter boot counter boot session.counter given known (tells.0 same))))
    (λ same. tells.1 (ap (token_of boot) (sym (numbered.0 same))))

find_same : (p q : Session → Bool) (sessions : List Session) → All (λ session. p session ≡ q session) sessions → find p sessions ≡ find q sessions
find_same p q [] h = refl
find_same p q (session ∷ sessions) h =
    let same : p session ≡ q session = All-head (λ session. p session ≡ q session) session sessions h in
    ap₂ (λ b more. cond b (Some session) more) same (find_same p q sessions (All-tail (λ session. p session ≡ q session) session sessions h))

find_never : (p : Session → Bool) (sessions : List Session) → ((session : Session) → p session ≡ false) → find p sessions ≡ None
find_never p [] h = refl
find_never p (session ∷ sessions) h = rw (h session) (find_never p sessions h)

-- that holds of this session
abbrev IsNamed : ℕ → ℕ → Session → Type 0
IsNamed boot counter session = has_token boot (Some (token_of boot counter)) session ≡ is_numbered counter session

named_all : (boot counter last : ℕ) (sessions : List Session) → counter < 2 ^ 32 → last < 2 ^ 32 → All (λ known. known ≤ last) (counters sessions)
    → All (IsNamed boot counter) sessions
named_all boot counter last [] given most h = All-nil (IsNamed boot counter)
named_all boot counter last (session ∷ sessions) given most h =
    let known : session.counter ≤ last = All-head (λ known. known ≤ last) session.counter (counters sessions) h in
    All-cons (IsNamed boot counter) session sessions (named boot counter session given (omega arith))
    (named_all boot counter last sessions given most (All-tail (λ known. known ≤ last) session.counter (counters sessions) h))

pub found : (counter : ℕ) (state : SessionsState) → counter < 2 ^ 32 → IsSound state
    → session_of (Some (token_of state.boot counter)) state ≡ session_at counter state.sessions
found counter state given h = find_same _ _ state.sessions (named_all state.boot counter state.last_counter state.sessions given h.last h.given)

pub stranger : (boot counter : ℕ) (state : SessionsState) → boot < 2 ^ 16 → state.boot < 2 ^ 16 → boot ≢ state.boot
    → session_of (Some (token_of boot counter)) state ≡ None
stranger boot counter state first second other =
    find_never (has_token state.boot (Some (token_of boot counter))) state.sessions
    (λ session. never _ (λ same. other (same_boot boot counter state.boot session.counter first second
    ((bytes_eq-Decides (token_of boot counter) (token_of state.boot session.counter)).0 same))))

pub wrong_length : (token : List ℕ) (state : SessionsState) → length token ≢ 6 → session_of (Some token) state ≡ None
wrong_length token state other =
    find_never (has_token state.boot (Some token)) state.sessions
    (λ session. never _ (λ same. other (ap length ((bytes_eq-Decides token (token_of state.boot session.counter)).0 same))))

pub no_token : (state : SessionsState) → session_of None state ≡ None
no_token state = find_never (has_token state.boot None) state.sessions (λ session. refl)
