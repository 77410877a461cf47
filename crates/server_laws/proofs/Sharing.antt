-- Ids and tokens of a life, and of two.
use Rattle.std.proofs.Common.{◌≡◌, ℕ, ◌+◌, ◌-◌, ◌*◌, ◌^◌, ◌<◌, ◌≤◌, List, [], ◌∷◌, map, sym, ◌∙◌, subst, arith, inl, inr}
use Rattle.set_model.specs.declared.source.Change.{Change}
use Rattle.sessions.specs.Calls.{counters_given}
use Rattle.sessions.specs.Token.{token_of}
use Rattle.server_rules.specs.declared.config.ServerConfig.{ServerConfig}
use Rattle.server_rules.specs.State.{ServerState, new_server}
use Rattle.server_rules.specs.Step.{Happening}
use Rattle.server_laws.specs.Course.{core_of, said_after}
use Rattle.server_laws.specs.Facts.{IsWithin, RiseBetween, facts_said, id_in, ids_in, token_of_fact, tokens_in}
use Rattle.server_laws.specs.Moves.{facts_of_all}
use Rattle.server_laws.proofs.Given.{calls_in, counters_rise, ids_rise, picked_within, rise_within, tokens_are, within_map}
use Rattle.server_laws.proofs.Living.{course}

pub ids_of_life : (config : ServerConfig) (current : List Change) (happenings : List Happening)
    → RiseBetween (config.boot * 65536) (config.boot * 65536 + 65535) (ids_in (facts_said (said_after happenings (new_server config current))))
ids_of_life config current happenings =
    let s : ServerState = new_server config current in
    let h = course happenings s in
    let none : config.boot * 65536 + 0 ≡ config.boot * 65536 = omega arith in
    rise_within (config.boot * 65536) (config.boot * 65536 + 65535) _ _
    (picked_within id_in (facts_said (said_after happenings s)) (facts_of_all h.moves (core_of s)) h.told)
    (subst (λ low. RiseBetween low (config.boot * 65536 + 65535) (ids_in (facts_of_all h.moves (core_of s)))) none
    (ids_rise h.moves (core_of s) h.fair (omega arith)))

pub tokens_of_life : (config : ServerConfig) (current : List Change) (happenings : List Happening)
    → (counters : List ℕ) × RiseBetween 0 (2 ^ 32 - 1) counters
    × (tokens_in (facts_said (said_after happenings (new_server config current))) ≡ map (token_of config.boot) counters)
tokens_of_life config current happenings =
    let s : ServerState = new_server config current in
    let h = course happenings s in
    let counters : List ℕ = counters_given (calls_in h.moves) s.sessions in
    let some = within_map (token_of config.boot) (tokens_in (facts_said (said_after happenings s))) counters
    (subst (IsWithin (tokens_in (facts_said (said_after happenings s)))) (tokens_are h.moves (core_of s))
    (picked_within token_of_fact (facts_said (said_after happenings s)) (facts_of_all h.moves (core_of s)) h.told)) in (
      some.numbers,
      rise_within 0 (2 ^ 32 - 1) some.numbers counters some.within (counters_rise (calls_in h.moves) s.sessions 0 (omega arith) (omega arith)),
      some.are,
    )

-- ---- two lives

one_rises : (low high number : ℕ) → RiseBetween low high (number ∷ []) → (low < number) × (number ≤ high)
one_rises low high number h = (h.0, h.1)

pub ids_apart : (one other : ServerConfig) (current another : List Change) (happenings others : List Happening) (id : ℕ)
    → IsWithin (id ∷ []) (ids_in (facts_said (said_after happenings (new_server one current))))
    → IsWithin (id ∷ []) (ids_in (facts_said (said_after others (new_server other another))))
    → one.boot ≡ other.boot
ids_apart one other current another happenings others id here there =
    let a = rise_within (one.boot * 65536) (one.boot * 65536 + 65535) (id ∷ []) _ here (ids_of_life one current happenings) in
    let b = rise_within (other.boot * 65536) (other.boot * 65536 + 65535) (id ∷ []) _ there (ids_of_life other another others) in
    let a_low = a.0 in let a_high = a.1 in let b_low = b.0 in let b_high = b.1 in
    omega arith

-- what the crate of the sessions says of tokens
abbrev pub TellApart : Type 0
TellApart = (boot counter other another : ℕ) → boot < 2 ^ 16 → other < 2 ^ 16 → counter < 2 ^ 32 → another < 2 ^ 32
    → token_of boot counter ≡ token_of other another → (boot ≡ other) × (counter ≡ another)

record IsTokenOf (boot : ℕ) (token : List ℕ) : Type 0 where
  counter : ℕ
  small : counter < 2 ^ 32
  is : token ≡ token_of boot counter

one_token : (boot : ℕ) (token : List ℕ) (counters : List ℕ) → (low : ℕ) → RiseBetween low (2 ^ 32 - 1) counters
    → IsWithin (token ∷ []) (map (token_of boot) counters) → IsTokenOf boot token
one_token boot token [] low rise h = let is : token ∷ [] ≡ [] = h in absurd cc
one_token boot token (counter ∷ counters) low rise (inl h) = one_token boot token counters counter rise.2 h
one_token boot token (counter ∷ counters) low rise (inr h) =
    let is : token ∷ [] ≡ token_of boot counter ∷ h.0 = h.1 in
    let high = rise.1 in
    record { counter = counter; small = omega (arith, high); is = cc }

pub tokens_apart : TellApart → (one other : ServerConfig) (current another : List Change) (happenings others : List Happening) (token : List ℕ)
    → one.boot < 2 ^ 16 → other.boot < 2 ^ 16
    → IsWithin (token ∷ []) (tokens_in (facts_said (said_after happenings (new_server one current))))
    → IsWithin (token ∷ []) (tokens_in (facts_said (said_after others (new_server other another))))
    → one.boot ≡ other.boot
tokens_apart law one other current another happenings others token small less here there =
    let first = tokens_of_life one current happenings in
    let second = tokens_of_life other another others in
    let a = one_token one.boot token first.0 0 first.1 (subst (IsWithin (token ∷ [])) first.2 here) in
    let b = one_token other.boot token second.0 0 second.1 (subst (IsWithin (token ∷ [])) second.2 there) in
    (law one.boot a.counter other.boot b.counter small less a.small b.small (sym a.is ∙ b.is)).0
