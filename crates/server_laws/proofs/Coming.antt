-- What rules come to, put together.
use Rattle.std.proofs.Common.{◌≡◌, List, [], ◌∷◌, ◌++◌, Bool, true, false, cond, refl, sym, ap, ◌∙◌, subst, append_assoc}
use Rattle.server_rules.specs.State.{ServerState}
use Rattle.server_rules.specs.Said.{Did, Said, and_then, nothing}
use Rattle.server_laws.specs.Moves.{AreFair, Core, IsFair, Move, facts_of, facts_of_all, moved, moved_all}
use Rattle.server_laws.specs.Facts.{IsWithin, facts_said, facts_told}
use Rattle.server_laws.specs.Course.{Comes, Leave, MayMove, MayMoves, core_of}
use Rattle.server_laws.proofs.Within.{none_within, within_join, within_less}

-- ---- lists of moves put together

pub moved_join : (one other : List Move) (c : Core) → moved_all (one ++ other) c ≡ moved_all other (moved_all one c)
moved_join [] other c = refl
moved_join (move ∷ one) other c = moved_join one other (moved move c)

pub facts_join : (one other : List Move) (c : Core) → facts_of_all (one ++ other) c ≡ facts_of_all one c ++ facts_of_all other (moved_all one c)
facts_join [] other c = refl
facts_join (move ∷ one) other c =
    ap (λ l. facts_of move c ++ l) (facts_join one other (moved move c))
    ∙ sym (append_assoc (facts_of move c) (facts_of_all one (moved move c)) (facts_of_all other (moved_all one (moved move c))))

pub fair_join : (one other : List Move) (c : Core) → AreFair one c → AreFair other (moved_all one c) → AreFair (one ++ other) c
fair_join [] other c h rest = rest
fair_join (move ∷ one) other c h rest = (h.0, fair_join one other (moved move c) h.1 rest)

pub may_join : (leave : Leave) (one other : List Move) → MayMoves leave one → MayMoves leave other → MayMoves leave (one ++ other)
may_join leave [] other h rest = rest
may_join leave (move ∷ one) other h rest = (h.0, may_join leave one other h.1 rest)

pub said_join : (one other : List Said) → facts_said (one ++ other) ≡ facts_said one ++ facts_said other
said_join [] other = refl
said_join (said ∷ one) other =
    ap (λ l. facts_told said.told ++ l) (said_join one other)
    ∙ sym (append_assoc (facts_told said.told) (facts_said one) (facts_said other))

-- ---- rules put together

-- nothing of the core changes, and nothing is said of it
pub still : (leave : Leave) (s after : ServerState) (said : List Said) → core_of after ≡ core_of s → facts_said said ≡ []
    → Comes leave s (record { state = after; said = said })
still leave s after said same none =
    record { moves = []; may = tt; fair = tt; leads = same; told = none }

pub idle : (leave : Leave) (s : ServerState) → Comes leave s (nothing s)
idle leave s = still leave s s [] refl refl

-- one move, of which is said what is within its facts
pub by_move : (leave : Leave) (move : Move) (s : ServerState) (did : Did) → MayMove leave move → IsFair move (core_of s)
    → core_of did.state ≡ moved move (core_of s) → IsWithin (facts_said did.said) (facts_of move (core_of s)) → Comes leave s did
by_move leave move s did may fair leads told = record {
  moves = move ∷ [];
  may = (may, tt);
  fair = (fair, tt);
  leads = leads;
  told = within_less (facts_said did.said) (facts_of move (core_of s)) [] told;
}

-- one after another
pub in_turn : (leave : Leave) (s : ServerState) (first later : Did) → Comes leave s first → Comes leave first.state later
    → Comes leave s (record { state = later.state; said = first.said ++ later.said })
in_turn leave s first later one other = record {
  moves = one.moves ++ other.moves;
  may = may_join leave one.moves other.moves one.may other.may;
  fair = fair_join one.moves other.moves (core_of s) one.fair (subst (AreFair other.moves) one.leads other.fair);
  leads = other.leads ∙ ap (moved_all other.moves) one.leads ∙ sym (moved_join one.moves other.moves (core_of s));
  told = subst (λ l. IsWithin l (facts_of_all (one.moves ++ other.moves) (core_of s))) (sym (said_join first.said later.said))
      (subst (IsWithin (facts_said first.said ++ facts_said later.said)) (sym (facts_join one.moves other.moves (core_of s)))
      (within_join (facts_said first.said) (facts_of_all one.moves (core_of s)) (facts_said later.said) (facts_of_all other.moves (moved_all one.moves (core_of s)))
      one.told (subst (λ c. IsWithin (facts_said later.said) (facts_of_all other.moves c)) one.leads other.told)));
}

pub then_comes : (leave : Leave) (s : ServerState) (rule : ServerState → Did) (did : Did) → Comes leave s did → Comes leave did.state (rule did.state)
    → Comes leave s (and_then rule did)
then_comes leave s rule did one other = in_turn leave s did (rule did.state) one other

-- a change that is a rule's beginning, and of which nothing is said
pub begun_by : (leave : Leave) (move : Move) (s : ServerState) (after : ServerState) (did : Did) → MayMove leave move → IsFair move (core_of s)
    → core_of after ≡ moved move (core_of s) → Comes leave after did → Comes leave s did
begun_by leave move s after did may fair leads h =
    in_turn leave s (record { state = after; said = [] }) did
    (by_move leave move s (record { state = after; said = [] }) may fair leads (none_within (facts_of move (core_of s)))) h

-- one of two rules
pub either : (leave : Leave) (b : Bool) (s : ServerState) (one other : Did) → Comes leave s one → Comes leave s other → Comes leave s (cond b one other)
either leave true s one other h rest = h
either leave false s one other h rest = rest

-- the core is the same
pub from_same : (leave : Leave) (s before : ServerState) (did : Did) → core_of before ≡ core_of s → Comes leave before did → Comes leave s did
from_same leave s before did same h = record {
  moves = h.moves;
  may = h.may;
  fair = subst (AreFair h.moves) same h.fair;
  leads = h.leads ∙ ap (moved_all h.moves) same;
  told = subst (λ c. IsWithin (facts_said did.said) (facts_of_all h.moves c)) same h.told;
}
