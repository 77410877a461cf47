-- What a life said was said at one time, and a Read response in answer to what was heard then.
use Rattle.std.proofs.Common.{◌≡◌, ℕ, List, [], ◌∷◌, ◌++◌, ◌⊎◌, inl, inr, refl, ap, subst}
use Rattle.std.specs.List.{AllByRecursion}
use Rattle.ua_session_msgs.specs.declared.attribute.ReadResponse.{ReadResponse}
use Rattle.ua_session_msgs.specs.declared.reply.SessionReply.TheVariants as session_reply
use Rattle.ua_services.specs.declared.reply.Reply.TheVariants as reply
use Rattle.server_rules.specs.State.{ServerState}
use Rattle.server_rules.specs.Said.{Replied, Said, Told}
use Rattle.server_rules.specs.Step.{Happening, after}
use Rattle.server_rules.specs.Acts.{state_after}
use Rattle.server_laws.specs.Course.{said_after}
use Rattle.server_laws.specs.Facts.{IsWithin}
use Rattle.server_laws.proofs.Within.{not_within, one_of}
use Rattle.level_readings.specs.Levels.{AnswersRead, IsLevelSaid, IsLevelTold}
use Rattle.set_levels.proofs.Places.{all_within}

-- what another crate says
abbrev pub ReadsAreAnswered : Type 0
ReadsAreAnswered = (happening : Happening) (s : ServerState) → AllByRecursion (IsLevelSaid happening s) (after happening s).said

-- it was said when this happened
pub record IsSaidThen (said : Said) (happenings : List Happening) (s : ServerState) : Type 0 where
  pub later : List Happening
  pub happening : Happening
  pub earlier : List Happening
  pub are : happenings ≡ later ++ happening ∷ earlier
  pub among : IsWithin (said ∷ []) (after happening (state_after earlier s)).said

later_too : (said : Said) (happening : Happening) (earlier : List Happening) (s : ServerState) → IsSaidThen said earlier s
    → IsSaidThen said (happening ∷ earlier) s
later_too said happening earlier s h = record {
  later = happening ∷ h.later;
  happening = h.happening;
  earlier = h.earlier;
  are = ap (λ (l : List Happening). happening ∷ l) h.are;
  among = h.among;
}

pub said_then : (said : Said) (happenings : List Happening) (s : ServerState) → IsWithin (said ∷ []) (said_after happenings s) → IsSaidThen said happenings s
said_then said [] s h = absurd (not_within said [] refl h)
said_then said (happening ∷ earlier) s h =
    by_place (one_of said (said_after earlier s) (after happening (state_after earlier s)).said h) (said_then said earlier s)
  where
    by_place : IsWithin (said ∷ []) (said_after earlier s) ⊎ IsWithin (said ∷ []) (after happening (state_after earlier s)).said
        → (IsWithin (said ∷ []) (said_after earlier s) → IsSaidThen said earlier s) → IsSaidThen said (happening ∷ earlier) s
    by_place (inl before) rest = later_too said happening earlier s (rest before)
    by_place (inr now) rest = record { later = []; happening = happening; earlier = earlier; are = refl; among = now }

-- a Read response answers what was heard then
pub answered_then : ReadsAreAnswered → (said : Said) (number : ℕ) (r : ReadResponse) (happenings : List Happening) (s : ServerState)
    → said.told ≡ Replied number (reply.Session (session_reply.Read r)) → (x : IsSaidThen said happenings s)
    → AnswersRead x.happening (state_after x.earlier s) said.conn r.results
answered_then law said number r happenings s is x =
    let t : ServerState = state_after x.earlier s in
    subst (λ (told : Told). IsLevelTold x.happening t said.conn told) is
    (all_within (IsLevelSaid x.happening t) said (after x.happening t).said x.among (law x.happening t))
