-- A life, in moves that make what was asked for.
use Rattle.std.proofs.Common.{◌≡◌, ℕ, ◌==◌, List, [], ◌∷◌, ◌++◌, Bool, true, false, cond, refl, sym, ap, ◌∙◌, subst, arith, inl, inr}
use Rattle.std.specs.Prelude.{Result, Ok, Err}
use Rattle.std.proofs.lemmas.Bool.Decides.{nat_tests}
use Rattle.set_model.specs.declared.source.Change.{Change}
use Rattle.ua_channel.specs.declared.heard.Heard.{Heard}
use Rattle.ua_channel.specs.declared.heard.Heard.TheVariants as heard_as
use Rattle.ua_session_msgs.specs.declared.request.SessionRequest.{SessionRequest}
use Rattle.ua_session_msgs.specs.declared.request.SessionRequest.TheVariants as session_request
use Rattle.ua_sub_msgs.specs.declared.item.CreateMonitoredItemsRequest.{CreateMonitoredItemsRequest}
use Rattle.ua_sub_msgs.specs.declared.request.SubRequest.{SubRequest}
use Rattle.ua_sub_msgs.specs.declared.request.SubRequest.TheVariants as sub_request
use Rattle.ua_services.specs.declared.request.Request.{Request}
use Rattle.ua_services.specs.declared.request.Request.TheVariants as request
use Rattle.ua_services.specs.declared.request.RequestFault.{RequestFault}
use Rattle.ua_services.specs.Requests.{request_at}
use Rattle.subscription.specs.declared.spec.ItemSpec.{ItemSpec}
use Rattle.server_rules.specs.declared.config.ServerConfig.{ServerConfig}
use Rattle.server_rules.specs.State.{ServerState, new_server}
use Rattle.server_rules.specs.Step.{Happening, Opens, Hears, Closes, Feeds, Ticks, Levels, after, fed}
use Rattle.server_rules.specs.Acts.{state_after}
use Rattle.server_laws.specs.Moves.{AreFair, Enters, Move, facts_of_all, feeds_in, moved_all}
use Rattle.server_laws.specs.Facts.{IsWithin, facts_said}
use Rattle.server_laws.specs.Course.{Adding, AreAsked, Comes, IsCourse, MayMoves, core_of, fed_in, fed_with_one, leave_of, leave_of_request}
use Rattle.server_laws.proofs.Feeding.{FeedsNone, feeds_join, feeds_none}
use Rattle.server_laws.proofs.Living.{asked_join, asked_later, fed_more, joined, may_asked}
use Rattle.server_laws.proofs.Tallying.{adds_to}
use Rattle.server_makings.specs.Asked.{AreMadeOf, AskedItem, asked_by, asked_in, asked_of_request, made_in}
use Rattle.server_makings.proofs.Config.{config_stays}
use Rattle.server_makings.proofs.Creating.{MakingsOf, heard_makes, skip_one, wants_of}
use Rattle.server_makings.proofs.Joining.{all_unmade, made_join}
use Rattle.server_makings.proofs.Keeping.{HasFronts, fronts_more, no_fronts}

-- ---- what happened last

-- each step comes to moves
abbrev pub Steps : Type 0
Steps = (happening : Happening) (s : ServerState) → Comes (leave_of happening) s (after happening s)

record IsStep (happening : Happening) (s : ServerState) : Type 0 where
  moves : List Move
  fair : AreFair moves (core_of s)
  leads : core_of (after happening s).state ≡ moved_all moves (core_of s)
  told : IsWithin (facts_said (after happening s).said) (facts_of_all moves (core_of s))
  feeds : feeds_in moves ≡ fed_with_one [] happening
  asked : (earlier : List Happening) → AreAsked (happening ∷ earlier) moves
  made : (id : ℕ) → AreMadeOf s.config.items (made_in id moves) (asked_by id happening)

none_made : (items : ℕ) (made : List ItemSpec) (wants : List AskedItem) → made ≡ [] → AreMadeOf items made wants
none_made items made wants none = subst (λ l. AreMadeOf items l wants) (sym none) tt

-- where nothing is fed and no item may be made
plain : Steps → (happening : Happening) (s : ServerState) → FeedsNone (leave_of happening) → fed_with_one [] happening ≡ []
    → ((id : ℕ) → adds_to id (leave_of happening) ≡ false) → IsStep happening s
plain law happening s none unfed never =
    let h = law happening s in
    record {
      moves = h.moves;
      fair = h.fair;
      leads = h.leads;
      told = h.told;
      feeds = feeds_none (leave_of happening) none h.moves h.may ∙ sym unfed;
      asked = λ earlier. may_asked happening earlier (leave_of happening) h.moves refl h.may;
      made = λ id. none_made s.config.items (made_in id h.moves) (asked_by id happening) (all_unmade id h.moves (leave_of happening) (never id) h.may);
    }

fed_step : (change : Change) (s : ServerState) → IsStep (Feeds change) s
unfolding fed
fed_step change s =
    record { moves = Enters change ∷ []; fair = (tt, tt); leads = refl; told = refl; feeds = refl; asked = λ earlier. (tt, tt); made = λ id. tt }

-- ---- CreateMonitoredItems

made_for : (b : Bool) (id sub items : ℕ) (moves : List Move) (wants : List AskedItem) → (sub == id) ≡ b → MayMoves (Adding sub) moves
    → AreMadeOf items (made_in sub moves) wants → AreMadeOf items (made_in id moves) (cond b wants [])
made_for true id sub items moves wants test may h =
    let same : sub ≡ id = grind (arith, nat_tests) in
    subst (λ n. AreMadeOf items (made_in n moves) wants) same h
made_for false id sub items moves wants test may h = none_made items (made_in id moves) [] (all_unmade id moves (Adding sub) test may)

created_step : (conn number : ℕ) (body : List ℕ) (r : CreateMonitoredItemsRequest) (s : ServerState)
    → request_at body ≡ Ok (request.Subscription (sub_request.CreateMonitoredItems r)) → MakingsOf r s (after (Hears conn (heard_as.Message number body)) s)
    → IsStep (Hears conn (heard_as.Message number body)) s
created_step conn number body r s is h =
    let happening : Happening = Hears conn (heard_as.Message number body) in
    let sub : ℕ = r.subscription_id in
    let moves : List Move = h.comes.moves in
    record {
      moves = moves;
      fair = h.comes.fair;
      leads = h.comes.leads;
      told = h.comes.told;
      feeds = feeds_none (Adding sub) (λ change never. never) moves h.comes.may;
      asked = λ earlier. may_asked happening earlier (Adding sub) moves (ap leave_of_request is) h.comes.may;
      made = λ id. subst (λ q. AreMadeOf s.config.items (made_in id moves) (asked_of_request id q)) (sym is)
          (made_for (sub == id) id sub s.config.items moves (wants_of r) refl h.comes.may h.made);
    }

-- ---- any other message

other_step : Steps → (conn number : ℕ) (body : List ℕ) (q : Result Request RequestFault) (s : ServerState) → request_at body ≡ q → FeedsNone (leave_of_request q)
    → ((id : ℕ) → adds_to id (leave_of_request q) ≡ false) → IsStep (Hears conn (heard_as.Message number body)) s
other_step law conn number body q s is none never =
    plain law (Hears conn (heard_as.Message number body)) s (subst (λ q. FeedsNone (leave_of_request q)) (sym is) none) refl
    (λ id. ap (λ q. adds_to id (leave_of_request q)) is ∙ never id)

sub_step : Steps → (conn number : ℕ) (body : List ℕ) (r : SubRequest) (s : ServerState) → request_at body ≡ Ok (request.Subscription r)
    → IsStep (Hears conn (heard_as.Message number body)) s
sub_step law conn number body (sub_request.CreateMonitoredItems r) s is = created_step conn number body r s is (heard_makes conn number body r s is)
sub_step law conn number body (sub_request.SetMonitoringMode r) s is = other_step law conn number body _ s is (λ change h. h) (λ id. refl)
sub_step law conn number body (sub_request.TransferSubscriptions r) s is = other_step law conn number body _ s is (λ change h. h) (λ id. refl)
sub_step law conn number body (sub_request.Republish r) s is = other_step law conn number body _ s is (λ change h. h) (λ id. refl)
sub_step law conn number body _ s is = other_step law conn number body _ s is (λ change h. h) (λ id. refl)

session_step : Steps → (conn number : ℕ) (body : List ℕ) (r : SessionRequest) (s : ServerState) → request_at body ≡ Ok (request.Session r)
    → IsStep (Hears conn (heard_as.Message number body)) s
session_step law conn number body (session_request.Read r) s is = other_step law conn number body _ s is (λ change h. h) (λ id. refl)
session_step law conn number body _ s is = other_step law conn number body _ s is (λ change h. h) (λ id. refl)

message_step : Steps → (conn number : ℕ) (body : List ℕ) (q : Result Request RequestFault) (s : ServerState) → request_at body ≡ q
    → IsStep (Hears conn (heard_as.Message number body)) s
message_step law conn number body (Ok (request.Subscription r)) s is = sub_step law conn number body r s is
message_step law conn number body (Ok (request.Session r)) s is = session_step law conn number body r s is
message_step law conn number body (Err fault) s is = other_step law conn number body (Err fault) s is (λ change h. h) (λ id. refl)

heard_step : Steps → (conn : ℕ) (h : Heard) (s : ServerState) → IsStep (Hears conn h) s
heard_step law conn (heard_as.Greeting body) s = plain law (Hears conn (heard_as.Greeting body)) s (λ change h. h) refl (λ id. refl)
heard_step law conn (heard_as.Opening channel follows number body) s =
    plain law (Hears conn (heard_as.Opening channel follows number body)) s (λ change h. h) refl (λ id. refl)
heard_step law conn (heard_as.Message number body) s = message_step law conn number body (request_at body) s refl
heard_step law conn heard_as.Close s = plain law (Hears conn heard_as.Close) s (λ change h. h) refl (λ id. refl)
heard_step law conn (heard_as.Fault code) s = plain law (Hears conn (heard_as.Fault code)) s (λ change h. h) refl (λ id. refl)

step : Steps → (happening : Happening) (s : ServerState) → IsStep happening s
step law (Opens number) s = plain law (Opens number) s (λ change h. h) refl (λ id. refl)
step law (Hears conn h) s = heard_step law conn h s
step law (Closes number) s = plain law (Closes number) s (λ change h. h) refl (λ id. refl)
step law (Feeds change) s = fed_step change s
step law (Ticks ms) s = plain law (Ticks ms) s (λ change h. h) refl (λ id. refl)
step law (Levels level) s = plain law (Levels level) s (λ change h. h) refl (λ id. refl)

-- ---- one after another

made_append : (items : ℕ) (made more : List ItemSpec) (wants others : List AskedItem) → AreMadeOf items made wants → AreMadeOf items more others
    → AreMadeOf items (made ++ more) (wants ++ others)
made_append items [] more [] others h rest = rest
made_append items [] more (one ∷ wants) others h rest = skip_one items more one (wants ++ others) (made_append items [] more wants others tt rest)
made_append items (spec ∷ made) more [] others h rest = absurd h
made_append items (spec ∷ made) more (one ∷ wants) others (inl h) rest = inl (h.0, made_append items made more wants others h.1 rest)
made_append items (spec ∷ made) more (one ∷ wants) others (inr h) rest = inr (made_append items (spec ∷ made) more wants others h rest)

pub record IsMaking (happenings : List Happening) (s : ServerState) : Type 0 where
  pub course : IsCourse happenings s
  pub made : (id : ℕ) → AreMadeOf s.config.items (made_in id course.moves) (asked_in id happenings)
  pub fronts : HasFronts happenings s course.moves

course_more : (happening : Happening) (earlier : List Happening) (s : ServerState) (one : IsCourse earlier s) (other : IsStep happening (state_after earlier s))
    → (course : IsCourse (happening ∷ earlier) s) × (course.moves ≡ one.moves ++ other.moves)
course_more happening earlier s one other =
    let before : List Move = one.moves in
    let now : List Move = other.moves in
    let both = joined happening earlier s before now one.fair other.fair one.leads other.leads one.told other.told in (
      record {
        moves = before ++ now;
        fair = both.fair;
        leads = both.leads;
        told = both.told;
        feeds = feeds_join before now ∙ ap (λ l. l ++ feeds_in now) one.feeds ∙ ap (λ l. fed_in earlier ++ l) other.feeds ∙ sym (fed_more (fed_in earlier) happening);
        asked = asked_join (happening ∷ earlier) before now (asked_later happening earlier before one.asked) (other.asked earlier);
      },
      refl,
    )

making_more : (happening : Happening) (earlier : List Happening) (s : ServerState) → IsMaking earlier s → IsStep happening (state_after earlier s)
    → IsMaking (happening ∷ earlier) s
making_more happening earlier s one other =
    let both = course_more happening earlier s one.course other in
    let before : List Move = one.course.moves in
    let same : (state_after earlier s).config.items ≡ s.config.items = ap (λ (c : ServerConfig). c.items) (config_stays earlier s) in
    let leads : core_of (state_after (happening ∷ earlier) s) ≡ moved_all (before ++ other.moves) (core_of s) =
    both.0.leads ∙ ap (λ moves. moved_all moves (core_of s)) both.1 in
    record {
      course = both.0;
      made = λ id. subst (λ moves. AreMadeOf s.config.items (made_in id moves) (asked_in id (happening ∷ earlier))) (sym both.1)
          (subst (λ l. AreMadeOf s.config.items l (asked_in id earlier ++ asked_by id happening)) (sym (made_join id before other.moves))
          (made_append s.config.items (made_in id before) (made_in id other.moves) (asked_in id earlier) (asked_by id happening) (one.made id)
          (subst (λ n. AreMadeOf n (made_in id other.moves) (asked_by id happening)) same (other.made id))));
      fronts = subst (HasFronts (happening ∷ earlier) s) (sym both.1) (fronts_more happening earlier s before other.moves one.fronts leads);
    }

none_yet : (s : ServerState) → IsMaking [] s
unfolding state_after
none_yet s = record {
  course = record { moves = []; fair = tt; leads = refl; told = refl; feeds = refl; asked = tt };
  made = λ id. tt;
  fronts = no_fronts s;
}

pub making : Steps → (happenings : List Happening) (s : ServerState) → IsMaking happenings s
making law [] s = none_yet s
making law (happening ∷ earlier) s = making_more happening earlier s (making law earlier s) (step law happening (state_after earlier s))

pub items_asked : Steps → (config : ServerConfig) (current : List Change) (happenings : List Happening)
    → (course : IsCourse happenings (new_server config current)) × ((id : ℕ) → AreMadeOf config.items (made_in id course.moves) (asked_in id happenings))
items_asked law config current happenings = let h = making law happenings (new_server config current) in (h.course, h.made)
