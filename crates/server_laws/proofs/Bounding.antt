-- A subscription sends no more messages than changes were fed, items made, and items woken.
use Rattle.std.proofs.Common.{◌≡◌, ℕ, ◌+◌, ◌-◌, ◌*◌, ◌≤◌, ◌==◌, ◌&&◌, List, [], ◌∷◌, ◌++◌, Bool, true, false, cond, filter, length, nat_lt, Option, Some, None, refl, sym, ap, ◌∙◌, subst, arith, length-append}
use Rattle.std.specs.Prelude.{Result, Ok, Err}
use Rattle.std.proofs.lemmas.Bool.Decides.{nat_tests}
use Rattle.std.proofs.lemmas.List.Elements.{filter-append}
use Rattle.std.proofs.Math.Nat.{mul-add, mul-le-mul_right}
use Rattle.ua_base.specs.declared.modes.Mode.{Mode}
use Rattle.set_model.specs.declared.source.Change.{Change}
use Rattle.ua_channel.specs.declared.heard.Heard.{Heard}
use Rattle.ua_channel.specs.declared.heard.Heard.TheVariants as heard_as
use Rattle.ua_session_msgs.specs.declared.request.SessionRequest.{SessionRequest}
use Rattle.ua_session_msgs.specs.declared.request.SessionRequest.TheVariants as session_request
use Rattle.ua_sub_msgs.specs.declared.item.CreateMonitoredItemsRequest.{CreateMonitoredItemsRequest}
use Rattle.ua_sub_msgs.specs.declared.request.SubRequest.{SubRequest}
use Rattle.ua_sub_msgs.specs.declared.request.SubRequest.TheVariants as sub_request
use Rattle.ua_services.specs.declared.request.Request.{Request}
use Rattle.ua_services.specs.declared.request.Request.TheVariants as request
use Rattle.ua_services.specs.declared.request.RequestFault.{RequestFault}
use Rattle.ua_services.specs.Requests.{request_at}
use Rattle.subscription.specs.declared.spec.ItemSpec.{ItemSpec}
use Rattle.subscription.specs.State.{ItemState, SubState}
use Rattle.subscription.specs.Items.{is_disabled}
use Rattle.subscription.specs.History.{Feed, state_of}
use Rattle.server_rules.specs.declared.config.ServerConfig.{ServerConfig}
use Rattle.server_rules.specs.State.{ServerState, new_server, sub_at}
use Rattle.server_rules.specs.Operations.{mode_named}
use Rattle.server_rules.specs.Step.{Happening, Opens, Hears, Closes, Feeds, Ticks, Levels, after, fed}
use Rattle.server_rules.specs.Acts.{state_after}
use Rattle.server_laws.specs.Bounded.{count_of, met, nodes_asked, nodes_in, nodes_of, nodes_of_request, AreApart, IsBounded, disabled_in, held_by, items_in, made_of, reached, sets_modes, times_woken, wakes}
use Rattle.server_laws.specs.Counted.{held}
use Rattle.server_laws.specs.Course.{Adding, AreAsked, Feeding, IsCourse, MayMoves, Setting, core_of, fed_in, fed_with_one, leave_of, leave_of_request, life_of}
use Rattle.server_laws.specs.Facts.{IsWithin, facts_said}
use Rattle.server_laws.specs.Lives.{Life, Lives, Over, Stands, Unborn, life_after, life_with, messages_in, with_call}
use Rattle.server_laws.specs.Moves.{AreFair, Core, Enters, Move, facts_of_all, feeds_in, moved, moved_all}
use Rattle.server_laws.proofs.Counting.{counted}
use Rattle.server_laws.proofs.Feeding.{FeedsNone, feeds_join, feeds_none, heard_none}
use Rattle.server_laws.proofs.Hearing.{after_comes}
use Rattle.server_laws.proofs.Living.{asked_join, asked_later, fed_more, joined, may_asked}
use Rattle.server_laws.proofs.Making.{heard_makes, made_in}
use Rattle.server_laws.proofs.Saying.{Knows, are_messages}
use Rattle.server_laws.proofs.Setting.{Sets, heard_sets}
use Rattle.server_laws.proofs.Standing.{stands_all}
use Rattle.server_laws.proofs.Waking.{made_for, all_pass, items_fewer, given_made, parts, filter_length}
use Rattle.server_laws.proofs.Tallying.{modes_in, changes_of, off_in, all_changes, all_items, fed_modes, no_modes, is_off, off_sets, on_sets, all_made, adds_to, none_more}

-- ---- a step

-- what happens comes to moves, and modes put no more entries than items were made, where it wakes one
pub record Steps (id : ℕ) (happening : Happening) (s : ServerState) (life : Life) : Type 0 where
  pub moves : List Move
  pub fair : AreFair moves (core_of s)
  pub leads : core_of (after happening s).state ≡ moved_all moves (core_of s)
  pub told : IsWithin (facts_said (after happening s).said) (facts_of_all moves (core_of s))
  pub feeds : feeds_in moves ≡ fed_with_one [] happening
  pub asked : (earlier : List Happening) → AreAsked (happening ∷ earlier) moves
  pub modes : modes_in (life_after id moves (core_of s) life) ≤ modes_in life + cond (wakes id happening s) (length (items_in (life_after id moves (core_of s) life))) 0
  pub made : (p : ℕ → Bool) → made_for p (items_in (life_after id moves (core_of s) life)) ≤ made_for p (items_in life) + length (filter p (nodes_of id happening))

no_more : (before now extra : ℕ) → now ≡ before → now ≤ before + extra
no_more before now extra same = omega (arith, same)

-- one that sets no mode in it
plain : (id : ℕ) (happening : Happening) (s : ServerState) (life : Life) → FeedsNone (leave_of happening) → fed_with_one [] happening ≡ [] → sets_modes id (leave_of happening) ≡ false
    → adds_to id (leave_of happening) ≡ false → Steps id happening s life
plain id happening s life none is other unmade =
    let h = after_comes happening s in
    record {
      moves = h.moves;
      fair = h.fair;
      leads = h.leads;
      told = h.told;
      feeds = feeds_none (leave_of happening) none h.moves h.may ∙ sym is;
      asked = λ earlier. may_asked happening earlier (leave_of happening) h.moves refl h.may;
      modes = no_more (modes_in life) (modes_in (life_after id h.moves (core_of s) life)) _ (no_modes id h.moves (leave_of happening) (core_of s) life other h.may);
      made = none_more id h.moves (leave_of happening) (core_of s) life (nodes_of id happening) unmade h.may;
    }

fed_steps : (id : ℕ) (change : Change) (s : ServerState) (life : Life) → Steps id (Feeds change) s life
unfolding fed
fed_steps id change s life = record {
  moves = Enters change ∷ [];
  fair = (tt, tt);
  leads = refl;
  told = refl;
  feeds = refl;
  asked = λ earlier. (tt, tt);
  modes = no_more (modes_in life) (modes_in (with_call (Feed change) life)) _ (fed_modes change life);
  made = none_more id (Enters change ∷ []) (Feeding change) (core_of s) life [] refl (refl, tt);
}

-- ---- a SetMonitoringMode

off_is : (id : ℕ) (life : Life) (c : Core) → Stands id life c → disabled_in (sub_at id c.subs) ≡ off_in life
off_is id Unborn c h = ap disabled_in h
off_is id (Lives spec start calls) c h = ap disabled_in h.0
off_is id (Over spec start calls) c h = ap disabled_in h.0

off_fewer : (life : Life) → off_in life ≤ length (items_in life)
off_fewer Unborn = omega arith
off_fewer (Lives spec start calls) =
    let some = filter_length (λ (x : ItemState). is_disabled x.mode) (state_of spec start calls).items in
    let all = items_fewer spec start calls in
    omega (arith, some, all)
off_fewer (Over spec start calls) = omega arith

fell_by : (b : Bool) (low high before now some : ℕ) → nat_lt low high ≡ b → now + low ≡ before + high → high ≤ some → now ≤ before + cond b some 0
fell_by true low high before now some test same under = omega (arith, same, under)
fell_by false low high before now some test same under = let above : high ≤ low = grind (arith, nat_tests) in omega (arith, same, above)

-- where it is of this subscription
own_sets : (id named : ℕ) (that : Option Mode) (happening : Happening) (s : ServerState) (life : Life) (h : Sets (Setting named that) s (after happening s)) (b : Bool)
    → leave_of happening ≡ Setting named that → sets_modes id (Setting named that) ≡ true → is_off that ≡ b → Stands id life (core_of s)
    → modes_in (life_after id h.comes.moves (core_of s) life)
    ≤ modes_in life + cond (wakes id happening s) (length (items_in (life_after id h.comes.moves (core_of s) life))) 0
own_sets id named that happening s life h true is own off stands =
    no_more (modes_in life) (modes_in (life_after id h.comes.moves (core_of s) life)) _ (off_sets id h.comes.moves named that (core_of s) life off h.only h.comes.may)
own_sets id named that happening s life h false is own off stands =
    let moves : List Move = h.comes.moves in
    let later : Life = life_after id moves (core_of s) life in
    let t : ServerState = (after happening s).state in
    let before : disabled_in (sub_at id s.subs) ≡ off_in life = off_is id life (core_of s) stands in
    let now : disabled_in (sub_at id t.subs) ≡ off_in later =
    off_is id later (core_of t) (subst (Stands id later) (sym h.comes.leads) (stands_all id moves life (core_of s) h.comes.fair stands)) in
    let sum : modes_in later + off_in later ≡ modes_in life + off_in life = on_sets id moves named that (core_of s) life off h.only h.comes.may in
    let some : off_in life ≤ length (items_in life) = off_fewer life in
    let more : length (items_in life) ≤ length (items_in later) = all_items id moves (core_of s) life in
    let test : wakes id happening s ≡ nat_lt (off_in later) (off_in life) =
    ap (λ l. sets_modes id l && nat_lt (disabled_in (sub_at id t.subs)) (disabled_in (sub_at id s.subs))) is
    ∙ ap (λ b. b && nat_lt (disabled_in (sub_at id t.subs)) (disabled_in (sub_at id s.subs))) own
    ∙ ap (λ n. nat_lt n (disabled_in (sub_at id s.subs))) now ∙ ap (nat_lt (off_in later)) before in
    subst (λ b. modes_in later ≤ modes_in life + cond b (length (items_in later)) 0) (sym test)
    (fell_by (nat_lt (off_in later) (off_in life)) (off_in later) (off_in life) (modes_in life) (modes_in later) (length (items_in later)) refl sum (omega (arith, some, more)))

either_sets : (id named : ℕ) (that : Option Mode) (happening : Happening) (s : ServerState) (life : Life) (h : Sets (Setting named that) s (after happening s)) (b : Bool)
    → leave_of happening ≡ Setting named that → sets_modes id (Setting named that) ≡ b → Stands id life (core_of s)
    → modes_in (life_after id h.comes.moves (core_of s) life)
    ≤ modes_in life + cond (wakes id happening s) (length (items_in (life_after id h.comes.moves (core_of s) life))) 0
either_sets id named that happening s life h true is own stands = own_sets id named that happening s life h (is_off that) is own refl stands
either_sets id named that happening s life h false is own stands =
    no_more (modes_in life) (modes_in (life_after id h.comes.moves (core_of s) life)) _ (no_modes id h.comes.moves (Setting named that) (core_of s) life own h.comes.may)

set_steps : (id named : ℕ) (that : Option Mode) (happening : Happening) (s : ServerState) (life : Life) → Sets (Setting named that) s (after happening s)
    → leave_of happening ≡ Setting named that → FeedsNone (Setting named that) → fed_with_one [] happening ≡ [] → Stands id life (core_of s) → Steps id happening s life
set_steps id named that happening s life h is none unfed stands = record {
  moves = h.comes.moves;
  fair = h.comes.fair;
  leads = h.comes.leads;
  told = h.comes.told;
  feeds = feeds_none (Setting named that) none h.comes.moves h.comes.may ∙ sym unfed;
  asked = λ earlier. may_asked happening earlier (Setting named that) h.comes.moves is h.comes.may;
  modes = either_sets id named that happening s life h (sets_modes id (Setting named that)) is refl stands;
  made = none_more id h.comes.moves (Setting named that) (core_of s) life (nodes_of id happening) refl h.comes.may;
}

-- ---- whatever happens

-- a CreateMonitoredItems
made_nodes : (b : Bool) (p : ℕ → Bool) (id named : ℕ) (nodes : List ℕ) (moves : List Move) (c : Core) (life : Life) → (named == id) ≡ b → MayMoves (Adding named) moves
    → made_for p (made_in id moves) ≤ length (filter p nodes)
    → made_for p (items_in (life_after id moves c life)) ≤ made_for p (items_in life) + length (filter p (cond b nodes []))
made_nodes true p id named nodes moves c life test may few = let all = all_made p id moves c life in omega (arith, all, few)
made_nodes false p id named nodes moves c life test may few = none_more id moves (Adding named) c life [] test may p

make_steps : (id conn number : ℕ) (body : List ℕ) (r : CreateMonitoredItemsRequest) (s : ServerState) (life : Life)
    → request_at body ≡ Ok (request.Subscription (sub_request.CreateMonitoredItems r)) → Steps id (Hears conn (heard_as.Message number body)) s life
make_steps id conn number body r s life is =
    let happening : Happening = Hears conn (heard_as.Message number body) in
    let h = heard_makes conn number body r s is in
    let leave : leave_of happening ≡ Adding r.subscription_id = ap leave_of_request is in
    let nodes : nodes_of id happening ≡ cond (r.subscription_id == id) (nodes_in r.items_to_create) [] = ap (nodes_of_request id) is in
    record {
      moves = h.comes.moves;
      fair = h.comes.fair;
      leads = h.comes.leads;
      told = h.comes.told;
      feeds = feeds_none (Adding r.subscription_id) (λ change h. h) h.comes.moves h.comes.may;
      asked = λ earlier. may_asked happening earlier (Adding r.subscription_id) h.comes.moves leave h.comes.may;
      modes = no_more (modes_in life) (modes_in (life_after id h.comes.moves (core_of s) life)) _
          (no_modes id h.comes.moves (Adding r.subscription_id) (core_of s) life refl h.comes.may);
      made = λ p. subst (λ l. made_for p (items_in (life_after id h.comes.moves (core_of s) life)) ≤ made_for p (items_in life) + length (filter p l)) (sym nodes)
          (made_nodes (r.subscription_id == id) p id r.subscription_id (nodes_in r.items_to_create) h.comes.moves (core_of s) life refl h.comes.may (h.few p id));
    }

unset : (id conn number : ℕ) (body : List ℕ) (s : ServerState) (life : Life) → sets_modes id (leave_of_request (request_at body)) ≡ false
    → adds_to id (leave_of_request (request_at body)) ≡ false → Steps id (Hears conn (heard_as.Message number body)) s life
unset id conn number body s life other unmade =
    plain id (Hears conn (heard_as.Message number body)) s life (heard_none (heard_as.Message number body)) refl other unmade

sub_steps : (id conn number : ℕ) (body : List ℕ) (r : SubRequest) (s : ServerState) (life : Life) → request_at body ≡ Ok (request.Subscription r) → Stands id life (core_of s)
    → Steps id (Hears conn (heard_as.Message number body)) s life
sub_steps id conn number body (sub_request.CreateMonitoredItems r) s life is stands = make_steps id conn number body r s life is
sub_steps id conn number body (sub_request.SetMonitoringMode r) s life is stands =
    set_steps id r.subscription_id (mode_named r.monitoring_mode) (Hears conn (heard_as.Message number body)) s life (heard_sets conn number body r s is)
    (ap leave_of_request is) (λ change h. h) refl stands
sub_steps id conn number body (sub_request.Republish r) s life is stands = unset id conn number body s life (ap (λ q. sets_modes id (leave_of_request q)) is) (ap (λ q. adds_to id (leave_of_request q)) is)
sub_steps id conn number body _ s life is stands = unset id conn number body s life (ap (λ q. sets_modes id (leave_of_request q)) is) (ap (λ q. adds_to id (leave_of_request q)) is)

session_steps : (id conn number : ℕ) (body : List ℕ) (r : SessionRequest) (s : ServerState) (life : Life) → request_at body ≡ Ok (request.Session r)
    → Steps id (Hears conn (heard_as.Message number body)) s life
session_steps id conn number body (session_request.Read r) s life is = unset id conn number body s life (ap (λ q. sets_modes id (leave_of_request q)) is) (ap (λ q. adds_to id (leave_of_request q)) is)
session_steps id conn number body _ s life is = unset id conn number body s life (ap (λ q. sets_modes id (leave_of_request q)) is) (ap (λ q. adds_to id (leave_of_request q)) is)

message_steps : (id conn number : ℕ) (body : List ℕ) (q : Result Request RequestFault) (s : ServerState) (life : Life) → request_at body ≡ q → Stands id life (core_of s)
    → Steps id (Hears conn (heard_as.Message number body)) s life
message_steps id conn number body (Ok (request.Subscription r)) s life is stands = sub_steps id conn number body r s life is stands
message_steps id conn number body (Ok (request.Session r)) s life is stands = session_steps id conn number body r s life is
message_steps id conn number body (Err fault) s life is stands = unset id conn number body s life (ap (λ q. sets_modes id (leave_of_request q)) is) (ap (λ q. adds_to id (leave_of_request q)) is)

heard_steps : (id conn : ℕ) (h : Heard) (s : ServerState) (life : Life) → Stands id life (core_of s) → Steps id (Hears conn h) s life
heard_steps id conn (heard_as.Greeting body) s life stands = plain id (Hears conn (heard_as.Greeting body)) s life (heard_none (heard_as.Greeting body)) refl refl refl
heard_steps id conn (heard_as.Opening channel follows number body) s life stands =
    plain id (Hears conn (heard_as.Opening channel follows number body)) s life (heard_none (heard_as.Opening channel follows number body)) refl refl refl
heard_steps id conn (heard_as.Message number body) s life stands = message_steps id conn number body (request_at body) s life refl stands
heard_steps id conn heard_as.Close s life stands = plain id (Hears conn heard_as.Close) s life (heard_none heard_as.Close) refl refl refl
heard_steps id conn (heard_as.Fault code) s life stands = plain id (Hears conn (heard_as.Fault code)) s life (heard_none (heard_as.Fault code)) refl refl refl

all_steps : (id : ℕ) (happening : Happening) (s : ServerState) (life : Life) → Stands id life (core_of s) → Steps id happening s life
all_steps id (Opens number) s life stands = plain id (Opens number) s life (λ change h. h) refl refl refl
all_steps id (Hears conn h) s life stands = heard_steps id conn h s life stands
all_steps id (Closes number) s life stands = plain id (Closes number) s life (λ change h. h) refl refl refl
all_steps id (Feeds change) s life stands = fed_steps id change s life
all_steps id (Ticks ms) s life stands = plain id (Ticks ms) s life (λ change h. h) refl refl refl
all_steps id (Levels level) s life stands = plain id (Levels level) s life (λ change h. h) refl refl refl

-- ---- one after another

-- from a beginning without the subscription
pub record Runs (id : ℕ) (happenings : List Happening) (s : ServerState) : Type 0 where
  pub course : IsCourse happenings s
  pub modes : modes_in (life_after id course.moves (core_of s) Unborn) ≤ length (items_in (life_after id course.moves (core_of s) Unborn)) * times_woken id happenings s
  pub made : (p : ℕ → Bool) → made_for p (items_in (life_after id course.moves (core_of s) Unborn)) ≤ length (filter p (nodes_asked id happenings))

life_join : (id : ℕ) (one other : List Move) (c : Core) (life : Life) → life_after id (one ++ other) c life ≡ life_after id other (moved_all one c) (life_after id one c life)
life_join id [] other c life = refl
life_join id (move ∷ one) other c life = life_join id one other (moved move c) (life_with id move c life)

sum_by : (b : Bool) (modes later_modes items later_items times : ℕ) → modes ≤ items * times → later_modes ≤ modes + cond b later_items 0 → items ≤ later_items
    → later_modes ≤ later_items * (cond b 1 0 + times)
sum_by true modes later_modes items later_items times before now more =
    let grows : items * times ≤ later_items * times = mul-le-mul_right times more in
    let parts_of : later_items * (1 + times) ≡ later_items * 1 + later_items * times = mul-add later_items 1 times in
    omega (arith, before, now, grows, parts_of)
sum_by false modes later_modes items later_items times before now more =
    let grows : items * times ≤ later_items * times = mul-le-mul_right times more in
    let parts_of : later_items * (0 + times) ≡ later_items * 0 + later_items * times = mul-add later_items 0 times in
    omega (arith, before, now, grows, parts_of)

nodes_sum : (p : ℕ → Bool) (later_made made : ℕ) (now before : List ℕ) → made ≤ length (filter p before) → later_made ≤ made + length (filter p now)
    → later_made ≤ length (filter p (now ++ before))
nodes_sum p later_made made now before former more =
    let both : length (filter p (now ++ before)) ≡ length (filter p now ++ filter p before) = ap length (filter-append p now before) in
    let long = length-append (filter p now) (filter p before) in
    omega (arith, former, more, both, long)

runs_more : (id : ℕ) (happening : Happening) (earlier : List Happening) (s : ServerState) (one : Runs id earlier s)
    → Steps id happening (state_after earlier s) (life_after id one.course.moves (core_of s) Unborn) → Runs id (happening ∷ earlier) s
runs_more id happening earlier s one other =
    let t : ServerState = state_after earlier s in
    let c : Core = core_of s in
    let h = one.course in
    let life : Life = life_after id h.moves c Unborn in
    let later : Life = life_after id other.moves (core_of t) life in
    let both = joined happening earlier s h.moves other.moves h.fair other.fair h.leads other.leads h.told other.told in
    let same : life_after id (h.moves ++ other.moves) c Unborn ≡ later =
    life_join id h.moves other.moves c Unborn ∙ ap (λ d. life_after id other.moves d life) (sym h.leads) in
    record {
      course = record {
        moves = h.moves ++ other.moves;
        fair = both.fair;
        leads = both.leads;
        told = both.told;
        feeds = feeds_join h.moves other.moves ∙ ap (λ l. l ++ feeds_in other.moves) h.feeds ∙ ap (λ l. fed_in earlier ++ l) other.feeds
            ∙ sym (fed_more (fed_in earlier) happening);
        asked = asked_join (happening ∷ earlier) h.moves other.moves (asked_later happening earlier h.moves h.asked) (other.asked earlier);
      };
      modes = subst (λ (l : Life). modes_in l ≤ length (items_in l) * times_woken id (happening ∷ earlier) s) (sym same)
          (sum_by (wakes id happening t) (modes_in life) (modes_in later) (length (items_in life)) (length (items_in later)) (times_woken id earlier s)
          one.modes other.modes (all_items id other.moves (core_of t) life));
      made = λ p. subst (λ (l : Life). made_for p (items_in l) ≤ length (filter p (nodes_asked id (happening ∷ earlier)))) (sym same)
          (nodes_sum p (made_for p (items_in later)) (made_for p (items_in life)) (nodes_of id happening) (nodes_asked id earlier) (one.made p) (other.made p));
    }

runs_none : (id : ℕ) (s : ServerState) → Runs id [] s
unfolding state_after
runs_none id s = record {
  course = record { moves = []; fair = tt; leads = refl; told = refl; feeds = refl; asked = tt };
  modes = omega arith;
  made = λ p. omega arith;
}

stands_now : (id : ℕ) (happenings : List Happening) (s : ServerState) (h : IsCourse happenings s) → sub_at id s.subs ≡ None
    → Stands id (life_after id h.moves (core_of s) Unborn) (core_of (state_after happenings s))
stands_now id happenings s h none =
    subst (Stands id (life_after id h.moves (core_of s) Unborn)) (sym h.leads) (stands_all id h.moves Unborn (core_of s) h.fair none)

runs : (id : ℕ) (happenings : List Happening) (s : ServerState) → sub_at id s.subs ≡ None → Runs id happenings s
runs id [] s none = runs_none id s
runs id (happening ∷ earlier) s none =
    let one = runs id earlier s none in
    runs_more id happening earlier s one
    (all_steps id happening (state_after earlier s) (life_after id one.course.moves (core_of s) Unborn) (stands_now id earlier s one.course none))

-- ---- the bound

held_now : (id : ℕ) (life : Life) (c : Core) → Stands id life c
    → length (messages_in life) + held_by (sub_at id c.subs) ≤ length (items_in life) + reached (changes_of life) (items_in life) + modes_in life
held_now id Unborn c h = let none : held_by (sub_at id c.subs) ≡ 0 = ap held_by h in omega (arith, none)
held_now id (Lives spec start calls) c h =
    let now : held_by (sub_at id c.subs) ≡ held (state_of spec start calls).items = ap held_by h.0 in
    let put = counted spec start calls in
    let all = parts spec start calls in
    omega (arith, now, put, all)
held_now id (Over spec start calls) c h =
    let none : held_by (sub_at id c.subs) ≡ 0 = ap held_by h.0 in
    let put = counted spec start calls in
    let all = parts spec start calls in
    omega (arith, none, put, all)

reached_met : (changes : List Change) (specs : List ItemSpec) (nodes : List ℕ) → ((p : ℕ → Bool) → made_for p specs ≤ length (filter p nodes))
    → reached changes specs ≤ met changes nodes
reached_met [] specs nodes few = omega arith
reached_met (change ∷ changes) specs nodes few =
    let rest = reached_met changes specs nodes few in
    let one : made_of change.item specs ≤ count_of change.item nodes = few (λ n. n == change.item) in
    omega (arith, rest, one)

met_apart : (changes : List Change) (nodes : List ℕ) → AreApart nodes → met changes nodes ≤ length changes
met_apart [] nodes apart = omega arith
met_apart (change ∷ changes) nodes apart =
    let rest = met_apart changes nodes apart in
    let one = apart change.item in
    omega (arith, rest, one)

no_more_items : (specs : List ItemSpec) (nodes : List ℕ) → ((p : ℕ → Bool) → made_for p specs ≤ length (filter p nodes)) → length specs ≤ length nodes
no_more_items specs nodes few =
    let h : made_for (λ n. true) specs ≤ length (filter (λ n. true) nodes) = few (λ n. true) in
    let one : made_for (λ n. true) specs ≡ length specs = all_pass specs in
    let other : length (filter (λ n. true) nodes) ≡ length nodes = all_pass nodes in
    omega (arith, h, one, other)

given_in : (id : ℕ) (life : Life) (c : Core) → Stands id life c → (sub : SubState) → sub_at id c.subs ≡ Some sub → length (items_in life) ≡ sub.given
given_in id Unborn c h sub found = let both : ◌≡◌ {A = Option SubState} None (Some sub) = sym h ∙ found in absurd cc
given_in id (Lives spec start calls) c h sub found =
    let both : Some (state_of spec start calls) ≡ Some sub = sym h.0 ∙ found in
    let same : state_of spec start calls ≡ sub = cc in
    given_made spec start calls ∙ ap (λ (x : SubState). x.given) same
given_in id (Over spec start calls) c h sub found = let both : ◌≡◌ {A = Option SubState} None (Some sub) = sym h.0 ∙ found in absurd cc

from_none : (a b : ℕ) → a ≤ 0 + b → a ≤ b
from_none a b h = omega (arith, h)

most_by : (sent_held items reaching modes changes times : ℕ) → sent_held ≤ items + reaching + modes → reaching ≤ changes → modes ≤ items * times
    → sent_held ≤ changes + items * (1 + times)
most_by sent_held items reaching modes changes times all under some =
    let parts_of : items * (1 + times) ≡ items * 1 + items * times = mul-add items 1 times in
    omega (arith, all, under, some, parts_of)

-- with more items
wider : (sent_held changes more_changes items more_items times : ℕ) → sent_held ≤ changes + items * (1 + times) → changes ≤ more_changes → items ≤ more_items
    → sent_held ≤ more_changes + more_items * (1 + times)
wider sent_held changes more_changes items more_items times all under few =
    let grows : items * (1 + times) ≤ more_items * (1 + times) = mul-le-mul_right (1 + times) few in
    omega (arith, all, under, grows)

pub bounded_in : Knows → (config : ServerConfig) (current : List Change) (happenings : List Happening) (id : ℕ) → IsBounded id happenings (new_server config current)
bounded_in law config current happenings id =
    let s : ServerState = new_server config current in
    let r = runs id happenings s refl in
    let h = r.course in
    let life : Life = life_after id h.moves (core_of s) Unborn in
    let items : List ItemSpec = items_in life in
    let nodes : List ℕ = nodes_asked id happenings in
    let stands : Stands id life (core_of (state_after happenings s)) = stands_now id happenings s h refl in
    let all = held_now id life (core_of (state_after happenings s)) stands in
    let changes : reached (changes_of life) items ≤ reached (feeds_in h.moves) items =
    from_none (reached (changes_of life) items) (reached (feeds_in h.moves) items) (all_changes id h.moves (core_of s) Unborn items) in
    let fed_all : reached (changes_of life) items ≤ reached (fed_in happenings) items =
    subst (λ l. reached (changes_of life) items ≤ reached l items) h.feeds changes in
    let most : length (messages_in life) + held_by (sub_at id (state_after happenings s).subs) ≤ reached (fed_in happenings) items + length items * (1 + times_woken id happenings s) =
    most_by _ (length items) (reached (changes_of life) items) (modes_in life) (reached (fed_in happenings) items) (times_woken id happenings s) all fed_all r.modes in
    let closed : length (messages_in life) + held_by (sub_at id (state_after happenings s).subs) ≤ met (fed_in happenings) nodes + length nodes * (1 + times_woken id happenings s) =
    wider _ (reached (fed_in happenings) items) (met (fed_in happenings) nodes) (length items) (length nodes) (times_woken id happenings s) most
    (reached_met (fed_in happenings) items nodes r.made) (no_more_items items nodes r.made) in
    record {
      course = h;
      life = life;
      is = refl;
      stands = stands;
      messages = are_messages law id (life_of happenings s) (core_of s) h.moves h.fair refl h.leads h.told;
      given = given_in id life (core_of (state_after happenings s)) stands;
      most = most;
      asked = r.made;
      closed = closed;
      apart = λ apart_now. wider _ (met (fed_in happenings) nodes) (length (fed_in happenings)) (length nodes) (length nodes) (times_woken id happenings s) closed
          (met_apart (fed_in happenings) nodes apart_now) (omega arith);
    }
