-- The current values are the newest changes.
use Rattle.std.proofs.Common.{◌≡◌, ◌≢◌, ℕ, ◌==◌, List, [], ◌∷◌, ◌++◌, Bool, true, false, cond, Some, refl, sym, ap, ◌∙◌, arith, append_assoc}
use Rattle.std.proofs.lemmas.Bool.Decides.{nat_tests}
use Rattle.std.proofs.lemmas.List.{append-nil}
use Rattle.set_model.specs.declared.source.Change.{Change}
use Rattle.set_model.specs.Source.{last_of}
use Rattle.set_model.proofs.SourceLemmas.{last_of-more}
use Rattle.redundancy_nodes.specs.Current.{with_newest}
use Rattle.redundancy_nodes.proofs.Newest.{newest, others}
use Rattle.server_rules.specs.State.{ServerState}
use Rattle.server_rules.specs.Step.{Happening, Opens, Hears, Closes, Feeds, Ticks, Levels, after, fed}
use Rattle.server_rules.specs.Acts.{state_after}
use Rattle.server_laws.specs.Moves.{Core, Move, Makes, Does, Enters, Ends, Asks, Issues, Repeats, Answers, moved, moved_all}
use Rattle.server_laws.specs.Course.{Leave, MayMoves, core_of, fed_in, fed_with_one, leave_of}
use Rattle.server_laws.proofs.Hearing.{after_comes}
use Rattle.server_laws.proofs.Feeding.{FeedsNone, heard_none}
use Rattle.server_laws.proofs.Living.{state_is}

-- a change more in both
newest_by : (item : ℕ) (change : Change) (current known : List Change) (b : Bool) → (change.item == item) ≡ b → last_of item current ≡ last_of item known
    → last_of item (with_newest change current) ≡ cond b (Some change) (last_of item known)
newest_by item change current known true is h =
    let same : change.item ≡ item = grind (arith, nat_tests) in
    sym (ap (λ n. last_of n (with_newest change current)) same) ∙ newest change current
newest_by item change current known false is h =
    let apart : item ≢ change.item = λ same. absurd (grind (arith, nat_tests)) in
    others item change current apart ∙ h

pub newest_both : (item : ℕ) (change : Change) (current known : List Change) → last_of item current ≡ last_of item known
    → last_of item (with_newest change current) ≡ last_of item (known ++ change ∷ [])
newest_both item change current known h =
    newest_by item change current known (change.item == item) refl h ∙ sym (last_of-more item known change)

pub current_kept : (leave : Leave) → FeedsNone leave → (moves : List Move) (c : Core) → MayMoves leave moves → (moved_all moves c).current ≡ c.current
current_kept leave none [] c may = refl
current_kept leave none (Makes spec start ∷ moves) c may = current_kept leave none moves (moved (Makes spec start) c) may.1
current_kept leave none (Does id doing ∷ moves) c may = current_kept leave none moves (moved (Does id doing) c) may.1
current_kept leave none (Enters change ∷ moves) c may = absurd (none change may.0)
current_kept leave none (Ends id ∷ moves) c may = current_kept leave none moves (moved (Ends id) c) may.1
current_kept leave none (Asks call ∷ moves) c may = current_kept leave none moves (moved (Asks call) c) may.1
current_kept leave none (Issues ∷ moves) c may = current_kept leave none moves (moved Issues c) may.1
current_kept leave none (Repeats id number ∷ moves) c may = current_kept leave none moves c may.1
current_kept leave none (Answers answer ∷ moves) c may = current_kept leave none moves c may.1

stays : (happening : Happening) (s : ServerState) → FeedsNone (leave_of happening) → (after happening s).state.current ≡ s.current
stays happening s none =
    let h = after_comes happening s in
    ap (λ (c : Core). c.current) h.leads ∙ current_kept (leave_of happening) none h.moves (core_of s) h.may

fed_current : (change : Change) (s : ServerState) → (fed change s).state.current ≡ with_newest change s.current
unfolding fed
fed_current change s = refl

begins : (item : ℕ) (s : ServerState) → last_of item (state_after [] s).current ≡ last_of item (s.current ++ [])
unfolding state_after
begins item s = ap (last_of item) (sym (append-nil s.current))

on : (item : ℕ) (happening : Happening) (earlier : List Happening) (s : ServerState) → FeedsNone (leave_of happening)
    → fed_with_one (fed_in earlier) happening ≡ fed_in earlier → last_of item (state_after earlier s).current ≡ last_of item (s.current ++ fed_in earlier)
    → last_of item (state_after (happening ∷ earlier) s).current ≡ last_of item (s.current ++ fed_in (happening ∷ earlier))
on item happening earlier s none same h =
    ap (λ (t : ServerState). last_of item t.current) (state_is happening earlier s)
    ∙ ap (last_of item) (stays happening (state_after earlier s) none) ∙ h ∙ ap (λ l. last_of item (s.current ++ l)) (sym same)

pub currents_are : (item : ℕ) (happenings : List Happening) (s : ServerState)
    → last_of item (state_after happenings s).current ≡ last_of item (s.current ++ fed_in happenings)
currents_are item [] s = begins item s
currents_are item (Opens number ∷ earlier) s = on item (Opens number) earlier s (λ change h. h) refl (currents_are item earlier s)
currents_are item (Hears number h ∷ earlier) s = on item (Hears number h) earlier s (heard_none h) refl (currents_are item earlier s)
currents_are item (Closes number ∷ earlier) s = on item (Closes number) earlier s (λ change h. h) refl (currents_are item earlier s)
currents_are item (Feeds change ∷ earlier) s =
    ap (λ (t : ServerState). last_of item t.current) (state_is (Feeds change) earlier s)
    ∙ ap (last_of item) (fed_current change (state_after earlier s))
    ∙ newest_both item change (state_after earlier s).current (s.current ++ fed_in earlier) (currents_are item earlier s)
    ∙ ap (last_of item) (append_assoc s.current (fed_in earlier) (change ∷ []))
currents_are item (Ticks ms ∷ earlier) s = on item (Ticks ms) earlier s (λ change h. h) refl (currents_are item earlier s)
currents_are item (Levels level ∷ earlier) s = on item (Levels level) earlier s (λ change h. h) refl (currents_are item earlier s)
