-- There are no more switches than tidings: a choice that was made stays until a server tells something new.
use Rattle.std.proofs.Common.{◌≡◌, ◌⊎◌, ℕ, zero, suc, ◌+◌, ◌-◌, ◌<◌, ◌≤◌, List, [], ◌∷◌, ◌++◌, length, Bool, false, Option, Some, None, slice_index_or, slice_set, refl, sym, ◌∙◌, ap, ap₂, subst, inl, inr, arith}
use Rattle.std.proofs.lemmas.List.{get_or-replicate, length-replicate, set-get_or}
use Rattle.failover_core.specs.declared.choice.Candidate.{Candidate}
use Rattle.failover_core.specs.Choice.{choose, number_of}
use Rattle.failover_core.specs.Laws.{IsAmong}
use Rattle.failover_core.proofs.Best as best
use Rattle.link_rules.specs.declared.notice.Notice.{Notice}
use Rattle.link_rules.specs.declared.notice.Notice.TheVariants as notice
use Rattle.client_rules.specs.declared.config.ClientConfig.{ClientConfig}
use Rattle.client_rules.specs.State.{servers_of}
use Rattle.client_rules.specs.Acts.{ClientAct, Happened, Tells, Says, Switches}
use Rattle.client_rules.specs.Step.{Moment}
use Rattle.client_laws.specs.Life.{acts_of}
use Rattle.client_laws.specs.Choosing.{AreChoices, IsChoice, Told, candidate_at, candidates_among, candidates_of, level_at, nothing_told, ready_at, server_of, switches_in, tidings_in, told_by}
use Rattle.client_laws.proofs.Choices.{among_append, are_choices, one_from, one_if, server_number}

-- ---- a choice that is made again

again_by : (ready : List Candidate) (server : ℕ) (o : Option ℕ) → choose ready (Some server) ≡ o → (level : ℕ)
    → IsAmong (record { server = server; level = level }) ready → 2 ≤ level
    → ((other : Candidate) → IsAmong other ready → other.level ≤ level) → o ≡ Some server
again_by ready server None e level listed enough highest =
    let less : level < 2 = (best.none_chosen ready (Some server)).0 e (record { server = server; level = level }) listed in
    absurd (omega arith)
again_by ready server (Some other) e level listed enough highest =
    let found = best.chosen ready (Some server) other e in
    let up : level ≤ found.level = found.highest (record { server = server; level = level }) listed in
    let down : found.level ≤ level = highest (record { server = other; level = found.level }) found.listed in
    let same : level ≡ found.level = omega arith in
    ap (λ n. Some n) (found.keeps server refl (subst (λ n. IsAmong (record { server = server; level = n }) ready) same listed))

choice_again : (ready : List Candidate) (active o : Option ℕ) → choose ready active ≡ o → choose ready o ≡ o
choice_again ready active None e = (best.none_chosen ready None).1 ((best.none_chosen ready active).0 e)
choice_again ready active (Some server) e =
    let found = best.chosen ready active server e in
    again_by ready server (choose ready (Some server)) refl found.level found.listed found.has_data found.highest

-- ---- who may be chosen has a number

numbered_by : (t : Told) (count : ℕ) (one : Candidate) → (IsAmong one (candidates_among count t) → 1 ≤ one.server)
    → IsAmong one (candidates_among count t) ⊎ IsAmong one (candidate_at (count + 1) t) → 1 ≤ one.server
numbered_by t count one rest (inl first) = rest first
numbered_by t count one rest (inr last) =
    let is : one.server ≡ count + 1 = one_from (ready_at (count + 1) t) (count + 1) (level_at (count + 1) t) one last in omega arith

numbered : (t : Told) (count : ℕ) (one : Candidate) → IsAmong one (candidates_among count t) → 1 ≤ one.server
unfolding candidates_among
numbered t zero one among = absurd among
numbered t (suc count) one among =
    numbered_by t count one (numbered t count one) (among_append one (candidates_among count t) (candidate_at (count + 1) t) among)

-- ---- who may be chosen

same_among : (count : ℕ) (t u : Told) → t.ready ≡ u.ready → t.levels ≡ u.levels
    → candidates_among count t ≡ candidates_among count u
unfolding candidates_among
same_among zero t u ready levels = refl
same_among (suc count) t u ready levels =
    ap₂ (λ (cs ds : List Candidate). cs ++ ds) (same_among count t u ready levels)
    (ap₂ (one_if (count + 1)) (ap (λ (rs : List Bool). slice_index_or rs (count + 1 - 1) false) ready)
    (ap (λ (ls : List ℕ). slice_index_or ls (count + 1 - 1) 0) levels))

same_candidates : (t u : Told) → t.ready ≡ u.ready → t.levels ≡ u.levels → candidates_of t ≡ candidates_of u
same_candidates t u ready levels =
    ap (λ n. candidates_among n t) (ap length ready) ∙ same_among (length u.ready) t u ready levels

-- ---- a choice that is made

abbrev IsMade : Told → Type 0
IsMade t = choose (candidates_of t) t.active ≡ t.active

still_made : (t u : Told) → t.ready ≡ u.ready → t.levels ≡ u.levels → t.active ≡ u.active → IsMade t → IsMade u
still_made t u ready levels active made =
    ap₂ (λ cs a. choose cs a) (sym (same_candidates t u ready levels)) (sym active) ∙ made ∙ active

switch_made : (t : Told) (to : ℕ) → number_of (choose (candidates_of t) t.active) ≡ to
    → IsMade (told_by (Switches 0 to) t)
switch_made t to is =
    let o : Option ℕ = choose (candidates_of t) t.active in
    let now : server_of to ≡ o = ap server_of (sym is)
    ∙ server_number o (λ server e. numbered t (length t.ready) _ (best.chosen (candidates_of t) t.active server e).listed) in
    ap₂ (λ cs a. choose cs a) (same_candidates (told_by (Switches 0 to) t) t refl refl) now
    ∙ choice_again (candidates_of t) t.active o refl ∙ sym now

-- ---- acts

-- how many switches there may be, after a choice that is made and after any other
abbrev Few : List ClientAct → Told → Type 0
Few acts t = (IsMade t → switches_in acts ≤ tidings_in acts) × (switches_in acts ≤ 1 + tidings_in acts)

news : (acts : List ClientAct) (t now : Told) → Few acts now
    → (IsMade t → switches_in acts ≤ 1 + tidings_in acts) × (switches_in acts ≤ 1 + (1 + tidings_in acts))
news acts t now rest = let most = rest.1 in (λ made. most, omega arith)

no_news : (server : ℕ) (acts : List ClientAct) (t : Told)
    → Few acts (record t { ready = slice_set t.ready (server - 1) (ready_at server t); levels = slice_set t.levels (server - 1) (level_at server t) })
    → (IsMade t → switches_in acts ≤ 0 + tidings_in acts) × (switches_in acts ≤ 1 + (0 + tidings_in acts))
no_news server acts t rest = (
  λ made. let less : switches_in acts ≤ tidings_in acts = rest.0
      (still_made t (record t { ready = slice_set t.ready (server - 1) (ready_at server t); levels = slice_set t.levels (server - 1) (level_at server t) })
      (sym (set-get_or t.ready (server - 1) false)) (sym (set-get_or t.levels (server - 1) 0)) refl made) in omega arith,
  let most : switches_in acts ≤ 1 + tidings_in acts = rest.1 in omega arith,
)

told_few : (server : ℕ) (n : Notice) (acts : List ClientAct) (t : Told) → Few acts (told_by (Tells server n) t)
    → Few (Tells server n ∷ acts) t
unfolding switches_in tidings_in
told_few server notice.Ready acts t rest = news acts t (told_by (Tells server notice.Ready) t) rest
told_few server notice.Lost acts t rest = news acts t (told_by (Tells server notice.Lost) t) rest
told_few server (notice.Level level) acts t rest = news acts t (told_by (Tells server (notice.Level level)) t) rest
told_few server notice.Unsupported acts t rest = no_news server acts t rest
told_few server (notice.Stream item) acts t rest = no_news server acts t rest
told_few server notice.Jump acts t rest = no_news server acts t rest
told_few server (notice.Taken item value) acts t rest = no_news server acts t rest
told_few server (notice.Sent mode) acts t rest = no_news server acts t rest
told_few server (notice.Confirmed mode) acts t rest = no_news server acts t rest

switch_few : (from to : ℕ) (acts : List ClientAct) (t : Told) → IsChoice (Switches from to) t
    → Few acts (told_by (Switches from to) t)
    → (IsMade t → 1 + switches_in acts ≤ tidings_in acts) × (1 + switches_in acts ≤ 1 + tidings_in acts)
switch_few from to acts t choice rest =
    let most : switches_in acts ≤ tidings_in acts = rest.0 (switch_made t to choice.1) in
    (λ made. absurd (choice.2 (sym choice.0 ∙ ap number_of (sym made) ∙ choice.1)), omega arith)

few : (acts : List ClientAct) (t : Told) → AreChoices acts t → Few acts t
unfolding AreChoices switches_in tidings_in
few [] t choices = (λ made. omega arith, omega arith)
few (Happened happening ∷ acts) t choices = few acts t choices.1
few (Tells server n ∷ acts) t choices = told_few server n acts t (few acts (told_by (Tells server n) t) choices.1)
few (Says server said ∷ acts) t choices = few acts t choices.1
few (Switches from to ∷ acts) t choices =
    switch_few from to acts t choices.0 (few acts (told_by (Switches from to) t) choices.1)

-- ---- a life

nobody : (servers count : ℕ) → count ≤ servers → candidates_among count (nothing_told servers) ≡ []
unfolding candidates_among
nobody servers zero most = refl
nobody servers (suc count) most =
    ap₂ (λ (cs ds : List Candidate). cs ++ ds) (nobody servers count (omega arith))
    (ap (λ b. one_if (count + 1) b (level_at (count + 1) (nothing_told servers)))
    (get_or-replicate servers (count + 1 - 1) false false (omega arith)))

begins_made : (servers : ℕ) → IsMade (nothing_told servers)
begins_made servers =
    ap (λ cs. choose cs None)
    (ap (λ n. candidates_among n (nothing_told servers)) (length-replicate servers false) ∙ nobody servers servers (omega arith))

pub are_few : (config : ClientConfig) (moments : List Moment)
    → switches_in (acts_of config moments) ≤ tidings_in (acts_of config moments)
are_few config moments =
    (few (acts_of config moments) (nothing_told (servers_of config)) (are_choices config moments)).0
    (begins_made (servers_of config))
