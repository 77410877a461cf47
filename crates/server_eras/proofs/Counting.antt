-- The messages of one era, call by call.
use Rattle.std.proofs.Common.{◌≡◌, ℕ, ◌+◌, ◌≤◌, ◌==◌, List, [], ◌∷◌, ◌++◌, length, Bool, true, false, if◌then◌else◌, refl, sym, ap, ◌∙◌, arith}
use Rattle.std.specs.List.{AllByRecursion}
use Rattle.std.proofs.lemmas.List.{append-nil, length-append}
use Rattle.item_queue.specs.declared.queue.Entry.{Entry}
use Rattle.subscription.specs.declared.spec.SubSpec.{SubSpec}
use Rattle.subscription.specs.Items.{Told}
use Rattle.subscription.specs.History.{Call, state_of}
use Rattle.subscription.specs.Streams.{entries_of}
use Rattle.server_chains.specs.Chains.{joined, messages_told, told_by, with_message_told}
use Rattle.server_chains.proofs.Finding.{entries_join}
use Rattle.server_chains.proofs.Linking.{joined_more}
use Rattle.server_eras.specs.Eras.{eras_told, of_era, off_by, offs_in, with_era}

-- ---- as many eras as messages

long_by : (told : List Told) (eras : List ℕ) (messages : List (List Told)) (era : ℕ) → length eras ≡ length messages
    → length (with_era eras told era) ≡ length (with_message_told messages told)
long_by [] eras messages era same = same
long_by (one ∷ more) eras messages era same =
    length-append eras (era ∷ []) ∙ ap (λ (n : ℕ). n + 1) same ∙ sym (length-append messages ((one ∷ more) ∷ []))

pub eras_long : (spec : SubSpec) (start : ℕ) (calls : List Call) → length (eras_told spec start calls) ≡ length (messages_told spec start calls)
eras_long spec start [] = refl
eras_long spec start (call ∷ earlier) =
    long_by (told_by call (state_of spec start earlier)) (eras_told spec start earlier) (messages_told spec start earlier) (offs_in earlier)
    (eras_long spec start earlier)

-- ---- none is later than the calls come to

up_more : (less most : ℕ) (eras : List ℕ) → less ≤ most → AllByRecursion (λ (era : ℕ). era ≤ less) eras
    → AllByRecursion (λ (era : ℕ). era ≤ most) eras
up_more less most [] is all = tt
up_more less most (era ∷ eras) is all = let first = all.0 in (omega (arith, is, first), up_more less most eras is all.1)

up_and : (most era : ℕ) (eras : List ℕ) → era ≤ most → AllByRecursion (λ (e : ℕ). e ≤ most) eras
    → AllByRecursion (λ (e : ℕ). e ≤ most) (eras ++ era ∷ [])
up_and most era [] is all = (is, tt)
up_and most era (first ∷ eras) is all = (all.0, up_and most era eras is all.1)

most_by : (told : List Told) (less most : ℕ) (eras : List ℕ) → less ≤ most → AllByRecursion (λ (era : ℕ). era ≤ less) eras
    → AllByRecursion (λ (era : ℕ). era ≤ most) (with_era eras told less)
most_by [] less most eras is all = up_more less most eras is all
most_by (one ∷ more) less most eras is all = up_and most less eras is (up_more less most eras is all)

pub eras_most : (spec : SubSpec) (start : ℕ) (calls : List Call) → AllByRecursion (λ (era : ℕ). era ≤ offs_in calls) (eras_told spec start calls)
eras_most spec start [] = tt
eras_most spec start (call ∷ earlier) =
    most_by (told_by call (state_of spec start earlier)) (offs_in earlier) (off_by call + offs_in earlier) (eras_told spec start earlier)
    (omega arith) (eras_most spec start earlier)

-- ---- one message more

picked_by : {A : Type 0} (b : Bool) (n : A) (rest more last : List A) → more ≡ rest ++ last
    → (if b then n ∷ more else more) ≡ (if b then n ∷ rest else rest) ++ last
picked_by true n rest more last is = ap (λ l. n ∷ l) is
picked_by false n rest more last is = is

of_era_more : {A : Type 0} (x e : ℕ) (eras : List ℕ) (messages : List A) (m : A) → length eras ≡ length messages
    → of_era x (eras ++ e ∷ []) (messages ++ m ∷ []) ≡ of_era x eras messages ++ (if e == x then m ∷ [] else [])
of_era_more x e [] [] m same = refl
of_era_more x e [] (n ∷ messages) m same = absurd cc
of_era_more x e (k ∷ eras) [] m same = absurd cc
of_era_more x e (k ∷ eras) (n ∷ messages) m same =
    let fewer : length eras ≡ length messages = cc in
    picked_by (k == x) n (of_era x eras messages) (of_era x (eras ++ e ∷ []) (messages ++ m ∷ [])) (if e == x then m ∷ [] else [])
    (of_era_more x e eras messages m fewer)

-- ---- the entries of an item in an era

-- in the era that it is now more come
abbrev pub era_with : ℕ → ℕ → List Entry → List Entry → List Entry
era_with x now told more = told ++ (if now == x then more else [])

abbrev pub era_in : SubSpec → ℕ → ℕ → ℕ → List Call → List Entry
era_in spec start id x [] = []
era_in spec start id x (call ∷ earlier) =
    era_with x (offs_in earlier) (era_in spec start id x earlier) (entries_of id (told_by call (state_of spec start earlier)))

none_by : (b : Bool) (told : List Entry) → told ++ (if b then [] else []) ≡ told
none_by true told = append-nil told
none_by false told = append-nil told

pub era_none : (x now : ℕ) (told : List Entry) → era_with x now told [] ≡ told
era_none x now told = none_by (now == x) told

message_by : (b : Bool) (id : ℕ) (messages : List (List Told)) (one : Told) (more : List Told)
    → entries_of id (joined (messages ++ (if b then (one ∷ more) ∷ [] else [])))
    ≡ entries_of id (joined messages) ++ (if b then entries_of id (one ∷ more) else [])
message_by true id messages one more =
    ap (entries_of id) (joined_more messages (one ∷ more)) ∙ entries_join id (joined messages) (one ∷ more)
message_by false id messages one more =
    ap (λ (l : List (List Told)). entries_of id (joined l)) (append-nil messages) ∙ sym (append-nil (entries_of id (joined messages)))

era_step : (id x now : ℕ) (told : List Told) (eras : List ℕ) (messages : List (List Told)) → length eras ≡ length messages
    → entries_of id (joined (of_era x (with_era eras told now) (with_message_told messages told)))
    ≡ era_with x now (entries_of id (joined (of_era x eras messages))) (entries_of id told)
era_step id x now [] eras messages same = sym (era_none x now (entries_of id (joined (of_era x eras messages))))
era_step id x now (one ∷ more) eras messages same =
    ap (λ (l : List (List Told)). entries_of id (joined l)) (of_era_more x now eras messages (one ∷ more) same)
    ∙ message_by (now == x) id (of_era x eras messages) one more

pub era_told : (spec : SubSpec) (start id x : ℕ) (calls : List Call)
    → entries_of id (joined (of_era x (eras_told spec start calls) (messages_told spec start calls))) ≡ era_in spec start id x calls
era_told spec start id x [] = refl
era_told spec start id x (call ∷ earlier) =
    let more : List Entry = entries_of id (told_by call (state_of spec start earlier)) in
    era_step id x (offs_in earlier) (told_by call (state_of spec start earlier)) (eras_told spec start earlier) (messages_told spec start earlier)
    (eras_long spec start earlier)
    ∙ ap (λ (l : List Entry). era_with x (offs_in earlier) l more) (era_told spec start id x earlier)
