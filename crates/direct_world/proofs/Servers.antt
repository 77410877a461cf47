-- What the servers of a world owe, and what a line of one server keeps of it.
use Rattle.std.proofs.Common.{◌≡◌, ◌≢◌, ℕ, zero, suc, ◌+◌, ◌<◌, ◌≤◌, List, [], ◌∷◌, ◌++◌, Option, Some, None, length, take, drop, refl, sym, ap, subst, ◌∙◌, arith, slice_set}
use Rattle.std.proofs.lemmas.List.{append_assoc, length-append, length-set, take-append-drop, drop-append-le, length-take, length-drop}
use Rattle.std.proofs.Math.Seq.{take-append_seam}
use Rattle.set_model.specs.declared.source.Change.{Change}
use Rattle.item_queue.specs.State.{QueueState}
use Rattle.delivery_log.specs.declared.rule.Joint.TheVariants.{Open}
use Rattle.set_model.specs.declared.line.GapCause.TheVariants.{Late}
use Rattle.delivery_log.specs.History.{Act, joint_of}
use Rattle.direct_world.specs.State.{ServerState}
use Rattle.direct_world.specs.Lives.{values_from}
use Rattle.direct_world.specs.Server.{place_in, next_of, pushed_at, pushed_all, fed, stopped, started, opened_all, values_of}
use Rattle.direct_world.specs.World.{server_at}
use Rattle.direct_world.proofs.Fed.{SameAt}
use Rattle.direct_world.proofs.Taking.{QueuesFed, queues_elsewhere}
use Rattle.direct_world.proofs.Feeding.{fed_all}
use Rattle.direct_world.proofs.Starting.{opens_queues}

-- a server was given the first changes of the source, up to its position
pub record ServerFed (source : List Change) (so_far : List Change) (history : List Act) (items number : ℕ) (s : ServerState) : Type 0 where
  pub width : length s.queues ≡ items
  pub within : s.position ≤ length so_far
  pub queues : QueuesFed source history number 1 (take s.position source) s.queues

abbrev pub ServersFed : List Change → List Change → List Act → ℕ → ℕ → List ServerState → Type 0
ServersFed source so_far history items number [] = Unit {0}
ServersFed source so_far history items number (s ∷ servers) =
    ServerFed source so_far history items number s × ServersFed source so_far history items (number + 1) servers

server_elsewhere : (source so_far more : List Change) (one other : List Act) (items number : ℕ) (s : ServerState) → ((i : ℕ) → SameAt number i one other)
    → length so_far ≤ length more → ServerFed source so_far one items number s → ServerFed source more other items number s
server_elsewhere source so_far more one other items number s same le h = record {
  width = h.width;
  within = omega (arith, h.within);
  queues = queues_elsewhere source one other number 1 _ s.queues (λ i least. same i) h.queues;
}

-- acts elsewhere, and a longer source, leave what servers owe as it is
pub servers_elsewhere : (source so_far more : List Change) (one other : List Act) (items number : ℕ) (servers : List ServerState)
    → ((s i : ℕ) → number ≤ s → SameAt s i one other) → length so_far ≤ length more
    → ServersFed source so_far one items number servers → ServersFed source more other items number servers
servers_elsewhere source so_far more one other items number [] same le h = tt
servers_elsewhere source so_far more one other items number (s ∷ servers) same le h = (
  server_elsewhere source so_far more one other items number s (λ i. same number i (omega arith)) le h.0,
  servers_elsewhere source so_far more one other items (number + 1) servers (λ n i least. same n i (omega arith)) le h.1,
)

-- one server changes, and acts are of that server alone
pub servers_set : (source so_far : List Change) (one other : List Act) (items number place : ℕ) (servers : List ServerState) (next : ServerState)
    → ((s i : ℕ) → number + place ≢ s → SameAt s i one other) → place < length servers
    → ServerFed source so_far other items (number + place) next
    → ServersFed source so_far one items number servers → ServersFed source so_far other items number (slice_set servers place next)
servers_set source so_far one other items number place [] next same under own h = absurd (omega arith)
servers_set source so_far one other items number zero (s ∷ servers) next same under own h = (
  (let here : number + 0 ≡ number = omega arith in
      let P : ℕ → Type 0 = λ n. ServerFed source so_far other items n next in subst P here own),
  servers_elsewhere source so_far so_far one other items (number + 1) servers (λ n i least. same n i (λ e. absurd (omega arith))) (omega arith) h.1,
)
servers_set source so_far one other items number (suc place) (s ∷ servers) next same under own h = (
  server_elsewhere source so_far so_far one other items number s (λ i. same number i (λ e. absurd (omega arith))) (omega arith) h.0,
  (let here : number + suc place ≡ (number + 1) + place = omega arith in
      let P : ℕ → Type 0 = λ n. ServerFed source so_far other items n next in
      servers_set source so_far one other items (number + 1) place servers next (λ n i off. same n i (λ e. off (omega arith))) (omega arith) (subst P here own) h.1),
)

pub servers_at : (source so_far : List Change) (history : List Act) (items number place : ℕ) (servers : List ServerState) → place < length servers
    → ServersFed source so_far history items number servers → ServerFed source so_far history items (number + place) (server_at place servers)
servers_at source so_far history items number place [] under h = absurd (omega arith)
servers_at source so_far history items number zero (s ∷ servers) under h =
    let here : number ≡ number + 0 = omega arith in
    let P : ℕ → Type 0 = λ n. ServerFed source so_far history items n s in subst P here h.0
servers_at source so_far history items number (suc place) (s ∷ servers) under h =
    let here : (number + 1) + place ≡ number + suc place = omega arith in
    let P : ℕ → Type 0 = λ n. ServerFed source so_far history items n (server_at place servers) in
    subst P here (servers_at source so_far history items (number + 1) place servers (omega arith) h.1)

length-pushed_at : (place : Option ℕ) (c : Change) (queues : List QueueState) → length (pushed_at place c queues) ≡ length queues
length-pushed_at None c queues = refl
length-pushed_at (Some place) c queues = length-set queues place _

pub length-pushed_all : (changes : List Change) (queues : List QueueState) → length (pushed_all changes queues) ≡ length queues
length-pushed_all [] queues = refl
length-pushed_all (c ∷ changes) queues =
    length-pushed_all changes (pushed_at (place_in c.item (length queues)) c queues) ∙ length-pushed_at (place_in c.item (length queues)) c queues

pub length-opened_all : (item : ℕ) (source : List Change) (queues : List QueueState)
    → length (opened_all (values_from item (length queues) source) queues) ≡ length queues
length-opened_all item source [] = refl
length-opened_all item source (queue ∷ queues) = ap suc (length-opened_all (item + 1) source queues)

-- a source that goes on splits at a position, before the changes that are fed, and after them
pub feed_split : (so_far more : List Change) (position count : ℕ) → position ≤ length so_far
    → so_far ++ more ≡ take position (so_far ++ more) ++ (take count (drop position so_far) ++ (drop count (drop position so_far) ++ more))
feed_split so_far more position count le =
    sym (take-append-drop position (so_far ++ more))
    ∙ ap (λ x. take position (so_far ++ more) ++ x)
    (drop-append-le position so_far more le
    ∙ ap (λ x. x ++ more) (sym (take-append-drop count (drop position so_far)))
    ∙ append_assoc (take count (drop position so_far)) (drop count (drop position so_far)) more)

-- a server is fed
pub feeds : (so_far more : List Change) (history : List Act) (items number count : ℕ) (s : ServerState)
    → ServerFed (so_far ++ more) so_far history items number s
    → ServerFed (so_far ++ more) so_far history items number (fed (next_of count so_far s) s)
feeds so_far more history items number count s h =
    let source = so_far ++ more in
    let front = take s.position source in
    let next = next_of count so_far s in
    let rest = drop count (drop s.position so_far) ++ more in
    let whole : source ≡ front ++ (next ++ rest) = feed_split so_far more s.position count h.within in
    let width : length front ≡ s.position = omega (arith, length-take s.position source, length-append so_far more, h.within) in
    let shorter : length next + s.position ≤ length so_far = omega (arith, length-take count (drop s.position so_far), length-drop s.position so_far, h.within) in
    let up_to : take (s.position + length next) source ≡ front ++ next =
    ap (take (s.position + length next)) (whole ∙ sym (append_assoc front next rest))
    ∙ ap (λ n. take n ((front ++ next) ++ rest)) (omega (arith, length-append front next))
    ∙ take-append_seam (front ++ next) rest in
    let P : List Change → Type 0 = λ f. QueuesFed source history number 1 f (pushed_all next s.queues) in
    record {
      width = length-pushed_all next s.queues ∙ h.width;
      within = omega arith;
      queues = subst P (sym up_to) (fed_all source history number front next rest s.queues whole h.queues);
    }

-- a server stops
pub stops : (source so_far : List Change) (history : List Act) (items number : ℕ) (s : ServerState)
    → ServerFed source so_far history items number s → ServerFed source so_far history items number (stopped s)
stops source so_far history items number s h = record { width = h.width; within = h.within; queues = h.queues }

-- a server begins its next life
pub starts : (so_far more : List Change) (before after : List Act) (items number : ℕ) (s : ServerState)
    → ((i : ℕ) → 1 ≤ i → i ≤ items → joint_of number i after ≡ Open Late)
    → ServerFed (so_far ++ more) so_far before items number s → ServerFed (so_far ++ more) so_far after items number (started so_far s)
starts so_far more before after items number s late h =
    let P : List Change → Type 0 = λ f. QueuesFed (so_far ++ more) after number 1 f (opened_all (values_of so_far s) s.queues) in
    record {
      width = length-opened_all 1 so_far s.queues ∙ h.width;
      within = omega arith;
      queues = subst P (sym (take-append_seam so_far more))
          (opens_queues so_far more before after number 1 _ s.queues (λ i least under. late i least (omega (arith, h.width))) h.queues);
    }
