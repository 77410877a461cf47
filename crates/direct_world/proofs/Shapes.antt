-- The shape of a world stays as it is.
use Rattle.std.proofs.Common.{◌≡◌, ℕ, zero, suc, ◌<◌, List, [], ◌∷◌, length, sym, ap, subst, ◌^◌, ◌∙◌, arith, slice_index_or, slice_set, None, Option, Bool}
use Rattle.std.specs.Prelude.{replicate}
use Rattle.std.proofs.lemmas.List.{length-set, length-replicate}
use Rattle.set_model.specs.declared.stamp.Stamp.{Stamp}
use Rattle.delivery_log.specs.State.{LogState}
use Rattle.delivery_log.specs.Log.{new_log}
use Rattle.direct_world.specs.State.{ServerState}
use Rattle.direct_world.specs.Server.{new_server}
use Rattle.direct_world.specs.Shape.{HaveQueues, IsShaped}

have_set : (items : ℕ) (servers : List ServerState) (place : ℕ) (old s : ServerState) → HaveQueues items servers → place < length servers
    → old ≡ slice_index_or servers place old → length s.queues ≡ length old.queues → HaveQueues items (slice_set servers place s)
have_set items [] place old s h p is same = absurd (omega arith)
have_set items (t ∷ ts) zero old s h p is same = (same ∙ ap (λ x. length x.queues) is ∙ h.0, h.1)
have_set items (t ∷ ts) (suc place) old s h p is same = (h.0, have_set items ts place old s h.1 (omega arith) is same)

-- a server changed, and has as many queues
pub shaped_set : (servers : List ServerState) (log : LogState) (place : ℕ) (old s : ServerState) → place < length servers
    → old ≡ slice_index_or servers place old → length s.queues ≡ length old.queues → IsShaped servers log → IsShaped (slice_set servers place s) log
shaped_set servers log place old s p is same h = record {
  queues = have_set (length log.lasts) servers place old s h.queues p is same;
  joints = h.joints ∙ sym (length-set servers place s);
  few_servers = omega (arith, length-set servers place s, h.few_servers);
  few_items = h.few_items;
}

-- the log changed, and is as wide
pub shaped_log : (servers : List ServerState) (log more : LogState) → length more.lasts ≡ length log.lasts → length more.joints ≡ length log.joints
    → IsShaped servers log → IsShaped servers more
shaped_log servers log more l j h = record {
  queues = let P : ℕ → Type 0 = λ n. HaveQueues n servers in subst P (sym l) h.queues;
  joints = j ∙ h.joints;
  few_servers = h.few_servers;
  few_items = omega (arith, h.few_items);
}

have_at : (items : ℕ) (servers : List ServerState) (place : ℕ) (d : ServerState) → HaveQueues items servers → place < length servers
    → length (slice_index_or servers place d).queues ≡ items
have_at items [] place d h p = absurd (omega arith)
have_at items (t ∷ ts) zero d h p = h.0
have_at items (t ∷ ts) (suc place) d h p = have_at items ts place d h.1 (omega arith)

-- a server has a queue for each item
pub shaped_at : (servers : List ServerState) (log : LogState) (place : ℕ) (old : ServerState) → place < length servers
    → old ≡ slice_index_or servers place old → IsShaped servers log → length old.queues ≡ length log.lasts
shaped_at servers log place old p is h = ap (λ x. length x.queues) is ∙ have_at (length log.lasts) servers place old h.queues p

have_new : (servers items : ℕ) (oldest : Bool) (size : ℕ) → HaveQueues items (replicate servers (new_server items oldest size))
have_new zero items oldest size = tt
have_new (suc n) items oldest size = (length-replicate items _, have_new n items oldest size)

-- a new world is shaped
pub shaped_new : (servers items : ℕ) (oldest : Bool) (size : ℕ) → servers < 2 ^ 8 → items < 2 ^ 8 → IsShaped (replicate servers (new_server items oldest size)) (new_log servers items)
shaped_new servers items oldest size s i = record {
  queues = let P : ℕ → Type 0 = λ n. HaveQueues n (replicate servers (new_server items oldest size)) in
      subst P (sym (length-replicate items _)) (have_new servers items oldest size);
  joints = length-replicate servers _ ∙ sym (length-replicate servers _);
  few_servers = omega (arith, length-replicate servers (new_server items oldest size));
  few_items = omega (arith, length-replicate {A = Option Stamp} items None);
}

pub shaped_made : (servers items : ℕ) (oldest : Bool) (size : ℕ) (made : List ServerState) (log : LogState) → servers < 2 ^ 8 → items < 2 ^ 8
    → made ≡ replicate servers (new_server items oldest size) → log ≡ new_log servers items → IsShaped made log
shaped_made servers items oldest size made log s i m l =
    let P : List ServerState → Type 0 = λ x. IsShaped x log in
    let Q : LogState → Type 0 = λ x. IsShaped (replicate servers (new_server items oldest size)) x in
    subst P (sym m) (subst Q (sym l) (shaped_new servers items oldest size s i))
