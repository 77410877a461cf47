-- Messages whose numbers follow each other come to an end that awaits the first one's.
use Rattle.std.proofs.Common.{◌≡◌, ◌⊎◌, ℕ, true, List, [], ◌∷◌, sym, ap, subst, ◌∙◌, inl, inr}
use Rattle.ua_channel.specs.declared.ear.Ear.{Ear}
use Rattle.ua_channel.specs.declared.heard.Heard.{Heard}
use Rattle.ua_channel.specs.declared.wire.Order.{Order}
use Rattle.ua_channel.specs.Arriving.{Arrive, Chain, Expects, Follows, Sent, after_sent, heard_next}
use Rattle.ua_channel.specs.Node.{Deafens, NodeState, deaf}
use Rattle.ua_channel.proofs.Coming.{next_deaf}
use Rattle.ua_channel.proofs.Showing.{next_number}

module _ {C : Type 0} (ears : C → Ear) (answer : Heard → C → C × List Order) where
  pub chains_arrive : (first next : ℕ) (sent : List Sent) (n : NodeState C) → Deafens ears answer → Chain first sent next
      → (deaf ears answer n ≡ true) ⊎ Expects first n.channel → Arrive ears answer sent n
  chains_arrive first next [] n deafens chain awaits = tt
  chains_arrive first next (m ∷ sent) n deafens chain (inl e) = (
    inl e,
    chains_arrive (after_sent m).next next sent (heard_next ears answer m n) deafens chain.2 (inl (ap (deaf ears answer) (next_deaf ears answer m n e) ∙ e)),
  )
  chains_arrive first next (m ∷ sent) n deafens chain (inr x) =
      let follows : Follows m n.channel = record { sent = chain.1; expects = subst (λ k. Expects k n.channel) (sym chain.0) x } in (
        inr follows,
        chains_arrive (after_sent m).next next sent (heard_next ears answer m n) deafens chain.2 (next_number ears answer m n deafens follows),
      )
