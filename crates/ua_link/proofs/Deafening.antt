-- A fault is the last thing that a link hears of a connection.
use Rattle.std.proofs.Common.{◌≡◌, ℕ, Bool, true, false, cond, ◌||◌, refl}
use Rattle.ua_channel.specs.declared.ear.Ear.TheVariants as ear
use Rattle.ua_channel.specs.declared.heard.Heard.TheVariants as said
use Rattle.ua_channel.specs.State.{is_deaf}
use Rattle.ua_channel.specs.Node.{Deafens}
use Rattle.link_rules.specs.State.{LinkState}
use Rattle.link_rules.specs.Said.{nothing}
use Rattle.link_rules.specs.Closing.{broken, stands_in}
use Rattle.link_rules.specs.Step.{ear_of, heard, hears}
use Rattle.ua_link.specs.Talk.{answer, ears}

closed_is_deaf : (b : Bool) → is_deaf (cond b ear.Deaf ear.Deaf) ≡ true
closed_is_deaf true = refl
closed_is_deaf false = refl

broken_is_deaf : (l : LinkState) → is_deaf (ear_of (broken l).link) ≡ true
unfolding broken
broken_is_deaf l = closed_is_deaf (l.closes || stands_in l.phase)

heard_by : (b : Bool) (code : ℕ) (l : LinkState) → is_deaf (ear_of l) ≡ b
    → is_deaf (ear_of (cond b (nothing l) (hears (said.Fault code) l)).link) ≡ true
heard_by true code l e = e
heard_by false code l e = broken_is_deaf l

heard_fault : (code : ℕ) (l : LinkState) → is_deaf (ear_of (heard (said.Fault code) l).link) ≡ true
unfolding heard
heard_fault code l = heard_by (is_deaf (ear_of l)) code l refl

pub deafens : Deafens ears answer
deafens = λ code t. heard_fault code t.link
