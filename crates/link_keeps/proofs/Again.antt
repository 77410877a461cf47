-- What keeps the limits is read again.
use Rattle.std.proofs.Common.{◌≡◌, ℕ, Bool, List, [], ◌∷◌, Option, sym, subst}
use Rattle.std.specs.Prelude.{Ok, IfOk}
use Rattle.std.specs.List.{AllByRecursion}
use Rattle.ua_values.specs.Reading.{input}
use Rattle.ua_chunks.specs.declared.greeting.Greeting.{Greeting}
use Rattle.ua_chunks.specs.Bodies.{KeepsHello, hello_at, value_of, whole_at, written_hello}
use Rattle.ua_channel.specs.declared.heard.Heard.TheVariants as heard
use Rattle.ua_structures.specs.Body.{AreLawful, body_at}
use Rattle.ua_services.specs.declared.reply.Reply.{Reply}
use Rattle.ua_services.specs.Families.{replies, reply_put, request_put, requests, written_reply}
use Rattle.link_rules.specs.Said.{Said, Told, Greeted, Opens, Asks, Limited, Renewed}
use Rattle.link_keeps.specs.Fitting.{FitsHeard, FitsReply, KeepsSaid, KeepsTold}
use Rattle.link_keeps.specs.Again.{IsReadAgain, IsToldAgain}

-- what other crates say of what is written
pub record Reads : Type 0 where
  pub requests : AreLawful requests request_put
  pub hellos : (g : Greeting) (url : Option (List ℕ)) → KeepsHello (g, url)
      → value_of (whole_at hello_at (input 0 (written_hello (g, url)))) ≡ Ok (g, url)

told_again : Reads → (told : Told) → KeepsTold told → IsToldAgain told
told_again law (Greeted greeting url) keeps = law.hellos greeting url keeps
told_again law (Opens number r) keeps = law.requests.again r keeps.1
told_again law (Asks number r) keeps = λ short. law.requests.again r (keeps.1 short)
told_again law (Limited limits) keeps = tt
told_again law (Renewed channel token) keeps = tt

pub all_again : Reads → (said : List Said) → AllByRecursion KeepsSaid said → AllByRecursion IsReadAgain said
all_again law [] keep = tt
all_again law (one ∷ said) keep = (told_again law one.told keep.0.told, all_again law said keep.1)

reply_fits : ((r : Reply) → (reply_put r).keeps → body_at replies (written_reply r) ≡ Ok r) → (r : Reply)
    → (reply_put r).keeps → FitsReply (written_reply r)
reply_fits again r keeps = subst (λ read. IfOk read (λ one. (reply_put one).keeps)) (sym (again r keeps)) keeps

pub message_fits : ((r : Reply) → (reply_put r).keeps → body_at replies (written_reply r) ≡ Ok r) → (number : ℕ) (r : Reply)
    → (reply_put r).keeps → FitsHeard (heard.Message number (written_reply r))
message_fits again number r keeps = reply_fits again r keeps

pub opening_fits : ((r : Reply) → (reply_put r).keeps → body_at replies (written_reply r) ≡ Ok r) → (channel : ℕ)
    (follows : Bool) (number : ℕ) (r : Reply) → (reply_put r).keeps
    → FitsHeard (heard.Opening channel follows number (written_reply r))
opening_fits again channel follows number r keeps = reply_fits again r keeps
