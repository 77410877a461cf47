-- A HEL as the order of a turn.
use Rattle.std.proofs.Common.{◌≡◌, ℕ, true, cond, List, Option, ap, sym, ◌∙◌}
use Rattle.std.proofs.lemmas.List.{append-nil}
use Rattle.ua_chunks.specs.Bodies.{written_hello}
use Rattle.link_rules.specs.declared.notice.Notice.{Notice}
use Rattle.link_rules.specs.Said.{Greeted, says}
use Rattle.link_rules.specs.Closing.{broken}
use Rattle.link_rules.specs.Requests.{hello}
use Rattle.link_rules.specs.Opening.{greets, is_short}
use Rattle.link_turn.specs.Turns.{TurnState, done, hello_in}

said : (url : Option (List ℕ)) (t : TurnState)
    → hello_in (written_hello (hello, url)) t ≡ done (says (Greeted hello url) t.link) t
said url t = ap (λ (notices : List Notice). record (hello_in (written_hello (hello, url)) t) { notices = notices }) (sym (append-nil t.notices))

pub greeted : (url : Option (List ℕ)) (body : List ℕ) (t : TurnState) → is_short url ≡ true → body ≡ written_hello (hello, url)
    → hello_in body t ≡ done (greets url t.link) t
unfolding greets
greeted url body t short written =
    ap (λ (run : List ℕ). hello_in run t) written
    ∙ said url t
    ∙ sym (ap (λ b. done (cond b (says (Greeted hello url) t.link) (broken t.link)) t) short)
