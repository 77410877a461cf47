use Rattle.std.proofs.Common.{◌∙◌, sym, ap}
use Rattle.std.proofs.lemmas.Result.{on_ok_weaker}
use Rattle.ua_chunks.specs.Bodies.{written_hello}
use Rattle.link_turn.proofs.Greeting.{greeted}
use Rattle.link_turn.proofs.turn.Turn.greet.Goals as goal

pub returns-in_ok-body : goal.returns-in_ok-body
returns-in_ok-body c =
    let short = sym c.if-is_short.ensures in
    let written = c.in_ok-body.ensures.body ∙ ap (λ greeting. written_hello (greeting, c.args.url.now)) c.hello.ensures in
    on_ok_weaker c.put_hello.result (λ is. is ∙ greeted c.args.url.now c.in_ok-body.body.items c.args.self.now short written) c.put_hello.ensures
