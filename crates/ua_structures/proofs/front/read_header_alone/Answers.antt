use Rattle.std.proofs.Common.{rules, ◌≡◌, Err, subst, sym}
use Rattle.ua_values.specs.Reading.{Input, Fails, input}
use Rattle.ua_structures.specs.Body.{Answers}
use Rattle.ua_structures.specs.Header.{head_at, header_at}
use Rattle.ua_structures.proofs.Headers.{front_fails}
use Rattle.ua_structures.proofs.front.read_header_alone.Goals as goal

pub returns-in-Err : goal.returns-in-Err
returns-in-Err c =
    let bytes = c.args.bytes.now in
    let begins : c.new.result ≡ input 0 bytes = search rules in
    let failed = subst (λ (i : Input). Fails c.in-Err.fault (head_at i)) begins c.in-Err.ensures in
    subst (λ r. Answers (Err r) (header_at bytes)) (sym c.failed.ensures) (front_fails bytes c.in-Err.fault failed)
