use Rattle.std.proofs.Common.{rules, ◌≡◌, Some, Ok, subst, sym, length}
use Rattle.ua_values.specs.Reading.{input}
use Rattle.ua_structures.specs.Body.{service, type_at, finished, body_at, Answers}
use Rattle.ua_structures.proofs.Bodies.{finish_answers}
use Rattle.ua_structures.proofs.body.read_opened.Goals as goal

pub returns : goal.returns
returns g c =
    let family = g.B.Body.family in
    let bytes = c.args.bytes.now in
    let read : type_at (input 0 bytes) ≡ Ok (c.in-Ok.id, c.take_type.new.from) = search rules in
    let known : service family c.in-Ok.id ≡ Some c.in-Some.which = search rules in
    let is : c.finish.result ≡ finished (length bytes) c.read_structure-read.result c.read_structure-read.new.from.place = search rules in
    subst (λ r. Answers r (body_at family bytes)) (sym is)
    (finish_answers family bytes c.in-Ok.id c.in-Some.which c.take_type.new.from c.read_structure-read.result c.read_structure-read.new.from read known c.read_structure-read.ensures)
