use Rattle.std.proofs.Common.{◌<◌, ℕ, arith}
use Rattle.std.proofs.lemmas.List.Elements.{All-from_get_or}
use Rattle.ua_chunks.specs.Frames.{framed}
use Rattle.ua_chunks.proofs.Written.{is_framed}
use Rattle.show.proofs.stream.show_stream.Goals as goal

pub returns-clause-framed : goal.returns-clause-framed
returns-clause-framed c =
    let each = All-from_get_or (λ (byte : ℕ). byte < 256) c.args.bytes.now 0 (λ i within. let fits = c.type_inv.bytes i in omega arith) in
    (framed 0 c.args.bytes.now, is_framed 0 c.args.bytes.now (omega arith) each, c.shown.ensures.exact)
