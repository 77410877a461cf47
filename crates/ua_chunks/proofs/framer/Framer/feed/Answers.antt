use Rattle.std.proofs.Common.{refl, rules, true, ◌≡◌}
use Rattle.ua_chunks.specs.Framing.{frames_of}
use Rattle.ua_chunks.proofs.Pieces.{gains_none}
use Rattle.ua_chunks.proofs.framer.Framer.feed.Goals as goal

pub returns-then-self : goal.returns-then-self
returns-then-self c =
    let failed : c.args.self.now.failed ≡ true = search rules in (
      failed,
      (frames_of c.args.bytes.now c.args.self.now, gains_none (frames_of c.args.bytes.now c.args.self.now) c.args.to.now.items),
      λ again. refl,
    )
