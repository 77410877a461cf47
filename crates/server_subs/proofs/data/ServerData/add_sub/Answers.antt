use Rattle.server_subs.proofs.Places.{disowned_fresh}
use Rattle.server_subs.proofs.data.ServerData.add_sub.Goals as goal

pub own-requires : goal.own-requires
own-requires c = disowned_fresh _ _ _ c.disown.ensures
