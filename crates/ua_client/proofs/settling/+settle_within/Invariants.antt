use Rattle.ua_client.proofs.settling.+settle_within.Given as goal

abbrev pub decreases-settle_within : goal.decreases-settle_within
decreases-settle_within l = l.most
