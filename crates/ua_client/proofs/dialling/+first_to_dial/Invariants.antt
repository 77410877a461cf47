use Rattle.ua_client.proofs.dialling.+first_to_dial.Given as goal

abbrev pub decreases-first_to_dial : goal.decreases-first_to_dial
decreases-first_to_dial l = l.count
