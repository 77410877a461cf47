use Rattle.client_links.proofs.SwitchLines as lemma
use Rattle.client_links.proofs.switching.switch_lines_are_switches.Goals as goal

pub returns : goal.returns
returns c = lemma.switch_lines_are (λ config moments. (c.logs_are_of_their_acts.ensures.stands config moments).lines)
