use Rattle.ymx_joined.proofs.Tunneling.{one_gets, one_stays, one_left}
use Rattle.ymx_joined.proofs.joined_tunnels.one_device_gets_what_the_other_gave.Goals as goal

pub returns-clause-passed_on : goal.returns-clause-passed_on
returns-clause-passed_on c = one_gets

pub returns-clause-stays : goal.returns-clause-stays
returns-clause-stays c = one_stays

pub returns-clause-left : goal.returns-clause-left
returns-clause-left c = one_left
