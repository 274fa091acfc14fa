use Rattle.ymx_joined.proofs.Echoed.{echoes_come}
use Rattle.ymx_joined.proofs.joined_histories.echoes_come_back.Goals as goal

pub returns : goal.returns
returns c = echoes_come
