use Rattle.ymx_joined.proofs.Histories.{replays}
use Rattle.ymx_joined.proofs.Piping.{are_one_tunnel_run}
use Rattle.ymx_joined.proofs.joined_tunnels.tunnels_are_one_run.Goals as goal

pub returns-clause-one_run : goal.returns-clause-one_run
returns-clause-one_run c = are_one_tunnel_run

pub returns-clause-history : goal.returns-clause-history
returns-clause-history c = λ old new runs. replays 0 runs.moves.events old.engine.session new.engine.session runs.moves.happen
