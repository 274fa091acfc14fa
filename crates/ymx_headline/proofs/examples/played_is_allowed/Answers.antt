use Rattle.ymx_model.specs.world.Worlds.{new_world}
use Rattle.ymx_headline.proofs.worked.Played.{plays, new-within}
use Rattle.ymx_headline.proofs.worked.FedByBlocks.{feeds}
use Rattle.ymx_headline.proofs.worked.Emitted.{emits}
use Rattle.ymx_headline.proofs.examples.played_is_allowed.Goals as goal

pub returns : goal.returns
returns c = record {
  world = λ steps wa fa wb fb la ha lb hb pa pb sa z sb. plays steps (new_world wa fa wb fb) (new-within wa fa wb fb la ha lb hb pa pb sa z sb);
  feeding = feeds;
  emitting = emits;
}
