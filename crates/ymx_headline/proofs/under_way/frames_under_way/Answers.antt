use Rattle.std.proofs.Common.{refl}
use Rattle.ymx_model.specs.declared.types.Role.TheVariants.{Client, Server}
use Rattle.ymx_model.specs.world.Worlds.{new_world}
use Rattle.ymx_law_session.proofs.limits.HistoriesKeep.{new-keeps, odd_some}
use Rattle.ymx_headline.proofs.under_way.frames_under_way.Goals as goal
use Rattle.ymx_headline.proofs.world.Worlds.{emitted, delivered, step-frames, run-frames, new-frames}
use Rattle.ymx_headline.proofs.world.OneText.{one-text}
use Rattle.ymx_headline.proofs.world.Frames.{no-fault}
use Rattle.ymx_headline.proofs.world.Quiet.{quiet-between}

pub returns : goal.returns
returns c = record {
  emitted = emitted;
  delivered = delivered;
  kept = step-frames;
  always = λ may steps answers wa fa wb fb w la ha lb hb pa pb sa z sb run.
      run-frames may steps answers (new_world wa fa wb fb) w run
      (record { a = new-keeps Client wa fa la ha pa (odd_some fa pa) sa; b = new-keeps Server wb fb lb hb pb z sb })
      (new-frames (new_world wa fa wb fb) refl refl refl refl refl refl);
  one_text = one-text;
  good_headers = no-fault;
  quiet = quiet-between;
}
