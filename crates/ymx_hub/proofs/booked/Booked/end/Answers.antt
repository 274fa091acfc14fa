use Rattle.std.proofs.Common.{◌≡◌, List, subst}
use Rattle.ymx_model.specs.declared.types.Entry.{Entry}
use Rattle.ymx_hub.specs.Booked.{Kept}
use Rattle.ymx_hub.proofs.History.{kept_replays}
use Rattle.ymx_hub.proofs.booked.Booked.end.Goals as goal

pub new-requires : goal.new-requires
new-requires g c =
    let e : c.self.inside.log.entries ≡ c.take_entries-entries.result.items = cc in
    kept_replays g.R.Recorder.KEEPS c.self.inside.ended c.self.inside.role c.self.inside.config c.take_entries-entries.result.items c.self.inside.session
    (subst (λ (es : List Entry). Kept g.R.Recorder.KEEPS c.self.inside.ended c.self.inside.role c.self.inside.config es c.self.inside.session) e c.self.invariant.0)
    (cc) c.self.invariant.3
