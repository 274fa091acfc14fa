-- One way between two sessions, of which nothing is due and nothing under way.
use Rattle.std.proofs.Common.{◌≡◌, ℕ, [], true, false, refl, ◌∙◌}
use Rattle.ymx_machine.specs.machine.Machines.{Machine}
use Rattle.ymx_model.specs.declared.types.Role.{Role}
use Rattle.ymx_model.specs.session.Sessions.{is_running}
use Rattle.ymx_model.specs.session.Emissions.{is_ready}
use Rattle.ymx_model.specs.world.Worlds.{World}
use Rattle.ymx_headline.specs.Agrees.{AgreesAs, Text, sending, hearing}
use Rattle.ymx_headline.specs.stream.OneStream.{IsQuiet}
use Rattle.ymx_headline.proofs.relation.Still.{idle, none-frames, ends-quiet}

-- Nothing is under way from A to B: nothing of A's is due, no byte is in the pipe, which wasn't stopped, and both run.
pub record IsStillWay (w : World) : Type 0 where
  pub runs_from : is_running w.a.status ≡ true
  pub runs_to : is_running w.b.status ≡ true
  pub ready : is_ready w.a ≡ false
  pub bytes : w.ab.bytes ≡ []
  pub on : w.ab.stopped ≡ false

pub no_parts : (x y : Role) (w : World) (m : Machine) (h : AgreesAs x y w m) → IsStillWay w → h.streams.ab ≡ []
no_parts x y w m h way =
    let t : Text (sending w.a m.me) (hearing w.b m.you) w.ab.bytes h.streams.ab = h.ab.text (rw (way.on, way.runs_to) refl) in
    let k = none-frames w m h.streams.ab h.b.within way.bytes (idle w.a way.runs_from way.ready).outgoing way.runs_from t in
    t.says ∙ rw (k.1, k.0) refl

pub end_quiet : (x y : Role) (w : World) (m : Machine) (h : AgreesAs x y w m) → IsStillWay w → (id : ℕ) → IsQuiet h.streams.a.window (h.streams.a.ends id)
end_quiet x y w m h way id = ends-quiet x y w m h (idle w.a way.runs_from way.ready) id
