use Rattle.std.proofs.Common.{ap, ◌∙◌, refl, false}
use Rattle.ymx_engine.specs.declared.directions.Directions.{Directions}
use Rattle.ymx_engine.specs.Turns.{Connection, Connections, connection_of}
use Rattle.ymx_engine.proofs.Entries.{put_in, written_seen, puts_written}
use Rattle.ymx_engine.proofs.Marking.{listed_put, held_put}
use Rattle.ymx_engine.proofs.Queueing.{added_from}
use Rattle.ymx_engine.proofs.connections.Connections.add.Goals as goal

pub invariant_of-self : goal.invariant_of-self
invariant_of-self g c =
    let put = written_seen g.D.Device.seen c.args.id (record { connection = record { device = c.args.device; directions = c.new.result }; is_queued = false; is_held = false; is_busy = false }) _ _ (put_in c.insert.result _ c.args.id (record { connection = record { device = c.args.device; directions = c.new.result }; is_queued = false; is_held = false; is_busy = false }) _ _ (ap (λ (t : Connections). t.has_place) c.self.view_is ∙ c.requires.place) c.insert.ensures.succeeds c.insert.ensures.entries) in
    (listed_put c.args.id _ _ _ _ _ c.self.invariant.0 put refl (ap (λ (t : Connections). connection_of c.args.id t) c.self.view_is ∙ c.requires.free), held_put c.args.id _ _ _ _ c.self.invariant.1 put refl)

pub returns : goal.returns
returns g c =
    let seen = g.D.Device.seen in
    let put = written_seen seen c.args.id (record { connection = record { device = c.args.device; directions = c.new.result }; is_queued = false; is_held = false; is_busy = false }) _ _ (put_in c.insert.result _ c.args.id (record { connection = record { device = c.args.device; directions = c.new.result }; is_queued = false; is_held = false; is_busy = false }) _ _ (ap (λ (t : Connections). t.has_place) c.self.view_is ∙ c.requires.place) c.insert.ensures.succeeds c.insert.ensures.entries) in
    let e = c.enqueue.ensures in
    let is = ap (λ (w : Directions). let l : Connection = record { seen = seen c.args.device; directions = w } in l) c.new.ensures in
    record { added = added_from c.args.id _ _ _ _ _ _ c.self.view_is is (puts_written c.args.id _ _ _ put) (record { fresh = refl; busy = refl; held = refl; flag = refl; missed = refl }) e.connections e.turn (λ some. e.waits some (ap (λ (t : Connections). t.has_room) c.self.view_is ∙ c.requires.room)) }
