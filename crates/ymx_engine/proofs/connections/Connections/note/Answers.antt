use Rattle.std.proofs.Common.{ap, ◌∙◌, refl, sym}
use Rattle.ymx_engine.specs.Turns.{Connections}
use Rattle.ymx_engine.proofs.Entries.{is_some_at, no_some, connection_found, connection_none, absent, put_there}
use Rattle.ymx_engine.proofs.Marking.{in_place}
use Rattle.ymx_engine.proofs.Queueing.{notes_from}
use Rattle.ymx_engine.proofs.connections.Connections.note.Goals as goal

pub invariant_of-self : goal.invariant_of-self
invariant_of-self g c =
    let found = sym c.in-Some.ensures.value in
    let p = in_place g.D.Device.seen c.args.id c.in-Some.found.now (record c.in-Some.found.now { connection = record c.in-Some.found.now.connection { device = c.note_event.new.self } }) _ _ _ _ _ found (λ other. ((c.get_mut.follows.holds (record c.in-Some.found.now { connection = record c.in-Some.found.now.connection { device = c.note_event.new.self } })).3 (is_some_at found)).0 other) refl refl c.self.invariant in (p.are_listed, p.are_held)

pub returns-in-Some-clause-noted : goal.returns-in-Some-clause-noted
returns-in-Some-clause-noted g c = λ was is.
    let found = sym c.in-Some.ensures.value in
    let p = in_place g.D.Device.seen c.args.id c.in-Some.found.now (record c.in-Some.found.now { connection = record c.in-Some.found.now.connection { device = c.note_event.new.self } }) _ _ _ _ _ found (λ other. ((c.get_mut.follows.holds (record c.in-Some.found.now { connection = record c.in-Some.found.now.connection { device = c.note_event.new.self } })).3 (is_some_at found)).0 other) refl refl c.self.invariant in
    let e = c.enqueue.ensures in
    notes_from c.args.id c.args.ready _ _ _ _ _ was (g.D.Device.seen c.note_event.new.self) c.self.view_is p.there c.note_event.ensures p.puts (record { fresh = refl; busy = refl; held = refl; flag = refl; missed = refl }) e.connections e.turn e.awaits is

pub returns-in-Some-clause-waits : goal.returns-in-Some-clause-waits
returns-in-Some-clause-waits g c = λ some room.
    let found = sym c.in-Some.ensures.value in
    let p = in_place g.D.Device.seen c.args.id c.in-Some.found.now (record c.in-Some.found.now { connection = record c.in-Some.found.now.connection { device = c.note_event.new.self } }) _ _ _ _ _ found (λ other. ((c.get_mut.follows.holds (record c.in-Some.found.now { connection = record c.in-Some.found.now.connection { device = c.note_event.new.self } })).3 (is_some_at found)).0 other) refl refl c.self.invariant in
    c.enqueue.ensures.waits (put_there c.args.id _ _ _ p.puts) (ap (λ (t : Connections). t.has_room) c.self.view_is ∙ room)

pub returns-in-Some-clause-none : goal.returns-in-Some-clause-none
returns-in-Some-clause-none g c = λ none. no_some (sym (connection_found g.D.Device.seen c.self.inside.by_id.entries c.args.id c.in-Some.found.now c.args.self.now (ap (λ (t : Connections). t.by_id) c.self.view_is) (sym c.in-Some.ensures.value)) ∙ none)

pub returns-in_default-clause-noted : goal.returns-in_default-clause-noted
returns-in_default-clause-noted g c = λ was is. no_some (sym is ∙ connection_none g.D.Device.seen c.self.inside.by_id.entries c.args.id c.args.self.now (ap (λ (t : Connections). t.by_id) c.self.view_is) (sym c.in_default.ensures.value))

pub returns-in_default-clause-waits : goal.returns-in_default-clause-waits
returns-in_default-clause-waits g c = λ some room. absent g.D.Device.seen c.self.inside.by_id.entries c.args.id c.args.self.now (ap (λ (t : Connections). t.by_id) c.self.view_is) (sym c.in_default.ensures.value) some
