use Rattle.std.proofs.Common.{ap, ◌∙◌}
use Rattle.ymx_engine.proofs.Flushing.{pushes_once}
use Rattle.ymx_engine.specs.Tunnels.{Tunnel}
use Rattle.ymx_engine.proofs.tunnel.Tunnel.push_wire.Goals as goal

pub returns : goal.returns
returns g c =
    let gave = c.give_to_wire-pushed.ensures in
    let heard = c.on_pushed.ensures in
    let sent = c.release_if_sent.ensures in
    pushes_once c.give_to_wire-pushed.result c.may_push.result c.args.self.now c.give_to_wire-pushed.new.self c.on_pushed.new.self _ gave.gave gave.connections heard.heard heard.waits heard.wire heard.connections heard.serves sent.engine sent.wire sent.keeps sent.free
    (c.may_push.ensures ∙ ap (λ (t : Tunnel). t.wire.marks.may_push) c.self.view_is) c.requires.some c.requires.may (sent.memory ∙ heard.memory ∙ gave.memory)
