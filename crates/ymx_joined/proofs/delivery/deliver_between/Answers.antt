use Rattle.std.proofs.Common.{length}
use Rattle.ymx_world.proofs.Headlines.{ok-then}
use Rattle.ymx_joined.proofs.Told.{some-room, more-room, room-fits}
use Rattle.ymx_joined.proofs.delivery.deliver_between.Goals as goal

pub drive-requires : goal.drive-requires
drive-requires c = (c.in_ok-send.ensures.1).open_world

pub receive-requires : goal.receive-requires
receive-requires c =
    let sent = c.in_ok-send.ensures in record {
      room = some-room (length c.args.text.now);
      stands = (sent.0, c.args.text.now, more-room (length c.args.text.now), c.in_ok-no_memory.ensures sent.0 c.args.text.now sent.1);
    }

pub overflow_add-max : goal.overflow_add-max
overflow_add-max c = room-fits (length c.args.text.now) c.requires.fits

pub returns : goal.returns
returns c =
    let sent = c.in_ok-send.ensures in
    ok-then c.receive.result _ _ (λ got all. all sent.0 c.args.text.now (more-room (length c.args.text.now)) (c.in_ok-no_memory.ensures sent.0 c.args.text.now sent.1)) c.receive.ensures
