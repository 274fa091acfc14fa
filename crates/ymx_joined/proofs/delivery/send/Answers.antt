use Rattle.std.proofs.Common.{[], length}
use Rattle.ymx_machine.specs.shared.Limits.{first_credit}
use Rattle.ymx_joined.proofs.Told.{less-room}
use Rattle.ymx_joined.proofs.delivery.send.Goals as goal

pub write-requires : goal.write-requires
write-requires c = less-room c.in_ok-id.id first_credit (length c.args.text.now) [] c.open.new.world c.requires.fits c.in_ok-id.ensures

pub finish-requires : goal.finish-requires
finish-requires c = (c.args.text.now, c.in_ok-write.ensures)

pub returns : goal.returns
returns c = (c.in_ok-id.id, c.in_ok-finish.ensures c.args.text.now c.in_ok-write.ensures)
