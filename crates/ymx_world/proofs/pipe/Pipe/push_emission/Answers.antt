use Rattle.std.proofs.Common.{length, rules}
use Rattle.ymx_world.proofs.Acts.{appended_goes}
use Rattle.ymx_world.proofs.pipe.Pipe.push_emission.Goals as goal

pub returns-clause-emitted : goal.returns-clause-emitted
returns-clause-emitted c =
    appended_goes c.append_emission.result (length c.args.buffer.now) _ _ c.self.inside.bytes.items c.append_emission.new.bytes.items c.self.inside.delivered c.self.inside.stopped c.self.inside.ended c.args.self.now c.self.view_is c.requires (search rules) c.append_emission.ensures.emitted
