use Rattle.std.proofs.Common.{length, min, arith}
use Rattle.std.proofs.lemmas.Grind.{common_steps}
use Rattle.ymx_session.specs.Streams.{room_of}
use Rattle.ymx_engine.proofs.Parts.{part_within, part_beside, pulled_none, pull_failed, finished, gave_sent, gave_lost, broken_from, broken_to}
use Rattle.ymx_engine.proofs.Ending.{finish_gives}
use Rattle.ymx_engine.proofs.Filling.{filled, filled_whole}
use Rattle.ymx_engine.proofs.Gaining.{gains_still}
use Rattle.ymx_engine.proofs.Hearing.{never, sends_end}
use Rattle.ymx_engine.proofs.exchange.fill.Goals as goal

pub returns-then-room-eq0-clause-part : goal.returns-then-room-eq0-clause-part
returns-then-room-eq0-clause-part g c = part_beside _ (part_within (omega arith) c.shut_if_stopped.ensures.part)

pub returns-then-send-clause-part : goal.returns-then-send-clause-part
returns-then-send-clause-part g c = gave_sent _ c.in-Gave.ensures (grind (arith, common_steps)) (c.send.ensures.took c.if-send.true)

pub returns-in-Gave-clause-part : goal.returns-in-Gave-clause-part
returns-in-Gave-clause-part g c =
    let h = c.send.ensures.refused c.if-send.false in
    let k = c.reset_and_shut.ensures.reset in
    gave_lost _ h.0 h.2 k.0 c.in-Gave.ensures (grind (arith, common_steps)) h.3 h.4 h.5 h.6 h.7 k.1 c.reset_and_shut.ensures.shut c.reset_and_shut.ensures.broken

pub returns-in-NotNow-clause-part : goal.returns-in-NotNow-clause-part
returns-in-NotNow-clause-part g c = part_beside _ (pulled_none c.in-NotNow.ensures)

pub returns-in-Ended-clause-part : goal.returns-in-Ended-clause-part
returns-in-Ended-clause-part g c = let h = c.finish.ensures in part_beside _ (finished h.0 c.in-Ended.ensures h.1 c.requires.open)

pub returns-in-Failed-clause-part : goal.returns-in-Failed-clause-part
returns-in-Failed-clause-part g c =
    let h = c.reset_and_shut-in-Failed.ensures.reset in
    part_beside _ (pull_failed h.0 c.in-Failed.ensures h.1 c.reset_and_shut-in-Failed.ensures.shut c.reset_and_shut-in-Failed.ensures.broken)

pub returns-then-room-eq0-clause-ends : goal.returns-then-room-eq0-clause-ends
returns-then-room-eq0-clause-ends g c = λ open_. (gains_still c.args.id _ _ c.shut_if_stopped.ensures.same).silence

pub returns-then-room-eq0-clause-stops : goal.returns-then-room-eq0-clause-stops
returns-then-room-eq0-clause-stops g c = λ open_. (gains_still c.args.id _ _ c.shut_if_stopped.ensures.same).stop

pub returns-then-send-clause-ends : goal.returns-then-send-clause-ends
returns-then-send-clause-ends g c = λ open_. (sends_end c.args.id _ _ _ _ _ (c.send.ensures.took c.if-send.true) c.args.id).silence

pub returns-then-send-clause-stops : goal.returns-then-send-clause-stops
returns-then-send-clause-stops g c = λ open_. (sends_end c.args.id _ _ _ _ _ (c.send.ensures.took c.if-send.true) c.args.id).stop

pub returns-in-Ended-clause-ends : goal.returns-in-Ended-clause-ends
returns-in-Ended-clause-ends g c = let h = c.finish.ensures in λ open_. (finish_gives c.args.id h.0 _ _ h.1 c.args.id).silence

pub returns-in-Ended-clause-stops : goal.returns-in-Ended-clause-stops
returns-in-Ended-clause-stops g c = let h = c.finish.ensures in λ open_. (finish_gives c.args.id h.0 _ _ h.1 c.args.id).stop

pub returns-in-Gave-clause-ends : goal.returns-in-Gave-clause-ends
returns-in-Gave-clause-ends g c = λ open_. absurd (never _ open_ (broken_from _ _ c.reset_and_shut.ensures.broken))

pub returns-in-Gave-clause-stops : goal.returns-in-Gave-clause-stops
returns-in-Gave-clause-stops g c = λ open_. absurd (never _ open_ (broken_to _ _ c.reset_and_shut.ensures.broken))

pub returns-in-Failed-clause-ends : goal.returns-in-Failed-clause-ends
returns-in-Failed-clause-ends g c = λ open_. absurd (never _ open_ (broken_from _ _ c.reset_and_shut-in-Failed.ensures.broken))

pub returns-in-Failed-clause-stops : goal.returns-in-Failed-clause-stops
returns-in-Failed-clause-stops g c = λ open_. absurd (never _ open_ (broken_to _ _ c.reset_and_shut-in-Failed.ensures.broken))

pub returns-then-send-clause-fills : goal.returns-then-send-clause-fills
returns-then-send-clause-fills g c = λ may near some.
    let p = c.in-Gave.ensures in
    let all = filled c.args.directions.now c.in-Gave.count (min (room_of c.args.id c.args.session.now) (length c.args.buffer.now)) _ _ _ p may near (grind (arith, common_steps)) in
    let left = c.send.ensures.left c.if-send.true in
    filled_whole (room_of c.args.id c.args.session.now) (room_of c.args.id c.send.new.session) c.in-Gave.count (length c.args.buffer.now) all (grind (arith, common_steps)) some
