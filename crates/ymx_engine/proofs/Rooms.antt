-- What a write leaves of the room on its stream.
use Rattle.std.proofs.Common.{◌≡◌, ℕ, ◌+◌, ◌-◌, ◌<◌, ◌≤◌, ◌==◌, min, List, length, take, false, refl, ap, ◌∙◌, arith}
use Rattle.std.proofs.lemmas.Bool.Decides.{nat_tests}
use Rattle.std.proofs.lemmas.Grind.{common_steps}
use Rattle.ymx_machine.proofs.Lists.{look-change_there}
use Rattle.ymx_machine.specs.declared.types.Call.TheVariants as call
use Rattle.ymx_machine.specs.declared.types.Reply.TheVariants as reply
use Rattle.ymx_machine.specs.declared.types.Wrote.TheVariants.{Took}
use Rattle.ymx_machine.specs.shared.Events.{Reply}
use Rattle.ymx_machine.specs.shared.Replies.{write_reply}
use Rattle.ymx_model.specs.declared.types.Event.TheVariants as event
use Rattle.ymx_model.specs.session.Calls.{write_to}
use Rattle.ymx_model.specs.session.Emissions.{in_turn}
use Rattle.ymx_model.specs.session.Histories.{Gives}
use Rattle.ymx_model.specs.session.Histories.CallGives.{Outcome as HasOutcome, NoMemory}
use Rattle.ymx_model.specs.session.Records.{end_write}
use Rattle.ymx_model.specs.session.Sessions.{Session, is_closed, is_lost, on_stream}
use Rattle.ymx_session.specs.Streams.{room_of}
use Rattle.ymx_session.proofs.Straight.{HasRoom, has-room}
use Rattle.ymx_engine.specs.Events.{is_refusal}

none_test : (n : ℕ) → 0 < n → (n == 0) ≡ false
none_test n l = grind (arith, nat_tests)

module _ (id : ℕ) (bytes : List ℕ) (s : Session) (k : HasRoom id s) (some : 0 < length bytes) (fits : length bytes ≤ room_of id s) where
  credit : length bytes ≤ k.stream.writer.credit
  credit = let room = k.room in omega (arith, fits, room)

  takes_all : write_reply false bytes k.stream.phase k.stream.writer.finished k.stream.writer.credit ≡ reply.Wrote (Took (length bytes))
  takes_all =
      let live = k.live in
      let unfinished = k.unfinished in
      let a = none_test (length bytes) some in
      let b = none_test k.stream.writer.credit (omega (arith, some, credit)) in
      let m : min (length bytes) k.stream.writer.credit ≡ length bytes = omega (arith, credit) in
      rw (live, unfinished, a, b, m) refl

  next_is : (write_to id bytes s).next ≡ on_stream id (end_write bytes) s
  next_is =
      let there = k.there in
      let run = k.running in
      let closed : is_closed s.status ≡ false = rw run refl in
      let lost : is_lost s.status ≡ false = rw run refl in
      let all = takes_all in
      let a = none_test (length bytes) some in
      let whole : take (length bytes) bytes ≡ bytes = grind (arith, common_steps) in
      rw (closed, there, lost, all, a, whole) refl

  left : room_of id (on_stream id (end_write bytes) s) + length bytes ≡ room_of id s
  left =
      let run = k.running in
      let there = k.there in
      let live = k.live in
      let unfinished = k.unfinished in
      let room = k.room in
      let l = look-change_there id (end_write bytes) s.table.entries k.stream k.there in
      let a : room_of id (on_stream id (end_write bytes) s) ≡ k.stream.writer.credit - length bytes = rw (run, l, live, unfinished) refl in
      omega (arith, a, room, credit)

-- a write for which there is room leaves so much less
pub write_leaves : (id : ℕ) (bytes : List ℕ) (told : Reply) (s t : Session) → Gives in_turn s (event.Call (call.Write id bytes)) told t → is_refusal told ≡ false → 0 < length bytes → length bytes ≤ room_of id s → room_of id t + length bytes ≡ room_of id s
write_leaves id bytes told s t (HasOutcome answer state) granted some fits =
    let k = has-room id s (omega (arith, some, fits)) in
    ap (λ (v : Session). room_of id v + length bytes) (state ∙ next_is id bytes s k some fits) ∙ left id bytes s k some fits
write_leaves id bytes told s t (NoMemory needs answer state) granted some fits = let e = ap is_refusal answer in cc
