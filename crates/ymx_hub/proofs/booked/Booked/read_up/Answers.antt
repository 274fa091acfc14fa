-- One read after another, until nothing waits or nothing more comes.
use Rattle.std.proofs.Common.{◌≡◌, ◌∙◌, length, subst, refl, Ok, Err, rules}
use Rattle.ymx_machine.specs.shared.Evidence.{evidence}
use Rattle.ymx_model.specs.declared.types.Got.{Got}
use Rattle.ymx_session.specs.Replies.{read_or}
use Rattle.ymx_hub.specs.declared.faults.HubFault.TheVariants.{Memory}
use Rattle.ymx_hub.specs.Books.{Books, Asks, to_read}
use Rattle.ymx_hub.proofs.Released.{reads_on, reads_end, reads_stop, reads_refused, reads_lack, alike_on, stay_read}
use Rattle.ymx_hub.proofs.booked.Booked.read_up.Goals as goal

pub loop-preserved : goal.loop-preserved
loop-preserved g c = record {
  next = (tt, tt);
  right = c.read.ensures.right ∙ c.loop.invariant.right;
  released = c.read.ensures.released ∙ c.loop.invariant.released;
  reads = reads_on g.R.Recorder.KEEPS c.args.seat.now c.loop.seat c.read.new.seat c.args.id (length c.loop.buffer) c.read.new.buffer c.loop.invariant.reads c.read.result c.read.ensures.booked;
  halves = alike_on g.R.Recorder.KEEPS c.loop.seat.number c.args.id (length c.loop.buffer) c.read.new.buffer c.read.result c.args.self.now c.loop.self c.read.new.self c.loop.invariant.halves c.read.ensures.steps;
  others = stay_read g.R.Recorder.KEEPS c.loop.seat.number c.args.id (length c.loop.buffer) c.read.new.buffer c.read.result c.args.self.now.session c.loop.self c.read.new.self c.loop.invariant.others c.read.ensures.steps;
}

pub returns-in-Ok-End-clause-booked : goal.returns-in-Ok-End-clause-booked
returns-in-Ok-End-clause-booked g c =
    reads_end g.R.Recorder.KEEPS c.args.seat.now c.loop.seat c.read.new.seat c.args.id (length c.loop.buffer) c.read.new.buffer c.loop.invariant.reads
    (subst (λ (got : Got). Books g.R.Recorder.KEEPS c.loop.seat c.read.new.seat (Asks (to_read c.args.id (length c.loop.buffer)) (λ given. read_or given c.read.new.buffer) c.loop.seat.number (Ok got))) c.in-Ok-End.field-0-is c.in-Ok-End.ensures.booked)

pub returns-in-Err-Memory-clause-booked : goal.returns-in-Err-Memory-clause-booked
returns-in-Err-Memory-clause-booked g c =
    reads_lack g.R.Recorder.KEEPS c.args.seat.now c.read.new.seat c.args.id _
    (reads_on g.R.Recorder.KEEPS c.args.seat.now c.loop.seat c.read.new.seat c.args.id (length c.loop.buffer) c.read.new.buffer c.loop.invariant.reads (Err c.in-Err-Memory.field-0) c.in-Err-Memory.ensures.booked)

pub returns-in-Err-Call-clause-booked : goal.returns-in-Err-Call-clause-booked
returns-in-Err-Call-clause-booked g c =
    reads_refused g.R.Recorder.KEEPS c.args.seat.now c.loop.seat c.read.new.seat c.args.id (length c.loop.buffer) c.read.new.buffer c.loop.invariant.reads c.in-Err-Call.field-0
    (λ (e : c.in-Err-Call.field-0 ≡ Memory evidence). cc (c.in-Err-Call.field-0-is)) c.in-Err-Call.ensures.booked

pub returns-in-Err-Seats-clause-booked : goal.returns-in-Err-Seats-clause-booked
returns-in-Err-Seats-clause-booked g c =
    reads_refused g.R.Recorder.KEEPS c.args.seat.now c.loop.seat c.read.new.seat c.args.id (length c.loop.buffer) c.read.new.buffer c.loop.invariant.reads c.in-Err-Seats.field-0
    (λ (e : c.in-Err-Seats.field-0 ≡ Memory evidence). cc (c.in-Err-Seats.field-0-is)) c.in-Err-Seats.ensures.booked

pub returns-in-Err-Releases-clause-booked : goal.returns-in-Err-Releases-clause-booked
returns-in-Err-Releases-clause-booked g c =
    reads_refused g.R.Recorder.KEEPS c.args.seat.now c.loop.seat c.read.new.seat c.args.id (length c.loop.buffer) c.read.new.buffer c.loop.invariant.reads c.in-Err-Releases.field-0
    (λ (e : c.in-Err-Releases.field-0 ≡ Memory evidence). cc (c.in-Err-Releases.field-0-is)) c.in-Err-Releases.ensures.booked

pub returns-in-Err-Call-clause-others : goal.returns-in-Err-Call-clause-others
returns-in-Err-Call-clause-others g c = stay_read g.R.Recorder.KEEPS c.loop.seat.number c.args.id (length c.loop.buffer) c.read.new.buffer (Err c.in-Err-Call.field-0) c.args.self.now.session c.loop.self c.read.new.self c.loop.invariant.others c.in-Err-Call.ensures.steps

pub returns-then-read_waits : goal.returns-then-read_waits
returns-then-read_waits g c = record {
  right = c.read.ensures.right ∙ c.loop.invariant.right;
  released = c.read.ensures.released ∙ c.loop.invariant.released;
  booked = reads_stop g.R.Recorder.KEEPS c.args.seat.now c.read.new.seat c.args.id (reads_on g.R.Recorder.KEEPS c.args.seat.now c.loop.seat c.read.new.seat c.args.id (length c.loop.buffer) c.read.new.buffer c.loop.invariant.reads c.read.result c.read.ensures.booked);
  waits = λ e. c.read_waits.ensures.0 (search rules);
  halves = alike_on g.R.Recorder.KEEPS c.loop.seat.number c.args.id (length c.loop.buffer) c.read.new.buffer c.read.result c.args.self.now c.loop.self c.read.new.self c.loop.invariant.halves c.read.ensures.steps;
  others = stay_read g.R.Recorder.KEEPS c.loop.seat.number c.args.id (length c.loop.buffer) c.read.new.buffer c.read.result c.args.self.now.session c.loop.self c.read.new.self c.loop.invariant.others c.read.ensures.steps;
  off = λ e. refl;
}
