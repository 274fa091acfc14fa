use Rattle.std.proofs.Common.{◌≡◌, ◌∙◌, ◌<◌, ◌≤◌, ◌+◌, ◌-◌, ℕ, [], length, take, drop, min, ap, subst, arith, length-drop}
use Rattle.std.proofs.lemmas.Bool.Decides.{nat_tests}
use Rattle.ymx_machine.specs.declared.types.Call.TheVariants as call
use Rattle.ymx_machine.specs.shared.Events.{Reply}
use Rattle.ymx_model.specs.declared.types.Event.TheVariants as event
use Rattle.ymx_model.specs.session.Emissions.{in_turn}
use Rattle.ymx_model.specs.session.Histories.{Gives}
use Rattle.ymx_model.specs.session.Sessions.{Session}
use Rattle.ymx_session.specs.Streams.{waiting}
use Rattle.ymx_engine.specs.Serves.{TakesAndGives}
use Rattle.ymx_engine.proofs.Coming.{read_left}
use Rattle.ymx_engine.proofs.Hearing.{took_goes, status_was}
use Rattle.ymx_engine.proofs.Serving.{reads_one, reads_two}
use Rattle.ymx_engine.proofs.exchange.take_out_announcing.Goals as goal

-- what waits after the first bytes, while what is due goes out
rest_waits : (id first count most : ℕ) (told : Reply) (s t u : Session) → Gives in_turn s (event.Call (call.Read id first)) told t → ((j : ℕ) → waiting j u ≡ waiting j t) → 1 ≤ most → first ≡ min most count → 0 < count → first < count → count ≤ length (waiting id s) →
    (waiting id u ≡ drop first (waiting id s)) × (0 < length (waiting id u))
rest_waits id first count most told s t u g stays one least some less there =
    let left = stays id ∙ read_left id first told s t g (omega (arith, one, least, some)) (omega (arith, less, there)) in
    (left, omega (arith, less, there, ap length left, length-drop first (waiting id s)))

pub take_out-requires-then-first-count : goal.take_out-requires-then-first-count
take_out-requires-then-first-count c =
    let h = c.take_out.ensures in
    (rest_waits c.args.id c.min-first.result c.args.count c.max.result h.0 c.args.session.now c.take_out.new.session c.put_due.new.session h.1 c.put_due.ensures.waits (omega (arith, c.max.ensures)) c.min-first.ensures c.requires.some (grind (arith, nat_tests)) c.requires.there).1

pub returns-then-first-count-clause-took : goal.returns-then-first-count-clause-took
returns-then-first-count-clause-took c =
    let h = c.take_out.ensures in
    let k = c.take_out-then-first-count.ensures in
    let ring = waiting c.args.id c.args.session.now in
    let less : c.min-first.result < c.args.count = grind (arith, nat_tests) in
    let rest = rest_waits c.args.id c.min-first.result c.args.count c.max.result h.0 c.args.session.now c.take_out.new.session c.put_due.new.session h.1 c.put_due.ensures.waits (omega (arith, c.max.ensures)) c.min-first.ensures c.requires.some less c.requires.there in
    let all : c.min-first.result + (c.args.count - c.min-first.result) ≡ c.args.count = omega (arith, less) in
    subst (λ (n : ℕ). TakesAndGives c.args.id [] (take n ring) c.args.session.now c.take_out-then-first-count.new.session c.args.outgoing.now c.put_due.new.outgoing) all
    (reads_two c.args.id c.min-first.result (c.args.count - c.min-first.result) h.0 k.0 ring _ _ _ _ _ _ h.1 h.2 h.3 h.4 c.put_due.ensures.put k.1 (k.2 ∙ ap (take (c.args.count - c.min-first.result)) rest.0) k.3 k.4)

pub returns-else-first-count-clause-took : goal.returns-else-first-count-clause-took
returns-else-first-count-clause-took c =
    let h = c.take_out.ensures in
    let all : c.min-first.result ≡ c.args.count = let within : c.min-first.result ≤ c.args.count = omega (arith, c.min-first.ensures) in grind (arith, nat_tests) in
    reads_one c.args.id _ h.0 _ _ _ _ h.1 (h.2 ∙ ap (λ (n : ℕ). take n (waiting c.args.id c.args.session.now)) all) h.3 h.4

pub returns-then-first-count-clause-takes : goal.returns-then-first-count-clause-takes
returns-then-first-count-clause-takes c = λ runs.
    let h = c.take_out.ensures in
    let k = c.take_out-then-first-count.ensures in
    let rest = rest_waits c.args.id c.min-first.result c.args.count c.max.result h.0 c.args.session.now c.take_out.new.session c.put_due.new.session h.1 c.put_due.ensures.waits (omega (arith, c.max.ensures)) c.min-first.ensures c.requires.some (grind (arith, nat_tests)) c.requires.there in
    took_goes c.args.id _ k.0 _ _ k.1 rest.1 (status_was c.args.id _ k.0 _ _ k.1 runs)

pub returns-else-first-count-clause-takes : goal.returns-else-first-count-clause-takes
returns-else-first-count-clause-takes c = λ runs.
    let h = c.take_out.ensures in
    took_goes c.args.id _ h.0 _ _ h.1 (omega (arith, c.requires.some, c.requires.there)) (status_was c.args.id _ h.0 _ _ h.1 runs)
