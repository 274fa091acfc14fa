use Rattle.std.proofs.Common.{◌≡◌, ◌∙◌, ◌+◌, ◌<◌, ◌≤◌, length, false, refl, ap, sym, subst, arith, inl, inr}
use Rattle.ymx_model.specs.session.Feeds.{is_stuck}
use Rattle.ymx_engine.specs.Engines.{Engine}
use Rattle.ymx_engine.specs.Tunnels.{Tunnel}
use Rattle.ymx_engine.specs.Turns.{IsDue}
use Rattle.ymx_engine.proofs.Attending.{keeps_none, keeps_on}
use Rattle.ymx_engine.proofs.Feeding.{takes_payload}
use Rattle.ymx_engine.proofs.InPlace.{first_asked, first_ends, first_fed, free_inside, in_place_asked, in_place_fed, in_place_none}
use Rattle.ymx_engine.proofs.Placing.{fed_or_stuck, never_off}
use Rattle.ymx_engine.proofs.tunnel.Tunnel.advance.Goals as goal

pub payload-init : goal.payload-init
payload-init g c = record { keeps = keeps_none _; waits = λ off. refl; placed = in_place_none _; anew = inl refl; few = omega arith }

pub returns-then-puts_off_next-clause-keeps : goal.returns-then-puts_off_next-clause-keeps
returns-then-puts_off_next-clause-keeps g c = keeps_on _ _ _ c.payload.invariant.keeps c.puts_off_next.ensures.keeps

pub payload-preserved-then-feed_to_payload : goal.payload-preserved-then-feed_to_payload
payload-preserved-then-feed_to_payload g c =
    let fewer = c.feed_to_payload.ensures.goes_on c.if-feed_to_payload.true in
    let same : length c.puts_off_next.new.self.engine.incoming ≡ length c.payload.self.engine.incoming = ap (λ (e : Engine). length e.incoming) c.puts_off_next.ensures.engine in
    let before = c.payload.invariant.few in
    let free = c.puts_off_next.ensures.same ∙ sym c.puts_off_next.ensures.exact ∙ c.if-puts_off_next.false in
    record { keeps = keeps_on _ _ _ c.payload.invariant.keeps (keeps_on _ _ _ c.puts_off_next.ensures.keeps c.feed_to_payload.ensures.keeps); waits = λ off. let no : ⊥ = never_off _ _ _ (c.payload.invariant.waits off) off c.puts_off_next.ensures.exact c.if-puts_off_next.false in absurd no; placed = in_place_fed _ _ _ (in_place_asked _ _ _ c.payload.invariant.placed c.puts_off_next.ensures.engine c.puts_off_next.ensures.counts) free c.feed_to_payload.ensures.placed c.feed_to_payload.ensures.keeps c.feed_to_payload.ensures.anew; anew = inr c.feed_to_payload.ensures.anew; few = omega (arith, fewer, same, before) }

pub payload-preserved : goal.payload-preserved
payload-preserved g c =
    let view = c.self-in-payload.view_is in
    let row = c.in-Some.ensures.some in
    let least = c.max.ensures in
    let free : is_stuck c.feed_to_payload.new.self.engine.session ≡ false = sym (ap (λ (t : Tunnel). is_stuck t.engine.session) view) ∙ takes_payload c.self-in-payload.inside.session _ (row.passes).passes in
    let waits : length c.waiting-in-payload.result.now ≡ length c.feed_to_payload.new.self.engine.incoming = ap length (c.waiting-in-payload.ensures ∙ ap (λ (t : Tunnel). t.engine.incoming) view) in
    let some : 0 < length c.waiting-in-payload.result.now = c.in-Some.ensures.waits in
    let fewer : length c.feed_payload.new.self.engine.incoming < length c.feed_to_payload.new.self.engine.incoming = c.feed_payload.ensures.some free (omega arith) (omega arith) in
    let less : length c.feed_to_payload.new.self.engine.incoming ≤ length c.puts_off_next.new.self.engine.incoming = c.feed_to_payload.ensures.few in
    let same : length c.puts_off_next.new.self.engine.incoming ≡ length c.payload.self.engine.incoming = ap (λ (e : Engine). length e.incoming) c.puts_off_next.ensures.engine in
    let before : length c.payload.self.engine.incoming + c.payload.turn ≤ length c.args.self.now.engine.incoming = c.payload.invariant.few in
    let free = c.puts_off_next.ensures.same ∙ sym c.puts_off_next.ensures.exact ∙ c.if-puts_off_next.false in
    record { keeps = keeps_on _ _ _ c.payload.invariant.keeps (keeps_on _ _ _ c.puts_off_next.ensures.keeps (keeps_on _ _ _ c.feed_to_payload.ensures.keeps c.feed_payload.ensures.keeps)); waits = λ off. let no : ⊥ = never_off _ _ _ (c.payload.invariant.waits off) off c.puts_off_next.ensures.exact c.if-puts_off_next.false in absurd no; placed = in_place_fed _ _ _ (in_place_fed _ _ _ (in_place_asked _ _ _ c.payload.invariant.placed c.puts_off_next.ensures.engine c.puts_off_next.ensures.counts) free c.feed_to_payload.ensures.placed c.feed_to_payload.ensures.keeps c.feed_to_payload.ensures.anew) (free_inside _ _ _ c.feed_to_payload.new.self (ap (λ (t : Tunnel). t.engine.session) view) row) c.feed_payload.ensures.placed c.feed_payload.ensures.keeps c.feed_payload.ensures.anew; anew = inr c.feed_payload.ensures.anew; few = omega arith }

pub returns-in_default-clause-keeps : goal.returns-in_default-clause-keeps
returns-in_default-clause-keeps g c = keeps_on _ _ _ c.payload.invariant.keeps (keeps_on _ _ _ c.puts_off_next.ensures.keeps c.feed_to_payload.ensures.keeps)

pub returns-in_default-clause-rest : goal.returns-in_default-clause-rest
returns-in_default-clause-rest g c =
    let view = c.self-in-payload.view_is in
    inl (fed_or_stuck c.feed_to_payload.new.self.engine c.self-in-payload.inside.session c.waiting-in-payload.result.now (ap (λ (t : Tunnel). t.engine.session) view) (c.waiting-in-payload.ensures ∙ ap (λ (t : Tunnel). t.engine.incoming) view)
    (c.feed_to_payload.ensures.rest c.if-feed_to_payload.false) c.in_default.ensures.none)

pub returns-then-is_worth_a_call-clause-keeps : goal.returns-then-is_worth_a_call-clause-keeps
returns-then-is_worth_a_call-clause-keeps g c = keeps_on _ _ _ c.payload.invariant.keeps (keeps_on _ _ _ c.puts_off_next.ensures.keeps c.feed_to_payload.ensures.keeps)

pub returns-clause-keeps : goal.returns-clause-keeps
returns-clause-keeps g c = c.payload.invariant.keeps

pub returns-then-puts_off_next-clause-waits : goal.returns-then-puts_off_next-clause-waits
returns-then-puts_off_next-clause-waits g c = λ off. (refl, c.puts_off_next.ensures.engine ∙ ap (λ (t : Tunnel). t.engine) (c.payload.invariant.waits off))

pub returns-in_default-clause-waits : goal.returns-in_default-clause-waits
returns-in_default-clause-waits g c = λ off. let no : ⊥ = never_off _ _ _ (c.payload.invariant.waits off) off c.puts_off_next.ensures.exact c.if-puts_off_next.false in absurd no

pub returns-then-is_worth_a_call-clause-waits : goal.returns-then-is_worth_a_call-clause-waits
returns-then-is_worth_a_call-clause-waits g c = λ off. let no : ⊥ = never_off _ _ _ (c.payload.invariant.waits off) off c.puts_off_next.ensures.exact c.if-puts_off_next.false in absurd no

pub returns-clause-waits : goal.returns-clause-waits
returns-clause-waits g c = λ off. (refl, ap (λ (t : Tunnel). t.engine) (c.payload.invariant.waits off))

pub returns-then-puts_off_next-clause-due : goal.returns-then-puts_off_next-clause-due
returns-then-puts_off_next-clause-due g c = λ off id due. c.puts_off_next.ensures.due id (subst (λ (t : Tunnel). IsDue id t.connections) (sym (c.payload.invariant.waits off)) due)

pub returns-in_default-clause-due : goal.returns-in_default-clause-due
returns-in_default-clause-due g c = λ off. let no : ⊥ = never_off _ _ _ (c.payload.invariant.waits off) off c.puts_off_next.ensures.exact c.if-puts_off_next.false in absurd no

pub returns-then-is_worth_a_call-clause-due : goal.returns-then-is_worth_a_call-clause-due
returns-then-is_worth_a_call-clause-due g c = λ off. let no : ⊥ = never_off _ _ _ (c.payload.invariant.waits off) off c.puts_off_next.ensures.exact c.if-puts_off_next.false in absurd no

pub returns-clause-due : goal.returns-clause-due
returns-clause-due g c = λ off id due. subst (λ (t : Tunnel). IsDue id t.connections) (sym (c.payload.invariant.waits off)) due

pub returns-then-puts_off_next-clause-placed : goal.returns-then-puts_off_next-clause-placed
returns-then-puts_off_next-clause-placed g c = in_place_asked _ _ _ c.payload.invariant.placed c.puts_off_next.ensures.engine c.puts_off_next.ensures.counts

pub returns-in_default-clause-placed : goal.returns-in_default-clause-placed
returns-in_default-clause-placed g c =
    let free = c.puts_off_next.ensures.same ∙ sym c.puts_off_next.ensures.exact ∙ c.if-puts_off_next.false in
    in_place_fed _ _ _ (in_place_asked _ _ _ c.payload.invariant.placed c.puts_off_next.ensures.engine c.puts_off_next.ensures.counts) free c.feed_to_payload.ensures.placed c.feed_to_payload.ensures.keeps c.feed_to_payload.ensures.anew

pub returns-then-is_worth_a_call-clause-placed : goal.returns-then-is_worth_a_call-clause-placed
returns-then-is_worth_a_call-clause-placed g c =
    let free = c.puts_off_next.ensures.same ∙ sym c.puts_off_next.ensures.exact ∙ c.if-puts_off_next.false in
    in_place_fed _ _ _ (in_place_asked _ _ _ c.payload.invariant.placed c.puts_off_next.ensures.engine c.puts_off_next.ensures.counts) free c.feed_to_payload.ensures.placed c.feed_to_payload.ensures.keeps c.feed_to_payload.ensures.anew

pub returns-clause-placed : goal.returns-clause-placed
returns-clause-placed g c = c.payload.invariant.placed

pub returns-then-puts_off_next-clause-first : goal.returns-then-puts_off_next-clause-first
returns-then-puts_off_next-clause-first g c = λ early off. first_asked c.args.self.now c.payload.self c.puts_off_next.new.self _ c.payload.invariant.anew early c.puts_off_next.ensures.exact c.if-puts_off_next.true c.puts_off_next.ensures.counts c.puts_off_next.ensures.first

pub returns-in_default-clause-first : goal.returns-in_default-clause-first
returns-in_default-clause-first g c = λ early off. first_fed c.feed_to_payload.new.self c.feed_to_payload.ensures.anew

pub returns-then-is_worth_a_call-clause-first : goal.returns-then-is_worth_a_call-clause-first
returns-then-is_worth_a_call-clause-first g c = λ early off. first_fed c.feed_to_payload.new.self c.feed_to_payload.ensures.anew

pub returns-clause-first : goal.returns-clause-first
returns-clause-first g c = λ early off. first_ends c.args.self.now c.payload.self c.payload.invariant.anew early off
