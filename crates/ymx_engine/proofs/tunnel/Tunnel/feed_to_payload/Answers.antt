use Rattle.std.proofs.Common.{ℕ, ap, ◌∙◌, ◌≤◌, inl, sym, subst}
use Rattle.ymx_engine.specs.Wires.{count_on}
use Rattle.ymx_engine.specs.Engines.{Engine}
use Rattle.ymx_engine.specs.Places.{feed_limit, FeedsToFull}
use Rattle.ymx_engine.specs.Tunnels.{Tunnel}
use Rattle.ymx_engine.proofs.Attending.{keeps_from}
use Rattle.ymx_engine.proofs.Placing.{none_left}
use Rattle.ymx_engine.proofs.Readings.{keeps_fed, fed_or_stopped}
use Rattle.ymx_engine.proofs.Stopping.{feeds_placed}
use Rattle.ymx_engine.proofs.tunnel.Tunnel.feed_to_payload.Goals as goal

pub returns-then-fed-limit-clause-keeps : goal.returns-then-fed-limit-clause-keeps
returns-then-fed-limit-clause-keeps g c =
    keeps_from _ _ _ c.self.view_is
    (keeps_fed c.feed_to_payload-fed.new.touched c.feed_to_payload-fed.result _ _ c.feed_to_payload-fed.new.session c.feed_to_payload-fed.new.self c.on_touched.new.self c.feed_to_payload-fed.ensures.fed c.feed_to_payload-fed.ensures.rest c.feed_to_payload-fed.ensures.notes c.on_touched.ensures.keeps c.on_touched.ensures.all c.on_fed.ensures.engine c.on_fed.ensures.wire c.on_fed.ensures.over c.on_fed.ensures.connections
    c.on_fed.ensures.all (c.on_fed.ensures.memory ∙ ap (λ (n : ℕ). count_on c.self.inside.no_memory n) c.get.ensures))

pub returns-then-fed-limit-clause-rest : goal.returns-then-fed-limit-clause-rest
returns-then-fed-limit-clause-rest g c = λ no.
    fed_or_stopped c.feed_to_payload-fed.result.taken c.self.inside.incoming c.feed_to_payload-fed.new.self c.feed_to_payload-fed.new.session c.on_fed.new.self.engine c.feed_to_payload-fed.ensures.rest (c.feed_to_payload-fed.ensures.stops c.if-fed-limit.true) (ap (λ (e : Engine). e.session) c.on_fed.ensures.engine) (ap (λ (e : Engine). e.incoming) c.on_fed.ensures.engine)

pub returns-clause-keeps : goal.returns-clause-keeps
returns-clause-keeps g c =
    keeps_from _ _ _ c.self.view_is
    (keeps_fed c.feed_to_payload-fed.new.touched c.feed_to_payload-fed.result _ _ c.feed_to_payload-fed.new.session c.feed_to_payload-fed.new.self c.on_touched.new.self c.feed_to_payload-fed.ensures.fed c.feed_to_payload-fed.ensures.rest c.feed_to_payload-fed.ensures.notes c.on_touched.ensures.keeps c.on_touched.ensures.all c.on_fed.ensures.engine c.on_fed.ensures.wire c.on_fed.ensures.over c.on_fed.ensures.connections
    c.on_fed.ensures.all (c.on_fed.ensures.memory ∙ ap (λ (n : ℕ). count_on c.self.inside.no_memory n) c.get.ensures))

pub returns-clause-rest : goal.returns-clause-rest
returns-clause-rest g c = λ no. inl (none_left c.waiting.result.now _ c.is_empty.result c.is_empty.ensures (c.waiting.ensures ∙ ap (λ (t : Tunnel). t.engine.incoming) c.self-2.view_is) no)

pub returns-then-fed-limit-clause-placed : goal.returns-then-fed-limit-clause-placed
returns-then-fed-limit-clause-placed g c =
    let few : c.feed_to_payload-fed.result.taken ≤ feed_limit c.self.inside.session = subst (λ (n : ℕ). c.feed_to_payload-fed.result.taken ≤ n) (c.feed_limit-limit.ensures ∙ sym (ap (λ (t : Tunnel). feed_limit t.engine.session) c.self.view_is)) c.feed_to_payload-fed.ensures.few in
    subst (λ (t : Tunnel). FeedsToFull t.engine c.on_fed.new.self.engine) c.self.view_is
    (feeds_placed _ c.on_fed.new.self.engine c.feed_to_payload-fed.result _ _ c.feed_to_payload-fed.ensures.fed c.feed_to_payload-fed.ensures.rest few (ap (λ (e : Engine). e.session) c.on_fed.ensures.engine) (ap (λ (e : Engine). e.incoming) c.on_fed.ensures.engine))

pub returns-clause-placed : goal.returns-clause-placed
returns-clause-placed g c =
    let few : c.feed_to_payload-fed.result.taken ≤ feed_limit c.self.inside.session = subst (λ (n : ℕ). c.feed_to_payload-fed.result.taken ≤ n) (c.feed_limit-limit.ensures ∙ sym (ap (λ (t : Tunnel). feed_limit t.engine.session) c.self.view_is)) c.feed_to_payload-fed.ensures.few in
    subst (λ (t : Tunnel). FeedsToFull t.engine c.on_fed.new.self.engine) c.self.view_is
    (feeds_placed _ c.on_fed.new.self.engine c.feed_to_payload-fed.result _ _ c.feed_to_payload-fed.ensures.fed c.feed_to_payload-fed.ensures.rest few (ap (λ (e : Engine). e.session) c.on_fed.ensures.engine) (ap (λ (e : Engine). e.incoming) c.on_fed.ensures.engine))

pub returns-then-fed-limit-clause-anew : goal.returns-then-fed-limit-clause-anew
returns-then-fed-limit-clause-anew g c = c.on_fed.ensures.place ∙ c.on_touched.ensures.anew

pub returns-clause-anew : goal.returns-clause-anew
returns-clause-anew g c = c.on_fed.ensures.place ∙ c.on_touched.ensures.anew
