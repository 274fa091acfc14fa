use Rattle.std.proofs.Common.{ℕ, ◌≡◌, ◌-◌, length, ap, ◌∙◌, ◌≤◌, subst, arith}
use Rattle.std.proofs.lemmas.List.{length-drop}
use Rattle.ymx_engine.specs.Wires.{count_on}
use Rattle.ymx_engine.specs.Engines.{Engine}
use Rattle.ymx_engine.specs.Places.{feed_limit, FeedsToFull}
use Rattle.ymx_engine.specs.Tunnels.{Tunnel}
use Rattle.ymx_engine.proofs.Attending.{keeps_from}
use Rattle.ymx_engine.proofs.Readings.{keeps_fed}
use Rattle.ymx_engine.proofs.Stopping.{feeds_placed, payload_fits}
use Rattle.ymx_engine.proofs.tunnel.Tunnel.feed_payload.Goals as goal

pub returns-clause-keeps : goal.returns-clause-keeps
returns-clause-keeps g c =
    keeps_from _ _ _ c.self.view_is
    (keeps_fed c.feed_some-fed.new.touched c.feed_some-fed.result _ _ c.feed_some-fed.new.session c.feed_some-fed.new.self c.on_touched.new.self c.feed_some-fed.ensures.fed c.feed_some-fed.ensures.rest c.feed_some-fed.ensures.notes c.on_touched.ensures.keeps c.on_touched.ensures.all c.on_fed.ensures.engine c.on_fed.ensures.wire c.on_fed.ensures.over c.on_fed.ensures.connections
    c.on_fed.ensures.all (c.on_fed.ensures.memory ∙ ap (λ (n : ℕ). count_on c.self.inside.no_memory n) c.get.ensures))

pub returns-clause-placed : goal.returns-clause-placed
returns-clause-placed g c =
    let few : c.feed_some-fed.result.taken ≤ feed_limit c.self.inside.session = payload_fits c.self.inside.session _ _ _ _ _ c.payload_left.ensures.exact c.max-lack.ensures c.min.ensures c.feed_some-fed.ensures.few in
    subst (λ (t : Tunnel). FeedsToFull t.engine c.on_fed.new.self.engine) c.self.view_is
    (feeds_placed _ c.on_fed.new.self.engine c.feed_some-fed.result _ _ c.feed_some-fed.ensures.fed c.feed_some-fed.ensures.rest few (ap (λ (e : Engine). e.session) c.on_fed.ensures.engine) (ap (λ (e : Engine). e.incoming) c.on_fed.ensures.engine))

pub returns-clause-anew : goal.returns-clause-anew
returns-clause-anew g c = c.on_fed.ensures.place ∙ c.on_touched.ensures.anew

pub returns-clause-most : goal.returns-clause-most
returns-clause-most g c =
    let was : length c.self.inside.incoming ≡ length c.args.self.now.engine.incoming = ap (λ (t : Tunnel). length t.engine.incoming) c.self.view_is in
    let is : length c.on_fed.new.self.engine.incoming ≡ length c.feed_some-fed.new.self = ap (λ (e : Engine). length e.incoming) c.on_fed.ensures.engine in
    let left : length c.feed_some-fed.new.self ≡ length c.self.inside.incoming - c.feed_some-fed.result.taken = ap length c.feed_some-fed.ensures.rest ∙ length-drop c.feed_some-fed.result.taken c.self.inside.incoming in
    let few = c.feed_some-fed.ensures.few in
    let least = c.min.ensures in omega arith
