use Rattle.std.proofs.Common.{◌≡◌, ◌∙◌, ap, sym, subst, arith, length, true, inl, inr}
use Rattle.ymx_engine.specs.Places.{is_put_off}
use Rattle.ymx_engine.specs.Tunnels.{Tunnel}
use Rattle.ymx_engine.specs.Turns.{IsDue}
use Rattle.ymx_engine.proofs.Attending.{runs_then, runs_keep, reads_then}
use Rattle.ymx_engine.proofs.Feeding.{all_turns}
use Rattle.ymx_engine.proofs.InPlace.{anew_passed, anew_pulled, early_on, first_ends, in_place_passed, in_place_pulled, in_place_then}
use Rattle.ymx_engine.proofs.Placing.{put_off_some}
use Rattle.ymx_engine.proofs.Readings.{rests_on, rests_past, stays_then, stays_kept}
use Rattle.ymx_engine.proofs.tunnel.Tunnel.read_wire.Goals as goal

pub payload-init : goal.payload-init
payload-init g c =
    let x = c.pull_wire.ensures in
    let waits : length c.waiting.result.now ≡ length c.pull_wire.new.self.engine.incoming = ap length (c.waiting.ensures ∙ ap (λ (t : Tunnel). t.engine.incoming) c.self.view_is) in
    let least = c.max-rows.ensures in
    record { runs = x.runs; stays = x.stays; rests = x.rests; reads = x.reads; waits = λ off. x.full (put_off_some c.args.self.now off); placed = in_place_pulled _ _ x.pulls; anew = anew_pulled _ _ x.pulls; few = omega (arith, waits, least) }

pub payload-preserved : goal.payload-preserved
payload-preserved g c =
    let i = c.payload.invariant in
    let k = c.advance.ensures.keeps in
    let p = c.pass.ensures in
    record {
      runs = runs_then _ _ _ i.runs (runs_then _ _ _ (runs_keep _ _ k) p.runs.runs);
      stays = stays_then _ _ _ i.stays (stays_then _ _ _ (stays_kept _ _ k.wire k.connections.connections) p.stays);
      rests = rests_past _ _ _ _ i.rests k.wire k.connections.connections p.rests p.closed;
      reads = reads_then _ _ _ (reads_then _ _ _ i.reads k.moves k.own k.wire k.over k.memory) p.runs.runs.moves p.runs.own p.wire p.over p.runs.memory;
      waits = λ off. let none = (c.advance.ensures.waits (ap is_put_off (i.waits off) ∙ off)).0 in let no : ⊥ = cc in absurd no;
      placed = in_place_passed _ _ _ _ (in_place_then _ _ _ i.placed c.advance.ensures.placed) p.passed;
      anew = inr (anew_passed _ _ _ c.in-Some.ensures.anew p.passed);
      few = let less = p.some in let same = c.advance.ensures.few in let i_few = i.few in omega (arith, less, same, i_few);
    }

pub returns-in-None-clause-runs : goal.returns-in-None-clause-runs
returns-in-None-clause-runs g c = runs_then _ _ _ c.payload.invariant.runs (runs_keep _ _ c.advance.ensures.keeps)

pub returns-in-None-clause-stays : goal.returns-in-None-clause-stays
returns-in-None-clause-stays g c = let k = c.advance.ensures.keeps in stays_then _ _ _ c.payload.invariant.stays (stays_kept _ _ k.wire k.connections.connections)

pub returns-in-None-clause-rests : goal.returns-in-None-clause-rests
returns-in-None-clause-rests g c = let k = c.advance.ensures.keeps in rests_on _ _ _ c.payload.invariant.rests k.wire k.connections.connections

pub returns-in-None-clause-reads : goal.returns-in-None-clause-reads
returns-in-None-clause-reads g c = let k = c.advance.ensures.keeps in reads_then _ _ _ c.payload.invariant.reads k.moves k.own k.wire k.over k.memory

pub returns-clause-runs : goal.returns-clause-runs
returns-clause-runs g c = c.payload.invariant.runs

pub returns-clause-stays : goal.returns-clause-stays
returns-clause-stays g c = c.payload.invariant.stays

pub returns-clause-rests : goal.returns-clause-rests
returns-clause-rests g c = c.payload.invariant.rests

pub returns-clause-reads : goal.returns-clause-reads
returns-clause-reads g c = c.payload.invariant.reads

pub returns-clause-fed : goal.returns-clause-fed
returns-clause-fed g c = inl (all_turns c.payload.self.engine c.max-rows.result c.payload.turn c.payload.invariant.few c.payload-test.false)

pub returns-in-None-clause-waits : goal.returns-in-None-clause-waits
returns-in-None-clause-waits g c = λ off.
    let i = c.payload.invariant in
    let at : is_put_off c.payload.self ≡ true = ap is_put_off (i.waits off) ∙ off in
    ((c.advance.ensures.waits at).1 ∙ ap (λ (t : Tunnel). t.engine) (i.waits off), (c.advance.ensures.keeps).wire ∙ ap (λ (t : Tunnel). t.wire) (i.waits off))

pub returns-clause-waits : goal.returns-clause-waits
returns-clause-waits g c = λ off. let same = c.payload.invariant.waits off in (ap (λ (t : Tunnel). t.engine) same, ap (λ (t : Tunnel). t.wire) same)

pub returns-in-None-clause-due : goal.returns-in-None-clause-due
returns-in-None-clause-due g c = λ off id due.
    let i = c.payload.invariant in
    let at : is_put_off c.payload.self ≡ true = ap is_put_off (i.waits off) ∙ off in
    c.advance.ensures.due at id (subst (λ (t : Tunnel). IsDue id t.connections) (sym (i.waits off)) due)

pub returns-clause-due : goal.returns-clause-due
returns-clause-due g c = λ off id due. subst (λ (t : Tunnel). IsDue id t.connections) (sym (c.payload.invariant.waits off)) due

pub returns-in-None-clause-first : goal.returns-in-None-clause-first
returns-in-None-clause-first g c = λ free off. c.advance.ensures.first (early_on c.args.self.now c.payload.self free c.payload.invariant.anew) off

pub returns-clause-first : goal.returns-clause-first
returns-clause-first g c = λ free off. first_ends c.args.self.now c.payload.self c.payload.invariant.anew (inl free) off

pub returns-in-None-clause-placed : goal.returns-in-None-clause-placed
returns-in-None-clause-placed g c = in_place_then _ _ _ c.payload.invariant.placed c.advance.ensures.placed

pub returns-clause-placed : goal.returns-clause-placed
returns-clause-placed g c = c.payload.invariant.placed
