-- What the call did is `next_of`, whose laws are these clauses.
use Rattle.std.proofs.Common.{◌≡◌, ◌++◌, take, Some, subst, arith}
use Rattle.ymx_cutter.specs.declared.item.Item.TheVariants as item
use Rattle.ymx_cutter.specs.Frames.{IsBytes}
use Rattle.ymx_cutter.specs.Gathered.{gathers}
use Rattle.ymx_cutter.specs.Cutters.{Cut, Gathers, IsUnfinished}
use Rattle.ymx_cutter.specs.Cutters.Seen.{Broken}
use Rattle.ymx_cutter.specs.Bytewise.{seen_in, events_in, item_events}
use Rattle.ymx_cutter.proofs.Spelled.{IsBytes-from_at}
use Rattle.ymx_cutter.proofs.Reading.{reads_next}
use Rattle.ymx_cutter.proofs.Runs.{next_fault, next_broken}
use Rattle.ymx_cutter.proofs.Fold.{next_does, next_unfinished}
use Rattle.ymx_cutter.proofs.cutter.Cutter.next.Goals as goal

pub returns-clause-unfinished : goal.returns-clause-unfinished
returns-clause-unfinished c =
    let P : Cut → Type 0 = λ cut. IsUnfinished cut.seen in
    subst P c.advance.ensures.cut (next_unfinished c.args.self.now.limit c.args.self.now.seen c.args.input.now c.advance.ensures.was_unfinished)

pub returns-clause-fault : goal.returns-clause-fault
returns-clause-fault c = λ fault.
    let P : Cut → Type 0 = λ cut. cut.item ≡ Some (item.Fault fault) → cut.seen ≡ Broken fault in
    subst P c.advance.ensures.cut (next_fault c.args.self.now.limit c.args.self.now.seen c.args.input.now fault)

pub returns-clause-reads : goal.returns-clause-reads
returns-clause-reads c = λ text g r.
    let input = c.args.input.now in
    let small : IsBytes input = IsBytes-from_at input (λ k. let fits = c.type_inv.input k in omega (arith, fits)) in
    let P : Cut → Type 0 = λ cut. Gathers c.args.self.now.limit (text ++ take cut.taken input) (gathers g (take cut.taken input) cut.item) cut.seen in
    subst P c.advance.ensures.cut (reads_next c.args.self.now.limit text g c.args.self.now.seen input small r)

pub returns-clause-seen : goal.returns-clause-seen
returns-clause-seen c =
    let input = c.args.input.now in
    let P : Cut → Type 0 = λ cut. seen_in c.args.self.now.limit c.args.self.now.seen (take cut.taken input) ≡ cut.seen in
    subst P c.advance.ensures.cut (next_does c.args.self.now.limit c.args.self.now.seen input c.advance.ensures.was_unfinished).ends

pub returns-clause-events : goal.returns-clause-events
returns-clause-events c =
    let input = c.args.input.now in
    let P : Cut → Type 0 = λ cut. events_in c.args.self.now.limit c.args.self.now.seen (take cut.taken input) ≡ item_events cut.item (take cut.taken input) in
    subst P c.advance.ensures.cut (next_does c.args.self.now.limit c.args.self.now.seen input c.advance.ensures.was_unfinished).tells

pub returns-clause-repeated : goal.returns-clause-repeated
returns-clause-repeated c = λ fault was.
    let P : Cut → Type 0 = λ cut. (cut.taken ≡ 0) × (cut.item ≡ Some (item.Fault fault)) × (cut.seen ≡ Broken fault) in
    subst P c.advance.ensures.cut (next_broken c.args.self.now.limit c.args.self.now.seen c.args.input.now fault was)
