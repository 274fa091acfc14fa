-- Each record is listed, or isn't, after those before it.
use Rattle.std.proofs.Common.{◌≡◌, ℕ, Some, sym, ap, ◌∙◌, arith}
use Rattle.std.specs.Prelude.{slice_get}
use Rattle.std.specs.Option.{option_map}
use Rattle.std.specs.Map.Iter.{deref_pair}
use Rattle.ymx_model.specs.session.Records.{End}
use Rattle.ymx_model.specs.session.Tables.{Table}
use Rattle.ymx_table.proofs.HeldIds.{listed-first, listed-one, listed-none}
use Rattle.ymx_table.proofs.Table.held_ids.Goals as goal
use Rattle.ymx_table.proofs.Table.held_ids.Goals.{then-is_listed, else-is_listed}

pub overflow_add-count : goal.overflow_add-count
overflow_add-count c = let w = c.loop-place.invariant.within in omega arith

pub loop-place-init : goal.loop-place-init
loop-place-init c = listed-first c.args.but.now c.args.self.now.entries c.args.ids.now

pub loop-place-preserved : goal.loop-place-preserved
loop-place-preserved c =
    let p : ℕ × End = (c.unwrap.result.0.now, c.unwrap.result.1.now) in
    let here : slice_get c.args.self.now.entries c.loop-place.place ≡ Some p =
    ap (λ (t : Table). slice_get t.entries c.loop-place.place) (sym c.self.view_is) ∙ sym c.get_index.ensures.entry ∙ ap (option_map deref_pair) c.unwrap.ensures in
    elim c.if-is_listed.branch [
      | then-is_listed w ↦ rw (w.count-is, w.ids-is) (listed-one c.args.but.now c.loop-place.place c.args.self.now.entries p c.args.ids.now c.loop-place.count c.loop-place.ids w.put_id.new.ids here
          (sym c.is_listed.ensures ∙ w.if-is_listed.true) w.put_id.ensures.there w.put_id.ensures.full c.loop-place.invariant)
      | else-is_listed w ↦ rw (w.count-is, w.ids-is) (listed-none c.args.but.now c.loop-place.place c.args.self.now.entries p c.args.ids.now c.loop-place.count c.loop-place.ids here
          (sym c.is_listed.ensures ∙ w.if-is_listed.false) c.loop-place.invariant)
    ]
