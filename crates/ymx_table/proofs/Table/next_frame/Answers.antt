-- The record whose turn it is has a frame.
use Rattle.std.proofs.Common.{◌≡◌, ℕ, ap, sym, ◌∙◌, subst, Some, None, Option, refl, is_some}
use Rattle.std.specs.Prelude.{IsSome}
use Rattle.std.specs.Option.{option_map}
use Rattle.std.specs.Map.Iter.{deref_pair}
use Rattle.std.proofs.lemmas.Option.{same_Some}
use Rattle.ymx_model.specs.session.Records.{End}
use Rattle.ymx_model.specs.session.FramesDue.{is_due}
use Rattle.ymx_table.specs.Turns.{IsTurn, IsNextFrame}
use Rattle.ymx_table.proofs.Places.{lookup_is}
use Rattle.ymx_table.proofs.Table.next_frame.Goals as goal

-- what is some after a function was some before it
some-before : {X Y : Type 0} (f : X → Y) (y : Y) (o : Option X) → option_map f o ≡ Some y → IsSome o
some-before f y None e = cc
some-before f y (Some x) e = refl

pub unwrap-requires : goal.unwrap-requires
unwrap-requires c =
    let turn = subst (IsTurn c.in_ok-place.place) (sym c.self.view_is) c.in_ok-place.ensures in
    some-before deref_pair turn.entry _ (c.get_index.ensures.entry ∙ turn.stands)

pub unwrap-kind-requires : goal.unwrap-kind-requires
unwrap-kind-requires c =
    let turn = subst (IsTurn c.in_ok-place.place) (sym c.self.view_is) c.in_ok-place.ensures in
    let here = same_Some _ _ (sym (ap (option_map deref_pair) c.unwrap.ensures) ∙ c.get_index.ensures.entry ∙ turn.stands) in
    c.next_frame.ensures.due ∙ ap (λ (p : ℕ × End). is_due c.self.inside.window p.1) here ∙ turn.due

pub returns-clause-frame : goal.returns-clause-frame
returns-clause-frame c =
    let kind = sym c.next_frame.ensures.next ∙ c.unwrap-kind.ensures in
    subst (IsNextFrame c.args.limit _) c.self.view_is (record {
      end = c.unwrap.result.1.now;
      there = sym (lookup_is c.unwrap.result.0.now c.self.inside.records.entries) ∙ rw c.unwrap.ensures at c.get_index.ensures.value;
      due = sym c.next_frame.ensures.due ∙ ap is_some c.unwrap-kind.ensures;
      kind = kind;
      long = sym (c.frame_len.ensures c.self.inside.window c.unwrap.result.0.now);
    })
