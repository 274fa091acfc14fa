use Rattle.std.proofs.Common.{refl, sym, subst}
use Rattle.ymx_cutter.specs.Cutters.{Cutting}
use Rattle.ymx_frames.specs.Printing.{NoFault}
use Rattle.ymx_frames.proofs.Printed.{nothing_printed}
use Rattle.ymx_frames.proofs.printer.Printer.new.Goals as goal

pub returns : goal.returns
returns c =
    let fresh = c.new.ensures in (
      c.in_ok-text_with_capacity.ensures.empty,
      record {
        so_far = nothing_printed c.args.limit _ fresh c.decode.ensures.fields c.new-2.ensures refl;
        no_fault = subst (λ (x : Cutting). NoFault x.seen) (sym fresh) tt;
      },
    )
