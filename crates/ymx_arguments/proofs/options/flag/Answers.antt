use Rattle.std.proofs.Common.{◌∙◌, inl, inr}
use Rattle.clap.specs.Words.{found_of}
use Rattle.clap.proofs.WalkLemmas.{one_text-rows}
use Rattle.ymx_arguments.proofs.options.flag.Goals as goal

pub returns : goal.returns
returns c =
    let kept = one_text-rows (found_of c.args.found.now) c.args.name.now in (
      (λ unsaid. elim unsaid [ inl none ↦ c.get_flag.ensures.none (kept ∙ none) | inr off ↦ c.get_flag.ensures.other (kept ∙ off) ]),
      (λ said. c.get_flag.ensures.value (kept ∙ said)),
    )
