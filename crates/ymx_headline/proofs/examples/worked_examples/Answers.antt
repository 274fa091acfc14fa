use Rattle.ymx_headline.proofs.examples.worked_examples.Goals as goal

pub returns : goal.returns
returns c = assumption
