use Rattle.ymx_law_session.proofs.limits.FieldsFit.{new-fits, gives-fit, replays-fit, id-fits, halves-fit, offered-fit}
use Rattle.ymx_law_session.proofs.numbers_fit.Goals as goal

pub returns : goal.returns
returns c = record {
  at_first = new-fits;
  kept = gives-fit;
  always = replays-fit;
  records = λ id s e w h l. (id-fits id e s.table.entries l h.ids, halves-fit id s e w l);
  offered = offered-fit;
}
