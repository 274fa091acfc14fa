use Rattle.ymx_engine.proofs.Gaining.{read_gains}
use Rattle.ymx_engine.proofs.Exchanging.{not_true}
use Rattle.ymx_engine.proofs.Parts.{silent, ended, gone, broken_from}
use Rattle.std.proofs.Common.{refl, inl, inr}
use Rattle.ymx_engine.proofs.exchange.on_silence.Goals as goal

pub returns-in-Wait-clause-part : goal.returns-in-Wait-clause-part
returns-in-Wait-clause-part g c =
    let h = c.in-Wait.ensures.happened in
    silent 1 h.0 h.1 h.2 (not_true _ (λ e. let x = h.3 e in cc)) (not_true _ (λ e. let x = h.5 e in cc))

pub returns-in-End-clause-part : goal.returns-in-End-clause-part
returns-in-End-clause-part g c =
    let h = c.in-End.ensures.happened in
    ended 1 h.0 c.end.ensures h.1 h.2 (h.4 refl) c.requires.open

pub returns-in-Stopped-clause-part : goal.returns-in-Stopped-clause-part
returns-in-Stopped-clause-part g c =
    let h = c.in-Stopped.ensures.happened in
    gone 1 h.0 c.shut.ensures c.break_off.ensures h.1 h.2 (h.6 refl)

pub returns-in-Wait-clause-none_came : goal.returns-in-Wait-clause-none_came
returns-in-Wait-clause-none_came g c = let h = c.in-Wait.ensures.happened in read_gains c.args.id 1 c.args.id h.0 _ _ h.1 h.2

pub returns-in-End-clause-none_came : goal.returns-in-End-clause-none_came
returns-in-End-clause-none_came g c = let h = c.in-End.ensures.happened in read_gains c.args.id 1 c.args.id h.0 _ _ h.1 h.2

pub returns-in-Stopped-clause-none_came : goal.returns-in-Stopped-clause-none_came
returns-in-Stopped-clause-none_came g c = let h = c.in-Stopped.ensures.happened in read_gains c.args.id 1 c.args.id h.0 _ _ h.1 h.2

pub returns-in-Wait-clause-hears_end : goal.returns-in-Wait-clause-hears_end
returns-in-Wait-clause-hears_end g c = inr (c.in-Wait.ensures.waits refl)

pub returns-in-End-clause-hears_end : goal.returns-in-End-clause-hears_end
returns-in-End-clause-hears_end g c = inl refl

pub returns-in-Stopped-clause-hears_end : goal.returns-in-Stopped-clause-hears_end
returns-in-Stopped-clause-hears_end g c = inl (broken_from _ _ c.break_off.ensures)
