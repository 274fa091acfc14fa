use Rattle.std.proofs.Common.{take}
use Rattle.ymx_session.specs.Releases.{is_among}
use Rattle.ymx_session.proofs.Ends.{Tended}
use Rattle.ymx_session.proofs.releases.Releases.tend_touched.Given as goal

abbrev pub invariant-loop-id : goal.invariant-loop-id
invariant-loop-id l = Tended (λ x. is_among x l.self) (take l.id-index l.touched) l.fn.session l.session l.forgot
