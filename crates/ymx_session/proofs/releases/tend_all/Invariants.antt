use Rattle.std.proofs.Common.{◌≡◌, take}
use Rattle.ymx_session.specs.Releases.{tended_all, forgets}
use Rattle.ymx_session.proofs.releases.tend_all.Given as goal

abbrev pub invariant-loop-id : goal.invariant-loop-id
invariant-loop-id l = record {
  tends : l.session ≡ tended_all (take l.id-index l.ids) l.fn.session;
  forgot : l.forgot ≡ forgets (take l.id-index l.ids) l.fn.session;
}
