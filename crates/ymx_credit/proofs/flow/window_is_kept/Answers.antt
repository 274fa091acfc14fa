-- The law over many steps is that of one, again and again.
use Rattle.ymx_credit.proofs.Balance.{IsBalanced-after_all, window-after_all}
use Rattle.ymx_credit.proofs.flow.window_is_kept.Goals as goal

pub returns-clause-run : goal.returns-clause-run
returns-clause-run c = IsBalanced-after_all

pub returns-clause-same_window : goal.returns-clause-same_window
returns-clause-same_window c = window-after_all
