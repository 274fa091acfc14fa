use Rattle.ymx_script.proofs.Rounds.{run_begins, run_part}
use Rattle.ymx_script.proofs.playing.play_all.Goals as goal

pub pieces-init : goal.pieces-init
pieces-init g c = run_begins _ _ _ _ _ c.requires.begins

pub play_piece-requires-clause-part : goal.play_piece-requires-clause-part
play_piece-requires-clause-part g c = run_part _ _ _ _ _ _ _ _ _ c.pieces.invariant

pub returns-in-Some-play_piece : goal.returns-in-Some-play_piece
returns-in-Some-play_piece g c = c.in-Some-play_piece.ensures _ _ _ _ c.pieces.invariant

pub pieces-preserved : goal.pieces-preserved
pieces-preserved g c = c.in_default.ensures _ _ _ _ c.pieces.invariant
