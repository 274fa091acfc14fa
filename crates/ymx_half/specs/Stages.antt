-- The stages of a record among the states of an end (flags).
use Rattle.ymx_machine.specs.shared.Phases.{Phase}
use Rattle.ymx_machine.specs.shared.Phases.Phase.{Offered as OfferedPhase, Live as LivePhase, WasReset, Lingering as LingeringPhase}
use Rattle.ymx_half.specs.declared.stream.Stage.{Stage}
use Rattle.ymx_half.specs.declared.stream.Stage.TheVariants.{Offered, Live, Reset, Lingering}

-- a stage is the state of that name, and Reset is that of an end that was reset
abbrev pub phase_of : Stage → Phase
phase_of Offered = OfferedPhase
phase_of Live = LivePhase
phase_of Reset = WasReset
phase_of Lingering = LingeringPhase
