-- The world that a delivery begins with.
use Rattle.std.proofs.Common.{◌≡◌, ◌⊎◌, inl, inr, None, Option, subst}
use Rattle.std.specs.Prelude.{MatchOption}
use Rattle.ymx_model.specs.declared.types.Config.{Config}
use Rattle.ymx_model.specs.declared.types.Role.{Role}
use Rattle.ymx_model.specs.declared.types.Role.TheVariants.{Client, Server}
use Rattle.ymx_session.specs.declared.new_fault.NewFault.{NewFault}
use Rattle.ymx_session.specs.declared.new_fault.NewFault.TheVariants.{OutOfMemory}
use Rattle.ymx_session.specs.NewSessions.{new_fault, IsNewFault}
use Rattle.ymx_machine.specs.shared.Evidence.{evidence}

fault-of : (role : Role) (config : Config) (fault : NewFault) → new_fault role config ≡ None → IsNewFault role config fault → fault ≡ OutOfMemory evidence
fault-of role config fault e h = subst (λ (o : Option NewFault). MatchOption o (fault ≡ OutOfMemory evidence) (λ (why : NewFault). fault ≡ why)) e h

-- where both configs may be chosen, only memory lacks
pub only-memory : (a b : Config) (fault : NewFault) → new_fault Client a ≡ None → new_fault Server b ≡ None →
    IsNewFault Client a fault ⊎ (new_fault Client a ≡ None) × IsNewFault Server b fault → fault ≡ OutOfMemory evidence
only-memory a b fault fine_a fine_b (inl h) = fault-of Client a fault fine_a h
only-memory a b fault fine_a fine_b (inr h) = fault-of Server b fault fine_b h.1
