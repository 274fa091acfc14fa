use Rattle.std.proofs.Common.{◌≡◌, ℕ, None, subst}
use Rattle.ymx_engine.specs.Tunnels.{Tunnel}
use Rattle.ymx_engine.specs.Turns.{IsDue, Waits}
use Rattle.ymx_engine.proofs.Attending.{keeps_from}
use Rattle.ymx_engine.proofs.Placing.{keeps_waits, put_off_from}
use Rattle.ymx_engine.proofs.tunnel.Tunnel.puts_off_next.Goals as goal

pub returns-clause-same : goal.returns-clause-same
returns-clause-same g c = put_off_from _ _ c.self.view_is c.lacks_place-lacks_place.result c.puts_off.new.self c.lacks_place-lacks_place.ensures c.puts_off.ensures.counts

pub returns-clause-keeps : goal.returns-clause-keeps
returns-clause-keeps g c = keeps_from _ _ _ c.self.view_is (keeps_waits _ c.puts_off.new.self _ c.puts_off.ensures.counts)

pub returns-clause-first : goal.returns-clause-first
returns-clause-first g c = subst (λ (t : Tunnel). t.connections.turns_to_place ≡ None → (id : ℕ) → Waits id t.connections → IsDue id c.puts_off.new.self) c.self.view_is c.puts_off.ensures.first

pub returns-clause-due : goal.returns-clause-due
returns-clause-due g c = subst (λ (t : Tunnel). (id : ℕ) → IsDue id t.connections → IsDue id c.puts_off.new.self) c.self.view_is c.puts_off.ensures.due
