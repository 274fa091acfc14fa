-- Two tunnels that took any turns: nobody who can be served is forgotten.
use Rattle.std.proofs.Common.{◌≡◌, ◌<◌, ℕ, zero, suc, List, [], ◌∷◌, true, false, Option, None, Some, sym, ap, subst, arith}
use Rattle.std.specs.Prelude.{option_map, nat_eq}
use Rattle.std.specs.Map.{lookup}
use Rattle.ymx_machine.specs.declared.types.Side.{Side}
use Rattle.ymx_machine.specs.declared.types.Side.TheVariants.{A, B}
use Rattle.ymx_machine.specs.shared.Events.{Reply}
use Rattle.ymx_model.specs.declared.types.Role.TheVariants.{Client, Server}
use Rattle.ymx_model.specs.session.Events.{Event}
use Rattle.ymx_model.specs.session.Sessions.{Session, is_own}
use Rattle.ymx_law_session.specs.Limits.{IsWithin}
use Rattle.ymx_law_session.proofs.limits.HistoriesKeep.{new-keeps}
use Rattle.ymx_engine.specs.Devices.{Seen}
use Rattle.ymx_engine.specs.Engines.{Engine}
use Rattle.ymx_engine.specs.Served.{IsServed, Serving}
use Rattle.ymx_engine.specs.Tunnels.{Tunnel}
use Rattle.ymx_engine.specs.Turns.{Connection, Entry, Connections, connection_of}
use Rattle.ymx_joined.specs.Tunnels.{TunnelPair, engine_of, Works, Turn, OneWorks, BothWork, HaveCome}

-- It turns on the session and the connections alone: so it is of a tunnel over any wire.
abbrev pub over_any : Seen → Engine → Connections → Tunnel
over_any wire e ls = record { engine = e; wire = wire; is_wire_over = false; is_slow = false; connections = ls; no_memory = 0 }

abbrev pub Serves : Engine → Connections → Type 0
Serves e ls = (wire : Seen) → Serving (over_any wire e ls)

any_wire : (t : Tunnel) → Serving t → Serves t.engine t.connections
any_wire t s = λ wire. record { within = s.within; each = λ id. record { gets = (s.each id).gets; gives = (s.each id).gives; hears = (s.each id).hears; ends = (s.each id).ends; stops = (s.each id).stops } }

own_wire : (t : Tunnel) → Serves t.engine t.connections → Serving t
own_wire t s = let x = s t.wire in record { within = x.within; each = λ id. record { gets = (x.each id).gets; gives = (x.each id).gives; hears = (x.each id).hears; ends = (x.each id).ends; stops = (x.each id).stops } }

same_serves : (e f : Engine) (ls ms : Connections) → e ≡ f → ls ≡ ms → Serves e ls → Serves f ms
same_serves e f ls ms p r s = subst (λ (v : Connections). Serves f v) r (subst (λ (v : Engine). Serves v ls) p s)

-- this tunnel, if its session and connections are these
pub serving_as : (t : Tunnel) (e : Engine) (ls : Connections) → t.engine ≡ e → t.connections ≡ ls → Serves e ls → Serving t
serving_as t e ls p r s = own_wire t (same_serves e t.engine ls t.connections (sym p) (sym r) s)

-- ---- turns

works_serve : (es : List (Event × Reply)) (old new : Engine) (ls ms : Connections) (to from to_new from_new : List ℕ) → Works es old new ls ms to from to_new from_new → Serves old ls → Serves new ms
works_serve es old new ls ms to from to_new from_new w s =
    same_serves w.after.engine new w.after.connections ms w.engine_new w.ends (any_wire w.after (w.runs.attends.serves (serving_as w.before old ls w.engine w.begins s)))

one_serves_a : (side : Side) (es : List (Event × Reply)) (p q : TunnelPair) → OneWorks side es p q → Serves p.a p.connections_a → Serves q.a q.connections_a
one_serves_a A es p q t s = works_serve es _ _ _ _ _ _ _ _ t.0 s
one_serves_a B es p q t s = same_serves p.a q.a p.connections_a q.connections_a (sym t.1) (sym t.2) s

one_serves_b : (side : Side) (es : List (Event × Reply)) (p q : TunnelPair) → OneWorks side es p q → Serves p.b p.connections_b → Serves q.b q.connections_b
one_serves_b A es p q t s = same_serves p.b q.b p.connections_b q.connections_b (sym t.1) (sym t.2) s
one_serves_b B es p q t s = works_serve es _ _ _ _ _ _ _ _ t.0 s

serves_a : (ts : List Turn) (p q : TunnelPair) → BothWork ts p q → Serves p.a p.connections_a → Serves q.a q.connections_a
serves_a [] p q h s = subst (λ (v : TunnelPair). Serves v.a v.connections_a) (sym h) s
serves_a (t ∷ ts) p q h s = serves_a ts h.0 q h.2 (one_serves_a t.side t.events p h.0 h.1 s)

serves_b : (ts : List Turn) (p q : TunnelPair) → BothWork ts p q → Serves p.b p.connections_b → Serves q.b q.connections_b
serves_b [] p q h s = subst (λ (v : TunnelPair). Serves v.b v.connections_b) (sym h) s
serves_b (t ∷ ts) p q h s = serves_b ts h.0 q h.2 (one_serves_b t.side t.events p h.0 h.1 s)

-- ---- new tunnels

none_there : (id : ℕ) (ls : Connections) → ls.by_id ≡ [] → connection_of id ls ≡ None
none_there id ls e = ap (λ (v : List (ℕ × Entry)). option_map (λ (x : Entry). x.connection) (lookup (nat_eq id) v)) e

not_there : (o : Option Connection) (l : Connection) → o ≡ None → o ≡ Some l → ⊥
not_there o l e f = cc

none_forgotten : (t : Tunnel) → t.connections.by_id ≡ [] → (id : ℕ) → IsServed id t
none_forgotten t e id = record {
  gets = λ l there may some. absurd (not_there (connection_of id t.connections) l (none_there id t.connections e) there);
  gives = λ l there may some. absurd (not_there (connection_of id t.connections) l (none_there id t.connections e) there);
  hears = λ l there over opens. absurd (not_there (connection_of id t.connections) l (none_there id t.connections e) there);
  ends = λ l there may silent. absurd (not_there (connection_of id t.connections) l (none_there id t.connections e) there);
  stops = λ l there opens stopped. absurd (not_there (connection_of id t.connections) l (none_there id t.connections e) there);
}

new_serves : (e : Engine) (ls : Connections) (s : Session) → e ≡ engine_of s → ls.by_id ≡ [] → IsWithin s → Serves e ls
new_serves e ls s same none within = λ wire. record { within = subst IsWithin (sym (ap (λ (v : Engine). v.session) same)) within; each = none_forgotten (over_any wire e ls) none }

some_first : (n : ℕ) → is_own Client n ≡ true → 0 < n
some_first zero h = let no : false ≡ true = h in absurd cc
some_first (suc n) h = omega arith

pub serving_a : (ts : List Turn) (wa fa wb fb : ℕ) (q : TunnelPair) → HaveCome ts wa fa wb fb q → Serves q.a q.connections_a
serving_a ts wa fa wb fb q h =
    serves_a ts h.new q h.work (new_serves h.new.a h.new.connections_a _ h.a h.none_a (new-keeps Client wa fa h.good.low_a h.good.high_a h.good.client (some_first fa h.good.client) h.good.small_a))

pub serving_b : (ts : List Turn) (wa fa wb fb : ℕ) (q : TunnelPair) → HaveCome ts wa fa wb fb q → Serves q.b q.connections_b
serving_b ts wa fa wb fb q h =
    serves_b ts h.new q h.work (new_serves h.new.b h.new.connections_b _ h.b h.none_b (new-keeps Server wb fb h.good.low_b h.good.high_b h.good.server h.good.some_b h.good.small_b))
