-- A frame that waits for a place.
use Rattle.std.proofs.Common.{◌≡◌, ◌⊎◌, inl, inr, ℕ, ◌==◌, ◌&&◌, not, if◌then◌else◌, List, [], ◌∷◌, length, Bool, true, false, Option, None, Some, refl, sym, ap, ◌∙◌, subst, arith}
use Rattle.std.specs.Prelude.{nat_lt, IsSome, is_some}
use Rattle.std.proofs.lemmas.Bool.Decides.{nat_tests}
use Rattle.std.specs.Option.{option_map_or}
use Rattle.ymx_machine.proofs.Tests.{both_of}
use Rattle.ymx_model.specs.session.Feeds.{is_stuck}
use Rattle.ymx_model.specs.session.Sessions.{Session}
use Rattle.ymx_session.specs.Opens.{records_left}
use Rattle.ymx_session.specs.Passing.{passing}
use Rattle.ymx_session.specs.Streams.{header_begun}
use Rattle.ymx_engine.specs.Engines.{Engine, IsFedOrStuck}
use Rattle.ymx_engine.specs.Exchanges.{has_bytes}
use Rattle.ymx_engine.specs.Places.{is_put_off, lacks_place, may_open}
use Rattle.ymx_engine.specs.Steps.{Keeps}
use Rattle.ymx_engine.specs.Tunnels.{Tunnel}
use Rattle.ymx_engine.specs.Turns.{Connections, KeepsConnections, turns_left}
use Rattle.ymx_engine.proofs.Carrying.{handles_none_so, memory_same}
use Rattle.ymx_engine.proofs.Queueing.{keeps_counted}
use Rattle.ymx_engine.proofs.Readings.{same_seen}
use Rattle.ymx_engine.proofs.Running.{moves_handled}
use Rattle.ymx_engine.proofs.Tending.{serving_connections}
use Rattle.ymx_engine.proofs.Turning.{turns_kept}
use Rattle.ymx_engine.specs.Wires.{rejections}

-- only the turns are counted for which it waits
keeps_turns : (a : Tunnel) (turns : Option ℕ) → Keeps a (record a { connections = record a.connections { turns_to_place = turns } })
keeps_turns a turns =
    let b : Tunnel = record a { connections = record a.connections { turns_to_place = turns } } in
    let connections : KeepsConnections a.connections b.connections = keeps_counted a.connections turns in
    let none = handles_none_so a.engine in
    let moved = moves_handled a b none.0 refl (same_seen a b connections) in
    record { moves = moved.0; own = moved.1; wire = refl; over = refl; connections = connections; serves = serving_connections a b refl connections; memory = memory_same a.no_memory b.no_memory (moved.0).events refl (ap rejections moved.2 ∙ none.1) }

pub keeps_waits : (a : Tunnel) (l : Connections) (turns : Option ℕ) → l ≡ record a.connections { turns_to_place = turns } → Keeps a (record a { connections = l })
keeps_waits a l turns e = subst (λ (x : Connections). Keeps a (record a { connections = x })) (sym e) (keeps_turns a turns)

-- so it waits as before
put_off_at : (lacks : Bool) (a : Tunnel) → lacks ≡ lacks_place a.engine → is_put_off (record a { connections = record a.connections { turns_to_place = if lacks then Some (turns_left a.connections) else None } }) ≡ is_put_off a
put_off_at true a e = ap (λ (n : ℕ). lacks_place a.engine && nat_lt 0 n) (turns_kept a.connections)
put_off_at false a e = rw (sym e) refl

put_off_same : (lacks : Bool) (a : Tunnel) (l : Connections) → lacks ≡ lacks_place a.engine → l ≡ record a.connections { turns_to_place = if lacks then Some (turns_left a.connections) else None } → is_put_off (record a { connections = l }) ≡ is_put_off a
put_off_same lacks a l e same = ap (λ (x : Connections). is_put_off (record a { connections = x })) same ∙ put_off_at lacks a e

pub put_off_from : (a b : Tunnel) → a ≡ b → (lacks : Bool) (l : Connections) → lacks ≡ lacks_place b.engine → l ≡ record a.connections { turns_to_place = if lacks then Some (turns_left a.connections) else None } → is_put_off (record a { connections = l }) ≡ is_put_off b
put_off_from a b e lacks l x y = put_off_same lacks a l (x ∙ ap (λ (t : Tunnel). lacks_place t.engine) (sym e)) y ∙ ap is_put_off e

-- a frame that waits is not looked past
pub never_off : (a b : Tunnel) (off : Bool) → b ≡ a → is_put_off a ≡ true → off ≡ is_put_off b → off ≡ false → ⊥
never_off a b off same h e not_off = let both : true ≡ false = sym (ap is_put_off same ∙ h) ∙ sym e ∙ not_off in absurd cc

-- ---- what is fed

some_byte : (waits : List ℕ) → may_open waits ≡ true → has_bytes waits ≡ true
some_byte [] h = grind (arith, nat_tests, h)
some_byte (x ∷ xs) h = refl

last_of : (a b c : Bool) → (a && b && c) ≡ true → c ≡ true
last_of true true true h = refl
last_of true true false h = h
last_of true false c h = let no : false ≡ true = h in absurd cc
last_of false b c h = let no : false ≡ true = h in absurd cc

-- of a frame that waits a byte is there
pub put_off_some : (t : Tunnel) → is_put_off t ≡ true → has_bytes t.engine.incoming ≡ true
put_off_some t h = some_byte t.engine.incoming (last_of (records_left t.engine.session == 0) (option_map_or (λ (n : ℕ). n == 0) (header_begun t.engine.session.incoming) false) (may_open t.engine.incoming) (both_of (lacks_place t.engine) (nat_lt 0 (turns_left t.connections)) h).0)

nothing : (xs : List ℕ) → (length xs == 0) ≡ true → xs ≡ []
nothing [] h = refl
nothing (x ∷ xs) h = let e : length (x ∷ xs) ≡ 0 = grind (arith, nat_tests) in let no : ⊥ = omega arith in absurd no

not_false : (b : Bool) → not b ≡ false → b ≡ true
not_false true h = refl
not_false false h = cc

pub none_left : (waits xs : List ℕ) (empty : Bool) → empty ≡ (length waits == 0) → waits ≡ xs → not empty ≡ false → xs ≡ []
none_left waits xs empty e same h = sym same ∙ nothing waits (sym e ∙ not_false empty h)

-- it stopped, and no payload may be passed on
pub fed_or_stuck : (e : Engine) (s : Session) (waits : List ℕ) → s ≡ e.session → waits ≡ e.incoming → (e.incoming ≡ []) ⊎ ((is_stuck e.session ≡ true) ⊎ IsSome (passing e.session)) → (waits ≡ []) ⊎ (passing s ≡ None) → IsFedOrStuck e
fed_or_stuck e s waits same all (inl none) x = inl none
fed_or_stuck e s waits same all (inr (inl stuck)) x = inr stuck
fed_or_stuck e s waits same all (inr (inr some)) (inl none) = inl (sym all ∙ none)
fed_or_stuck e s waits same all (inr (inr some)) (inr none) = let no : false ≡ true = sym (ap is_some (ap passing (sym same) ∙ none)) ∙ some in absurd cc
