-- How a stream and its device go on over many turns.
use Rattle.std.proofs.Common.{◌≡◌, ℕ, List, [], ◌∷◌, ◌++◌, Bool, true, false, ◌||◌, Option, None, Some, refl, sym, ap, ◌∙◌, subst, append_assoc, inl, inr}
use Rattle.std.specs.Prelude.{option_map, IfSome}
use Rattle.std.specs.Io.KnownBytes.{Appends, Consumes}
use Rattle.std.proofs.KnownBytes.{Appends-nil, Appends-trans, Consumes-nil, Consumes-trans}
use Rattle.std.proofs.Math.Bool.{or_assoc}
use Rattle.ymx_machine.specs.shared.Events.{Reply}
use Rattle.ymx_model.specs.session.Events.{Event}
use Rattle.ymx_machine.specs.declared.types.Call.TheVariants as call
use Rattle.ymx_model.specs.declared.types.Event.TheVariants as event
use Rattle.ymx_engine.specs.Devices.{Seen}
use Rattle.ymx_engine.specs.Events.{taken, given, has_end, has_finish, has_reset, has_stop, lacks_memory}
use Rattle.ymx_engine.specs.Exchanges.{has_bytes}
use Rattle.ymx_engine.specs.Engines.{Engine}
use Rattle.ymx_engine.specs.Passes.{PassesOn}
use Rattle.ymx_engine.specs.declared.directions.Directions.{Directions}
use Rattle.ymx_engine.proofs.Quiet.{IsQuiet}
use Rattle.ymx_engine.proofs.Exchanging.{taken_then, given_then, end_then, finish_then, reset_then, stop_then, lacks_then, or_none, or_second, or_cases, or_same, or_twice, same_consumes, whole_before, whole_after}
use Rattle.ymx_engine.proofs.Listing.{takes_none}
use Rattle.ymx_engine.specs.Lives.{all_of, kept_of, loses, Trades, IsIdle, opens_at, Opens, Forgets, Change, Lives, sinces, Life}

pub all_then : (ps qs : List (List ℕ × List ℕ)) → all_of (ps ++ qs) ≡ all_of ps ++ all_of qs
all_then [] qs = refl
all_then (p ∷ ps) qs = ap (λ (v : List ℕ). (p.0 ++ p.1) ++ v) (all_then ps qs) ∙ sym (append_assoc (p.0 ++ p.1) (all_of ps) (all_of qs))

pub kept_then : (ps qs : List (List ℕ × List ℕ)) → kept_of (ps ++ qs) ≡ kept_of ps ++ kept_of qs
kept_then [] qs = refl
kept_then (p ∷ ps) qs = ap (λ (v : List ℕ). p.0 ++ v) (kept_then ps qs) ∙ sym (append_assoc p.0 (kept_of ps) (kept_of qs))

pub loses_then : (ps qs : List (List ℕ × List ℕ)) → loses (ps ++ qs) ≡ (loses ps || loses qs)
loses_then [] qs = refl
loses_then (p ∷ ps) qs = ap (λ (v : Bool). has_bytes p.1 || v) (loses_then ps qs) ∙ sym (or_assoc (has_bytes p.1) (loses ps) (loses qs))

pub or_swap : (a b c d : Bool) → ((a || b) || (c || d)) ≡ ((a || c) || (b || d))
or_swap true b c d = refl
or_swap false true true d = refl
or_swap false true false d = refl
or_swap false false true d = refl
or_swap false false false d = refl

-- two flags that were raised, one after the other
pub raised : (x y z : Bool) (a b c : Option Bool) → z ≡ (x || y) → b ≡ option_map (λ v. v || x) a → c ≡ option_map (λ v. v || y) b → c ≡ option_map (λ v. v || z) a
raised x y z a b c e p q = q ∙ ap (option_map (λ v. v || y)) p ∙ or_twice x y a ∙ ap (λ (w : Bool). option_map (λ v. v || w) a) (sym e)

-- each of two implies its own, so either does
pub either : (a b p q : Bool) → (a || b) ≡ true → (a ≡ true → p ≡ true) → (b ≡ true → q ≡ true) → (p || q) ≡ true
either true b true q h f g = refl
either true b false q h f g = let no : false ≡ true = f refl in cc
either false b p q h f g = or_second p q (g h)

unfoldable pub trades_quiet : (id : ℕ) (es : List (Event × Reply)) (a : Seen) → IsQuiet id es → Trades id es a a
trades_quiet id es a q = record {
  pieces = [];
  kept = q.0;
  to_peer = Consumes-nil a.left;
  from_peer = subst (λ (v : List ℕ). Appends a.had a.had v) (sym q.1) (Appends-nil a.had);
  whole = λ h. let no : ⊥ = cc in absurd no;
  over = or_same a.over ∙ ap (λ (v : Bool). option_map (λ x. x || v) a.over) (sym q.3);
  ended = or_same a.ended ∙ ap (λ (v : Bool). option_map (λ x. x || v) a.ended) (sym q.2);
  fails = false;
  failed = or_same a.failed;
  reset = q.4;
  cause = λ h. let no : ⊥ = cc in absurd no;
  shut = or_same a.shut ∙ ap (λ (v : Bool). option_map (λ x. x || v) a.shut) (sym q.5);
}

unfoldable pub trades_then : (id : ℕ) (es fs : List (Event × Reply)) (a b c : Seen) → Trades id es a b → Trades id fs b c → Trades id (es ++ fs) a c
trades_then id es fs a b c x y = record {
  pieces = x.pieces ++ y.pieces;
  kept = taken_then id es fs ∙ ap (λ (v : List ℕ). v ++ taken id fs) x.kept ∙ ap (λ (v : List ℕ). kept_of x.pieces ++ v) y.kept ∙ sym (kept_then x.pieces y.pieces);
  to_peer = subst (Consumes a.left c.left) (sym (all_then x.pieces y.pieces)) (Consumes-trans a.left b.left c.left _ _ x.to_peer y.to_peer);
  from_peer = subst (Appends a.had c.had) (sym (given_then id es fs)) (Appends-trans a.had b.had c.had _ _ x.from_peer y.from_peer);
  whole = λ h. subst (λ (v : List ℕ). IfSome a.left (λ w. w ≡ v)) (sym (all_then x.pieces y.pieces))
      (elim (or_cases (has_finish id es) (has_finish id fs) (sym (finish_then id es fs) ∙ h)) [
        | inl first ↦ whole_before a.left b.left c.left _ _ x.to_peer y.to_peer (x.whole first)
        | inr second ↦ whole_after a.left b.left _ _ x.to_peer (y.whole second)
      ]);
  over = raised (has_finish id es) (has_finish id fs) _ _ _ _ (finish_then id es fs) x.over y.over;
  ended = raised (has_end id es) (has_end id fs) _ _ _ _ (end_then id es fs) x.ended y.ended;
  fails = x.fails || y.fails;
  failed = raised x.fails y.fails _ _ _ _ refl x.failed y.failed;
  reset = reset_then id es fs ∙ ap (λ (v : Bool). v || has_reset id fs) x.reset ∙ ap (λ (v : Bool). (x.fails || loses x.pieces) || v) y.reset
      ∙ or_swap x.fails (loses x.pieces) y.fails (loses y.pieces) ∙ ap (λ (v : Bool). (x.fails || y.fails) || v) (sym (loses_then x.pieces y.pieces));
  cause = λ h. lacks_then id es fs ∙ either (loses x.pieces) (loses y.pieces) (lacks_memory id es) (lacks_memory id fs) (sym (loses_then x.pieces y.pieces) ∙ h) x.cause y.cause;
  shut = raised (has_stop id es) (has_stop id fs) _ _ _ _ (stop_then id es fs) x.shut y.shut;
}

-- payload that is passed on
pub trades_passed : (id n : ℕ) (a b : Engine) (d e : Seen) (v w : Directions) → (x : PassesOn id a b d e n v w) → Trades id x.events d e
trades_passed id n a b d e v w x =
    let none = takes_none id x.events x.own in
    record {
      pieces = [];
      kept = none.0;
      to_peer = same_consumes d.left e.left x.left;
      from_peer = x.from_peer;
      whole = λ h. let f : has_finish id x.events ≡ false = none.1 in let no : ⊥ = cc in absurd no;
      over = x.over ∙ or_same d.over ∙ ap (λ (v : Bool). option_map (λ w. w || v) d.over) (sym none.1);
      ended = x.ended;
      fails = x.fails;
      failed = x.failed;
      reset = x.reset ∙ sym (or_none x.fails);
      cause = λ h. let no : ⊥ = cc in absurd no;
      shut = x.shut;
    }

-- ---- lives

idle_then : (id : ℕ) (es fs : List (Event × Reply)) → IsIdle id es → IsIdle id fs → IsIdle id (es ++ fs)
idle_then id es fs x y = (
  taken_then id es fs ∙ ap (λ (v : List ℕ). v ++ taken id fs) x.0 ∙ y.0,
  given_then id es fs ∙ ap (λ (v : List ℕ). v ++ given id fs) x.1 ∙ y.1,
  finish_then id es fs ∙ ap (λ (v : Bool). v || has_finish id fs) x.2 ∙ y.2,
  end_then id es fs ∙ ap (λ (v : Bool). v || has_end id fs) x.3 ∙ y.3,
)

-- changes with more before the first, and what happens after the last
seam : List (Event × Reply) → List Change → List Change
seam es [] = []
seam es (d ∷ ds) = record { since = es ++ d.since; seen = d.seen } ∷ ds

behind : List (Event × Reply) → List Change → List (Event × Reply) → List (Event × Reply)
behind es [] rest = es ++ rest
behind es (d ∷ ds) rest = rest

seam_all : (es : List (Event × Reply)) (ds : List Change) (rest : List (Event × Reply)) → sinces (seam es ds) ++ behind es ds rest ≡ es ++ (sinces ds ++ rest)
unfolding seam behind
seam_all es [] rest = refl
seam_all es (d ∷ ds) rest = append_assoc (es ++ d.since) (sinces ds) rest ∙ append_assoc es d.since (sinces ds ++ rest) ∙ ap (λ (v : List (Event × Reply)). es ++ v) (sym (append_assoc d.since (sinces ds) rest))

all_behind : (cs : List Change) (es : List (Event × Reply)) (ds : List Change) (rest : List (Event × Reply)) → sinces (cs ++ seam es ds) ++ behind es ds rest ≡ (sinces cs ++ es) ++ (sinces ds ++ rest)
all_behind [] es ds rest = seam_all es ds rest
all_behind (c ∷ cs) es ds rest =
    append_assoc c.since (sinces (cs ++ seam es ds)) (behind es ds rest) ∙ ap (λ (v : List (Event × Reply)). c.since ++ v) (all_behind cs es ds rest)
    ∙ sym (append_assoc c.since (sinces cs ++ es) (sinces ds ++ rest)) ∙ ap (λ (v : List (Event × Reply)). v ++ (sinces ds ++ rest)) (sym (append_assoc c.since (sinces cs) es))

opens_behind : (id : ℕ) (es fs : List (Event × Reply)) → Opens id fs → Opens id (es ++ fs)
opens_behind id es fs x = (es ++ x.0, x.1, ap (λ (v : List (Event × Reply)). es ++ v) x.2 ∙ sym (append_assoc es x.0 (x.1 ∷ [])), x.3)

forgets_behind : (id : ℕ) (es fs : List (Event × Reply)) → Forgets id fs → Forgets id (es ++ fs)
forgets_behind id es fs x = (es ++ x.0, x.1, ap (λ (v : List (Event × Reply)). es ++ v) x.2 ∙ sym (append_assoc es x.0 ((event.Call (call.Forget id), x.1) ∷ [])))

idle_on : (id : ℕ) (es : List (Event × Reply)) (ds : List Change) (rest : List (Event × Reply)) (q : Option Seen) → IsIdle id es → Lives id ds rest None q → Lives id (seam es ds) (behind es ds rest) None q
unfolding seam behind
idle_on id es [] rest q x y = (y.0, idle_then id es rest x y.1)
idle_on id es (d ∷ ds) rest q x y = (opens_behind id es d.since y.0, idle_then id es d.since x y.1, y.2)

trades_on : (id : ℕ) (es : List (Event × Reply)) (ds : List Change) (rest : List (Event × Reply)) (a b : Seen) (q : Option Seen) → Trades id es a b → Lives id ds rest (Some b) q → Lives id (seam es ds) (behind es ds rest) (Some a) q
unfolding seam behind
trades_on id es [] rest a b q x y = (y.0, y.1, trades_then id es rest a b y.0 x y.2)
trades_on id es (d ∷ ds) rest a b q x y = (forgets_behind id es d.since y.0, trades_then id es d.since a b d.seen x y.1, y.2)

lives_then : (id : ℕ) (cs : List Change) (es : List (Event × Reply)) (ds : List Change) (rest : List (Event × Reply)) (o p q : Option Seen) → Lives id cs es o p → Lives id ds rest p q →
    Lives id (cs ++ seam es ds) (behind es ds rest) o q
lives_then id [] es ds rest None p q x y = idle_on id es ds rest q x.1 (subst (λ (v : Option Seen). Lives id ds rest v q) x.0 y)
lives_then id [] es ds rest (Some a) p q x y = trades_on id es ds rest a x.0 q x.2 (subst (λ (v : Option Seen). Lives id ds rest v q) x.1 y)
lives_then id (c ∷ cs) es ds rest None p q x y = (x.0, x.1, lives_then id cs es ds rest (Some c.seen) p q x.2 y)
lives_then id (c ∷ cs) es ds rest (Some a) p q x y = (x.0, x.1, lives_then id cs es ds rest None p q x.2 y)

-- one life after another
pub life_then : (id : ℕ) (es fs : List (Event × Reply)) (o p q : Option Seen) → Life id es o p → Life id fs p q → Life id (es ++ fs) o q
life_then id es fs o p q x y = record {
  changes = x.changes ++ seam x.rest y.changes;
  rest = behind x.rest y.changes y.rest;
  all = ap (λ (v : List (Event × Reply)). v ++ fs) x.all ∙ ap (λ (v : List (Event × Reply)). (sinces x.changes ++ x.rest) ++ v) y.all ∙ sym (all_behind x.changes x.rest y.changes y.rest);
  lives = lives_then id x.changes x.rest y.changes y.rest o p q x.lives y.lives;
}

lives_quiet : (id : ℕ) (es : List (Event × Reply)) (o : Option Seen) → IsQuiet id es → Lives id [] es o o
lives_quiet id es None q = (refl, (q.0, q.1, q.3, q.2))
lives_quiet id es (Some a) q = (a, refl, trades_quiet id es a q)

-- the device stays, if there is one, and nothing happens to the stream
pub life_quiet : (id : ℕ) (es : List (Event × Reply)) (o : Option Seen) → IsQuiet id es → Life id es o o
life_quiet id es o q = record { changes = []; rest = es; all = refl; lives = lives_quiet id es o q }

-- the device stays, and trades
pub life_trades : (id : ℕ) (es : List (Event × Reply)) (a b : Seen) → Trades id es a b → Life id es (Some a) (Some b)
life_trades id es a b x = record { changes = []; rest = es; all = refl; lives = (b, refl, x) }

nothing_quiet : (id : ℕ) → IsQuiet id []
nothing_quiet id = (refl, refl, refl, refl, refl, refl)

-- the stream was forgotten, and its device leaves, where there is one
pub life_leaves : (id : ℕ) (told : Reply) (o : Option Seen) → Life id ((event.Call (call.Forget id), told) ∷ []) o None
life_leaves id told None = life_quiet id _ None (refl, refl, refl, refl, refl, refl)
life_leaves id told (Some a) = record { changes = record { since = (event.Call (call.Forget id), told) ∷ []; seen = a } ∷ []; rest = []; all = refl; lives = (([], told, refl), trades_quiet id _ a (refl, refl, refl, refl, refl, refl), (refl, (refl, refl, refl, refl))) }

-- the stream was opened, and a device joins it
pub life_joins : (id : ℕ) (e : Event × Reply) (a : Seen) → opens_at id e.0 e.1 ≡ true → IsQuiet id (e ∷ []) → Life id (e ∷ []) None (Some a)
life_joins id e a opens q = record { changes = record { since = e ∷ []; seen = a } ∷ []; rest = []; all = refl; lives = (([], e, refl, opens), (q.0, q.1, q.3, q.2), (a, refl, trades_quiet id [] a (nothing_quiet id))) }

-- with no device no byte moves
pub life_idle : (id : ℕ) (es : List (Event × Reply)) → IsIdle id es → Life id es None None
life_idle id es idle = record { changes = []; rest = es; all = refl; lives = (refl, idle) }
