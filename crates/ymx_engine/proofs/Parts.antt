-- Parts of a turn: how they go on, and what one call is.
use Rattle.std.proofs.Common.{◌≡◌, ◌⊎◌, inl, inr, ℕ, ◌+◌, ◌-◌, ◌≤◌, ◌<◌, List, [], ◌∷◌, ◌++◌, length, take, drop, Bool, true, false, ◌||◌, ◌&&◌, nat_le, Option, refl, sym, ap, ◌∙◌, subst, arith, append-nil, take-append-drop, take_all, length-append}
use Rattle.std.specs.Prelude.{option_map, IfSome, min}
use Rattle.std.specs.List.{list_all}
use Rattle.std.specs.Io.KnownBytes.{Appends, Consumes}
use Rattle.std.proofs.lemmas.Grind.{common_steps}
use Rattle.std.proofs.lemmas.Bool.Decides.{nat_tests}
use Rattle.std.proofs.Math.Seq.{take-append-add}
use Rattle.std.proofs.lemmas.List.{length-take-le, take-append-le}
use Rattle.std.proofs.lemmas.List.Folds.{list_all-append}
use Rattle.ymx_model.specs.session.Events.{Event}
use Rattle.ymx_model.specs.declared.types.Event.TheVariants as event
use Rattle.ymx_machine.specs.declared.types.Call.TheVariants as call
use Rattle.ymx_machine.specs.shared.Events.{Reply, Call}
use Rattle.ymx_model.specs.session.Sessions.{Session, is_running}
use Rattle.ymx_model.specs.session.Calls.{write_to}
use Rattle.ymx_model.specs.session.Emissions.{in_turn}
use Rattle.ymx_model.specs.session.Histories.{Gives}
use Rattle.ymx_law_session.specs.Limits.{IsWithin}
use Rattle.ymx_session.specs.Streams.{waiting, room_of}
use Rattle.ymx_engine.specs.declared.device.Pulled.{Pulled}
use Rattle.ymx_engine.specs.declared.device.Pulled.TheVariants as pulled
use Rattle.ymx_engine.specs.declared.device.Pushed.{Pushed}
use Rattle.ymx_engine.specs.declared.device.Pushed.TheVariants as pushed
use Rattle.ymx_engine.specs.declared.directions.Directions.{Directions}
use Rattle.ymx_engine.specs.declared.directions.Flow.{Flow}
use Rattle.ymx_engine.specs.declared.directions.Flow.TheVariants as flow
use Rattle.ymx_engine.specs.Devices.{Seen, Marks, may_have_more, may_take_more, after_pull, after_push, IsPulled, IsPushed, IsEnded, IsShut, one_read}
use Rattle.ymx_engine.specs.Events.{is_on, took_count, taken_at, taken, bytes_of, given_at, given, is_read_end, ends_at, has_end, finishes_at, has_finish, resets_at, has_reset, is_refusal, is_stop, stops_at, has_stop, is_memory_refusal, lacks_memory_at, lacks_memory}
use Rattle.ymx_engine.specs.Lives.{all_of}
use Rattle.ymx_engine.specs.Serves.{is_of_turn, is_emission, is_silent, is_stopped, Exchanges, GivesWhole, Turn, Part, Delivers, TakesAndGives, PutsDue}
use Rattle.ymx_engine.specs.Directions.{is_open, break_if, broken_off, directions_at, directions_after, may_push, may_pull}
use Rattle.ymx_engine.specs.Wires.{emitted}
use Rattle.ymx_engine.proofs.Quiet.{both, quiet}
use Rattle.ymx_engine.proofs.Asking.{empty_never_lacks}
use Rattle.ymx_engine.proofs.Coming.{IsCalm, turn_is_calm}
use Rattle.ymx_engine.proofs.Exchanging.{happen_then, taken_then, given_then, end_then, finish_then, reset_then, stop_then, lacks_then, or_second, or_none, or_same, same_id, or_off, or_on, refused_goes, same_consumes, same_appends, at_end, still, none_pulled, none_pushed, end_granted, some_bytes}
use Rattle.ymx_engine.proofs.Hearing.{never}
use Rattle.ymx_engine.proofs.Serving.{puts_then, all_emissions}
use Rattle.ymx_engine.proofs.Steady.{steady_all, turn_steady}
use Rattle.ymx_engine.proofs.Trading.{trades_quiet, trades_then, all_then}
use Rattle.ymx_engine.proofs.DirectionsAfter.{directions_then, to_peer_was, from_peer_was, stop_breaks_to, stop_breaks_from, directions_same, directions_kept, directions_broken, directions_finished, directions_ended, directions_lacked}

-- ---- marks

-- a mark that is on was on before, unless this stops
abbrev pub OnlyIf : (was now stops : Bool) → Type 0
OnlyIf was now stops = now ≡ true → (was ≡ true) ⊎ (stops ≡ true)

only_same : (was now stops : Bool) → now ≡ was → OnlyIf was now stops
only_same was now stops e = λ on. inl (sym e ∙ on)

only_and : (was more now stops : Bool) → now ≡ (was && more) → OnlyIf was now stops
only_and was more now stops e = λ on. inl (both was more (sym e ∙ on)).0

only_stop : (was now stops : Bool) → stops ≡ true → OnlyIf was now stops
only_stop was now stops s = λ on. inr s

pub only_then : (was mid now p q r : Bool) → r ≡ (p || q) → OnlyIf was mid p → OnlyIf mid now q → OnlyIf was now r
only_then was mid now p q r e f g = λ on. by-last (g on)
  where
    by-first : (was ≡ true) ⊎ (p ≡ true) → (was ≡ true) ⊎ (r ≡ true)
    by-first (inl on) = inl on
    by-first (inr s) = inr (e ∙ ap (λ (b : Bool). b || q) s)

    by-last : (mid ≡ true) ⊎ (q ≡ true) → (was ≡ true) ⊎ (r ≡ true)
    by-last (inl on) = by-first (f on)
    by-last (inr s) = inr (e ∙ or_second p q s)

pull_after : (a b : Marks) (r : Pulled) (room : ℕ) → b ≡ after_pull r room a → (b.may_pull ≡ (a.may_pull && may_have_more r room a.is_closing)) × (b.may_push ≡ a.may_push)
pull_after a b r room e = (ap (λ (m : Marks). m.may_pull) e, ap (λ (m : Marks). m.may_push) e)

push_after : (a b : Marks) (r : Pushed) (offered : ℕ) → b ≡ after_push r offered a → (b.may_pull ≡ a.may_pull) × (b.may_push ≡ (a.may_push && may_take_more r offered))
push_after a b r offered e = (ap (λ (m : Marks). m.may_pull) e, ap (λ (m : Marks). m.may_push) e)

-- ---- parts

-- one after another
unfoldable pub exchanges_then : {id : ℕ} {s t u : Session} {out mid new : List ℕ} {a b c : Seen} → Exchanges id s t out mid a b → Exchanges id t u mid new b c → Exchanges id s u out new a c
exchanges_then {id} {s} {t} {u} {out} {mid} {new} {a} {b} {c} x y = record {
  events = x.events ++ y.events;
  happen = happen_then x.events y.events s t u x.happen y.happen;
  own = rw (list_all-append (λ (e : Event × Reply). is_of_turn id e.0) x.events y.events, x.own, y.own) refl;
  trades = trades_then id x.events y.events a b c x.trades y.trades;
  to_wire = puts_then out mid new x.events y.events x.to_wire y.to_wire;
}

unfoldable pub part_then : {id : ℕ} {s t u : Session} {out mid new : List ℕ} {a b c : Seen} {w x y : Directions} {m n g h : ℕ} → Part id s t out mid a b w x m g → Part id t u mid new b c x y n h → Part id s u out new a c w y (m + n) (g + h)
unfolding exchanges_then trades_then
part_then {id} {s} {t} {u} {out} {mid} {new} {a} {b} {c} {w} {x} {y} {m} {n} {g} {h} p q =
    let es = p.moved.events in
    let fs = q.moved.events in
    let ps = p.moved.trades.pieces in
    let qs = q.moved.trades.pieces in
    let stop = stop_then id es fs in
    record {
      moved = exchanges_then p.moved q.moved;
      few = let i = p.few in let j = q.few in omega arith;
      directions = q.directions ∙ ap (directions_after id fs) p.directions ∙ sym (directions_then id es fs w);
      gives = let i = p.gives in let j = q.gives in omega (arith, ap length (all_then ps qs), length-append (all_of ps) (all_of qs));
      pull_on = only_then a.marks.may_pull b.marks.may_pull c.marks.may_pull (has_stop id es) (has_stop id fs) (has_stop id (es ++ fs)) stop p.pull_on q.pull_on;
      push_on = only_then a.marks.may_push b.marks.may_push c.marks.may_push (has_stop id es) (has_stop id fs) (has_stop id (es ++ fs)) stop p.push_on q.push_on;
    }

-- the calls may be more
unfoldable pub part_within : {id : ℕ} {s t : Session} {out new : List ℕ} {a b : Seen} {w x : Directions} {m n g : ℕ} → m ≤ n → Part id s t out new a b w x m g → Part id s t out new a b w x n g
part_within {id} {s} {t} {out} {new} {a} {b} {w} {x} {m} {n} {g} le p = record { moved = p.moved; few = let i = p.few in omega arith; directions = p.directions; gives = p.gives; pull_on = p.pull_on; push_on = p.push_on }

-- so is a part in which nothing came to wait for the wire, whatever waits
unfoldable pub part_beside : {id : ℕ} {s t : Session} {a b : Seen} {w x : Directions} {m g : ℕ} → (out : List ℕ) → Part id s t [] [] a b w x m g → Part id s t out out a b w x m g
part_beside {id} {s} {t} {a} {b} {w} {x} {m} {g} out p =
    let none : emitted p.moved.events ≡ [] = p.moved.to_wire in
    record {
      moved = record { events = p.moved.events; happen = p.moved.happen; own = p.moved.own; trades = p.moved.trades; to_wire = ap (λ (v : List ℕ). out ++ v) none ∙ append-nil out };
      few = p.few;
      directions = p.directions;
      gives = p.gives;
      pull_on = p.pull_on;
      push_on = p.push_on;
    }

-- nothing happened, and the device moved nothing
unfoldable pub part_none : {id : ℕ} {s : Session} {a b : Seen} {w : Directions} {m : ℕ} → Consumes a.left b.left [] → Appends a.had b.had [] → b.over ≡ a.over → b.ended ≡ a.ended → b.failed ≡ a.failed → b.shut ≡ a.shut →
    b.calls ≤ a.calls + m → OnlyIf a.marks.may_pull b.marks.may_pull false → OnlyIf a.marks.may_push b.marks.may_push false → Part id s s [] [] a b w w m 0
part_none {id} {s} {a} {b} {w} {m} left had over ended failed shut few pull_on push_on = record {
  moved = record {
    events = [];
    happen = refl;
    own = refl;
    trades = record {
      pieces = [];
      kept = refl;
      to_peer = left;
      from_peer = had;
      whole = λ h. cc;
      over = over ∙ or_same a.over;
      ended = ended ∙ or_same a.ended;
      fails = false;
      failed = failed ∙ or_same a.failed;
      reset = refl;
      cause = λ h. cc;
      shut = shut ∙ or_same a.shut;
    };
    to_wire = refl;
  };
  few = few;
  directions = refl;
  gives = refl;
  pull_on = pull_on;
  push_on = push_on;
}

pub part_same : {id : ℕ} {s : Session} {a : Seen} {w : Directions} {m : ℕ} → Part id s s [] [] a a w w m 0
part_same {id} {s} {a} {w} {m} = part_none (same_consumes a.left a.left refl) (same_appends a.had a.had refl) refl refl refl refl (omega arith) (λ on. inl on) (λ on. inl on)

-- a call on the stream, which took none of the device's bytes
unfoldable pub part_one : {id : ℕ} {s t : Session} {a b : Seen} {w x : Directions} {m : ℕ} → (c : Call) (told : Reply) (fails : Bool) → Gives in_turn s (event.Call c) told t → is_on id (event.Call c) ≡ true → taken_at id (event.Call c) told ≡ [] →
    Consumes a.left b.left [] → Appends a.had b.had (given_at id (event.Call c) told) → (finishes_at id (event.Call c) ≡ true → IfSome a.left (λ all. all ≡ [])) →
    b.over ≡ option_map (λ y. y || finishes_at id (event.Call c)) a.over → b.ended ≡ option_map (λ y. y || ends_at id (event.Call c) told) a.ended →
    b.failed ≡ option_map (λ y. y || fails) a.failed → resets_at id (event.Call c) ≡ fails → b.shut ≡ option_map (λ y. y || stops_at id (event.Call c) told) a.shut →
    x ≡ directions_at id (event.Call c) told w → b.calls ≤ a.calls + m →
    OnlyIf a.marks.may_pull b.marks.may_pull (stops_at id (event.Call c) told) → OnlyIf a.marks.may_push b.marks.may_push (stops_at id (event.Call c) told) → Part id s t [] [] a b w x m 0
part_one {id} {s} {t} {a} {b} {w} {x} {m} c told fails g on none left had whole over ended failed reset shut directions few pull_on push_on =
    let f = sym (or_none (finishes_at id (event.Call c))) in
    let n = sym (or_none (ends_at id (event.Call c) told)) in
    let p = sym (or_none (stops_at id (event.Call c) told)) in
    record {
      moved = record {
        events = (event.Call c, told) ∷ [];
        happen = (t, g, refl);
        own = rw on refl;
        trades = record {
          pieces = [];
          kept = ap (λ (v : List ℕ). v ++ []) none;
          to_peer = left;
          from_peer = subst (Appends a.had b.had) (sym (append-nil (given_at id (event.Call c) told))) had;
          whole = λ h. whole (f ∙ h);
          over = over ∙ ap (λ (v : Bool). option_map (λ y. y || v) a.over) f;
          ended = ended ∙ ap (λ (v : Bool). option_map (λ y. y || v) a.ended) n;
          fails = fails;
          failed = failed;
          reset = or_none (resets_at id (event.Call c)) ∙ reset ∙ sym (or_none fails);
          cause = λ h. cc;
          shut = shut ∙ ap (λ (v : Bool). option_map (λ y. y || v) a.shut) p;
        };
        to_wire = refl;
      };
      few = few;
      directions = directions;
      gives = refl;
      pull_on = only_more pull_on p;
      push_on = only_more push_on p;
    }
  where
    only_more : {was now stops more : Bool} → OnlyIf was now stops → stops ≡ more → OnlyIf was now more
    only_more {was} {now} {stops} {more} h e = subst (OnlyIf was now) e h

-- what is due was emitted
pub part_due : {id : ℕ} {s t : Session} {out new : List ℕ} {a : Seen} {w : Directions} → PutsDue s t out new → Part id s t out new a a w w 0 0
unfolding trades_quiet
part_due {id} {s} {t} {out} {new} {a} {w} x =
    let q = quiet is_emission (λ c. refl) id x.events x.own in
    record {
      moved = record { events = x.events; happen = x.happen; own = all_emissions id x.events x.own; trades = trades_quiet id x.events a q; to_wire = x.to_wire };
      few = omega arith;
      directions = sym (directions_kept id x.events w q.3 q.2 q.5);
      gives = refl;
      pull_on = λ on. inl on;
      push_on = λ on. inl on;
    }

-- ---- what a part leaves

-- a device that may take bytes now could before
pub could_push : {id : ℕ} {s t : Session} {out new : List ℕ} {a b : Seen} {w x : Directions} {m g : ℕ} → Part id s t out new a b w x m g → may_push x b.marks ≡ true → may_push w a.marks ≡ true
could_push {id} {s} {t} {out} {new} {a} {b} {w} {x} {m} {g} p h =
    let two = both b.marks.may_push (is_open x.from_peer) h in
    let open_ : is_open (directions_after id p.moved.events w).from_peer ≡ true = ap (λ (v : Directions). is_open v.from_peer) (sym p.directions) ∙ two.1 in
    by open_ (p.push_on two.0)
  where
    by : is_open (directions_after id p.moved.events w).from_peer ≡ true → (a.marks.may_push ≡ true) ⊎ (has_stop id p.moved.events ≡ true) → may_push w a.marks ≡ true
    by open_ (inl on) = rw (on, from_peer_was id p.moved.events w open_) refl
    by open_ (inr stop) = absurd (stop_breaks_from id p.moved.events w stop open_)

-- so of one that may have bytes
pub could_pull : {id : ℕ} {s t : Session} {out new : List ℕ} {a b : Seen} {w x : Directions} {m g : ℕ} → Part id s t out new a b w x m g → may_pull x b.marks ≡ true → may_pull w a.marks ≡ true
could_pull {id} {s} {t} {out} {new} {a} {b} {w} {x} {m} {g} p h =
    let two = both b.marks.may_pull (is_open x.to_peer) h in
    let open_ : is_open (directions_after id p.moved.events w).to_peer ≡ true = ap (λ (v : Directions). is_open v.to_peer) (sym p.directions) ∙ two.1 in
    by open_ (p.pull_on two.0)
  where
    by : is_open (directions_after id p.moved.events w).to_peer ≡ true → (a.marks.may_pull ≡ true) ⊎ (has_stop id p.moved.events ≡ true) → may_pull w a.marks ≡ true
    by open_ (inl on) = rw (on, to_peer_was id p.moved.events w open_) refl
    by open_ (inr stop) = absurd (stop_breaks_to id p.moved.events w stop open_)

off_by : (was now : Bool) → (now ≡ true → was ≡ true) → was ≡ false → now ≡ false
off_by was true f off = let no : false ≡ true = sym off ∙ f refl in absurd cc
off_by was false f off = refl

pub push_off : {id : ℕ} {s t : Session} {out new : List ℕ} {a b : Seen} {w x : Directions} {m g : ℕ} → Part id s t out new a b w x m g → may_push w a.marks ≡ false → may_push x b.marks ≡ false
push_off {id} {s} {t} {out} {new} {a} {b} {w} {x} {m} {g} p off = off_by (may_push w a.marks) (may_push x b.marks) (could_push p) off

pub pull_off : {id : ℕ} {s t : Session} {out new : List ℕ} {a b : Seen} {w x : Directions} {m g : ℕ} → Part id s t out new a b w x m g → may_pull w a.marks ≡ false → may_pull x b.marks ≡ false
pull_off {id} {s} {t} {out} {new} {a} {b} {w} {x} {m} {g} p off = off_by (may_pull w a.marks) (may_pull x b.marks) (could_pull p) off

-- what the limits say, and that no stream gains anything
pub part_calm : {id : ℕ} {s t : Session} {out new : List ℕ} {a b : Seen} {w x : Directions} {m g : ℕ} → Part id s t out new a b w x m g → IsWithin s → IsCalm s t
part_calm {id} {s} {t} {out} {new} {a} {b} {w} {x} {m} {g} p within = turn_is_calm id p.moved.events s t p.moved.happen p.moved.own within

-- bytes that went to the device

long_append : (n : ℕ) (xs ys all : List ℕ) → all ≡ xs ++ ys → n ≤ length xs → n ≤ length all
long_append n xs ys all e h = omega (arith, ap length e, length-append xs ys, h)

pub went_first : {id : ℕ} {s t u : Session} {out mid new : List ℕ} {a b c : Seen} {w x y : Directions} {m n g h : ℕ} → (k : ℕ) → (p : Part id s t out mid a b w x m g) → (q : Part id t u mid new b c x y n h) → k ≤ length (given id p.moved.events) → k ≤ length (given id (part_then p q).moved.events)
unfolding part_then exchanges_then
went_first {id} k p q some = long_append k (given id p.moved.events) (given id q.moved.events) _ (given_then id p.moved.events q.moved.events) some

-- ---- one call

-- a stream of which no byte waits said nothing
pub silent : {id : ℕ} {s t : Session} {a : Seen} {w : Directions} → (n : ℕ) (told : Reply) → Gives in_turn s (event.Call (call.Read id n)) told t → bytes_of told ≡ [] → is_read_end told ≡ false → is_refusal told ≡ false → Part id s t [] [] a a w w 1 0
silent {id} {s} {t} {a} {w} n told g none going granted =
    let i = same_id id in
    let ends : ends_at id (event.Call (call.Read id n)) told ≡ false = rw (i, going) refl in
    let stops : stops_at id (event.Call (call.Read id n)) told ≡ false = rw (i, granted) refl in
    part_one (call.Read id n) told false g i refl
    (same_consumes a.left a.left refl) (rw (i, none) (same_appends a.had a.had refl)) (λ h. cc)
    (or_same a.over) (or_off _ a.ended ends) (or_same a.failed) refl (or_off _ a.shut stops)
    (sym (directions_same id (event.Call (call.Read id n)) told w refl ends stops)) (omega arith) (λ on. inl on) (λ on. inl on)

-- the stream's end was read, and its device ended
pub ended : {id : ℕ} {s t : Session} {a b : Seen} {w : Directions} → (n : ℕ) (told : Reply) → IsEnded a b → Gives in_turn s (event.Call (call.Read id n)) told t → bytes_of told ≡ [] → is_read_end told ≡ true → is_open w.from_peer ≡ true →
    Part id s t [] [] a b w (record w { from_peer = flow.Ended }) 1 0
ended {id} {s} {t} {a} {b} {w} n told p g none over open_ =
    let i = same_id id in
    let ends : ends_at id (event.Call (call.Read id n)) told ≡ true = rw (i, over) refl in
    let stops : stops_at id (event.Call (call.Read id n)) told ≡ false = rw (i, end_granted told over) refl in
    part_one (call.Read id n) told false g i refl
    (same_consumes a.left b.left p.left) (rw (i, none) (same_appends a.had b.had p.had)) (λ h. cc)
    (p.over ∙ or_same a.over) (or_on _ a.ended b.ended ends p.ended) (p.failed ∙ or_same a.failed) refl (p.shut ∙ or_off _ a.shut stops)
    (sym (directions_ended id n told w open_ ends stops)) p.counted
    (only_same a.marks.may_pull b.marks.may_pull _ (ap (λ (m : Marks). m.may_pull) p.marks)) (only_same a.marks.may_push b.marks.may_push _ (ap (λ (m : Marks). m.may_push) p.marks))

-- a device that was shut beside a call that was a stop: a read or a write of nothing, or a reset
shut_beside : {id : ℕ} {s t : Session} {a b c : Seen} {w x : Directions} {m : ℕ} → (k : Call) (told : Reply) (fails : Bool) → Gives in_turn s (event.Call k) told t → is_on id (event.Call k) ≡ true → taken_at id (event.Call k) told ≡ [] → given_at id (event.Call k) told ≡ [] →
    finishes_at id (event.Call k) ≡ false → ends_at id (event.Call k) told ≡ false → resets_at id (event.Call k) ≡ fails → stops_at id (event.Call k) told ≡ true → lacks_memory_at id (event.Call k) told ≡ false →
    Consumes a.left b.left [] → Appends a.had b.had [] → b.over ≡ a.over → b.ended ≡ a.ended → b.failed ≡ option_map (λ y. y || fails) a.failed → b.shut ≡ a.shut → IsShut b c → x ≡ broken_off w → c.calls ≤ a.calls + m → Part id s t [] [] a c w x m 0
shut_beside {id} {s} {t} {a} {b} {c} {w} {x} {m} k told fails g on takes gives finishes ends resets stops lacks left had over ended failed shut q e few =
    part_one k told fails g on takes
    (subst (λ (o : Option (List ℕ)). Consumes a.left o []) (sym q.left) left)
    (subst (λ (v : List ℕ). Appends a.had c.had v) (sym gives) (subst (λ (o : Option (List ℕ)). Appends a.had o []) (sym q.had) had))
    (λ h. let no : true ≡ false = sym h ∙ finishes in cc)
    (q.over ∙ over ∙ or_off _ a.over finishes) (q.ended ∙ ended ∙ or_off _ a.ended ends) (q.failed ∙ failed) resets
    (or_on _ a.shut c.shut stops (q.shut ∙ ap (option_map (λ y. true)) shut))
    (e ∙ sym (directions_broken id (event.Call k) told w finishes ends stops lacks)) few
    (only_stop a.marks.may_pull c.marks.may_pull _ stops) (only_stop a.marks.may_push c.marks.may_push _ stops)

-- its stream was no more, and it was shut
pub gone : {id : ℕ} {s t : Session} {a b : Seen} {w x : Directions} → (n : ℕ) (told : Reply) → IsShut a b → x ≡ broken_off w → Gives in_turn s (event.Call (call.Read id n)) told t → bytes_of told ≡ [] → is_refusal told ≡ true → Part id s t [] [] a b w x 1 0
gone {id} {s} {t} {a} {b} {w} {x} n told q e g none refuses =
    let i = same_id id in
    shut_beside (call.Read id n) told false g i refl (rw (i, none) refl) refl (rw (i, refused_goes told refuses) refl) refl (rw (i, refuses) refl) refl
    (same_consumes a.left a.left refl) (same_appends a.had a.had refl) refl refl (or_same a.failed) refl q e q.counted

none_taken : (id : ℕ) (told : Reply) → taken_at id (event.Call (call.Write id [])) told ≡ []
none_taken id told = let i = same_id id in let none : take {A = ℕ} (took_count told) [] ≡ [] = grind (arith, common_steps) in rw (i, none) refl

-- its stream took no bytes any more, and it was shut
pub stopped : {id : ℕ} {s t : Session} {a b : Seen} {w x : Directions} → (told : Reply) → IsShut a b → x ≡ broken_off w → Gives in_turn s (event.Call (call.Write id [])) told t → is_stop told ≡ true → Part id s t [] [] a b w x 1 0
stopped {id} {s} {t} {a} {b} {w} {x} told q e g stops =
    let i = same_id id in
    shut_beside (call.Write id []) told false g i (none_taken id told) refl refl refl refl (rw (i, stops) refl) (rw (i, empty_never_lacks id s t told g) refl)
    (same_consumes a.left a.left refl) (same_appends a.had a.had refl) refl refl (or_same a.failed) refl q e q.counted

-- its stream takes bytes still
pub goes : {id : ℕ} {s t : Session} {a : Seen} {w : Directions} → (told : Reply) → Gives in_turn s (event.Call (call.Write id [])) told t → is_stop told ≡ false → Part id s t [] [] a a w w 1 0
goes {id} {s} {t} {a} {w} told g goes_on =
    let i = same_id id in
    let stops : stops_at id (event.Call (call.Write id [])) told ≡ false = rw (i, goes_on) refl in
    part_one (call.Write id []) told false g i (none_taken id told)
    (same_consumes a.left a.left refl) (same_appends a.had a.had refl) (λ h. cc)
    (or_same a.over) (or_same a.ended) (or_same a.failed) refl (or_off _ a.shut stops)
    (sym (directions_same id (event.Call (call.Write id [])) told w refl refl stops)) (omega arith) (λ on. inl on) (λ on. inl on)

-- it failed at a call that moved nothing: the stream was reset, and it was shut
pub push_failed : {id : ℕ} {s t : Session} {a b c : Seen} {w x : Directions} {bytes : List ℕ} → (told : Reply) → IsPushed pushed.Failed bytes a b → Gives in_turn s (event.Call (call.Reset id)) told t → IsShut b c → x ≡ broken_off w → Part id s t [] [] a c w x 2 0
push_failed {id} {s} {t} {a} {b} {c} {w} {x} {bytes} told p g q e =
    let i = same_id id in
    shut_beside (call.Reset id) told true g i refl refl refl refl i i refl
    (same_consumes a.left b.left p.left) (none_pushed pushed.Failed bytes a b p refl) p.over p.ended p.failed p.shut q e (let f = p.counted in let k = q.counted in omega arith)

pub pull_failed : {id : ℕ} {s t : Session} {a b c : Seen} {w x : Directions} {buffer : List ℕ} → (told : Reply) → IsPulled pulled.Failed buffer a b → Gives in_turn s (event.Call (call.Reset id)) told t → IsShut b c → x ≡ broken_off w → Part id s t [] [] a c w x 2 0
pull_failed {id} {s} {t} {a} {b} {c} {w} {x} {buffer} told p g q e =
    let i = same_id id in
    shut_beside (call.Reset id) told true g i refl refl refl refl i i refl
    (none_pulled pulled.Failed buffer a b p refl) (same_appends a.had b.had p.had) (still false a.over b.over p.over refl) p.ended p.failed p.shut q e (let f = p.counted in let k = q.counted in omega arith)

and_none : (b : Bool) → (b && false) ≡ false
and_none true = refl
and_none false = refl

-- a device that was offered all that waits took all, or may take none now
took_all : (w : Directions) (n offered waits went : ℕ) (a b : Marks) → b.may_push ≡ (a.may_push && nat_le offered n) → waits ≤ offered → n ≡ went → (waits ≤ went) ⊎ (may_push w b ≡ false)
took_all w n offered waits went a b e fits same = by (nat_le offered n) refl
  where
    by : (all : Bool) → nat_le offered n ≡ all → (waits ≤ went) ⊎ (may_push w b ≡ false)
    by true all = let le : offered ≤ n = grind (arith, nat_tests) in inl (omega (arith, le, fits, same))
    by false few = inr (rw (e, few, and_none a.may_push) refl)

-- bytes that waited were pushed, and are taken out
pub pushed_some : {id : ℕ} {s t : Session} {out new : List ℕ} {a b : Seen} {w : Directions} {bytes : List ℕ} → (n : ℕ) → IsPushed (pushed.Took n) bytes a b → bytes ≡ waiting id s → TakesAndGives id [] (take n (waiting id s)) s t out new → Delivers id s t out new a b w w 2
pushed_some {id} {s} {t} {out} {new} {a} {b} {w} {bytes} n p all x =
    let gives : given id x.events ≡ take n bytes = x.gives ∙ ap (take n) (sym all) in
    let marks = push_after a.marks b.marks (pushed.Took n) (length bytes) p.marks in
    record {
      part = record {
        moved = record {
          events = x.events;
          happen = x.happen;
          own = x.own;
          trades = record {
            pieces = [];
            kept = x.takes;
            to_peer = same_consumes a.left b.left p.left;
            from_peer = subst (Appends a.had b.had) (sym gives) p.took;
            whole = λ h. let f = x.finishes in let no : ⊥ = cc in absurd no;
            over = p.over ∙ or_off _ a.over x.finishes;
            ended = p.ended ∙ or_off _ a.ended x.ends;
            fails = false;
            failed = p.failed;
            reset = x.resets;
            cause = λ h. cc;
            shut = p.shut ∙ or_off _ a.shut x.stops;
          };
          to_wire = x.to_wire;
        };
        few = let f = p.counted in omega arith;
        directions = sym (directions_kept id x.events w x.finishes x.ends x.stops);
        gives = refl;
        pull_on = only_same a.marks.may_pull b.marks.may_pull _ marks.0;
        push_on = only_and a.marks.may_push _ b.marks.may_push _ marks.1;
      };
      delivers = λ may. took_all w n (length bytes) (length (waiting id s)) _ a.marks b.marks marks.1 (omega (arith, ap length all)) (sym (length-take-le n bytes p.within) ∙ sym (ap length gives));
    }

-- none were taken, and it may take none now
pub pushed_none : {id : ℕ} {s : Session} {out : List ℕ} {a b : Seen} {w : Directions} {bytes : List ℕ} → IsPushed pushed.NotNow bytes a b → Delivers id s s out out a b w w 2
pushed_none {id} {s} {out} {a} {b} {w} {bytes} p =
    let marks = push_after a.marks b.marks pushed.NotNow (length bytes) p.marks in
    record {
      part = part_beside out (part_none (same_consumes a.left b.left p.left) (none_pushed pushed.NotNow bytes a b p refl) p.over p.ended (still false a.failed b.failed p.failed refl) p.shut (let f = p.counted in omega arith)
          (only_same a.marks.may_pull b.marks.may_pull false marks.0) (only_and a.marks.may_push false b.marks.may_push false marks.1));
      delivers = λ may. inr (rw (marks.1 ∙ and_none a.marks.may_push) refl);
    }

-- the calls may be more
pub pushed_within : {id : ℕ} {s t : Session} {out new : List ℕ} {a b : Seen} {w x : Directions} → Delivers id s t out new a b w x 2 → Delivers id s t out new a b w x 3
unfolding part_within
pushed_within {id} {s} {t} {out} {new} {a} {b} {w} {x} d = record { part = part_within (omega arith) d.part; delivers = d.delivers }

-- one that was shut takes none
broken_push : (w x : Directions) (m : Marks) → x ≡ broken_off w → may_push x m ≡ false
broken_push w x m e = ap (λ (v : Directions). may_push v m) e ∙ by m.may_push w.from_peer
  where
    by : (b : Bool) (f : Flow) → (b && is_open (break_if true f)) ≡ false
    by true flow.Open = refl
    by true flow.Ended = refl
    by true flow.Broken = refl
    by false f = refl

-- it failed as bytes were pushed
pub pushed_failed : {id : ℕ} {s t : Session} {out : List ℕ} {a b c : Seen} {w x : Directions} {bytes : List ℕ} → (told : Reply) → IsPushed pushed.Failed bytes a b → Gives in_turn s (event.Call (call.Reset id)) told t → IsShut b c → x ≡ broken_off w → Delivers id s t out out a c w x 2
pushed_failed {id} {s} {t} {out} {a} {b} {c} {w} {x} {bytes} told p g q e = record { part = part_beside out (push_failed told p g q e); delivers = λ may. inr (broken_push w x c.marks e) }

-- nothing came
pub pulled_none : {id : ℕ} {s : Session} {a b : Seen} {w : Directions} {buffer : List ℕ} → IsPulled pulled.NotNow buffer a b → Part id s s [] [] a b w w 2 0
pulled_none {id} {s} {a} {b} {w} {buffer} p =
    let marks = pull_after a.marks b.marks pulled.NotNow (length buffer) p.marks in
    part_none (none_pulled pulled.NotNow buffer a b p refl) (same_appends a.had b.had p.had) (still false a.over b.over p.over refl) p.ended (still false a.failed b.failed p.failed refl) p.shut (let f = p.counted in omega arith)
    (only_and a.marks.may_pull false b.marks.may_pull false marks.0) (only_same a.marks.may_push b.marks.may_push false marks.1)

-- it had no more, and the stream was finished
pub finished : {id : ℕ} {s t : Session} {a b : Seen} {w : Directions} {buffer : List ℕ} → (told : Reply) → IsPulled pulled.Ended buffer a b → Gives in_turn s (event.Call (call.Finish id)) told t → is_open w.to_peer ≡ true → Part id s t [] [] a b w (record w { to_peer = flow.Ended }) 2 0
finished {id} {s} {t} {a} {b} {w} {buffer} told p g open_ =
    let i = same_id id in
    let marks = pull_after a.marks b.marks pulled.Ended (length buffer) p.marks in
    part_one (call.Finish id) told false g i refl
    p.gave (same_appends a.had b.had p.had) (λ h. at_end a.left b.left [] p.gave (p.end refl))
    (rw i p.over) (p.ended ∙ or_same a.ended) p.failed refl (p.shut ∙ or_same a.shut)
    (sym (directions_finished id told w open_)) (let f = p.counted in omega arith)
    (only_and a.marks.may_pull false b.marks.may_pull _ marks.0) (only_same a.marks.may_push b.marks.may_push _ marks.1)

-- bytes came, and the stream took them
pub gave_sent : {id : ℕ} {s t : Session} {out new : List ℕ} {a b : Seen} {w : Directions} {bytes buffer : List ℕ} → (n : ℕ) → IsPulled (pulled.Gave n) buffer a b → bytes ≡ take n buffer → TakesAndGives id bytes [] s t out new → Part id s t out new a b w w 2 n
gave_sent {id} {s} {t} {out} {new} {a} {b} {w} {bytes} {buffer} n p same x =
    let marks = pull_after a.marks b.marks (pulled.Gave n) (length buffer) p.marks in
    record {
      moved = record {
        events = x.events;
        happen = x.happen;
        own = x.own;
        trades = record {
          pieces = (bytes, []) ∷ [];
          kept = x.takes ∙ sym (append-nil bytes);
          to_peer = subst (Consumes a.left b.left) (sym same ∙ sym (append-nil bytes) ∙ sym (append-nil (bytes ++ []))) p.gave;
          from_peer = subst (Appends a.had b.had) (sym x.gives) (same_appends a.had b.had p.had);
          whole = λ h. let f = x.finishes in let no : ⊥ = cc in absurd no;
          over = p.over ∙ ap (λ (v : Bool). option_map (λ y. y || v) a.over) (sym x.finishes);
          ended = p.ended ∙ or_off _ a.ended x.ends;
          fails = false;
          failed = p.failed;
          reset = x.resets;
          cause = λ h. let no : ⊥ = cc in absurd no;
          shut = p.shut ∙ or_off _ a.shut x.stops;
        };
        to_wire = x.to_wire;
      };
      few = let f = p.counted in omega arith;
      directions = sym (directions_kept id x.events w x.finishes x.ends x.stops);
      gives = let within : n ≤ length buffer = p.within in let l : length (take n buffer) ≡ n = grind (arith, common_steps) in
          sym l ∙ ap length (sym same) ∙ ap length (sym (append-nil bytes) ∙ sym (append-nil (bytes ++ [])));
      pull_on = only_and a.marks.may_pull _ b.marks.may_pull (has_stop id x.events) marks.0;
      push_on = only_same a.marks.may_push b.marks.may_push (has_stop id x.events) marks.1;
    }

-- bytes came, for some of which there was no memory: the stream was reset, and the device shut
pub gave_lost : {id : ℕ} {s m t u : Session} {out new : List ℕ} {a b c : Seen} {w x : Directions} {bytes buffer : List ℕ} → (n count : ℕ) (told last : Reply) → IsPulled (pulled.Gave n) buffer a b → bytes ≡ take n buffer →
    TakesAndGives id (take count bytes) [] s m out new → Gives in_turn m (event.Call (call.Write id (drop count bytes))) told t → took_count told ≡ 0 → is_memory_refusal told ≡ true → 0 < length (drop count bytes) →
    Gives in_turn t (event.Call (call.Reset id)) last u → IsShut b c → x ≡ broken_off (record w { lacked_memory = true }) → Part id s u out new a c w x 2 n
gave_lost {id} {s} {m} {t} {u} {out} {new} {a} {b} {c} {w} {x} {bytes} {buffer} n count told last p same y g none lacks some r q e =
    let i = same_id id in
    let rest = drop count bytes in
    let es = y.events in
    let fs : List (Event × Reply) = (event.Call (call.Write id rest), told) ∷ (event.Call (call.Reset id), last) ∷ [] in
    let takes_none : taken id fs ≡ [] = rw (i, none) refl in
    let gives : given id (es ++ fs) ≡ [] = given_then id es fs ∙ ap (λ (v : List ℕ). v ++ given id fs) y.gives in
    let ends : has_end id (es ++ fs) ≡ false = end_then id es fs ∙ ap (λ (v : Bool). v || has_end id fs) y.ends in
    let finishes : has_finish id (es ++ fs) ≡ false = finish_then id es fs ∙ ap (λ (v : Bool). v || has_finish id fs) y.finishes in
    let second : has_reset id fs ≡ true = rw i refl in
    let resets : has_reset id (es ++ fs) ≡ true = reset_then id es fs ∙ or_second (has_reset id es) (has_reset id fs) second in
    let last_stops : has_stop id fs ≡ true = rw i (or_second (is_stop told) true refl) in
    let stops : has_stop id (es ++ fs) ≡ true = stop_then id es fs ∙ or_second (has_stop id es) (has_stop id fs) last_stops in
    let all : take n buffer ≡ (take count bytes ++ rest) ++ [] = sym same ∙ sym (take-append-drop count bytes) ∙ sym (append-nil (take count bytes ++ rest)) in
    record {
      moved = record {
        events = es ++ fs;
        happen = happen_then es fs s m u y.happen (t, g, (u, r, refl));
        own = rw (list_all-append (λ (v : Event × Reply). is_of_turn id v.0) es fs, y.own, i) refl;
        trades = record {
          pieces = (take count bytes, rest) ∷ [];
          kept = taken_then id es fs ∙ ap (λ (v : List ℕ). v ++ taken id fs) y.takes ∙ ap (λ (v : List ℕ). take count bytes ++ v) takes_none;
          to_peer = subst (λ (o : Option (List ℕ)). Consumes a.left o ((take count bytes ++ rest) ++ [])) (sym q.left) (subst (Consumes a.left b.left) all p.gave);
          from_peer = subst (λ (o : Option (List ℕ)). Appends a.had o (given id (es ++ fs))) (sym q.had) (subst (Appends a.had b.had) (sym gives) (same_appends a.had b.had p.had));
          whole = λ h. let no : ⊥ = cc in absurd no;
          over = q.over ∙ p.over ∙ ap (λ (v : Bool). option_map (λ z. z || v) a.over) (sym finishes);
          ended = q.ended ∙ p.ended ∙ or_off _ a.ended ends;
          fails = false;
          failed = q.failed ∙ p.failed;
          reset = resets ∙ sym (rw (some_bytes rest some) refl);
          cause = λ h. lacks_then id es fs ∙ or_second (lacks_memory id es) (lacks_memory id fs) (rw (i, lacks) refl);
          shut = or_on _ a.shut c.shut stops (q.shut ∙ ap (option_map (λ z. true)) p.shut);
        };
        to_wire = puts_then out new new es fs y.to_wire (append-nil new);
      };
      few = let f = p.counted in let k = q.counted in omega arith;
      directions = e ∙ sym (directions_then id es fs w ∙ ap (directions_after id fs) (directions_kept id es w y.finishes y.ends y.stops) ∙ directions_lacked id rest told last w lacks);
      gives = let within : n ≤ length buffer = p.within in let l : length (take n buffer) ≡ n = grind (arith, common_steps) in sym l ∙ ap length all;
      pull_on = only_stop a.marks.may_pull c.marks.may_pull (has_stop id (es ++ fs)) stops;
      push_on = only_stop a.marks.may_push c.marks.may_push (has_stop id (es ++ fs)) stops;
    }

-- what is due goes first
pub due_then : {id : ℕ} {s t u : Session} {out mid new : List ℕ} {a b : Seen} {w x : Directions} {m g : ℕ} → PutsDue s t out mid → Part id t u mid new a b w x m g → Part id s u out new a b w x m g
due_then {id} {s} {t} {u} {out} {mid} {new} {a} {b} {w} {x} {m} {g} due p =
    let q = part_then (part_due due) p in
    record { moved = q.moved; few = let f = q.few in omega arith; directions = q.directions; gives = let f = q.gives in omega arith; pull_on = q.pull_on; push_on = q.push_on }

-- ---- what a device hears

-- one that was shut
pub broken_from : (w x : Directions) → x ≡ broken_off w → is_open x.from_peer ≡ false
broken_from w x e = ap (λ (v : Directions). is_open v.from_peer) e ∙ by w.from_peer
  where
    by : (f : Flow) → is_open (break_if true f) ≡ false
    by flow.Open = refl
    by flow.Ended = refl
    by flow.Broken = refl

pub broken_to : (w x : Directions) → x ≡ broken_off w → is_open x.to_peer ≡ false
broken_to w x e = ap (λ (v : Directions). is_open v.to_peer) e ∙ by w.to_peer
  where
    by : (f : Flow) → is_open (break_if true f) ≡ false
    by flow.Open = refl
    by flow.Ended = refl
    by flow.Broken = refl

-- the direction to it stays shut
pub stays_shut : {id : ℕ} {s t : Session} {out new : List ℕ} {a b : Seen} {w x : Directions} {m g : ℕ} → Part id s t out new a b w x m g → is_open w.from_peer ≡ false → is_open x.from_peer ≡ false
stays_shut {id} {s} {t} {out} {new} {a} {b} {w} {x} {m} {g} p off =
    off_by (is_open w.from_peer) (is_open x.from_peer) (λ on. from_peer_was id p.moved.events w (ap (λ (v : Directions). is_open v.from_peer) (sym p.directions) ∙ on)) off

-- a direction to the peer that is open was
pub was_open_to : {id : ℕ} {s t : Session} {out new : List ℕ} {a b : Seen} {w x : Directions} {m g : ℕ} → Part id s t out new a b w x m g → is_open x.to_peer ≡ true → is_open w.to_peer ≡ true
was_open_to {id} {s} {t} {out} {new} {a} {b} {w} {x} {m} {g} p on = to_peer_was id p.moved.events w (ap (λ (v : Directions). is_open v.to_peer) (sym p.directions) ∙ on)

-- what is said of a device that was idle
pub tells_from : {s t : Session} {a b : Seen} {w x : Directions} (id : ℕ) (y : Directions) → t ≡ s → x ≡ w → b ≡ a → (may_push x b.marks ≡ false → is_open y.to_peer ≡ true → is_stop (write_to id [] t).reply ≡ false) →
    may_push w a.marks ≡ false → is_open y.to_peer ≡ true → is_stop (write_to id [] s).reply ≡ false
tells_from {s} {t} {a} {b} {w} {x} id y same e f h off on =
    ap (λ (v : Session). is_stop (write_to id [] v).reply) (sym same)
    ∙ h (ap (λ (v : Directions). may_push v b.marks) e ∙ ap (λ (v : Seen). may_push w v.marks) f ∙ off) on

-- ---- a turn

-- What the writes and the reads of a turn tell of the stream's end: one that may take bytes still heard it, unless more may be
-- written; and no read of the device ends it.
pub record TellsEnd (id : ℕ) (s t u : Session) (b : Seen) (x z : Directions) (pushes : Bool) : Type 0 where
  pub heard : may_push x b.marks ≡ true → is_silent id s ≡ true → pushes ≡ true
  pub ends : is_open z.from_peer ≡ true → is_silent id u ≡ true → is_silent id t ≡ true

-- What they tell where the stream takes no bytes any more: after the writes it takes some where the device may take some; else
-- this was asked; and no read of the device stops it.
pub record TellsStop (id : ℕ) (s t u : Session) (b : Seen) (x y z : Directions) : Type 0 where
  pub takes : may_push x b.marks ≡ true → is_running s.status ≡ true → is_stopped id s ≡ false
  pub told : may_push x b.marks ≡ false → is_open y.to_peer ≡ true → is_stopped id s ≡ false
  pub stops : is_open z.to_peer ≡ true → is_stopped id u ≡ true → is_stopped id t ≡ true

-- the session runs on
part_status : {id : ℕ} {s t : Session} {out new : List ℕ} {a b : Seen} {w x : Directions} {m g : ℕ} → Part id s t out new a b w x m g → t.status ≡ s.status
part_status {id} {s} {t} {out} {new} {a} {b} {w} {x} {m} {g} p = steady_all (is_of_turn id) (turn_steady id) p.moved.events s t p.moved.happen p.moved.own

-- Writes, then the question whether the stream takes bytes still, then reads. `more` is on where one of these says so, and where
-- a session that is over was not told.
pub turn_of : {id g most : ℕ} {r s t u : Session} {out mid new : List ℕ} {a b c d : Seen} {w x y z : Directions} → (pushes pulls more : Bool) → (p : Delivers id r s out mid a b w x 3) → (q : Part id s t [] [] b c x y 1 0) → t ≡ s → (v : Part id t u mid new c d y z 4 g) →
    (may_push x b.marks ≡ true → 0 < length (waiting id s) → pushes ≡ true) →
    (0 < most → may_pull y c.marks ≡ true → (0 < g) ⊎ ((may_pull z d.marks ≡ false) ⊎ (room_of id u ≡ 0))) →
    (0 < most → may_pull z d.marks ≡ true → 0 < room_of id u → pulls ≡ true) →
    (pushes ≡ true → may_push z d.marks ≡ true → more ≡ true) → (pulls ≡ true → more ≡ true) → (is_running u.status ≡ false → is_open z.to_peer ≡ true → more ≡ true) →
    (g ≤ most) → (0 < most → GivesWhole g (min most one_read) (room_of id u) z d.marks) → TellsEnd id s t u b x z pushes → TellsStop id s t u b x y z →
    (pushes ≡ true → (may_push w a.marks ≡ true) × (0 < length (waiting id r)) × (may_push x b.marks ≡ true)) →
    (more ≡ true → ((pushes ≡ true) × (may_push z d.marks ≡ true)) ⊎ (((may_pull z d.marks ≡ true) × (0 < g)) ⊎ ((is_running u.status ≡ false) × (is_open z.to_peer ≡ true)))) →
    Turn id most r u out new a d w z more g
unfolding part_beside
turn_of {id} {g} {most} {r} {s} {t} {u} {out} {mid} {new} {a} {b} {c} {d} {w} {x} {y} {z} pushes pulls more p q same v stays collects asks_on by-pushes by-pulls hears shared fills tells stops went rests =
    let beside = part_beside mid q in
    let first = part_then p.part beside in
    let all = part_then first v in
    let silent : may_push z d.marks ≡ true → is_silent id u ≡ true → pushes ≡ true = λ may h.
    let on = tells.ends (both d.marks.may_push (is_open z.from_peer) may).1 h in
    tells.heard (could_push q (could_push v may)) (ap (is_silent id) (sym same) ∙ on) in
    record {
      moved = all.moved;
      few = all.few;
      directions = all.directions;
      gives = let e = all.gives in omega arith;
      within = shared;
      delivers = λ may. elim (p.delivers may) [
        | inl all ↦ inl (went_first (length (waiting id r)) first v (went_first (length (waiting id r)) p.part beside all))
        | inr off ↦ inr (push_off v (push_off q off))
      ];
      fills = fills;
      collects = λ on may. by (may_pull y c.marks) refl (collects on);
      pull_on = all.pull_on;
      push_on = all.push_on;
      stays = λ within may some.
          let before = part_calm p.part within in
          let between = part_calm q before.within in
          let after = part_calm v between.within in
          by-pushes (stays (could_push q (could_push v may)) (subst (λ (e : Session). 0 < length (waiting id e)) same ((after.came id).bytes some))) may;
      asks_on = λ on may some. by-pulls (asks_on on may some);
      hears = hears;
      ends_on = λ may h. by-pushes (silent may h) may;
      stops_on = λ open_ h. by-status (is_running u.status) refl open_ h;
      rests = λ h. elim (rests h) [
        | inl x ↦ let k = went x.0 in inl (
          x.1,
          elim (p.delivers k.0) [
            | inl all ↦ some_bytes (given id (part_then first v).moved.events) (let long = went_first (length (waiting id r)) first v (went_first (length (waiting id r)) p.part beside all) in omega (arith, long, k.1))
            | inr off ↦ absurd (let may = k.2 in cc)
          ],
        )
        | inr x ↦ inr x
      ];
    }
  where
    by : (m : Bool) → may_pull y c.marks ≡ m → (may_pull y c.marks ≡ true → (0 < g) ⊎ ((may_pull z d.marks ≡ false) ⊎ (room_of id u ≡ 0))) → (0 < g) ⊎ ((may_pull z d.marks ≡ false) ⊎ (room_of id u ≡ 0))
    by true e f = f e
    by false e f = inr (inl (pull_off v e))

    -- the stream takes no bytes after the writes
    stopped_by : (may : Bool) → may_push x b.marks ≡ may → is_running s.status ≡ true → is_open z.to_peer ≡ true → is_stopped id t ≡ true → ⊥
    stopped_by true on runs open_ h = never (is_stopped id s) (ap (is_stopped id) (sym same) ∙ h) (stops.takes on runs)
    stopped_by false off runs open_ h = never (is_stopped id t) h (ap (is_stopped id) same ∙ stops.told off (was_open_to v open_))

    by-status : (runs : Bool) → is_running u.status ≡ runs → is_open z.to_peer ≡ true → is_stopped id u ≡ true → more ≡ true
    by-status false over open_ h = hears over open_
    by-status true runs open_ h =
        let was : is_running t.status ≡ true = sym (ap is_running (part_status v)) ∙ runs in
        let before : is_running s.status ≡ true = ap (λ (e : Session). is_running e.status) (sym same) ∙ was in
        absurd (stopped_by (may_push x b.marks) refl before open_ (stops.stops open_ h))
