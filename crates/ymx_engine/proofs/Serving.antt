-- How bytes of a device go into frames for the wire.
use Rattle.std.proofs.Common.{◌≡◌, ℕ, ◌+◌, List, [], ◌∷◌, ◌++◌, length, take, drop, Bool, true, false, ◌||◌, refl, sym, ap, ◌∙◌, subst, arith, append-nil, append_assoc, take_all, take-append-drop}
use Rattle.std.specs.List.{list_all}
use Rattle.std.proofs.lemmas.List.{drop-take}
use Rattle.std.proofs.lemmas.List.Folds.{list_all-append}
use Rattle.ymx_model.specs.session.Events.{Event}
use Rattle.ymx_model.specs.declared.types.Event.TheVariants as event
use Rattle.ymx_machine.specs.declared.types.Call.TheVariants as call
use Rattle.ymx_machine.specs.declared.types.Wrote.TheVariants.{Took}
use Rattle.ymx_machine.specs.shared.Events.{Reply}
use Rattle.ymx_machine.specs.declared.types.Reply.TheVariants as reply
use Rattle.ymx_model.specs.session.Sessions.{Session}
use Rattle.ymx_model.specs.session.Emissions.{in_turn}
use Rattle.ymx_model.specs.session.Histories.{Gives}
use Rattle.ymx_session.specs.Through.{WritesThrough}
use Rattle.ymx_engine.specs.Events.{Happen, took_count, taken, bytes_of, given, is_read_end, has_end, has_finish, has_reset, is_refusal, has_stop}
use Rattle.ymx_engine.specs.Serves.{is_of_turn, is_emission, TakesAndGives, PutsDue}
use Rattle.ymx_engine.specs.Engines.{Engine}
use Rattle.ymx_engine.specs.Wires.{emitted, is_of_flush, ends_feed, has_feed_end, HandlesOut}
use Rattle.ymx_engine.proofs.Quiet.{both, quiet}
use Rattle.ymx_engine.proofs.Carrying.{emitted_then}
use Rattle.ymx_engine.proofs.Exchanging.{happen_then, taken_then, given_then, end_then, finish_then, reset_then, stop_then, granted_goes, same_id, take_both}

-- ---- what is emitted waits

-- more is emitted after what waits
pub puts_then : (out mid new : List ℕ) (es fs : List (Event × Reply)) → out ++ emitted es ≡ mid → mid ++ emitted fs ≡ new → out ++ emitted (es ++ fs) ≡ new
puts_then out mid new es fs x y =
    ap (λ (v : List ℕ). out ++ v) (emitted_then es fs) ∙ sym (append_assoc out (emitted es) (emitted fs)) ∙ ap (λ (v : List ℕ). v ++ emitted fs) x ∙ y

pub puts_none : (s : Session) (out new : List ℕ) → new ≡ out → PutsDue s s out new
puts_none s out new same = record { events = []; happen = refl; own = refl; to_wire = append-nil out ∙ sym same }

pub puts_one : (s t : Session) (room : ℕ) (out sent new mid : List ℕ) → Gives in_turn s (event.Emit room) (reply.Emitted sent) t → mid ≡ out → new ≡ mid ++ sent → PutsDue s t out new
puts_one s t room out sent new mid g same e = record {
  events = (event.Emit room, reply.Emitted sent) ∷ [];
  happen = (t, g, refl);
  own = refl;
  to_wire = ap (λ (v : List ℕ). out ++ v) (append-nil sent) ∙ ap (λ (v : List ℕ). v ++ sent) (sym same) ∙ sym e;
}

emission_of_flush : (e : Event) → is_emission e ≡ true → is_of_flush e ≡ true
emission_of_flush (event.Call c) h = let no : ⊥ = cc in absurd no
emission_of_flush (event.Feed bytes) h = let no : ⊥ = cc in absurd no
emission_of_flush event.FeedEnd h = let no : ⊥ = cc in absurd no
emission_of_flush (event.Emit room) h = refl

emission_of_turn : (id : ℕ) (e : Event) → is_emission e ≡ true → is_of_turn id e ≡ true
emission_of_turn id (event.Call c) h = let no : ⊥ = cc in absurd no
emission_of_turn id (event.Feed bytes) h = let no : ⊥ = cc in absurd no
emission_of_turn id event.FeedEnd h = let no : ⊥ = cc in absurd no
emission_of_turn id (event.Emit room) h = refl

pub all_emissions : (id : ℕ) (es : List (Event × Reply)) → list_all (λ e. is_emission e.0) es ≡ true → list_all (λ e. is_of_turn id e.0) es ≡ true
all_emissions id [] h = refl
all_emissions id (e ∷ es) h =
    let two = both (is_emission e.0) (list_all (λ e. is_emission e.0) es) h in
    rw (emission_of_turn id e.0 two.0) (all_emissions id es two.1)

emission_hears : (e : Event) → is_emission e ≡ true → ends_feed e ≡ false
emission_hears (event.Call c) h = refl
emission_hears (event.Feed bytes) h = refl
emission_hears event.FeedEnd h = let no : ⊥ = cc in absurd no
emission_hears (event.Emit room) h = refl

all_of_flush : (es : List (Event × Reply)) → list_all (λ e. is_emission e.0) es ≡ true → (list_all (λ e. is_of_flush e.0) es ≡ true) × (has_feed_end es ≡ false)
all_of_flush [] h = (refl, refl)
all_of_flush (e ∷ es) h =
    let two = both (is_emission e.0) (list_all (λ e. is_emission e.0) es) h in
    let more = all_of_flush es two.1 in
    (rw (emission_of_flush e.0 two.0) more.0, rw (emission_hears e.0 two.0) more.1)

pub handles_due : (a b : Engine) (s : Session) (out : List ℕ) → s ≡ a.session → out ≡ a.outgoing → b.incoming ≡ a.incoming → PutsDue s b.session out b.outgoing → HandlesOut false a b
handles_due a b s out same waits incoming x =
    let all = all_of_flush x.events x.own in
    record {
      events = x.events;
      happen = subst (λ (v : Session). Happen x.events v b.session) same x.happen;
      own = all.0;
      to_wire = ap (λ (v : List ℕ). v ++ emitted x.events) (sym waits) ∙ x.to_wire;
      incoming = incoming;
      heard = all.1;
    }

-- ---- bytes that are sent

pub exchanged_none : (id : ℕ) (s : Session) (out : List ℕ) → TakesAndGives id [] [] s s out out
exchanged_none id s out = record {
  events = [];
  happen = refl;
  own = refl;
  takes = refl;
  gives = refl;
  ends = refl;
  finishes = refl;
  resets = refl;
  stops = refl;
  to_wire = append-nil out;
}

pub exchanged_then : (id : ℕ) (xs ys gs hs : List ℕ) (s t u : Session) (out mid new : List ℕ) → TakesAndGives id xs gs s t out mid → TakesAndGives id ys hs t u mid new → TakesAndGives id (xs ++ ys) (gs ++ hs) s u out new
exchanged_then id xs ys gs hs s t u out mid new x y =
    let es = x.events in
    let fs = y.events in
    record {
      events = es ++ fs;
      happen = happen_then es fs s t u x.happen y.happen;
      own = rw (list_all-append (λ (e : Event × Reply). is_of_turn id e.0) es fs, x.own, y.own) refl;
      takes = taken_then id es fs ∙ ap (λ (v : List ℕ). v ++ taken id fs) x.takes ∙ ap (λ (v : List ℕ). xs ++ v) y.takes;
      gives = given_then id es fs ∙ ap (λ (v : List ℕ). v ++ given id fs) x.gives ∙ ap (λ (v : List ℕ). gs ++ v) y.gives;
      ends = end_then id es fs ∙ ap (λ (v : Bool). v || has_end id fs) x.ends ∙ y.ends;
      finishes = finish_then id es fs ∙ ap (λ (v : Bool). v || has_finish id fs) x.finishes ∙ y.finishes;
      resets = reset_then id es fs ∙ ap (λ (v : Bool). v || has_reset id fs) x.resets ∙ y.resets;
      stops = stop_then id es fs ∙ ap (λ (v : Bool). v || has_stop id fs) x.stops ∙ y.stops;
      to_wire = puts_then out mid new es fs x.to_wire y.to_wire;
    }

-- one frame
pub sends_one : (id size : ℕ) (bytes filled : List ℕ) (s t : Session) (out new : List ℕ) → WritesThrough id bytes size filled s t → new ≡ out ++ filled → TakesAndGives id bytes [] s t out new
sends_one id size bytes filled s t out new w e =
    let i = same_id id in
    let all : take (length bytes) bytes ≡ bytes = take_all (length bytes) bytes (omega arith) in
    record {
      events = (event.Call (call.Write id bytes), reply.Wrote (Took (length bytes))) ∷ (event.Emit size, reply.Emitted filled) ∷ [];
      happen = (w.mid, w.wrote, (t, w.emitted, refl));
      own = rw i refl;
      takes = rw i (append-nil (take (length bytes) bytes) ∙ all);
      gives = refl;
      ends = refl;
      finishes = refl;
      resets = refl;
      stops = rw i refl;
      to_wire = ap (λ (v : List ℕ). out ++ v) (append-nil filled) ∙ sym e;
    }

-- the rest goes into the ring
pub sends_rest : (id count : ℕ) (told : Reply) (bytes rest : List ℕ) (s m t : Session) (out new : List ℕ) → rest ≡ drop count bytes → TakesAndGives id (take count bytes) [] s m out new →
    Gives in_turn m (event.Call (call.Write id rest)) told t → take (took_count told) rest ≡ rest → is_refusal told ≡ false → TakesAndGives id bytes [] s t out new
sends_rest id count told bytes rest s m t out new same x g all granted =
    let i = same_id id in
    let y : TakesAndGives id rest [] m t new new = record {
      events = (event.Call (call.Write id rest), told) ∷ [];
      happen = (t, g, refl);
      own = rw i refl;
      takes = rw i (append-nil (take (took_count told) rest) ∙ all);
      gives = refl;
      ends = refl;
      finishes = refl;
      resets = refl;
      stops = rw (i, granted_goes told granted) refl;
      to_wire = append-nil new;
    } in
    let whole : take count bytes ++ rest ≡ bytes = ap (λ (v : List ℕ). take count bytes ++ v) same ∙ take-append-drop count bytes in
    subst (λ (v : List ℕ). TakesAndGives id v [] s t out new) whole (exchanged_then id (take count bytes) rest [] [] s m t out new new x y)

-- ---- bytes that are taken out

-- bytes that wait are read
pub reads_one : (id n : ℕ) (told : Reply) (bytes : List ℕ) (s t : Session) (out : List ℕ) → Gives in_turn s (event.Call (call.Read id n)) told t → bytes_of told ≡ bytes → is_read_end told ≡ false → is_refusal told ≡ false → TakesAndGives id [] bytes s t out out
reads_one id n told bytes s t out g gave going granted =
    let i = same_id id in
    record {
      events = (event.Call (call.Read id n), told) ∷ [];
      happen = (t, g, refl);
      own = rw i refl;
      takes = refl;
      gives = rw i (append-nil (bytes_of told) ∙ gave);
      ends = rw (i, going) refl;
      finishes = refl;
      resets = refl;
      stops = rw (i, granted) refl;
      to_wire = append-nil out;
    }

-- and what is due may go before the rest is
pub reads_two : (id m n : ℕ) (told last : Reply) (ring : List ℕ) (s t u v : Session) (out new : List ℕ) → Gives in_turn s (event.Call (call.Read id m)) told t → bytes_of told ≡ take m ring → is_read_end told ≡ false → is_refusal told ≡ false →
    PutsDue t u out new → Gives in_turn u (event.Call (call.Read id n)) last v → bytes_of last ≡ take n (drop m ring) → is_read_end last ≡ false → is_refusal last ≡ false → TakesAndGives id [] (take (m + n) ring) s v out new
reads_two id m n told last ring s t u v out new g gave going granted due h more on goes =
    let q = quiet is_emission (λ c. refl) id due.events due.own in
    let between : TakesAndGives id [] [] t u out new = record { events = due.events; happen = due.happen; own = all_emissions id due.events due.own; takes = q.0; gives = q.1; ends = q.2; finishes = q.3; resets = q.4; stops = q.5; to_wire = due.to_wire } in
    let split : take m ring ++ take n (drop m ring) ≡ take (m + n) ring =
    ap (λ (v : List ℕ). v ++ take n (drop m ring)) (sym (take_both m (m + n) ring (omega arith)))
    ∙ ap (λ (v : List ℕ). take m (take (m + n) ring) ++ v) (sym (drop-take m n ring)) ∙ take-append-drop m (take (m + n) ring) in
    subst (λ (w : List ℕ). TakesAndGives id [] w s v out new) split
    (exchanged_then id [] [] (take m ring) (take n (drop m ring)) s t v out out new (reads_one id m told (take m ring) s t out g gave going granted)
    (exchanged_then id [] [] [] (take n (drop m ring)) t u v out new new between (reads_one id n last (take n (drop m ring)) u v new h more on goes)))
