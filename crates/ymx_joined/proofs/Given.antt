-- A stream that was given to the caller isn't given again.
use Rattle.std.proofs.Common.{◌≡◌, inl, inr, ℕ, zero, suc, List, [], ◌∷◌, ◌++◌, Bool, true, false, not, ◌&&◌, Option, None, Some, refl, sym, ap, subst, ◌∙◌, arith}
use Rattle.std.specs.Prelude.{slice_get}
use Rattle.ymx_machine.specs.declared.types.Answer.{Answer}
use Rattle.ymx_machine.specs.declared.types.Call.TheVariants as call
use Rattle.ymx_machine.specs.declared.types.CallFault.{CallFault}
use Rattle.ymx_machine.specs.declared.types.Reply.TheVariants as reply
use Rattle.ymx_machine.specs.shared.Events.{Call, Reply}
use Rattle.ymx_machine.specs.shared.Lists.{look}
use Rattle.ymx_machine.specs.shared.Phases.{Phase, is_early, struck}
use Rattle.ymx_machine.specs.shared.Replies.{is_done}
use Rattle.ymx_machine.specs.shared.Steps.{answer_of}
use Rattle.ymx_machine.specs.stream.Streams.{Stream, Move, Allowed, after_move, opened_stream, stream_write, stream_accept}
use Rattle.ymx_machine.specs.stream.Streams.Move.{Arrive, EndArrives, Return, SynOffered, SynRefused, AckArrives, ResetArrives, Released}
use Rattle.ymx_machine.specs.stream.StreamRules.{StreamCall, StreamRule, forgets_quietly}
use Rattle.ymx_machine.specs.stream.StreamRules.StreamCall.{Writes, Reads, Finishes, Resets, Forgets}
use Rattle.ymx_machine.specs.machine.Machines.{Machine}
use Rattle.ymx_machine.specs.machine.CallRules.{open_refusal, machine_opened, OpenRule, AcceptRule, OpenSideRule, is_close, Rule}
use Rattle.ymx_machine.proofs.Tests.{when, agrees, one_some}
use Rattle.ymx_model.specs.session.Events.{Event}
use Rattle.ymx_model.specs.declared.types.Event.TheVariants as event
use Rattle.ymx_model.specs.declared.types.Entry.{Entry}
use Rattle.ymx_headline.proofs.machine.RunStates.{accepted}
use Rattle.ymx_headline.proofs.machine.lanes.StreamFacts.{if-so_true, if-so_false}
use Rattle.ymx_headline.proofs.machine.order.Maps.{look-change, look-add}
use Rattle.ymx_headline.proofs.machine.order.Cores.{core, finish-me, rule-you, move-you, Sound, offered-front, offered-stream}
use Rattle.ymx_headline.proofs.machine.order.Openers.{Numbered, free}
use Rattle.ymx_engine.specs.Events.{is_refusal}
use Rattle.ymx_joined.specs.Callers.{opens_or_accepts, AreHandedOutOnce}
use Rattle.ymx_joined.proofs.Traces.{call_of, calls_in, gives_stream_by, gives_stream_is}
use Rattle.ymx_joined.proofs.Lasting.{BothKeep, HasAt, step_keeps, releases_keep}
use Rattle.ymx_joined.proofs.Behind.{Law, AllQuiet, Played, marked, behind}

-- ---- a stream that was given

-- its end at this side was opened or accepted
abbrev pub IsGiven : Stream → Type 0
IsGiven s = is_early s.me ≡ false

-- its end at the other side was
abbrev pub IsGivenThere : Stream → Type 0
IsGivenThere s = is_early s.you ≡ false

-- a call keeps it
rule_given : (lost : Bool) (c : StreamCall) (s t : Stream) (r : Reply) → StreamRule lost c s r t → IsGiven s → IsGiven t
rule_given lost (Writes bytes) s t r (inl h) g = subst IsGiven (sym h.1) g
rule_given lost (Writes bytes) s t r (inr h) g = subst IsGiven (sym h.2) g
rule_given lost (Reads max) s t r h g = subst IsGiven (sym h.1) g
rule_given lost Finishes s t r h g = ap (λ (x : Stream). is_early x.me) h.1 ∙ ap is_early (finish-me (is_done r) s) ∙ g
rule_given lost Resets s t r h g = elim (when (is_done r)) [
  | inl d ↦ subst IsGiven (sym (if-so_true _ _ _ d h.1).4) refl
  | inr d ↦ subst IsGiven (sym (if-so_false _ _ _ d h.1)) g
]
rule_given lost Forgets s t r h g = elim (when (is_done r)) [
  | inl d ↦ (let k = if-so_true _ _ _ d h.1 in elim (when (forgets_quietly lost s)) [
    | inl q ↦ subst IsGiven (sym (if-so_true _ _ _ q k)) refl
    | inr q ↦ subst IsGiven (sym (if-so_false _ _ _ q k).4) refl
  ])
  | inr d ↦ subst IsGiven (sym (if-so_false _ _ _ d h.1)) g
]

struck_given : (p : Phase) → is_early p ≡ false → is_early (struck p) ≡ false
struck_given p g = grind arith

-- and what arrives does
pub move_given : (v : Move) (s : Stream) → Allowed v s → IsGiven s → IsGiven (after_move v s)
move_given (Arrive n) s a g = g
move_given EndArrives s a g = g
move_given (Return n) s a g = g
move_given SynOffered s a g = let no : true ≡ false = sym (ap is_early a) ∙ g in absurd cc
move_given SynRefused s a g = let no : true ≡ false = sym (ap is_early a) ∙ g in absurd cc
move_given AckArrives s a g = g
move_given ResetArrives s a g = struck_given s.me g
move_given Released s a g = refl

-- both sides keep it
given_kept : BothKeep IsGiven IsGivenThere
given_kept = record {
  here = record { rule = rule_given; move = move_given; accept = λ lost s o g. refl };
  there = record {
    rule = λ lost c s t r h g. ap is_early (rule-you lost c s t r h) ∙ g;
    move = λ v s a g. ap is_early (move-you v s) ∙ g;
    accept = λ lost s o g. g;
  };
  over = λ s g. g;
  back = λ s g. g;
  over_too = λ s g. g;
  back_too = λ s g. g;
}

-- ---- a call that isn't refused

-- it goes by the rule of an open side
pub open_side : (c : Call) (m : Machine) (r : Reply) (n : Machine) → Rule c m r n → is_refusal r ≡ false → OpenSideRule c m r n
open_side c m r n h e = elim (when (m.me.closed && not (is_close c))) [
  | inl b ↦ (let no : true ≡ false = sym (ap is_refusal (if-so_true _ _ _ b h).0) ∙ e in absurd cc)
  | inr b ↦ if-so_false _ _ _ b h
]

opened : (o : Option CallFault) (told : Reply) (bytes : List ℕ) (m : Machine) (r : Reply) (n : Machine) → OpenRule o told bytes m r n → is_refusal r ≡ false → (r ≡ told) × (n ≡ machine_opened bytes m)
opened (Some fault) told bytes m r n h e = let no : true ≡ false = sym (ap is_refusal h.0) ∙ e in absurd cc
opened None told bytes m r n (inl h) e = h
opened None told bytes m r n (inr h) e = let no : true ≡ false = sym (ap is_refusal h.0) ∙ e in absurd cc

was_accepted : (ids : List ℕ) (m : Machine) (new : ℕ) (n : Machine) → AcceptRule ids m (reply.Accepted (Some new)) n → (rest : List ℕ) × (ids ≡ new ∷ rest) × (n ≡ accepted new rest m)
was_accepted [] m new n h = elim (when m.me.lost) [
  | inl b ↦ (let no = (if-so_true _ _ _ b h).0 in let not : ⊥ = cc in absurd not)
  | inr b ↦ (let no = (if-so_false _ _ _ b h).0 in let not : ⊥ = cc in absurd not)
]
was_accepted (id ∷ ids) m new n h =
    let front = h.0 in
    let same : id ≡ new = cc in
    (ids, ap (λ (v : ℕ). v ∷ ids) same, subst (λ (v : ℕ). n ≡ accepted v ids m) same h.1)

-- What a call that gives a stream does: the next number is opened, or the first one offered is accepted.
pub data Gives (id : ℕ) (m n : Machine) : Type 0 where
  Opens : (bytes : List ℕ) → m.me.next ≡ id → n ≡ machine_opened bytes m → Gives id m n
  Accepts : (rest : List ℕ) → m.me.offered ≡ id ∷ rest → n ≡ accepted id rest m → Gives id m n

-- it does one of these
pub gives : (id : ℕ) (c : Call) (m : Machine) (r : Reply) (n : Machine) → Rule c m r n → gives_stream_by id c (answer_of r) ≡ true → Gives id m n
gives id call.Open m (reply.Opened new) n h e =
    let o = opened (open_refusal m) (reply.Opened m.me.next) [] m (reply.Opened new) n (open_side call.Open m (reply.Opened new) n h refl) refl in
    let same = o.0 in
    let next : new ≡ m.me.next = cc in
    Opens [] (sym next ∙ agrees new id e) o.1
gives id (call.OpenWith bytes) m (reply.OpenedWith new k) n h e =
    let o = opened (open_refusal m) _ _ m (reply.OpenedWith new k) n (open_side (call.OpenWith bytes) m (reply.OpenedWith new k) n h refl) refl in
    let same = o.0 in
    let next : new ≡ m.me.next = cc in
    Opens _ (sym next ∙ agrees new id e) o.1
gives id call.Accept m (reply.Accepted (Some new)) n h e =
    let o = was_accepted m.me.offered m new n (open_side call.Accept m (reply.Accepted (Some new)) n h refl) in
    let same = agrees new id e in
    Accepts o.0 (subst (λ (v : ℕ). m.me.offered ≡ v ∷ o.0) same o.1) (subst (λ (v : ℕ). n ≡ accepted v o.0 m) same o.2)
gives id c m r n h e = let no : ⊥ = cc in absurd no

-- it has the stream then
now_given : (mine yours id : ℕ) (m n : Machine) → Sound mine yours (core m) → Numbered (core m) → Gives id m n → HasAt IsGiven id n.streams
now_given mine yours id m n so nu (Opens bytes next e) =
    subst (λ (v : ℕ). HasAt IsGiven v n.streams) next
    (stream_write bytes (opened_stream m.me.window m.you.window), ap (λ (v : Machine). look m.me.next v.streams) e ∙ look-add m.me.next _ m.streams (free (core m) nu), refl)
now_given mine yours id m n so nu (Accepts rest front e) =
    let s = offered-stream (look id m.streams) (offered-front mine yours (core m) id rest front so) in
    (stream_accept m.me.lost s.0, ap (λ (v : Machine). look id v.streams) e ∙ look-change id (stream_accept m.me.lost) m.streams s.0 s.1, refl)

-- and had not before
pub not_given : (mine yours id : ℕ) (m n : Machine) → Sound mine yours (core m) → Numbered (core m) → Gives id m n → HasAt IsGiven id m.streams → ⊥
not_given mine yours id m n so nu (Opens bytes next e) (s, there, g) =
    let none : look id m.streams ≡ None = ap (λ (v : ℕ). look v m.streams) (sym next) ∙ free (core m) nu in cc
not_given mine yours id m n so nu (Accepts rest front e) (s, there, g) =
    let o = offered-stream (look id m.streams) (offered-front mine yours (core m) id rest front so) in
    let same : s ≡ o.0 = one_some s o.0 (sym there ∙ o.1) in
    let no : true ≡ false = sym (ap is_early (ap (λ (v : Stream). v.me) same ∙ o.2)) ∙ g in cc

-- A call that gives a stream is the last one that does.
given_law : (mine yours id : ℕ) → Law mine yours id (gives_stream_by id) (λ m. HasAt IsGiven id m.streams) (λ c g. gives_stream_by id c g ≡ false)
given_law mine yours id = record {
  marks = λ c g m n s h e. releases_keep IsGiven given_kept.here id h.2 h.1 n h.5
      (now_given mine yours id m h.1 s.2.sound s.2.numbered (gives id c m h.0 h.1 h.4 (ap (gives_stream_by id c) (sym h.3) ∙ e)));
  keeps = λ st g m n s h l. step_keeps IsGiven IsGivenThere given_kept mine yours id st g m n s.2.sound h l;
  quiet = λ c g m n s h l. elim (when (gives_stream_by id c g)) [
    | inl e ↦ absurd (not_given mine yours id m h.1 s.2.sound s.2.numbered (gives id c m h.0 h.1 h.4 (ap (gives_stream_by id c) (sym h.3) ∙ e)) l)
    | inr e ↦ e
  ];
}

-- ---- in a history

gives_stream_marked : (id : ℕ) (e : Event) (told : Reply) → opens_or_accepts id e told ≡ marked (gives_stream_by id) e told
gives_stream_marked id (event.Call c) told = gives_stream_is id c told
gives_stream_marked id e told = refl

not_in_event : (id : ℕ) (e : Event) (told : Reply) (cs : List (Call × Answer)) → AllQuiet (λ c g. gives_stream_by id c g ≡ false) (call_of e told ++ cs) → opens_or_accepts id e told ≡ true → ⊥
not_in_event id (event.Call c) told cs q k = let no : true ≡ false = sym k ∙ gives_stream_is id c told ∙ q.0 in cc
not_in_event id (event.Emit n) told cs q k = cc
not_in_event id (event.Feed bytes) told cs q k = cc
not_in_event id event.FeedEnd told cs q k = cc

quiet_behind : (id : ℕ) (e : Event) (told : Reply) (cs : List (Call × Answer)) → AllQuiet (λ c g. gives_stream_by id c g ≡ false) (call_of e told ++ cs) → AllQuiet (λ c g. gives_stream_by id c g ≡ false) cs
quiet_behind id (event.Call c) told cs q = q.1
quiet_behind id (event.Emit n) told cs q = q
quiet_behind id (event.Feed bytes) told cs q = q
quiet_behind id event.FeedEnd told cs q = q

none_at : (id : ℕ) (xs : List Entry) (p : ℕ) (x : Entry) → AllQuiet (λ c g. gives_stream_by id c g ≡ false) (calls_in xs) → slice_get xs p ≡ Some x → opens_or_accepts id x.event x.reply ≡ true → ⊥
none_at id [] p x q e k = cc
none_at id (y ∷ ys) zero x q e k =
    not_in_event id y.event y.reply (calls_in ys) q (subst (λ (v : Entry). opens_or_accepts id v.event v.reply ≡ true) (sym (one_some y x e)) k)
none_at id (y ∷ ys) (suc p) x q e k = none_at id ys p x (quiet_behind id y.event y.reply (calls_in ys) q) e k

-- the part of a history that begins with an entry of this place
places_are_one : (id : ℕ) (xs : List Entry) →
    ((before after : List Entry) (x : Entry) → xs ≡ before ++ x ∷ after → opens_or_accepts id x.event x.reply ≡ true → AllQuiet (λ c g. gives_stream_by id c g ≡ false) (calls_in after)) →
    (p q : ℕ) (x y : Entry) → slice_get xs p ≡ Some x → opens_or_accepts id x.event x.reply ≡ true → slice_get xs q ≡ Some y → opens_or_accepts id y.event y.reply ≡ true → p ≡ q
places_are_one id [] once p q x y e k f l = let no : ⊥ = cc in absurd no
places_are_one id (z ∷ zs) once zero zero x y e k f l = refl
places_are_one id (z ∷ zs) once zero (suc q) x y e k f l =
    absurd (none_at id zs q y (once [] zs z refl (subst (λ (v : Entry). opens_or_accepts id v.event v.reply ≡ true) (sym (one_some z x e)) k)) f l)
places_are_one id (z ∷ zs) once (suc p) zero x y e k f l =
    absurd (none_at id zs p x (once [] zs z refl (subst (λ (v : Entry). opens_or_accepts id v.event v.reply ≡ true) (sym (one_some z y f)) l)) e k)
places_are_one id (z ∷ zs) once (suc p) (suc q) x y e k f l =
    ap suc (places_are_one id zs (λ before after w is o. once (z ∷ before) after w (ap (λ (v : List Entry). z ∷ v) is) o) p q x y e k f l)

-- In a history that was played no stream is given at two places.
pub once_given : (mine yours : ℕ) (xs : List Entry) → Played mine yours xs → AreHandedOutOnce xs
once_given mine yours xs p id i j x y e k f l =
    places_are_one id xs (λ before after z is o. behind (given_law mine yours id) xs p before after z is (sym (gives_stream_marked id z.event z.reply) ∙ o)) i j x y e k f l
