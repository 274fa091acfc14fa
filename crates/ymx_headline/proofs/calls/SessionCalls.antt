-- Go away and close are the machine's.
use Rattle.std.proofs.Common.{◌≡◌, ℕ, List, [], ◌++◌, Bool, true, false, not, ◌&&◌, ◌||◌, nat_lt, refl, sym, ap, subst, ◌∙◌, inl, inr}
use Rattle.ymx_model.specs.declared.types.Role.{Role}
use Rattle.ymx_model.specs.declared.types.Status.TheVariants.{Closed as ClosedStatus}
use Rattle.ymx_machine.specs.declared.types.Call.TheVariants as call
use Rattle.ymx_machine.specs.shared.Events.{Reply}
use Rattle.ymx_machine.specs.declared.types.Reply.TheVariants.{Done}
use Rattle.ymx_machine.specs.declared.types.CallFault.TheVariants.{Lost, Closed}
use Rattle.ymx_model.specs.declared.types.Event.TheVariants as event
use Rattle.ymx_model.specs.declared.types.GoAwayMark.{GoAwayMark}
use Rattle.ymx_model.specs.declared.types.GoAwayMark.TheVariants.{Unsaid as NotSaid, Due, Sent}
use Rattle.ymx_machine.specs.stream.Lanes.{Mark, is_said}
use Rattle.ymx_machine.specs.stream.Lanes.Mark.{Unsaid, Said, Here}
use Rattle.ymx_model.specs.session.Parts.{Part}
use Rattle.ymx_model.specs.session.GoAway.{away_due, mark_said, say_away as session_says}
use Rattle.ymx_model.specs.session.Sessions.{Session, is_running, is_lost, is_closed}
use Rattle.ymx_model.specs.session.Calls.{Outcome, outcome, refused, answers, close}
use Rattle.ymx_model.specs.session.Histories.{CallGives}
use Rattle.ymx_model.specs.session.Histories.CallGives.{Outcome as HasOutcome, NoMemory}
use Rattle.ymx_model.specs.world.Worlds.{World, Pipe}
use Rattle.ymx_machine.specs.machine.Machines.{Machine}
use Rattle.ymx_machine.specs.machine.CallRules.{Rule, OpenSideRule, said_once}
use Rattle.ymx_headline.specs.stream.Worlds.{StreamWorld as Streams, Streams as Found, Refines}
use Rattle.ymx_headline.proofs.stream.Happenings.{acts}
use Rattle.ymx_headline.proofs.stream.Happenings.Act.{Ends}
use Rattle.ymx_headline.proofs.stream.Worlds.{step}
use Rattle.ymx_law_session.specs.Limits.{IsWithin}
use Rattle.ymx_law_session.specs.Reaped.{IsReaped}
use Rattle.ymx_law_session.proofs.limits.HistoriesKeep.{gives-keep}
use Rattle.ymx_law_session.proofs.given_up.ReapedFrames.{gives-reaped}
use Rattle.ymx_machine.proofs.Tests.{both_of, when}
use Rattle.ymx_headline.specs.Agrees.{AgreesAs, IsNumbered, SameAway, Sender, Receiver, Text, AwayUnderWay, sending, hearing, arrives, found, count_in, is_go_away}
use Rattle.ymx_headline.proofs.relation.Mirrors.{refines-same, order-call, parity}
use Rattle.ymx_headline.proofs.relation.Sides.{beside-streams}
use Rattle.ymx_headline.proofs.relation.Texts.{same-text, text-changes}
use Rattle.ymx_headline.proofs.calls.PingCalls.{refused-is}
use Rattle.ymx_headline.proofs.calls.StreamCalls.{so-true, so-false, Called, called-alone, open-rule, closed-rule}

-- ---- go away

said-away : (here : GoAwayMark) (there : Bool) (mark : Mark) → SameAway here there mark → SameAway (mark_said here) there (said_once mark)
said-away NotSaid there Unsaid h = record { said = refl; arrived = h.arrived }
said-away NotSaid there Said h = absurd (let no : false ≡ true = h.said in cc)
said-away NotSaid there Here h = absurd (let no : false ≡ true = h.said in cc)
said-away Due there Unsaid h = absurd (let no : true ≡ false = h.said in cc)
said-away Due there Said h = record { said = refl; arrived = h.arrived }
said-away Due there Here h = record { said = refl; arrived = h.arrived }
said-away Sent there Unsaid h = absurd (let no : true ≡ false = h.said in cc)
said-away Sent there Said h = record { said = refl; arrived = h.arrived }
said-away Sent there Here h = record { said = refl; arrived = h.arrived }

-- once it is said nothing changes; else it is due now
said-way : (s : Sender) (there : Bool) (frames : List (List ℕ)) → SameAway s.here there s.mark → AwayUnderWay s frames → AwayUnderWay (record s { here = mark_said s.here; mark = said_once s.mark }) frames
said-way s there frames h u = of s.here s.mark h u.means u.said
  where
    of : (here : GoAwayMark) (mark : Mark) → SameAway here there mark → (nat_lt 0 (count_in is_go_away frames) ≡ true → (here ≡ Sent) × (mark ≡ Said)) →
        (is_running s.status ≡ true → is_said mark ≡ (away_due here || nat_lt 0 (count_in is_go_away frames))) → AwayUnderWay (record s { here = mark_said here; mark = said_once mark }) frames
    of NotSaid Unsaid k means said = record { once = u.once; means = λ e. (let no : NotSaid ≡ Sent = (means e).0 in absurd cc); said = λ r. refl }
    of NotSaid Said k means said = absurd (let no : false ≡ true = k.said in cc)
    of NotSaid Here k means said = absurd (let no : false ≡ true = k.said in cc)
    of Due Unsaid k means said = absurd (let no : true ≡ false = k.said in cc)
    of Due Said k means said = record { once = u.once; means = means; said = said }
    of Due Here k means said = record { once = u.once; means = means; said = said }
    of Sent Unsaid k means said = absurd (let no : true ≡ false = k.said in cc)
    of Sent Said k means said = record { once = u.once; means = means; said = said }
    of Sent Here k means said = record { once = u.once; means = means; said = said }

said-text : (s : Sender) (r : Receiver) (bytes : List ℕ) (parts : List (ℕ × Part)) (there : Bool) → SameAway s.here there s.mark → Text s r bytes parts → Text (record s { here = mark_said s.here; mark = said_once s.mark }) r bytes parts
said-text s r bytes parts there h t =
    same-text s (record s { here = mark_said s.here; mark = said_once s.mark }) r r bytes parts t refl refl refl (said-way s there t.frames h t.away)
    (record { once = t.pings.once; means = t.pings.means; asked = t.pings.asked }) (record { once = t.pongs.once; means = t.pongs.means; there = t.pongs.there })

away-agrees : (x y : Role) (w : World) (m : Machine) (h : AgreesAs x y w m) → IsWithin (record w.a { away = session_says w.a.away }) → IsReaped (record w.a { away = session_says w.a.away }) →
    IsNumbered (record m { me = record m.me { away = said_once m.me.away } }) → AgreesAs x y (record w { a = record w.a { away = session_says w.a.away } }) (record m { me = record m.me { away = said_once m.me.away } })
away-agrees x y w m h within reaped order = record {
  roles = h.roles;
  streams = h.streams;
  refines = h.refines;
  a = beside-streams h.a w.a.pings m.me.next_ping m.me.pings (mark_said w.a.away.here) (said_once m.me.away) w.a.outgoing h.a.pings (said-away w.a.away.here w.b.away.there m.me.away h.a.away) within reaped;
  b = h.b;
  ab = text-changes (sending w.a m.me) _ (hearing w.b m.you) w.ab h.streams.ab h.streams.ab _ _ (said-text (sending w.a m.me) (hearing w.b m.you) w.ab.bytes h.streams.ab w.b.away.there h.a.away) h.ab;
  ba = h.ba;
  order = order;
}

pub go_away-called : (x y : Role) (w : World) (m : Machine) (h : AgreesAs x y w m) (s : Session) (reply : Reply) → CallGives w.a call.GoAway reply s → Called x y call.GoAway reply w s m
go_away-called x y w m h s reply (NoMemory needs answer state) = absurd cc
go_away-called x y w m h s reply (HasOutcome answer state) = elim (when (is_closed w.a.status)) [
  | inl t ↦ refused-is x y call.GoAway w m h s reply (refused Closed w.a) gives (rw t refl) refl answer state (closed-rule call.GoAway m m _ (h.a.whole.closed ∙ t) refl (refl, refl))
  | inr f ↦ elim (when (is_lost w.a.status)) [
    | inl t ↦ refused-is x y call.GoAway w m h s reply (refused Lost w.a) gives (rw (f, t) refl) refl answer state (rule-of f m _ (so-true m.me.lost _ _ (h.a.whole.lost f ∙ t) (refl, refl)))
    | inr l ↦ says-it f l (rw (f, l) refl)
  ]
]
  where
    gives : CallGives w.a call.GoAway reply s
    gives = HasOutcome answer state

    rule-of : is_closed w.a.status ≡ false → (n : Machine) (r : Reply) → OpenSideRule call.GoAway m r n → Rule call.GoAway m r n
    rule-of f n r p = open-rule call.GoAway m n r (h.a.whole.closed ∙ f) p

    says-it : is_closed w.a.status ≡ false → is_lost w.a.status ≡ false → outcome call.GoAway w.a ≡ answers Done (record w.a { away = session_says w.a.away }) → Called x y call.GoAway reply w s m
    says-it f l e =
        let now : Machine = record m { me = record m.me { away = said_once m.me.away } } in
        let told : reply ≡ Done = answer ∙ ap (λ (z : Outcome). z.reply) e in
        let next : s ≡ record w.a { away = session_says w.a.away } = state ∙ ap (λ (z : Outcome). z.next) e in
        let rule = rule-of f now reply (so-false m.me.lost _ _ (h.a.whole.lost f ∙ l) (told, refl)) in
        called-alone x y call.GoAway reply w s m _ now next rule
        (away-agrees x y w m h
        (subst IsWithin next (gives-keep (λ b z. true) w.a s (event.Call call.GoAway) reply gives h.a.within))
        (subst IsReaped next (gives-reaped (λ b z. true) w.a s (event.Call call.GoAway) reply gives h.a.within h.a.reaped))
        (order-call call.GoAway m now now reply [] (parity x y w m h) rule refl h.order))

-- ---- close

-- the rest of the frame begun is cut off
closed-text : (s : Sender) (r : Receiver) (bytes : List ℕ) (parts : List (ℕ × Part)) → Text s r bytes parts → Text (record s { status = ClosedStatus; outgoing = [] }) r bytes parts
closed-text s r bytes parts t = record {
  cut = s.outgoing ++ t.cut;
  tail = t.tail;
  frames = t.frames;
  kept = λ c. absurd cc;
  missing = t.missing;
  each = t.each;
  plain = t.plain;
  text = t.text;
  says = t.says;
  away = record { once = t.away.once; means = t.away.means; said = λ e. absurd cc };
  pings = record { once = t.pings.once; means = t.pings.means; asked = λ n e. absurd cc };
  pongs = record { once = t.pongs.once; means = t.pongs.means; there = λ n e. absurd cc };
}

closed-deaf : (r : Receiver) (p : Pipe) → arrives (record r { status = ClosedStatus }) p ≡ true → ⊥
closed-deaf r p e = let k = (both_of (not p.stopped) false e).1 in absurd cc

closed-refines : (g : Streams) (m : Found) → Refines g m → Refines (acts Ends g) m
closed-refines g m r = let k = step Ends g m tt r in refines-same (acts Ends g) k.0 m (λ i. sym (k.1 i)) k.2

close-agrees : (x y : Role) (w : World) (m : Machine) (h : AgreesAs x y w m) → IsWithin (close w.a).next → IsReaped (close w.a).next → IsNumbered (record m { me = record m.me { closed = true } }) →
    AgreesAs x y (record w { a = (close w.a).next }) (record m { me = record m.me { closed = true } })
close-agrees x y w m h within reaped order = record {
  roles = h.roles;
  streams = acts Ends h.streams;
  refines = closed-refines h.streams (found m) h.refines;
  a = record {
    whole = record { role = h.a.whole.role; window = h.a.whole.window; next = h.a.whole.next; offered = h.a.whole.offered; closed = refl; lost = λ c. absurd cc; sound = refl };
    records = record { window = h.a.records.window; over = refl; each = h.a.records.each; once = h.a.records.once };
    pings = h.a.pings;
    away = h.a.away;
    within = within;
    reaped = reaped;
  };
  b = h.b;
  ab = text-changes (sending w.a m.me) _ (hearing w.b m.you) w.ab h.streams.ab h.streams.ab _ _ (closed-text (sending w.a m.me) (hearing w.b m.you) w.ab.bytes h.streams.ab) h.ab;
  ba = record { machine = h.ba.machine; streams = h.ba.streams; text = λ on. absurd (closed-deaf (hearing w.a m.me) w.ba on) };
  order = order;
}

never : (b : Bool) → (b && false) ≡ false
never true = refl
never false = refl

pub close-called : (x y : Role) (w : World) (m : Machine) (h : AgreesAs x y w m) (s : Session) (reply : Reply) → CallGives w.a call.Close reply s → Called x y call.Close reply w s m
close-called x y w m h s reply (NoMemory needs answer state) = absurd cc
close-called x y w m h s reply (HasOutcome answer state) =
    let gives : CallGives w.a call.Close reply s = HasOutcome answer state in
    let now : Machine = record m { me = record m.me { closed = true } } in
    let rule : Rule call.Close m reply now = so-false _ _ _ (never m.me.closed) (answer, refl) in
    called-alone x y call.Close reply w s m _ now state rule
    (close-agrees x y w m h
    (subst IsWithin state (gives-keep (λ b z. true) w.a s (event.Call call.Close) reply gives h.a.within))
    (subst IsReaped state (gives-reaped (λ b z. true) w.a s (event.Call call.Close) reply gives h.a.within h.a.reaped))
    (order-call call.Close m now now reply [] (parity x y w m h) rule refl h.order))
