-- A stream that is accepted is accepted in the machine.
use Rattle.std.proofs.Common.{◌≡◌, ℕ, List, [], ◌∷◌, true, false, Option, None, Some, refl, sym, ap, subst, ◌∙◌, inl, inr, arith}
use Rattle.std.specs.Prelude.{option_map}
use Rattle.std.proofs.lemmas.Bool.Decides.{nat_tests}
use Rattle.ymx_model.specs.declared.types.Role.{Role}
use Rattle.ymx_machine.specs.declared.types.Call.TheVariants as call
use Rattle.ymx_machine.specs.shared.Events.{Reply}
use Rattle.ymx_machine.specs.declared.types.Reply.TheVariants.{Accepted}
use Rattle.ymx_machine.specs.declared.types.CallFault.TheVariants.{Lost, Closed}
use Rattle.ymx_model.specs.declared.types.Event.TheVariants as event
use Rattle.ymx_machine.specs.shared.Phases.{Phase, is_offered}
use Rattle.ymx_machine.specs.stream.Streams.{stream_accept}
use Rattle.ymx_machine.specs.shared.Phases.Phase.{Offered}
use Rattle.ymx_model.specs.session.Records.{End, end_accept}
use Rattle.ymx_machine.specs.shared.Lists.{look, change}
use Rattle.ymx_model.specs.session.Tables.{with_record}
use Rattle.ymx_model.specs.session.Sessions.{Session, is_lost, is_closed, on_stream}
use Rattle.ymx_model.specs.session.Calls.{Outcome, outcome, refused, answers, accept_of}
use Rattle.ymx_model.specs.session.Histories.{CallGives}
use Rattle.ymx_model.specs.session.Histories.CallGives.{Outcome as HasOutcome, NoMemory}
use Rattle.ymx_model.specs.world.Worlds.{World}
use Rattle.ymx_machine.specs.machine.Machines.{Machine}
use Rattle.ymx_machine.specs.machine.CallRules.{Rule, AcceptRule}
use Rattle.ymx_headline.proofs.stream.Happenings.{Can, put}
use Rattle.ymx_headline.proofs.stream.Happenings.Act.{Accepts}
use Rattle.ymx_headline.proofs.stream.Worlds.{step}
use Rattle.ymx_law_session.specs.Limits.{IsWithin, is_listed, is_offered_at}
use Rattle.ymx_law_session.specs.Reaped.{IsReaped}
use Rattle.ymx_machine.proofs.Lists.{look-change_same, look-change_other}
use Rattle.ymx_law_session.proofs.limits.HistoriesKeep.{gives-keep}
use Rattle.ymx_law_session.proofs.given_up.ReapedFrames.{gives-reaped}
use Rattle.ymx_machine.proofs.Tests.{when}
use Rattle.ymx_headline.specs.Agrees.{AgreesAs, IsNumbered, Keeps, found}
use Rattle.ymx_headline.proofs.relation.Mirrors.{refines-same, order-call, parity}
use Rattle.ymx_headline.proofs.relation.Tables.{change-found, keeps-put, table-changes, over-is}
use Rattle.ymx_headline.proofs.calls.StreamCalls.{so-true, so-false, Called, open-rule, closed-rule, refused-at_both}

-- ---- the stream that is offered

first-listed : (id : ℕ) (ids : List ℕ) → is_listed id (id ∷ ids) ≡ true
first-listed id ids = grind (arith, nat_tests)

offered-is : (p : Phase) → is_offered p ≡ true → p ≡ Offered
offered-is p e = grind arith

record IsOfferedAt (o : Option End) : Type 0 where
  end : End
  there : o ≡ Some end
  phase : end.phase ≡ Offered

offered-there : (o : Option End) → is_offered_at o ≡ true → IsOfferedAt o
offered-there None e = absurd cc
offered-there (Some d) e = record { end = d; there = refl; phase = offered-is d.phase e }

accepts-agree : (x y : Role) (w : World) (m : Machine) (h : AgreesAs x y w m) (id : ℕ) (ids : List ℕ) → w.a.offered ≡ id ∷ ids → is_closed w.a.status ≡ false →
    IsWithin (on_stream id (end_accept (is_lost w.a.status)) (record w.a { offered = ids })) → IsReaped (on_stream id (end_accept (is_lost w.a.status)) (record w.a { offered = ids })) →
    IsNumbered (record m { streams = change id (stream_accept m.me.lost) m.streams; me = record m.me { offered = ids } }) →
    AgreesAs x y (record w { a = on_stream id (end_accept (is_lost w.a.status)) (record w.a { offered = ids }) }) (record m { streams = change id (stream_accept m.me.lost) m.streams; me = record m.me { offered = ids } })
accepts-agree x y w m h id ids e open_ within reaped order =
    let g = h.streams in
    let lost = is_lost w.a.status in
    let over = over-is x y w m h open_ in
    let at = offered-there (look id w.a.table.entries) (sym (h.a.within.offered.listed id) ∙ rw e (first-listed id ids)) in
    let kept : Keeps w.a.answers id (Some at.end) (g.a.ends id) = subst (λ o. Keeps w.a.answers id o (g.a.ends id)) at.there (h.a.records.each id) in
    let can : Can (Accepts id) g = ap (λ (z : End). z.phase) (sym kept.0) ∙ at.phase in
    let r = step (Accepts id) g (found m) can h.refines in
    let f : End = end_accept g.a.over (g.a.ends id) in
    let entries : List (ℕ × End) = change id (end_accept lost) w.a.table.entries in
    let now : look id entries ≡ Some (end_accept lost at.end) = look-change_same id (end_accept lost) w.a.table.entries ∙ ap (option_map (end_accept lost)) at.there in
    let same : end_accept lost at.end ≡ f = ap (λ b. end_accept b at.end) (sym over) ∙ ap (end_accept g.a.over) kept.0 in
    let lost_same : m.me.lost ≡ g.a.over = h.a.whole.lost open_ ∙ sym over in
    table-changes x y w m h (with_record id (end_accept lost) w.a.table) w.a.next m.me.next ids ids (change id (stream_accept m.me.lost) m.streams) (put id f g.a.ends)
    h.a.whole.next refl refl
    (keeps-put w.a.answers id w.a.table.entries entries f g.a.ends (λ i n. h.a.records.each i) (λ i n. look-change_other id i (end_accept lost) w.a.table.entries n)
    (subst (λ o. Keeps w.a.answers id o f) (sym now) (same, kept.1)))
    within reaped
    (refines-same _ r.0 _ (change-found id (stream_accept m.me.lost) r.1.0 _ m r.0 (ap (λ b. stream_accept b r.1.0) lost_same) r.1.2) r.2)
    order

-- ---- the call

pub accept-called : (x y : Role) (w : World) (m : Machine) (h : AgreesAs x y w m) (s : Session) (reply : Reply) → CallGives w.a call.Accept reply s → Called x y call.Accept reply w s m
accept-called x y w m h s reply (NoMemory needs answer state) = absurd cc
accept-called x y w m h s reply (HasOutcome answer state) = elim (when (is_closed w.a.status)) [
  | inl t ↦ (let e : outcome call.Accept w.a ≡ refused Closed w.a = rw t refl in
      refused-at_both x y call.Accept reply w s m (state ∙ ap (λ (o : Outcome). o.next) e) (closed-rule call.Accept m m reply (h.a.whole.closed ∙ t) refl (answer ∙ ap (λ (o : Outcome). o.reply) e, refl)) h)
  | inr f ↦ (let e : outcome call.Accept w.a ≡ accept_of w.a.offered w.a = rw f refl in
      of f w.a.offered refl (answer ∙ ap (λ (o : Outcome). o.reply) e) (state ∙ ap (λ (o : Outcome). o.next) e))
]
  where
    rule-of : is_closed w.a.status ≡ false → (ids : List ℕ) → w.a.offered ≡ ids → (n : Machine) → AcceptRule ids m reply n → Rule call.Accept m reply n
    rule-of f ids e n r = open-rule call.Accept m n reply (h.a.whole.closed ∙ f) (subst (λ z. AcceptRule z m reply n) (sym (h.a.whole.offered ∙ e)) r)

    of : is_closed w.a.status ≡ false → (ids : List ℕ) → w.a.offered ≡ ids → reply ≡ (accept_of ids w.a).reply → s ≡ (accept_of ids w.a).next → Called x y call.Accept reply w s m
    of f [] e a n = elim (when (is_lost w.a.status)) [
      | inl t ↦ (let k : accept_of [] w.a ≡ refused Lost w.a = rw t refl in
          refused-at_both x y call.Accept reply w s m (n ∙ ap (λ (o : Outcome). o.next) k) (rule-of f [] e m (so-true m.me.lost _ _ (h.a.whole.lost f ∙ t) (a ∙ ap (λ (o : Outcome). o.reply) k, refl))) h)
      | inr t ↦ (let k : accept_of [] w.a ≡ answers (Accepted None) w.a = rw t refl in
          refused-at_both x y call.Accept reply w s m (n ∙ ap (λ (o : Outcome). o.next) k) (rule-of f [] e m (so-false m.me.lost _ _ (h.a.whole.lost f ∙ t) (a ∙ ap (λ (o : Outcome). o.reply) k, refl))) h)
    ]
    of f (id ∷ ids) e a n =
        let now : Machine = record m { streams = change id (stream_accept m.me.lost) m.streams; me = record m.me { offered = ids } } in
        let rule = rule-of f (id ∷ ids) e now (a, refl) in
        let gives : CallGives w.a call.Accept reply s = HasOutcome answer state in
        let P : Session → Type 0 = λ z. Called x y call.Accept reply w z m in
        subst P (sym n) (record {
          mid = now;
          ids = [];
          now = now;
          rule = rule;
          releases = refl;
          agrees = accepts-agree x y w m h id ids e f
              (subst IsWithin n (gives-keep (λ b z. true) w.a s (event.Call call.Accept) reply gives h.a.within))
              (subst IsReaped n (gives-reaped (λ b z. true) w.a s (event.Call call.Accept) reply gives h.a.within h.a.reaped))
              (order-call call.Accept m now now reply [] (parity x y w m h) rule refl h.order);
        })
