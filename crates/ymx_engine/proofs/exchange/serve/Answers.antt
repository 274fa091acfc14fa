use Rattle.std.proofs.Common.{◌≡◌, ◌∙◌, true, refl, inl, inr}
use Rattle.ymx_engine.proofs.Parts.{turn_of, stays_shut, was_open_to, tells_from}
use Rattle.ymx_engine.proofs.Hearing.{untold}
use Rattle.ymx_engine.proofs.exchange.serve.Goals as goal
use Rattle.ymx_engine.proofs.exchange.serve.Goals.{then-writes, else-writes, then-may_push, else-may_push}

pub returns-then-read-clause-turn : goal.returns-then-read-clause-turn
returns-then-read-clause-turn g c =
    let p = c.deliver-writes.ensures in
    let q = c.on_stop.ensures in
    let v = c.collect-read.ensures in
    turn_of c.deliver-writes.result c.collect-read.result.more _ p.delivered q.part q.same v.part p.stays v.collects v.asks_on (λ h may. c.if-read.true) (λ h. c.if-read.true) (λ over open_. c.if-read.true) v.within v.fills (record { heard = p.ends; ends = v.ends }) (record { takes = p.takes; told = q.tells; stops = v.stops })
    (λ on. ((p.some on).0, (p.some on).1, p.goes_on on))
    (λ h. elim c.if-may_push.branch [
      | then-may_push w ↦ elim c.if-writes.branch [
        | then-writes k ↦ inl (k.if-writes.true, let e = w.if-may_push.true in let f = k.value-is in let m = k.may_push.ensures in cc)
        | else-writes k ↦ absurd (let e = w.if-may_push.true in let f = k.value-is in cc)
      ]
      | else-may_push w ↦
          let pulls : c.collect-read.result.more ≡ true = let e = w.value-is in let f = c.if-read.true in cc in
          inr (inl (v.goes_on pulls, v.gains pulls))
    ])

pub returns-else-read-clause-turn : goal.returns-else-read-clause-turn
returns-else-read-clause-turn g c =
    let p = c.deliver-writes.ensures in
    let q = c.on_stop.ensures in
    let v = c.collect-read.ensures in
    let off = c.if-read.false in
    turn_of c.deliver-writes.result c.collect-read.result.more _ p.delivered q.part q.same v.part p.stays v.collects v.asks_on
    (λ h may. elim c.if-may_push.branch [
      | then-may_push w ↦ absurd (let e = w.value-is in cc)
      | else-may_push w ↦ elim c.if-writes.branch [
        | then-writes k ↦ absurd (let e = w.if-may_push.false in let f = k.value-is in let m = k.may_push.ensures in cc)
        | else-writes k ↦ absurd (let e = k.if-writes.false in cc)
      ]
    ])
    (λ h. elim c.if-may_push.branch [ then-may_push w ↦ absurd (let e = w.value-is in cc) | else-may_push w ↦ absurd (let e = w.value-is in cc) ])
    (λ over open_. c.is_untold.ensures ∙ rw (over, open_) refl) v.within v.fills (record { heard = p.ends; ends = v.ends }) (record { takes = p.takes; told = q.tells; stops = v.stops })
    (λ on. ((p.some on).0, (p.some on).1, p.goes_on on))
    (λ h. inr (inr (untold _ _ _ c.is_untold.ensures h)))

pub returns-then-read-clause-hears_end : goal.returns-then-read-clause-hears_end
returns-then-read-clause-hears_end g c = λ may none. elim (c.deliver-writes.ensures.hears_end may none) [ inl shut ↦ inl (stays_shut c.collect-read.ensures.part (stays_shut c.on_stop.ensures.part shut)) | inr waits ↦ inr waits ]

pub returns-else-read-clause-hears_end : goal.returns-else-read-clause-hears_end
returns-else-read-clause-hears_end g c = λ may none. elim (c.deliver-writes.ensures.hears_end may none) [ inl shut ↦ inl (stays_shut c.collect-read.ensures.part (stays_shut c.on_stop.ensures.part shut)) | inr waits ↦ inr waits ]

pub returns-then-read-clause-tells : goal.returns-then-read-clause-tells
returns-then-read-clause-tells g c = λ off on. let idle = c.deliver-writes.ensures.idle off in tells_from c.args.id c.on_stop.new.directions idle.0 idle.1 idle.2 c.on_stop.ensures.tells off (was_open_to c.collect-read.ensures.part on)

pub returns-else-read-clause-tells : goal.returns-else-read-clause-tells
returns-else-read-clause-tells g c = λ off on. let idle = c.deliver-writes.ensures.idle off in tells_from c.args.id c.on_stop.new.directions idle.0 idle.1 idle.2 c.on_stop.ensures.tells off (was_open_to c.collect-read.ensures.part on)
