-- The stream at a place waits, or is gone.
use Rattle.std.proofs.Common.{◌≡◌, ◌<◌, ◌+◌, ◌-◌, ◌∙◌, ℕ, List, length, get_or, inr, sym, ap, subst, rules}
use Rattle.std.specs.Prelude.{swap_remove}
use Rattle.ymx_model.specs.session.Sessions.{Session}
use Rattle.ymx_hub.specs.Booked.{BookedView, spent}
use Rattle.ymx_hub.specs.Releasing.{WaitFrom}
use Rattle.ymx_hub.proofs.Released.{looks_among, leaves_one, alike_same, wait_on, wait_gone, apart, if_ok}
use Rattle.ymx_hub.proofs.shared.Shared.purge_at.Goals as goal

pub look-requires : goal.look-requires
look-requires g c = record { may = λ w. inr (c.args.place, c.requires, c.released_at-id.ensures c.released_at-id.result) }

pub returns-in-Waits-clause-booked : goal.returns-in-Waits-clause-booked
returns-in-Waits-clause-booked g c = looks_among g.R.Recorder.KEEPS c.args.seat.now c.look.new.seat c.args.self.now.booked.released c.args.place c.released_at-id.result c.look.result c.requires c.released_at-id.ensures c.look.ensures.booked

pub returns-in-Waits-clause-wait : goal.returns-in-Waits-clause-wait
returns-in-Waits-clause-wait g c =
    subst (λ (ids : List ℕ). WaitFrom c.args.self.now.booked.session c.args.self.now.booked.released (c.args.place + 1) → WaitFrom c.look.new.self.session ids c.args.place) (sym c.look.ensures.released)
    (wait_on c.released_at-id.result c.args.place c.args.self.now.booked.session c.look.new.self.session c.args.self.now.booked.released c.released_at-id.ensures c.look.ensures.others (c.look.ensures.waits (search rules)))

pub returns-in-Lacks-clause-booked : goal.returns-in-Lacks-clause-booked
returns-in-Lacks-clause-booked g c = looks_among g.R.Recorder.KEEPS c.args.seat.now c.look.new.seat c.args.self.now.booked.released c.args.place c.released_at-id.result c.look.result c.requires c.released_at-id.ensures c.look.ensures.booked

pub returns-in-Spent-clause-booked : goal.returns-in-Spent-clause-booked
returns-in-Spent-clause-booked g c = looks_among g.R.Recorder.KEEPS c.args.seat.now c.look.new.seat c.args.self.now.booked.released c.args.place c.released_at-id.result c.look.result c.requires c.released_at-id.ensures c.look.ensures.booked

pub unlist-requires : goal.unlist-requires
unlist-requires g c = subst (λ (ids : List ℕ). c.args.place < length ids) (sym c.look.ensures.released) c.requires

pub returns-in-Spent-clause-wait : goal.returns-in-Spent-clause-wait
returns-in-Spent-clause-wait g c =
    let same : c.look.new.self.released ≡ c.args.self.now.booked.released = c.look.ensures.released in
    let before : (k : ℕ) → k < length c.args.self.now.booked.released → k < length c.look.new.self.released = λ k l. subst (λ (ids : List ℕ). k < length ids) (sym same) l in
    let last : c.unlist.new.self.session ≡ c.look.new.self.session = ap (λ (v : BookedView). v.session) c.unlist.ensures.rest in
    if_ok c.unless_lacking.result _
    (subst (λ (s : Session). WaitFrom c.args.self.now.booked.session c.args.self.now.booked.released (c.args.place + 1) → WaitFrom s c.unlist.new.self.released c.args.place) (sym last)
    (wait_gone c.released_at-id.result c.args.place c.args.self.now.booked.session c.look.new.self.session c.args.self.now.booked.released c.unlist.new.self.released c.requires c.look.ensures.others
    (λ w. apart c.in-Spent.answer (c.in-Spent.ensures.still w)) (c.unlist.ensures.len ∙ ap length same)
    (λ d l. c.unlist.ensures.last d (before (c.args.place + 1) l) ∙ ap (λ (ids : List ℕ). get_or ids (length ids - 1) d) same)
    (λ k d n l. c.unlist.ensures.others k d n (before (k + 1) l) ∙ ap (λ (ids : List ℕ). get_or ids k d) same)))

pub returns-in-Spent-clause-left : goal.returns-in-Spent-clause-left
returns-in-Spent-clause-left g c =
    leaves_one c.args.self.now.booked.released c.unlist.new.self.released c.args.place c.released_at-id.result c.args.self.now.booked c.unlist.new.self c.requires c.released_at-id.ensures
    (λ d. c.unlist.ensures.ids d ∙ ap (λ (ids : List ℕ). swap_remove ids c.args.place (get_or ids c.args.place d)) c.look.ensures.released)
    (alike_same (spent c.released_at-id.result c.args.self.now.booked) c.look.new.self c.unlist.new.self c.unlist.ensures.rest c.in-Spent.ensures.halves)
