-- A direction that stops, and an input that ends.
use Rattle.std.proofs.Common.{◌≡◌, ◌≢◌, ℕ, ◌%◌, List, Bool, true, false, not, refl, sym, ap, subst, ◌∙◌, inl, inr}
use Rattle.ymx_model.specs.declared.types.Role.{Role}
use Rattle.ymx_model.specs.declared.types.Status.{Status}
use Rattle.ymx_model.specs.declared.types.Status.TheVariants.{Running, Lost, Broken, Closed}
use Rattle.ymx_machine.specs.declared.types.Direction.{Direction}
use Rattle.ymx_machine.specs.declared.types.Step.TheVariants as step
use Rattle.ymx_machine.specs.declared.types.Answer.{Answer}
use Rattle.ymx_model.specs.declared.types.Event.TheVariants as event
use Rattle.ymx_machine.specs.declared.types.Reply.TheVariants as reply
use Rattle.ymx_model.specs.session.Parts.{Part}
use Rattle.ymx_model.specs.session.Sessions.{Session, is_running, is_lost, is_broken, is_closed}
use Rattle.ymx_model.specs.session.Calls.{feed_end, status_input_ends}
use Rattle.ymx_model.specs.session.Emissions.{Choice}
use Rattle.ymx_model.specs.world.Worlds.{World, Pipe, StepOfA, stopped_now}
use Rattle.ymx_machine.specs.machine.Machines.{Machine, SideState}
use Rattle.ymx_machine.specs.machine.Runs.{MachineStepOfA, side_input_ends as side_ends}
use Rattle.ymx_headline.specs.stream.Worlds.{StreamWorld as Streams, StreamSide as Ends, Streams as Found, Refines}
use Rattle.ymx_headline.proofs.stream.Happenings.{flip_some, happens}
use Rattle.ymx_headline.proofs.stream.Happenings.Act.{Ends as ActEnds}
use Rattle.ymx_headline.proofs.stream.Happenings.Happening.{AtB}
use Rattle.ymx_headline.proofs.stream.Worlds.{step_at, mirrored-back}
use Rattle.ymx_machine.proofs.Tests.{split, when}
use Rattle.ymx_law_session.proofs.limits.HistoriesKeep.{gives-keep}
use Rattle.ymx_law_session.proofs.given_up.ReapedFrames.{gives-reaped}
use Rattle.ymx_headline.proofs.machine.lanes.StreamFacts.{if-so_true, if-so_false}
use Rattle.ymx_headline.proofs.machine.order.Cores.{core-ends, sound-is}
use Rattle.ymx_headline.proofs.machine.order.Openers.{numbered-is}
use Rattle.ymx_headline.specs.Agrees.{AgreesAs, IsNumbered, AgreesAt, SameSide, Receiver, Text, sending, hearing, found, arrives}
use Rattle.ymx_headline.proofs.relation.Mirrors.{Positive, refines-same, orders, order-same, has-order, parity}

-- ---- a stop

pub no-text : (r : Receiver) (p : Pipe) → p.stopped ≡ true → arrives r p ≡ true → ⊥
no-text r p e t = let no : false ≡ true = rw e at t in absurd cc

pub stop-agrees : (x y : Role) (w : World) (m : Machine) → AgreesAs x y w m → AgreesAs x y (record w { ab = stopped_now w.ab }) (record m { outbound_stopped = true })
stop-agrees x y w m h =
    let g = h.streams in record {
      roles = h.roles;
      streams = record g { ab_stopped = true };
      refines = record { a_window = h.refines.a_window; b_window = h.refines.b_window; streams = h.refines.streams };
      a = h.a;
      b = h.b;
      ab = record { machine = refl; streams = record { same = refl; empty = λ t. refl }; text = λ t. absurd (no-text (hearing w.b m.you) (stopped_now w.ab) refl t) };
      ba = h.ba;
      order = order-same m (record m { outbound_stopped = true }) refl h.order;
    }

-- ---- an end

ended-closed : (st : Status) → is_closed (status_input_ends st) ≡ is_closed st
ended-closed Running = refl
ended-closed Lost = refl
ended-closed (Broken f) = refl
ended-closed Closed = refl

ended-sound : (st : Status) → is_broken (status_input_ends st) ≡ is_broken st
ended-sound Running = refl
ended-sound Lost = refl
ended-sound (Broken f) = refl
ended-sound Closed = refl

ended-lost : (st : Status) → is_closed st ≡ false → is_lost (status_input_ends st) ≡ true
ended-lost Running e = refl
ended-lost Lost e = refl
ended-lost (Broken f) e = refl
ended-lost Closed e = absurd cc

ended-runs : (st : Status) → is_running (status_input_ends st) ≡ false
ended-runs Running = refl
ended-runs Lost = refl
ended-runs (Broken f) = refl
ended-runs Closed = refl

ended-side : (is : Role) (s : Session) (side : SideState) → SameSide is s side → SameSide is (feed_end s) (side_ends side)
ended-side is s side h =
    split (λ x. SameSide is (feed_end s) x) side.closed side (record side { lost = true })
    (λ c. of side.lost (λ o. (let no : true ≡ false = sym c ∙ h.closed ∙ sym (ended-closed s.status) ∙ o in absurd cc)))
    (λ c. of true (λ o. sym (ended-lost s.status (sym (ended-closed s.status) ∙ o))))
  where
    of : (l : Bool) → (is_closed (status_input_ends s.status) ≡ false → l ≡ is_lost (status_input_ends s.status)) → SameSide is (feed_end s) (record side { lost = l })
    of l f = record { role = h.role; window = h.window; next = h.next; offered = h.offered; closed = h.closed ∙ sym (ended-closed s.status); lost = f; sound = ended-sound s.status ∙ h.sound }

-- of the machine's side an end changes nothing that a direction needs
ended-places : (side : SideState) → ((side_ends side).away ≡ side.away) × ((side_ends side).pings ≡ side.pings) × ((side_ends side).next_ping ≡ side.next_ping)
ended-places side =
    split (λ x. (x.away ≡ side.away) × (x.pings ≡ side.pings) × (x.next_ping ≡ side.next_ping)) side.closed side (record side { lost = true })
    (λ c. (refl, refl, refl)) (λ c. (refl, refl, refl))

pub ended-at : (is : Role) (s : Session) (there : Bool) (side : SideState) (ends : Ends) → AgreesAt is s there side ends → AgreesAt is (feed_end s) there (side_ends side) (record ends { over = true })
ended-at is s there side ends h =
    let p = ended-places side in record {
      whole = ended-side is s side h.whole;
      records = record { window = h.records.window; over = sym (ap not (ended-runs s.status)); each = h.records.each; once = h.records.once };
      pings = rw (p.1, p.2) h.pings;
      away = rw p.0 h.away;
      within = gives-keep (λ c x. true) s (feed_end s) event.FeedEnd reply.Done (refl, refl) h.within;
      reaped = gives-reaped (λ c x. true) s (feed_end s) event.FeedEnd reply.Done (refl, refl) h.within h.reaped;
    }

-- a sender that no longer runs: what is under way still comes
ended-text : (s : Session) (side : SideState) (r : Receiver) (bytes : List ℕ) (parts : List (ℕ × Part)) → Text (sending s side) r bytes parts → Text (sending (feed_end s) side) r bytes parts
ended-text s side r bytes parts t = record {
  cut = t.cut;
  tail = t.tail;
  frames = t.frames;
  kept = λ c. t.kept (sym (ended-closed s.status) ∙ c);
  missing = t.missing;
  each = t.each;
  plain = t.plain;
  text = t.text;
  says = t.says;
  away = record { once = t.away.once; means = t.away.means; said = λ e. (let no : false ≡ true = sym (ended-runs s.status) ∙ e in absurd cc) };
  pings = record { once = t.pings.once; means = t.pings.means; asked = λ n e. (let no : false ≡ true = sym (ended-runs s.status) ∙ e in absurd cc) };
  pongs = record { once = t.pongs.once; means = t.pongs.means; there = λ n e. (let no : false ≡ true = sym (ended-runs s.status) ∙ e in absurd cc) };
}

ended-sender : (s : Session) (side : SideState) → sending s (side_ends side) ≡ sending s side
ended-sender s side = let p = ended-places side in rw (p.0, p.1) refl

ended-refines : (g : Streams) (m : Found) → Refines g m → Refines (record g { b = record g.b { over = true } }) m
ended-refines g m r =
    let k = step_at (AtB ActEnds) g m tt r in
    refines-same (happens (AtB ActEnds) g) k.0 m (λ i. sym (mirrored-back m i) ∙ ap flip_some (sym (k.1 i)) ∙ mirrored-back k.0 i) k.2

ended-order : (m : Machine) → m.me.next % 2 ≢ m.you.next % 2 → IsNumbered m → IsNumbered (record m { you = side_ends m.you })
ended-order m p o =
    let k = orders m p o in
    has-order m.me.window m.you.window (record m { you = side_ends m.you }) (sound-is m.me.window m.you.window _ _ (core-ends m) k.sound) (numbered-is _ _ (core-ends m) k.numbered) (subst Positive (sym (core-ends m)) k.positive)

pub end-agrees : (x y : Role) (w : World) (m : Machine) → w.ab.stopped ≡ true → AgreesAs x y w m →
    AgreesAs x y (record w { b = feed_end w.b; ab = record w.ab { ended = true } }) (record m { you = side_ends m.you })
end-agrees x y w m e h =
    let g = h.streams in record {
      roles = h.roles;
      streams = record g { b = record g.b { over = true } };
      refines = ended-refines g (found m) h.refines;
      a = h.a;
      b = ended-at y w.b w.a.away.there m.you g.b h.b;
      ab = record { machine = h.ab.machine; streams = record { same = h.ab.streams.same; empty = h.ab.streams.empty }; text = λ t. absurd (no-text (hearing (feed_end w.b) (side_ends m.you)) (record w.ab { ended = true }) e t) };
      ba = record {
        machine = h.ba.machine;
        streams = h.ba.streams;
        text = λ t. rw (ended-sender (feed_end w.b) m.you) (ended-text w.b m.you (hearing w.a m.me) w.ba.bytes g.ba (h.ba.text t));
      };
      order = ended-order m (parity x y w m h) h.order;
    }

-- ---- the steps

pub stop-step : (may : Choice → Session → Bool) (d : Direction) (given : Answer) (x y : Role) (w v : World) (m : Machine) → StepOfA may (step.Stop d) given w v → AgreesAs x y w m →
    (n : Machine) × MachineStepOfA (step.Stop d) given m n × AgreesAs x y v n
stop-step may d given x y w v m s h = (record m { outbound_stopped = true }, (s.0, refl), subst (λ u. AgreesAs x y u (record m { outbound_stopped = true })) (sym s.1) (stop-agrees x y w m h))

pub end-step : (may : Choice → Session → Bool) (d : Direction) (given : Answer) (x y : Role) (w v : World) (m : Machine) → StepOfA may (step.End d) given w v → AgreesAs x y w m →
    (n : Machine) × MachineStepOfA (step.End d) given m n × AgreesAs x y v n
end-step may d given x y w v m s h = elim (when w.ab.stopped) [
  | inl t ↦ (let k = if-so_true _ _ _ t s in (
    record m { you = side_ends m.you },
    rw (h.ab.machine, t) (k.0, refl),
    subst (λ u. AgreesAs x y u (record m { you = side_ends m.you })) (sym k.1) (end-agrees x y w m t h),
  ))
  | inr t ↦ (let k = if-so_false _ _ _ t s in (m, rw (h.ab.machine, t) (k.0, refl), subst (λ u. AgreesAs x y u m) (sym k.1) h))
]
