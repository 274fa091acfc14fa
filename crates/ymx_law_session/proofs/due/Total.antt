-- Every event has an answer.
use Rattle.std.proofs.Common.{◌≡◌, ℕ, suc, ◌+◌, ◌<◌, ◌≤◌, List, [], ◌∷◌, length, take, min, Bool, true, false, ◌==◌, refl, arith}
use Rattle.ymx_model.specs.session.Events.{Event}
use Rattle.ymx_model.specs.declared.types.Event.TheVariants as event
use Rattle.ymx_machine.specs.declared.types.Fed.{Fed}
use Rattle.ymx_machine.specs.shared.Events.{Reply}
use Rattle.ymx_machine.specs.declared.types.Reply.TheVariants.{Fed as FedReply, Emitted, Done}
use Rattle.ymx_model.specs.session.Sessions.{Session}
use Rattle.ymx_model.specs.session.Calls.{outcome, feed_end}
use Rattle.ymx_model.specs.session.Feeds.{Feeds, Takes, is_stuck, byte_comes, starves, why_of}
use Rattle.ymx_model.specs.session.Emissions.{in_turn}
use Rattle.ymx_model.specs.session.Histories.{Gives}
use Rattle.ymx_model.specs.session.Histories.CallGives.{Outcome}
use Rattle.ymx_law_session.specs.Limits.{IsWithin}
use Rattle.ymx_law_session.proofs.due.Ready.{emission}

-- how far a feed comes
record Comes (s : Session) (input : List ℕ) : Type 0 where
  taken : ℕ
  after : Session
  starved : ℕ
  fits : taken ≤ length input
  took : Takes (take taken input) s after starved
  stops : taken < length input → is_stuck after ≡ true

none-comes : (s : Session) (input : List ℕ) → is_stuck s ≡ true → Comes s input
none-comes s input e = record { taken = 0; after = s; starved = 0; fits = omega arith; took = (refl, refl); stops = λ l. e }

one-comes : (b : ℕ) (bs : List ℕ) (s : Session) → is_stuck s ≡ false → Comes (byte_comes false b s) bs → Comes s (b ∷ bs)
one-comes b bs s e more = record {
  taken = suc more.taken;
  after = more.after;
  starved = starves false b s s.incoming + more.starved;
  fits = omega (arith, more.fits);
  took = (false, more.starved, e, refl, more.took);
  stops = λ l. more.stops (omega arith);
}

by-stuck : (stuck : Bool) (b : ℕ) (bs : List ℕ) (s : Session) → is_stuck s ≡ stuck → Comes (byte_comes false b s) bs → Comes s (b ∷ bs)
by-stuck true b bs s e more = none-comes s (b ∷ bs) e
by-stuck false b bs s e more = one-comes b bs s e more

comes : (input : List ℕ) (s : Session) → Comes s input
comes [] s = record { taken = 0; after = s; starved = 0; fits = omega arith; took = (refl, refl); stops = λ l. absurd (omega arith) }
comes (b ∷ bs) s = by-stuck (is_stuck s) b bs s refl (comes bs (byte_comes false b s))

feeds-some : (s : Session) (bytes : List ℕ) → (fed : Fed) × (t : Session) × Feeds s bytes fed t
feeds-some s bytes =
    let c = comes bytes s in (
      record { taken = c.taken; no_memory = min c.starved 4294967295; why = why_of c.after.status (c.taken == length bytes) },
      c.after,
      record { fits = c.fits; took = (c.starved, c.took, refl); stops = c.stops; why = refl },
    )

pub gives-some : (s : Session) (event : Event) → IsWithin s → (reply : Reply) × (t : Session) × Gives in_turn s event reply t
gives-some s (event.Call call) w = ((outcome call s).reply, (outcome call s).next, Outcome refl refl)
gives-some s (event.Feed bytes) w = let f = feeds-some s bytes in (FedReply f.0, f.1, (f.0, refl, f.2))
gives-some s event.FeedEnd w = (Done, feed_end s, (refl, refl))
gives-some s (event.Emit room) w = let e = emission room s w in (Emitted e.out, e.after, (e.out, refl, e.emits))
