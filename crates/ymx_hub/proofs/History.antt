-- One more entry keeps the history.
use Rattle.std.proofs.Common.{◌≡◌, ℕ, ◌+◌, List, [], ◌∷◌, ◌++◌, length, ◌⊎◌, inl, inr, Bool, true, false, refl, sym, subst, ◌∙◌, append-nil, arith}
use Rattle.ymx_model.specs.session.Events.{Event}
use Rattle.ymx_machine.specs.shared.Events.{Reply}
use Rattle.ymx_model.specs.declared.types.Entry.{Entry}
use Rattle.ymx_model.specs.declared.types.Role.{Role}
use Rattle.ymx_model.specs.declared.types.Config.{Config}
use Rattle.ymx_model.specs.session.Sessions.{Session, new_session}
use Rattle.ymx_model.specs.session.Emissions.{in_turn}
use Rattle.ymx_model.specs.session.Histories.{Gives, ReplaysFrom}
use Rattle.ymx_seats.specs.Transcripts.{IsNew, IsGood, IsReplayable}
use Rattle.ymx_seats.specs.Views.{kept_entries, entry}
use Rattle.ymx_machine.specs.declared.types.CallFault.TheVariants.{Closed}
use Rattle.ymx_hub.specs.Answers.{IsSeatFault, refused_seat}
use Rattle.ymx_hub.specs.Booked.{Kept}
use Rattle.ymx_hub.specs.declared.faults.HubFault.{HubFault}
use Rattle.ymx_hub.specs.declared.faults.HubFault.TheVariants.{Call, Seats}

pub replays_more : (at : ℕ) (es : List Entry) (e : Entry) (s t u : Session) → ReplaysFrom in_turn at es s t → e.position ≡ at + length es → Gives in_turn t e.event e.reply u → ReplaysFrom in_turn at (es ++ e ∷ []) s u
replays_more at [] e s t u r p h = (omega (arith, p), (u, subst (λ (v : Session). Gives in_turn v e.event e.reply u) r h, refl))
replays_more at (x ∷ xs) e s t u r p h = (r.0, (r.1.0, r.1.1, replays_more (at + 1) xs e r.1.0 t u r.1.2 (omega (arith, p)) h))

-- a session that has done nothing is the one of its role, window and next id
pub of_new : (s : Session) → IsNew s → s ≡ new_session s.role s.table.window s.next
of_new s n = subst (λ (z : Session). z ≡ new_session z.role z.table.window z.next) (sym n.made) refl

pub kept_new : (keeps : Bool) (role : Role) (config : Config) (es : List Entry) (s : Session) → IsNew s → es ≡ [] → role ≡ s.role → config.window ≡ s.table.window → config.first ≡ s.next → Kept keeps false role config es s
kept_new true role config es s n e r w f = rw (e, r, w, f) (of_new s n)
kept_new false role config es s n e r w f = (e, refl)

pub kept_after : (keeps over : Bool) (role : Role) (config : Config) (es : List Entry) (s t : Session) (n : ℕ) (a : Event) (r : Reply) → Kept keeps over role config es s → Gives in_turn s a r t → Kept keeps over role config (es ++ kept_entries keeps (entry (length es) n a r)) t
kept_after true true role config es s t n a r k h = tt
kept_after true false role config es s t n a r k h = replays_more 0 es (entry (length es) n a r) (new_session role config.window config.first) s t k (omega arith) h
kept_after false over role config es s t n a r k h = (append-nil es ∙ k.0, k.1)

pub kept_twice : (keeps over : Bool) (role : Role) (config : Config) (es mid last : List Entry) (s t u : Session) (n : ℕ) (a : Event) (r : Reply) (m : ℕ) (b : Event) (q : Reply) → Kept keeps over role config es s → Gives in_turn s a r t → mid ≡ es ++ kept_entries keeps (entry (length es) n a r) → Gives in_turn t b q u → last ≡ mid ++ kept_entries keeps (entry (length mid) m b q) → Kept keeps over role config last u
kept_twice keeps over role config es mid last s t u n a r m b q k g e h d =
    subst (λ (xs : List Entry). Kept keeps over role config xs u) (sym d)
    (kept_after keeps over role config mid t u m b q (subst (λ (xs : List Entry). Kept keeps over role config xs t) (sym e) (kept_after keeps over role config es s t n a r k g)) h)

-- no entries are the history of a session that has done nothing
no_entries : (role : Role) (config : Config) (es : List Entry) → es ≡ [] → IsGood role config → IsReplayable (record { role = role; config = config; entries = es })
no_entries role config es e g = record {
  good = g;
  session = new_session role config.window config.first;
  history = rw e refl;
}

-- what is kept until the end can be replayed
pub kept_replays : (keeps over : Bool) (role : Role) (config : Config) (es : List Entry) (s : Session) → Kept keeps over role config es s → over ≡ false → IsGood role config → IsReplayable (record { role = role; config = config; entries = es })
kept_replays true true role config es s k o g = cc
kept_replays true false role config es s k o g = record { good = g; session = s; history = k }
kept_replays false over role config es s k o g = no_entries role config es k.0 g

-- once the entries are moved out, none are kept
pub kept_none : (keeps : Bool) (role : Role) (config : Config) (es : List Entry) (s : Session) → keeps ≡ true → Kept keeps true role config es s
kept_none true role config es s k = tt
kept_none false role config es s k = cc

-- no seat is left, as no transcript is handed out where nothing is kept
pub no_seat : (keeps over : Bool) (role : Role) (config : Config) (es : List Entry) (s : Session) (fault : HubFault) → Kept keeps over role config es s →
    ((fault ≡ Call Closed) × (over ≡ true)) ⊎ (fault ≡ Seats refused_seat) → IsSeatFault keeps fault
no_seat true over role config es s fault k (inl closed) = inl closed.0
no_seat true over role config es s fault k (inr none) = inr none
no_seat false over role config es s fault k (inl closed) = cc
no_seat false over role config es s fault k (inr none) = none
