-- How an accept that waits ends.
use Rattle.std.proofs.Common.{◌≡◌, ℕ, ◌⊎◌, List, Bool, Option, Some, None, Result, Ok, Err, refl, sym, subst, inl, inr}
use Rattle.std.specs.Prelude.{MatchResult}
use Rattle.ymx_model.specs.declared.types.Entry.{Entry}
use Rattle.ymx_machine.specs.declared.types.CallFault.{CallFault}
use Rattle.ymx_machine.specs.declared.types.CallFault.TheVariants.{NoStream, Finished, Reset, Lost, Closed, PeerAway, OpensPending, TooMany, Exhausted, PingsPending, OutOfMemory}
use Rattle.ymx_machine.specs.declared.types.Reply.TheVariants.{Accepted, Refused}
use Rattle.ymx_seats.specs.Views.{SeatView}
use Rattle.ymx_hub.specs.declared.faults.HubFault.{HubFault}
use Rattle.ymx_hub.specs.declared.faults.HubFault.TheVariants.{Call}
use Rattle.ymx_hub.specs.Answers.{hub_fault_of}
use Rattle.ymx_hub.specs.Books.{Books, One, IsRefused, AcceptsOnce, to_accept}
use Rattle.ymx_hub.specs.Turns.{AreWaits, IsOver, AcceptsLast, AcceptsInTurns}
use Rattle.ymx_hub.proofs.Books.{books_weaker}
use Rattle.ymx_hub.proofs.Waits.{turns_end}

-- a refusal that is the hub's answer as it is
call_of : (why other : CallFault) → Call why ≡ hub_fault_of other → other ≡ why
call_of why NoStream e = cc
call_of why Finished e = cc
call_of why Reset e = cc
call_of why Lost e = cc
call_of why Closed e = cc
call_of why PeerAway e = cc
call_of why OpensPending e = cc
call_of why TooMany e = cc
call_of why Exhausted e = cc
call_of why PingsPending e = cc
call_of why (OutOfMemory _) e = cc

over_by : (seat : ℕ) (why : CallFault) (ds : List Entry) → IsOver why → IsRefused to_accept seat (Call why) ds → AcceptsLast seat (Ok None) ds
over_by seat why ds o (inl (inl e, n)) = cc
over_by seat why ds o (inl (inr e, n)) = cc
over_by seat why ds o (inr (other, e, h)) = (why, o, subst (λ (w : CallFault). One seat to_accept (Refused w) ds) (call_of why other e) h)

none_by : (seat : ℕ) (fault : HubFault) (ds : List Entry) → (fault ≡ Call Lost) ⊎ (fault ≡ Call Closed) → IsRefused to_accept seat fault ds → AcceptsLast seat (Ok None) ds
none_by seat fault ds (inl e) r = over_by seat Lost ds (inl refl) (subst (λ (f : HubFault). IsRefused to_accept seat f ds) e r)
none_by seat fault ds (inr e) r = over_by seat Closed ds (inr refl) (subst (λ (f : HubFault). IsRefused to_accept seat f ds) e r)

refused_by : (seat : ℕ) (fault : HubFault) (result : Result (Option (ℕ × SeatView × SeatView)) HubFault) (ds : List Entry) → MatchResult result (λ offer. (offer ≡ None) × ((fault ≡ Call Lost) ⊎ (fault ≡ Call Closed))) (λ same. same ≡ fault) → IsRefused to_accept seat fault ds → AcceptsLast seat result ds
refused_by seat fault (Ok offer) ds n r = subst (λ (o : Option (ℕ × SeatView × SeatView)). AcceptsLast seat (Ok o) ds) (sym n.0) (none_by seat fault ds n.1 r)
refused_by seat fault (Err same) ds n r = subst (λ (f : HubFault). IsRefused to_accept seat f ds) (sym n) r

-- waits, then the stream
pub accept_given : (keeps : Bool) (old mid new : SeatView) (made : ℕ × SeatView × SeatView) → Books keeps old mid (AreWaits old.number to_accept (Accepted None)) → Books keeps mid new (AcceptsOnce mid.number (Ok (Some made))) → Books keeps old new (AcceptsInTurns old.number (Ok (Some made)))
accept_given keeps old mid new made g h = turns_end keeps old mid new to_accept (Accepted None) (λ n. AcceptsLast n (Ok (Some made))) g h

-- waits, then the refusal
pub accept_refused : (keeps : Bool) (old mid new : SeatView) (fault : HubFault) (result : Result (Option (ℕ × SeatView × SeatView)) HubFault) → MatchResult result (λ offer. (offer ≡ None) × ((fault ≡ Call Lost) ⊎ (fault ≡ Call Closed))) (λ same. same ≡ fault) → Books keeps old mid (AreWaits old.number to_accept (Accepted None)) → Books keeps mid new (AcceptsOnce mid.number (Err fault)) → Books keeps old new (AcceptsInTurns old.number result)
accept_refused keeps old mid new fault result n g h =
    turns_end keeps old mid new to_accept (Accepted None) (λ k. AcceptsLast k result) g
    (books_weaker keeps mid new (IsRefused to_accept mid.number fault) (AcceptsLast mid.number result) (λ es r. refused_by mid.number fault result es n r) h)
