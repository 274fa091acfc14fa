-- A test whether two entries are the same. What an entry says is spelled as lists of numbers, from which it is read
-- back, and lists of numbers can be compared.
use Rattle.std.proofs.Common.{◌≡◌, ℕ, ◌-◌, ◌==◌, ◌&&◌, ◌≢◌, List, [], ◌∷◌, get_or, Bool, true, false, Option, Some, None, bytes_eq, refl, sym, ap, ap₂, ◌∙◌}
use Rattle.std.proofs.lemmas.Slice.Eq.{bytes_eq-Decides}
use Rattle.std.proofs.lemmas.Bool.{and_parts, and_from, false_from_ne_true}
use Rattle.ymx_header.specs.declared.fault.Fault.{Fault}
use Rattle.ymx_header.specs.declared.fault.Fault.TheVariants as fault
use Rattle.ymx_header.specs.Faults.{fault_number}
use Rattle.ymx_machine.specs.shared.Evidence.{evidence}
use Rattle.ymx_machine.specs.declared.types.CallFault.{CallFault}
use Rattle.ymx_machine.specs.declared.types.CallFault.TheVariants as refusal
use Rattle.ymx_machine.specs.declared.types.Wrote.{Wrote}
use Rattle.ymx_machine.specs.declared.types.Wrote.TheVariants as wrote
use Rattle.ymx_machine.specs.declared.types.Why.{Why}
use Rattle.ymx_machine.specs.declared.types.Why.TheVariants as why
use Rattle.ymx_machine.specs.shared.Events.{Call}
use Rattle.ymx_machine.specs.declared.types.Call.TheVariants as call
use Rattle.ymx_model.specs.session.Events.{Event}
use Rattle.ymx_model.specs.declared.types.Event.TheVariants as event
use Rattle.ymx_machine.specs.shared.Events.{Reply}
use Rattle.ymx_machine.specs.declared.types.Reply.TheVariants as reply
use Rattle.ymx_model.specs.declared.types.Entry.{Entry}

abbrev first : List ℕ → ℕ
first ns = get_or ns 0 0

abbrev second : List ℕ → ℕ
second ns = get_or ns 1 0

abbrev rest : List ℕ → List ℕ
rest [] = []
rest (n ∷ ns) = ns

-- ---- the faults, and why a feed stopped

-- the numbers of faults begin with 1
abbrev fault_from : ℕ → Fault
fault_from n =
    get_or
    (fault.BadVersion ∷ fault.UnknownType ∷ fault.BadSyn ∷ fault.StreamInUse ∷ fault.WindowExceeded
    ∷ fault.CreditOverflow ∷ fault.BadGoAwayCode ∷ fault.PeerSawProtocolError ∷ fault.PeerSawInternalError ∷ [])
    (n - 1) fault.BadVersion

fault_back : (f : Fault) → fault_from (fault_number f) ≡ f
fault_back fault.BadVersion = refl
fault_back _ = refl

abbrev spelled_why : Why → List ℕ
spelled_why why.All = 0 ∷ []
spelled_why why.Held = 1 ∷ []
spelled_why (why.Broken f) = 2 ∷ fault_number f ∷ []

abbrev why_from : List ℕ → Why
why_from ns = get_or (why.All ∷ why.Held ∷ why.Broken (fault_from (second ns)) ∷ []) (first ns) why.All

why_back : (w : Why) → why_from (spelled_why w) ≡ w
why_back why.All = refl
why_back why.Held = refl
why_back (why.Broken f) = ap why.Broken (fault_back f)

abbrev number_of_refusal : CallFault → ℕ
number_of_refusal refusal.NoStream = 0
number_of_refusal refusal.Finished = 1
number_of_refusal refusal.Reset = 2
number_of_refusal refusal.Lost = 3
number_of_refusal refusal.Closed = 4
number_of_refusal refusal.PeerAway = 5
number_of_refusal refusal.OpensPending = 6
number_of_refusal refusal.TooMany = 7
number_of_refusal refusal.Exhausted = 8
number_of_refusal refusal.PingsPending = 9
number_of_refusal (refusal.OutOfMemory _) = 10

abbrev refusal_from : ℕ → CallFault
refusal_from n =
    get_or
    (refusal.NoStream ∷ refusal.Finished ∷ refusal.Reset ∷ refusal.Lost ∷ refusal.Closed ∷ refusal.PeerAway
    ∷ refusal.OpensPending ∷ refusal.TooMany ∷ refusal.Exhausted ∷ refusal.PingsPending ∷ (refusal.OutOfMemory evidence) ∷ [])
    n refusal.NoStream

refusal_back : (f : CallFault) → refusal_from (number_of_refusal f) ≡ f
refusal_back (refusal.OutOfMemory _) = refl
refusal_back _ = refl

-- ---- calls and events

abbrev spelled_call : Call → List ℕ
spelled_call call.Open = 0 ∷ []
spelled_call (call.OpenWith bytes) = 1 ∷ bytes
spelled_call call.Accept = 2 ∷ []
spelled_call (call.Write id bytes) = 3 ∷ id ∷ bytes
spelled_call (call.Read id most) = 4 ∷ id ∷ most ∷ []
spelled_call (call.Finish id) = 5 ∷ id ∷ []
spelled_call (call.Reset id) = 6 ∷ id ∷ []
spelled_call (call.Forget id) = 7 ∷ id ∷ []
spelled_call call.Ping = 8 ∷ []
spelled_call (call.Ponged ping) = 9 ∷ ping ∷ []
spelled_call call.GoAway = 10 ∷ []
spelled_call call.Close = 11 ∷ []

abbrev call_at : ℕ → List ℕ → Call
call_at n ns =
    get_or
    (call.Open ∷ call.OpenWith ns ∷ call.Accept ∷ call.Write (first ns) (rest ns) ∷ call.Read (first ns) (second ns)
    ∷ call.Finish (first ns) ∷ call.Reset (first ns) ∷ call.Forget (first ns) ∷ call.Ping ∷ call.Ponged (first ns)
    ∷ call.GoAway ∷ call.Close ∷ [])
    n call.Open

abbrev call_from : List ℕ → Call
call_from ns = call_at (first ns) (rest ns)

call_back : (c : Call) → call_from (spelled_call c) ≡ c
call_back call.Open = refl
call_back _ = refl

abbrev spelled_event : Event → List ℕ
spelled_event (event.Call c) = 0 ∷ spelled_call c
spelled_event (event.Feed bytes) = 1 ∷ bytes
spelled_event event.FeedEnd = 2 ∷ []
spelled_event (event.Emit room) = 3 ∷ room ∷ []

abbrev event_at : ℕ → List ℕ → Event
event_at n ns = get_or (event.Call (call_from ns) ∷ event.Feed ns ∷ event.FeedEnd ∷ event.Emit (first ns) ∷ []) n event.FeedEnd

abbrev event_from : List ℕ → Event
event_from ns = event_at (first ns) (rest ns)

event_back : (a : Event) → event_from (spelled_event a) ≡ a
event_back (event.Call c) = ap event.Call (call_back c)
event_back (event.Feed bytes) = refl
event_back event.FeedEnd = refl
event_back (event.Emit room) = refl

-- ---- replies

abbrev spelled_id : Option ℕ → List ℕ
spelled_id None = []
spelled_id (Some id) = id ∷ []

abbrev id_from : List ℕ → Option ℕ
id_from [] = None
id_from (id ∷ ns) = Some id

id_back : (id : Option ℕ) → id_from (spelled_id id) ≡ id
id_back None = refl
id_back (Some id) = refl

abbrev spelled_wrote : Wrote → List ℕ
spelled_wrote (wrote.Took count) = 0 ∷ count ∷ []
spelled_wrote wrote.Wait = 1 ∷ []

abbrev wrote_from : List ℕ → Wrote
wrote_from ns = get_or (wrote.Took (second ns) ∷ wrote.Wait ∷ []) (first ns) wrote.Wait

wrote_back : (w : Wrote) → wrote_from (spelled_wrote w) ≡ w
wrote_back (wrote.Took count) = refl
wrote_back wrote.Wait = refl

abbrev number_of_test : Bool → ℕ
number_of_test false = 0
number_of_test true = 1

test_back : (b : Bool) → (number_of_test b == 1) ≡ b
test_back false = refl
test_back true = refl

abbrev spelled_reply : Reply → List ℕ
spelled_reply (reply.Opened id) = 0 ∷ id ∷ []
spelled_reply (reply.OpenedWith id count) = 1 ∷ id ∷ count ∷ []
spelled_reply (reply.Accepted id) = 2 ∷ spelled_id id
spelled_reply (reply.Wrote w) = 3 ∷ spelled_wrote w
spelled_reply (reply.Read bytes) = 4 ∷ bytes
spelled_reply reply.ReadEnd = 5 ∷ []
spelled_reply reply.ReadWait = 6 ∷ []
spelled_reply reply.Done = 7 ∷ []
spelled_reply (reply.Pinged ping) = 8 ∷ ping ∷ []
spelled_reply (reply.Ponged back) = 9 ∷ number_of_test back ∷ []
spelled_reply (reply.Refused f) = 10 ∷ number_of_refusal f ∷ []
spelled_reply (reply.Fed f) = 11 ∷ f.taken ∷ f.no_memory ∷ spelled_why f.why
spelled_reply (reply.Emitted bytes) = 12 ∷ bytes

abbrev fed_from : List ℕ → Reply
fed_from ns = reply.Fed (record { taken = first ns; no_memory = second ns; why = why_from (rest (rest ns)) })

abbrev reply_at : ℕ → List ℕ → Reply
reply_at n ns =
    get_or
    (reply.Opened (first ns) ∷ reply.OpenedWith (first ns) (second ns) ∷ reply.Accepted (id_from ns)
    ∷ reply.Wrote (wrote_from ns) ∷ reply.Read ns ∷ reply.ReadEnd ∷ reply.ReadWait ∷ reply.Done
    ∷ reply.Pinged (first ns) ∷ reply.Ponged (first ns == 1) ∷ reply.Refused (refusal_from (first ns)) ∷ fed_from ns
    ∷ reply.Emitted ns ∷ [])
    n reply.Done

abbrev reply_from : List ℕ → Reply
reply_from ns = reply_at (first ns) (rest ns)

reply_back : (t : Reply) → reply_from (spelled_reply t) ≡ t
reply_back (reply.Accepted id) = ap reply.Accepted (id_back id)
reply_back (reply.Wrote w) = ap reply.Wrote (wrote_back w)
reply_back (reply.Ponged back) = ap reply.Ponged (test_back back)
reply_back (reply.Refused f) = ap reply.Refused (refusal_back f)
reply_back (reply.Fed f) = ap (λ (w : Why). reply.Fed (record { taken = f.taken; no_memory = f.no_memory; why = w })) (why_back f.why)
reply_back _ = refl

-- ---- entries

-- what an entry says beside its event and its reply
abbrev spelled_place : Entry → List ℕ
spelled_place e = e.position ∷ e.seat ∷ []

-- the entry that says this
abbrev entry_from : List ℕ → List ℕ → List ℕ → Entry
entry_from place asked told = record { position = first place; seat = second place; event = event_from asked; reply = reply_from told }

entry_back : (e : Entry) → entry_from (spelled_place e) (spelled_event e.event) (spelled_reply e.reply) ≡ e
entry_back e =
    ap₂ (λ (a : Event) (t : Reply). record { position = e.position; seat = e.seat; event = a; reply = t }) (event_back e.event) (reply_back e.reply)

-- whether two entries are the same
pub is_same : Entry → Entry → Bool
is_same a b = bytes_eq (spelled_place a) (spelled_place b) && (bytes_eq (spelled_event a.event) (spelled_event b.event) && bytes_eq (spelled_reply a.reply) (spelled_reply b.reply))

pub same_is : (a b : Entry) → is_same a b ≡ true → a ≡ b
unfolding is_same
same_is a b t =
    let h = and_parts (bytes_eq (spelled_place a) (spelled_place b)) (bytes_eq (spelled_event a.event) (spelled_event b.event) && bytes_eq (spelled_reply a.reply) (spelled_reply b.reply)) t in
    let k = and_parts (bytes_eq (spelled_event a.event) (spelled_event b.event)) (bytes_eq (spelled_reply a.reply) (spelled_reply b.reply)) h.1 in
    let place = (bytes_eq-Decides (spelled_place a) (spelled_place b)).0 h.0 in
    let asked = (bytes_eq-Decides (spelled_event a.event) (spelled_event b.event)).0 k.0 in
    let told = (bytes_eq-Decides (spelled_reply a.reply) (spelled_reply b.reply)).0 k.1 in
    sym (entry_back a)
    ∙ (ap (λ ns. entry_from ns (spelled_event a.event) (spelled_reply a.reply)) place
    ∙ (ap₂ (entry_from (spelled_place b)) asked told ∙ entry_back b))

pub same_as_itself : (a : Entry) → is_same a a ≡ true
unfolding is_same
same_as_itself a =
    and_from _ _ ((bytes_eq-Decides (spelled_place a) (spelled_place a)).1 refl)
    (and_from _ _ ((bytes_eq-Decides (spelled_event a.event) (spelled_event a.event)).1 refl)
    ((bytes_eq-Decides (spelled_reply a.reply) (spelled_reply a.reply)).1 refl))

pub not_same : (a b : Entry) → a.position ≢ b.position → is_same a b ≡ false
not_same a b h = false_from_ne_true (is_same a b) (λ t. h (ap (λ (e : Entry). e.position) (same_is a b t)))
