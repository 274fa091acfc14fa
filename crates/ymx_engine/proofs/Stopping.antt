-- That of the bytes which are fed at once none stands after a header that takes the last place.
use Rattle.std.proofs.Common.{◌≡◌, ◌⊎◌, inl, inr, ℕ, ◌+◌, ◌-◌, ◌*◌, ◌<◌, ◌≤◌, ◌==◌, ◌||◌, ◌&&◌, List, [], ◌∷◌, ◌++◌, length, length-append, take, drop, max, min, not, Bool, true, false, Option, None, Some, refl, sym, ap, ◌∙◌, subst, arith, if◌then◌else◌, nat_lt}
use Rattle.std.proofs.lemmas.Bool.Decides.{nat_tests}
use Rattle.std.proofs.lemmas.Grind.{common_steps}
use Rattle.ymx_header.specs.declared.fault.Fault.{Fault}
use Rattle.ymx_header.specs.declared.fault.Fault.TheVariants.{BadGoAwayCode, PeerSawProtocolError, PeerSawInternalError}
use Rattle.ymx_header.specs.declared.header.Header.{Header}
use Rattle.ymx_header.specs.Headers.{header_of, has_syn, has_fin, has_rst}
use Rattle.ymx_machine.specs.declared.types.Fed.{Fed}
use Rattle.ymx_machine.specs.declared.types.Reply.TheVariants as reply
use Rattle.ymx_machine.specs.shared.Lists.{look, drop_id}
use Rattle.ymx_machine.specs.shared.Phases.{is_offered}
use Rattle.ymx_machine.proofs.Lists.{length-change, length-without}
use Rattle.ymx_machine.proofs.Tests.{split, agrees, not_lt}
use Rattle.ymx_model.specs.declared.types.Event.TheVariants as event
use Rattle.ymx_model.specs.declared.types.Response.TheVariants.{Pong, Reject}
use Rattle.ymx_model.specs.declared.types.Status.{Status}
use Rattle.ymx_model.specs.declared.types.Status.TheVariants.{Running, Lost, Broken, Closed}
use Rattle.ymx_model.specs.session.Arrivals.{answers_with, ping_comes, go_away_comes, payload, expects, reset_comes, acknowledges, take_head, meets, unless_fault, meets_some, record_fault, offer, session_refuses, syn_fault, syn_comes, header_fault, head_comes, piece_comes}
use Rattle.ymx_model.specs.session.Emissions.{in_turn}
use Rattle.ymx_model.specs.session.Feeds.{Takes, byte_comes, byte_in, is_between}
use Rattle.ymx_model.specs.session.GoAway.{receive_away}
use Rattle.ymx_model.specs.session.Histories.{Gives}
use Rattle.ymx_model.specs.session.Pings.{receive_answer}
use Rattle.ymx_model.specs.session.Records.{End, receive_rst, receive_piece}
use Rattle.ymx_model.specs.session.Sessions.{Session, Incoming, breaks, is_deaf, is_own, is_running, on_stream, is_spent, reap}
use Rattle.ymx_model.specs.session.Sessions.Incoming.{Head, Payload}
use Rattle.ymx_model.specs.session.Tables.{insert_record, remove_record}
use Rattle.ymx_session.specs.Opens.{records_left}
use Rattle.ymx_session.specs.Passing.{FeedsSome}
use Rattle.ymx_session.specs.Streams.{payload_left}
use Rattle.ymx_engine.specs.Engines.{Engine}
use Rattle.ymx_engine.proofs.Advancing.{takes_same}
use Rattle.ymx_engine.specs.Places.{limit_at, feed_limit, is_full_between, StopsWhereFull, FeedsToFull}

-- ---- a header makes one record at most

-- there are at most so many records, and no part of a header has come
abbrev Opens : ℕ → Session → Type 0
Opens most s = (length s.table.entries ≤ most) × ((places : ℕ) → 12 * places ≤ limit_at s.incoming places)

start : (places : ℕ) → 12 * places ≤ limit_at (Head []) places
start places = omega arith

within : (id missing : ℕ) (fin discarded : Bool) (places : ℕ) → 12 * places ≤ limit_at (Payload id missing fin discarded) places
within id missing fin discarded places = omega arith

opens_expects : (most : ℕ) (h : Header) (discarded : Bool) (s : Session) → Opens most s → Opens most (expects h discarded s)
opens_expects most h discarded s o = split (Opens most) (payload h == 0) s (record s { incoming = Payload h.id (payload h) (has_fin h) discarded }) (λ e. o) (λ e. (o.0, within h.id (payload h) (has_fin h) discarded))

opens_change : (most id : ℕ) (f : End → End) (s : Session) → Opens most s → Opens most (on_stream id f s)
opens_change most id f s o = let same = length-change id f s.table.entries in let few = o.0 in (omega (arith, same, few), o.1)

opens_reaped : (most id : ℕ) (s : Session) → Opens most s → Opens most (reap id s)
opens_reaped most id s o =
    split (Opens most) (is_spent s.table.window s.outgoing id (look id s.table.entries)) (record s { table = remove_record id s.table }) s
    (λ e. let fewer = length-without id s.table.entries in let few = o.0 in (omega (arith, fewer, few), o.1)) (λ e. o)

opens_reset : (most id : ℕ) (e : End) (s : Session) → Opens most s → Opens most (reset_comes id e s)
opens_reset most id e s o =
    split (Opens most) (is_offered e.phase) (record s { table = remove_record id s.table; offered = drop_id id s.offered }) (reap id (on_stream id receive_rst s))
    (λ x. let fewer = length-without id s.table.entries in let few = o.0 in (omega (arith, fewer, few), o.1))
    (λ x. opens_reaped most id (on_stream id receive_rst s) (opens_change most id receive_rst s o))

opens_meets : (most : ℕ) (h : Header) (e : End) (s : Session) → Opens most s → Opens most (meets h e s)
opens_meets most h e s o =
    let own = is_own s.role h.id in
    split (Opens most) (has_rst h) (expects h true (reset_comes h.id e (on_stream h.id (acknowledges own h) s))) (expects h false (on_stream h.id (take_head own h) s))
    (λ x. opens_expects most h true (reset_comes h.id e (on_stream h.id (acknowledges own h) s)) (opens_reset most h.id e (on_stream h.id (acknowledges own h) s) (opens_change most h.id (acknowledges own h) s o)))
    (λ x. opens_expects most h false (on_stream h.id (take_head own h) s) (opens_change most h.id (take_head own h) s o))

opens_unless : (most : ℕ) (fault : Option Fault) (s t : Session) → Opens most s → Opens most t → Opens most (unless_fault fault s t)
opens_unless most None s t o p = p
opens_unless most (Some fault) s t o p = o

opens_some : (most : ℕ) (h : Header) (found : Option End) (s : Session) → Opens most s → Opens most (meets_some h found s)
opens_some most h None s o = opens_expects most h true s o
opens_some most h (Some e) s o = opens_unless most (record_fault h e) s (meets h e s) o (opens_meets most h e s o)

more : (most : ℕ) (s : Session) → Opens most s → Opens (most + 1) s
more most s o = let few = o.0 in (omega (arith, few), o.1)

opens_syn : (most : ℕ) (no_memory : Bool) (h : Header) (s : Session) → Opens most s → Opens (most + 1) (syn_comes no_memory h s)
opens_syn most no_memory h s o =
    let made = record s { table = insert_record h.id (offer s) s.table; offered = s.offered ++ h.id ∷ [] } in
    let one_more = length-append s.table.entries ((h.id, offer s) ∷ []) in
    let few = o.0 in
    opens_unless (most + 1) (syn_fault h s) s (if session_refuses s || no_memory then expects h true (answers_with (Reject h.id) s) else meets h (offer s) made) (more most s o)
    (split (Opens (most + 1)) (session_refuses s || no_memory) (expects h true (answers_with (Reject h.id) s)) (meets h (offer s) made)
    (λ x. opens_expects (most + 1) h true (answers_with (Reject h.id) s) (more most s o))
    (λ x. opens_meets (most + 1) h (offer s) made (omega (arith, one_more, few), o.1)))

opens_away : (most : ℕ) (h : Header) (s : Session) → Opens most s → Opens most (go_away_comes h s)
opens_away most h s o =
    let heard : Session = record s { away = receive_away s.away } in
    let told : Session = if h.length == 2 then breaks PeerSawInternalError s else heard in
    let seen : Session = if h.length == 1 then breaks PeerSawProtocolError s else told in
    split (Opens most) (nat_lt 2 h.length) (breaks BadGoAwayCode s) seen (λ x. o)
    (λ x. split (Opens most) (h.length == 1) (breaks PeerSawProtocolError s) told (λ y. o) (λ y. split (Opens most) (h.length == 2) (breaks PeerSawInternalError s) heard (λ z. o) (λ z. o)))

opens_ping : (most : ℕ) (h : Header) (s : Session) → Opens most s → Opens most (ping_comes h s)
opens_ping most h s o = split (Opens most) (has_syn h) (answers_with (Pong h.length) s) (record s { pings = receive_answer h.length s.pings }) (λ x. o) (λ x. o)

opens_head : (most : ℕ) (no_memory : Bool) (h : Header) (s : Session) → Opens most s → Opens (most + 1) (head_comes no_memory h s)
opens_head most no_memory h s o =
    let other = if has_syn h then syn_comes no_memory h s else meets_some h (look h.id s.table.entries) s in
    let away = if h.kind == 3 then go_away_comes h s else other in
    opens_unless (most + 1) (header_fault h s) s (if h.kind == 2 then ping_comes h s else away) (more most s o)
    (split (Opens (most + 1)) (h.kind == 2) (ping_comes h s) away (λ x. more most (ping_comes h s) (opens_ping most h s o))
    (λ x. split (Opens (most + 1)) (h.kind == 3) (go_away_comes h s) other (λ y. more most (go_away_comes h s) (opens_away most h s o))
    (λ y. split (Opens (most + 1)) (has_syn h) (syn_comes no_memory h s) (meets_some h (look h.id s.table.entries) s) (λ z. opens_syn most no_memory h s o)
    (λ z. more most (meets_some h (look h.id s.table.entries) s) (opens_some most h (look h.id s.table.entries) s o)))))

-- ---- a byte

-- One byte less may be fed at once after it. After one that isn't the last of these no frame lacks a place.
record Falls (s t : Session) : Type 0 where
  pub less : feed_limit s ≤ feed_limit t + 1
  pub last : 1 < feed_limit s → is_full_between t ≡ false

pub one_off : (a b c : Bool) → (a ≡ false) ⊎ ((b ≡ false) ⊎ (c ≡ false)) → (a && b && c) ≡ false
one_off false b c h = refl
one_off true false c h = refl
one_off true true false h = refl
one_off true true true (inl e) = e
one_off true true true (inr (inl e)) = e
one_off true true true (inr (inr e)) = e

has_place : (t : Session) → 0 < records_left t → is_full_between t ≡ false
has_place t some = one_off (is_running t.status) (is_between t.incoming) (records_left t == 0) (inr (inr (grind (arith, nat_tests, some))))

is_inside : (t : Session) → is_between t.incoming ≡ false → is_full_between t ≡ false
is_inside t e = one_off (is_running t.status) (is_between t.incoming) (records_left t == 0) (inr (inl e))

within_header : (xs : List ℕ) (b : ℕ) → is_between (Head (xs ++ b ∷ [])) ≡ false
within_header [] b = refl
within_header (x ∷ xs) b = refl

falls_whole : (seen : List ℕ) (s t : Session) → s.incoming ≡ Head seen → length seen ≡ 11 → Opens (length s.table.entries + 1) t → Falls s t
falls_whole seen s t e all o =
    let limit : limit_at s.incoming (records_left s) ≡ 12 * max 1 (records_left s) - length seen = ap (λ (i : Incoming). limit_at i (records_left s)) e in
    let some = o.1 (records_left t) in
    let few = o.0 in
    record { less = omega (arith, limit, some, few, all); last = λ many. has_place t (omega (arith, limit, few, all, many)) }

falls_begun : (b : ℕ) (seen : List ℕ) (s : Session) → s.incoming ≡ Head seen → Falls s (record s { incoming = Head (seen ++ b ∷ []) })
falls_begun b seen s e =
    let limit : limit_at s.incoming (records_left s) ≡ 12 * max 1 (records_left s) - length seen = ap (λ (i : Incoming). limit_at i (records_left s)) e in
    let longer = length-append seen (b ∷ []) in
    record { less = omega (arith, limit, longer); last = λ many. is_inside (record s { incoming = Head (seen ++ b ∷ []) }) (within_header seen b) }

falls_on : (id missing : ℕ) (fin discarded : Bool) (s t : Session) → s.incoming ≡ Payload id missing fin discarded → t.incoming ≡ Payload id (missing - 1) fin discarded → length t.table.entries ≡ length s.table.entries → Falls s t
falls_on id missing fin discarded s t e f same =
    let limit : limit_at s.incoming (records_left s) ≡ missing + 12 * records_left s = ap (λ (i : Incoming). limit_at i (records_left s)) e in
    let next : limit_at t.incoming (records_left t) ≡ missing - 1 + 12 * records_left t = ap (λ (i : Incoming). limit_at i (records_left t)) f in
    record { less = omega (arith, limit, next, same); last = λ many. is_inside t (ap is_between f) }

falls_end : (id missing : ℕ) (fin discarded : Bool) (s t : Session) → s.incoming ≡ Payload id missing fin discarded → missing ≤ 1 → t.incoming ≡ Head [] → length t.table.entries ≡ length s.table.entries → Falls s t
falls_end id missing fin discarded s t e one f same =
    let limit : limit_at s.incoming (records_left s) ≡ missing + 12 * records_left s = ap (λ (i : Incoming). limit_at i (records_left s)) e in
    let next : limit_at t.incoming (records_left t) ≡ 12 * max 1 (records_left t) - 0 = ap (λ (i : Incoming). limit_at i (records_left t)) f in
    record { less = omega (arith, limit, next, same, one); last = λ many. has_place t (omega (arith, limit, same, one, many)) }

-- which of the two a piece of a payload leaves
piece_left : (b id missing : ℕ) (fin discarded : Bool) (s : Session) → (piece_comes (b ∷ []) id missing fin discarded s).incoming ≡ if nat_lt 1 missing then Payload id (missing - 1) fin discarded else Head []
piece_left b id missing fin true s = refl
piece_left b id missing fin false s = refl

piece_records : (b id missing : ℕ) (fin discarded : Bool) (s : Session) → length (piece_comes (b ∷ []) id missing fin discarded s).table.entries ≡ length s.table.entries
piece_records b id missing fin true s = refl
piece_records b id missing fin false s = length-change id (receive_piece (fin && not (nat_lt 1 missing)) (b ∷ [])) s.table.entries

falls_piece : (more : Bool) (id missing : ℕ) (fin discarded : Bool) (s t : Session) → nat_lt 1 missing ≡ more → s.incoming ≡ Payload id missing fin discarded → t.incoming ≡ (if more then Payload id (missing - 1) fin discarded else Head []) → length t.table.entries ≡ length s.table.entries → Falls s t
falls_piece true id missing fin discarded s t h e f same = falls_on id missing fin discarded s t e f same
falls_piece false id missing fin discarded s t h e f same = falls_end id missing fin discarded s t e (not_lt 1 missing h) f same

byte_in_falls : (no_memory : Bool) (b : ℕ) (s : Session) (i : Incoming) → s.incoming ≡ i → Falls s (byte_in no_memory b s i)
byte_in_falls no_memory b s (Head seen) e =
    split (Falls s) (length seen == 11) (head_comes no_memory (header_of (seen ++ b ∷ [])) (record s { incoming = Head [] })) (record s { incoming = Head (seen ++ b ∷ []) })
    (λ x. falls_whole seen s (head_comes no_memory (header_of (seen ++ b ∷ [])) (record s { incoming = Head [] })) e (agrees (length seen) 11 x)
    (opens_head (length s.table.entries) no_memory (header_of (seen ++ b ∷ [])) (record s { incoming = Head [] }) (omega arith, start)))
    (λ x. falls_begun b seen s e)
byte_in_falls no_memory b s (Payload id missing fin discarded) e =
    falls_piece (nat_lt 1 missing) id missing fin discarded s (piece_comes (b ∷ []) id missing fin discarded s) refl e (piece_left b id missing fin discarded s) (piece_records b id missing fin discarded s)

deaf_stops : (status : Status) → is_deaf status ≡ true → is_running status ≡ false
deaf_stops Running e = cc
deaf_stops Lost e = refl
deaf_stops (Broken fault) e = refl
deaf_stops Closed e = refl

falls_deaf : (s : Session) → is_deaf s.status ≡ true → Falls s s
falls_deaf s d = let off = deaf_stops s.status d in record { less = omega arith; last = λ many. one_off (is_running s.status) (is_between s.incoming) (records_left s == 0) (inl off) }

byte_falls : (no_memory : Bool) (b : ℕ) (s : Session) → Falls s (byte_comes no_memory b s)
byte_falls no_memory b s = split (Falls s) (is_deaf s.status) s (byte_in no_memory b s s.incoming) (λ d. falls_deaf s d) (λ d. byte_in_falls no_memory b s s.incoming refl)

-- ---- a feed

is_last : (b : ℕ) (bs : List ℕ) (s t : Session) → Falls s t → length (b ∷ bs) ≤ feed_limit s → is_full_between t ≡ true → bs ≡ []
is_last b [] s t f few full = refl
is_last b (c ∷ bs) s t f few full = let no : true ≡ false = sym full ∙ f.last (omega arith) in absurd cc

takes_placed : (bytes : List ℕ) (s t : Session) (starved : ℕ) → Takes bytes s t starved → length bytes ≤ feed_limit s → StopsWhereFull bytes s t
takes_placed [] s t starved took few = took.0
takes_placed (b ∷ bs) s t starved (no_memory, rest, free, e, took) few =
    let falls = byte_falls no_memory b s in
    let less = falls.less in
    (no_memory, is_last b bs s (byte_comes no_memory b s) falls few, takes_placed bs (byte_comes no_memory b s) t rest took (omega arith))

gives_placed : (input : List ℕ) (s t : Session) (told : Fed) → Gives in_turn s (event.Feed input) (reply.Fed told) t → told.taken ≤ feed_limit s → StopsWhereFull (take told.taken input) s t
gives_placed input s t told g few =
    let same : told ≡ g.0 = cc in
    let short : length (take told.taken input) ≤ told.taken = grind (arith, common_steps) in
    takes_placed (take told.taken input) s t ((g.2).took).0 (subst (λ (f : Fed). Takes (take f.taken input) s t ((g.2).took).0) (sym same) ((g.2).took).1) (omega arith)

-- so it is of a feed of what waits
pub feeds_placed : (e f : Engine) (told : Fed) (s : Session) (waits : List ℕ) → FeedsSome e.session e.incoming told s → waits ≡ drop told.taken e.incoming → told.taken ≤ feed_limit e.session → f.session ≡ s → f.incoming ≡ waits → FeedsToFull e f
feeds_placed e f told s waits x rest few same left = record {
  count = told.taken;
  came = subst (λ (v : List ℕ). StopsWhereFull v e.session f.session) (takes_same e.session s e.incoming told x) (subst (λ (t : Session). StopsWhereFull (take told.taken (take x.count e.incoming)) e.session t) (sym same) (gives_placed (take x.count e.incoming) e.session s told x.feeds few));
  rest = left ∙ rest;
}

-- no more than lacks of a payload
rest_fits : (i : Incoming) (places most count : ℕ) → count ≤ min most (max (payload_left i) 1) → count ≤ max 1 (limit_at i places)
rest_fits (Head begun) places most count few = omega arith
rest_fits (Payload id missing fin discarded) places most count few = omega arith

pub payload_fits : (s : Session) (left lack most count taken : ℕ) → left ≡ payload_left s.incoming → lack ≡ max left 1 → count ≡ min most lack → taken ≤ count → taken ≤ feed_limit s
payload_fits s left lack most count taken e f g few = rest_fits s.incoming (records_left s) most taken (omega arith)
