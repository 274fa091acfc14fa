-- What is noted of the streams that what comes changes.
use Rattle.std.proofs.Common.{◌≡◌, ◌≢◌, ◌⊎◌, ℕ, ◌+◌, ◌<◌, ◌≤◌, ◌==◌, nat_eq, nat_lt, List, [], ◌∷◌, ◌++◌, length, Bool, true, false, ◌||◌, if◌then◌else◌, Option, None, Some, refl, sym, ap, ◌∙◌, inl, inr, append_assoc, append-nil, length-append, arith}
use Rattle.std.proofs.lemmas.Bool.Decides.{nat_tests}
use Rattle.std.proofs.lemmas.List.Folds.{list_any-append}
use Rattle.std.specs.List.{list_any}
use Rattle.ymx_header.specs.declared.header.Header.{Header}
use Rattle.ymx_header.specs.declared.fault.Fault.{Fault}
use Rattle.ymx_header.specs.Headers.{has_syn}
use Rattle.ymx_machine.specs.shared.Limits.{most_records}
use Rattle.ymx_machine.specs.shared.Lists.{look}
use Rattle.ymx_model.specs.session.Records.{receive_piece}
use Rattle.ymx_model.specs.session.Tables.{Table, with_record}
use Rattle.ymx_model.specs.session.Sessions.{Session, Incoming}
use Rattle.ymx_model.specs.session.Sessions.Incoming.{Head}
use Rattle.ymx_model.specs.session.Arrivals.{header_fault, head_comes}
use Rattle.ymx_machine.proofs.Tests.{split}
use Rattle.ymx_machine.proofs.Lists.{look-change_other}
use Rattle.ymx_law_session.proofs.limits.FramesKeep.{unless_fault-keeps}
use Rattle.ymx_law_session.proofs.nothing_else.Others.{head-others}
use Rattle.ymx_law_session.proofs.nothing_else.Alone.{stream_frame, session_frame}
use Rattle.ymx_header.proofs.Frames.{good}
use Rattle.ymx_session.specs.Touched.{Noted, is_noted, note, note_head, StaysNoted, NotesChanges}

-- ---- what was noted stays so

pub stays-same : (t : Noted) → StaysNoted t t
stays-same t = record { ids = ([], sym (append-nil t.ids)); all = λ a. a; ponged = λ a. a; blind = refl; full = λ a. inl a }

pub note-stays : (id : ℕ) (t : Noted) → StaysNoted t (note id t)
note-stays id t =
    split (StaysNoted t) (is_noted id t) t (if nat_lt (length t.ids) most_records then record t { ids = t.ids ++ id ∷ [] } else record t { all = true }) (λ e. stays-same t) (λ e.
    split (StaysNoted t) (nat_lt (length t.ids) most_records) (record t { ids = t.ids ++ id ∷ [] }) (record t { all = true })
    (λ f. record { ids = (id ∷ [], refl); all = λ a. a; ponged = λ a. a; blind = refl; full = λ a. inl a })
    (λ f. record { ids = ([], sym (append-nil t.ids)); all = λ a. refl; ponged = λ a. a; blind = refl; full = λ a. inr (grind (arith, nat_tests)) }))

pub stays-on : (s t u : Noted) → StaysNoted s t → StaysNoted t u → StaysNoted s u
stays-on s t u a b =
    let more : u.ids ≡ s.ids ++ (a.ids.0 ++ b.ids.0) = b.ids.1 ∙ ap (λ (x : List ℕ). x ++ b.ids.0) a.ids.1 ∙ append_assoc s.ids a.ids.0 b.ids.0 in
    let long : length u.ids ≡ length t.ids + length b.ids.0 = ap length b.ids.1 ∙ length-append t.ids b.ids.0 in
    record {
      ids = (a.ids.0 ++ b.ids.0, more);
      all = λ x. b.all (a.all x);
      ponged = λ x. b.ponged (a.ponged x);
      blind = b.blind ∙ a.blind;
      full = λ x. of long (b.full x);
    }
  where
    of : length u.ids ≡ length t.ids + length b.ids.0 → (t.all ≡ true) ⊎ (most_records ≤ length u.ids) → (s.all ≡ true) ⊎ (most_records ≤ length u.ids)
    of long (inl x) = before (a.full x)
      where
        before : (s.all ≡ true) ⊎ (most_records ≤ length t.ids) → (s.all ≡ true) ⊎ (most_records ≤ length u.ids)
        before (inl y) = inl y
        before (inr y) = inr (omega arith)
    of long (inr y) = inr y

pub head-stays : (h : Header) (t : Noted) → StaysNoted t (note_head h t)
head-stays h t =
    split (StaysNoted t) (h.kind == 2) (if has_syn h then t else record t { ponged = true }) (if h.kind == 3 then t else note h.id t)
    (λ e. split (StaysNoted t) (has_syn h) t (record t { ponged = true }) (λ f. stays-same t)
    (λ f. record { ids = ([], sym (append-nil t.ids)); all = λ a. a; ponged = λ a. refl; blind = refl; full = λ a. inl a }))
    (λ e. split (StaysNoted t) (h.kind == 3) t (note h.id t) (λ f. stays-same t) (λ f. note-stays h.id t))

or-first : (a b : Bool) → (a || b) ≡ false → a ≡ false
or-first true b e = e
or-first false b e = refl

-- what isn't noted after was not noted before
pub stays-missed : (s t : Noted) (j : ℕ) → StaysNoted s t → is_noted j t ≡ false → is_noted j s ≡ false
stays-missed s t j a n = of s.all refl
  where
    ids : list_any (nat_eq j) t.ids ≡ false → list_any (nat_eq j) s.ids ≡ false
    ids e = or-first (list_any (nat_eq j) s.ids) (list_any (nat_eq j) a.ids.0) (sym (list_any-append (nat_eq j) s.ids a.ids.0) ∙ ap (list_any (nat_eq j)) (sym a.ids.1) ∙ e)

    or-second : (x y : Bool) → (x || y) ≡ false → y ≡ false
    or-second true y e = cc
    or-second false y e = e

    of : (b : Bool) → s.all ≡ b → is_noted j s ≡ false
    of true e = let x : t.all ≡ true = a.all e in let y : t.all ≡ false = or-first t.all _ n in cc
    of false e = rw e (ids (or-second t.all (list_any (nat_eq j) t.ids) n))

-- ---- no other record has changed

pub same-notes : (s t : Session) (n : Noted) → t.table ≡ s.table → t.pings ≡ s.pings → NotesChanges s t n
same-notes s t n e p = record { streams = λ id m. ap (λ (x : Table). look id x.entries) e; pongs = λ m. p }

pub notes-on : (s t u : Session) (m n : Noted) → NotesChanges s t m → StaysNoted m n → NotesChanges t u n → NotesChanges s u n
notes-on s t u m n a k b = record {
  streams = λ id e. b.streams id e ∙ a.streams id (stays-missed m n id k e);
  pongs = λ e. b.pongs e ∙ a.pongs (of m.ponged refl e);
}
  where
    of : (b : Bool) → m.ponged ≡ b → n.ponged ≡ false → m.ponged ≡ false
    of true x e = let y : n.ponged ≡ true = k.ponged x in cc
    of false x e = x

-- a stream that was not noted is another than the one that was just noted
pub note-missed : (j id : ℕ) (t : Noted) → is_noted j (note id t) ≡ false → j ≢ id
note-missed j id t =
    split (λ (x : Noted). is_noted j x ≡ false → j ≢ id) (is_noted id t) t (if nat_lt (length t.ids) most_records then record t { ids = t.ids ++ id ∷ [] } else record t { all = true })
    (λ known n same. let here : is_noted id t ≡ false = rw same at n in let x : true ≡ false = sym known ∙ here in cc)
    (λ new. split (λ (x : Noted). is_noted j x ≡ false → j ≢ id) (nat_lt (length t.ids) most_records) (record t { ids = t.ids ++ id ∷ [] }) (record t { all = true })
    (λ room n same. let e = list_any-append (nat_eq j) t.ids (id ∷ []) in grind (arith, nat_tests))
    (λ full n same. cc))

-- the records and the pings after a head, but for whom it touches
head-same : (no_memory : Bool) (h : Header) (u : Session) (m : Noted) (j : ℕ) → is_noted j (note_head h m) ≡ false → look j (head_comes no_memory h u).table.entries ≡ look j u.table.entries
head-same no_memory h u m j =
    let P : Noted → Type 0 = λ x. is_noted j x ≡ false → look j (head_comes no_memory h u).table.entries ≡ look j u.table.entries in
    let own : 2 ≤ h.kind → look j (head_comes no_memory h u).table.entries ≡ look j u.table.entries = λ l. ap (λ (x : Table). look j x.entries) (session_frame no_memory h u l).table in
    split P (h.kind == 2) (if has_syn h then m else record m { ponged = true }) (if h.kind == 3 then m else note h.id m)
    (λ e n. own (grind (arith, nat_tests)))
    (λ e. split P (h.kind == 3) m (note h.id m) (λ f n. own (grind (arith, nat_tests))) (λ f n. head-others no_memory h u j (note-missed j h.id m n)))

kind_below : (h : Header) (o : Option Fault) → (h.kind == 2) ≡ false → (h.kind == 3) ≡ false → h.kind ≤ 3 → h.kind < 2
kind_below h o a b c = grind (arith, nat_tests)

head-pings : (no_memory : Bool) (h : Header) (u : Session) (m : Noted) → (note_head h m).ponged ≡ false → (head_comes no_memory h u).pings ≡ u.pings
head-pings no_memory h u m =
    let P : Noted → Type 0 = λ x. x.ponged ≡ false → (head_comes no_memory h u).pings ≡ u.pings in
    let Q : Session → Type 0 = λ x. x.pings ≡ u.pings in
    split P (h.kind == 2) (if has_syn h then m else record m { ponged = true }) (if h.kind == 3 then m else note h.id m)
    (λ e. split P (has_syn h) m (record m { ponged = true })
    (λ s n. unless_fault-keeps Q (header_fault h u) u _ (λ f. refl) (λ none. rw (e, s) refl))
    (λ s n. cc))
    (λ e. split P (h.kind == 3) m (note h.id m)
    (λ f n. unless_fault-keeps Q (header_fault h u) u _ (λ x. refl) (λ none. rw (e, f)
    (split Q (nat_lt 2 h.length) _ _ (λ x. refl) (λ x. split Q (h.length == 1) _ _ (λ y. refl) (λ y. split Q (h.length == 2) _ _ (λ z. refl) (λ z. refl))))))
    (λ f n. of e f (header_fault h u) refl))
  where
    of : (h.kind == 2) ≡ false → (h.kind == 3) ≡ false → (o : Option Fault) → header_fault h u ≡ o → (head_comes no_memory h u).pings ≡ u.pings
    of e f None k = (stream_frame no_memory h u (kind_below h None e f (good u.table.window h k).kind)).pings
    of e f (Some fault) k = rw k refl

pub head-notes : (no_memory : Bool) (h : Header) (v s t : Session) (m : Noted) → v ≡ s → t ≡ head_comes no_memory h (record v { incoming = Head [] }) → NotesChanges s t (note_head h m)
head-notes no_memory h v s t m e w = record {
  streams = λ j n. ap (λ (x : Session). look j x.table.entries) w ∙ head-same no_memory h (record v { incoming = Head [] }) m j n ∙ ap (λ (x : Session). look j x.table.entries) e;
  pongs = λ n. ap (λ (x : Session). x.pings) w ∙ head-pings no_memory h (record v { incoming = Head [] }) m n ∙ ap (λ (x : Session). x.pings) e;
}

-- a piece of a payload touches its stream
pub piece-notes : (id : ℕ) (end : Bool) (bytes : List ℕ) (v s : Session) (table : Table) (now : Incoming) (m : Noted) → v ≡ s → table ≡ with_record id (receive_piece end bytes) v.table →
    NotesChanges s (record v { table = table; incoming = now }) (note id m)
piece-notes id end bytes v s table now m e w = record {
  streams = λ j n. ap (λ (x : Table). look j x.entries) w ∙ look-change_other id j (receive_piece end bytes) v.table.entries (note-missed j id m n) ∙ ap (λ (x : Session). look j x.table.entries) e;
  pongs = λ n. ap (λ (x : Session). x.pings) e;
}
