-- What is seen of the entries of a map of connections, and how this follows what is written there.
use Rattle.std.proofs.Common.{◌≡◌, ℕ, List, [], ◌∷◌, length, Bool, true, false, Option, None, Some, refl, sym, ap, ◌∙◌, subst, cond, arith}
use Rattle.std.specs.Prelude.{nat_eq, option_map, is_some, slice_get, nat_lt, ◌<◌, Result, Ok, Err, IsOk, OnOk, IsSome, IfSome, IfNone}
use Rattle.std.specs.Map.{lookup, keys_of}
use Rattle.std.proofs.lemmas.Map.Made.{lookup-map_values}
use Rattle.std.proofs.lemmas.List.{length-map}
use Rattle.std.proofs.lemmas.Option.{slice_get-map}
use Rattle.std.proofs.lemmas.Bool.Decides.{nat_tests}
use Rattle.indexmap.specs.IndexMap.{insert_entry}
use Rattle.ymx_machine.proofs.Tests.{is_lt}
use Rattle.ymx_engine.specs.declared.connections.Entry.{Entry as KeptEntry}
use Rattle.ymx_engine.specs.Devices.{Seen}
use Rattle.ymx_engine.specs.Entries.{connection_seen, entry_seen, entries_seen, Rewrites}
use Rattle.ymx_engine.specs.Turns.{Connection, Entry, Connections, connection_of, queue_mark, held_mark}

-- this entry was written, and each other is what it was
abbrev pub Written : {E : Type 0} → ℕ → E → List (ℕ × E) → List (ℕ × E) → Type 0
Written id w old new = (other : ℕ) → lookup (nat_eq other) new ≡ cond (nat_eq id other) (Some w) (lookup (nat_eq other) old)

-- this entry is gone, and each other is what it was
abbrev pub Gone : {E : Type 0} → ℕ → List (ℕ × E) → List (ℕ × E) → Type 0
Gone id old new = (other : ℕ) → lookup (nat_eq other) new ≡ cond (nat_eq id other) None (lookup (nat_eq other) old)

pub eq_ids : (id other : ℕ) → nat_eq id other ≡ true → other ≡ id
eq_ids id other h = grind arith

pub same_id : (id : ℕ) → nat_eq id id ≡ true
same_id id = grind (arith, nat_tests)

pub some_is : {A : Type 0} {x y : A} → Some x ≡ Some y → x ≡ y
some_is e = cc

pub no_some : {A B : Type 0} {x : A} → Some x ≡ None → B
no_some e = let no : ⊥ = cc in absurd no

pub is_some_at : {A : Type 0} {o : Option A} {x : A} → o ≡ Some x → IsSome o
is_some_at {A} {o} {x} e = subst (λ (v : Option A). IsSome v) (sym e) refl

-- ---- look-ups

pub seen_at : {D : Type 0} (seen : D → Seen) (es : List (ℕ × KeptEntry D)) (id : ℕ) → lookup (nat_eq id) (entries_seen seen es) ≡ option_map (entry_seen seen) (lookup (nat_eq id) es)
seen_at seen es id = lookup-map_values (entry_seen seen) (nat_eq id) es

-- one that was found
pub connection_seen_at : {D : Type 0} (seen : D → Seen) (es : List (ℕ × KeptEntry D)) (id : ℕ) (x : KeptEntry D) → lookup (nat_eq id) es ≡ Some x → option_map (λ (e : Entry). e.connection) (lookup (nat_eq id) (entries_seen seen es)) ≡ Some (connection_seen seen x.connection)
connection_seen_at seen es id x found = ap (option_map (λ e. e.connection)) (seen_at seen es id ∙ ap (option_map (entry_seen seen)) found)

pub connection_found : {D : Type 0} (seen : D → Seen) (es : List (ℕ × KeptEntry D)) (id : ℕ) (x : KeptEntry D) (t : Connections) → entries_seen seen es ≡ t.by_id → lookup (nat_eq id) es ≡ Some x → connection_of id t ≡ Some (connection_seen seen x.connection)
connection_found seen es id x t is found = ap (λ (v : List (ℕ × Entry)). option_map (λ e. e.connection) (lookup (nat_eq id) v)) (sym is) ∙ connection_seen_at seen es id x found

-- one that was not
pub connection_none : {D : Type 0} (seen : D → Seen) (es : List (ℕ × KeptEntry D)) (id : ℕ) (t : Connections) → entries_seen seen es ≡ t.by_id → lookup (nat_eq id) es ≡ None → connection_of id t ≡ None
connection_none seen es id t is none = ap (λ (v : List (ℕ × Entry)). option_map (λ e. e.connection) (lookup (nat_eq id) v)) (sym is) ∙ ap (option_map (λ e. e.connection)) (seen_at seen es id ∙ ap (option_map (entry_seen seen)) none)

seen_is_some : {D : Type 0} (seen : D → Seen) (o : Option (KeptEntry D)) → is_some o ≡ is_some (option_map (λ (e : Entry). e.connection) (option_map (entry_seen seen) o))
seen_is_some seen None = refl
seen_is_some seen (Some x) = refl

-- whether it is there
pub connection_is_some : {D : Type 0} (seen : D → Seen) (es : List (ℕ × KeptEntry D)) (id : ℕ) (t : Connections) → entries_seen seen es ≡ t.by_id → is_some (lookup (nat_eq id) es) ≡ is_some (connection_of id t)
connection_is_some seen es id t is = seen_is_some seen (lookup (nat_eq id) es) ∙ ap (λ (o : Option Entry). is_some (option_map (λ e. e.connection) o)) (sym (seen_at seen es id)) ∙ ap (λ (v : List (ℕ × Entry)). is_some (option_map (λ e. e.connection) (lookup (nat_eq id) v))) is

pub seen_keys : {D : Type 0} (seen : D → Seen) (es : List (ℕ × KeptEntry D)) → keys_of (entries_seen seen es) ≡ keys_of es
seen_keys seen [] = refl
seen_keys seen (e ∷ es) = ap (λ (v : List ℕ). e.0 ∷ v) (seen_keys seen es)

pub seen_length : {D : Type 0} (seen : D → Seen) (es : List (ℕ × KeptEntry D)) → length (entries_seen seen es) ≡ length es
seen_length seen es = length-map es (λ e. (e.0, entry_seen seen e.1))

-- the stream of one at a place
pub key_at : {D : Type 0} (seen : D → Seen) (es : List (ℕ × KeptEntry D)) (place : ℕ) (t : Connections) → entries_seen seen es ≡ t.by_id → option_map (λ e. e.0) (slice_get es place) ≡ slice_get (keys_of t.by_id) place
key_at seen es place t is = sym (slice_get-map (λ e. e.0) es place) ∙ ap (λ (v : List ℕ). slice_get v place) (sym (seen_keys seen es)) ∙ ap (λ (v : List (ℕ × Entry)). slice_get (keys_of v) place) is

-- the first is there
pub first_there : (es : List (ℕ × Entry)) (o : Option ℕ) → o ≡ slice_get (keys_of es) 0 → IfSome o (λ id. IsSome (option_map (λ e. e.connection) (lookup (nat_eq id) es)))
first_there [] o h = subst (λ (v : Option ℕ). IfSome v (λ id. IsSome (option_map (λ (e : Entry). e.connection) None))) (sym h) tt
first_there (e ∷ es) o h =
    subst (λ (v : Option ℕ). IfSome v (λ id. IsSome (option_map (λ (x : Entry). x.connection) (lookup (nat_eq id) (e ∷ es))))) (sym h)
    (ap (λ (b : Bool). is_some (option_map (λ (x : Entry). x.connection) (cond b (Some e.1) (lookup (nat_eq e.0) es)))) (same_id e.0))

-- where there is no first, there is none
pub first_none : (es : List (ℕ × Entry)) (o : Option ℕ) → o ≡ slice_get (keys_of es) 0 → IfNone o (es ≡ [])
first_none [] o h = let none : List (ℕ × Entry) = [] in subst (λ (v : Option ℕ). IfNone v (none ≡ none)) (sym h) refl
first_none (e ∷ es) o h = subst (λ (v : Option ℕ). IfNone v (e ∷ es ≡ [])) (sym h) tt

-- ---- what is written

written_one : {D : Type 0} (seen : D → Seen) (b : Bool) (w : KeptEntry D) (o : Option (KeptEntry D)) → option_map (entry_seen seen) (cond b (Some w) o) ≡ cond b (Some (entry_seen seen w)) (option_map (entry_seen seen) o)
written_one seen true w o = refl
written_one seen false w o = refl

pub written_seen : {D : Type 0} (seen : D → Seen) (id : ℕ) (w : KeptEntry D) (ms ns : List (ℕ × KeptEntry D)) → Written id w ms ns → Written id (entry_seen seen w) (entries_seen seen ms) (entries_seen seen ns)
written_seen seen id w ms ns put other =
    seen_at seen ns other ∙ ap (option_map (entry_seen seen)) (put other) ∙ written_one seen (nat_eq id other) w (lookup (nat_eq other) ms) ∙ ap (cond (nat_eq id other) (Some (entry_seen seen w))) (sym (seen_at seen ms other))

gone_one : {D : Type 0} (seen : D → Seen) (b : Bool) (o : Option (KeptEntry D)) → option_map (entry_seen seen) (cond b None o) ≡ cond b None (option_map (entry_seen seen) o)
gone_one seen true o = refl
gone_one seen false o = refl

pub gone_seen : {D : Type 0} (seen : D → Seen) (id : ℕ) (ms ns : List (ℕ × KeptEntry D)) → Gone id ms ns → Gone id (entries_seen seen ms) (entries_seen seen ns)
gone_seen seen id ms ns gone other =
    seen_at seen ns other ∙ ap (option_map (entry_seen seen)) (gone other) ∙ gone_one seen (nat_eq id other) (lookup (nat_eq other) ms) ∙ ap (cond (nat_eq id other) None) (sym (seen_at seen ms other))

-- one that was put in is there, and the others stay
pub inserted : {E : Type 0} (es : List (ℕ × E)) (id : ℕ) (w : E) → Written id w es (insert_entry nat_eq es id w)
inserted [] id w other = grind (arith, nat_tests)
inserted (e ∷ es) id w other = let i = inserted es id w other in grind (arith, nat_tests)

-- there was a place, so that one was put in
pub put_in : {E X : Type 0} (r : Result (Unit {0}) X) (spare : ℕ) (id : ℕ) (w : E) (old new : List (ℕ × E)) → nat_lt 0 spare ≡ true → (0 < spare → IsOk r) → OnOk r (new ≡ insert_entry nat_eq old id w) → Written id w old new
put_in (Ok u) spare id w old new place succeeds put = λ other. ap (lookup (nat_eq other)) put ∙ inserted old id w other
put_in (Err x) spare id w old new place succeeds put = let no : ⊥ = let k : 0 < spare = is_lt 0 spare place in let is : false ≡ true = succeeds k in cc in absurd no

-- ---- entries and connections

-- the connection of this stream is this now, and each other what it was: `Puts`, of entries alone
abbrev pub PutsIn : ℕ → Option Connection → List (ℕ × Entry) → List (ℕ × Entry) → Type 0
PutsIn id what old new = (other : ℕ) → option_map (λ e. e.connection) (lookup (nat_eq other) new) ≡ cond (nat_eq id other) what (option_map (λ e. e.connection) (lookup (nat_eq other) old))

connection_put : (b : Bool) (w : Entry) (o p : Option Entry) → p ≡ cond b (Some w) o → option_map (λ e. e.connection) p ≡ cond b (Some w.connection) (option_map (λ e. e.connection) o)
connection_put true w o p h = ap (option_map (λ e. e.connection)) h
connection_put false w o p h = ap (option_map (λ e. e.connection)) h

-- an entry was written, so that its connection is this
pub puts_written : (id : ℕ) (w : Entry) (old new : List (ℕ × Entry)) → Written id w old new → PutsIn id (Some w.connection) old new
puts_written id w old new put other = connection_put (nat_eq id other) w (lookup (nat_eq other) old) (lookup (nat_eq other) new) (put other)

pub put_there : (id : ℕ) (connection : Connection) (old new : List (ℕ × Entry)) → PutsIn id (Some connection) old new → IsSome (option_map (λ (e : Entry). e.connection) (lookup (nat_eq id) new))
put_there id connection old new put = is_some_at (put id ∙ ap (λ (b : Bool). cond b (Some connection) (option_map (λ e. e.connection) (lookup (nat_eq id) old))) (same_id id))

connection_gone : (b : Bool) (o p : Option Entry) → p ≡ cond b None o → option_map (λ e. e.connection) p ≡ cond b None (option_map (λ e. e.connection) o)
connection_gone true o p h = ap (option_map (λ e. e.connection)) h
connection_gone false o p h = ap (option_map (λ e. e.connection)) h

pub puts_gone : (id : ℕ) (old new : List (ℕ × Entry)) → Gone id old new → PutsIn id None old new
puts_gone id old new gone other = connection_gone (nat_eq id other) (lookup (nat_eq other) old) (lookup (nat_eq other) new) (gone other)

-- ---- what is changed in place

-- what was written of one that is there is what it was
pub unwritten : {E : Type 0} (id : ℕ) (w : E) (old new : List (ℕ × E)) → lookup (nat_eq id) old ≡ Some w → Written id w old new → (other : ℕ) → lookup (nat_eq other) new ≡ lookup (nat_eq other) old
unwritten id w old new there put other = put other ∙ by (nat_eq id other) refl
  where
    by : (b : Bool) → nat_eq id other ≡ b → cond b (Some w) (lookup (nat_eq other) old) ≡ lookup (nat_eq other) old
    by true t = sym (ap (λ (n : ℕ). lookup (nat_eq n) old) (eq_ids id other t) ∙ there)
    by false t = refl

pub rewrites_seen : {D : Type 0} (seen : D → Seen) (id : ℕ) (f : KeptEntry D → KeptEntry D) (k : Entry → Entry) (ms ns : List (ℕ × KeptEntry D)) → ((e : KeptEntry D) → entry_seen seen (f e) ≡ k (entry_seen seen e)) →
    Rewrites id f ms ns → Rewrites id k (entries_seen seen ms) (entries_seen seen ns)
rewrites_seen {D} seen id f k ms ns same rewrites other =
    seen_at seen ns other ∙ ap (option_map (entry_seen seen)) (rewrites other) ∙ one (nat_eq id other) (lookup (nat_eq id) ms) (lookup (nat_eq other) ms)
    ∙ ap (λ (o : Option Entry). cond (nat_eq id other) (option_map k o) (option_map (entry_seen seen) (lookup (nat_eq other) ms))) (sym (seen_at seen ms id))
    ∙ ap (cond (nat_eq id other) (option_map k (lookup (nat_eq id) (entries_seen seen ms)))) (sym (seen_at seen ms other))
  where
    one : (b : Bool) (o p : Option (KeptEntry D)) → option_map (entry_seen seen) (cond b (option_map f o) p) ≡ cond b (option_map k (option_map (entry_seen seen) o)) (option_map (entry_seen seen) p)
    one true None p = refl
    one true (Some e) p = ap (λ (v : Entry). Some v) (same e)
    one false o p = refl

-- what the change leaves alone is of each what it was
pub rewrites_keeps : {E V : Type 0} (look_at : E → V) (id : ℕ) (f : E → E) (old new : List (ℕ × E)) → ((e : E) → look_at (f e) ≡ look_at e) → Rewrites id f old new →
    (other : ℕ) → option_map look_at (lookup (nat_eq other) new) ≡ option_map look_at (lookup (nat_eq other) old)
rewrites_keeps {E} {V} look_at id f old new same rewrites other = ap (option_map look_at) (rewrites other) ∙ by (nat_eq id other) refl
  where
    one : (o : Option E) → option_map look_at (option_map f o) ≡ option_map look_at o
    one None = refl
    one (Some e) = ap (λ (v : V). Some v) (same e)

    by : (b : Bool) → nat_eq id other ≡ b → option_map look_at (cond b (option_map f (lookup (nat_eq id) old)) (lookup (nat_eq other) old)) ≡ option_map look_at (lookup (nat_eq other) old)
    by true t = one (lookup (nat_eq id) old) ∙ ap (λ (n : ℕ). option_map look_at (lookup (nat_eq n) old)) (sym (eq_ids id other t))
    by false t = refl

pub rewrites_others : {E : Type 0} (id : ℕ) (f : E → E) (old new : List (ℕ × E)) → Rewrites id f old new → (other : ℕ) → nat_eq id other ≡ false → lookup (nat_eq other) new ≡ lookup (nat_eq other) old
rewrites_others id f old new rewrites other t = rewrites other ∙ ap (λ (b : Bool). cond b (option_map f (lookup (nat_eq id) old)) (lookup (nat_eq other) old)) t

-- the entry itself is as the change makes it
pub rewrites_self : {E : Type 0} (P : E → Type 0) (id : ℕ) (f : E → E) (old new : List (ℕ × E)) → ((e : E) → P (f e)) → Rewrites id f old new → IfSome (lookup (nat_eq id) new) P
rewrites_self {E} P id f old new made rewrites =
    subst (λ (o : Option E). IfSome o P) (sym (rewrites id ∙ ap (λ (b : Bool). cond b (option_map f (lookup (nat_eq id) old)) (lookup (nat_eq id) old)) (same_id id))) (one (lookup (nat_eq id) old))
  where
    one : (o : Option E) → IfSome (option_map f o) P
    one None = tt
    one (Some e) = made e

-- one that was found was changed so
pub rewrites_found : {E : Type 0} (id : ℕ) (f : E → E) (x : E) (old new : List (ℕ × E)) → lookup (nat_eq id) old ≡ Some x → Written id (f x) old new → Rewrites id f old new
rewrites_found {E} id f x old new there put other = put other ∙ ap (λ (o : Option E). cond (nat_eq id other) (option_map f o) (lookup (nat_eq other) old)) (sym there)

-- the written entry is there
pub written_at : {E : Type 0} (id : ℕ) (w : E) (old new : List (ℕ × E)) → Written id w old new → lookup (nat_eq id) new ≡ Some w
written_at id w old new put = put id ∙ ap (λ (b : Bool). cond b (Some w) (lookup (nat_eq id) old)) (same_id id)

pub unwritten_seen : {D : Type 0} (seen : D → Seen) (id : ℕ) (x : KeptEntry D) (ms ns : List (ℕ × KeptEntry D)) → lookup (nat_eq id) ms ≡ Some x → Written id x ms ns → (other : ℕ) → lookup (nat_eq other) (entries_seen seen ns) ≡ lookup (nat_eq other) (entries_seen seen ms)
unwritten_seen seen id x ms ns found put other = seen_at seen ns other ∙ ap (option_map (entry_seen seen)) (unwritten id x ms ns found put other) ∙ sym (seen_at seen ms other)

-- ---- marks

pub mark_found : {D : Type 0} (seen : D → Seen) (es : List (ℕ × KeptEntry D)) (id : ℕ) (x : KeptEntry D) → lookup (nat_eq id) es ≡ Some x → option_map (λ (e : Entry). e.is_queued) (lookup (nat_eq id) (entries_seen seen es)) ≡ Some x.is_queued
mark_found seen es id x found = ap (option_map (λ (e : Entry). e.is_queued)) (seen_at seen es id ∙ ap (option_map (entry_seen seen)) found)

-- the marks of one that was found
pub queue_mark_found : {D : Type 0} (seen : D → Seen) (es : List (ℕ × KeptEntry D)) (id : ℕ) (x : KeptEntry D) (t : Connections) → entries_seen seen es ≡ t.by_id → lookup (nat_eq id) es ≡ Some x → queue_mark id t ≡ Some x.is_queued
queue_mark_found seen es id x t is found = ap (λ (v : List (ℕ × Entry)). option_map (λ e. e.is_queued) (lookup (nat_eq id) v)) (sym is) ∙ ap (option_map (λ e. e.is_queued)) (seen_at seen es id ∙ ap (option_map (entry_seen seen)) found)

pub held_mark_found : {D : Type 0} (seen : D → Seen) (es : List (ℕ × KeptEntry D)) (id : ℕ) (x : KeptEntry D) (t : Connections) → entries_seen seen es ≡ t.by_id → lookup (nat_eq id) es ≡ Some x → held_mark id t ≡ Some x.is_held
held_mark_found seen es id x t is found = ap (λ (v : List (ℕ × Entry)). option_map (λ e. e.is_held) (lookup (nat_eq id) v)) (sym is) ∙ ap (option_map (λ e. e.is_held)) (seen_at seen es id ∙ ap (option_map (entry_seen seen)) found)

-- one that was not found is not there
pub absent : {A D : Type 0} (seen : D → Seen) (es : List (ℕ × KeptEntry D)) (id : ℕ) (t : Connections) → entries_seen seen es ≡ t.by_id → lookup (nat_eq id) es ≡ None → IsSome (connection_of id t) → A
absent seen es id t is none some = let no : false ≡ true = subst (λ (o : Option Connection). IsSome o) (connection_none seen es id t is none) some in absurd cc

-- one that was found is there
pub present : {D : Type 0} (seen : D → Seen) (es : List (ℕ × KeptEntry D)) (id : ℕ) (x : KeptEntry D) (t : Connections) → entries_seen seen es ≡ t.by_id → lookup (nat_eq id) es ≡ Some x → IsSome (connection_of id t)
present seen es id x t is found = is_some_at (connection_found seen es id x t is found)
