-- That the marks of connections say in which queues they stand, whatever is written.
use Rattle.std.proofs.Common.{◌≡◌, ◌⊎◌, inl, inr, ℕ, zero, suc, ◌+◌, ◌<◌, List, [], ◌∷◌, ◌++◌, Bool, true, false, Option, None, Some, refl, sym, ap, ◌∙◌, subst, cond, arith}
use Rattle.std.specs.Prelude.{nat_eq, Contains, IfSome, IsSome, option_map}
use Rattle.std.specs.Map.{lookup}
use Rattle.std.proofs.lemmas.List.Elements.{Contains-append_left, Contains-append_cases, Contains-push}
use Rattle.std.proofs.lemmas.Bool.Decides.{nat_tests}
use Rattle.ymx_engine.specs.declared.connections.Entry.{Entry as KeptEntry}
use Rattle.ymx_engine.specs.Devices.{Seen}
use Rattle.ymx_engine.specs.Entries.{connection_seen, entry_seen, entries_seen, Rewrites}
use Rattle.ymx_engine.specs.Turns.{Connection, Entry, AreListed, AreHeld, StaysOrAdds, StandsBehind, times, once_if, without}
use Rattle.ymx_engine.proofs.Entries.{Written, Gone, PutsIn, eq_ids, same_id, some_is, seen_at, connection_seen_at, written_seen, puts_written, rewrites_others, rewrites_self}
use Rattle.ymx_engine.proofs.Once.{turn_round, times-self, times-other, times-first, times-behind-first, times-stands, times-gone, times-kept, at_most_once}

abbrev pub Stands : List ℕ → List ℕ → ℕ → Type 0
Stands fresh busy id = Contains fresh id ⊎ Contains busy id

-- ---- one more in a queue

pub stays_or_adds : (id other : ℕ) (old new : List ℕ) → StaysOrAdds id old new → Contains old other → Contains new other
stays_or_adds id other old new (inl e) h = subst (λ (v : List ℕ). Contains v other) (sym e) h
stays_or_adds id other old new (inr e) h = subst (λ (v : List ℕ). Contains v other) (sym e) (Contains-append_left old (id ∷ []) other h)

-- one that came to stand after the others stands in a queue
pub stand_behind : (id : ℕ) (f g f2 g2 : List ℕ) → StandsBehind id f g f2 g2 → Stands f2 g2 id
stand_behind id f g f2 g2 (inl x) = inl (subst (λ (v : List ℕ). Contains v id) (sym x.0) (Contains-push f id))
stand_behind id f g f2 g2 (inr x) = inr (subst (λ (v : List ℕ). Contains v id) (sym x.1) (Contains-push g id))

stand_more : (id : ℕ) (f g f2 g2 : List ℕ) → StandsBehind id f g f2 g2 → times id f2 + times id g2 ≡ (times id f + times id g) + 1
stand_more id f g f2 g2 (inl x) = let e = ap (times id) x.0 in let k = ap (times id) x.1 in let more = times-self id f in omega (arith, e, k, more)
stand_more id f g f2 g2 (inr x) = let e = ap (times id) x.0 in let k = ap (times id) x.1 in let more = times-self id g in omega (arith, e, k, more)

stand_same : (id other : ℕ) (f g f2 g2 : List ℕ) → nat_eq id other ≡ false → StandsBehind id f g f2 g2 → times other f2 + times other g2 ≡ times other f + times other g
stand_same id other f g f2 g2 ne (inl x) = let e = ap (times other) x.0 in let k = ap (times other) x.1 in let same = times-other other id f (turn_round id other ne) in omega (arith, e, k, same)
stand_same id other f g f2 g2 ne (inr x) = let e = ap (times other) x.0 in let k = ap (times other) x.1 in let same = times-other other id g (turn_round id other ne) in omega (arith, e, k, same)

-- ---- one less in a queue

pub popped : (f rest : List ℕ) (id other : ℕ) → f ≡ id ∷ rest → nat_eq id other ≡ false → Contains f other → Contains rest other
popped f rest id other e ne h = first (Contains-append_cases (id ∷ []) rest other (subst (λ (v : List ℕ). Contains v other) e h))
  where
    first : Contains (id ∷ []) other ⊎ Contains rest other → Contains rest other
    first (inl (zero, within, same)) = let is : id ≡ other = same in let no : ⊥ = grind (arith, nat_tests) in absurd no
    first (inl (suc k, within, same)) = let no : ⊥ = omega arith in absurd no
    first (inr x) = x

-- the first of a queue was taken
abbrev pub Taken : ℕ → (fresh busy fresh_new busy_new : List ℕ) → Type 0
Taken id f g f2 g2 = ((f ≡ id ∷ f2) × (g2 ≡ g)) ⊎ ((f2 ≡ f) × (g ≡ id ∷ g2))

taken_less : (id : ℕ) (f g f2 g2 : List ℕ) → Taken id f g f2 g2 → times id f + times id g ≡ 1 + (times id f2 + times id g2)
taken_less id f g f2 g2 (inl x) = let e = ap (times id) x.0 in let k = ap (times id) x.1 in let one = times-first id f2 in omega (arith, e, k, one)
taken_less id f g f2 g2 (inr x) = let e = ap (times id) x.0 in let k = ap (times id) x.1 in let one = times-first id g2 in omega (arith, e, k, one)

taken_same : (id other : ℕ) (f g f2 g2 : List ℕ) → nat_eq id other ≡ false → Taken id f g f2 g2 → times other f + times other g ≡ times other f2 + times other g2
taken_same id other f g f2 g2 ne (inl x) = let e = ap (times other) x.0 in let k = ap (times other) x.1 in let same = times-behind-first other id f2 (turn_round id other ne) in omega (arith, e, k, same)
taken_same id other f g f2 g2 ne (inr x) = let e = ap (times other) x.0 in let k = ap (times other) x.1 in let same = times-behind-first other id g2 (turn_round id other ne) in omega (arith, e, k, same)

-- ---- who is marked as queued

-- how often one is to stand in a queue
abbrev own_times : Option Entry → ℕ
own_times o = once_if (option_map (λ (e : Entry). e.is_queued) o)

written_self : (id other : ℕ) (w : Entry) (old new : List (ℕ × Entry)) → Written id w old new → nat_eq id other ≡ true → lookup (nat_eq other) new ≡ Some w
written_self id other w old new put t = put other ∙ ap (λ (b : Bool). cond b (Some w) (lookup (nat_eq other) old)) t

written_other : (id other : ℕ) (w : Entry) (old new : List (ℕ × Entry)) → Written id w old new → nat_eq id other ≡ false → lookup (nat_eq other) new ≡ lookup (nat_eq other) old
written_other id other w old new put t = put other ∙ ap (λ (b : Bool). cond b (Some w) (lookup (nat_eq other) old)) t

-- its mark stays
pub listed_kept : (id : ℕ) (w e : Entry) (old new : List (ℕ × Entry)) (f g : List ℕ) → AreListed old f g → Written id w old new → lookup (nat_eq id) old ≡ Some e → w.is_queued ≡ e.is_queued → AreListed new f g
listed_kept id w e old new f g all put there same = λ other. all other ∙ by other (nat_eq id other) refl
  where
    by : (other : ℕ) (t : Bool) → nat_eq id other ≡ t → own_times (lookup (nat_eq other) old) ≡ own_times (lookup (nat_eq other) new)
    by other true t =
        ap (λ (n : ℕ). own_times (lookup (nat_eq n) old)) (eq_ids id other t) ∙ ap own_times there ∙ ap (λ (b : Bool). once_if (Some b)) (sym same) ∙ sym (ap own_times (written_self id other w old new put t))
    by other false t = sym (ap own_times (written_other id other w old new put t))

-- all marks stay
pub listed_marks : (old new : List (ℕ × Entry)) (f g : List ℕ) → AreListed old f g → ((other : ℕ) → option_map (λ e. e.is_queued) (lookup (nat_eq other) new) ≡ option_map (λ e. e.is_queued) (lookup (nat_eq other) old)) → AreListed new f g
listed_marks old new f g all same = λ other. all other ∙ sym (ap once_if (same other))

-- each is what it was
pub listed_same : (old new : List (ℕ × Entry)) (f g : List ℕ) → AreListed old f g → ((other : ℕ) → lookup (nat_eq other) new ≡ lookup (nat_eq other) old) → AreListed new f g
listed_same old new f g all same = λ other. all other ∙ sym (ap own_times (same other))

-- and so are the queues
pub listed_stay : (old new : List (ℕ × Entry)) (f g f2 g2 : List ℕ) → AreListed old f g → ((other : ℕ) → lookup (nat_eq other) new ≡ lookup (nat_eq other) old) → f2 ≡ f → g2 ≡ g → AreListed new f2 g2
listed_stay old new f g f2 g2 all same fs gs = λ other. ap (λ (v : List ℕ). times other v + times other g2) fs ∙ ap (λ (v : List ℕ). times other f + times other v) gs ∙ listed_same old new f g all same other

marked_once : (o : Option Entry) → option_map (λ (e : Entry). e.is_queued) o ≡ Some false → own_times (option_map (λ (e : Entry). let x : Entry = record e { is_queued = true } in x) o) ≡ 1
marked_once None off = let no : ⊥ = cc in absurd no
marked_once (Some e) off = refl

-- this one was not marked as queued, is so now, and stands after the others
pub listed_marked : (id : ℕ) (old new : List (ℕ × Entry)) (f g f2 g2 : List ℕ) → AreListed old f g → Rewrites id (λ e. record e { is_queued = true }) old new → option_map (λ (e : Entry). e.is_queued) (lookup (nat_eq id) old) ≡ Some false → StandsBehind id f g f2 g2 → AreListed new f2 g2
listed_marked id old new f g f2 g2 all rewrites off behind = λ other. by other (nat_eq id other) refl
  where
    own : times id f2 + times id g2 ≡ own_times (lookup (nat_eq id) new)
    own =
        let more = stand_more id f g f2 g2 behind in
        let none : times id f + times id g ≡ 0 = all id ∙ ap once_if off in
        let one : own_times (lookup (nat_eq id) new) ≡ 1 =
        ap own_times (rewrites id) ∙ ap (λ (b : Bool). own_times (cond b (option_map (λ (e : Entry). let x : Entry = record e { is_queued = true } in x) (lookup (nat_eq id) old)) (lookup (nat_eq id) old))) (same_id id) ∙ marked_once (lookup (nat_eq id) old) off in
        omega (arith, more, none, one)

    by : (other : ℕ) (t : Bool) → nat_eq id other ≡ t → times other f2 + times other g2 ≡ own_times (lookup (nat_eq other) new)
    by other true t = subst (λ (n : ℕ). times n f2 + times n g2 ≡ own_times (lookup (nat_eq n) new)) (sym (eq_ids id other t)) own
    by other false t = stand_same id other f g f2 g2 t behind ∙ all other ∙ sym (ap own_times (rewrites_others id (λ e. record e { is_queued = true }) old new rewrites other t))

-- where it stands once, it stands in a queue
stands_once : (id : ℕ) (f g : List ℕ) (n : ℕ) → times id f ≡ n → 0 < times id f + times id g → Stands f g id
stands_once id f g zero is some = inr (times-stands id g (omega (arith, is, some)))
stands_once id f g (suc n) is some = inl (times-stands id f (omega (arith, is)))

-- one that is marked so stands in a queue
pub listed_found : {D : Type 0} (seen : D → Seen) (es : List (ℕ × KeptEntry D)) (id : ℕ) (x : KeptEntry D) (f g : List ℕ) → AreListed (entries_seen seen es) f g → lookup (nat_eq id) es ≡ Some x → x.is_queued ≡ true → Stands f g id
listed_found seen es id x f g all found marked =
    let there : lookup (nat_eq id) (entries_seen seen es) ≡ Some (entry_seen seen x) = seen_at seen es id ∙ ap (option_map (entry_seen seen)) found in
    let one : times id f + times id g ≡ 1 = all id ∙ ap own_times there ∙ ap (λ (b : Bool). once_if (Some b)) marked in
    stands_once id f g (times id f) refl (omega (arith, one))

unmarked_none : (o : Option Entry) → option_map (λ (e : Entry). e.connection) o ≡ None → own_times o ≡ 0
unmarked_none None none = refl
unmarked_none (Some e) none = let no : ⊥ = cc in absurd no

-- one was added that is not marked so
pub listed_put : (id : ℕ) (w : Entry) (old new : List (ℕ × Entry)) (f g : List ℕ) → AreListed old f g → Written id w old new → w.is_queued ≡ false → option_map (λ (e : Entry). e.connection) (lookup (nat_eq id) old) ≡ None → AreListed new f g
listed_put id w old new f g all put off free = λ other. all other ∙ by other (nat_eq id other) refl
  where
    by : (other : ℕ) (t : Bool) → nat_eq id other ≡ t → own_times (lookup (nat_eq other) old) ≡ own_times (lookup (nat_eq other) new)
    by other true t =
        ap (λ (n : ℕ). own_times (lookup (nat_eq n) old)) (eq_ids id other t) ∙ unmarked_none (lookup (nat_eq id) old) free ∙ ap (λ (b : Bool). once_if (Some b)) (sym off) ∙ sym (ap own_times (written_self id other w old new put t))
    by other false t = sym (ap own_times (written_other id other w old new put t))

-- one is gone, and left the queues
pub listed_gone : (id : ℕ) (old new : List (ℕ × Entry)) (f g f2 g2 : List ℕ) → AreListed old f g → Gone id old new → f2 ≡ without id f → g2 ≡ without id g → AreListed new f2 g2
listed_gone id old new f g f2 g2 all gone fs gs = λ other. ap (λ (v : List ℕ). times other v + times other g2) fs ∙ ap (λ (v : List ℕ). times other (without id f) + times other v) gs ∙ by other (nat_eq id other) refl
  where
    by : (other : ℕ) (t : Bool) → nat_eq id other ≡ t → times other (without id f) + times other (without id g) ≡ own_times (lookup (nat_eq other) new)
    by other true t =
        let is = eq_ids id other t in
        let none_f : times other (without id f) ≡ 0 = ap (λ (n : ℕ). times n (without id f)) is ∙ times-gone id f in
        let none_g : times other (without id g) ≡ 0 = ap (λ (n : ℕ). times n (without id g)) is ∙ times-gone id g in
        let none : own_times (lookup (nat_eq other) new) ≡ 0 = ap own_times (gone other) ∙ ap (λ (b : Bool). own_times (cond b None (lookup (nat_eq other) old))) t in
        omega (arith, none_f, none_g, none)
    by other false t =
        let same_f = times-kept id other f t in
        let same_g = times-kept id other g t in
        let same : own_times (lookup (nat_eq other) new) ≡ own_times (lookup (nat_eq other) old) = ap own_times (gone other) ∙ ap (λ (b : Bool). own_times (cond b None (lookup (nat_eq other) old))) t in
        let h = all other in
        omega (arith, same_f, same_g, same, h)

-- one that is not marked so stands in no queue
pub listed_off : {D : Type 0} (seen : D → Seen) (es : List (ℕ × KeptEntry D)) (id : ℕ) (x : KeptEntry D) (f g : List ℕ) → AreListed (entries_seen seen es) f g → lookup (nat_eq id) es ≡ Some x → x.is_queued ≡ false → (times id f ≡ 0) × (times id g ≡ 0)
listed_off seen es id x f g all found off =
    let there : lookup (nat_eq id) (entries_seen seen es) ≡ Some (entry_seen seen x) = seen_at seen es id ∙ ap (option_map (entry_seen seen)) found in
    let none : times id f + times id g ≡ 0 = all id ∙ ap own_times there ∙ ap (λ (b : Bool). once_if (Some b)) off in
    (omega (arith, none), omega (arith, none))

-- one that is not there stands in no queue
pub listed_absent : {D : Type 0} (seen : D → Seen) (es : List (ℕ × KeptEntry D)) (id : ℕ) (f g : List ℕ) → AreListed (entries_seen seen es) f g → lookup (nat_eq id) es ≡ None → (times id f ≡ 0) × (times id g ≡ 0)
listed_absent seen es id f g all none_there =
    let there : lookup (nat_eq id) (entries_seen seen es) ≡ None = seen_at seen es id ∙ ap (option_map (entry_seen seen)) none_there in
    let none : times id f + times id g ≡ 0 = all id ∙ ap own_times there in
    (omega (arith, none), omega (arith, none))

unqueued_once : (o : Option Entry) → own_times (option_map (λ (e : Entry). let x : Entry = record e { is_queued = false } in x) o) ≡ 0
unqueued_once None = refl
unqueued_once (Some e) = refl

-- one is marked as queued no more, and stands at the head of a queue no more
pub listed_turned : (id : ℕ) (old new : List (ℕ × Entry)) (f g f2 g2 : List ℕ) → AreListed old f g → Rewrites id (λ e. record e { is_queued = false }) old new → Taken id f g f2 g2 → AreListed new f2 g2
listed_turned id old new f g f2 g2 all rewrites taken = λ other. by other (nat_eq id other) refl
  where
    own : times id f2 + times id g2 ≡ own_times (lookup (nat_eq id) new)
    own =
        let less = taken_less id f g f2 g2 taken in
        let h = all id in
        let most = at_most_once (option_map (λ (e : Entry). e.is_queued) (lookup (nat_eq id) old)) in
        let none : own_times (lookup (nat_eq id) new) ≡ 0 =
        ap own_times (rewrites id) ∙ ap (λ (b : Bool). own_times (cond b (option_map (λ (e : Entry). let x : Entry = record e { is_queued = false } in x) (lookup (nat_eq id) old)) (lookup (nat_eq id) old))) (same_id id) ∙ unqueued_once (lookup (nat_eq id) old) in
        omega (arith, less, h, most, none)

    by : (other : ℕ) (t : Bool) → nat_eq id other ≡ t → times other f2 + times other g2 ≡ own_times (lookup (nat_eq other) new)
    by other true t = subst (λ (n : ℕ). times n f2 + times n g2 ≡ own_times (lookup (nat_eq n) new)) (sym (eq_ids id other t)) own
    by other false t = sym (taken_same id other f g f2 g2 t taken) ∙ all other ∙ sym (ap own_times (rewrites_others id (λ e. record e { is_queued = false }) old new rewrites other t))

there_once : (o : Option Entry) → 0 < own_times o → IsSome (option_map (λ (e : Entry). e.connection) o)
there_once None some = absurd (omega (arith, some))
there_once (Some e) some = refl

-- one that stood at the head of a queue is there
pub listed_there : (id : ℕ) (es : List (ℕ × Entry)) (f g f2 g2 : List ℕ) → AreListed es f g → Taken id f g f2 g2 → IsSome (option_map (λ (e : Entry). e.connection) (lookup (nat_eq id) es))
listed_there id es f g f2 g2 all taken = let less = taken_less id f g f2 g2 taken in let h = all id in there_once (lookup (nat_eq id) es) (omega (arith, less, h))

-- one that is there and is not marked so has a mark that says it
pub unmarked_by : (o : Option Entry) → IfSome o (λ e. e.is_queued ≡ false) → IfSome (option_map (λ (e : Entry). e.is_queued) o) (λ b. b ≡ false)
unmarked_by None h = tt
unmarked_by (Some e) h = h

-- ---- who is marked as held back

gone_at : (b : Bool) (o p : Option Entry) (e : Entry) → p ≡ cond b None o → p ≡ Some e → o ≡ Some e
gone_at true o p e h there = let no : ⊥ = cc in absurd no
gone_at false o p e h there = sym h ∙ there

held_at : (b : Bool) (id other : ℕ) (w e : Entry) (o p : Option Entry) (xs ys : List ℕ) → nat_eq id other ≡ b → p ≡ cond b (Some w) o → p ≡ Some e → e.is_held ≡ true →
    (o ≡ Some e → Contains xs other) → (w.is_held ≡ true → Contains ys id) → (nat_eq id other ≡ false → Contains xs other → Contains ys other) → Contains ys other
held_at true id other w e o p xs ys t h there marked before own rest =
    let same : w ≡ e = some_is (sym h ∙ there) in
    subst (λ (n : ℕ). Contains ys n) (sym (eq_ids id other t)) (own (ap (λ (v : Entry). v.is_held) same ∙ marked))
held_at false id other w e o p xs ys t h there marked before own rest = rest t (before (sym h ∙ there))

-- one entry was written, and those that are held back changed for it alone
pub held_written : (id : ℕ) (w : Entry) (old new : List (ℕ × Entry)) (xs ys : List ℕ) → AreHeld old xs → Written id w old new → (w.is_held ≡ true → Contains ys id) →
    ((other : ℕ) → nat_eq id other ≡ false → Contains xs other → Contains ys other) → AreHeld new ys
held_written id w old new xs ys all put own rest = λ other e there marked.
    held_at (nat_eq id other) id other w e (lookup (nat_eq other) old) (lookup (nat_eq other) new) xs ys refl (put other) there marked (λ h. all other e h marked) own (rest other)

-- its mark stays
pub held_kept : (id : ℕ) (w e : Entry) (old new : List (ℕ × Entry)) (xs : List ℕ) → AreHeld old xs → Written id w old new → lookup (nat_eq id) old ≡ Some e → w.is_held ≡ e.is_held → AreHeld new xs
held_kept id w e old new xs all put there same = held_written id w old new xs xs all put (λ on. all id e there (sym same ∙ on)) (λ other ne h. h)

-- each is what it was, and each that was held back is so still
pub held_on : (old new : List (ℕ × Entry)) (xs ys : List ℕ) → AreHeld old xs → ((other : ℕ) → lookup (nat_eq other) new ≡ lookup (nat_eq other) old) → ((other : ℕ) → Contains xs other → Contains ys other) → AreHeld new ys
held_on old new xs ys all same on = λ other e there marked. on other (all other e (sym (same other) ∙ there) marked)

-- this one is marked as held back, as it is
pub held_marked : (id : ℕ) (old new : List (ℕ × Entry)) (xs ys : List ℕ) → AreHeld old xs → Rewrites id (λ e. record e { is_held = true }) old new → ys ≡ xs ++ id ∷ [] → AreHeld new ys
held_marked id old new xs ys all rewrites more = λ other e there marked. by other e there marked (nat_eq id other) refl
  where
    by : (other : ℕ) (e : Entry) → lookup (nat_eq other) new ≡ Some e → e.is_held ≡ true → (t : Bool) → nat_eq id other ≡ t → Contains ys other
    by other e there marked true t = subst (λ (n : ℕ). Contains ys n) (sym (eq_ids id other t)) (subst (λ (v : List ℕ). Contains v id) (sym more) (Contains-push xs id))
    by other e there marked false t = stays_or_adds id other xs ys (inr more) (all other e (sym (rewrites_others id (λ e. record e { is_held = true }) old new rewrites other t) ∙ there) marked)

-- one that is marked so is held back
pub held_found : {D : Type 0} (seen : D → Seen) (es : List (ℕ × KeptEntry D)) (id : ℕ) (x : KeptEntry D) (xs : List ℕ) → AreHeld (entries_seen seen es) xs → lookup (nat_eq id) es ≡ Some x → x.is_held ≡ true → Contains xs id
held_found seen es id x xs all found marked = all id (entry_seen seen x) (seen_at seen es id ∙ ap (option_map (entry_seen seen)) found) marked

-- it is not marked so
pub held_put : (id : ℕ) (w : Entry) (old new : List (ℕ × Entry)) (xs : List ℕ) → AreHeld old xs → Written id w old new → w.is_held ≡ false → AreHeld new xs
held_put id w old new xs all put off = held_written id w old new xs xs all put (λ on. let no : ⊥ = cc in absurd no) (λ other ne h. h)

-- one is gone
pub held_gone : (id : ℕ) (old new : List (ℕ × Entry)) (xs : List ℕ) → AreHeld old xs → Gone id old new → AreHeld new xs
held_gone id old new xs all gone = λ other e there marked. all other e (gone_at (nat_eq id other) (lookup (nat_eq other) old) (lookup (nat_eq other) new) e (gone other) there) marked

-- each is what it was
pub held_same : (old new : List (ℕ × Entry)) (xs : List ℕ) → AreHeld old xs → ((other : ℕ) → lookup (nat_eq other) new ≡ lookup (nat_eq other) old) → AreHeld new xs
held_same old new xs all same = λ other e there marked. all other e (sym (same other) ∙ there) marked

marked_at : (o p : Option Entry) (e : Entry) → option_map (λ x. x.is_held) p ≡ option_map (λ x. x.is_held) o → p ≡ Some e → e.is_held ≡ true → (d : Entry) × (o ≡ Some d) × (d.is_held ≡ true)
marked_at None p e h there marked = let no : ⊥ = cc in absurd no
marked_at (Some d) p e h there marked = (d, refl, some_is (sym h ∙ ap (option_map (λ (x : Entry). x.is_held)) there) ∙ marked)

-- all marks stay
pub held_marks : (old new : List (ℕ × Entry)) (xs : List ℕ) → AreHeld old xs → ((other : ℕ) → option_map (λ e. e.is_held) (lookup (nat_eq other) new) ≡ option_map (λ e. e.is_held) (lookup (nat_eq other) old)) → AreHeld new xs
held_marks old new xs all same = λ other e there marked. let was = marked_at (lookup (nat_eq other) old) (lookup (nat_eq other) new) e (same other) there marked in all other was.0 was.1 was.2

unheld_at : (o : Option Entry) (e : Entry) → IfSome o (λ x. x.is_held ≡ false) → o ≡ Some e → e.is_held ≡ false
unheld_at None e h there = let no : ⊥ = cc in absurd no
unheld_at (Some x) e h there = subst (λ (v : Entry). v.is_held ≡ false) (some_is there) h

-- the first of those is so no more
pub held_let_go : (id : ℕ) (old new : List (ℕ × Entry)) (xs ys : List ℕ) → AreHeld old xs → Rewrites id (λ e. record e { is_held = false }) old new → xs ≡ id ∷ ys → AreHeld new ys
held_let_go id old new xs ys all rewrites first = λ other e there marked. by other e there marked (nat_eq id other) refl
  where
    by : (other : ℕ) (e : Entry) → lookup (nat_eq other) new ≡ Some e → e.is_held ≡ true → (t : Bool) → nat_eq id other ≡ t → Contains ys other
    by other e there marked true t =
        let unmarked : IfSome (lookup (nat_eq id) new) (λ x. x.is_held ≡ false) = rewrites_self (λ (x : Entry). x.is_held ≡ false) id (λ e. record e { is_held = false }) old new (λ x. refl) rewrites in
        let off : e.is_held ≡ false = unheld_at (lookup (nat_eq id) new) e unmarked (subst (λ (n : ℕ). lookup (nat_eq n) new ≡ Some e) (eq_ids id other t) there) in
        let no : true ≡ false = sym marked ∙ off in absurd cc
    by other e there marked false t = popped xs ys id other first t (all other e (sym (rewrites_others id (λ e. record e { is_held = false }) old new rewrites other t) ∙ there) marked)

-- ---- a connection that was changed in place

-- The connection of this stream was that and is this, and each other is what it was; and each that is marked stands where its
-- marks say.
pub record IsInPlace (id : ℕ) (was now : Connection) (old new : List (ℕ × Entry)) (fresh busy held : List ℕ) : Type 0 where
  pub there : option_map (λ (e : Entry). e.connection) (lookup (nat_eq id) old) ≡ Some was
  pub puts : PutsIn id (Some now) old new
  pub are_listed : AreListed new fresh busy
  pub are_held : AreHeld new held

-- where one entry was written whose marks stay, its connection alone changed
pub in_place : {D : Type 0} (seen : D → Seen) (id : ℕ) (x w : KeptEntry D) (ms ns : List (ℕ × KeptEntry D)) (fresh busy held : List ℕ) → lookup (nat_eq id) ms ≡ Some x → Written id w ms ns → w.is_queued ≡ x.is_queued → w.is_held ≡ x.is_held →
    AreListed (entries_seen seen ms) fresh busy × AreHeld (entries_seen seen ms) held → IsInPlace id (connection_seen seen x.connection) (connection_seen seen w.connection) (entries_seen seen ms) (entries_seen seen ns) fresh busy held
in_place seen id x w ms ns fresh busy held found put queued is_held marks =
    let there : lookup (nat_eq id) (entries_seen seen ms) ≡ Some (entry_seen seen x) = seen_at seen ms id ∙ ap (option_map (entry_seen seen)) found in
    let written = written_seen seen id w ms ns put in
    record {
      there = connection_seen_at seen ms id x found;
      puts = puts_written id (entry_seen seen w) (entries_seen seen ms) (entries_seen seen ns) written;
      are_listed = listed_kept id (entry_seen seen w) (entry_seen seen x) (entries_seen seen ms) (entries_seen seen ns) fresh busy marks.0 written there queued;
      are_held = held_kept id (entry_seen seen w) (entry_seen seen x) (entries_seen seen ms) (entries_seen seen ns) held marks.1 written there is_held;
    }
