-- What callers may do stays so with each entry and each caller.
use Rattle.std.proofs.Common.{◌≡◌, ◌≢◌, ◌⊎◌, ◌<◌, ◌==◌, ℕ, List, [], ◌∷◌, ◌++◌, length, set, Bool, true, false, Option, Some, None, refl, sym, ap, subst, ◌∙◌, inl, inr, arith}
use Rattle.std.specs.Prelude.{slice_get}
use Rattle.std.proofs.lemmas.Bool.Decides.{nat_tests}
use Rattle.std.proofs.lemmas.Option.{slice_get_within}
use Rattle.ymx_machine.specs.declared.types.Call.TheVariants as call
use Rattle.ymx_model.specs.session.Events.{Event}
use Rattle.ymx_model.specs.declared.types.Event.TheVariants as event
use Rattle.ymx_model.specs.declared.types.Entry.{Entry}
use Rattle.ymx_seats.specs.declared.plays.Right.{Right}
use Rattle.ymx_seats.specs.declared.plays.Right.TheVariants.{Free, Writes, Reads, Released}
use Rattle.ymx_model.specs.declared.types.Role.{Role}
use Rattle.ymx_model.specs.declared.types.Config.{Config}
use Rattle.ymx_seats.specs.Journals.{release_of}
use Rattle.ymx_seats.proofs.Places.{got_before, got_last, some_same, got_pushed, got_same, got_other, got_set}
use Rattle.ymx_seats.specs.Views.{IsWitnessed}
use Rattle.ymx_hub.specs.Books.{TellsStream, AsksStream}
use Rattle.ymx_hub.specs.Rights.{MayWrite, MayRead, MayDo, IsWriters, IsReaders, IsReleased, IsWriterAt, IsReaderAt, IsGivenAt, AreHandedOut, AreRightful, SaysSole, WritesAlone, ReadsAlone}

-- an entry that gave a stream stays
given_before : (es : List Entry) (d : Entry) (at id : ℕ) → IsGivenAt es at id → IsGivenAt (es ++ d ∷ []) at id
given_before es d at id g = (g.0, g.1, got_before es d at g.0 g.2, g.3)

-- ---- one kind of halves

module _ (Has : Right → (id at : ℕ) → Type 0) where
  -- one entry more
  handed_after : (rights : List Right) (whole : List Entry) (e : Entry) → AreHandedOut Has rights whole → AreHandedOut Has rights (whole ++ e ∷ [])
  handed_after rights whole e h = record { given = λ n id at right g has. given_before whole e at id (h.given n id at right g has); apart = h.apart }

  -- a caller that had no such half, whose right is another now
  was_before : (rights : List Right) (right : Right) (n : ℕ) (it : Right) (id at : ℕ) → ((id at : ℕ) → Has right id at → ⊥) → slice_get (rights ++ right ∷ []) n ≡ Some it → Has it id at → slice_get rights n ≡ Some it
  was_before rights right n it id at none g has = of (got_pushed rights right n it g)
    where
      of : (slice_get rights n ≡ Some it) ⊎ ((n ≡ length rights) × (it ≡ right)) → slice_get rights n ≡ Some it
      of (inl h) = h
      of (inr h) = absurd (none id at (subst (λ (r : Right). Has r id at) h.1 has))

  -- one caller more, with no such half
  handed_none : (rights : List Right) (whole : List Entry) (right : Right) → ((id at : ℕ) → Has right id at → ⊥) → AreHandedOut Has rights whole → AreHandedOut Has (rights ++ right ∷ []) whole
  handed_none rights whole right none h = record {
    given = λ n id at it g has. h.given n id at it (was_before rights right n it id at none g has) has;
    apart = λ n m id other at it last f g has too. h.apart n m id other at it last (was_before rights right n it id at none f has) (was_before rights right m last other at none g too) has too;
  }

  -- one caller more, with such a half of the stream that the last entry gave: no caller was numbered for that before
  handed_given : (rights : List Right) (whole : List Entry) (e : Entry) (id taken : ℕ) (right : Right) → ((jd at : ℕ) → Has right jd at → (jd ≡ id) × (at ≡ length whole)) → AreHandedOut Has rights whole → TellsStream e.event id taken e.reply → AreHandedOut Has (rights ++ right ∷ []) (whole ++ e ∷ [])
  handed_given rights whole e id taken right only h tells = record {
    given = λ n jd at it g has. there n jd at it has (got_pushed rights right n it g);
    apart = λ n m jd other at it last f g has too. same n m jd other at it last has too (got_pushed rights right n it f) (got_pushed rights right m last g);
  }
    where
      there : (n jd at : ℕ) (it : Right) → Has it jd at → (slice_get rights n ≡ Some it) ⊎ ((n ≡ length rights) × (it ≡ right)) → IsGivenAt (whole ++ e ∷ []) at jd
      there n jd at it has (inl g) = given_before whole e at jd (h.given n jd at it g has)
      there n jd at it has (inr g) =
          let both : (jd ≡ id) × (at ≡ length whole) = only jd at (subst (λ (r : Right). Has r jd at) g.1 has) in
          subst (λ (p : ℕ × ℕ). IsGivenAt (whole ++ e ∷ []) p.1 p.0) (λ i. (sym both.0 i, sym both.1 i)) (e, taken, got_last whole e, tells)

      -- none was numbered for an entry that wasn't there
      none : (n jd at : ℕ) (it : Right) → slice_get rights n ≡ Some it → Has it jd at → at ≡ length whole → ⊥
      none n jd at it g has here = let t : IsGivenAt whole at jd = h.given n jd at it g has in let within : at < length whole = slice_get_within whole at t.0 t.2 in omega (arith, within, here)

      same : (n m jd other at : ℕ) (it last : Right) → Has it jd at → Has last other at → (slice_get rights n ≡ Some it) ⊎ ((n ≡ length rights) × (it ≡ right)) → (slice_get rights m ≡ Some last) ⊎ ((m ≡ length rights) × (last ≡ right)) → n ≡ m
      same n m jd other at it last has too (inl f) (inl g) = h.apart n m jd other at it last f g has too
      same n m jd other at it last has too (inl f) (inr g) = absurd (none n jd at it f has (only other at (subst (λ (r : Right). Has r other at) g.1 too)).1)
      same n m jd other at it last has too (inr f) (inl g) = absurd (none m other at last g too (only jd at (subst (λ (r : Right). Has r jd at) f.1 has)).1)
      same n m jd other at it last has too (inr f) (inr g) = f.0 ∙ sym g.0

  -- a caller whose right is another now, with no half that it hadn't
  handed_set : (rights : List Right) (whole : List Entry) (n : ℕ) (was right : Right) → slice_get rights n ≡ Some was → ((id at : ℕ) → Has right id at → Has was id at) → AreHandedOut Has rights whole → AreHandedOut Has (set rights n right) whole
  handed_set rights whole n was right known less h = record {
    given = λ m id at it g has. let t = before m id at it g has in h.given m id at t.0 t.1 t.2;
    apart = λ m k id other at it last f g has too. let t = before m id at it f has in let u = before k other at last g too in h.apart m k id other at t.0 u.0 t.1 u.1 t.2 u.2;
  }
    where
      before : (m id at : ℕ) (it : Right) → slice_get (set rights n right) m ≡ Some it → Has it id at → (r : Right) × (slice_get rights m ≡ Some r) × Has r id at
      before m id at it g has = of (got_set rights n m was right it known g)
        where
          of : (slice_get rights m ≡ Some it) ⊎ ((m ≡ n) × (it ≡ right)) → (r : Right) × (slice_get rights m ≡ Some r) × Has r id at
          of (inl t) = (it, t, has)
          of (inr t) = (was, ap (slice_get rights) t.0 ∙ known, less id at (subst (λ (r : Right). Has r id at) t.1 has))

  -- who has such a half of a stream is the one that was numbered for an entry, or another entry gave the stream
  holder : (rights : List Right) (whole : List Entry) (n id at : ℕ) (right : Right) → AreHandedOut Has rights whole → slice_get rights n ≡ Some right → Has right id at →
      (m : ℕ) (it : Right) (other : ℕ) → slice_get rights m ≡ Some it → Has it id other → ((m ≡ n) × (other ≡ at)) ⊎ ((o : ℕ) × (o ≢ at) × IsGivenAt whole o id)
  holder rights whole n id at right h known mine m it other g has = of (other == at) refl
    where
      of : (b : Bool) → (other == at) ≡ b → ((m ≡ n) × (other ≡ at)) ⊎ ((o : ℕ) × (o ≢ at) × IsGivenAt whole o id)
      of true e =
          let here : other ≡ at = grind (arith, nat_tests) in
          inl (h.apart m n id id at it right g known (subst (Has it id) here has) mine, here)
      of false e = inr (other, (λ same. grind (arith, nat_tests)), h.given m id other it g has)

-- ---- what may be done

-- where more reads were released, no less
pub may_more : (P Q : ℕ → Type 0) → ((id : ℕ) → P id → Q id) → (right : Right) (a : Event) → MayDo P right a → MayDo Q right a
may_more P Q f right (event.Call call.Open) m = tt
may_more P Q f right (event.Call (call.OpenWith bytes)) m = tt
may_more P Q f right (event.Call call.Accept) m = tt
may_more P Q f right (event.Call (call.Write other bytes)) m = m
may_more P Q f right (event.Call (call.Finish other)) m = m
may_more P Q f right (event.Call (call.Reset other)) m = m
may_more P Q f right (event.Call (call.Read other room)) (inl m) = inl m
may_more P Q f right (event.Call (call.Read other room)) (inr m) = inr (f other m)
may_more P Q f right (event.Call (call.Forget other)) m = tt
may_more P Q f right (event.Call call.Ping) m = tt
may_more P Q f right (event.Call (call.Ponged n)) m = tt
may_more P Q f right (event.Call call.GoAway) m = tt
may_more P Q f right (event.Call call.Close) m = tt
may_more P Q f right (event.Feed bytes) m = tt
may_more P Q f right event.FeedEnd m = tt
may_more P Q f right (event.Emit room) m = tt

-- one entry more, which its caller may make
pub rightful_after : (rights : List Right) (whole : List Entry) (e : Entry) (right : Right) → AreRightful rights whole → slice_get rights e.seat ≡ Some right → MayDo (IsReleased rights) right e.event → AreRightful rights (whole ++ e ∷ [])
rightful_after rights whole e right r known may = record {
  done = λ place d g. of place d (got_pushed whole e place d g);
  writers = handed_after IsWriterAt rights whole e r.writers;
  readers = handed_after IsReaderAt rights whole e r.readers;
}
  where
    of : (place : ℕ) (d : Entry) → (slice_get whole place ≡ Some d) ⊎ ((place ≡ length whole) × (d ≡ e)) → (it : Right) × (slice_get rights d.seat ≡ Some it) × MayDo (IsReleased rights) it d.event
    of place d (inl g) = r.done place d g
    of place d (inr g) = subst (λ (x : Entry). (it : Right) × (slice_get rights x.seat ≡ Some it) × MayDo (IsReleased rights) it x.event) (sym g.1) (right, known, may)

-- what was done stays rightful with one caller more
done_more : (rights : List Right) (whole : List Entry) (right : Right) → ((place : ℕ) (e : Entry) → slice_get whole place ≡ Some e → (it : Right) × (slice_get rights e.seat ≡ Some it) × MayDo (IsReleased rights) it e.event) →
    (place : ℕ) (e : Entry) → slice_get whole place ≡ Some e → (it : Right) × (slice_get (rights ++ right ∷ []) e.seat ≡ Some it) × MayDo (IsReleased (rights ++ right ∷ [])) it e.event
done_more rights whole right done place e g =
    let t : (it : Right) × (slice_get rights e.seat ≡ Some it) × MayDo (IsReleased rights) it e.event = done place e g in
    (t.0, got_before rights right e.seat t.0 t.1, may_more (IsReleased rights) (IsReleased (rights ++ right ∷ [])) (λ id l. (l.0, l.1, got_before rights right l.0 (Released id l.1) l.2)) t.0 e.event t.2)

no_writer : (id at : ℕ) → IsWriterAt Free id at → ⊥
no_writer id at e = cc

no_reader : (id at : ℕ) → IsReaderAt Free id at → ⊥
no_reader id at (inl e) = cc
no_reader id at (inr e) = cc

-- one caller more, which may do what is no half's
pub rightful_free : (rights : List Right) (whole : List Entry) → AreRightful rights whole → AreRightful (rights ++ Free ∷ []) whole
rightful_free rights whole r = record {
  done = done_more rights whole Free r.done;
  writers = handed_none IsWriterAt rights whole Free no_writer r.writers;
  readers = handed_none IsReaderAt rights whole Free no_reader r.readers;
}

-- a half is one of the two
reads_not : (id at jd bt : ℕ) → IsWriterAt (Reads id at) jd bt → ⊥
reads_not id at jd bt e = cc

writes_not : (id at jd bt : ℕ) → IsReaderAt (Writes id at) jd bt → ⊥
writes_not id at jd bt (inl e) = cc
writes_not id at jd bt (inr e) = cc

writes_only : (id at jd bt : ℕ) → IsWriterAt (Writes id at) jd bt → (jd ≡ id) × (bt ≡ at)
writes_only id at jd bt e = (cc, cc)

reads_only : (id at jd bt : ℕ) → IsReaderAt (Reads id at) jd bt → (jd ≡ id) × (bt ≡ at)
reads_only id at jd bt (inl e) = (cc, cc)
reads_only id at jd bt (inr e) = absurd cc

-- two callers more, with the halves of the stream that the last entry gave
pub rightful_given : (rights : List Right) (whole : List Entry) (e : Entry) (id taken : ℕ) → AreRightful rights whole → AreRightful rights (whole ++ e ∷ []) → TellsStream e.event id taken e.reply →
    AreRightful ((rights ++ Writes id (length whole) ∷ []) ++ Reads id (length whole) ∷ []) (whole ++ e ∷ [])
rightful_given rights whole e id taken before r tells =
    let at : ℕ = length whole in
    let one : List Right = rights ++ Writes id at ∷ [] in record {
      done = done_more one (whole ++ e ∷ []) (Reads id at) (done_more rights (whole ++ e ∷ []) (Writes id at) r.done);
      writers = handed_none IsWriterAt one (whole ++ e ∷ []) (Reads id at) (reads_not id at)
          (handed_given IsWriterAt rights whole e id taken (Writes id at) (writes_only id at) before.writers tells);
      readers = handed_given IsReaderAt one whole e id taken (Reads id at) (reads_only id at)
          (handed_none IsReaderAt rights whole (Writes id at) (writes_not id at) before.readers) tells;
    }

-- ---- reads that are released

-- the streams that were released before are so still
pub released_more : (rights : List Right) (n : ℕ) (right : Right) → slice_get rights n ≡ Some right → (id : ℕ) → IsReleased rights id → IsReleased (set rights n (release_of right)) id
released_more rights n right known id (m, at, g) = of (m == n) refl
  where
    stays : (r : Right) → r ≡ Released id at → release_of r ≡ Released id at
    stays r e = ap release_of e

    of : (b : Bool) → (m == n) ≡ b → IsReleased (set rights n (release_of right)) id
    of true h =
        let here : m ≡ n = grind (arith, nat_tests) in
        let mine : right ≡ Released id at = some_same right (Released id at) (sym known ∙ ap (slice_get rights) (sym here) ∙ g) in
        (n, at, got_same rights n right (release_of right) known ∙ ap (λ (x : Right). Some x) (stays right mine))
    of false h = (m, at, got_other rights n m (release_of right) (Released id at) (λ same. grind (arith, nat_tests)) g)

-- what a caller may do that releases its reads, it may do still, as all may
may_released : (P Q : ℕ → Type 0) (right : Right) → ((id : ℕ) → P id → Q id) → ((id : ℕ) → MayRead right id → Q id) → (a : Event) → MayDo P right a → MayDo Q (release_of right) a
may_released P Q Free f mine a m = may_more P Q f Free a m
may_released P Q (Writes id at) f mine a m = may_more P Q f (Writes id at) a m
may_released P Q (Released id at) f mine a m = may_more P Q f (Released id at) a m
may_released P Q (Reads id at) f mine (event.Call call.Open) m = tt
may_released P Q (Reads id at) f mine (event.Call (call.OpenWith bytes)) m = tt
may_released P Q (Reads id at) f mine (event.Call call.Accept) m = tt
may_released P Q (Reads id at) f mine (event.Call (call.Write other bytes)) m = absurd (reads_not id at other m.0 m.1)
may_released P Q (Reads id at) f mine (event.Call (call.Finish other)) m = absurd (reads_not id at other m.0 m.1)
may_released P Q (Reads id at) f mine (event.Call (call.Reset other)) m = absurd (reads_not id at other m.0 m.1)
may_released P Q (Reads id at) f mine (event.Call (call.Read other room)) (inl m) = inr (mine other m)
may_released P Q (Reads id at) f mine (event.Call (call.Read other room)) (inr m) = inr (f other m)
may_released P Q (Reads id at) f mine (event.Call (call.Forget other)) m = tt
may_released P Q (Reads id at) f mine (event.Call call.Ping) m = tt
may_released P Q (Reads id at) f mine (event.Call (call.Ponged n)) m = tt
may_released P Q (Reads id at) f mine (event.Call call.GoAway) m = tt
may_released P Q (Reads id at) f mine (event.Call call.Close) m = tt
may_released P Q (Reads id at) f mine (event.Feed bytes) m = tt
may_released P Q (Reads id at) f mine event.FeedEnd m = tt
may_released P Q (Reads id at) f mine (event.Emit room) m = tt

released_writer : (right : Right) (id at : ℕ) → IsWriterAt (release_of right) id at → IsWriterAt right id at
released_writer Free id at e = e
released_writer (Writes jd bt) id at e = e
released_writer (Reads jd bt) id at e = absurd cc
released_writer (Released jd bt) id at e = e

released_reader : (right : Right) (id at : ℕ) → IsReaderAt (release_of right) id at → IsReaderAt right id at
released_reader Free id at e = e
released_reader (Writes jd bt) id at e = e
released_reader (Reads jd bt) id at (inl e) = absurd cc
released_reader (Reads jd bt) id at (inr e) = let both : (jd ≡ id) × (bt ≡ at) = (cc, cc) in inl (λ i. Reads (both.0 i) (both.1 i))
released_reader (Released jd bt) id at e = e

-- a caller releases its reads
pub rightful_released : (rights : List Right) (whole : List Entry) (n : ℕ) (right : Right) → slice_get rights n ≡ Some right → AreRightful rights whole → AreRightful (set rights n (release_of right)) whole
rightful_released rights whole n right known r = record {
  done = done;
  writers = handed_set IsWriterAt rights whole n right (release_of right) known (released_writer right) r.writers;
  readers = handed_set IsReaderAt rights whole n right (release_of right) known (released_reader right) r.readers;
}
  where
    next : List Right
    next = set rights n (release_of right)

    mine : (id : ℕ) → MayRead right id → IsReleased next id
    mine id m = (n, m.0, got_same rights n right (release_of right) known ∙ ap (λ (x : Right). Some (release_of x)) m.1)

    done : (place : ℕ) (e : Entry) → slice_get whole place ≡ Some e → (it : Right) × (slice_get next e.seat ≡ Some it) × MayDo (IsReleased next) it e.event
    done place e g = of (e.seat == n) refl
      where
        t : (it : Right) × (slice_get rights e.seat ≡ Some it) × MayDo (IsReleased rights) it e.event
        t = r.done place e g

        of : (b : Bool) → (e.seat == n) ≡ b → (it : Right) × (slice_get next e.seat ≡ Some it) × MayDo (IsReleased next) it e.event
        of true h =
            let here : e.seat ≡ n = grind (arith, nat_tests) in
            let same : t.0 ≡ right = some_same t.0 right (sym t.1 ∙ ap (slice_get rights) here ∙ known) in (
              release_of right,
              ap (slice_get next) here ∙ got_same rights n right (release_of right) known,
              may_released (IsReleased rights) (IsReleased next) right (released_more rights n right known) mine e.event (subst (λ (x : Right). MayDo (IsReleased rights) x e.event) same t.2),
            )
        of false h = (
          t.0,
          got_other rights n e.seat (release_of right) t.0 (λ same. grind (arith, nat_tests)) t.1,
          may_more (IsReleased rights) (IsReleased next) (released_more rights n right known) t.0 e.event t.2,
        )

-- ---- who made a call

-- who makes a writing half's call may write that stream
may_write : (P : ℕ → Type 0) (id : ℕ) (right : Right) (a : Event) → IsWriters id a → MayDo P right a → MayWrite right id
may_write P id right (event.Call call.Open) w m = absurd w
may_write P id right (event.Call (call.OpenWith bytes)) w m = absurd w
may_write P id right (event.Call call.Accept) w m = absurd w
may_write P id right (event.Call (call.Write other bytes)) w m = subst (MayWrite right) w m
may_write P id right (event.Call (call.Finish other)) w m = subst (MayWrite right) w m
may_write P id right (event.Call (call.Reset other)) w m = subst (MayWrite right) w m
may_write P id right (event.Call (call.Read other room)) w m = absurd w
may_write P id right (event.Call (call.Forget other)) w m = absurd w
may_write P id right (event.Call call.Ping) w m = absurd w
may_write P id right (event.Call (call.Ponged n)) w m = absurd w
may_write P id right (event.Call call.GoAway) w m = absurd w
may_write P id right (event.Call call.Close) w m = absurd w
may_write P id right (event.Feed bytes) w m = absurd w
may_write P id right event.FeedEnd w m = absurd w
may_write P id right (event.Emit room) w m = absurd w

-- who reads a stream may read it, or all may
may_read : (P : ℕ → Type 0) (id : ℕ) (right : Right) (a : Event) → IsReaders id a → MayDo P right a → MayRead right id ⊎ P id
may_read P id right (event.Call call.Open) w m = absurd w
may_read P id right (event.Call (call.OpenWith bytes)) w m = absurd w
may_read P id right (event.Call call.Accept) w m = absurd w
may_read P id right (event.Call (call.Write other bytes)) w m = absurd w
may_read P id right (event.Call (call.Finish other)) w m = absurd w
may_read P id right (event.Call (call.Reset other)) w m = absurd w
may_read P id right (event.Call (call.Read other room)) w m = subst (λ (x : ℕ). MayRead right x ⊎ P x) w m
may_read P id right (event.Call (call.Forget other)) w m = absurd w
may_read P id right (event.Call call.Ping) w m = absurd w
may_read P id right (event.Call (call.Ponged n)) w m = absurd w
may_read P id right (event.Call call.GoAway) w m = absurd w
may_read P id right (event.Call call.Close) w m = absurd w
may_read P id right (event.Feed bytes) w m = absurd w
may_read P id right event.FeedEnd w m = absurd w
may_read P id right (event.Emit room) w m = absurd w

-- what asks for a stream each caller may do
pub asks_freely : (P : ℕ → Type 0) (right : Right) (a : Event) → AsksStream a → MayDo P right a
asks_freely P right (event.Call call.Open) h = tt
asks_freely P right (event.Call (call.OpenWith bytes)) h = tt
asks_freely P right (event.Call call.Accept) h = tt
asks_freely P right (event.Call (call.Write other bytes)) h = absurd h
asks_freely P right (event.Call (call.Finish other)) h = absurd h
asks_freely P right (event.Call (call.Reset other)) h = absurd h
asks_freely P right (event.Call (call.Read other room)) h = absurd h
asks_freely P right (event.Call (call.Forget other)) h = absurd h
asks_freely P right (event.Call call.Ping) h = absurd h
asks_freely P right (event.Call (call.Ponged n)) h = absurd h
asks_freely P right (event.Call call.GoAway) h = absurd h
asks_freely P right (event.Call call.Close) h = absurd h
asks_freely P right (event.Feed bytes) h = absurd h
asks_freely P right event.FeedEnd h = absurd h
asks_freely P right (event.Emit room) h = absurd h

reads_same : (id at bt : ℕ) → Reads id at ≡ Released id bt → ⊥
reads_same id at bt e = cc

-- so a caller that has a half of a stream is the only one that makes its calls
pub says_sole : (rights : List Right) (whole : List Entry) (n : ℕ) (right : Right) → AreRightful rights whole → slice_get rights n ≡ Some right → SaysSole right n (Some whole)
says_sole rights whole n Free r known = tt
says_sole rights whole n (Released id at) r known = tt
says_sole rights whole n (Writes id at) r known = (r.writers.given n id at (Writes id at) known refl, sole)
  where
    sole : (place : ℕ) (e : Entry) → slice_get whole place ≡ Some e → IsWriters id e.event → (e.seat ≡ n) ⊎ ((o : ℕ) × (o ≢ at) × IsGivenAt whole o id)
    sole place e g w =
        let t : (it : Right) × (slice_get rights e.seat ≡ Some it) × MayDo (IsReleased rights) it e.event = r.done place e g in
        let m : MayWrite t.0 id = may_write (IsReleased rights) id t.0 e.event w t.2 in
        of e (holder IsWriterAt rights whole n id at (Writes id at) r.writers known refl e.seat t.0 m.0 t.1 m.1)
      where
        of : (e : Entry) {other : ℕ} → ((e.seat ≡ n) × (other ≡ at)) ⊎ ((o : ℕ) × (o ≢ at) × IsGivenAt whole o id) → (e.seat ≡ n) ⊎ ((o : ℕ) × (o ≢ at) × IsGivenAt whole o id)
        of e (inl h) = inl h.0
        of e (inr h) = inr h
says_sole rights whole n (Reads id at) r known = (r.readers.given n id at (Reads id at) known (inl refl), sole)
  where
    sole : (place : ℕ) (e : Entry) → slice_get whole place ≡ Some e → IsReaders id e.event → (e.seat ≡ n) ⊎ ((o : ℕ) × (o ≢ at) × IsGivenAt whole o id)
    sole place e g w =
        let t : (it : Right) × (slice_get rights e.seat ≡ Some it) × MayDo (IsReleased rights) it e.event = r.done place e g in
        by e t.0 t.1 (may_read (IsReleased rights) id t.0 e.event w t.2)
      where
        own : (e : Entry) {other : ℕ} → ((e.seat ≡ n) × (other ≡ at)) ⊎ ((o : ℕ) × (o ≢ at) × IsGivenAt whole o id) → (e.seat ≡ n) ⊎ ((o : ℕ) × (o ≢ at) × IsGivenAt whole o id)
        own e (inl h) = inl h.0
        own e (inr h) = inr h

        -- its reads were released by another
        theirs : (e : Entry) (m other : ℕ) → slice_get rights m ≡ Some (Released id other) → ((m ≡ n) × (other ≡ at)) ⊎ ((o : ℕ) × (o ≢ at) × IsGivenAt whole o id) → (e.seat ≡ n) ⊎ ((o : ℕ) × (o ≢ at) × IsGivenAt whole o id)
        theirs e m other g (inl h) = absurd (reads_same id at other (some_same (Reads id at) (Released id other) (sym known ∙ ap (slice_get rights) (sym h.0) ∙ g)))
        theirs e m other g (inr h) = inr h

        by : (e : Entry) (it : Right) → slice_get rights e.seat ≡ Some it → MayRead it id ⊎ IsReleased rights id → (e.seat ≡ n) ⊎ ((o : ℕ) × (o ≢ at) × IsGivenAt whole o id)
        by e it g (inl m) = own e (holder IsReaderAt rights whole n id at (Reads id at) r.readers known (inl refl) e.seat it m.0 g (inl m.1))
        by e it g (inr l) = theirs e l.0 l.1 l.2 (holder IsReaderAt rights whole n id at (Reads id at) r.readers known (inl refl) l.0 (Released id l.1) l.1 l.2 (inr refl))

-- the same, of the caller of a writing half
pub writes_alone : (role : Role) (config : Config) (id n : ℕ) (right : Right) (seen : Option (List Entry)) → MayWrite right id → SaysSole right n seen → IsWitnessed true role config seen → WritesAlone id n seen
writes_alone role config id n right None may sole history = absurd history
writes_alone role config id n right (Some es) may sole history = let known : SaysSole (Writes id may.0) n (Some es) = subst (λ (r : Right). SaysSole r n (Some es)) may.1 sole in (may.0, known.0, known.1)

-- and of a reading half
pub reads_alone : (role : Role) (config : Config) (id n : ℕ) (right : Right) (seen : Option (List Entry)) → MayRead right id → SaysSole right n seen → IsWitnessed true role config seen → ReadsAlone id n seen
reads_alone role config id n right None may sole history = absurd history
reads_alone role config id n right (Some es) may sole history = let known : SaysSole (Reads id may.0) n (Some es) = subst (λ (r : Right). SaysSole r n (Some es)) may.1 sole in (may.0, known.0, known.1)
