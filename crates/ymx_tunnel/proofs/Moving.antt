-- What a copy has moved, round by round.
use Rattle.std.proofs.Common.{◌≡◌, ℕ, ◌+◌, ◌-◌, ◌^◌, ◌≤◌, ◌<◌, ◌⊎◌, inl, inr, min, List, [], ◌++◌, length, take, drop, Option, None, Some, arith, refl, sym, ◌∙◌, ap, subst, append-nil, append_assoc, take-append-drop, IsTrue, Result, Ok, Err, MatchResult}
use Rattle.std.specs.Io.{StartsWith}
use Rattle.std.specs.Io.KnownBytes.{Appends, Consumes, Keeps, IsAtEnd}
use Rattle.std.proofs.KnownBytes.{Appends-nil, Appends-trans, Appends-kept, Consumes-nil, Consumes-trans, Consumes-kept}
use Rattle.std.proofs.lemmas.List.{take_all, length-take-le}
use Rattle.std.proofs.lemmas.Bool.Decides.{nat_tests}
use Rattle.std.proofs.Math.Seq.{take-append_seam}
use Rattle.std.proofs.lemmas.Grind.{common_steps}
use Rattle.ymx_model.specs.devices.Devices.{has_failed, most_failures}
use Rattle.ymx_tunnel.specs.declared.copied.CopyWhy.{CopyWhy}
use Rattle.ymx_tunnel.specs.declared.copied.CopyWhy.TheVariants.{End, Source, Sink, Reset, Lost}
use Rattle.ymx_tunnel.specs.Copies.{CopiesIn, CopiesOut, EndsWell, StopsAt, StopsFor, copy_reason}
use Rattle.ymx_memory.specs.declared.refused.RefusedAllocation.{RefusedAllocation}
use Rattle.ymx_machine.specs.declared.types.CallFault.TheVariants as refusal
use Rattle.ymx_hub.specs.declared.faults.HubFault.{HubFault}
use Rattle.ymx_hub.specs.declared.faults.HubFault.TheVariants.{Call, Memory, Seats, Releases}

-- a call that fails is counted
pub counted : (first old new : ℕ) → new ≡ min (old + 1) most_failures → old ≡ first → IsTrue (has_failed first new)
counted first old new e same = grind (arith, nat_tests)

-- ---- counts

abbrev pub most : ℕ
most = 2 ^ 64 - 1

-- a count that stays at the greatest goes on
pub counts_more : (moved part : List ℕ) (bytes more count : ℕ) → bytes ≡ min (length moved) most → length part ≡ count → more ≡ min (bytes + count) most →
    more ≡ min (length (moved ++ part)) most
counts_more moved part bytes more count e l m = grind (arith, common_steps)

-- ---- into a sink

-- So far this was read and taken, and no call of the reader failed.
pub record HasFilled (was is had has : Option (List ℕ)) (bytes failed fails : ℕ) : Type 0 where
  pub moved : List ℕ
  pub consumes : Consumes was is moved
  pub appends : Appends had has moved
  pub count : bytes ≡ min (length moved) most
  pub kept : fails ≡ failed

pub fill_begins : (was had : Option (List ℕ)) (failed : ℕ) → HasFilled was was had had 0 failed failed
fill_begins was had failed = record { moved = []; consumes = Consumes-nil was; appends = Appends-nil had; count = refl; kept = refl }

starts_all : (l : List ℕ) → StartsWith l l
starts_all l = take_all (length l) l (omega arith)

starts_front : (xs ys : List ℕ) → StartsWith (xs ++ ys) xs
starts_front xs ys = take-append_seam xs ys

-- the reader failed
pub fill_fails : (was is had has after : Option (List ℕ)) (bytes failed fails : ℕ) → HasFilled was is had has bytes failed fails → Keeps is after → CopiesIn was after had has bytes Source
fill_fails was is had has after bytes failed fails h kept = (
  h.moved,
  h.moved,
  Consumes-kept was is after h.moved h.consumes kept,
  h.appends,
  record { beginning = starts_all h.moved; counted = h.count; all = λ e. cc },
  λ e. cc,
)

-- the reader was at its end
pub fill_ends : (was is had has after : Option (List ℕ)) (bytes failed fails count : ℕ) (buffer : List ℕ) → HasFilled was is had has bytes failed fails →
    Consumes is after (take count buffer) × (count ≡ 0 → 0 < length buffer → IsAtEnd after) → count ≡ 0 → 0 < length buffer → CopiesIn was after had has bytes End
fill_ends was is had has after bytes failed fails count buffer h (consumes, ended) none some =
    let nothing : take count buffer ≡ [] = ap (λ n. take n buffer) none in
    let consumes' : Consumes is after [] = subst (Consumes is after) nothing consumes in
    let all = subst (Consumes was after) (append-nil h.moved) (Consumes-trans was is after _ _ h.consumes consumes') in (
      h.moved,
      h.moved,
      all,
      h.appends,
      record { beginning = starts_all h.moved; counted = h.count; all = λ e. refl },
      λ e. ended none some,
    )

-- a round more
pub fill_goes_on : (was is had has after then_has : Option (List ℕ)) (bytes failed fails fails' more count : ℕ) (buffer : List ℕ) → HasFilled was is had has bytes failed fails →
    Consumes is after (take count buffer) → Appends has then_has (take count buffer) → count ≤ length buffer → fails' ≡ fails → more ≡ min (bytes + count) most →
    HasFilled was after had then_has more failed fails'
fill_goes_on was is had has after then_has bytes failed fails fails' more count buffer h consumes appends fits kept m = record { moved = h.moved ++ take count buffer; consumes = Consumes-trans was is after _ _ h.consumes consumes; appends = Appends-trans had has then_has _ _ h.appends appends; count = counts_more h.moved (take count buffer) bytes more count h.count (length-take-le count buffer fits) m; kept = kept ∙ h.kept }

-- the first ones of the first ones
starts_part : (moved : List ℕ) (count part : ℕ) (buffer : List ℕ) → StartsWith (moved ++ take count buffer) (moved ++ take part (take count buffer))
starts_part moved count part buffer =
    let part_of = take part (take count buffer) in
    let rest = drop part (take count buffer) in
    let whole : moved ++ take count buffer ≡ (moved ++ part_of) ++ rest =
    ap (λ (l : List ℕ). moved ++ l) (sym (take-append-drop part (take count buffer))) ∙ sym (append_assoc moved part_of rest) in
    subst (λ (l : List ℕ). StartsWith l (moved ++ part_of)) (sym whole) (starts_front (moved ++ part_of) rest)

-- the sink took some of a round, and stopped
pub fill_stops : (was is had has after then_has : Option (List ℕ)) (bytes failed fails more count part : ℕ) (buffer : List ℕ) (why : CopyWhy) → HasFilled was is had has bytes failed fails →
    Consumes is after (take count buffer) → Appends has then_has (take part (take count buffer)) → part ≤ length (take count buffer) → more ≡ min (bytes + part) most → (why ≡ End → ⊥) →
    CopiesIn was after had then_has more why
fill_stops was is had has after then_has bytes failed fails more count part buffer why h consumes appends fits m no_end = (
  h.moved ++ take count buffer,
  h.moved ++ take part (take count buffer),
  Consumes-trans was is after _ _ h.consumes consumes,
  Appends-trans had has then_has _ _ h.appends appends,
  record { beginning = starts_part h.moved count part buffer; counted = counts_more h.moved (take part (take count buffer)) bytes more part h.count (length-take-le part (take count buffer) fits) m; all = λ e. absurd (no_end e) },
  λ e. absurd (no_end e),
)

-- ---- why a copy ends at a fault

by_end : CopyWhy → Type 0
by_end End = ⊥
by_end Source = Unit {0}
by_end Sink = Unit {0}
by_end Reset = Unit {0}
by_end Lost = Unit {0}

pub sink_is_no_end : Sink ≡ End → ⊥
unfolding by_end
sink_is_no_end e = subst by_end e tt

end_is_no_source : End ≡ Source → ⊥
end_is_no_source e = cc

source_case : (fault : HubFault) → copy_reason fault Sink ≡ Source → ⊥
source_case (Call refusal.Reset) e = cc
source_case _ e = cc

-- no fault of a sink blames the reader
pub no_source : (fault : HubFault) (why : CopyWhy) → why ≡ copy_reason fault Sink → why ≡ Source → ⊥
no_source fault why e w = source_case fault (sym e ∙ w)

sink_case : (fault : HubFault) → copy_reason fault Source ≡ Sink → ⊥
sink_case (Call refusal.Reset) e = cc
sink_case _ e = cc

-- no fault of a source blames the writer
pub no_sink : (fault : HubFault) (why : CopyWhy) → why ≡ copy_reason fault Source → why ≡ Sink → ⊥
no_sink fault why e w = sink_case fault (sym e ∙ w)

-- where it did not end, it was spent so
pub unless_ended : (Ended Stops Spent : Type 0) → Ended ⊎ Stops → (Stops → Spent) → Ended ⊎ Spent
unless_ended Ended Stops Spent (inl e) f = inl e
unless_ended Ended Stops Spent (inr s) f = inr (f s)

-- what was refused before is refused still
pub still_stops : (Refused Before : HubFault → Type 0) (device own why : CopyWhy) (lack : Option RefusedAllocation) → ((fault : HubFault) → Refused fault → Before fault) →
    EndsWell why lack ⊎ StopsFor Refused device own why lack → EndsWell why lack ⊎ StopsFor Before device own why lack
still_stops Refused Before device own why lack f (inl e) = inl e
still_stops Refused Before device own why lack f (inr (inl d)) = inr (inl d)
still_stops Refused Before device own why lack f (inr (inr (fault, e, r))) = inr (inr (fault, e, f fault r))

own_case : (fault : HubFault) (own : CopyWhy) → (own ≡ End → ⊥) → copy_reason fault own ≡ End → ⊥
own_case (Call refusal.Reset) own f e = cc
own_case (Call refusal.Lost) own f e = cc
own_case (Call _) own f e = f e
own_case (Memory _) own f e = f e
own_case (Seats _) own f e = f e
own_case (Releases _) own f e = f e

pub no_end : (fault : HubFault) (why own : CopyWhy) → why ≡ copy_reason fault own → (own ≡ End → ⊥) → why ≡ End → ⊥
no_end fault why own e f w = own_case fault own f (sym e ∙ w)

-- ---- how the finish of a sink was answered

-- a copy that came to its end was finished
pub finishes : (S : Type 0) (P : S → Result (Unit {0}) HubFault → Type 0) (s : S) (answer : Result (Unit {0}) HubFault) (why : CopyWhy) (lack : Option RefusedAllocation) →
    P s answer → MatchResult answer (λ _. EndsWell why lack) (λ fault. StopsAt fault Sink why lack) → why ≡ End → (last : S) × P last (Ok tt)
finishes S P s (Ok u) why lack p told e = (s, p)
finishes S P s (Err fault) why lack p told e = absurd (no_end fault why Sink told.0 sink_is_no_end e)

-- it was finished, or its finish was refused
pub finished_or : (S Other : Type 0) (P : S → Result (Unit {0}) HubFault → Type 0) (s : S) (answer : Result (Unit {0}) HubFault) (why : CopyWhy) (lack : Option RefusedAllocation) →
    P s answer → MatchResult answer (λ _. EndsWell why lack) (λ fault. StopsAt fault Sink why lack) →
    EndsWell why lack ⊎ Other ⊎ ((last : S) × (fault : HubFault) × StopsAt fault Sink why lack × P last (Err fault))
finished_or S Other P s (Ok u) why lack p told = inl told
finished_or S Other P s (Err fault) why lack p told = inr (inr (s, fault, told, p))

-- no finish blames the reader
pub no_source_finishes : (answer : Result (Unit {0}) HubFault) (why : CopyWhy) (lack : Option RefusedAllocation) →
    MatchResult answer (λ _. EndsWell why lack) (λ fault. StopsAt fault Sink why lack) → why ≡ Source → ⊥
no_source_finishes (Ok u) why lack told e = end_is_no_source (sym told.0 ∙ e)
no_source_finishes (Err fault) why lack told e = no_source fault why told.0 e

-- ---- out of a source

-- So far this was given and written, and no call of the writer failed.
pub record HasEmptied (was is had has : Option (List ℕ)) (bytes failed fails : ℕ) : Type 0 where
  pub moved : List ℕ
  pub gives : Appends was is moved
  pub appends : Appends had has moved
  pub count : bytes ≡ min (length moved) most
  pub kept : fails ≡ failed

pub empty_begins : (was had : Option (List ℕ)) (failed : ℕ) → HasEmptied was was had had 0 failed failed
empty_begins was had failed = record { moved = []; gives = Appends-nil was; appends = Appends-nil had; count = refl; kept = refl }

-- the source gave no more
pub empty_ends : (was is had has after : Option (List ℕ)) (bytes failed fails : ℕ) (why : CopyWhy) → HasEmptied was is had has bytes failed fails → Keeps is after → CopiesOut was after had has bytes why
empty_ends was is had has after bytes failed fails why h kept =
    (h.moved, h.moved, Appends-kept was is after h.moved h.gives kept, h.appends, record { beginning = starts_all h.moved; counted = h.count; all = λ e. refl })

nothing_given : (is after : Option (List ℕ)) (count : ℕ) (buffer : List ℕ) → Appends is after (take count buffer) → count ≡ 0 → Keeps is after
nothing_given None after count buffer a e = tt
nothing_given (Some x) None count buffer a e = a
nothing_given (Some x) (Some y) count buffer a e = a ∙ ap (λ n. x ++ take n buffer) e ∙ append-nil x

-- the source was at its end
pub empty_at_end : (was is had has after : Option (List ℕ)) (bytes failed fails count : ℕ) (buffer : List ℕ) (why : CopyWhy) → HasEmptied was is had has bytes failed fails →
    Appends is after (take count buffer) → count ≡ 0 → CopiesOut was after had has bytes why
empty_at_end was is had has after bytes failed fails count buffer why h gives none =
    empty_ends was is had has after bytes failed fails why h (nothing_given is after count buffer gives none)

-- a round more
pub empty_goes_on : (was is had has after then_has : Option (List ℕ)) (bytes failed fails fails' more count : ℕ) (buffer : List ℕ) → HasEmptied was is had has bytes failed fails →
    Appends is after (take count buffer) → Appends has then_has (take count buffer) → count ≤ length buffer → fails' ≡ fails → more ≡ min (bytes + count) most →
    HasEmptied was after had then_has more failed fails'
empty_goes_on was is had has after then_has bytes failed fails fails' more count buffer h gives appends fits kept m = record { moved = h.moved ++ take count buffer; gives = Appends-trans was is after _ _ h.gives gives; appends = Appends-trans had has then_has _ _ h.appends appends; count = counts_more h.moved (take count buffer) bytes more count h.count (length-take-le count buffer fits) m; kept = kept ∙ h.kept }

-- the writer took some of a round, and failed
pub empty_stops : (was is had has after then_has : Option (List ℕ)) (bytes failed fails more count part : ℕ) (buffer : List ℕ) → HasEmptied was is had has bytes failed fails →
    Appends is after (take count buffer) → (part ≤ length (take count buffer)) × Appends has then_has (take part (take count buffer)) → more ≡ min (bytes + part) most →
    CopiesOut was after had then_has more Sink
empty_stops was is had has after then_has bytes failed fails more count part buffer h gives (fits, appends) m = (
  h.moved ++ take count buffer,
  h.moved ++ take part (take count buffer),
  Appends-trans was is after _ _ h.gives gives,
  Appends-trans had has then_has _ _ h.appends appends,
  record { beginning = starts_part h.moved count part buffer; counted = counts_more h.moved (take part (take count buffer)) bytes more part h.count (length-take-le part (take count buffer) fits) m; all = λ e. cc },
)
