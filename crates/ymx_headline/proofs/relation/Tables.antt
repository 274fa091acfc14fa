-- What a change of one side's records leaves, and how the stream law's functions by number are the machine's list.
use Rattle.std.proofs.Common.{◌≡◌, ◌≢◌, ℕ, List, [], ◌∷◌, ◌++◌, Bool, false, not, Some, refl, sym, ap, subst, ◌∙◌, inl, inr}
use Rattle.ymx_model.specs.declared.types.Role.{Role}
use Rattle.ymx_model.specs.declared.types.Status.{Status}
use Rattle.ymx_model.specs.declared.types.Status.TheVariants.{Running, Lost, Broken, Closed}
use Rattle.ymx_machine.specs.shared.Events.{Reply}
use Rattle.ymx_model.specs.declared.types.Response.{Response}
use Rattle.ymx_machine.specs.stream.Streams.{Stream}
use Rattle.ymx_machine.specs.stream.StreamRules.{StreamCall, StreamRule}
use Rattle.ymx_model.specs.session.Records.{End}
use Rattle.ymx_model.specs.session.Tables.{Table}
use Rattle.ymx_machine.specs.shared.Lists.{look, change}
use Rattle.ymx_model.specs.session.Sessions.{is_running, is_lost, is_closed}
use Rattle.ymx_model.specs.world.Worlds.{World}
use Rattle.ymx_machine.specs.machine.Machines.{Machine}
use Rattle.ymx_machine.specs.machine.CallRules.{OnStream}
use Rattle.ymx_headline.specs.stream.Answers.{EndRule}
use Rattle.ymx_headline.specs.stream.Worlds.{StreamWorld as Streams, Streams as Found, Refines}
use Rattle.ymx_headline.proofs.stream.Happenings.{Changes, Adds, Same, acts, put}
use Rattle.ymx_headline.proofs.stream.Happenings.Act.{Calls}
use Rattle.ymx_headline.proofs.stream.Worlds.{step, put-same, put-other}
use Rattle.ymx_law_session.specs.Limits.{IsWithin}
use Rattle.ymx_law_session.specs.Reaped.{IsReaped}
use Rattle.ymx_machine.proofs.Tests.{same_or_not}
use Rattle.ymx_headline.proofs.machine.order.Maps.{look-change, look-change_other, look-add, look-add_other}
use Rattle.ymx_headline.specs.Agrees.{AgreesAs, IsNumbered, Keeps, found}
use Rattle.ymx_headline.proofs.relation.Mirrors.{refines-same}
use Rattle.ymx_headline.proofs.relation.Sides.{in-streams}

-- ---- functions by number and lists

pub change-found : (j : ℕ) (k : Stream → Stream) (s t : Stream) (m : Machine) (n : Found) → k s ≡ t → Changes j s t (found m) n → Same n (found (record m { streams = change j k m.streams }))
change-found j k s t m n e c i = elim (same_or_not i j) [
  | inl q ↦ rw q (look-change j k m.streams s c.here ∙ ap Some e ∙ sym c.now)
  | inr d ↦ look-change_other i j k m.streams d ∙ sym (c.others i d)
]

pub add-found : (j : ℕ) (t : Stream) (m : Machine) (n : Found) → Adds j t (found m) n → Same n (found (record m { streams = m.streams ++ (j, t) ∷ [] }))
add-found j t m n c i = elim (same_or_not i j) [
  | inl q ↦ rw q (look-add j t m.streams c.none ∙ sym c.now)
  | inr d ↦ look-add_other i j t m.streams d ∙ sym (c.others i d)
]

-- ---- one record changes

pub keeps-put : (answers : List Response) (j : ℕ) (old new : List (ℕ × End)) (f : End) (ends : ℕ → End) → ((i : ℕ) → i ≢ j → Keeps answers i (look i old) (ends i)) →
    ((i : ℕ) → i ≢ j → look i new ≡ look i old) → Keeps answers j (look j new) f → (i : ℕ) → Keeps answers i (look i new) (put j f ends i)
keeps-put answers j old new f ends h others k i = elim (same_or_not i j) [
  | inl q ↦ rw q (subst (Keeps answers j (look j new)) (sym (put-same j f ends)) k)
  | inr n ↦ rw (others i n, put-other i j f ends n) (h i n)
]

-- ---- only the records, the next number and the offered list of side A change

pub table-changes : (x y : Role) (w : World) (m : Machine) (h : AgreesAs x y w m) (t : Table) (next number : ℕ) (ids offered : List ℕ) (streams : List (ℕ × Stream)) (ends : ℕ → End) →
    number ≡ next → offered ≡ ids → t.window ≡ w.a.table.window → ((i : ℕ) → Keeps w.a.answers i (look i t.entries) (ends i)) →
    IsWithin (record w.a { table = t; next = next; offered = ids }) → IsReaped (record w.a { table = t; next = next; offered = ids }) →
    Refines (record h.streams { a = record h.streams.a { ends = ends } }) (found (record m { streams = streams })) →
    IsNumbered (record m { streams = streams; me = record m.me { next = number; offered = offered } }) →
    AgreesAs x y (record w { a = record w.a { table = t; next = next; offered = ids } }) (record m { streams = streams; me = record m.me { next = number; offered = offered } })
table-changes x y w m h t next number ids offered streams ends en eo ew keeps within reaped refines order = record {
  roles = h.roles;
  streams = record h.streams { a = record h.streams.a { ends = ends } };
  refines = refines;
  a = in-streams h.a t next number ids offered w.a.answers w.a.outgoing (record h.streams.a { ends = ends }) en eo ew
      (record { window = h.a.records.window ∙ sym ew; over = h.a.records.over; each = keeps; once = h.a.records.once }) within reaped;
  b = h.b;
  ab = h.ab;
  ba = h.ba;
  order = order;
}

-- ---- a call on a stream, in the machine

over-lost : (st : Status) → is_closed st ≡ false → not (is_running st) ≡ is_lost st
over-lost Running e = refl
over-lost Lost e = refl
over-lost (Broken f) e = refl
over-lost Closed e = absurd cc

pub over-is : (x y : Role) (w : World) (m : Machine) (h : AgreesAs x y w m) → is_closed w.a.status ≡ false → h.streams.a.over ≡ is_lost w.a.status
over-is x y w m h c = h.a.records.over ∙ over-lost w.a.status c

pub record Reacts (g : Streams) (m : Machine) (lost : Bool) (j : ℕ) (c : StreamCall) (reply : Reply) (next : End) : Type 0 where
  pub streams : List (ℕ × Stream)
  pub rule : OnStream j c (look j m.streams) m reply (record m { streams = streams })
  pub refines : Refines (acts (Calls j c reply next) g) (found (record m { streams = streams }))

-- the law of streams gives the machine's step, as a change of its list
pub reacts : (g : Streams) (m : Machine) (j : ℕ) (c : StreamCall) (reply : Reply) (next : End) → Refines g (found m) → m.me.lost ≡ g.a.over → EndRule g.a.over c (g.a.ends j) reply next → Reacts g m g.a.over j c reply next
reacts g m j c reply next r o e =
    let k = step (Calls j c reply next) g (found m) e r in elim k.1 [
      | inl d ↦ record {
        streams = change j (λ z. d.1) m.streams;
        rule = subst (λ q. OnStream j c q m reply (record m { streams = change j (λ z. d.1) m.streams })) (sym d.3.here) (d.1, subst (λ l. StreamRule l c d.0 reply d.1) (sym o) d.2, refl);
        refines = refines-same _ k.0 _ (change-found j (λ z. d.1) d.0 d.1 m k.0 refl d.3) k.2;
      }
      | inr d ↦ record {
        streams = m.streams;
        rule = subst (λ q. OnStream j c q m reply m) (sym d.0) (d.1, refl);
        refines = refines-same _ k.0 (found m) (λ i. sym (d.2 i)) k.2;
      }
    ]
