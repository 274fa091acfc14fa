-- After its end a stream gives no bytes.
use Rattle.std.proofs.Common.{◌≡◌, ℕ, ◌≤◌, List, [], Bool, true, false, ◌||◌, ◌==◌, if◌then◌else◌, Option, None, Some, refl, sym, ap, subst, ◌∙◌, arith}
use Rattle.std.proofs.lemmas.Bool.Decides.{nat_tests}
use Rattle.ymx_machine.specs.declared.types.Side.TheVariants.{A, B}
use Rattle.ymx_machine.specs.declared.types.Step.{Step}
use Rattle.ymx_machine.specs.declared.types.Step.TheVariants as step
use Rattle.ymx_machine.specs.declared.types.Answer.{Answer}
use Rattle.ymx_machine.specs.declared.types.Call.TheVariants as call
use Rattle.ymx_machine.specs.declared.types.Reply.TheVariants as reply
use Rattle.ymx_machine.specs.shared.Events.{Call, Reply}
use Rattle.ymx_machine.specs.shared.Limits.{first_credit}
use Rattle.ymx_machine.specs.shared.Lists.{look}
use Rattle.ymx_machine.specs.shared.Phases.{Phase}
use Rattle.ymx_machine.specs.shared.Replies.{read_reply}
use Rattle.ymx_machine.specs.shared.Steps.{answer_of}
use Rattle.ymx_machine.specs.stream.Lanes.{is_here}
use Rattle.ymx_machine.specs.stream.Streams.{Stream}
use Rattle.ymx_machine.specs.stream.StreamRules.StreamCall.{Reads}
use Rattle.ymx_machine.specs.machine.Machines.{Machine}
use Rattle.ymx_machine.specs.machine.CallRules.{OnStream, Rule}
use Rattle.ymx_machine.specs.machine.Runs.{MachineStep}
use Rattle.ymx_machine.specs.Promise.{ended_by}
use Rattle.ymx_machine.proofs.Tests.{agrees, or_true}
use Rattle.ymx_model.specs.session.Events.{Event}
use Rattle.ymx_model.specs.declared.types.Event.TheVariants as event
use Rattle.ymx_model.specs.declared.types.Entry.{Entry}
use Rattle.ymx_headline.proofs.machine.order.Cores.{core}
use Rattle.ymx_headline.proofs.machine.faces.Pasts.{Past}
use Rattle.ymx_headline.proofs.machine.faces.MachineFaces.{Faced}
use Rattle.ymx_headline.proofs.machine.faces.RunFaces.{grown, faced-step}
use Rattle.ymx_joined.specs.Callers.{ended_at, GiveNoneBehindEnd}
use Rattle.ymx_joined.proofs.Traces.{gave_by, ends_by, ended_is, ends_is, given_in}
use Rattle.ymx_joined.proofs.Behind.{Law, Played, marked, behind, nothing_joined}
use Rattle.ymx_joined.proofs.Given.{open_side}
use Rattle.ymx_joined.proofs.Shut.{faces_of}

-- The end of the stream was read at this side.
abbrev pub IsReadOut : (mine yours id : ℕ) → Machine → Type 0
IsReadOut mine yours id m = (po : Past) × (pi : Past) × Faced mine yours id po pi (core m) × (pi.ended ≡ true)

read_out_then : (mine yours id : ℕ) → first_credit ≤ mine → first_credit ≤ yours → (st : Step) (g : Answer) (m n : Machine) → MachineStep st g m n → (po pi : Past) → Faced mine yours id po pi (core m) →
    (pi.ended || ended_by A id st g) ≡ true → IsReadOut mine yours id n
read_out_then mine yours id w v st g m n h po pi k e = (grown A B id st g po, grown B A id st g pi, faced-step mine yours id po pi st g m n w v h k, e)

-- ---- then nothing is there to read

-- a read that gives bytes where none is here gives none
nothing_read : (lost : Bool) (max : ℕ) (p : Phase) (ended : Bool) (bytes : List ℕ) → reply.Read bytes ≡ read_reply lost max p [] ended → bytes ≡ []
nothing_read lost max p ended bytes h = grind (arith, nat_tests)

reads_none : (lost : Bool) (max : ℕ) (p : Phase) (here bytes : List ℕ) (ended : Bool) → here ≡ [] → reply.Read bytes ≡ read_reply lost max p here ended → bytes ≡ []
reads_none lost max p here bytes ended e h = nothing_read lost max p ended bytes (rw e at h)

none_on : (mine yours id max : ℕ) (m : Machine) (bytes : List ℕ) (n : Machine) (o : Option Stream) → IsReadOut mine yours id m → look id m.streams ≡ o → OnStream id (Reads max) o m (reply.Read bytes) n → bytes ≡ []
none_on mine yours id max m bytes n None out e h = let no = h.0 in let not : ⊥ = cc in absurd not
none_on mine yours id max m bytes n (Some s) (po, pi, k, over) e (t, rule, now) =
    reads_none m.me.lost max s.me s.inbound.here bytes (is_here s.inbound.fin) ((faces_of mine yours id m s po pi k e).inbound.2.over_here over) rule.0

if_none : (b : Bool) (xs : List ℕ) → (b ≡ true → xs ≡ []) → (if b then xs else []) ≡ []
if_none true xs f = f refl
if_none false xs f = refl

gives_none : (mine yours id : ℕ) (c : Call) (m : Machine) (r : Reply) (n : Machine) → IsReadOut mine yours id m → Rule c m r n → gave_by id c (answer_of r) ≡ []
gives_none mine yours id (call.Read from max) m (reply.Read bytes) n out h = if_none (from == id) bytes (λ d.
    let o = open_side (call.Read from max) m (reply.Read bytes) n h refl in
    none_on mine yours id max m bytes n (look id m.streams) out refl (subst (λ (v : ℕ). OnStream v (Reads max) (look v m.streams) m (reply.Read bytes) n) (agrees from id d) o))
gives_none mine yours id c m r n out h = refl

-- After a read that was answered with the end each call gets nothing of the stream.
read_out_law : (mine yours id : ℕ) → first_credit ≤ mine → first_credit ≤ yours → Law mine yours id (ends_by id) (IsReadOut mine yours id) (λ c g. gave_by id c g ≡ [])
read_out_law mine yours id w v = record {
  marks = λ c g m n s h e. read_out_then mine yours id w v (step.At A c) g m n h s.0 s.1 s.2 (ap (λ (b : Bool). s.1.ended || b) (ends_is A A id c g ∙ e) ∙ or_true s.1.ended);
  keeps = λ st g m n s h l. read_out_then mine yours id w v st g m n h l.0 l.1 l.2 (ap (λ (b : Bool). b || ended_by A id st g) l.3);
  quiet = λ c g m n s h l. ap (gave_by id c) h.3 ∙ gives_none mine yours id c m h.0 h.1 l h.4;
}

ended_marked : (id : ℕ) (e : Event) (told : Reply) → ended_at id e told ≡ marked (ends_by id) e told
ended_marked id (event.Call c) told = ended_is id c told
ended_marked id e told = refl

-- In a history that was played a stream gives nothing after its end.
pub none_behind_its_end : (mine yours : ℕ) (xs : List Entry) → Played mine yours xs → GiveNoneBehindEnd xs
none_behind_its_end mine yours xs p id before after x is e =
    given_in id after ∙ nothing_joined (gave_by id) _
    (behind (read_out_law mine yours id p.wide_mine p.wide_yours) xs p before after x is (sym (ended_marked id x.event x.reply) ∙ e))
