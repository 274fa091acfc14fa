-- After a marked call of a side: what its later calls say, in a run and in its history.
use Rattle.std.proofs.Common.{◌≡◌, ℕ, ◌≤◌, List, [], ◌∷◌, ◌++◌, Bool, true, false, refl, sym, ap, subst, ◌∙◌, append_assoc}
use Rattle.ymx_machine.specs.declared.types.Side.TheVariants.{A, B}
use Rattle.ymx_machine.specs.declared.types.Step.{Step}
use Rattle.ymx_machine.specs.declared.types.Step.TheVariants as step
use Rattle.ymx_machine.specs.declared.types.Answer.{Answer}
use Rattle.ymx_machine.specs.shared.Events.{Call, Reply}
use Rattle.ymx_machine.specs.shared.Limits.{first_credit}
use Rattle.ymx_machine.specs.shared.Steps.{answer_of}
use Rattle.ymx_machine.specs.machine.Machines.{Machine}
use Rattle.ymx_machine.specs.machine.Runs.{MachineStep, MachineRun}
use Rattle.ymx_model.specs.session.Events.{Event}
use Rattle.ymx_model.specs.declared.types.Event.TheVariants as event
use Rattle.ymx_model.specs.declared.types.Entry.{Entry}
use Rattle.ymx_headline.proofs.machine.faces.Pasts.{Past}
use Rattle.ymx_headline.proofs.machine.faces.MachineFaces.{Faced}
use Rattle.ymx_headline.proofs.machine.faces.RunFaces.{grown, faced-step}
use Rattle.ymx_headline.proofs.machine.order.Cores.{core}
use Rattle.ymx_joined.proofs.Traces.{call_by, calls_at, call_of, calls_in, joined}

-- A machine of a run from a new one, as its laws see it: what has happened to the stream of this number, both ways.
abbrev pub Stands : (mine yours id : ℕ) → Machine → Type 0
Stands mine yours id m = (po : Past) × (pi : Past) × Faced mine yours id po pi (core m)

stands_then : (mine yours id : ℕ) → first_credit ≤ mine → first_credit ≤ yours → (st : Step) (g : Answer) (m n : Machine) → MachineStep st g m n → Stands mine yours id m → Stands mine yours id n
stands_then mine yours id w v st g m n h (po, pi, k) = (grown A B id st g po, grown B A id st g pi, faced-step mine yours id po pi st g m n w v h k)

-- A marked call makes L hold, every step keeps it, and while it holds each call of this side is so.
pub record Law (mine yours id : ℕ) (mark : Call → Answer → Bool) (L : Machine → Type 0) (Quiet : Call → Answer → Type 0) : Type 0 where
  pub marks : (c : Call) (g : Answer) (m n : Machine) → Stands mine yours id m → MachineStep (step.At A c) g m n → mark c g ≡ true → L n
  pub keeps : (st : Step) (g : Answer) (m n : Machine) → Stands mine yours id m → MachineStep st g m n → L m → L n
  pub quiet : (c : Call) (g : Answer) (m n : Machine) → Stands mine yours id m → MachineStep (step.At A c) g m n → L m → Quiet c g

abbrev pub AllQuiet : (Call → Answer → Type 0) → List (Call × Answer) → Type 0
AllQuiet Quiet [] = Unit {0}
AllQuiet Quiet (c ∷ cs) = Quiet c.0 c.1 × AllQuiet Quiet cs

-- ---- in a run

quiet_then : {mine yours id : ℕ} {mark : Call → Answer → Bool} {L : Machine → Type 0} {Quiet : Call → Answer → Type 0} → Law mine yours id mark L Quiet →
    (st : Step) (g : Answer) (m n : Machine) (cs : List (Call × Answer)) → Stands mine yours id m → MachineStep st g m n → L m → AllQuiet Quiet cs → AllQuiet Quiet (call_by A st g ++ cs)
quiet_then law (step.At A c) g m n cs s h l q = (law.quiet c g m n s h l, q)
quiet_then law st g m n cs s h l q = q

quiet_run : {mine yours id : ℕ} {mark : Call → Answer → Bool} {L : Machine → Type 0} {Quiet : Call → Answer → Type 0} → Law mine yours id mark L Quiet → first_credit ≤ mine → first_credit ≤ yours →
    (sts : List Step) (gs : List Answer) (m n : Machine) → MachineRun sts gs m n → Stands mine yours id m → L m → AllQuiet Quiet (calls_at A sts gs)
quiet_run law w v [] gs m n h s l = tt
quiet_run law w v (st ∷ sts) [] m n h s l = tt
quiet_run {mine} {yours} {id} law w v (st ∷ sts) (g ∷ gs) m n h s l =
    quiet_then law st g m h.0 (calls_at A sts gs) s h.1 l
    (quiet_run law w v sts gs h.0 n h.2 (stands_then mine yours id w v st g m h.0 h.1 s) (law.keeps st g m h.0 s h.1 l))

none_there : {X : Type 0} (us vs : List X) (x : X) → [] ≡ us ++ x ∷ vs → ⊥
none_there [] vs x e = cc
none_there (u ∷ us) vs x e = cc

same_head : {X : Type 0} (x y : X) (xs ys : List X) → x ∷ xs ≡ y ∷ ys → x ≡ y
same_head x y xs ys e = cc

behind_in_run : {mine yours id : ℕ} {mark : Call → Answer → Bool} {L : Machine → Type 0} {Quiet : Call → Answer → Type 0} → Law mine yours id mark L Quiet → first_credit ≤ mine → first_credit ≤ yours →
    (sts : List Step) (gs : List Answer) (m n : Machine) → MachineRun sts gs m n → Stands mine yours id m →
    (us vs : List (Call × Answer)) (c : Call) (g : Answer) → calls_at A sts gs ≡ us ++ (c, g) ∷ vs → mark c g ≡ true → AllQuiet Quiet vs
behind_in_run law w v [] gs m n h s us vs c g e k = absurd (none_there us vs (c, g) e)
behind_in_run law w v (st ∷ sts) [] m n h s us vs c g e k = absurd (none_there us vs (c, g) e)
behind_in_run {mine} {yours} {id} {mark} {L} {Quiet} law w v (step.At A d ∷ sts) (a ∷ gs) m n h s [] vs c g e k =
    let rest : calls_at A sts gs ≡ vs = cc in
    let is : mark d a ≡ true = subst (λ (x : Call × Answer). mark x.0 x.1 ≡ true) (sym (same_head {X = Call × Answer} (d, a) (c, g) (calls_at A sts gs) vs e)) k in
    subst (AllQuiet Quiet) rest
    (quiet_run law w v sts gs h.0 n h.2 (stands_then mine yours id w v (step.At A d) a m h.0 h.1 s) (law.marks d a m h.0 s h.1 is))
behind_in_run {mine} {yours} {id} law w v (step.At A d ∷ sts) (a ∷ gs) m n h s (u ∷ us) vs c g e k =
    let rest : calls_at A sts gs ≡ us ++ (c, g) ∷ vs = cc in
    behind_in_run law w v sts gs h.0 n h.2 (stands_then mine yours id w v (step.At A d) a m h.0 h.1 s) us vs c g rest k
behind_in_run {mine} {yours} {id} law w v (step.At B d ∷ sts) (a ∷ gs) m n h s us vs c g e k =
    behind_in_run law w v sts gs h.0 n h.2 (stands_then mine yours id w v (step.At B d) a m h.0 h.1 s) us vs c g e k
behind_in_run {mine} {yours} {id} law w v (step.Emit side room ∷ sts) (a ∷ gs) m n h s us vs c g e k =
    behind_in_run law w v sts gs h.0 n h.2 (stands_then mine yours id w v (step.Emit side room) a m h.0 h.1 s) us vs c g e k
behind_in_run {mine} {yours} {id} law w v (step.Deliver d count ∷ sts) (a ∷ gs) m n h s us vs c g e k =
    behind_in_run law w v sts gs h.0 n h.2 (stands_then mine yours id w v (step.Deliver d count) a m h.0 h.1 s) us vs c g e k
behind_in_run {mine} {yours} {id} law w v (step.Stop d ∷ sts) (a ∷ gs) m n h s us vs c g e k =
    behind_in_run law w v sts gs h.0 n h.2 (stands_then mine yours id w v (step.Stop d) a m h.0 h.1 s) us vs c g e k
behind_in_run {mine} {yours} {id} law w v (step.End d ∷ sts) (a ∷ gs) m n h s us vs c g e k =
    behind_in_run law w v sts gs h.0 n h.2 (stands_then mine yours id w v (step.End d) a m h.0 h.1 s) us vs c g e k

-- ---- in a history

-- the mark of an event, by its reply
abbrev pub marked : (Call → Answer → Bool) → Event → Reply → Bool
marked mark (event.Call c) told = mark c (answer_of told)
marked mark _ told = false

calls_then : (xs ys : List Entry) → calls_in (xs ++ ys) ≡ calls_in xs ++ calls_in ys
calls_then [] ys = refl
calls_then (x ∷ xs) ys = ap (λ (v : List (Call × Answer)). call_of x.event x.reply ++ v) (calls_then xs ys) ∙ sym (append_assoc (call_of x.event x.reply) (calls_in xs) (calls_in ys))

-- A run of this history, from a machine that stands.
pub record Played (mine yours : ℕ) (xs : List Entry) : Type 0 where
  pub wide_mine : first_credit ≤ mine
  pub wide_yours : first_credit ≤ yours
  pub steps : List Step
  pub answers : List Answer
  pub from : Machine
  pub to : Machine
  pub run : MachineRun steps answers from to
  pub stands : (id : ℕ) → Stands mine yours id from
  pub calls : calls_at A steps answers ≡ calls_in xs

behind_event : {mine yours id : ℕ} {mark : Call → Answer → Bool} {L : Machine → Type 0} {Quiet : Call → Answer → Type 0} → Law mine yours id mark L Quiet → (xs : List Entry) → Played mine yours xs →
    (us vs : List (Call × Answer)) (e : Event) (told : Reply) → calls_in xs ≡ us ++ (call_of e told ++ vs) → marked mark e told ≡ true → AllQuiet Quiet vs
behind_event {mine} {yours} {id} law xs p us vs (event.Call c) told e k =
    behind_in_run law p.wide_mine p.wide_yours p.steps p.answers p.from p.to p.run (p.stands id) us vs c (answer_of told) (p.calls ∙ e) k
behind_event law xs p us vs (event.Emit n) told e k = let no : ⊥ = cc in absurd no
behind_event law xs p us vs (event.Feed bytes) told e k = let no : ⊥ = cc in absurd no
behind_event law xs p us vs event.FeedEnd told e k = let no : ⊥ = cc in absurd no

-- After a marked entry every call of the history is quiet.
pub behind : {mine yours id : ℕ} {mark : Call → Answer → Bool} {L : Machine → Type 0} {Quiet : Call → Answer → Type 0} → Law mine yours id mark L Quiet → (xs : List Entry) → Played mine yours xs →
    (before after : List Entry) (x : Entry) → xs ≡ before ++ x ∷ after → marked mark x.event x.reply ≡ true → AllQuiet Quiet (calls_in after)
behind law xs p before after x e k = behind_event law xs p (calls_in before) (calls_in after) x.event x.reply (ap calls_in e ∙ calls_then before (x ∷ after)) k

-- What every call gives nothing to is nothing.
pub nothing_joined : (by : Call → Answer → List ℕ) (cs : List (Call × Answer)) → AllQuiet (λ c g. by c g ≡ []) cs → joined [] (λ x y. x ++ y) by cs ≡ []
nothing_joined by [] q = refl
nothing_joined by (c ∷ cs) q = ap (λ (v : List ℕ). v ++ joined [] (λ x y. x ++ y) by cs) q.0 ∙ nothing_joined by cs q.1
