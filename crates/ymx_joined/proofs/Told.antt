-- What the answers of the calls leave of each arm.
use Rattle.std.proofs.Common.{◌≡◌, ◌≢◌, ◌⊎◌, inl, inr, ℕ, ◌+◌, ◌<◌, ◌≤◌, Fits, w64, List, [], Option, None, Some, true, refl, sym, ◌∙◌, subst, arith}
use Rattle.std.specs.Option.{is_some}
use Rattle.ymx_machine.specs.shared.Evidence.{evidence}
use Rattle.ymx_machine.specs.declared.types.CallFault.{CallFault}
use Rattle.ymx_machine.specs.declared.types.CallFault.TheVariants.{OutOfMemory}
use Rattle.ymx_machine.specs.declared.types.Wrote.{Wrote}
use Rattle.ymx_machine.specs.declared.types.Wrote.TheVariants.{Took}
use Rattle.ymx_machine.specs.declared.types.Answer.{Answer}
use Rattle.ymx_machine.specs.declared.types.Answer.TheVariants as answer
use Rattle.ymx_machine.specs.shared.Limits.{first_credit}
use Rattle.ymx_model.specs.world.Worlds.{World}
use Rattle.ymx_joined.specs.Stages.{Stands, IsWritable, IsDecided, IsReadable, IsRead}

-- ---- open

pub opened-fault : (given : Answer) (fault : CallFault) (P : Type 0) → given ≡ answer.Refused fault → ((given ≡ answer.Opened 1) × P) ⊎ (given ≡ answer.Refused (OutOfMemory evidence)) → fault ≡ OutOfMemory evidence
opened-fault given fault P e (inl h) = let k : answer.Opened 1 ≡ answer.Refused fault = sym h.0 ∙ e in absurd cc
opened-fault given fault P e (inr h) = let k : answer.Refused fault ≡ answer.Refused (OutOfMemory evidence) = sym e ∙ h in cc

pub opened-stands : (given : Answer) (id : ℕ) (v : World) → given ≡ answer.Opened id → ((given ≡ answer.Opened 1) × Stands 1 (IsWritable first_credit []) v) ⊎ (given ≡ answer.Refused (OutOfMemory evidence)) →
    Stands id (IsWritable first_credit []) v
opened-stands given id v e (inl h) =
    let k : answer.Opened 1 ≡ answer.Opened id = sym h.0 ∙ e in
    let same : 1 ≡ id = cc in subst (λ (i : ℕ). Stands i (IsWritable first_credit []) v) same h.1
opened-stands given id v e (inr h) = let k : answer.Opened id ≡ answer.Refused (OutOfMemory evidence) = sym e ∙ h in absurd cc

-- ---- write

pub wrote-fault : (given : Answer) (fault : CallFault) (count : ℕ) (P : Type 0) → given ≡ answer.Refused fault → ((given ≡ answer.Wrote (Took count)) × P) ⊎ (given ≡ answer.Refused (OutOfMemory evidence)) →
    fault ≡ OutOfMemory evidence
wrote-fault given fault count P e (inl h) = let k : answer.Wrote (Took count) ≡ answer.Refused fault = sym h.0 ∙ e in absurd cc
wrote-fault given fault count P e (inr h) = let k : answer.Refused fault ≡ answer.Refused (OutOfMemory evidence) = sym e ∙ h in cc

pub wrote-stands : (given : Answer) (wrote : Wrote) (count : ℕ) (P : Type 0) → given ≡ answer.Wrote wrote → ((given ≡ answer.Wrote (Took count)) × P) ⊎ (given ≡ answer.Refused (OutOfMemory evidence)) → P
wrote-stands given wrote count P e (inl h) = h.1
wrote-stands given wrote count P e (inr h) = let k : answer.Wrote wrote ≡ answer.Refused (OutOfMemory evidence) = sym e ∙ h in absurd cc

-- ---- accept

pub accepted-some : (given : Answer) (at id no_memory : ℕ) (bytes : List ℕ) (v : World) → given ≡ answer.Accepted (Some at) →
    ((given ≡ answer.Accepted (Some id)) × Stands id (IsReadable bytes) v) ⊎ ((given ≡ answer.Accepted None) × (0 < no_memory)) → (at ≡ id) × Stands id (IsReadable bytes) v
accepted-some given at id no_memory bytes v e (inl h) = let k : answer.Accepted (Some at) ≡ answer.Accepted (Some id) = sym e ∙ h.0 in (cc, h.1)
accepted-some given at id no_memory bytes v e (inr h) = let k : answer.Accepted (Some at) ≡ answer.Accepted None = sym e ∙ h.0 in absurd cc

pub accepted-none : (given : Answer) (id no_memory : ℕ) (P : Type 0) → given ≡ answer.Accepted None →
    ((given ≡ answer.Accepted (Some id)) × P) ⊎ ((given ≡ answer.Accepted None) × (0 < no_memory)) → 0 < no_memory
accepted-none given id no_memory P e (inl h) = let k : answer.Accepted None ≡ answer.Accepted (Some id) = sym e ∙ h.0 in absurd cc
accepted-none given id no_memory P e (inr h) = h.1

-- ---- read

pub read-some : (given : Answer) (bytes rest : List ℕ) (P Q : Type 0) → given ≡ answer.Read bytes →
    ((given ≡ answer.Read rest) × (rest ≢ []) × P) ⊎ ((given ≡ answer.ReadEnd) × (rest ≡ []) × Q) → IsRead rest (Some bytes)
read-some given bytes rest P Q e (inl h) = let k : answer.Read bytes ≡ answer.Read rest = sym e ∙ h.0 in (cc, h.1)
read-some given bytes rest P Q e (inr h) = let k : answer.Read bytes ≡ answer.ReadEnd = sym e ∙ h.0 in absurd cc

pub read-none : (given : Answer) (rest : List ℕ) (P Q : Type 0) → given ≡ answer.ReadEnd → ((given ≡ answer.Read rest) × (rest ≢ []) × P) ⊎ ((given ≡ answer.ReadEnd) × (rest ≡ []) × Q) → IsRead rest None
read-none given rest P Q e (inl h) = let k : answer.ReadEnd ≡ answer.Read rest = sym e ∙ h.0 in absurd cc
read-none given rest P Q e (inr h) = h.1

pub read-stands : (given : Answer) (rest : List ℕ) (P : Type 0) → ((given ≡ answer.Read rest) × (rest ≢ []) × P) ⊎ ((given ≡ answer.ReadEnd) × (rest ≡ []) × P) → P
read-stands given rest P (inl h) = h.2
read-stands given rest P (inr h) = h.2

-- ---- what the stages say of lists and rooms

pub less-room : (id room less : ℕ) (bytes : List ℕ) (w : World) → less ≤ room → Stands id (IsWritable room bytes) w → Stands id (IsWritable less bytes) w
less-room id room less bytes w h s = record {
  open_world = s.open_world;
  numbers = s.numbers;
  stream = s.stream;
  offered = s.offered;
  agrees = s.agrees;
  stage = record { own = s.stage.own; me = s.stage.me; you = s.stage.you; here = s.stage.here; way = s.stage.way; fin = s.stage.fin; rst_outbound = s.stage.rst_outbound; rst_inbound = s.stage.rst_inbound; credit = omega arith; offered_none = s.stage.offered_none };
}

-- where nothing was left, a read gives no bytes
pub no-more : (o : Option (List ℕ)) → is_some o ≡ true → IsRead [] o → ⊥
no-more (Some bytes) e h = h.1 refl
no-more None e h = absurd cc

-- what a read gave is all that was left
pub gave-all : (o : Option (List ℕ)) (bytes rest : List ℕ) → o ≡ Some bytes → IsRead rest o → bytes ≡ rest
gave-all o bytes rest e h = let k : IsRead rest (Some bytes) = subst (IsRead rest) e h in k.0

-- the stream that was accepted
pub accepted-one : (no_memory at id : ℕ) (bytes : List ℕ) (w v : World) →
    ((id : ℕ) (bytes : List ℕ) → Stands id (IsDecided no_memory id bytes) w → (at ≡ id) × Stands id (IsReadable bytes) v) →
    Stands id (IsDecided no_memory id bytes) w → Stands at (IsReadable bytes) v
accepted-one no_memory at id bytes w v h s = let q = h id bytes s in subst (λ (i : ℕ). Stands i (IsReadable bytes) v) (sym q.0) q.1

-- ---- room for one byte more

pub some-room : (n : ℕ) → 0 < n + 1
some-room n = omega arith

pub more-room : (n : ℕ) → n ≤ n + 1
more-room n = omega arith

pub room-fits : (n : ℕ) → n ≤ first_credit → Fits w64 (n + 1)
room-fits n h = omega arith
