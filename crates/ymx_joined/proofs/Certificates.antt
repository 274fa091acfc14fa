-- Two transcripts, and what the audit of their entries says.
use Rattle.std.specs.Prelude.{◌≡◌, List, Option, Some, None, IfNone, true}
use Rattle.std.proofs.Common.{sym, subst}
use Rattle.ymx_machine.specs.declared.types.Step.{Step}
use Rattle.ymx_model.specs.declared.types.Role.{Role}
use Rattle.ymx_model.specs.declared.types.Role.TheVariants.{Client, Server}
use Rattle.ymx_model.specs.declared.types.Entry.{Entry}
use Rattle.ymx_model.specs.session.Emissions.{in_turn}
use Rattle.ymx_model.specs.session.Sessions.{is_own}
use Rattle.ymx_headline.specs.Laws.{AreGood}
use Rattle.ymx_headline.specs.audit.Joints.{IsJointOrder}
use Rattle.ymx_headline.specs.audit.Told.{AreOneRun}
use Rattle.ymx_seats.specs.Transcripts.{TranscriptView, IsGood, IsHistory, IsReplayable}
use Rattle.ymx_joined.specs.Certified.{AreCertified}

-- where there is no value, what holds then goes on to what follows from it
pub none-then : {A : Type 0} (o : Option A) (P Q : Type 0) → (P → Q) → IfNone o P → IfNone o Q
none-then None P Q f h = f h
none-then (Some x) P Q f h = h

-- the configs of a client's and a server's transcript are good together
pub are_good : (client server : TranscriptView) → client.role ≡ Client → server.role ≡ Server → IsGood client.role client.config → IsGood server.role server.config →
    AreGood client.config.window client.config.first server.config.window server.config.first
are_good client server is_client is_server one other = record {
  low_a = one.narrowest;
  high_a = one.widest;
  low_b = other.narrowest;
  high_b = other.widest;
  client = subst (λ (r : Role). is_own r client.config.first ≡ true) is_client one.own;
  server = subst (λ (r : Role). is_own r server.config.first ≡ true) is_server other.own;
  small_a = one.fits;
  some_b = other.some;
  small_b = other.fits;
}

-- the audit's theorem, of two transcripts
pub certified : (client server : TranscriptView) (xs ys : List Entry) (steps : List Step) → client.role ≡ Client → server.role ≡ Server →
    IsReplayable client → IsReplayable server → xs ≡ client.entries → ys ≡ server.entries → AreOneRun in_turn xs ys steps → AreCertified client server steps
certified client server xs ys steps is_client is_server one other same_xs same_ys run =
    let run_client : AreOneRun in_turn client.entries ys steps = subst (λ (l : List Entry). AreOneRun in_turn l ys steps) same_xs run in
    let run_both : AreOneRun in_turn client.entries server.entries steps = subst (λ (l : List Entry). AreOneRun in_turn client.entries l steps) same_ys run_client in
    record {
      client_session = one.session;
      server_session = other.session;
      client_history = one.history;
      server_history = other.history;
      one = run_both client.config.window client.config.first server.config.window server.config.first one.session other.session
          (are_good client server is_client is_server one.good other.good)
          (subst (λ (r : Role). IsHistory r client.config client.entries one.session) is_client one.history)
          (subst (λ (r : Role). IsHistory r server.config server.entries other.session) is_server other.history);
    }

-- entries that have no joint order
pub not_joint : (xs ys xs_too ys_too : List Entry) → xs ≡ xs_too → ys ≡ ys_too → ((steps : List Step) → IsJointOrder xs ys steps → ⊥) → (steps : List Step) → IsJointOrder xs_too ys_too steps → ⊥
not_joint xs ys xs_too ys_too same_xs same_ys none steps joint =
    none steps (subst (λ (l : List Entry). IsJointOrder xs l steps) (sym same_ys) (subst (λ (l : List Entry). IsJointOrder l ys_too steps) (sym same_xs) joint))
