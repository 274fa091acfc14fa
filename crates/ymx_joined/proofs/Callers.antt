-- What callers see of a stream between two histories that are one run.
use Rattle.std.proofs.Common.{◌≡◌, ℕ, List, ◌++◌, map, false, refl, sym, ap, ◌∙◌}
use Rattle.ymx_machine.specs.declared.types.Side.{Side}
use Rattle.ymx_machine.specs.declared.types.Side.TheVariants.{A, B}
use Rattle.ymx_machine.specs.declared.types.Step.{Step}
use Rattle.ymx_machine.specs.declared.types.Answer.{Answer}
use Rattle.ymx_machine.specs.machine.Machines.{mirror_machine, new_machine}
use Rattle.ymx_machine.specs.Promise.{written, got, ended, finished}
use Rattle.ymx_model.specs.session.Sessions.{Session}
use Rattle.ymx_model.specs.session.Emissions.{in_turn}
use Rattle.ymx_model.specs.declared.types.Entry.{Entry}
use Rattle.ymx_model.specs.world.Worlds.{new_pipe, new_world}
use Rattle.ymx_headline.specs.Laws.{AreGood}
use Rattle.ymx_headline.specs.machine.Faces.{DeliversWithin}
use Rattle.ymx_headline.specs.audit.Told.{IsOneRun, told}
use Rattle.ymx_headline.proofs.machine.faces.RunFaces.{blank, faced-new, odd-even}
use Rattle.ymx_headline.proofs.runs.Runs.{run-face, client-odd, server-even}
use Rattle.ymx_headline.proofs.runs.Steps.{both-runs}
use Rattle.ymx_joined.specs.Callers.{all_taken, all_given, was_ended, was_finished, CarriesStream, CarryAll, AreHandedOutOnce, TakeNoneBehindFinish, GiveNoneBehindEnd}
use Rattle.ymx_joined.proofs.Traces.{calls_at, calls_in, traced, all_wrote, all_gave, one_ends, one_finishes, all_written, all_got, one_ended, one_finished, taken_in, given_in, ended_in, finished_in}
use Rattle.ymx_joined.proofs.Mirrored.{turned, turned_run, turned_calls}
use Rattle.ymx_joined.proofs.Behind.{Played}
use Rattle.ymx_joined.proofs.Given.{once_given}
use Rattle.ymx_joined.proofs.Shut.{none_behind_its_finish}
use Rattle.ymx_joined.proofs.ReadOut.{none_behind_its_end}

-- what the promise says of a run, said of both histories
carried : (writer reader : Side) (window id : ℕ) (steps : List Step) (answers : List Answer) (from to : List Entry) → DeliversWithin window writer reader id steps answers →
    calls_at writer steps answers ≡ calls_in from → calls_at reader steps answers ≡ calls_in to → CarriesStream id from to
carried writer reader window id steps answers from to d f t =
    let w : written writer id steps answers ≡ all_taken id from = all_written writer id steps answers ∙ ap (all_wrote id) f ∙ sym (taken_in id from) in
    let g : got reader id steps answers ≡ all_given id to = all_got reader id steps answers ∙ ap (all_gave id) t ∙ sym (given_in id to) in
    let e : ended reader id steps answers ≡ was_ended id to = one_ended reader id steps answers ∙ ap (one_ends id) t ∙ sym (ended_in id to) in
    let n : finished writer id steps answers ≡ was_finished id from = one_finished writer id steps answers ∙ ap (one_finishes id) f ∙ sym (finished_in id from) in
    record {
      begins = (d.face.begins.0, sym w ∙ d.face.begins.1 ∙ ap (λ (v : List ℕ). v ++ d.face.begins.0) g);
      whole = λ h. sym w ∙ d.face.whole (e ∙ h) ∙ g;
      finished = λ h. sym n ∙ d.face.finish (e ∙ h);
    }

-- In one run each stream carries its bytes both ways.
pub run_carries : (xs ys : List Entry) (steps : List Step) (wa fa wb fb : ℕ) (s t : Session) → AreGood wa fa wb fb → IsOneRun in_turn xs ys steps wa fa wb fb s t → CarryAll xs ys
run_carries xs ys steps wa fa wb fb s t good one = λ id.
    let answers = told one.turns xs ys in
    let face = run-face in_turn steps answers wa fa wb fb one.world good one.runs id in
    let calls = traced one.turns new_pipe new_pipe false false xs ys steps one.joint refl refl in
    (carried A B wb id steps answers xs ys face.0 calls.0 calls.1, carried B A wa id steps answers ys xs face.1 calls.1 calls.0)

-- ---- both histories are played

-- A's by the run itself
played_a : (xs ys : List Entry) (steps : List Step) (wa fa wb fb : ℕ) (s t : Session) → AreGood wa fa wb fb → IsOneRun in_turn xs ys steps wa fa wb fb s t → Played wa wb xs
played_a xs ys steps wa fa wb fb s t good one = record {
  wide_mine = good.low_a;
  wide_yours = good.low_b;
  steps = steps;
  answers = told one.turns xs ys;
  from = new_machine wa fa wb fb;
  to = one.machine.0;
  run = (both-runs in_turn steps (told one.turns xs ys) (new_world wa fa wb fb) one.world (new_machine wa fa wb fb) one.machine.0 one.machine.1).1;
  stands = λ id. (blank, blank, faced-new wa fa wb fb id (odd-even fa fb (client-odd fa good.client) (server-even fb good.server)));
  calls = (traced one.turns new_pipe new_pipe false false xs ys steps one.joint refl refl).0;
}

-- B's by the same run, as B sees it
played_b : (xs ys : List Entry) (steps : List Step) (wa fa wb fb : ℕ) (s t : Session) → AreGood wa fa wb fb → IsOneRun in_turn xs ys steps wa fa wb fb s t → Played wb wa ys
played_b xs ys steps wa fa wb fb s t good one =
    let answers = told one.turns xs ys in
    let run = (both-runs in_turn steps answers (new_world wa fa wb fb) one.world (new_machine wa fa wb fb) one.machine.0 one.machine.1).1 in
    let apart = odd-even fa fb (client-odd fa good.client) (server-even fb good.server) in
    record {
      wide_mine = good.low_b;
      wide_yours = good.low_a;
      steps = map turned steps;
      answers = answers;
      from = new_machine wb fb wa fa;
      to = mirror_machine one.machine.0;
      run = turned_run steps answers (new_machine wa fa wb fb) one.machine.0 run;
      stands = λ id. (blank, blank, faced-new wb fb wa fa id (λ e. apart (sym e)));
      calls = sym (turned_calls steps answers) ∙ (traced one.turns new_pipe new_pipe false false xs ys steps one.joint refl refl).1;
    }

-- In one run no caller is given a stream twice.
pub handed_out_once : (xs ys : List Entry) (steps : List Step) (wa fa wb fb : ℕ) (s t : Session) → AreGood wa fa wb fb → IsOneRun in_turn xs ys steps wa fa wb fb s t → AreHandedOutOnce xs × AreHandedOutOnce ys
handed_out_once xs ys steps wa fa wb fb s t good one =
    (once_given wa wb xs (played_a xs ys steps wa fa wb fb s t good one), once_given wb wa ys (played_b xs ys steps wa fa wb fb s t good one))

-- In one run no stream takes a byte after its finish.
pub none_behind_finish : (xs ys : List Entry) (steps : List Step) (wa fa wb fb : ℕ) (s t : Session) → AreGood wa fa wb fb → IsOneRun in_turn xs ys steps wa fa wb fb s t →
    TakeNoneBehindFinish xs × TakeNoneBehindFinish ys
none_behind_finish xs ys steps wa fa wb fb s t good one =
    (none_behind_its_finish wa wb xs (played_a xs ys steps wa fa wb fb s t good one), none_behind_its_finish wb wa ys (played_b xs ys steps wa fa wb fb s t good one))

-- In one run no stream gives a byte after its end.
pub none_behind_end : (xs ys : List Entry) (steps : List Step) (wa fa wb fb : ℕ) (s t : Session) → AreGood wa fa wb fb → IsOneRun in_turn xs ys steps wa fa wb fb s t →
    GiveNoneBehindEnd xs × GiveNoneBehindEnd ys
none_behind_end xs ys steps wa fa wb fb s t good one =
    (none_behind_its_end wa wb xs (played_a xs ys steps wa fa wb fb s t good one), none_behind_its_end wb wa ys (played_b xs ys steps wa fa wb fb s t good one))
