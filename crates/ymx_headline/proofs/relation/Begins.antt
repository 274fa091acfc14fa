-- A new world and a new machine agree.
use Rattle.std.proofs.Common.{◌≡◌, ℕ, [], ◌≤◌, ◌<◌, ◌^◌, true, false, refl, arith}
use Rattle.std.proofs.lemmas.List.Elements.{All-nil}
use Rattle.ymx_model.specs.declared.types.Role.{Role}
use Rattle.ymx_model.specs.declared.types.Role.TheVariants.{Client, Server}
use Rattle.ymx_machine.specs.shared.Limits.{first_credit}
use Rattle.ymx_machine.specs.shared.Phases.Phase.{Unborn}
use Rattle.ymx_model.specs.session.Records.{new_end}
use Rattle.ymx_model.specs.session.Sessions.{new_session, is_own}
use Rattle.ymx_model.specs.world.UnderWay.{IsOneFrame}
use Rattle.ymx_model.specs.world.Worlds.{new_world, new_pipe}
use Rattle.ymx_machine.specs.machine.Machines.{new_side, new_machine}
use Rattle.ymx_headline.proofs.stream.Happenings.{new_streams as new_streams}
use Rattle.ymx_headline.proofs.stream.Worlds.{new-refines}
use Rattle.ymx_headline.specs.machine.Numbers.{HasOrder}
use Rattle.ymx_law_session.proofs.limits.HistoriesKeep.{new-keeps, odd_some}
use Rattle.ymx_law_session.proofs.given_up.ReapedFrames.{new-reaped}
use Rattle.ymx_headline.specs.Agrees.{Agrees, AgreesAt, AgreesOn, IsPlainFrame, sending, hearing}

new-at : (role : Role) (window first : ℕ) → first_credit ≤ window → window ≤ 16777216 → is_own role first ≡ true → 0 < first → first < 2 ^ 32 →
    AgreesAt role (new_session role window first) false (new_side window first) (record { window = window; over = false; ends = λ i. new_end window Unborn false false })
new-at role window first low high own some small = record {
  whole = record { role = refl; window = refl; next = refl; offered = refl; closed = refl; lost = λ c. refl; sound = refl };
  records = record { window = refl; over = refl; each = λ id. (refl, record { syn = refl; ack = refl; rst = refl; unsent = refl; finished = refl; refused = λ t. absurd cc }); once = tt };
  pings = record { next = refl; numbers = refl; back = λ n. refl; fits = λ n t. absurd cc };
  away = record { said = refl; arrived = refl };
  within = new-keeps role window first low high own some small;
  reaped = new-reaped role window first;
}

new-on : (s r : Role) (ws fs wr fr : ℕ) → AgreesOn (sending (new_session s ws fs) (new_side ws fs)) (hearing (new_session r wr fr) (new_side wr fr)) new_pipe [] false false
new-on s r ws fs wr fr = record {
  machine = refl;
  streams = record { same = refl; empty = λ t. absurd cc };
  text = λ on. record {
    cut = [];
    tail = [];
    frames = [];
    kept = λ c. refl;
    missing = refl;
    each = All-nil IsOneFrame;
    plain = All-nil IsPlainFrame;
    text = refl;
    says = refl;
    away = record { once = omega arith; means = λ t. absurd cc; said = λ r. refl };
    pings = record { once = λ n. omega arith; means = λ n t. absurd cc; asked = λ n r. refl };
    pongs = record { once = λ n. omega arith; means = λ n t. absurd cc; there = λ n r. refl };
  };
}

new-order : (wa fa wb fb : ℕ) → HasOrder (new_machine wa fa wb fb)
new-order wa fa wb fb = record {
  once = tt;
  numbered = λ id. tt;
  offered_me = record { once = tt; every = λ id t. absurd cc };
  offered_you = record { once = tt; every = λ id t. absurd cc };
}

pub begins : (wa fa wb fb : ℕ) → first_credit ≤ wa → wa ≤ 16777216 → first_credit ≤ wb → wb ≤ 16777216 → is_own Client fa ≡ true → is_own Server fb ≡ true →
    fa < 2 ^ 32 → 0 < fb → fb < 2 ^ 32 → Agrees (new_world wa fa wb fb) (new_machine wa fa wb fb)
begins wa fa wb fb la ha lb hb pa pb sa z sb = record {
  roles = λ e. absurd cc;
  streams = new_streams wa wb;
  refines = new-refines wa wb la lb;
  a = new-at Client wa fa la ha pa (odd_some fa pa) sa;
  b = new-at Server wb fb lb hb pb z sb;
  ab = new-on Client Server wa fa wb fb;
  ba = new-on Server Client wb fb wa fa;
  order = record { order = new-order wa fa wb fb; zero = refl; mine = odd_some fa pa; yours = z };
}
