-- Nobody who can be served is forgotten.
use Rattle.std.proofs.Common.{◌≡◌, ℕ, List, [], ◌∷◌, Bool, true, false, not, ◌||◌, if◌then◌else◌, refl, sym, ap, ◌∙◌}
use Rattle.ymx_machine.specs.declared.types.Fed.{Fed}
use Rattle.ymx_machine.specs.declared.types.Reply.TheVariants as reply
use Rattle.ymx_model.specs.declared.types.Event.TheVariants as event
use Rattle.ymx_model.specs.declared.types.Status.{Status}
use Rattle.ymx_model.specs.declared.types.Status.TheVariants.{Running, Lost, Broken, Closed}
use Rattle.ymx_model.specs.session.Emissions.{in_turn}
use Rattle.ymx_model.specs.session.Feeds.{Takes, byte_comes, byte_in}
use Rattle.ymx_model.specs.session.Histories.{Gives}
use Rattle.ymx_model.specs.session.Sessions.{Session, is_closed, is_running, is_broken, is_deaf}
use Rattle.ymx_engine.proofs.Coming.{Goes}

whole : (x : Bool) (s y : Session) → x ≡ true → (if x then s else y) ≡ s
whole true s y e = refl
whole false s y e = cc

deaf_closed : (st : Status) → is_closed st ≡ true → is_deaf st ≡ true
deaf_closed Running c = cc
deaf_closed Lost c = refl
deaf_closed (Broken f) c = cc
deaf_closed Closed c = refl

takes_closed : (bytes : List ℕ) (s t : Session) (n : ℕ) → Takes bytes s t n → is_closed s.status ≡ true → is_closed t.status ≡ true
takes_closed [] s t n h c = ap (λ (x : Session). is_closed x.status) h.0 ∙ c
takes_closed (b ∷ bytes) s t n (no_memory, more, stuck, counts, rest) c =
    let still : byte_comes no_memory b s ≡ s = whole (is_deaf s.status) s (byte_in no_memory b s s.incoming) (deaf_closed s.status c) in
    takes_closed bytes (byte_comes no_memory b s) t more rest (ap (λ (x : Session). is_closed x.status) still ∙ c)

stopped_deaf : (st : Status) (rest : Bool) → is_running st ≡ false → (is_broken st || rest) ≡ false → is_deaf st ≡ true
stopped_deaf Running rest c e = cc
stopped_deaf Lost rest c e = refl
stopped_deaf (Broken f) rest c e = cc
stopped_deaf Closed rest c e = refl

-- one that doesn't run takes nothing that makes it run
takes_stopped : (bytes : List ℕ) (s t : Session) (n : ℕ) → Takes bytes s t n → is_running s.status ≡ false → is_running t.status ≡ false
takes_stopped [] s t n h c = ap (λ (x : Session). is_running x.status) h.0 ∙ c
takes_stopped (b ∷ bytes) s t n (no_memory, more, stuck, counts, rest) c =
    let still : byte_comes no_memory b s ≡ s = whole (is_deaf s.status) s (byte_in no_memory b s s.incoming) (stopped_deaf s.status _ c stuck) in
    takes_stopped bytes (byte_comes no_memory b s) t more rest (ap (λ (x : Session). is_running x.status) still ∙ c)

back : (b c x : Bool) → (b ≡ x → c ≡ x) → c ≡ not x → b ≡ not x
back true c true h e = let no : true ≡ false = sym (h refl) ∙ e in absurd cc
back false c true h e = refl
back true c false h e = refl
back false c false h e = let no : false ≡ true = sym (h refl) ∙ e in absurd cc

pub fed_goes : (bytes : List ℕ) (f : Fed) (s t : Session) → Gives in_turn s (event.Feed bytes) (reply.Fed f) t → Goes s t
fed_goes bytes f s t g =
    let took = (g.2).took in
    (back (is_closed s.status) (is_closed t.status) true (takes_closed _ s t took.0 took.1), back (is_running s.status) (is_running t.status) false (takes_stopped _ s t took.0 took.1))
