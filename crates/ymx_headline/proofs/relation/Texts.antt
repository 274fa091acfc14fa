-- The text of a direction when its sender or its receiver changes, and no byte moves.
use Rattle.std.proofs.Common.{◌≡◌, ℕ, List, Bool, refl, sym, ap, ◌∙◌}
use Rattle.ymx_model.specs.declared.types.Response.{Response}
use Rattle.ymx_model.specs.session.Parts.{Part}
use Rattle.ymx_model.specs.session.Sessions.{is_closed}
use Rattle.ymx_model.specs.world.UnderWay.{lacking}
use Rattle.ymx_model.specs.world.Worlds.{Pipe}
use Rattle.ymx_headline.specs.Agrees.{AgreesOn, Sender, Receiver, Text, AwayUnderWay, PingsUnderWay, PongsUnderWay, pongs}

-- what is under way stays, and says the same of the session as the sender and the receiver now say
pub same-text : (s t : Sender) (r q : Receiver) (bytes : List ℕ) (parts : List (ℕ × Part)) (z : Text s r bytes parts) → t.status ≡ s.status → t.outgoing ≡ s.outgoing → q.incoming ≡ r.incoming →
    AwayUnderWay t z.frames → PingsUnderWay t z.frames → PongsUnderWay t q z.frames → Text t q bytes parts
same-text s t r q bytes parts z st be inc away pings pongs = record {
  cut = z.cut;
  tail = z.tail;
  frames = z.frames;
  kept = λ c. z.kept (ap is_closed (sym st) ∙ c);
  missing = z.missing ∙ ap lacking (sym inc);
  each = z.each;
  plain = z.plain;
  text = rw (inc, be) z.text;
  says = rw inc z.says;
  away = away;
  pings = pings;
  pongs = pongs;
}

-- the sender's answers change, but for those to pings
pub answered-text : (s : Sender) (r : Receiver) (bytes : List ℕ) (parts : List (ℕ × Part)) (answers : List Response) → ((n : ℕ) → pongs n answers ≡ pongs n s.answers) → Text s r bytes parts →
    Text (record s { answers = answers }) r bytes parts
answered-text s r bytes parts answers e t =
    same-text s (record s { answers = answers }) r r bytes parts t refl refl refl (record { once = t.away.once; means = t.away.means; said = t.away.said })
    (record { once = t.pings.once; means = t.pings.means; asked = t.pings.asked })
    (record { once = λ n. rw (e n) (t.pongs.once n); means = λ n. rw (e n) (t.pongs.means n); there = λ n. rw (e n) (t.pongs.there n) })

-- a direction of which only the text changes
pub text-changes : (s t : Sender) (r : Receiver) (p : Pipe) (parts more : List (ℕ × Part)) (stop stops : Bool) → (Text s r p.bytes parts → Text t r p.bytes more) → AgreesOn s r p parts stop stops → AgreesOn t r p more stop stops
text-changes s t r p parts more stop stops f h = record { machine = h.machine; streams = h.streams; text = λ on. f (h.text on) }
