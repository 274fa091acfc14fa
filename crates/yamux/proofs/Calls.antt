-- What the calls of one caller make up.
use Rattle.std.proofs.Common.{◌≡◌, ℕ, List, true, false, Option, Some, None, Ok, sym, ap, subst, ◌∙◌}
use Rattle.ymx_machine.specs.declared.types.Reply.TheVariants as reply
use Rattle.ymx_model.specs.declared.types.Role.{Role}
use Rattle.ymx_model.specs.declared.types.Config.{Config}
use Rattle.ymx_seats.specs.Views.{SeatView, IsWitnessed}
use Rattle.ymx_hub.specs.Books.{Books, Spends, Closes, to_finish}
use Rattle.ymx_hub.specs.Rights.{MayWrite, MayRead, SaysSole}
use Rattle.ymx_hub.specs.Shown.{IsShown}
use Rattle.ymx_hub.specs.Halves.{HalfView}
use Rattle.ymx_hub.specs.Turns.{WriteTurns}
use Rattle.ymx_connect.specs.Streams.{ReadsUpTo, Copies}
use Rattle.ymx_connect.specs.Told.{ClosesHalf, StandsIn, Exchanges, EchoesNext}
use Rattle.ymx_connect.proofs.Told.{stands, sees_last, last_alone, last_reads_alone, exchanges, echoes}
use Rattle.yamux.specs.Api.{ReaderView, StreamView, WritesAll, CopiesAll, OpensAt, AcceptsAt, FinishesAt}

half_of : HalfView → Option HalfView → HalfView
half_of other None = other
half_of other (Some half) = half

-- A stream that was opened, written and finished, read up to the end and closed.
pub exchanges_at : (text bytes : List ℕ) (caller opened finished closed : SeatView) (stream : StreamView) (reader read : ReaderView) (old new : Option HalfView) →
    OpensAt caller opened stream → reader ≡ stream.reader → old ≡ stream.writer → WritesAll false text old new → FinishesAt new opened finished →
    read.half.id ≡ reader.half.id → Books false reader.half.seat read.half.seat (ReadsUpTo reply.ReadEnd reader.half.id reader.half.seat.number bytes) →
    ClosesHalf finished closed read.half → Exchanges text bytes closed.seen
unfolding half_of
exchanges_at text bytes caller opened finished closed stream reader read old new o r w wrote f same reads closes =
    let before : wrote.0 ≡ o.0 = ap (half_of o.0) (sym wrote.2 ∙ w ∙ o.1) in
    let after : wrote.1 ≡ f.0 = ap (half_of f.0) (sym wrote.3 ∙ f.1) in
    exchanges text bytes caller opened finished closed (o.0, stream.reader.half) f.0 read.half tt o.2 f.2 closes
    (subst (λ (x : HalfView × HalfView). Books false x.0.seat x.1.seat (WriteTurns x.0.id text x.0.seat.number (Ok tt))) (λ i. (before i, after i)) wrote.5)
    (subst (λ (x : HalfView × HalfView). x.1.id ≡ x.0.id) (λ i. (before i, after i)) wrote.4)
    (subst (λ (x : ReaderView). Books false x.half.seat read.half.seat (ReadsUpTo reply.ReadEnd x.half.id x.half.seat.number bytes)) r reads)
    (subst (λ (x : ReaderView). read.half.id ≡ x.half.id) r same)

-- A stream that was accepted, read up to the end, and sent back.
pub echoes_at : (caller accepted finished closed : SeatView) (stream : StreamView) (reader read : ReaderView) (old new : Option HalfView) (count : ℕ) →
    AcceptsAt caller accepted stream → reader ≡ stream.reader → old ≡ stream.writer → CopiesAll false reader read old new count → FinishesAt new accepted finished →
    ClosesHalf finished closed read.half → EchoesNext caller.seen closed.seen
unfolding half_of
echoes_at caller accepted finished closed stream reader read old new count a r w copied f closes =
    let before : copied.0 ≡ a.0 = ap (half_of a.0) (sym copied.2 ∙ w ∙ a.1) in
    let after : copied.1 ≡ f.0 = ap (half_of f.0) (sym copied.3 ∙ f.1) in
    echoes caller accepted finished closed (a.0, stream.reader.half) f.0 read.half count a.2 f.2 closes
    (subst (λ (x : ReaderView × HalfView × HalfView). Copies false x.0.half x.1 read.half.seat x.2.seat count) (λ i. (r i, before i, after i)) copied.6) (
      subst (λ (x : ReaderView). read.half.id ≡ x.half.id) r copied.5,
      subst (λ (x : HalfView × HalfView). x.1.id ≡ x.0.id) (λ i. (before i, after i)) copied.4,
    )

-- ---- last calls

-- the writing half finished its stream, and the caller was shown the history after it
pub finishes_at : (role : Role) (config : Config) (old new last shown : SeatView) (writer : Option HalfView) (half : HalfView) → writer ≡ Some half →
    Books false half.seat last (Spends (to_finish half.id) half.id half.seat.number (Ok tt)) → MayWrite half.seat.right half.id → last.right ≡ half.seat.right →
    IsShown old new → IsShown last shown → SaysSole last.right last.number shown.seen → new.seen ≡ shown.seen → IsWitnessed true role config new.seen →
    FinishesAt writer old new
finishes_at role config old new last shown writer half is booked may right mine theirs sole same history = (
  half,
  is,
  record {
    sees = sees_last old new half.seat last shown (Spends (to_finish half.id) half.id half.seat.number (Ok tt)) booked theirs mine same;
    alone = last_alone role config half.id half.seat.number last.number half.seat.right last.right new.seen shown.seen may right booked.number sole same history;
  },
)

-- the reading half was closed, and the caller was shown the history after it
pub closes_at : (role : Role) (config : Config) (old new last shown : SeatView) (half : HalfView) →
    Books false half.seat last (Closes half.id half.seat.number (Ok tt)) → MayRead half.seat.right half.id → last.right ≡ half.seat.right →
    IsShown old new → IsShown last shown → SaysSole last.right last.number shown.seen → new.seen ≡ shown.seen → IsWitnessed true role config new.seen →
    ClosesHalf old new half
closes_at role config old new last shown half booked may right mine theirs sole same history = record {
  sees = sees_last old new half.seat last shown (Closes half.id half.seat.number (Ok tt)) booked theirs mine same;
  alone = last_reads_alone role config half.id half.seat.number last.number half.seat.right last.right new.seen shown.seen may right booked.number sole same history;
}

pub shown_grows : (old new : SeatView) → IsShown old new → StandsIn old.seen new.seen
shown_grows old new s = stands old.number old.seen new.seen s.grown
