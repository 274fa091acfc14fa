-- What is under way in a direction whose receiver takes a byte.
use Rattle.std.proofs.Common.{◌≡◌, ℕ, suc, ◌+◌, List, [], ◌∷◌, ◌++◌, length, drop, Bool, true, false, ◌==◌, if◌then◌else◌, refl, sym, ap, ◌∙◌, arith, length-append}
use Rattle.std.specs.List.{All, concat}
use Rattle.ymx_header.specs.declared.header.Header.{Header}
use Rattle.ymx_header.specs.Headers.{header_of, has_fin}
use Rattle.ymx_model.specs.session.Parts.{Part}
use Rattle.ymx_model.specs.session.Sessions.{Incoming, is_closed}
use Rattle.ymx_model.specs.session.Sessions.Incoming.{Head, Payload}
use Rattle.ymx_model.specs.session.Arrivals.{payload}
use Rattle.ymx_model.specs.world.UnderWay.{IsOneFrame, held_bytes, lacking}
use Rattle.ymx_machine.proofs.Tests.{split, agrees}
use Rattle.ymx_headline.proofs.world.Fed.{all-first, all-rest, behind, same-header, drop-length, assoc, no-tail}
use Rattle.ymx_headline.specs.Agrees.{Sender, Receiver, Text, AwayUnderWay, PingsUnderWay, PongsUnderWay, IsPlainFrame, parts_in, all_parts, parts_left, asks, replies, is_go_away, count_in, pongs}

-- ---- a byte of a header that isn't the last

pub header-text : (s : Sender) (r : Receiver) (b : ℕ) (seen rest : List ℕ) (parts : List (ℕ × Part)) → r.incoming ≡ Head seen → Text s r (b ∷ rest) parts → Text s (record r { incoming = Head (seen ++ b ∷ []) }) rest parts
header-text s r b seen rest parts inc t = record {
  cut = t.cut;
  tail = t.tail;
  frames = t.frames;
  kept = t.kept;
  missing = rw inc at t.missing;
  each = t.each;
  plain = t.plain;
  text = (let was : seen ++ ((b ∷ rest) ++ (s.outgoing ++ t.cut)) ≡ t.tail ++ concat t.frames = rw inc at t.text in assoc seen b (rest ++ (s.outgoing ++ t.cut)) ∙ was);
  says = rw inc at t.says;
  away = t.away;
  pings = t.pings;
  pongs = record { once = t.pongs.once; means = t.pongs.means; there = t.pongs.there };
}

-- ---- the last byte of a header

-- the first frame, whose header is whole now, and those after it
pub record FirstFrame (s : Sender) (r : Receiver) (head rest : List ℕ) (parts : List (ℕ × Part)) : Type 0 where
  pub cut : List ℕ
  pub frame : List ℕ
  pub frames : List (List ℕ)
  pub kept : is_closed s.status ≡ false → cut ≡ []
  pub one : IsOneFrame frame
  pub plain : IsPlainFrame frame
  pub each : All IsOneFrame frames
  pub plains : All IsPlainFrame frames
  pub header : header_of frame ≡ header_of head
  pub long : length (drop 12 frame) ≡ payload (header_of head)
  pub text : rest ++ (s.outgoing ++ cut) ≡ drop 12 frame ++ concat frames
  pub says : parts ≡ parts_in frame ++ all_parts frames
  pub away : AwayUnderWay s (frame ∷ frames)
  pub pings : PingsUnderWay s (frame ∷ frames)
  pub pongs : PongsUnderWay s r (frame ∷ frames)

plain-first : (f : List ℕ) (fs : List (List ℕ)) → All IsPlainFrame (f ∷ fs) → IsPlainFrame f
plain-first f fs a = a 0 [] (omega arith)

plain-rest : (f : List ℕ) (fs : List (List ℕ)) → All IsPlainFrame (f ∷ fs) → All IsPlainFrame fs
plain-rest f fs a = λ k d l. let z = a (suc k) d (omega arith) in z

first-of : (s : Sender) (r : Receiver) (head rest cut : List ℕ) (parts : List (ℕ × Part)) (frames : List (List ℕ)) → (is_closed s.status ≡ false → cut ≡ []) → All IsOneFrame frames → All IsPlainFrame frames →
    length head ≡ 12 → head ++ (rest ++ (s.outgoing ++ cut)) ≡ concat frames → parts ≡ all_parts frames → AwayUnderWay s frames → PingsUnderWay s frames → PongsUnderWay s r frames → FirstFrame s r head rest parts
first-of s r head rest cut parts [] kept each plain twelve text says away pings pongs = absurd (omega (arith, length-append head (rest ++ (s.outgoing ++ cut)), ap length text))
first-of s r head rest cut parts (f ∷ fs) kept each plain twelve text says away pings pongs =
    let one = all-first f fs each in
    let same : header_of f ≡ header_of head = same-header head (rest ++ (s.outgoing ++ cut)) f (concat fs) twelve one.header text in record {
      cut = cut;
      frame = f;
      frames = fs;
      kept = kept;
      one = one;
      plain = plain-first f fs plain;
      each = all-rest f fs each;
      plains = plain-rest f fs plain;
      header = same;
      long = drop-length f (payload (header_of head)) (one.whole ∙ ap (λ (h : Header). 12 + payload h) same);
      text = behind head (rest ++ (s.outgoing ++ cut)) f (concat fs) twelve one.header text;
      says = says;
      away = away;
      pings = pings;
      pongs = pongs;
    }

pub first-frame : (s : Sender) (r : Receiver) (b : ℕ) (seen rest : List ℕ) (parts : List (ℕ × Part)) → r.incoming ≡ Head seen → length seen ≡ 11 → Text s r (b ∷ rest) parts → FirstFrame s r (seen ++ b ∷ []) rest parts
first-frame s r b seen rest parts inc eleven t =
    let none : t.tail ≡ [] = no-tail t.tail (rw inc at t.missing) in
    let was : seen ++ ((b ∷ rest) ++ (s.outgoing ++ t.cut)) ≡ t.tail ++ concat t.frames = rw inc at t.text in
    let now : seen ++ ((b ∷ rest) ++ (s.outgoing ++ t.cut)) ≡ concat t.frames = rw none at was in
    first-of s r (seen ++ b ∷ []) rest t.cut parts t.frames t.kept t.each t.plain (omega (arith, eleven, length-append seen (b ∷ []))) (assoc seen b (rest ++ (s.outgoing ++ t.cut)) ∙ now) (rw inc at t.says) t.away t.pings t.pongs

-- ---- after the header

-- what is awaited after it
abbrev pub awaited : Header → (discarded : Bool) → Incoming
awaited h discarded = if payload h == 0 then Head [] else Payload h.id (payload h) (has_fin h) discarded

none-held : (h : Header) (discarded : Bool) → held_bytes (awaited h discarded) ≡ []
none-held h discarded = split (λ i. held_bytes i ≡ []) (payload h == 0) (Head []) (Payload h.id (payload h) (has_fin h) discarded) (λ t. refl) (λ f. refl)

lacks-all : (h : Header) (discarded : Bool) → lacking (awaited h discarded) ≡ payload h
lacks-all h discarded = split (λ i. lacking i ≡ payload h) (payload h == 0) (Head []) (Payload h.id (payload h) (has_fin h) discarded) (λ t. sym (agrees (payload h) 0 t)) (λ f. refl)

-- the text after the header: the payload, then the frames after it
pub text-after : (s t : Sender) (r q : Receiver) (head rest : List ℕ) (parts now : List (ℕ × Part)) (discarded : Bool) (k : FirstFrame s r head rest parts) → t.status ≡ s.status → t.outgoing ≡ s.outgoing →
    q.incoming ≡ awaited (header_of head) discarded → now ≡ parts_left (awaited (header_of head) discarded) (drop 12 k.frame) ++ all_parts k.frames →
    AwayUnderWay t k.frames → PingsUnderWay t k.frames → PongsUnderWay t q k.frames → Text t q rest now
text-after s t r q head rest parts now discarded k st be inc says away pings pongs =
    let h = header_of head in
    let held : held_bytes q.incoming ≡ [] = ap held_bytes inc ∙ none-held h discarded in record {
      cut = k.cut;
      tail = drop 12 k.frame;
      frames = k.frames;
      kept = λ c. k.kept (ap is_closed (sym st) ∙ c);
      missing = k.long ∙ sym (ap lacking inc ∙ lacks-all h discarded);
      each = k.each;
      plain = k.plains;
      text = ap (λ xs. xs ++ (rest ++ (t.outgoing ++ k.cut))) held ∙ (ap (λ xs. rest ++ (xs ++ k.cut)) be ∙ k.text);
      says = says ∙ ap (λ i. parts_left i (drop 12 k.frame) ++ all_parts k.frames) (sym inc);
      away = away;
      pings = pings;
      pongs = pongs;
    }

-- ---- a frame less

pub count-skip : (test : List ℕ → Bool) (f : List ℕ) (fs : List (List ℕ)) → test f ≡ false → count_in test (f ∷ fs) ≡ count_in test fs
count-skip test f fs e = rw e refl

pub count-first : (test : List ℕ → Bool) (f : List ℕ) (fs : List (List ℕ)) → test f ≡ true → count_in test (f ∷ fs) ≡ count_in test fs + 1
count-first test f fs e = rw e refl

pub away-rest : (s : Sender) (f : List ℕ) (fs : List (List ℕ)) → is_go_away f ≡ false → AwayUnderWay s (f ∷ fs) → AwayUnderWay s fs
away-rest s f fs e h = let k = count-skip is_go_away f fs e in record { once = rw k at h.once; means = rw k at h.means; said = rw k at h.said }

pub pings-rest : (s : Sender) (f : List ℕ) (fs : List (List ℕ)) → ((n : ℕ) → asks n f ≡ false) → PingsUnderWay s (f ∷ fs) → PingsUnderWay s fs
pings-rest s f fs e h = record {
  once = λ n. rw (count-skip (asks n) f fs (e n)) at (h.once n);
  means = λ n. rw (count-skip (asks n) f fs (e n)) at (h.means n);
  asked = λ n. rw (count-skip (asks n) f fs (e n)) at (h.asked n);
}

pub pongs-rest : (s : Sender) (r : Receiver) (f : List ℕ) (fs : List (List ℕ)) → ((n : ℕ) → replies n f ≡ false) → PongsUnderWay s r (f ∷ fs) → PongsUnderWay s r fs
pongs-rest s r f fs e h = record {
  once = λ n. rw (count-skip (replies n) f fs (e n)) at (h.once n);
  means = λ n. rw (count-skip (replies n) f fs (e n)) at (h.means n);
  there = λ n. rw (count-skip (replies n) f fs (e n)) at (h.there n);
}

-- pongs don't see what the receiver has of a frame, nor rejections
pub pongs-hear : (s : Sender) (r q : Receiver) (fs : List (List ℕ)) → q.places ≡ r.places → PongsUnderWay s r fs → PongsUnderWay s q fs
pongs-hear s r q fs e h = record { once = h.once; means = λ n t. rw e (h.means n t); there = λ n t. rw e (h.there n t) }
