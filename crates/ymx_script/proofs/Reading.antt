-- Lines that are played one after another.
use Rattle.std.proofs.Common.{◌≡◌, ℕ, ◌+◌, ◌-◌, ◌^◌, ◌<◌, ◌≤◌, min, List, [], ◌∷◌, ◌++◌, length, take, drop, Bool, true, false, Result, Ok, Err, IfOk, OnErr, refl, sym, ap, subst, ◌∙◌, append_assoc, arith}
use Rattle.std.proofs.lemmas.Grind.{common_steps}
use Rattle.ymx_script.specs.declared.lines.Lines.{Lines}
use Rattle.ymx_script.specs.declared.player.Player.{Player}
use Rattle.ymx_script.specs.Language.{command}
use Rattle.ymx_script.specs.Players.{position_of}
use Rattle.ymx_script.specs.Scripts.{EndsLine, Position, IsPlayed, Plays, PrintsWhole, last_line, first_position, with_feeds, line_number, has_feed, longest, is_mistake}
use Rattle.ymx_script.specs.Scripts.IsBad.{TooLong, Mistaken}
use Rattle.ymx_script.specs.Reading.{IsReading, IsAtMistake, IsFront}
use Rattle.ymx_script.proofs.Feeds.{one_of_parts}

-- one more line
pub plays_more : (lines : List (List ℕ)) (bytes : List ℕ) (p q r : Position) (text now : List ℕ) →
    Plays lines p text q → IsPlayed bytes q now r → Plays (lines ++ bytes ∷ []) p (text ++ now) r
plays_more [] bytes p q r text now h one =
    (now, [], r, subst (λ (z : Position). IsPlayed bytes z now r) h.1 one, (refl, refl), grind (arith, common_steps))
plays_more (l ∷ ls) bytes p q r text now h one =
    (h.0, h.1 ++ now, h.2, h.3, plays_more ls bytes h.2 q r h.1 now h.4 one, grind (arith, common_steps))

feeds_more : (lines : List (List ℕ)) (bytes : List ℕ) → with_feeds (lines ++ bytes ∷ []) ≡ with_feeds lines ++ (bytes ++ 10 ∷ [])
feeds_more [] bytes = grind (arith, common_steps)
feeds_more (l ∷ ls) bytes = ap (λ (zs : List ℕ). (l ++ 10 ∷ []) ++ zs) (feeds_more ls bytes) ∙ sym (append_assoc (l ++ 10 ∷ []) (with_feeds ls) (bytes ++ 10 ∷ []))

number_more : (lines : List (List ℕ)) (bytes : List ℕ) → line_number (lines ++ bytes ∷ []) ≡ min (line_number lines + 1) (2 ^ 64 - 1)
number_more lines bytes =
    let long : length (lines ++ bytes ∷ []) ≡ length lines + 1 = grind (arith, common_steps) in
    ap (λ n. min (n + 1) (2 ^ 64 - 1)) long ∙ omega arith

-- more of a line has come
pub more_of_line : (text done piece part : List ℕ) (old new : Lines) → part ≡ old.part.items ++ piece → new.part.items ≡ part → new.player ≡ old.player → new.number ≡ old.number →
    has_feed piece ≡ false → length part ≤ longest → IsReading text done old → IsReading (text ++ piece) done new
more_of_line text done piece part old new is_part now player number one short r = record {
  before = r.before;
  played = record {
    whole = ap (λ (zs : List ℕ). zs ++ piece) r.played.whole ∙ append_assoc (with_feeds r.before) old.part.items piece ∙ ap (λ (zs : List ℕ). with_feeds r.before ++ zs) (sym is_part ∙ sym now);
    one = subst (λ (zs : List ℕ). has_feed zs ≡ false) (sym is_part ∙ sym now) (one_of_parts old.part.items piece r.played.one one);
    short = subst (λ (zs : List ℕ). length zs ≤ longest) (sym now) short;
    plays = subst (λ (z : Player). Plays r.before first_position (done ++ z.text.items) (position_of z)) (sym player) r.played.plays;
  };
  numbered = number ∙ r.numbered;
}

-- a line that is too long
pub too_long : (text done piece more part : List ℕ) (old new : Lines) → part ≡ old.part.items ++ piece → new.player ≡ old.player → new.number ≡ old.number →
    has_feed piece ≡ false → longest < length part → IsReading text done old → IsAtMistake (text ++ (piece ++ more)) done ⊥ new
too_long text done piece more part old new is_part player number one long r = record {
  before = r.before;
  bytes = part;
  after = more;
  p = position_of new.player;
  whole = ap (λ (zs : List ℕ). zs ++ (piece ++ more)) r.played.whole ∙ grind (arith, common_steps);
  plays = subst (λ (z : Player). Plays r.before first_position (done ++ z.text.items) (position_of z)) (sym player) r.played.plays;
  bad = TooLong (subst (λ (zs : List ℕ). has_feed zs ≡ false) (sym is_part) (one_of_parts old.part.items piece r.played.one one)) long;
  numbered = number ∙ r.numbered;
}

-- what was printed so far, whatever comes
pub front_of : (text done more : List ℕ) (old new : Lines) → new.player.text.items ≡ old.player.text.items → IsReading text done old → IsFront (text ++ more) done new
front_of text done more old new same r = record {
  before = r.before;
  after = old.part.items ++ more;
  p = position_of old.player;
  whole = ap (λ (zs : List ℕ). zs ++ more) r.played.whole ∙ append_assoc (with_feeds r.before) old.part.items more;
  plays = subst (λ (zs : List ℕ). Plays r.before first_position (done ++ zs) (position_of old.player)) (sym same) r.played.plays;
}

-- the line has ended
pub line_ends : (text done now : List ℕ) (old new : Lines) → new.part.items ≡ [] → new.number ≡ min (old.number + 1) (2 ^ 64 - 1) →
    IsPlayed old.part.items (position_of old.player) now (position_of new.player) → new.player.text.items ≡ old.player.text.items ++ now →
    IsReading text done old → IsReading (text ++ 10 ∷ []) done new
line_ends text done now old new none number played printed r =
    let before = r.before ++ old.part.items ∷ [] in
    let plays : Plays before first_position ((done ++ old.player.text.items) ++ now) (position_of new.player) =
    plays_more r.before old.part.items first_position (position_of old.player) (position_of new.player) (done ++ old.player.text.items) now r.played.plays played in
    let out : (done ++ old.player.text.items) ++ now ≡ done ++ new.player.text.items =
    append_assoc done old.player.text.items now ∙ ap (λ (zs : List ℕ). done ++ zs) (sym printed) in
    let text_is : text ++ 10 ∷ [] ≡ with_feeds before ++ [] =
    ap (λ (zs : List ℕ). zs ++ 10 ∷ []) r.played.whole ∙ append_assoc (with_feeds r.before) old.part.items (10 ∷ [])
    ∙ sym (feeds_more r.before old.part.items) ∙ grind (arith, common_steps) in
    record {
      before = before;
      played = record {
        whole = text_is ∙ ap (λ (zs : List ℕ). with_feeds before ++ zs) (sym none);
        one = subst (λ (zs : List ℕ). has_feed zs ≡ false) (sym none) refl;
        short = subst (λ (zs : List ℕ). length zs ≤ longest) (sym none) (omega arith);
        plays = subst (λ (zs : List ℕ). Plays before first_position zs (position_of new.player)) out plays;
      };
      numbered = number ∙ ap (λ n. min (n + 1) (2 ^ 64 - 1)) r.numbered ∙ sym (number_more r.before old.part.items);
    }

-- the line has ended, and is a mistake
pub line_mistaken : (text done more : List ℕ) (old new : Lines) → new.number ≡ old.number → is_mistake (command old.part.items) (position_of old.player) ≡ true →
    new.player.text.items ≡ old.player.text.items → IsReading text done old → IsAtMistake (text ++ 10 ∷ more) done ⊥ new
line_mistaken text done more old new number mistake same r = record {
  before = r.before;
  bytes = old.part.items;
  after = 10 ∷ more;
  p = position_of old.player;
  whole = ap (λ (zs : List ℕ). zs ++ 10 ∷ more) r.played.whole ∙ append_assoc (with_feeds r.before) old.part.items (10 ∷ more);
  plays = subst (λ (zs : List ℕ). Plays r.before first_position (done ++ zs) (position_of old.player)) (sym same) r.played.plays;
  bad = Mistaken r.played.one mistake more refl;
  numbered = number ∙ r.numbered;
}

-- ---- a piece of the text

-- The first of the piece's bytes were taken, and `rest` is left.
pub record HasTaken (piece rest : List ℕ) (old new : Lines) : Type 0 where
  pub taken : List ℕ
  pub cut : piece ≡ taken ++ rest
  pub goes : (text done : List ℕ) → IsReading text done old → IsReading (text ++ taken) done new

pub taken_none : (piece : List ℕ) (l : Lines) → HasTaken piece piece l l
taken_none piece l = record {
  taken = [];
  cut = refl;
  goes = λ text done r. subst (λ (zs : List ℕ). IsReading zs done l) (grind (arith, common_steps)) r;
}

pub taken_more : (piece rest : List ℕ) (end : ℕ) (old mid new : Lines) → HasTaken piece rest old mid → EndsLine rest end →
    ((text done : List ℕ) → IsReading text done mid → IsReading (text ++ (take end rest ++ 10 ∷ [])) done new) → HasTaken piece (drop (end + 1) rest) old new
taken_more piece rest end old mid new h ends goes =
    let line = take end rest ++ 10 ∷ [] in
    let rest_is : rest ≡ line ++ drop (end + 1) rest = ends.cut ∙ grind (arith, common_steps) in
    record {
      taken = h.taken ++ line;
      cut = h.cut ∙ ap (λ (zs : List ℕ). h.taken ++ zs) rest_is ∙ sym (append_assoc h.taken line (drop (end + 1) rest));
      goes = λ text done r. subst (λ (zs : List ℕ). IsReading zs done new) (append_assoc text h.taken line) (goes (text ++ h.taken) done (h.goes text done r));
    }

-- what holds after the rest holds after the piece
pub taken_to : (P : List ℕ → List ℕ → Type 0) (piece rest : List ℕ) (old mid : Lines) → HasTaken piece rest old mid →
    ((text done : List ℕ) → IsReading text done mid → P (text ++ rest) done) → (text done : List ℕ) → IsReading text done old → P (text ++ piece) done
taken_to P piece rest old mid h f text done r =
    subst (λ (zs : List ℕ). P zs done) (append_assoc text h.taken rest ∙ ap (λ (zs : List ℕ). text ++ zs) (sym h.cut)) (f (text ++ h.taken) done (h.goes text done r))

-- what holds after the line feed of a line holds after the bytes in which it is the first
pub next_to : (P : List ℕ → List ℕ → Type 0) (bytes : List ℕ) (end : ℕ) (old mid : Lines) → EndsLine bytes end →
    ((text done : List ℕ) → IsReading text done old → IsReading (text ++ take end bytes) done mid) →
    ((text done more : List ℕ) → IsReading text done mid → P (text ++ 10 ∷ more) done) → (text done : List ℕ) → IsReading text done old → P (text ++ bytes) done
next_to P bytes end old mid ends goes f text done r =
    let cut : (text ++ take end bytes) ++ 10 ∷ drop (end + 1) bytes ≡ text ++ bytes =
    append_assoc text (take end bytes) (10 ∷ drop (end + 1) bytes) ∙ ap (λ (zs : List ℕ). text ++ zs) (sym ends.cut) in
    subst (λ (zs : List ℕ). P zs done) cut (f (text ++ take end bytes) done (drop (end + 1) bytes) (goes text done r))

pub next_bad : {E : Type 0} (result : Result Bool E) (bytes : List ℕ) (end : ℕ) (old mid new : Lines) → EndsLine bytes end →
    ((text done : List ℕ) → IsReading text done old → IsReading (text ++ take end bytes) done mid) →
    IfOk result (λ good. good ≡ false → (text done more : List ℕ) → IsReading text done mid → IsAtMistake (text ++ 10 ∷ more) done ⊥ new) →
    IfOk result (λ good. good ≡ false → (text done : List ℕ) → IsReading text done old → IsAtMistake (text ++ bytes) done ⊥ new)
next_bad (Ok good) bytes end old mid new ends goes f = λ bad. next_to (λ zs done. IsAtMistake zs done ⊥ new) bytes end old mid ends goes (f bad)
next_bad (Err e) bytes end old mid new ends goes f = f

pub next_err : {E : Type 0} (result : Result Bool E) (bytes : List ℕ) (end : ℕ) (old mid new : Lines) → EndsLine bytes end →
    ((text done : List ℕ) → IsReading text done old → IsReading (text ++ take end bytes) done mid) →
    OnErr result ((text done more : List ℕ) → IsReading text done mid → IsFront (text ++ more) done new) →
    OnErr result ((text done : List ℕ) → IsReading text done old → IsFront (text ++ bytes) done new)
next_err (Ok good) bytes end old mid new ends goes f = f
next_err (Err e) bytes end old mid new ends goes f =
    next_to (λ zs done. IsFront zs done new) bytes end old mid ends goes (λ text done more r. f text done (10 ∷ more) r)

-- ---- the end of the text

pub all_without_last : (text done : List ℕ) (l : Lines) → l.part.items ≡ [] → IsReading text done l → PrintsWhole text (done ++ l.player.text.items)
all_without_last text done l none r = (
  r.before,
  [],
  position_of l.player,
  r.played.whole ∙ ap (λ (zs : List ℕ). with_feeds r.before ++ zs) none,
  refl,
  subst (λ (zs : List (List ℕ)). Plays zs first_position (done ++ l.player.text.items) (position_of l.player)) (grind (arith, common_steps)) r.played.plays,
)

last_is : (part : List ℕ) → 0 < length part → last_line part ≡ part ∷ []
last_is [] h = absurd (omega (arith, h))
last_is (b ∷ bs) h = refl

pub all_with_last : (text done now : List ℕ) (old : Lines) (new : Player) → 0 < length old.part.items → IsPlayed old.part.items (position_of old.player) now (position_of new) →
    new.text.items ≡ old.player.text.items ++ now → IsReading text done old → PrintsWhole text (done ++ new.text.items)
all_with_last text done now old new some played printed r =
    let out : (done ++ old.player.text.items) ++ now ≡ done ++ new.text.items =
    append_assoc done old.player.text.items now ∙ ap (λ (zs : List ℕ). done ++ zs) (sym printed) in (
      r.before,
      old.part.items,
      position_of new,
      r.played.whole,
      r.played.one,
      subst (λ (zs : List (List ℕ)). Plays (r.before ++ zs) first_position (done ++ new.text.items) (position_of new)) (sym (last_is old.part.items some))
          (subst (λ (zs : List ℕ). Plays (r.before ++ old.part.items ∷ []) first_position zs (position_of new)) out
          (plays_more r.before old.part.items first_position (position_of old.player) (position_of new) (done ++ old.player.text.items) now r.played.plays played)),
    )

pub all_if_last : {E : Type 0} (result : Result Bool E) (old : Lines) (new : Player) (line : List ℕ) → line ≡ old.part.items → 0 < length old.part.items →
    IfOk result (λ good. good ≡ true → (now : List ℕ) × IsPlayed line (position_of old.player) now (position_of new) × (new.text.items ≡ old.player.text.items ++ now)) →
    IfOk result (λ good. good ≡ true → (text done : List ℕ) → IsReading text done old → PrintsWhole text (done ++ new.text.items))
all_if_last (Ok good) old new line is some f = λ yes text done r.
    let h = f yes in
    all_with_last text done h.0 old new some (subst (λ (zs : List ℕ). IsPlayed zs (position_of old.player) h.0 (position_of new)) is h.1) h.2 r
all_if_last (Err e) old new line is some f = f

pub on_err_any : {X E : Type 0} (result : Result Bool E) → X → OnErr result X
on_err_any (Ok good) x = tt
on_err_any (Err e) x = x

pub last_bad : {E : Type 0} (result : Result Bool E) (piece rest : List ℕ) (old mid new : Lines) → HasTaken piece rest old mid →
    IfOk result (λ good. good ≡ false → (text done more : List ℕ) → IsReading text done mid → IsAtMistake (text ++ (rest ++ more)) done ⊥ new) →
    IfOk result (λ good. good ≡ false → (text done : List ℕ) → IsReading text done old → IsAtMistake (text ++ piece) done ⊥ new)
last_bad (Ok good) piece rest old mid new h f = λ bad.
    taken_to (λ zs done. IsAtMistake zs done ⊥ new) piece rest old mid h
    (λ text done r. subst (λ (zs : List ℕ). IsAtMistake (text ++ zs) done ⊥ new) (grind (arith, common_steps)) (f bad text done [] r))
last_bad (Err e) piece rest old mid new h f = f

pub last_err : {E : Type 0} (result : Result Bool E) (piece rest : List ℕ) (old mid new : Lines) → HasTaken piece rest old mid →
    OnErr result ((text done more : List ℕ) → IsReading text done mid → IsFront (text ++ more) done new) →
    OnErr result ((text done : List ℕ) → IsReading text done old → IsFront (text ++ piece) done new)
last_err (Ok good) piece rest old mid new h f = f
last_err (Err e) piece rest old mid new h f =
    taken_to (λ zs done. IsFront zs done new) piece rest old mid h (λ text done r. f text done rest r)
