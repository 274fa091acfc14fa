-- What a line of a script says (this project's own).
use Rattle.std.specs.Prelude.{ℕ, List, [], ◌∷◌, ◌==◌, if◌then◌else◌, Option, None, Some, codes, replicate}
use Rattle.ymx_machine.specs.declared.types.Call.TheVariants.{Open, OpenWith, Accept, Write, Read, Finish, Reset, Forget, Ping, Ponged, GoAway, Close}
use Rattle.ymx_machine.specs.declared.types.Side.{Side}
use Rattle.ymx_machine.specs.declared.types.Step.TheVariants.{At, Emit, Deliver, Stop, End}
use Rattle.ymx_script.specs.declared.command.Command.{Command}
use Rattle.ymx_script.specs.declared.command.Command.TheVariants.{Nothing, First, Window, Do, Skip, Quiet, Due, Show}
use Rattle.ymx_script.specs.Words.{words, is, side, direction, number, count, payload_word}

-- where the first is there, the second
infixl 10 ◌>>=◌
abbrev pub ◌>>=◌ : {X Y : Type 0} → Option X → (X → Option Y) → Option Y
None >>= f = None
Some x >>= f = f x

-- a line of one word
abbrev pub of_one : List ℕ → Option Command
of_one word = if is (codes "quiet") word then Some Quiet else None

-- a side and a call without arguments
abbrev pub bare_call : Side → List ℕ → Option Command
bare_call s verb =
    if is (codes "open") verb then Some (Do (At s Open))
    else if is (codes "accept") verb then Some (Do (At s Accept))
    else if is (codes "ping") verb then Some (Do (At s Ping))
    else if is (codes "away") verb then Some (Do (At s GoAway))
    else if is (codes "close") verb then Some (Do (At s Close))
    else None

-- a line of two words: a call of a side, or one of these
abbrev pub in_two : Option Side → (verb word : List ℕ) → Option Command
in_two (Some s) verb word = bare_call s word
in_two None verb word =
    if is (codes "due") verb then side word >>= (λ s. Some (Due s))
    else if is (codes "show") verb then direction word >>= (λ d. Some (Show d))
    else if is (codes "stop") verb then direction word >>= (λ d. Some (Do (Stop d)))
    else if is (codes "end") verb then direction word >>= (λ d. Some (Do (End d)))
    else None

abbrev pub of_two : (verb word : List ℕ) → Option Command
of_two verb word = in_two (side verb) verb word

-- a side and a call on this stream or ping
abbrev pub numbered_call : Side → (verb word : List ℕ) → Option Command
numbered_call s verb word =
    if is (codes "finish") verb then number word >>= (λ id. Some (Do (At s (Finish id))))
    else if is (codes "reset") verb then number word >>= (λ id. Some (Do (At s (Reset id))))
    else if is (codes "forget") verb then number word >>= (λ id. Some (Do (At s (Forget id))))
    else if is (codes "ponged") verb then number word >>= (λ n. Some (Do (At s (Ponged n))))
    else None

-- a side and a call with one argument
abbrev pub call_of : Side → (verb word : List ℕ) → Option Command
call_of s verb word =
    if is (codes "openwith") verb then payload_word word >>= (λ bytes. Some (Do (At s (OpenWith bytes))))
    else numbered_call s verb word

-- a line of three words that begins with no side
abbrev pub other_of_three : (verb word last : List ℕ) → Option Command
other_of_three verb word last =
    if is (codes "first") verb then side word >>= (λ s. number last >>= (λ n. Some (First s n)))
    else if is (codes "window") verb then side word >>= (λ s. number last >>= (λ n. Some (Window s n)))
    else if is (codes "emit") verb then side word >>= (λ s. count last >>= (λ n. Some (Do (Emit s n))))
    else if is (codes "deliver") verb then direction word >>= (λ d. number last >>= (λ n. Some (Do (Deliver d n))))
    else None

abbrev pub in_three : Option Side → (verb word last : List ℕ) → Option Command
in_three (Some s) verb word last = call_of s word last
in_three None verb word last = other_of_three verb word last

-- a line of three words
abbrev pub of_three : (verb word last : List ℕ) → Option Command
of_three verb word last = in_three (side verb) verb word last

-- a side and a call that moves so many bytes of this stream
abbrev pub counted_call : Side → (verb : List ℕ) → (id n : ℕ) → Option Command
counted_call s verb id n =
    if is (codes "fill") verb then Some (Do (At s (Write id (replicate n 120))))
    else if is (codes "read") verb then Some (Do (At s (Read id n)))
    else if is (codes "skip") verb then Some (Skip (At s (Read id n)))
    else None

-- a side and a call that moves bytes of this stream
abbrev pub moving_call : Side → (verb : List ℕ) → (id : ℕ) → (last : List ℕ) → Option Command
moving_call s verb id last =
    if is (codes "write") verb then payload_word last >>= (λ bytes. Some (Do (At s (Write id bytes))))
    else count last >>= (λ n. counted_call s verb id n)

-- a line of four words
abbrev pub of_four : (first verb word last : List ℕ) → Option Command
of_four first verb word last = side first >>= (λ s. number word >>= (λ id. moving_call s verb id last))

abbrev pub of_words : List (List ℕ) → Option Command
of_words [] = None
of_words (a ∷ []) = of_one a
of_words (a ∷ b ∷ []) = of_two a b
of_words (a ∷ b ∷ c ∷ []) = of_three a b c
of_words (a ∷ b ∷ c ∷ d ∷ []) = of_four a b c d
of_words (a ∷ b ∷ c ∷ d ∷ e ∷ more) = None

-- What a line says, if it is one of the language. An empty line and one that begins with `#` say nothing.
abbrev pub command : List ℕ → Option Command
command [] = Some Nothing
command (b ∷ bs) = if b == 35 then Some Nothing else of_words (words (b ∷ bs))
