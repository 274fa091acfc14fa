-- What making a session answers to C.
use Rattle.std.specs.Prelude.{◌≡◌, ℕ, ℤ, pos, negsuc, None}
use denote.RawPtr.{Ptr, null_ptr, block_ptr}
use Rattle.ymx_model.specs.declared.types.Config.{Config}
use Rattle.ymx_session.specs.declared.new_fault.NewFault.{NewFault}
use Rattle.ymx_session.specs.declared.new_fault.NewFault.TheVariants.{BadWindow, BadFirst, OutOfMemory}
use Rattle.ymx_session.specs.NewSessions.{new_fault, IsNewFault}
use Rattle.ymx_c.specs.Answers.{role_of}
use Rattle.ymx_machine.specs.shared.Evidence.{evidence}

-- why no session was made: -13, -14, or -11 as for any lack of memory
abbrev pub new_refusal : NewFault → ℤ
new_refusal BadWindow = negsuc 12
new_refusal BadFirst = negsuc 13
new_refusal (OutOfMemory _) = negsuc 10

-- the configuration that C's two numbers stand for
abbrev pub config_of : ℕ → ℕ → Config
config_of window first = record { window = window; first = first }

-- this fault is why no session was made: its number is the answer, and NULL was written
abbrev pub IsRefused : ℕ → ℕ → ℕ → ℤ → Ptr → Type 0
IsRefused role window first answer at =
    (fault : NewFault) × (answer ≡ new_refusal fault) × IsNewFault (role_of role) (config_of window first) fault × (at ≡ null_ptr)

-- the address leads somewhere: it is not NULL
abbrev pub IsSomewhere : Ptr → Type 0
IsSomewhere at = (b : ℕ) × (o : ℕ) × (at ≡ block_ptr b o)

-- A session was made: the answer is 0, nothing is wrong with the configuration, and an address was written.
abbrev pub IsMade : ℕ → ℕ → ℕ → ℤ → Ptr → Type 0
IsMade role window first answer at =
    (answer ≡ pos 0) × (new_fault (role_of role) (config_of window first) ≡ None) × IsSomewhere at

-- a note of touched streams was made, and its address was written
abbrev pub IsNoteMade : ℤ → Ptr → Type 0
IsNoteMade answer at = (answer ≡ pos 0) × IsSomewhere at

-- there was no memory for a note, and NULL was written
abbrev pub IsNoNote : ℤ → Ptr → Type 0
IsNoNote answer at = (answer ≡ new_refusal (OutOfMemory evidence)) × (at ≡ null_ptr)
