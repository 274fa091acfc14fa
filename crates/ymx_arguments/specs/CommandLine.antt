-- The command line of the program: what its words ask for, by the table of its options (this project's own).
use Rattle.std.specs.Prelude.{◌≡◌, ◌≢◌, ◌==◌, ⊤, ◌<◌, ◌≤◌, ◌-◌, ◌⊎◌, ℕ, List, [], ◌∷◌, Bool, Option, Some, None, true, false, IsSomeAnd, MatchOption, if◌then◌else◌, fold, codes, length, min, slice_get, unwrap_or}
use Rattle.std.specs.Borrow.{Bor}
use Rattle.std.specs.Str.Parse.{IsNumeral, digits_value}
use Rattle.std.specs.List.{after_first, before_first, position_or_len}
use Rattle.std.specs.Net.Addr.{IsLoopbackV4}
use Rattle.std.specs.Net.Grammar.{IsIpv4Text, IsSocketV4Text}
use Rattle.std.specs.Net.Socket.{v4_ip, v4_port}
use Rattle.std.specs.declared.net.socket_addr.SocketAddrV4.{SocketAddrV4}
use Rattle.clap.specs.Faults.{fault_of}
use Rattle.clap.specs.Kinds.{IsAmong}
use Rattle.clap.specs.Walk.{all_of, first_of, Row as Entry}
use Rattle.clap.specs.Words.{App, Rule, Shape, Text, kind_of, new_app, new_rule, one_of, subcommand_of, takes, with_rule, with_subcommand}
use Rattle.clap.specs.declared.builder.action.ArgAction.{ArgAction}
use Rattle.clap.specs.declared.builder.action.ArgAction.TheVariants.{Append, Set, SetTrue}
use Rattle.clap.specs.declared.error.kind.ErrorKind.{ErrorKind}
use Rattle.clap.specs.declared.error.kind.ErrorKind.TheVariants.{ArgumentConflict, DisplayHelp, DisplayVersion, MissingRequiredArgument, OutOfMemory, TooManyValues, ValueValidation}
use Rattle.ymx_policy.specs.declared.options.Endpoint.{Endpoint}
use Rattle.ymx_policy.specs.declared.options.Endpoint.TheVariants.{Local, Remote}
use Rattle.ymx_policy.specs.declared.options.Network.{Network}
use Rattle.ymx_policy.specs.declared.options.Networks.{Networks}
use Rattle.ymx_policy.specs.declared.options.PeerAddress.{PeerAddress}
use Rattle.ymx_policy.specs.declared.options.PeerAddress.TheVariants as peer
use Rattle.ymx_policy.specs.declared.options.Plan.{Plan}
use Rattle.ymx_policy.specs.declared.options.SessionOptions.{SessionOptions}
use Rattle.ymx_arguments.specs.declared.options.BadOption.{BadOption}
use Rattle.ymx_arguments.specs.declared.options.BadOption.TheVariants as bad
use Rattle.ymx_arguments.specs.declared.reading.CommandFault.{CommandFault}
use Rattle.ymx_arguments.specs.declared.reading.CommandFault.TheVariants.{Clap, BadAddress}
use Rattle.ymx_arguments.specs.declared.reading.Task.{Task}
use Rattle.ymx_arguments.specs.declared.reading.Task.TheVariants.{Frames, Script, Selftest, Tunnel}
use Rattle.ymx_arguments.specs.declared.rows.Kind.{Kind}
use Rattle.ymx_arguments.specs.declared.rows.Kind.TheVariants as kind
use Rattle.ymx_arguments.specs.Rows.{OptionRow, is_of, row_of, rows}

-- ---- the options, as clap knows them

-- what clap does where an option is given
abbrev pub action_of : Kind → ArgAction
action_of kind.Flag = SetTrue
action_of kind.Word = Set
action_of kind.Text = Set
action_of kind.Texts = Append

-- an option by its name and its letter, if it has one, and a word by none of both
abbrev pub names_of : Kind → Text → Option ℕ → Rule → Rule
names_of kind.Word name letter rule = rule
names_of _ name None rule = record rule { long = Some name }
names_of _ name (Some letter) rule = record rule { long = Some name; short = Some letter }

abbrev pub named_rule : OptionRow → Rule → Rule
named_rule row rule = names_of row.kind row.name row.letter rule

-- an option by its row
abbrev pub row_rule : OptionRow → Rule
row_rule row = named_rule row (record (new_rule row.name) {
  aliases = row.old_names;
  action = Some (action_of row.kind);
  value_names = row.values;
  defaults = row.default;
  required = row.is_needed;
})

-- a subcommand of this name with the option of this row, if it is one of its
abbrev pub with_row : Text → App → OptionRow → App
with_row name app row = if is_of row.owner name then with_rule app (row_rule row) else app

-- the subcommand of this name, with its options in the order of the table
abbrev pub shape_named : Text → Shape
shape_named name = (fold (with_row name) (new_app name) rows).top

-- the program by itself, which has a version, as its subcommands have, and wants a subcommand
abbrev pub top_app : App
top_app =
    let app = new_app (codes "ymx") in
    record app { top = record app.top { has_version = true; propagate_version = true; subcommand_required = true } }

-- the program
abbrev pub ymx_app : App
ymx_app =
    fold (λ app name. with_subcommand app (shape_named name)) top_app (codes "frames" ∷ codes "script" ∷ codes "local" ∷ codes "remote" ∷ codes "selftest" ∷ [])

-- ---- what options say, of which clap keeps what was given

-- the text is a number of this range: decimal digits alone, at least one
abbrev pub IsNumberIn : (least most : ℕ) → Text → Type 0
IsNumberIn least most text = IsNumeral 10 text × (least ≤ digits_value 10 text) × (digits_value 10 text ≤ most)

-- no text is read as no number, and a number of the range as what it spells
abbrev pub ReadsAs : (least most : ℕ) → Option Text → Option ℕ → Type 0
ReadsAs least most None number = number ≡ None
ReadsAs least most (Some text) number = IsNumberIn least most text × (number ≡ Some (digits_value 10 text))

-- both were given
abbrev pub AreBothGiven : Option Text → Option Text → Type 0
AreBothGiven (Some text) (Some other) = ⊤
AreBothGiven _ _ = ⊥

-- the option of this name was given with the one that it can't be given with
abbrev pub HasClash : List Entry → Text → Type 0
HasClash given name = IsSomeAnd (row_of name).apart (λ other. AreBothGiven (first_of name given) (first_of other given))

-- the option of this name has this number, if it was given, of the range of its row
abbrev pub IsNumberOf : List Entry → Text → Option ℕ → Type 0
IsNumberOf given name number = (HasClash given name → ⊥) × ReadsAs (row_of name).least (row_of name).most (first_of name given) number

-- it has this number, or the least of its row
abbrev pub IsNumberOrLeast : List Entry → Text → ℕ → Type 0
IsNumberOrLeast given name number = (read : Option ℕ) × IsNumberOf given name read × (number ≡ unwrap_or read (row_of name).least)

-- the flag, of which clap keeps this text, wasn't given
abbrev pub IsNotSaid : Option Text → Type 0
IsNotSaid text = (text ≡ None) ⊎ (text ≡ Some (codes "false"))

-- the flag of this name was given, or wasn't
abbrev pub ReadsFlag : List Entry → Text → Bool → Type 0
ReadsFlag given name flag = (IsNotSaid (one_of name given) → flag ≡ false) × (one_of name given ≡ Some (codes "true") → flag ≡ true)

-- the option of this name was given this IPv4 address with its port, which is not below the least that it takes
abbrev pub IsAddressOf : List Entry → Text → SocketAddrV4 → Type 0
IsAddressOf given name address = IsSomeAnd (first_of name given) (λ text. IsSocketV4Text text address) × ((row_of name).least ≤ v4_port address)

-- The peer is connected to at the address of `--peer`, or awaited at that of `--bind`. Just one of them was given.
abbrev pub IsPeerOf : List Entry → PeerAddress → Type 0
IsPeerOf given (peer.Connect address) = IsAddressOf given (codes "peer") address × (first_of (codes "bind") given ≡ None)
IsPeerOf given (peer.Listen address) = (first_of (codes "peer") given ≡ None) × IsAddressOf given (codes "bind") address

-- the byte `/`
abbrev pub is_slash : ℕ → Bool
is_slash = λ byte. byte == 47

-- The text names this network: an IPv4 address, all of which counts, or what stands before its first `/` is an IPv4 address, and what
-- stands after it says how many of its first bits count, 0 to 32 in decimal digits alone.
abbrev pub IsNetwork : Text → Network → Type 0
IsNetwork text network =
    ((position_or_len is_slash text ≡ length text) × IsIpv4Text text network.address × (network.bits ≡ 32))
    ⊎ ((position_or_len is_slash text < length text) × IsIpv4Text (before_first is_slash text) network.address
    × IsNumberIn 0 32 (after_first is_slash text) × (network.bits ≡ digits_value 10 (after_first is_slash text)))

-- the text names no network
abbrev pub IsNoNetwork : Text → Type 0
IsNoNetwork text = (network : Network) → IsNetwork text network → ⊥

-- no text stands for all addresses, and a text for the network that it names
abbrev pub StandsFor : Option Text → Network → Type 0
StandsFor None network = network.bits ≡ 0
StandsFor (Some text) network = IsNetwork text network

-- the text is one of these
abbrev pub IsIn : List Text → Text → Type 0
IsIn texts text = (k : ℕ) × (slice_get texts k ≡ Some text)

-- the texts of `--from`
abbrev pub from_texts : List Entry → List Text
from_texts given = unwrap_or (all_of (codes "from") given) []

-- These are the networks of `--from`, of which there are at most 8: each of the eight is that of the text in its place, or of the last
-- text where there are fewer, and all addresses where there is none.
abbrev pub AreNetworksOf : List Entry → Networks → Type 0
AreNetworksOf given from =
    (HasClash given (codes "from") → ⊥) × (length (from_texts given) ≤ 8)
    × ((k : ℕ) → k < 8 → IsSomeAnd (slice_get from.networks k) (StandsFor (slice_get (from_texts given) (min k (length (from_texts given) - 1)))))

-- the address is of the loopback, 127.0.0.0/8
abbrev pub IsNear : SocketAddrV4 → Type 0
IsNear address = IsLoopbackV4 (v4_ip address)

-- where the status is asked for: at the address that was given, which is of the loopback unless another is allowed
abbrev pub IsStatusAt : Option Text → (anywhere : Option Text) → Option SocketAddrV4 → Type 0
IsStatusAt None anywhere status = (status ≡ None) × (anywhere ≢ Some (codes "true"))
IsStatusAt (Some text) anywhere status = IsSomeAnd status (λ address. IsSocketV4Text text address × (IsNotSaid anywhere → IsNear address))

abbrev pub IsStatusOf : List Entry → Option SocketAddrV4 → Type 0
IsStatusOf given status = IsStatusAt (first_of (codes "status") given) (one_of (codes "status-anywhere") given) status

-- the file that is named: `-` is none
abbrev pub IsFileOf : List Entry → Option (Bor Text) → Type 0
IsFileOf given None = (first_of (codes "file") given ≡ None) ⊎ (first_of (codes "file") given ≡ Some (codes "-"))
IsFileOf given (Some name) = (first_of (codes "file") given ≡ Some name.now) × (name.now ≢ codes "-")

-- an endpoint has what its own options say
abbrev pub IsEndpointOf : List Entry → Endpoint → Type 0
IsEndpointOf given (Local listen count links names) =
    IsAddressOf given (codes "listen") listen × IsNumberOf given (codes "count") count × IsNumberOrLeast given (codes "links") links
    × ReadsFlag given (codes "proxy-protocol") names
IsEndpointOf given (Remote target workers peers) =
    IsAddressOf given (codes "target") target × IsNumberOrLeast given (codes "workers") workers × IsNumberOf given (codes "peers") peers

-- a session is what the options say
abbrev pub IsSessionOf : List Entry → SessionOptions → Type 0
IsSessionOf given session =
    IsNumberOrLeast given (codes "window") session.window × IsNumberOf given (codes "ping") session.ping
    × IsNumberOrLeast given (codes "keepalive") session.keepalive × IsNumberOf given (codes "idle") session.idle

-- a plan is what the options say
abbrev pub IsPlanOf : List Entry → Plan → Type 0
IsPlanOf given plan =
    IsEndpointOf given plan.endpoint × IsPeerOf given plan.peer × IsSessionOf given plan.session × ReadsFlag given (codes "keep") plan.keeps
    × IsNumberOf given (codes "timeout") plan.timeout × AreNetworksOf given plan.from × IsStatusOf given plan.status
    × ReadsFlag given (codes "verbose") plan.is_verbose × ReadsFlag given (codes "times") plan.has_times

-- the subcommand of an endpoint
abbrev pub name_of : Endpoint → Text
name_of (Local listen count links names) = codes "local"
name_of (Remote target workers peers) = codes "remote"

-- ---- what words ask for

-- the task is what the subcommand of this name asks for, with what its options say
abbrev pub IsTaskFor : Text → List Entry → Task → Type 0
IsTaskFor name given (Frames limit file) = (name ≡ codes "frames") × IsNumberOrLeast given (codes "limit") limit × IsFileOf given file
IsTaskFor name given (Script file) = (name ≡ codes "script") × IsFileOf given file
IsTaskFor name given (Tunnel plan) = (name ≡ name_of plan.endpoint) × IsPlanOf given plan
IsTaskFor name given Selftest = (name ≢ codes "frames") × (name ≢ codes "script") × (name ≢ codes "local") × (name ≢ codes "remote")

-- the task is what the subcommand that was met asks for
abbrev pub IsTaskOf : Option (Text × List Entry) → Task → Type 0
IsTaskOf met task = MatchOption met (task ≡ Selftest) (λ p. IsTaskFor p.0 p.1 task)

-- ---- what is wrong with words

-- this is wrong with options of which these were given
abbrev pub IsWrong : List Entry → BadOption → Type 0
IsWrong given (bad.Number name text) = (first_of name.now given ≡ Some text.now) × (IsNumberIn (row_of name.now).least (row_of name.now).most text.now → ⊥)
IsWrong given (bad.Address name text) = (text.now ≡ unwrap_or (first_of name.now given) []) × ((address : SocketAddrV4) → IsAddressOf given name.now address → ⊥)
IsWrong given (bad.Clash name other) = HasClash given name.now
IsWrong given bad.NoPeer = (first_of (codes "peer") given ≡ None) × (first_of (codes "bind") given ≡ None)
IsWrong given (bad.Network text) = IsIn (from_texts given) text.now × IsNoNetwork text.now
IsWrong given bad.ManyNetworks = 8 < length (from_texts given)
IsWrong given (bad.FarStatus text) =
    (first_of (codes "status") given ≡ Some text.now) × (one_of (codes "status-anywhere") given ≢ Some (codes "true"))
    × ((address : SocketAddrV4) → IsSocketV4Text text.now address → IsNear address → ⊥)
IsWrong given bad.NoStatus = (first_of (codes "status") given ≡ None) × (IsNotSaid (one_of (codes "status-anywhere") given) → ⊥)

-- this is wrong with the subcommand of this name: only an endpoint of a tunnel must say how it meets its peer
abbrev pub IsMistakeFor : Text → List Entry → BadOption → Type 0
IsMistakeFor name given mistake = IsWrong given mistake × (mistake ≡ bad.NoPeer → (name ≡ codes "local") ⊎ (name ≡ codes "remote"))

-- this is wrong with the subcommand that was met
abbrev pub IsMistakeOf : Option (Text × List Entry) → BadOption → Type 0
IsMistakeOf met mistake = IsSomeAnd met (λ p. IsMistakeFor p.0 p.1 mistake)

-- clap has something of this kind to say
abbrev pub IsClap : ErrorKind → CommandFault → Type 0
IsClap kind (Clap error) = kind_of error ≡ kind
IsClap kind (BadAddress option text) = ⊥

-- there was no memory to read the words
abbrev pub LacksMemory : CommandFault → Type 0
LacksMemory = IsClap OutOfMemory

-- which of clap's mistakes this is
abbrev pub kind_for : BadOption → ErrorKind
kind_for (bad.Clash name other) = ArgumentConflict
kind_for bad.NoPeer = MissingRequiredArgument
kind_for bad.NoStatus = MissingRequiredArgument
kind_for bad.ManyNetworks = TooManyValues
kind_for _ = ValueValidation

-- this is said of what is wrong
abbrev pub IsFaultFor : BadOption → CommandFault → Type 0
IsFaultFor (bad.Address name text) (BadAddress option said) = (option.now ≡ name.now) × (said.now ≡ text.now)
IsFaultFor (bad.Address name text) (Clap error) = ⊥
IsFaultFor mistake fault = IsClap (kind_for mistake) fault

-- clap doesn't take the words, for this reason, as they ask for the help or the version, or have a mistake
abbrev pub IsFoundAt : List Text → CommandFault → Type 0
IsFoundAt words (Clap error) = (takes ymx_app words ≢ true) × IsAmong (kind_of error) (fault_of ymx_app words)
IsFoundAt words (BadAddress option text) = ⊥

-- The fault is one that clap finds at the words, or says what is wrong with their options, or there was no memory.
abbrev pub IsFaultOf : List Text → CommandFault → Type 0
IsFaultOf words fault =
    IsFoundAt words fault ⊎ (LacksMemory fault ⊎ ((mistake : BadOption) × IsMistakeOf (subcommand_of ymx_app words) mistake × IsFaultFor mistake fault))

-- the words ask for neither the help nor the version, but have a mistake
abbrev pub IsMistake : ErrorKind → Type 0
IsMistake kind = (kind ≢ DisplayHelp) × (kind ≢ DisplayVersion)

abbrev pub SaysMistake : CommandFault → Type 0
SaysMistake (Clap error) = IsMistake (kind_of error)
SaysMistake (BadAddress option text) = ⊤
