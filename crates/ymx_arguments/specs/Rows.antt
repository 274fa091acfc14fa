-- The options of the program, a row each (this project's own).
use Rattle.std.specs.Prelude.{◌||◌, ℕ, List, [], ◌∷◌, Bool, Option, Some, None, true, false, if◌then◌else◌, map, codes, length, option_map}
use Rattle.std.specs.Str.{bytes_eq}
use Rattle.clap.specs.Words.{Text}
use Rattle.ymx_arguments.specs.declared.rows.Kind.{Kind}
use Rattle.ymx_arguments.specs.declared.rows.Kind.TheVariants as kind
use Rattle.ymx_arguments.specs.declared.rows.Owner.{Owner}
use Rattle.ymx_arguments.specs.declared.rows.Owner.TheVariants as owner
use Rattle.ymx_arguments.specs.declared.rows.Row.{Row}

-- an option: its name, older names, and a letter that stand for it, which subcommands have it, what it takes and how many values, the
-- numbers that it takes, or the least port of its address, its default, whether it must be given, and which option it can't be given with
pub record OptionRow : Type 0 where
  pub name : Text
  pub old_names : List Text
  pub letter : Option ℕ
  pub owner : Owner
  pub kind : Kind
  pub values : ℕ
  pub least : ℕ
  pub most : ℕ
  pub default : List Text
  pub is_needed : Bool
  pub apart : Option Text

-- what flags, addresses, numbers, those of seconds and those of bytes have in common
abbrev pub flag : OptionRow
flag = record {
  name = [];
  old_names = [];
  letter = None;
  owner = owner.Ends;
  kind = kind.Flag;
  values = 0;
  least = 0;
  most = 0;
  default = [];
  is_needed = false;
  apart = None;
}

abbrev pub address : OptionRow
address = record flag { kind = kind.Text; values = 1 }

abbrev pub number : (least most : ℕ) → OptionRow
number least most = record flag { kind = kind.Text; values = 1; least = least; most = most }

abbrev pub seconds : OptionRow
seconds = number 1 3600

abbrev pub bytes : OptionRow
bytes = record (number 262144 16777216) { default = codes "262144" ∷ [] }

-- the options
unfoldable pub rows : List OptionRow
rows =
    (record bytes { name = codes "limit"; owner = owner.Frames })
    ∷ (record flag { name = codes "file"; owner = owner.Tools; kind = kind.Word; values = 1 })
    ∷ (record address { name = codes "listen"; owner = owner.Local; is_needed = true })
    ∷ (record address { name = codes "peer"; owner = owner.Local; apart = Some (codes "bind") })
    ∷ (record address { name = codes "bind"; old_names = codes "await" ∷ []; owner = owner.Local })
    ∷ (record address { name = codes "bind"; owner = owner.Remote })
    ∷ (record address { name = codes "peer"; old_names = codes "call" ∷ []; owner = owner.Remote; apart = Some (codes "bind") })
    ∷ (record address { name = codes "target"; owner = owner.Remote; is_needed = true; least = 1 })
    ∷ (record flag { name = codes "keep"; owner = owner.Local })
    ∷ (record flag { name = codes "keep"; owner = owner.Remote })
    ∷ (record (number 1 64) { name = codes "links"; owner = owner.Local; apart = Some (codes "bind") })
    ∷ (record (number 1 256) { name = codes "peers"; owner = owner.Remote; apart = Some (codes "peer") })
    ∷ (record seconds { name = codes "ping" })
    ∷ (record (number 0 3600) { name = codes "keepalive"; default = codes "60" ∷ [] })
    ∷ (record (number 1 86400) { name = codes "idle" })
    ∷ (record seconds { name = codes "timeout"; apart = Some (codes "bind") })
    ∷ (record flag { name = codes "proxy-protocol"; owner = owner.Local })
    ∷ (record (number 0 4294967295) { name = codes "count"; owner = owner.Local })
    ∷ (record address { name = codes "from"; kind = kind.Texts; apart = Some (codes "peer") })
    ∷ (record address { name = codes "status" })
    ∷ (record flag { name = codes "status-anywhere" })
    ∷ (record flag { name = codes "times" })
    ∷ (record bytes { name = codes "window" })
    ∷ (record (number 1 1024) { name = codes "workers"; owner = owner.Remote; default = codes "1024" ∷ [] })
    ∷ (record flag { name = codes "verbose"; letter = Some 118 })
    ∷ []

-- what a row of the code says, but for the help
abbrev pub stated : Row → OptionRow
stated row = record {
  name = row.name.now;
  old_names = map (λ name. name.now) row.old_names.now;
  letter = row.letter;
  owner = row.owner;
  kind = row.kind;
  values = length row.value.now;
  least = row.least;
  most = row.most;
  default = map (λ text. text.now) row.default.now;
  is_needed = row.is_needed;
  apart = option_map (λ other. other.now) row.apart;
}

-- the option is one of the subcommand of this name
abbrev pub is_of : Owner → Text → Bool
is_of owner.Frames name = bytes_eq name (codes "frames")
is_of owner.Tools name = bytes_eq name (codes "frames") || bytes_eq name (codes "script")
is_of owner.Local name = bytes_eq name (codes "local")
is_of owner.Remote name = bytes_eq name (codes "remote")
is_of owner.Ends name = bytes_eq name (codes "local") || bytes_eq name (codes "remote")

-- the row of the option of this name: the first
abbrev pub row_in : Text → List OptionRow → OptionRow
row_in name [] = flag
row_in name (row ∷ rows) = if bytes_eq row.name name then row else row_in name rows

abbrev pub row_of : Text → OptionRow
row_of name = row_in name rows
