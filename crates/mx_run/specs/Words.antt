-- The meaning of the words of a command line (docs/COMMANDS.md, "The command line").
use Rattle.std.specs.Prelude.{ℕ, Bool, true, false, ◌&&◌, nat_le, nat_lt, not, ◌==◌, if◌then◌else◌, List, [], ◌∷◌, length, codes}
use Rattle.std.specs.Prelude.{slice_index, fold, Option, Some, None, is_none, option_map, unwrap_or}
use Rattle.std.specs.Char.{is_ascii_digit}
use Rattle.std.specs.List.{list_all}
use Rattle.std.specs.Str.{bytes_eq}
use Rattle.std.specs.Str.Parse.{digits_value}
use Rattle.mx_words.specs.Limits.{most_name}
use Rattle.mx_turns.specs.declared.task.Dump.TheVariants as D
use Rattle.mx_commands.specs.declared.order.Shown.{Shown}
use Rattle.mx_commands.specs.declared.order.Way.{Way}
use Rattle.mx_commands.specs.declared.order.Way.TheVariants as way
use Rattle.mx_commands.specs.Order.{Order, Pair, nothing, plain_order}

-- what the words ask: a run of some way, to assemble a source by its name, to audit a manifest by its name, to compare a domain of two
-- machines, or to run the mill of a number
pub data Request : Type 0 where
  Go : Order → Request
  Asm : List ℕ → Request
  Audit : List ℕ → Request
  Twin : Pair → Request
  Mill : ℕ → Request

-- a name has 1 to 255 bytes and doesn't begin with `-`
abbrev pub is_name : List ℕ → Bool
is_name word = nat_lt 0 (length word) && nat_le (length word) most_name && not (slice_index word 0 == 45)

-- a number has 1 to 10 decimal digits; leading zeros are allowed
abbrev pub is_number : List ℕ → Bool
is_number word = nat_lt 0 (length word) && nat_le (length word) 10 && list_all is_ascii_digit word

-- what options make of a run: its schedule and what is shown of it; they lack the word that `--schedule` or `--from` asks for; or they
-- have no meaning
pub data Parsed : Type 0 where
  Stands : Option (List ℕ) → Shown → Parsed
  LacksSchedule : Shown → Parsed
  LacksFrom : Option (List ℕ) → Shown → Parsed
  Meaningless : Parsed

-- who asks for options is a way, or with none the debugger: whether it has a report, the counts in it, lines of turns
abbrev pub reports : Option Way → Bool
reports (Some way.Run) = true
reports (Some way.Resume) = true
reports _ = false

abbrev pub counts : Option Way → Bool
counts (Some way.Run) = true
counts _ = false

abbrev pub traces : Option Way → Bool
traces (Some way.Trace) = true
traces _ = false

-- an option: its word, whether it may stand behind those before it, and what it makes of them
pub record Row : Type 0 where
  pub word : List ℕ
  pub may : Bool
  pub gives : Parsed

abbrev pub row : List ℕ → Bool → Parsed → Row
row word may gives = record { word = word; may = may; gives = gives }

-- the options: who has them, and that they stand at most once
abbrev pub rows : Option Way → Option (List ℕ) → Shown → List Row
rows asker schedule o =
    row (codes "--schedule") (is_none schedule) (LacksSchedule o)
    ∷ row (codes "--from") (traces asker && is_none o.from) (LacksFrom schedule o)
    ∷ row (codes "--effects") (traces asker && not o.effects) (Stands schedule (record o { effects = true }))
    ∷ row (codes "--dump") (reports asker && is_none o.dump) (Stands schedule (record o { dump = Some D.Ram }))
    ∷ row (codes "--save") (reports asker && is_none o.dump) (Stands schedule (record o { dump = Some D.Snapshot }))
    ∷ row (codes "--tables") (reports asker && not o.tables) (Stands schedule (record o { tables = true }))
    ∷ row (codes "--counts") (counts asker && not o.counts) (Stands schedule (record o { counts = true }))
    ∷ []

abbrev pub where_may : Bool → Parsed → Parsed
where_may may parsed = if may then parsed else Meaningless

-- what the row of a word gives
abbrev pub given_by : List Row → List ℕ → Parsed
given_by [] word = Meaningless
given_by (row ∷ more) word =
    if bytes_eq word row.word then where_may row.may row.gives else given_by more word

-- one word more: an option's, or that which an option asks for
abbrev pub with_word : Option Way → Parsed → List ℕ → Parsed
with_word asker (Stands schedule o) word = given_by (rows asker schedule o) word
with_word asker (LacksSchedule o) word = where_may (is_name word) (Stands (Some word) o)
with_word asker (LacksFrom schedule o) word =
    where_may (is_number word) (Stands schedule (record o { from = Some (digits_value 10 word) }))
with_word asker Meaningless word = Meaningless

abbrev pub with_parsed : Order → Parsed → Option Order
with_parsed o (Stands schedule shown) = Some (record o { schedule = schedule; shown = shown })
with_parsed o _ = None

-- a run: a file's name, a number of steps, and the asker's options in any order
abbrev pub order_in : Option Way → List (List ℕ) → Option Order
order_in asker [] = None
order_in asker (file ∷ []) = None
order_in asker (file ∷ steps ∷ options) =
    if is_name file && is_number steps
    then with_parsed (plain_order (unwrap_or asker way.Run) file (digits_value 10 steps))
    (fold (with_word asker) (Stands None nothing) options)
    else None

abbrev pub go_request : Way → List (List ℕ) → Option Request
go_request way operands = option_map Go (order_in (Some way) operands)

-- a file's name and nothing else
abbrev pub only_name : List (List ℕ) → Option (List ℕ)
only_name [] = None
only_name (name ∷ []) = if is_name name then Some name else None
only_name (name ∷ more ∷ rest) = None

-- `twin`: two manifests' names, a domain, and a number of steps
abbrev pub pair_of : List (List ℕ) → Option Pair
pair_of [] = None
pair_of (first ∷ []) = None
pair_of (first ∷ second ∷ []) = None
pair_of (first ∷ second ∷ domain ∷ []) = None
pair_of (first ∷ second ∷ domain ∷ steps ∷ []) =
    if is_name first && is_name second && is_number domain && is_number steps
    then Some (record {
      first = first;
      second = second;
      domain = digits_value 10 domain;
      steps = digits_value 10 steps;
    })
    else None
pair_of (first ∷ second ∷ domain ∷ steps ∷ more ∷ rest) = None

-- `mill`: a number, at most 2^31 - 1
abbrev pub mill_number : List (List ℕ) → Option ℕ
mill_number [] = None
mill_number (word ∷ []) =
    if is_number word && nat_le (digits_value 10 word) 2147483647
    then Some (digits_value 10 word) else None
mill_number (word ∷ more ∷ rest) = None

-- what the words ask, or nothing where they have no meaning
abbrev pub meaning : List (List ℕ) → Option Request
meaning [] = None
meaning (command ∷ operands) =
    if bytes_eq command (codes "run") then go_request way.Run operands
    else if bytes_eq command (codes "resume") then go_request way.Resume operands
    else if bytes_eq command (codes "trace") then go_request way.Trace operands
    else if bytes_eq command (codes "asm") then option_map Asm (only_name operands)
    else if bytes_eq command (codes "audit") then option_map Audit (only_name operands)
    else if bytes_eq command (codes "twin") then option_map Twin (pair_of operands)
    else if bytes_eq command (codes "mill") then option_map Mill (mill_number operands)
    else None

-- what the words ask of the debugger: a run that it looks at, with no option but a schedule
abbrev pub debug_meaning : List (List ℕ) → Option Order
debug_meaning [] = None
debug_meaning (command ∷ operands) =
    if bytes_eq command (codes "debug") then order_in None operands else None
