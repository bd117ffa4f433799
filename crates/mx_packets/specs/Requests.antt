-- What a packet asks. The rules: gdb's manual, "Remote Protocol", "Packets" and "General Query Packets".
use Rattle.std.specs.Prelude.{ℕ, ◌+◌, ◌-◌, ◌*◌, ◌^◌, Bool, ◌==◌, ◌&&◌, ◌||◌, nat_le, nat_lt, List, [], ◌∷◌, take, drop, length, codes}
use Rattle.std.specs.Prelude.{Option, Some, None, if◌then◌else◌}
use Rattle.std.specs.List.{starts_with}
use Rattle.std.specs.Bool.{nat_eq}
use Rattle.mx_packets.specs.declared.request.Object.{Object}
use Rattle.mx_packets.specs.declared.request.Object.TheVariants as O
use Rattle.mx_packets.specs.declared.request.Point.{Point}
use Rattle.mx_packets.specs.declared.request.Point.TheVariants as P
use Rattle.mx_packets.specs.declared.request.Request.{Request}
use Rattle.mx_packets.specs.declared.request.Request.TheVariants as R
use Rattle.mx_packets.specs.declared.request.Thread.{Thread}
use Rattle.mx_packets.specs.declared.request.Thread.TheVariants as T
use Rattle.mx_packets.specs.Packets.{digit_of}

-- whether a text begins with a word
abbrev pub begins_with : List ℕ → List ℕ → Bool
begins_with text word = starts_with nat_eq text word

-- a number below 2^32 in hexadecimal digits, at least one
abbrev pub value_from : ℕ → List ℕ → Option ℕ
value_from n [] = Some n
value_from n (c ∷ more) = elim (digit_of c) [
  | None ↦ None
  | Some d ↦ if nat_lt n (2 ^ 28) then value_from (16 * n + d) more else None
]

abbrev pub number_of : List ℕ → Option ℕ
number_of [] = None
number_of (c ∷ more) = value_from 0 (c ∷ more)

-- the place of the first mark, and what stands before and behind it
abbrev pub place_in : ℕ → List ℕ → ℕ
place_in mark [] = 0
place_in mark (b ∷ more) = if b == mark then 0 else 1 + place_in mark more

abbrev pub before : ℕ → List ℕ → List ℕ
before mark text = take (place_in mark text) text

abbrev pub behind : ℕ → List ℕ → List ℕ
behind mark text = drop (place_in mark text + 1) text

-- two numbers with a comma between them
abbrev pub both : Option ℕ → Option ℕ → Option (ℕ × ℕ)
both None second = None
both (Some a) None = None
both (Some a) (Some b) = Some (a, b)

abbrev pub pair_of : List ℕ → Option (ℕ × ℕ)
pair_of text = both (number_of (before 44 text)) (number_of (behind 44 text))

-- the hart of a thread's name, `p1.1` or `1`: its number and one; 0, -1 and nothing are for any
abbrev pub thread_number : Option ℕ → Thread
thread_number None = T.Wrong
thread_number (Some n) = if n == 0 then T.Any else T.Hart (n - 1)

abbrev pub thread_by : List ℕ → Thread
thread_by text =
    if (length text == 0) || begins_with text (codes "-1") then T.Any else thread_number (number_of text)

abbrev pub thread_of : List ℕ → Thread
thread_of name = if begins_with name (codes "p") then thread_by (behind 46 name) else thread_by name

-- a letter with nothing behind it
abbrev pub alone : List ℕ → Request → Request
alone [] request = request
alone (b ∷ more) request = R.Unknown

-- `H`: `g` or `c`, and a thread
abbrev pub choice_by : ℕ → List ℕ → Request
choice_by letter name =
    if letter == 103 then R.Show (thread_of name)
    else if letter == 99 then R.Follow (thread_of name)
    else R.Unknown

abbrev pub choice_of : List ℕ → Request
choice_of [] = R.Unknown
choice_of (letter ∷ name) = choice_by letter name

-- `p`: a register's number
abbrev pub register_of : List ℕ → Request
register_of rest = elim (number_of rest) [
  | None ↦ R.Wrong
  | Some n ↦ R.Register n
]

-- `m`: an address and a count
abbrev pub memory_of : List ℕ → Request
memory_of rest = elim (pair_of rest) [
  | None ↦ R.Wrong
  | Some p ↦ R.Memory p.0 p.1
]

-- `Z` and `z`: 0 or 1, an address, and a length that doesn't matter
abbrev pub point_of : List ℕ → Point
point_of rest =
    if begins_with rest (codes "0,") || begins_with rest (codes "1,") then
    (elim (pair_of (drop 2 rest)) [
      | None ↦ P.Wrong
      | Some p ↦ P.At p.0
    ])
    else P.Other

abbrev pub set_at : Point → Request
set_at (P.At address) = R.Set address
set_at P.Wrong = R.Wrong
set_at P.Other = R.Unknown

abbrev pub clear_at : Point → Request
clear_at (P.At address) = R.Clear address
clear_at P.Wrong = R.Wrong
clear_at P.Other = R.Unknown

abbrev pub set_of : List ℕ → Request
set_of rest = set_at (point_of rest)

abbrev pub clear_of : List ℕ → Request
clear_of rest = clear_at (point_of rest)

-- `vCont;`: the first action is done
abbrev pub range_of : List ℕ → Request
range_of rest = elim (pair_of (before 58 rest)) [
  | None ↦ R.Wrong
  | Some p ↦ R.Range (thread_of (behind 58 rest)) p.0 p.1
]

abbrev pub by_action : ℕ → List ℕ → Request
by_action letter rest =
    if (letter == 99) || (letter == 67) then R.Go
    else if (letter == 115) || (letter == 83) then R.Step (thread_of (behind 58 rest))
    else if letter == 114 then range_of rest
    else R.Wrong

abbrev pub action_in : List ℕ → Request
action_in [] = R.Wrong
action_in (letter ∷ rest) = by_action letter rest

abbrev pub action_of : List ℕ → Request
action_of text = action_in (before 59 text)

-- `vRun;`: the name of a file, which doesn't matter, `;`, and one argument: the decimal digits of a number below 10^19, each of them
-- as the pair of hexadecimal digits of its byte, `30` to `39`
abbrev pub decimal_digit : ℕ → ℕ → Option ℕ
decimal_digit a b = if (a == 51) && (nat_le 48 b && nat_le b 57) then Some (b - 48) else None

abbrev pub turns_from : ℕ → List ℕ → Option ℕ
turns_from n [] = Some n
turns_from n (a ∷ []) = None
turns_from n (a ∷ b ∷ more) = elim (decimal_digit a b) [
  | None ↦ None
  | Some d ↦ if nat_lt n (10 ^ 18) then turns_from (10 * n + d) more else None
]

abbrev pub turns_of : List ℕ → Option ℕ
turns_of [] = None
turns_of (c ∷ more) = turns_from 0 (c ∷ more)

abbrev pub run_of : List ℕ → Request
run_of rest = elim (turns_of (behind 59 rest)) [
  | None ↦ R.Wrong
  | Some n ↦ R.After n
]

abbrev pub by_verbose : List ℕ → Request
by_verbose rest =
    if begins_with rest (codes "Cont?") then R.Ways
    else if begins_with rest (codes "Cont;") then action_of (drop 5 rest)
    else if begins_with rest (codes "Run;") then run_of (drop 4 rest)
    else if begins_with rest (codes "Kill") then R.End
    else R.Unknown

-- `qXfer:`: an object, its annex, a place and a count
abbrev pub part_of : Object → List ℕ → Request
part_of object rest = elim (pair_of rest) [
  | None ↦ R.Wrong
  | Some p ↦ R.Part object p.0 p.1
]

abbrev pub feature_of : List ℕ → Request
feature_of rest = if begins_with rest (codes "target.xml:") then part_of O.Target (drop 11 rest) else R.Unknown

-- the file of a process: 1, or none is named
abbrev pub file_of : List ℕ → Request
file_of rest =
    if begins_with rest (codes ":") then part_of O.File (drop 1 rest)
    else if begins_with rest (codes "1:") then part_of O.File (drop 2 rest)
    else R.Wrong

-- an object without an annex
abbrev pub whole_of : Object → List ℕ → Request
whole_of object rest = if begins_with rest (codes ":") then part_of object (drop 1 rest) else R.Unknown

abbrev pub object_of : List ℕ → Request
object_of rest =
    if begins_with rest (codes "features:read:") then feature_of (drop 14 rest)
    else if begins_with rest (codes "threads:read:") then whole_of O.Threads (drop 13 rest)
    else if begins_with rest (codes "exec-file:read:") then file_of (drop 15 rest)
    else if begins_with rest (codes "libraries:read:") then whole_of O.Libraries (drop 15 rest)
    else if begins_with rest (codes "memory-map:read:") then whole_of O.Memory (drop 16 rest)
    else R.Unknown

-- `qThreadExtraInfo,`: a thread
abbrev pub about_of : List ℕ → Request
about_of rest = if begins_with rest (codes "ThreadExtraInfo,") then R.About (thread_of (drop 16 rest)) else R.Unknown

abbrev pub by_query : List ℕ → Request
by_query rest =
    if begins_with rest (codes "Supported") then R.Supported
    else if begins_with rest (codes "Attached") then R.Attached
    else if begins_with rest (codes "fThreadInfo") then R.Threads
    else if begins_with rest (codes "sThreadInfo") then R.MoreThreads
    else if begins_with rest (codes "Xfer:") then object_of (drop 5 rest)
    else if begins_with rest (codes "C") then alone (drop 1 rest) R.Current
    else about_of rest

abbrev pub by_setting : List ℕ → Request
by_setting rest = if begins_with rest (codes "StartNoAckMode") then R.NoAcks else R.Unknown

-- `b`: backward, by a step or to where the run stops
abbrev pub back_by : ℕ → List ℕ → Request
back_by letter rest =
    if letter == 115 then alone rest R.StepBack
    else if letter == 99 then alone rest R.GoBack
    else R.Unknown

abbrev pub back_of : List ℕ → Request
back_of [] = R.Unknown
back_of (letter ∷ rest) = back_by letter rest

abbrev pub by_letter : ℕ → List ℕ → Request
by_letter letter rest =
    if letter == 63 then alone rest R.Why
    else if letter == 33 then alone rest R.Extend
    else if letter == 103 then alone rest R.Registers
    else if letter == 99 then alone rest R.Go
    else if letter == 115 then alone rest (R.Step T.Any)
    else if letter == 107 then alone rest R.Kill
    else if letter == 67 then R.Go
    else if letter == 83 then R.Step T.Any
    else if letter == 98 then back_of rest
    else if letter == 68 then R.Leave
    else if (letter == 71) || ((letter == 80) || ((letter == 77) || (letter == 88))) then R.Change
    else if letter == 72 then choice_of rest
    else if letter == 84 then R.IsThere (thread_of rest)
    else if letter == 112 then register_of rest
    else if letter == 109 then memory_of rest
    else if letter == 90 then set_of rest
    else if letter == 122 then clear_of rest
    else if letter == 118 then by_verbose rest
    else if letter == 113 then by_query rest
    else if letter == 81 then by_setting rest
    else R.Unknown

abbrev pub request_of : List ℕ → Request
request_of [] = R.Unknown
request_of (letter ∷ rest) = by_letter letter rest
