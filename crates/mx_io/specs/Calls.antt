-- The calls of an object, counted from 1, and those among them that are to fail.
use Rattle.std.specs.Prelude.{ℕ, ◌+◌, Bool, ◌&&◌, List, [], ◌∷◌, ◌++◌, length, nat_eq, nat_lt, nat_le, if◌then◌else◌}
use Rattle.std.specs.List.{list_any, list_all}
use Rattle.mx_io.specs.Count.{count_end, raised}

-- how many calls with a number were made, and the numbers of the calls that fail
pub record CallLog : Type 0 where
  pub made : ℕ
  pub listed : List ℕ

-- the next call fails: its number is listed, and it has one
abbrev pub fails_next : CallLog → Bool
fails_next log = nat_lt log.made count_end && list_any (λ n. nat_eq n (log.made + 1)) log.listed

-- after one more call
abbrev pub after_call : CallLog → CallLog
after_call log = record { made = raised log.made; listed = log.listed }

-- no call that is still to come fails
abbrev pub is_quiet : CallLog → Bool
is_quiet log = list_all (λ n. nat_le n log.made) log.listed

-- no call was made, and none is listed
abbrev pub fresh_log : CallLog
fresh_log = record { made = 0; listed = [] }

-- with one more number listed: one that is listed already, or a ninth, changes nothing
abbrev pub with_listed : CallLog → ℕ → CallLog
with_listed log n =
    if list_any (λ m. nat_eq m n) log.listed then log
    else if nat_lt (length log.listed) 8
    then record { made = log.made; listed = log.listed ++ n ∷ [] }
    else log
