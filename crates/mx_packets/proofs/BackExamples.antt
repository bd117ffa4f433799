-- Worked examples of packets that ask to go back, for a number of turns, or that the target be ended, computed.
use Rattle.std.specs.Prelude.{◌≡◌, codes, refl}
use Rattle.mx_packets.specs.declared.request.Request.TheVariants as R
use Rattle.mx_packets.specs.Requests.{request_of}

step_back : request_of (codes "bs") ≡ R.StepBack
step_back = refl

go_back : request_of (codes "bc") ≡ R.GoBack
go_back = refl

-- nothing stands behind the two letters, and there are no others
step_behind : request_of (codes "bs1") ≡ R.Unknown
step_behind = refl

go_behind : request_of (codes "bcp1.1") ≡ R.Unknown
go_behind = refl

back_alone : request_of (codes "b") ≡ R.Unknown
back_alone = refl

back_other : request_of (codes "b0") ≡ R.Unknown
back_other = refl

-- 5379, with no file and with the file `a.elf`
turns : request_of (codes "vRun;;35333739") ≡ R.After 5379
turns = refl

turns_of_file : request_of (codes "vRun;612e656c66;35333739") ≡ R.After 5379
turns_of_file = refl

-- no turn, and one with zeros before it
no_turn : request_of (codes "vRun;;30") ≡ R.After 0
no_turn = refl

zeros_before : request_of (codes "vRun;;303031") ≡ R.After 1
zeros_before = refl

-- nineteen digits are a number, and twenty are none
nineteen : request_of (codes "vRun;;39393939393939393939393939393939393939") ≡ R.After 9999999999999999999
nineteen = refl

twenty : request_of (codes "vRun;;3130303030303030303030303030303030303030") ≡ R.Wrong
twenty = refl

-- no argument, an empty one, and two
no_argument : request_of (codes "vRun;") ≡ R.Wrong
no_argument = refl

file_alone : request_of (codes "vRun;612e656c66") ≡ R.Wrong
file_alone = refl

empty_argument : request_of (codes "vRun;;") ≡ R.Wrong
empty_argument = refl

two_arguments : request_of (codes "vRun;;35;36") ≡ R.Wrong
two_arguments = refl

-- digits that aren't coded, half a digit, and bytes beside `0` to `9`
plain_digits : request_of (codes "vRun;;5379") ≡ R.Wrong
plain_digits = refl

half_digit : request_of (codes "vRun;;353") ≡ R.Wrong
half_digit = refl

slash : request_of (codes "vRun;;3/") ≡ R.Wrong
slash = refl

colon : request_of (codes "vRun;;3:") ≡ R.Wrong
colon = refl

minus : request_of (codes "vRun;;2d31") ≡ R.Wrong
minus = refl

letter : request_of (codes "vRun;;61") ≡ R.Wrong
letter = refl

-- another word
no_mark : request_of (codes "vRun") ≡ R.Unknown
no_mark = refl

ends : request_of (codes "vKill;1") ≡ R.End
ends = refl
