-- The codes by which calls are refused.
-- The rules: docs/MACHINE.md, "Supervisor calls".
use Rattle.std.specs.Prelude.{ℕ, Bool, false, not, ◌&&◌, nat_le, None}
use Rattle.mx_model.specs.Serve.{code}
use Rattle.mx_supervisor.specs.declared.answer.Answer.{Answer}
use Rattle.mx_supervisor.specs.declared.answer.Refusal.{Refusal}
use Rattle.mx_supervisor.specs.declared.answer.Refusal.TheVariants as R

-- the number of a refusal's row
abbrev pub number : Refusal → ℕ
number R.BadRange = 1
number R.NotOwner = 2
number R.BadDomain = 3
number R.BadPerm = 4
number R.TablesFull = 5
number R.NoRoom = 6
number R.BlocksFull = 7
number R.NotABlock = 8
number R.GatesFull = 9
number R.Nested = 10
number R.TooLong = 11
number R.Denied = 12
number R.BadCall = 13
number R.OwnersFull = 14
number R.NoGate = 15

-- an answer of one number, and the answer with a code
abbrev pub plain : ℕ → Answer
plain a0 = record { a0 = a0; a1 = None; stop = false }

abbrev pub refusal : ℕ → Answer
refusal n = plain (code n)

-- whether an answer is one of the fifteen refusals
abbrev pub is_refusal : Answer → Bool
is_refusal answer = not answer.stop && nat_le (code 15) answer.a0
