use Rattle.std.proofs.Common.{◌≡◌, ◌≤◌, ◌^◌, take, fold}
use Rattle.mx_source.specs.Numbers.{hexadecimal_step}
use Rattle.mx_source.proofs.number.hexadecimal_value.Given as goal

abbrev pub invariant-digits : goal.invariant-digits
invariant-digits l = (l.value ≡ fold hexadecimal_step 0 (take l.digit-index l.digits)) × (l.value ≤ 2 ^ 33)
