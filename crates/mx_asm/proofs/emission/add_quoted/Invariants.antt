use Rattle.std.proofs.Common.{drop, unwrap_or, [], false, IsSome}
use Rattle.mx_source.specs.Operands.{quoted_bytes}
use Rattle.mx_asm.proofs.ProgramLaws.{IsLeft}
use Rattle.mx_asm.proofs.emission.add_quoted.Given as goal

abbrev pub invariant-characters : goal.invariant-characters
invariant-characters l =
    let left = quoted_bytes l.escape (drop l.c-index l.text) in
    IsSome left × IsLeft l.initial.program (unwrap_or (quoted_bytes false l.text) []) l.program (unwrap_or left [])
