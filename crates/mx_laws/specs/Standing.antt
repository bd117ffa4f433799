-- The instruction at which a hart stands.
-- The rules: docs/MACHINE.md, "One turn".
use Rattle.std.specs.Prelude.{ℕ, ◌||◌, if◌then◌else◌, Option, None}
use Rattle.mx_words.specs.declared.perm.Access.TheVariants as A
use Rattle.mx_isa.specs.declared.inst.Inst.{Inst}
use Rattle.mx_isa.specs.Table.{decoded}
use Rattle.mx_model.specs.Checks.{is_halted}
use Rattle.mx_model.specs.Reads.{Reads}
use Rattle.mx_model.specs.State.{Core, hart_at}
use Rattle.mx_model.specs.Turn.{is_denied, load_at}

-- the instruction at hart h's pc, where h isn't halted, its domain may fetch there and the word is one
abbrev pub standing_inst : Reads → Core → ℕ → Option Inst
standing_inst r c h =
    let hart = hart_at c h in
    if is_halted hart.status || is_denied r c hart.domain hart.pc A.Execute then None
    else decoded (load_at c hart.pc 4)
