-- Worked examples of the instruction at which a hart stands, in the states of the examples of agreement.
use Rattle.std.proofs.Common.{◌≡◌, ◌+◌, [], ◌∷◌, true, replicate, refl}
use Rattle.std.specs.Prelude.{Option, Some, None}
use Rattle.std.specs.Prelude.{map as list_map}
use Rattle.mx_words.specs.Bytes.{number_at}
use Rattle.mx_words.specs.Ranges.{ram_base}
use Rattle.mx_isa.specs.declared.inst.Inst.{Inst}
use Rattle.mx_isa.specs.declared.inst.Inst.TheVariants.{OpImm}
use Rattle.mx_isa.specs.declared.inst.ImmOp.TheVariants.{Addi}
use Rattle.mx_isa.specs.Fields.{imm_i, extended}
use Rattle.mx_isa.specs.Table.{decoded}
use Rattle.mx_model.specs.Reads.{reads}
use Rattle.mx_model.specs.State.{Halted, Module, State, Waiting}
use Rattle.mx_laws.specs.Standing.{standing_inst}
use Rattle.mx_laws.proofs.Examples.{changed, closed, open_to, plain, secret, state, with_hart}

-- the instruction at which hart 0 stands
abbrev stands : State → Option Inst
stands s = standing_inst (reads s) s.core 0

-- addi x1, x1, 1
abbrev addi : Inst
addi = OpImm Addi 1 1 1

-- a hart that runs, one that waits, and one in a dead domain
running : stands plain ≡ Some addi
unfolding decoded number_at imm_i extended
running = refl

waiting : stands (with_hart (λ x. record x {
  status = Waiting
      (record { number = 3; args = 0 ∷ 0 ∷ 0 ∷ 0 ∷ []; hart = 0; domain = 1; nested = true }) [];
})) ≡ Some addi
unfolding decoded number_at imm_i extended
waiting = refl

in-a-dead-domain : stands (changed (λ c. record c { modules = list_map (λ (m : Module). record m { dead = true }) c.modules })) ≡ Some addi
unfolding decoded number_at imm_i extended
in-a-dead-domain = refl

-- a hart that is halted, and none
halted : stands (with_hart (λ x. record x { status = Halted (Some 0) })) ≡ None
halted = refl

no-hart : standing_inst (reads plain) plain.core 1 ≡ None
no-hart = refl

-- at a word that the domain may only read, at one that it may read and write, and behind RAM
read-alone : stands (record (state (secret 7) open_to 0 0) { core = (with_hart (λ x. record x { pc = ram_base + 4 })).core }) ≡ None
read-alone = refl

read-write : stands (with_hart (λ x. record x { pc = ram_base + 8 })) ≡ None
read-write = refl

behind-ram : stands (with_hart (λ x. record x { pc = ram_base + 16 })) ≡ None
behind-ram = refl

-- at a word that is no instruction
no-instruction : stands (state (replicate 16 0) closed 0 0) ≡ None
unfolding decoded number_at
no-instruction = refl
