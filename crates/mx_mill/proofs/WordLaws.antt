-- The words of a module's program are words, and an array of them is one that a manifest may have.
use Rattle.std.proofs.Common.{◌≡◌, ℕ, ◌<◌, ◌≤◌, true, List, [], ◌∷◌, length, map, refl, arith, le-leb}
use Rattle.std.specs.List.{list_all}
use Rattle.std.specs.Option.{is_some}
use Rattle.toml.specs.Data.{as_integer}
use Rattle.toml.specs.View.{items_of}
use Rattle.mx_words.specs.Calls.{alloc_call, free_call, grant_call}
use Rattle.mx_isa.specs.declared.inst.Inst.TheVariants.{Lui, Jal, Jalr, Load, Store, Ecall}
use Rattle.mx_isa.specs.declared.inst.LoadWidth.TheVariants.{Lw}
use Rattle.mx_isa.specs.declared.inst.StoreWidth.TheVariants.{Sw}
use Rattle.mx_isa.specs.Table.{encoded}
use Rattle.mx_manifest.specs.Forms.{is_address, is_within, passes}
use Rattle.mx_manifest.specs.Plan.{word_list}
use Rattle.mx_manifest.specs.Reads.{listed}
use Rattle.mx_mill.specs.declared.draws.Draws.{Draws}
use Rattle.mx_mill.specs.Table.{list, number}
use Rattle.mx_mill.specs.Words.{addi, mill_words}

-- each has 32 bits
abbrev pub AreWords : List ℕ → Type 0
AreWords [] = Unit {0}
AreWords (w ∷ ws) = (w ≤ 4294967295) × AreWords ws

addi-word : (rd rs1 imm : ℕ) → rd < 32 → rs1 < 32 → encoded (addi rd rs1 imm) ≤ 4294967295
unfolding encoded
addi-word rd rs1 imm d s = omega arith

lui-word : (rd imm : ℕ) → rd < 32 → encoded (Lui rd imm) ≤ 4294967295
unfolding encoded
lui-word rd imm d = omega arith

jalr-word : (rd rs1 imm : ℕ) → rd < 32 → rs1 < 32 → encoded (Jalr rd rs1 imm) ≤ 4294967295
unfolding encoded
jalr-word rd rs1 imm d s = omega arith

ecall-word : encoded Ecall ≤ 4294967295
unfolding encoded
ecall-word = omega arith

store-word : encoded (Store Sw 8 17 0) ≤ 4294967295
unfolding encoded
store-word = omega arith

jump-word : encoded (Jal 0 4294967236) ≤ 4294967295
unfolding encoded
jump-word = omega arith

load-word : encoded (Load Lw 6 5 0) ≤ 4294967295
unfolding encoded
load-word = omega arith

pub program_words : (i : ℕ) (n : Draws) → AreWords (mill_words i n)
program_words i n =
    let set : (rd rs1 imm : ℕ) → rd < 32 → rs1 < 32 → encoded (addi rd rs1 imm) ≤ 4294967295 = addi-word in (
      set 10 0 n.words (omega arith) (omega arith),
      (
        set 17 0 alloc_call (omega arith) (omega arith),
        (
          ecall-word,
          (
            set 8 10 0 (omega arith) (omega arith),
            (
              store-word,
              (
                set 11 0 _ (omega arith) (omega arith),
                (
                  set 12 0 n.domain (omega arith) (omega arith),
                  (
                    set 13 0 n.right (omega arith) (omega arith),
                    (
                      set 17 0 grant_call (omega arith) (omega arith),
                      (
                        ecall-word,
                        (
                          lui-word 5 _ (omega arith),
                          (
                            jalr-word 1 5 64 (omega arith) (omega arith),
                            (
                              set 10 8 0 (omega arith) (omega arith),
                              (
                                set 17 0 free_call (omega arith) (omega arith),
                                (
                                  ecall-word,
                                  (
                                    jump-word,
                                    (
                                      load-word,
                                      (
                                        jalr-word 0 1 0 (omega arith) (omega arith),
                                        tt,
                                      ),
                                    ),
                                  ),
                                ),
                              ),
                            ),
                          ),
                        ),
                      ),
                    ),
                  ),
                ),
              ),
            ),
          ),
        ),
      ),
    )

-- they are read as they were written
pub words_read : (ws : List ℕ) → AreWords ws → word_list (list (map number ws)) ≡ ws
words_read [] are = refl
words_read (w ∷ ws) are = rw (le-leb w 4294967295 are.0, words_read ws are.1) refl

-- each is in its range
pub words_ranged : (ws : List ℕ) → AreWords ws → list_all (λ v. passes is_address (as_integer v)) (listed (items_of (map number ws))) ≡ true
words_ranged [] are = refl
words_ranged (w ∷ ws) are = rw (le-leb 0 w (omega arith), le-leb w 4294967295 are.0, words_ranged ws are.1) refl

-- an array that may stand at `words`
pub record IsProgram (ws : List ℕ) : Type 0 where
  pub few : is_within 1 65536 (length (listed (items_of (map number ws)))) ≡ true
  pub typed : list_all (λ v. is_some (as_integer v)) (listed (items_of (map number ws))) ≡ true
  pub ranged : list_all (λ v. passes is_address (as_integer v)) (listed (items_of (map number ws))) ≡ true

pub is_program : (i : ℕ) (n : Draws) → IsProgram (mill_words i n)
is_program i n = record { few = refl; typed = refl; ranged = words_ranged (mill_words i n) (program_words i n) }
