-- A number in its range gives a valid instruction.
use Rattle.std.proofs.Common.{◌≡◌, ℕ, ◌-◌, ◌*◌, ◌%◌, ◌^◌, ◌<◌, ◌≤◌, ◌==◌, Bool, true, false, cond, inl, inr, arith, nat_le, ⊎_elim}
use Rattle.std.proofs.lemmas.Bool.{leb-true, eqb-true, and_parts, cases_lt}
use Rattle.mx_isa.specs.declared.inst.ImmOp.{ImmOp}
use Rattle.mx_isa.specs.declared.inst.ImmOp.TheVariants.{Addi, Slti, Sltiu, Xori, Ori, Andi, Slli, Srli, Srai}
use Rattle.mx_isa.specs.Ranges.{IsValid, IsExtended, IsOffset, IsUpper, IsOperand}
use Rattle.mx_source.specs.declared.number.Number.{Number}
use Rattle.mx_source.specs.declared.number.Range.{Range}
use Rattle.mx_source.specs.declared.mnemonics.Form.{Form}
use Rattle.mx_source.specs.declared.mnemonics.Form.TheVariants.{Lui, Auipc, Jal, Jalr, Branch, Load, Store, OpImm, Op, Fence, Ecall, Ebreak}
use Rattle.mx_source.specs.Numbers.{fits, number_bits}
use Rattle.mx_source.specs.Fields.{Fields, range_of}
use Rattle.mx_source.specs.FieldViews.{AreRegisters}
use Rattle.mx_asm.specs.Instructions.{inst_of}

-- the bits of a number between -low and high
extended_12 : (negative : Bool) (m : ℕ) → m ≤ cond negative 2048 2047 → IsExtended 12 (cond negative ((2 ^ 32 - m) % 2 ^ 32) (m % 2 ^ 32))
extended_12 false m h = inl (omega arith)
extended_12 true m h = ⊎_elim (λ more. inr (omega arith, omega arith)) (λ none. inl (omega arith)) (cases_lt 0 m)

offset_13 : (negative : Bool) (m : ℕ) → m ≤ cond negative 4096 4095 → m % 2 ≡ 0
    → IsOffset 13 (cond negative ((2 ^ 32 - m) % 2 ^ 32) (m % 2 ^ 32))
offset_13 false m h even = (inl (omega arith), omega arith)
offset_13 true m h even = (⊎_elim (λ more. inr (omega arith, omega arith)) (λ none. inl (omega arith)) (cases_lt 0 m), omega arith)

offset_21 : (negative : Bool) (m : ℕ) → m ≤ cond negative 0x100000 0xFFFFF → m % 2 ≡ 0
    → IsOffset 21 (cond negative ((2 ^ 32 - m) % 2 ^ 32) (m % 2 ^ 32))
offset_21 false m h even = (inl (omega arith), omega arith)
offset_21 true m h even = (⊎_elim (λ more. inr (omega arith, omega arith)) (λ none. inl (omega arith)) (cases_lt 0 m), omega arith)

below_most : (negative : Bool) (m high : ℕ) → high < 2 ^ 32 → m ≤ cond negative 0 high
    → cond negative ((2 ^ 32 - m) % 2 ^ 32) (m % 2 ^ 32) ≤ high
below_most false m high small h = omega arith
below_most true m high small h = omega arith

upper_imm : (bits : ℕ) → IsUpper (bits * 4096 % 2 ^ 32)
upper_imm bits = (omega arith, omega arith)

module _ (n : Number) where
  -- what lies in a range
  most_of : (range : Range) → fits range n ≡ true → n.magnitude ≤ cond n.negative range.low range.high
  most_of range h = leb-true n.magnitude (cond n.negative range.low range.high)
      (and_parts (nat_le n.magnitude (cond n.negative range.low range.high)) _ h).0

  even_of : (low high : ℕ) → fits (record { low = low; high = high; even = true }) n ≡ true → n.magnitude % 2 ≡ 0
  even_of low high h = eqb-true (n.magnitude % 2) 0 (and_parts (nat_le n.magnitude (cond n.negative low high)) (n.magnitude % 2 == 0) h).1

  operand_valid : (op : ImmOp) → fits (range_of (OpImm op)) n ≡ true → IsOperand op (number_bits n)
  operand_valid Slli h = let b = below_most n.negative n.magnitude 31 (omega arith) (most_of (range_of (OpImm Slli)) h) in omega arith
  operand_valid Srli h = let b = below_most n.negative n.magnitude 31 (omega arith) (most_of (range_of (OpImm Srli)) h) in omega arith
  operand_valid Srai h = let b = below_most n.negative n.magnitude 31 (omega arith) (most_of (range_of (OpImm Srai)) h) in omega arith
  operand_valid Addi h = extended_12 n.negative n.magnitude (most_of (range_of (OpImm Addi)) h)
  operand_valid Slti h = extended_12 n.negative n.magnitude (most_of (range_of (OpImm Slti)) h)
  operand_valid Sltiu h = extended_12 n.negative n.magnitude (most_of (range_of (OpImm Sltiu)) h)
  operand_valid Xori h = extended_12 n.negative n.magnitude (most_of (range_of (OpImm Xori)) h)
  operand_valid Ori h = extended_12 n.negative n.magnitude (most_of (range_of (OpImm Ori)) h)
  operand_valid Andi h = extended_12 n.negative n.magnitude (most_of (range_of (OpImm Andi)) h)

  -- an instruction whose number lies in its range is valid
  pub inst_valid : (form : Form) (f : Fields) → AreRegisters f → fits (range_of form) n ≡ true → IsValid (inst_of form f (number_bits n))
  unfolding IsValid inst_of
  inst_valid Lui f r h = (r.rd, upper_imm (number_bits n))
  inst_valid Auipc f r h = (r.rd, upper_imm (number_bits n))
  inst_valid Jal f r h = (r.rd, offset_21 n.negative n.magnitude (most_of (range_of Jal) h) (even_of 0x100000 0xFFFFF h))
  inst_valid Jalr f r h = (r.rd, r.rs1, extended_12 n.negative n.magnitude (most_of (range_of Jalr) h))
  inst_valid (Branch cond) f r h = (
    r.rs1,
    r.rs2,
    offset_13 n.negative n.magnitude (most_of (range_of (Branch cond)) h)
        (even_of 4096 4095 h),
  )
  inst_valid (Load width) f r h = (r.rd, r.rs1, extended_12 n.negative n.magnitude (most_of (range_of (Load width)) h))
  inst_valid (Store width) f r h = (r.rs1, r.rs2, extended_12 n.negative n.magnitude (most_of (range_of (Store width)) h))
  inst_valid (OpImm op) f r h = (r.rd, r.rs1, operand_valid op h)
  inst_valid (Op op) f r h = (r.rd, r.rs1, r.rs2)
  inst_valid Fence f r h = let b = below_most n.negative n.magnitude 0x3FFFFF (omega arith) (most_of (range_of Fence) h) in omega arith
  inst_valid Ecall f r h = tt
  inst_valid Ebreak f r h = tt
