-- What the operands of an instruction say: its registers, and one number or label.
-- The rules: docs/COMMANDS.md, "The source".
use Rattle.std.specs.Prelude.{ℕ, List, [], ◌∷◌, Option, Some, None, option_map, if◌then◌else◌}
use Rattle.mx_isa.specs.declared.inst.ImmOp.{ImmOp}
use Rattle.mx_isa.specs.declared.inst.ImmOp.TheVariants.{Slli, Srli, Srai}
use Rattle.mx_source.specs.declared.number.Number.{Number}
use Rattle.mx_source.specs.declared.number.Range.{Range}
use Rattle.mx_source.specs.declared.mnemonics.Form.{Form}
use Rattle.mx_source.specs.declared.mnemonics.Form.TheVariants.{Lui, Auipc, Jal, Jalr, Branch, Load, Store, OpImm, Op, Fence, Ecall, Ebreak}
use Rattle.mx_source.specs.Options.{◌>>=◌}
use Rattle.mx_source.specs.Numbers.{number_of, plain_number, number_range, even_range}
use Rattle.mx_source.specs.Operands.{is_name, register_of, indexed_of, single_of, pair_of, triple_of}

-- a number, or the name of a label
pub data Value : Type 0 where
  Given : Number → Value
  Label : List ℕ → Value

pub record Fields : Type 0 where
  pub rd : ℕ
  pub rs1 : ℕ
  pub rs2 : ℕ
  pub value : Value

-- the value that an operand is
unfoldable pub value_of : List ℕ → Option Value
value_of text = if is_name text then Some (Label text) else option_map Given (number_of text)

-- the label that an operand names
unfoldable pub label_of : List ℕ → Option Value
label_of text = if is_name text then Some (Label text) else None

-- the number of an operand that must be one
abbrev pub given_of : List ℕ → Option Value
given_of text = option_map Given (number_of text)

-- no number is asked for
abbrev pub no_value : Value
no_value = Given (plain_number 0)

abbrev pub fields : ℕ → ℕ → ℕ → Value → Fields
fields rd rs1 rs2 value = record { rd = rd; rs1 = rs1; rs2 = rs2; value = value }

-- `rd, n`
unfoldable pub number_fields : List (List ℕ) → Option Fields
number_fields operands = do
  p ← pair_of operands
  rd ← register_of p.0
  value ← given_of p.1
  Some (fields rd 0 0 value)

-- `rd, T` and `rd, v`: a number or a label
unfoldable pub value_fields : List (List ℕ) → Option Fields
value_fields operands = do
  p ← pair_of operands
  rd ← register_of p.0
  value ← value_of p.1
  Some (fields rd 0 0 value)

-- `rd, L`: a label
unfoldable pub label_fields : List (List ℕ) → Option Fields
label_fields operands = do
  p ← pair_of operands
  rd ← register_of p.0
  value ← label_of p.1
  Some (fields rd 0 0 value)

-- `rs1, rs2, T`
unfoldable pub branch_fields : List (List ℕ) → Option Fields
branch_fields operands = do
  t ← triple_of operands
  rs1 ← register_of t.0
  rs2 ← register_of t.1
  value ← value_of t.2
  Some (fields 0 rs1 rs2 value)

-- `rd, n(rs1)`
unfoldable pub load_fields : List (List ℕ) → Option Fields
load_fields operands = do
  p ← pair_of operands
  rd ← register_of p.0
  place ← indexed_of p.1
  rs1 ← register_of place.name
  Some (fields rd rs1 0 (Given place.number))

-- `rs2, n(rs1)`
unfoldable pub store_fields : List (List ℕ) → Option Fields
store_fields operands = do
  p ← pair_of operands
  rs2 ← register_of p.0
  place ← indexed_of p.1
  rs1 ← register_of place.name
  Some (fields 0 rs1 rs2 (Given place.number))

-- `rd, rs1, n`
unfoldable pub immediate_fields : List (List ℕ) → Option Fields
immediate_fields operands = do
  t ← triple_of operands
  rd ← register_of t.0
  rs1 ← register_of t.1
  value ← given_of t.2
  Some (fields rd rs1 0 value)

-- `rd, rs1, rs2`
unfoldable pub register_fields : List (List ℕ) → Option Fields
register_fields operands = do
  t ← triple_of operands
  rd ← register_of t.0
  rs1 ← register_of t.1
  rs2 ← register_of t.2
  Some (fields rd rs1 rs2 no_value)

-- nothing, or a number; nothing is the number 0x3FC00, of the word 0x0FF0000F
unfoldable pub fence_fields : List (List ℕ) → Option Fields
fence_fields [] = Some (fields 0 0 0 (Given (plain_number 261120)))
fence_fields (a ∷ operands) = do
  text ← single_of (a ∷ operands)
  value ← given_of text
  Some (fields 0 0 0 value)

-- nothing
unfoldable pub no_fields : List (List ℕ) → Option Fields
no_fields [] = Some (fields 0 0 0 no_value)
no_fields (a ∷ operands) = None

-- the operands of each instruction
unfoldable pub fields_of : Form → List (List ℕ) → Option Fields
fields_of Lui operands = number_fields operands
fields_of Auipc operands = number_fields operands
fields_of Jal operands = value_fields operands
fields_of Jalr operands = load_fields operands
fields_of (Branch cond) operands = branch_fields operands
fields_of (Load width) operands = load_fields operands
fields_of (Store width) operands = store_fields operands
fields_of (OpImm op) operands = immediate_fields operands
fields_of (Op op) operands = register_fields operands
fields_of Fence operands = fence_fields operands
fields_of Ecall operands = no_fields operands
fields_of Ebreak operands = no_fields operands

-- a shift's amount, or another operand of 12 bits
abbrev pub imm_range : ImmOp → Range
imm_range Slli = number_range 0 31
imm_range Srli = number_range 0 31
imm_range Srai = number_range 0 31
imm_range _ = number_range 2048 2047

-- the range of each instruction's number
abbrev pub range_of : Form → Range
range_of Lui = number_range 0 0xFFFFF
range_of Auipc = number_range 0 0xFFFFF
range_of Jal = even_range 0x100000 0xFFFFF
range_of Jalr = number_range 2048 2047
range_of (Branch cond) = even_range 4096 4095
range_of (Load width) = number_range 2048 2047
range_of (Store width) = number_range 2048 2047
range_of (OpImm op) = imm_range op
range_of (Op op) = number_range 0 0
range_of Fence = number_range 0 0x3FFFFF
range_of Ecall = number_range 0 0
range_of Ebreak = number_range 0 0

-- the range of `.word` and `li`, of `.byte`, and of addresses
abbrev pub word_range : Range
word_range = number_range 0x80000000 0xFFFFFFFF

abbrev pub byte_range : Range
byte_range = number_range 128 255

abbrev pub address_range : Range
address_range = number_range 0 0xFFFFFFFF
