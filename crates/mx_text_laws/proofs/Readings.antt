-- The text of each instruction is read as that instruction.
use Rattle.std.proofs.Common.{◌≡◌, ◌==◌, ℕ, ◌-◌, ◌*◌, ◌/◌, ◌%◌, ◌^◌, ◌<◌, ◌≤◌, ◌⊎◌, inl, inr, ⊎_elim, Bool, true, false, cond, not, ◌&&◌}
use Rattle.std.proofs.Common.{◌||◌, List, [], ◌∷◌, ◌++◌, length, refl, ap, arith, nat_le, Some, decimal}
use Rattle.std.specs.List.{list_all}
use Rattle.std.proofs.lemmas.Bool.{and_from, le-leb, eq-eqb, cases_lt}
use Rattle.std.proofs.lemmas.List.{append-nil}
use Rattle.mx_isa.specs.declared.inst.Inst.{Inst}
use Rattle.mx_isa.specs.declared.inst.Inst.TheVariants as insts
use Rattle.mx_isa.specs.declared.inst.ImmOp.{ImmOp}
use Rattle.mx_isa.specs.declared.inst.ImmOp.TheVariants.{Addi, Slti, Sltiu, Xori, Ori, Andi, Slli, Srli, Srai}
use Rattle.mx_isa.specs.Ranges.{IsValid, IsExtended, IsOperand}
use Rattle.mx_source.specs.declared.number.Number.{Number}
use Rattle.mx_source.specs.declared.mnemonics.Form.{Form}
use Rattle.mx_source.specs.declared.mnemonics.Form.TheVariants.{Lui, Auipc, Jal, Jalr, Branch, Load, Store, OpImm, Op, Fence}
use Rattle.mx_source.specs.Numbers.{number_bits, plain_number, negative_number, fits}
use Rattle.mx_source.specs.Operands.{is_operand}
use Rattle.mx_source.specs.Mnemonics.{form_name}
use Rattle.mx_source.specs.Fields.{Fields, fields, Given, value_of, number_fields, value_fields, branch_fields, load_fields, store_fields}
use Rattle.mx_source.specs.Fields.{immediate_fields, register_fields, fence_fields, fields_of, range_of, no_value}
use Rattle.mx_asm.specs.Instructions.{inst_of}
use Rattle.mx_trace.specs.Text.{signed_text, upper_text, jump_text, pair_text, indexed_text, register_text, fence_text, inst_text}
use Rattle.mx_text_laws.proofs.Solid.{AreParts, joined}
use Rattle.mx_text_laws.proofs.Registers.{register, IsRegister, register-read}
use Rattle.mx_text_laws.proofs.Numbers.{IsNumber, plain-number, negative-number, low-text, high-text}
use Rattle.mx_text_laws.proofs.IndexedTexts.{indexed-read, indexed-part, operand-number, operand-register, operand-indexed}

-- how a text with operands is read
pub record IsRead (i : Inst) : Type 0 where
  pub form : Form
  pub os : List (List ℕ)
  pub text : inst_text i ≡ form_name form ++ 32 ∷ joined os
  pub parts : AreParts os
  pub some : 0 < length os
  pub operands : list_all is_operand os ≡ true
  pub f : Fields
  pub is : fields_of form os ≡ Some f
  pub z : Number
  pub value : f.value ≡ Given z
  pub ranged : fits (range_of form) z ≡ true
  pub inst : inst_of form f (number_bits z) ≡ i

-- 32 bits read as a signed number
pub record IsSigned (imm : ℕ) : Type 0 where
  pub z : Number
  pub number : IsNumber (signed_text imm) z
  pub bits : number_bits z ≡ imm
  pub ranged : (low high : ℕ) (even : Bool) → high < 2 ^ 31 → low ≤ 2 ^ 31 → (imm ≤ high) ⊎ (2 ^ 32 - low ≤ imm)
      → (even ≡ true → imm % 2 ≡ 0) → fits (record { low = low; high = high; even = even }) z ≡ true

even_ok : (even : Bool) (m : ℕ) → (even ≡ true → m % 2 ≡ 0) → (not even || (m % 2 == 0)) ≡ true
even_ok false m h = refl
even_ok true m h = eq-eqb (m % 2) 0 (h refl)

signed_low : (imm : ℕ) → imm < 2 ^ 31 → IsSigned imm
signed_low imm lt =
    record {
      z = plain_number imm;
      number = rw (low-text imm lt) (plain-number imm (omega arith));
      bits = omega arith;
      ranged = λ low high even a b r e. and_from (nat_le imm high) (not even || (imm % 2 == 0))
          (le-leb imm high (⊎_elim (λ x. x) (λ x. omega arith) r)) (even_ok even imm e);
    }

signed_high : (imm : ℕ) → 2 ^ 31 ≤ imm → imm < 2 ^ 32 → IsSigned imm
signed_high imm le lt =
    record {
      z = negative_number (2 ^ 32 - imm);
      number = rw (high-text imm le lt) (negative-number (2 ^ 32 - imm) (omega arith));
      bits = omega arith;
      ranged = λ low high even a b r e. and_from (nat_le (2 ^ 32 - imm) low) (not even || ((2 ^ 32 - imm) % 2 == 0))
          (le-leb (2 ^ 32 - imm) low (⊎_elim (λ x. omega arith) (λ x. omega arith) r))
          (even_ok even (2 ^ 32 - imm) (λ t. let z = e t in omega arith));
    }

signed : (imm : ℕ) → imm < 2 ^ 32 → IsSigned imm
signed imm lt = ⊎_elim (λ low. signed_low imm low) (λ high. signed_high imm high lt) (cases_lt imm (2 ^ 31))

bound_12 : (imm : ℕ) → IsExtended 12 imm → (imm < 2 ^ 32) × ((imm ≤ 2047) ⊎ (2 ^ 32 - 2048 ≤ imm))
bound_12 imm (inl h) = (omega arith, inl (omega arith))
bound_12 imm (inr h) = (h.1, inr (omega arith))

bound_13 : (imm : ℕ) → IsExtended 13 imm → (imm < 2 ^ 32) × ((imm ≤ 4095) ⊎ (2 ^ 32 - 4096 ≤ imm))
bound_13 imm (inl h) = (omega arith, inl (omega arith))
bound_13 imm (inr h) = (h.1, inr (omega arith))

bound_21 : (imm : ℕ) → IsExtended 21 imm → (imm < 2 ^ 32) × ((imm ≤ 0xFFFFF) ⊎ (2 ^ 32 - 0x100000 ≤ imm))
bound_21 imm (inl h) = (omega arith, inl (omega arith))
bound_21 imm (inr h) = (h.1, inr (omega arith))

-- what operands say
module _ (a b c : ℕ) (num : List ℕ) (z : Number) (ra : IsRegister a) (rb : IsRegister b) (rc : IsRegister c) (n : IsNumber num z) where
  number_read : number_fields (register a ∷ num ∷ []) ≡ Some (fields a 0 0 (Given z))
  unfolding number_fields
  number_read = rw (ra.read, n.read) refl

  value_read : value_fields (register a ∷ num ∷ []) ≡ Some (fields a 0 0 (Given z))
  unfolding value_fields value_of
  value_read = rw (ra.read, n.unnamed, n.read) refl

  branch_read : branch_fields (register a ∷ register b ∷ num ∷ []) ≡ Some (fields 0 a b (Given z))
  unfolding branch_fields value_of
  branch_read = rw (ra.read, rb.read, n.unnamed, n.read) refl

  load_read : load_fields (register a ∷ (num ++ 40 ∷ (register b ++ 41 ∷ [])) ∷ []) ≡ Some (fields a b 0 (Given z))
  unfolding load_fields
  load_read = rw (ra.read, indexed-read num z b n rb, rb.read) refl

  store_read : store_fields (register a ∷ (num ++ 40 ∷ (register b ++ 41 ∷ [])) ∷ []) ≡ Some (fields 0 b a (Given z))
  unfolding store_fields
  store_read = rw (ra.read, indexed-read num z b n rb, rb.read) refl

  immediate_read : immediate_fields (register a ∷ register b ∷ num ∷ []) ≡ Some (fields a b 0 (Given z))
  unfolding immediate_fields
  immediate_read = rw (ra.read, rb.read, n.read) refl

  registers_read : register_fields (register a ∷ register b ∷ register c ∷ []) ≡ Some (fields a b c no_value)
  unfolding register_fields
  registers_read = rw (ra.read, rb.read, rc.read) refl

  fence_read : fence_fields (num ∷ []) ≡ Some (fields 0 0 0 (Given z))
  unfolding fence_fields
  fence_read = rw n.read refl

  two_operands : list_all is_operand (register a ∷ num ∷ []) ≡ true
  two_operands = rw (operand-register a ra, operand-number num z n) refl

  three_operands : list_all is_operand (register a ∷ register b ∷ num ∷ []) ≡ true
  three_operands = rw (operand-register a ra, operand-register b rb, operand-number num z n) refl

  indexed_operands : list_all is_operand (register a ∷ (num ++ 40 ∷ (register b ++ 41 ∷ [])) ∷ []) ≡ true
  indexed_operands = rw (
    operand-register a ra,
    operand-indexed (num ++ 40 ∷ (register b ++ 41 ∷ []))
        (record { number = z; name = register b }) (indexed-read num z b n rb),
  ) refl

  register_operands : list_all is_operand (register a ∷ register b ∷ register c ∷ []) ≡ true
  register_operands = rw (operand-register a ra, operand-register b rb, operand-register c rc) refl

-- the texts, operand by operand
text_two : (form : Form) (rd n : ℕ) → upper_text form rd n ≡ form_name form ++ 32 ∷ joined (register rd ∷ decimal n ∷ [])
unfolding upper_text
text_two form rd n = rw (append-nil (decimal n)) refl

text_jump : (form : Form) (rd imm : ℕ) → jump_text form rd imm ≡ form_name form ++ 32 ∷ joined (register rd ∷ signed_text imm ∷ [])
unfolding jump_text
text_jump form rd imm = rw (append-nil (signed_text imm)) refl

text_three : (form : Form) (a b imm : ℕ) → pair_text form a b imm ≡ form_name form ++ 32
    ∷ joined (register a ∷ register b ∷ signed_text imm ∷ [])
unfolding pair_text
text_three form a b imm = rw (append-nil (signed_text imm)) refl

text_indexed : (form : Form) (a imm b : ℕ) → indexed_text form a imm b ≡ form_name form ++ 32
    ∷ joined (register a ∷ (signed_text imm ++ 40 ∷ (register b ++ 41 ∷ [])) ∷ [])
unfolding indexed_text
text_indexed form a imm b = refl

text_registers : (form : Form) (a b c : ℕ) → register_text form a b c ≡ form_name form ++ 32
    ∷ joined (register a ∷ register b ∷ register c ∷ [])
unfolding register_text
text_registers form a b c = rw (append-nil (decimal c)) refl

text_fence : (n : ℕ) → fence_text n ≡ form_name Fence ++ 32 ∷ joined (decimal n ∷ [])
unfolding fence_text
text_fence n = rw (append-nil (decimal n)) refl

x0 : IsRegister 0
x0 = register-read 0 (omega arith)

no_even : (imm : ℕ) → false ≡ true → imm % 2 ≡ 0
no_even imm h = cc

-- the operand of an instruction with an immediate
operand_bound : (op : ImmOp) (imm : ℕ) → IsOperand op imm → (s : IsSigned imm) × (fits (range_of (OpImm op)) s.z ≡ true)
operand_bound Slli imm h = let s = signed imm (omega arith) in
    (s, s.ranged 0 31 false (omega arith) (omega arith) (inl (omega arith)) (no_even imm))
operand_bound Srli imm h = let s = signed imm (omega arith) in
    (s, s.ranged 0 31 false (omega arith) (omega arith) (inl (omega arith)) (no_even imm))
operand_bound Srai imm h = let s = signed imm (omega arith) in
    (s, s.ranged 0 31 false (omega arith) (omega arith) (inl (omega arith)) (no_even imm))
operand_bound Addi imm h = let b = bound_12 imm h in let s = signed imm b.0 in
    (s, s.ranged 2048 2047 false (omega arith) (omega arith) b.1 (no_even imm))
operand_bound Slti imm h = let b = bound_12 imm h in let s = signed imm b.0 in
    (s, s.ranged 2048 2047 false (omega arith) (omega arith) b.1 (no_even imm))
operand_bound Sltiu imm h = let b = bound_12 imm h in let s = signed imm b.0 in
    (s, s.ranged 2048 2047 false (omega arith) (omega arith) b.1 (no_even imm))
operand_bound Xori imm h = let b = bound_12 imm h in let s = signed imm b.0 in
    (s, s.ranged 2048 2047 false (omega arith) (omega arith) b.1 (no_even imm))
operand_bound Ori imm h = let b = bound_12 imm h in let s = signed imm b.0 in
    (s, s.ranged 2048 2047 false (omega arith) (omega arith) b.1 (no_even imm))
operand_bound Andi imm h = let b = bound_12 imm h in let s = signed imm b.0 in
    (s, s.ranged 2048 2047 false (omega arith) (omega arith) b.1 (no_even imm))

upper_back : (imm : ℕ) → imm < 2 ^ 32 → imm % 2 ^ 12 ≡ 0 → number_bits (plain_number (imm / 4096)) * 4096 % 2 ^ 32 ≡ imm
upper_back imm lt z = omega arith

upper_fits : (imm : ℕ) → imm < 2 ^ 32 → (nat_le (imm / 4096) 0xFFFFF && true) ≡ true
upper_fits imm lt = and_from (nat_le (imm / 4096) 0xFFFFF) true (le-leb (imm / 4096) 0xFFFFF (omega arith)) refl

pub inst_read : (i : Inst) → IsValid i → (i ≡ insts.Ecall) ⊎ ((i ≡ insts.Ebreak) ⊎ IsRead i)
unfolding IsValid inst_text fields_of inst_of
inst_read (insts.Lui rd imm) v =
    let r = register-read rd v.0 in
    let n = plain-number (imm / 4096) (omega (arith, v.1.0)) in
    inr (inr (record {
      form = Lui;
      os = register rd ∷ decimal (imm / 4096) ∷ [];
      text = text_two Lui rd (imm / 4096);
      parts = (r.part, (n.part, tt));
      some = omega arith;
      operands = two_operands rd 0 0 (decimal (imm / 4096)) (plain_number (imm / 4096)) r x0 x0 n;
      f = fields rd 0 0 (Given (plain_number (imm / 4096)));
      is = number_read rd 0 0 (decimal (imm / 4096)) (plain_number (imm / 4096)) r x0 x0 n;
      z = plain_number (imm / 4096);
      value = refl;
      ranged = upper_fits imm v.1.0;
      inst = ap (insts.Lui rd) (upper_back imm v.1.0 v.1.1);
    }))
inst_read (insts.Auipc rd imm) v =
    let r = register-read rd v.0 in
    let n = plain-number (imm / 4096) (omega (arith, v.1.0)) in
    inr (inr (record {
      form = Auipc;
      os = register rd ∷ decimal (imm / 4096) ∷ [];
      text = text_two Auipc rd (imm / 4096);
      parts = (r.part, (n.part, tt));
      some = omega arith;
      operands = two_operands rd 0 0 (decimal (imm / 4096)) (plain_number (imm / 4096)) r x0 x0 n;
      f = fields rd 0 0 (Given (plain_number (imm / 4096)));
      is = number_read rd 0 0 (decimal (imm / 4096)) (plain_number (imm / 4096)) r x0 x0 n;
      z = plain_number (imm / 4096);
      value = refl;
      ranged = upper_fits imm v.1.0;
      inst = ap (insts.Auipc rd) (upper_back imm v.1.0 v.1.1);
    }))
inst_read (insts.Jal rd imm) v =
    let r = register-read rd v.0 in
    let b = bound_21 imm v.1.0 in
    let s = signed imm b.0 in
    inr (inr (record {
      form = Jal;
      os = register rd ∷ signed_text imm ∷ [];
      text = text_jump Jal rd imm;
      parts = (r.part, (s.number.part, tt));
      some = omega arith;
      operands = two_operands rd 0 0 (signed_text imm) s.z r x0 x0 s.number;
      f = fields rd 0 0 (Given s.z);
      is = value_read rd 0 0 (signed_text imm) s.z r x0 x0 s.number;
      z = s.z;
      value = refl;
      ranged = s.ranged 0x100000 0xFFFFF true (omega arith) (omega arith) b.1 (λ _. v.1.1);
      inst = ap (insts.Jal rd) s.bits;
    }))
inst_read (insts.Jalr rd rs1 imm) v =
    let r = register-read rd v.0 in
    let q = register-read rs1 v.1 in
    let b = bound_12 imm v.2 in
    let s = signed imm b.0 in
    inr (inr (record {
      form = Jalr;
      os = register rd ∷ (signed_text imm ++ 40 ∷ (register rs1 ++ 41 ∷ [])) ∷ [];
      text = text_indexed Jalr rd imm rs1;
      parts = (r.part, (indexed-part (signed_text imm) s.z rs1 s.number q, tt));
      some = omega arith;
      operands = indexed_operands rd rs1 0 (signed_text imm) s.z r q x0 s.number;
      f = fields rd rs1 0 (Given s.z);
      is = load_read rd rs1 0 (signed_text imm) s.z r q x0 s.number;
      z = s.z;
      value = refl;
      ranged = s.ranged 2048 2047 false (omega arith) (omega arith) b.1 (no_even imm);
      inst = ap (insts.Jalr rd rs1) s.bits;
    }))
inst_read (insts.Branch cond rs1 rs2 imm) v =
    let r = register-read rs1 v.0 in
    let q = register-read rs2 v.1 in
    let b = bound_13 imm v.2.0 in
    let s = signed imm b.0 in
    inr (inr (record {
      form = Branch cond;
      os = register rs1 ∷ register rs2 ∷ signed_text imm ∷ [];
      text = text_three (Branch cond) rs1 rs2 imm;
      parts = (r.part, (q.part, (s.number.part, tt)));
      some = omega arith;
      operands = three_operands rs1 rs2 0 (signed_text imm) s.z r q x0 s.number;
      f = fields 0 rs1 rs2 (Given s.z);
      is = branch_read rs1 rs2 0 (signed_text imm) s.z r q x0 s.number;
      z = s.z;
      value = refl;
      ranged = s.ranged 4096 4095 true (omega arith) (omega arith) b.1 (λ _. v.2.1);
      inst = ap (insts.Branch cond rs1 rs2) s.bits;
    }))
inst_read (insts.Load width rd rs1 imm) v =
    let r = register-read rd v.0 in
    let q = register-read rs1 v.1 in
    let b = bound_12 imm v.2 in
    let s = signed imm b.0 in
    inr (inr (record {
      form = Load width;
      os = register rd ∷ (signed_text imm ++ 40 ∷ (register rs1 ++ 41 ∷ [])) ∷ [];
      text = text_indexed (Load width) rd imm rs1;
      parts = (r.part, (indexed-part (signed_text imm) s.z rs1 s.number q, tt));
      some = omega arith;
      operands = indexed_operands rd rs1 0 (signed_text imm) s.z r q x0 s.number;
      f = fields rd rs1 0 (Given s.z);
      is = load_read rd rs1 0 (signed_text imm) s.z r q x0 s.number;
      z = s.z;
      value = refl;
      ranged = s.ranged 2048 2047 false (omega arith) (omega arith) b.1 (no_even imm);
      inst = ap (insts.Load width rd rs1) s.bits;
    }))
inst_read (insts.Store width rs1 rs2 imm) v =
    let r = register-read rs2 v.1 in
    let q = register-read rs1 v.0 in
    let b = bound_12 imm v.2 in
    let s = signed imm b.0 in
    inr (inr (record {
      form = Store width;
      os = register rs2 ∷ (signed_text imm ++ 40 ∷ (register rs1 ++ 41 ∷ [])) ∷ [];
      text = text_indexed (Store width) rs2 imm rs1;
      parts = (r.part, (indexed-part (signed_text imm) s.z rs1 s.number q, tt));
      some = omega arith;
      operands = indexed_operands rs2 rs1 0 (signed_text imm) s.z r q x0 s.number;
      f = fields 0 rs1 rs2 (Given s.z);
      is = store_read rs2 rs1 0 (signed_text imm) s.z r q x0 s.number;
      z = s.z;
      value = refl;
      ranged = s.ranged 2048 2047 false (omega arith) (omega arith) b.1 (no_even imm);
      inst = ap (insts.Store width rs1 rs2) s.bits;
    }))
inst_read (insts.OpImm op rd rs1 imm) v =
    let r = register-read rd v.0 in
    let q = register-read rs1 v.1 in
    let b = operand_bound op imm v.2 in
    let s = b.0 in
    inr (inr (record {
      form = OpImm op;
      os = register rd ∷ register rs1 ∷ signed_text imm ∷ [];
      text = text_three (OpImm op) rd rs1 imm;
      parts = (r.part, (q.part, (s.number.part, tt)));
      some = omega arith;
      operands = three_operands rd rs1 0 (signed_text imm) s.z r q x0 s.number;
      f = fields rd rs1 0 (Given s.z);
      is = immediate_read rd rs1 0 (signed_text imm) s.z r q x0 s.number;
      z = s.z;
      value = refl;
      ranged = b.1;
      inst = ap (insts.OpImm op rd rs1) s.bits;
    }))
inst_read (insts.Op op rd rs1 rs2) v =
    let r = register-read rd v.0 in
    let q = register-read rs1 v.1 in
    let t = register-read rs2 v.2 in
    let n = plain-number 0 (omega arith) in
    inr (inr (record {
      form = Op op;
      os = register rd ∷ register rs1 ∷ register rs2 ∷ [];
      text = text_registers (Op op) rd rs1 rs2;
      parts = (r.part, (q.part, (t.part, tt)));
      some = omega arith;
      operands = register_operands rd rs1 rs2 (decimal 0) (plain_number 0) r q t n;
      f = fields rd rs1 rs2 no_value;
      is = registers_read rd rs1 rs2 (decimal 0) (plain_number 0) r q t n;
      z = plain_number 0;
      value = refl;
      ranged = refl;
      inst = refl;
    }))
inst_read (insts.Fence bits) v =
    let n = plain-number bits (omega arith) in
    inr (inr (record {
      form = Fence;
      os = decimal bits ∷ [];
      text = text_fence bits;
      parts = (n.part, tt);
      some = omega arith;
      operands = rw (operand-number (decimal bits) (plain_number bits) n) refl;
      f = fields 0 0 0 (Given (plain_number bits));
      is = fence_read 0 0 0 (decimal bits) (plain_number bits) x0 x0 x0 n;
      z = plain_number bits;
      value = refl;
      ranged = and_from (nat_le bits 0x3FFFFF) true (le-leb bits 0x3FFFFF (omega arith)) refl;
      inst = ap insts.Fence (omega arith);
    }))
inst_read insts.Ecall v = inl refl
inst_read insts.Ebreak v = inr (inl refl)
