-- What a word decodes to is valid, and its word is that word.
use Rattle.std.proofs.Common.{◌≡◌, ℕ, ◌+◌, ◌*◌, ◌^◌, ◌<◌, Bool, true, false, cond, ◌==◌, ◌&&◌, List, [], ◌∷◌, Option, Some, None, refl}
use Rattle.std.proofs.Common.{arith, sym, eqb-true}
use Rattle.std.proofs.lemmas.Bool.{and_parts}
use Rattle.std.specs.Prelude.{find, option_map, option_and_then, IfSome}
use Rattle.mx_isa.specs.declared.inst.Inst.{Inst}
use Rattle.mx_isa.specs.declared.inst.Inst.TheVariants.{Lui, Auipc, Jal, Jalr, Branch, Load, Store, OpImm, Op, Fence, Ecall, Ebreak}
use Rattle.mx_isa.specs.declared.inst.Cond.{Cond}
use Rattle.mx_isa.specs.declared.inst.LoadWidth.{LoadWidth}
use Rattle.mx_isa.specs.declared.inst.StoreWidth.{StoreWidth}
use Rattle.mx_isa.specs.declared.inst.ImmOp.{ImmOp}
use Rattle.mx_isa.specs.declared.inst.ImmOp.TheVariants.{Addi, Slti, Sltiu, Xori, Ori, Andi, Slli, Srli, Srai}
use Rattle.mx_isa.specs.declared.inst.RegOp.{RegOp}
use Rattle.mx_isa.specs.Fields.{bits_of, opcode_of, rd_of, f3_of, rs1_of, rs2_of, f7_of, imm_i, imm_s, imm_b, imm_u, imm_j, fence_fields}
use Rattle.mx_isa.specs.Table.{decoded, encoded, conds, loads, stores, imm_ops, reg_ops, cond_of, load_of, store_of, imm_op_of, reg_op_of}
use Rattle.mx_isa.specs.Table.{imm_of_op, has_f7, imm_op_f7, imm_op_f3, cond_f3, load_f3, store_f3, reg_op_f3, reg_op_f7, word_i, word_s}
use Rattle.mx_isa.specs.Table.{word_b, word_u, word_j, Row, rows}
use Rattle.mx_isa.specs.Ranges.{IsValid, IsExtended, IsOffset, IsUpper}
use Rattle.mx_isa.proofs.Extension.{IsExtended-12, IsExtended-13, IsExtended-21, low-extended_12, low-extended_13, low-extended_21}

-- an instruction that is valid and whose word is w
pub record Fits (w : ℕ) (i : Inst) : Type 0 where
  pub valid : IsValid i
  pub word : encoded i ≡ w

-- what `find` finds passes its test
IfSome-find : {X : Type 0} (p : X → Bool) (xs : List X) → IfSome (find p xs) (λ x. p x ≡ true)
IfSome-find p [] = tt
IfSome-find p (x ∷ xs) = IfSome-cond p x (find p xs) (p x) refl (IfSome-find p xs)
  where
    IfSome-cond : {X : Type 0} (p : X → Bool) (x : X) (rest : Option X) (b : Bool) → p x ≡ b → IfSome rest (λ x. p x ≡ true)
        → IfSome (cond b (Some x) rest) (λ x. p x ≡ true)
    IfSome-cond p x rest true e h = e
    IfSome-cond p x rest false e h = h

-- a fact of what is found becomes one of what is made of it
IfSome-option_map : {X Y : Type 0} (P : X → Type 0) (Q : Y → Type 0) (f : X → Y) (o : Option X) → IfSome o P → ((x : X) → P x → Q (f x))
    → IfSome (option_map f o) Q
IfSome-option_map P Q f None h k = tt
IfSome-option_map P Q f (Some x) h k = k x h

-- the words of the immediates
word_i-imm_i : (w o f : ℕ) → w < 2 ^ 32 → opcode_of w ≡ o → f3_of w ≡ f → word_i o (rd_of w) f (rs1_of w) (imm_i w) ≡ w
unfolding imm_i
word_i-imm_i w o f h ho hf = let e = low-extended_12 (bits_of w 20 12) (omega arith) in omega arith

word_s-imm_s : (w o f : ℕ) → w < 2 ^ 32 → opcode_of w ≡ o → f3_of w ≡ f → word_s o f (rs1_of w) (rs2_of w) (imm_s w) ≡ w
unfolding imm_s
word_s-imm_s w o f h ho hf = let e = low-extended_12 (bits_of w 25 7 * 2 ^ 5 + bits_of w 7 5) (omega arith) in omega arith

word_b-imm_b : (w o f : ℕ) → w < 2 ^ 32 → opcode_of w ≡ o → f3_of w ≡ f → word_b o f (rs1_of w) (rs2_of w) (imm_b w) ≡ w
unfolding imm_b
word_b-imm_b w o f h ho hf = let e = low-extended_13 (bits_of w 31 1 * 2 ^ 12 + bits_of w 7 1 * 2 ^ 11 + bits_of w 25 6 * 2 ^ 5
    + bits_of w 8 4 * 2) (omega arith) in omega arith

word_u-imm_u : (w o : ℕ) → w < 2 ^ 32 → opcode_of w ≡ o → word_u o (rd_of w) (imm_u w) ≡ w
unfolding imm_u
word_u-imm_u w o h ho = omega arith

word_j-imm_j : (w o : ℕ) → w < 2 ^ 32 → opcode_of w ≡ o → word_j o (rd_of w) (imm_j w) ≡ w
unfolding imm_j
word_j-imm_j w o h ho = let e = low-extended_21 (bits_of w 31 1 * 2 ^ 20 + bits_of w 12 8 * 2 ^ 12 + bits_of w 20 1 * 2 ^ 11
    + bits_of w 21 10 * 2) (omega arith) in omega arith

-- the ranges of the immediates
IsExtended-imm_i : (w : ℕ) → IsExtended 12 (imm_i w)
unfolding imm_i
IsExtended-imm_i w = IsExtended-12 (bits_of w 20 12) (omega arith)

IsExtended-imm_s : (w : ℕ) → IsExtended 12 (imm_s w)
unfolding imm_s
IsExtended-imm_s w = IsExtended-12 (bits_of w 25 7 * 2 ^ 5 + bits_of w 7 5) (omega arith)

IsOffset-imm_b : (w : ℕ) → IsOffset 13 (imm_b w)
unfolding imm_b
IsOffset-imm_b w =
    let n = bits_of w 31 1 * 2 ^ 12 + bits_of w 7 1 * 2 ^ 11 + bits_of w 25 6 * 2 ^ 5 + bits_of w 8 4 * 2 in
    let h : n < 2 ^ 13 = omega arith in
    let e = low-extended_13 n h in
    (IsExtended-13 n h, omega arith)

IsUpper-imm_u : (w : ℕ) → IsUpper (imm_u w)
unfolding imm_u
IsUpper-imm_u w = (omega arith, omega arith)

IsOffset-imm_j : (w : ℕ) → IsOffset 21 (imm_j w)
unfolding imm_j
IsOffset-imm_j w =
    let n = bits_of w 31 1 * 2 ^ 20 + bits_of w 12 8 * 2 ^ 12 + bits_of w 20 1 * 2 ^ 11 + bits_of w 21 10 * 2 in
    let h : n < 2 ^ 21 = omega arith in
    let e = low-extended_21 n h in
    (IsExtended-21 n h, omega arith)

-- an operation with an immediate
op_imm-fits : (op : ImmOp) (w : ℕ) → w < 2 ^ 32 → opcode_of w ≡ 0x13 → imm_op_f3 op ≡ f3_of w → has_f7 (imm_op_f7 op) (f7_of w) ≡ true
    → Fits w (OpImm op (rd_of w) (rs1_of w) (imm_of_op op w))
unfolding encoded IsValid
op_imm-fits Addi w h o f g = record { valid = (omega arith, omega arith, IsExtended-imm_i w); word = word_i-imm_i w 0x13 0 h o (sym f) }
op_imm-fits Slti w h o f g = record { valid = (omega arith, omega arith, IsExtended-imm_i w); word = word_i-imm_i w 0x13 2 h o (sym f) }
op_imm-fits Sltiu w h o f g = record { valid = (omega arith, omega arith, IsExtended-imm_i w); word = word_i-imm_i w 0x13 3 h o (sym f) }
op_imm-fits Xori w h o f g = record { valid = (omega arith, omega arith, IsExtended-imm_i w); word = word_i-imm_i w 0x13 4 h o (sym f) }
op_imm-fits Ori w h o f g = record { valid = (omega arith, omega arith, IsExtended-imm_i w); word = word_i-imm_i w 0x13 6 h o (sym f) }
op_imm-fits Andi w h o f g = record { valid = (omega arith, omega arith, IsExtended-imm_i w); word = word_i-imm_i w 0x13 7 h o (sym f) }
op_imm-fits Slli w h o f g = let e = eqb-true 0 (f7_of w) g in
    record { valid = (omega arith, omega arith, omega arith); word = omega arith }
op_imm-fits Srli w h o f g = let e = eqb-true 0 (f7_of w) g in
    record { valid = (omega arith, omega arith, omega arith); word = omega arith }
op_imm-fits Srai w h o f g = let e = eqb-true 32 (f7_of w) g in
    record { valid = (omega arith, omega arith, omega arith); word = omega arith }

-- the rows give what fits their words
abbrev IsSound : ℕ → Row → Type 0
IsSound w r = opcode_of w ≡ r.opcode → IfSome (r.inst w) (Fits w)

abbrev AreSound : ℕ → List Row → Type 0
AreSound w [] = Unit {0}
AreSound w (r ∷ rs) = IsSound w r × AreSound w rs

IfSome-row : (w : ℕ) (r : Row) (rest : Option Row) (b : Bool) → (r.opcode == opcode_of w) ≡ b → IsSound w r
    → IfSome (option_and_then (λ r. r.inst w) rest) (Fits w) → IfSome (option_and_then (λ r. r.inst w) (cond b (Some r) rest)) (Fits w)
IfSome-row w r rest true e s h = s (sym (eqb-true r.opcode (opcode_of w) e))
IfSome-row w r rest false e s h = h

IfSome-rows : (w : ℕ) (rs : List Row) → AreSound w rs → IfSome (option_and_then (λ r. r.inst w) (find (λ r. r.opcode == opcode_of w) rs))
    (Fits w)
IfSome-rows w [] s = tt
IfSome-rows w (r ∷ rs) s = IfSome-row w r (find (λ r. r.opcode == opcode_of w) rs) (r.opcode == opcode_of w) refl s.0 (IfSome-rows w rs s.1)

-- a row that asks for f3 = 0
IfSome-f3 : (P : Inst → Type 0) (b : Bool) (i : Inst) → (b ≡ true → P i) → IfSome (cond b (Some i) None) P
IfSome-f3 P true i h = h refl
IfSome-f3 P false i h = tt

jalr-fits : (w : ℕ) → w < 2 ^ 32 → opcode_of w ≡ 0x67 → (f3_of w == 0) ≡ true → Fits w (Jalr (rd_of w) (rs1_of w) (imm_i w))
unfolding encoded IsValid
jalr-fits w h o f = record {
  valid = (omega arith, omega arith, IsExtended-imm_i w);
  word =
      word_i-imm_i w 0x67 0 h o (eqb-true (f3_of w) 0 f);
}

fence-fits : (w : ℕ) → w < 2 ^ 32 → opcode_of w ≡ 0x0F → (f3_of w == 0) ≡ true → Fits w (Fence (fence_fields w))
unfolding encoded IsValid fence_fields
fence-fits w h o f = let e = eqb-true (f3_of w) 0 f in record { valid = omega arith; word = omega arith }

lui-fits : (w : ℕ) → w < 2 ^ 32 → opcode_of w ≡ 0x37 → Fits w (Lui (rd_of w) (imm_u w))
unfolding encoded IsValid
lui-fits w h o = record { valid = (omega arith, IsUpper-imm_u w); word = word_u-imm_u w 0x37 h o }

auipc-fits : (w : ℕ) → w < 2 ^ 32 → opcode_of w ≡ 0x17 → Fits w (Auipc (rd_of w) (imm_u w))
unfolding encoded IsValid
auipc-fits w h o = record { valid = (omega arith, IsUpper-imm_u w); word = word_u-imm_u w 0x17 h o }

jal-fits : (w : ℕ) → w < 2 ^ 32 → opcode_of w ≡ 0x6F → Fits w (Jal (rd_of w) (imm_j w))
unfolding encoded IsValid
jal-fits w h o = record { valid = (omega arith, IsOffset-imm_j w); word = word_j-imm_j w 0x6F h o }

branch-fits : (w : ℕ) → w < 2 ^ 32 → opcode_of w ≡ 0x63 → (c : Cond) → (cond_f3 c == f3_of w) ≡ true
    → Fits w (Branch c (rs1_of w) (rs2_of w) (imm_b w))
unfolding encoded IsValid
branch-fits w h o c f = record {
  valid = (omega arith, omega arith, IsOffset-imm_b w);
  word =
      word_b-imm_b w 0x63 (cond_f3 c) h o (sym (eqb-true (cond_f3 c) (f3_of w) f));
}

load-fits : (w : ℕ) → w < 2 ^ 32 → opcode_of w ≡ 0x03 → (x : LoadWidth) → (load_f3 x == f3_of w) ≡ true
    → Fits w (Load x (rd_of w) (rs1_of w) (imm_i w))
unfolding encoded IsValid
load-fits w h o x f = record {
  valid = (omega arith, omega arith, IsExtended-imm_i w);
  word =
      word_i-imm_i w 0x03 (load_f3 x) h o (sym (eqb-true (load_f3 x) (f3_of w) f));
}

store-fits : (w : ℕ) → w < 2 ^ 32 → opcode_of w ≡ 0x23 → (x : StoreWidth) → (store_f3 x == f3_of w) ≡ true
    → Fits w (Store x (rs1_of w) (rs2_of w) (imm_s w))
unfolding encoded IsValid
store-fits w h o x f = record {
  valid = (omega arith, omega arith, IsExtended-imm_s w);
  word =
      word_s-imm_s w 0x23 (store_f3 x) h o (sym (eqb-true (store_f3 x) (f3_of w) f));
}

op-fits : (w : ℕ) → w < 2 ^ 32 → opcode_of w ≡ 0x33 → (x : RegOp) → ((reg_op_f3 x == f3_of w) && (reg_op_f7 x == f7_of w)) ≡ true
    → Fits w (Op x (rd_of w) (rs1_of w) (rs2_of w))
unfolding encoded IsValid
op-fits w h o x p =
    let f = eqb-true (reg_op_f3 x) (f3_of w) (and_parts (reg_op_f3 x == f3_of w) (reg_op_f7 x == f7_of w) p).0 in
    let g = eqb-true (reg_op_f7 x) (f7_of w) (and_parts (reg_op_f3 x == f3_of w) (reg_op_f7 x == f7_of w) p).1 in
    record { valid = (omega arith, omega arith, omega arith); word = omega arith }

-- the two words of the system opcode
system-by : (w : ℕ) (a b : Bool) → (w == 0x73) ≡ a → (w == 0x00100073) ≡ b
    → IfSome (cond a (Some Ecall) (cond b (Some Ebreak) None)) (Fits w)
unfolding encoded IsValid
system-by w true b p q = record { valid = tt; word = sym (eqb-true w 0x73 p) }
system-by w false true p q = record { valid = tt; word = sym (eqb-true w 0x00100073 q) }
system-by w false false p q = tt

system-fits : (w : ℕ) → IfSome (cond (w == 0x73) (Some Ecall) (cond (w == 0x00100073) (Some Ebreak) None)) (Fits w)
system-fits w = system-by w (w == 0x73) (w == 0x00100073) refl refl

AreSound-rows : (w : ℕ) → w < 2 ^ 32 → AreSound w rows
AreSound-rows w h = (
  lui-fits w h,
  (
    auipc-fits w h,
    (
      jal-fits w h,
      (
        λ o. IfSome-f3 (Fits w) (f3_of w == 0) (Jalr (rd_of w) (rs1_of w) (imm_i w)) (jalr-fits w h o),
        (
          λ o. IfSome-option_map (λ c. (cond_f3 c == f3_of w) ≡ true) (Fits w) (λ c. Branch c (rs1_of w) (rs2_of w) (imm_b w))
              (cond_of (f3_of w)) (IfSome-find (λ c. cond_f3 c == f3_of w) conds) (branch-fits w h o),
          (
            λ o. IfSome-option_map (λ x. (load_f3 x == f3_of w) ≡ true) (Fits w) (λ x. Load x (rd_of w) (rs1_of w) (imm_i w))
                (load_of (f3_of w)) (IfSome-find (λ x. load_f3 x == f3_of w) loads) (load-fits w h o),
            (
              λ o. IfSome-option_map (λ x. (store_f3 x == f3_of w) ≡ true) (Fits w) (λ x. Store x (rs1_of w) (rs2_of w) (imm_s w))
                  (store_of (f3_of w)) (IfSome-find (λ x. store_f3 x == f3_of w) stores) (store-fits w h o),
              (
                λ o. IfSome-option_map (λ op. ((imm_op_f3 op == f3_of w) && has_f7 (imm_op_f7 op) (f7_of w)) ≡ true) (Fits w) (λ op.
                    OpImm op (rd_of w) (rs1_of w) (imm_of_op op w)) (imm_op_of (f3_of w) (f7_of w))
                    (IfSome-find (λ op. (imm_op_f3 op == f3_of w) && has_f7 (imm_op_f7 op) (f7_of w)) imm_ops)
                    (λ op p. op_imm-fits op w h o (eqb-true (imm_op_f3 op) (f3_of w)
                    (and_parts (imm_op_f3 op == f3_of w) (has_f7 (imm_op_f7 op) (f7_of w)) p).0)
                    (and_parts (imm_op_f3 op == f3_of w) (has_f7 (imm_op_f7 op) (f7_of w)) p).1),
                (
                  λ o. IfSome-option_map (λ x. ((reg_op_f3 x == f3_of w) && (reg_op_f7 x == f7_of w)) ≡ true) (Fits w) (λ x.
                      Op x (rd_of w) (rs1_of w) (rs2_of w)) (reg_op_of (f3_of w) (f7_of w))
                      (IfSome-find (λ x. (reg_op_f3 x == f3_of w) && (reg_op_f7 x == f7_of w)) reg_ops) (op-fits w h o),
                  (
                    λ o. IfSome-f3 (Fits w) (f3_of w == 0) (Fence (fence_fields w)) (fence-fits w h o),
                    (λ o. system-fits w, tt),
                  ),
                ),
              ),
            ),
          ),
        ),
      ),
    ),
  ),
)

-- what a word decodes to fits it
pub decoded-fits : (w : ℕ) → w < 2 ^ 32 → IfSome (decoded w) (Fits w)
unfolding decoded
decoded-fits w h = IfSome-rows w rows (AreSound-rows w h)

-- one part of what fits
pub IfSome-weaker : (P Q : Inst → Type 0) (o : Option Inst) → IfSome o P → ((i : Inst) → P i → Q i) → IfSome o Q
IfSome-weaker P Q None h k = tt
IfSome-weaker P Q (Some i) h k = k i h
