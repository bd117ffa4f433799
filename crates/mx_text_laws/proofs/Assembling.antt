-- The source of an instruction's text has no fault, and its program is one segment with the instruction's word.
use Rattle.std.proofs.Common.{◌≡◌, ◌==◌, ℕ, ◌<◌, ◌⊎◌, inl, inr, ⊎_elim, Bool, true, ◌&&◌, List, [], ◌∷◌, ◌++◌, length, refl, ap, ◌∙◌, arith}
use Rattle.std.proofs.Common.{None, Some, codes, nat_lt}
use Rattle.std.specs.List.{list_all, slice_split, onto_first}
use Rattle.std.specs.Str.Lines.{lines}
use Rattle.std.proofs.lemmas.Bool.{ltb-true, and_parts, ne_eqb}
use Rattle.std.proofs.lemmas.List.{length-append, append-nil}
use Rattle.mx_isa.specs.declared.inst.Inst.{Inst}
use Rattle.mx_isa.specs.declared.inst.Inst.TheVariants as insts
use Rattle.mx_isa.specs.Ranges.{IsValid}
use Rattle.mx_isa.specs.Table.{encoded}
use Rattle.mx_image.specs.Program.{Program}
use Rattle.mx_image.specs.Image.{little_endian}
use Rattle.mx_source.specs.declared.mnemonics.Keyword.TheVariants.{Text, Inst as Instruction}
use Rattle.mx_source.specs.declared.mnemonics.Form.{Form}
use Rattle.mx_source.specs.declared.mnemonics.Form.TheVariants.{Ecall, Ebreak}
use Rattle.mx_source.specs.declared.number.Number.{Number}
use Rattle.mx_source.specs.Characters.{is_in_name, is_in_word}
use Rattle.mx_source.specs.Operands.{is_name, pieces_of}
use Rattle.mx_source.specs.Numbers.{number_of, decimal_of, hexadecimal_of, fits, number_bits, plain_number}
use Rattle.mx_source.specs.Mnemonics.{form_name, keyword_of}
use Rattle.mx_source.specs.Lines.{Listed, is_word, statement_of, line_with_word, line_with_label, line_by_colon, trimmed_line, line_of}
use Rattle.mx_source.specs.Fields.{Fields, fields, no_value, no_fields, Given, fields_of, range_of}
use Rattle.mx_asm.specs.Places.{start, address_number, address_of, size_of, place_listed, place_after}
use Rattle.mx_asm.specs.Labels.{definition_of, with_name, labels_from}
use Rattle.mx_asm.specs.Instructions.{inst_of, offset_of}
use Rattle.mx_asm.specs.Faults.{operand_fault, label_fault, place_fault, line_fault, offset_fault, fault_from, offset_from}
use Rattle.mx_asm.specs.Denoted.{bytes_of, with_listed, program_from, program_of, first_fault, labels_of_source}
use Rattle.mx_trace.specs.Text.{inst_text, text_source}
use Rattle.mx_text_laws.proofs.Solid.{is_solid, solid, IsPart, AreParts, joined}
use Rattle.mx_text_laws.proofs.Words.{form_mnemonic, form_keyword}
use Rattle.mx_text_laws.proofs.Splitting.{line-text}
use Rattle.mx_text_laws.proofs.Readings.{IsRead, inst_read}

abbrev ends : ℕ → Bool
ends b = b == 10

-- no line ends in a text of such characters
split-solid : (xs rest : List ℕ) (first : List ℕ) (more : List (List ℕ)) → list_all is_solid xs ≡ true
    → slice_split ends rest ≡ first ∷ more → slice_split ends (xs ++ rest) ≡ (xs ++ first) ∷ more
split-solid [] rest first more h e = e
split-solid (c ∷ cs) rest first more h e =
    let p = and_parts (is_solid c) (list_all is_solid cs) h in
    rw (solid c p.0).ends (ap (onto_first c) (split-solid cs rest first more p.1 e))

split-joined : (os : List (List ℕ)) → AreParts os → slice_split ends (joined os) ≡ joined os ∷ []
split-joined [] h = refl
split-joined (o ∷ []) h = rw append-nil at (split-solid o [] [] [] h.0.all refl)
split-joined (o ∷ p ∷ os) h =
    let rest = split-joined (p ∷ os) h.1 in
    let more : slice_split ends (44 ∷ 32 ∷ joined (p ∷ os)) ≡ (44 ∷ 32 ∷ joined (p ∷ os)) ∷ [] =
    ap (λ l. onto_first 44 (onto_first 32 l)) rest in
    split-solid o (44 ∷ 32 ∷ joined (p ∷ os)) (44 ∷ 32 ∷ joined (p ∷ os)) [] h.0.all more

-- the source has two lines
pub two_lines : (t : List ℕ) → 0 < length t → slice_split ends t ≡ t ∷ []
    → lines (codes ".text 0x80000000" ++ 10 ∷ t) ≡ codes ".text 0x80000000" ∷ t ∷ []
two_lines t some e = rw (e, ne_eqb (length t) 0 (λ z. omega (arith, z, some))) refl

first_line : line_of (codes ".text 0x80000000") ≡ record { label = None; statement = Listed Text (codes "0x80000000" ∷ []) }
unfolding line_of trimmed_line line_by_colon line_with_label line_with_word statement_of keyword_of is_word is_name pieces_of number_of
    hexadecimal_of decimal_of
first_line = refl

-- the place after it
after_first : place_after (Listed Text (codes "0x80000000" ∷ [])) start ≡ record { segments = 1; here = 0x80000000; total = 0 }
unfolding place_listed address_of address_number number_of hexadecimal_of
after_first = refl

first_faultless : line_fault [] 1 start None (Listed Text (codes "0x80000000" ∷ [])) ≡ None
unfolding line_fault operand_fault place_fault label_fault size_of address_of address_number number_of hexadecimal_of
first_faultless = refl

module _ (t : List ℕ) (form : Form) (os : List (List ℕ)) (f : Fields) (z : Number)
    (lined : lines (codes ".text 0x80000000" ++ 10 ∷ t) ≡ codes ".text 0x80000000" ∷ t ∷ [])
    (line : line_of t ≡ record { label = None; statement = Listed (Instruction form) os }) (is : fields_of form os ≡ Some f)
    (value : f.value ≡ Given z) (ranged : fits (range_of form) z ≡ true) where
  no_labels : labels_of_source (codes ".text 0x80000000" ++ 10 ∷ t) ≡ []
  unfolding labels_from with_name
  no_labels = rw (lined, first_line, line) refl

  second_faultless : line_fault [] 2 (record { segments = 1; here = 0x80000000; total = 0 }) None (Listed (Instruction form) os) ≡ None
  unfolding line_fault operand_fault place_fault label_fault size_of
  second_faultless = rw (is, value, ranged) refl

  faultless : fault_from [] start 1 (codes ".text 0x80000000" ∷ t ∷ []) ≡ None
  unfolding fault_from
  faultless = rw (first_line, first_faultless, after_first, line, second_faultless) refl

  fitting : offset_from [] start 1 (codes ".text 0x80000000" ∷ t ∷ []) ≡ None
  unfolding offset_from offset_fault
  fitting = rw (first_line, line, is, value, ranged) refl

  pub source_faultless : first_fault (codes ".text 0x80000000" ++ 10 ∷ t) ≡ None
  unfolding first_fault
  source_faultless = rw (no_labels, lined, faultless, fitting) refl

  pub source_program : (i : Inst) → inst_of form f (number_bits z) ≡ i → program_of (codes ".text 0x80000000" ++ 10 ∷ t) ≡ record {
    entry = 0x80000000;
    segments = record { address = 0x80000000; flags = 5; bytes = little_endian 4 (encoded i) } ∷ [];
    labels = [];
  }
  unfolding program_of program_from with_listed bytes_of definition_of address_of address_number number_of hexadecimal_of place_listed
  source_program i e =
      let made : Inst → Program = λ j. record {
        entry = 0x80000000;
        segments =
            record { address = 0x80000000; flags = 5; bytes = little_endian 4 (encoded j) } ∷ [];
        labels = [];
      } in
      let first : program_of (codes ".text 0x80000000" ++ 10 ∷ t) ≡ made (inst_of form f (number_bits (offset_of [] 0x80000000 f.value))) =
      rw (no_labels, lined, first_line, line, is) refl in
      first ∙ ap made (ap (λ v. inst_of form f (number_bits (offset_of [] 0x80000000 v))) value ∙ e)

-- the two instructions without operands
ecall_line : line_of (codes "ecall") ≡ record { label = None; statement = Listed (Instruction Ecall) [] }
unfolding line_of trimmed_line line_by_colon line_with_label line_with_word statement_of keyword_of is_word is_name pieces_of
ecall_line = refl

ebreak_line : line_of (codes "ebreak") ≡ record { label = None; statement = Listed (Instruction Ebreak) [] }
unfolding line_of trimmed_line line_by_colon line_with_label line_with_word statement_of keyword_of is_word is_name pieces_of
ebreak_line = refl

no_operands : (form : Form) → (form ≡ Ecall) ⊎ (form ≡ Ebreak) → fields_of form [] ≡ Some (fields 0 0 0 no_value)
unfolding fields_of no_fields
no_operands form (inl e) = rw e refl
no_operands form (inr e) = rw e refl

-- the text of any other
name_part : (form : Form) → IsPart (form_name form)
name_part form =
    let name = form_name form in
    let a = and_parts (nat_lt 0 (length name) && list_all is_solid name && list_all is_in_name name && list_all is_in_word name)
    (is_word name) (form_mnemonic form) in
    let b = and_parts (nat_lt 0 (length name) && list_all is_solid name && list_all is_in_name name) (list_all is_in_word name) a.0 in
    let d = and_parts (nat_lt 0 (length name) && list_all is_solid name) (list_all is_in_name name) b.0 in
    let e = and_parts (nat_lt 0 (length name)) (list_all is_solid name) d.0 in
    record { some = ltb-true 0 (length name) e.0; all = e.1 }

read_lines : (i : Inst) (r : IsRead i) → lines (codes ".text 0x80000000" ++ 10 ∷ (form_name r.form ++ 32 ∷ joined r.os))
    ≡ codes ".text 0x80000000" ∷ (form_name r.form ++ 32 ∷ joined r.os) ∷ []
read_lines i r =
    let p = name_part r.form in
    let s = split-joined r.os r.parts in
    two_lines (form_name r.form ++ 32 ∷ joined r.os) (omega (arith, length-append (form_name r.form) (32 ∷ joined r.os)))
    (split-solid (form_name r.form) (32 ∷ joined r.os) (32 ∷ joined r.os) [] p.all (ap (onto_first 32) s))

read_line : (i : Inst) (r : IsRead i) → line_of (form_name r.form ++ 32 ∷ joined r.os)
    ≡ record { label = None; statement = Listed (Instruction r.form) r.os }
read_line i r = line-text (form_name r.form) (Instruction r.form) r.os (form_mnemonic r.form) (form_keyword r.form) r.parts r.some
    r.operands

read_faultless : (i : Inst) → IsRead i → first_fault (text_source i) ≡ None
unfolding text_source
read_faultless i r = rw r.text (source_faultless (form_name r.form ++ 32 ∷ joined r.os) r.form r.os r.f r.z (read_lines i r) (read_line i r)
    r.is r.value r.ranged)

read_program : (i : Inst) → IsRead i → program_of (text_source i) ≡ record {
  entry = 0x80000000;
  segments = record { address = 0x80000000; flags = 5; bytes = little_endian 4 (encoded i) } ∷ [];
  labels = [];
}
unfolding text_source
read_program i r = rw r.text (source_program (form_name r.form ++ 32 ∷ joined r.os) r.form r.os r.f r.z (read_lines i r) (read_line i r)
    r.is r.value r.ranged i r.inst)

pub text_faultless : (i : Inst) → IsValid i → first_fault (text_source i) ≡ None
unfolding text_source inst_text
text_faultless i v =
    ⊎_elim
    (λ e. rw e (source_faultless (codes "ecall") Ecall [] (fields 0 0 0 no_value) (plain_number 0)
    (two_lines (codes "ecall") (omega arith) refl) ecall_line (no_operands Ecall (inl refl)) refl refl))
    (λ o. ⊎_elim
    (λ e. rw e (source_faultless (codes "ebreak") Ebreak [] (fields 0 0 0 no_value) (plain_number 0)
    (two_lines (codes "ebreak") (omega arith) refl) ebreak_line (no_operands Ebreak (inr refl)) refl refl))
    (λ r. read_faultless i r) o)
    (inst_read i v)

pub text_program : (i : Inst) → IsValid i → program_of (text_source i) ≡ record {
  entry = 0x80000000;
  segments = record { address = 0x80000000; flags = 5; bytes = little_endian 4 (encoded i) } ∷ [];
  labels = [];
}
unfolding text_source inst_text inst_of
text_program i v =
    ⊎_elim
    (λ e. rw e (source_program (codes "ecall") Ecall [] (fields 0 0 0 no_value) (plain_number 0)
    (two_lines (codes "ecall") (omega arith) refl) ecall_line (no_operands Ecall (inl refl)) refl refl insts.Ecall refl))
    (λ o. ⊎_elim
    (λ e. rw e (source_program (codes "ebreak") Ebreak [] (fields 0 0 0 no_value) (plain_number 0)
    (two_lines (codes "ebreak") (omega arith) refl) ebreak_line (no_operands Ebreak (inr refl)) refl refl insts.Ebreak refl))
    (λ r. read_program i r) o)
    (inst_read i v)
