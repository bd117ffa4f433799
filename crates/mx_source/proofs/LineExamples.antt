-- A label stands whatever follows its colon, and of two labels the first.
use Rattle.std.proofs.Common.{◌≡◌, codes, None, Some, refl}
use Rattle.mx_source.specs.Numbers.{number_of, decimal_of}
use Rattle.mx_source.specs.Operands.{is_name, text_of, register_of, name_between, indexed_of, pieces_of}
use Rattle.mx_source.specs.Lines.{other_form, is_word, line_with_word, line_with_label, line_with_name, line_by_colon, trimmed_line}
use Rattle.mx_source.specs.Lines.{line_of}

no-word : line_of (codes "done: ???") ≡ other_form (Some (codes "done"))
unfolding line_of trimmed_line line_by_colon line_with_name line_with_label line_with_word is_word is_name
no-word = refl

empty-operand : line_of (codes "done: .word 1,") ≡ other_form (Some (codes "done"))
unfolding line_of trimmed_line line_by_colon line_with_name line_with_label line_with_word is_word is_name pieces_of text_of register_of
    name_between indexed_of number_of decimal_of
empty-operand = refl

second-colon : line_of (codes "done :: ecall") ≡ other_form (Some (codes "done"))
unfolding line_of trimmed_line line_by_colon line_with_name line_with_label line_with_word is_word is_name
second-colon = refl

second-label : line_of (codes "done: again: ecall") ≡ other_form (Some (codes "done"))
unfolding line_of trimmed_line line_by_colon line_with_name line_with_label line_with_word is_word is_name pieces_of text_of register_of
    name_between indexed_of number_of decimal_of
second-label = refl

no-label : line_of (codes "9done: ecall") ≡ other_form None
unfolding line_of trimmed_line line_by_colon line_with_name line_with_label line_with_word is_word is_name
no-label = refl
