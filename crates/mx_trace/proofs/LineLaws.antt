-- Texts put before what was there.
use Rattle.std.proofs.Common.{◌≡◌, ℕ, ◌≤◌, List, [], ◌++◌, length, sym, ap, ◌∙◌, arith, append_assoc}
use Rattle.std.proofs.lemmas.List.{append-nil}
use Rattle.mx_model.specs.declared.values.TurnKind.{TurnKind}
use Rattle.mx_model.specs.declared.values.TurnKind.TheVariants as T
use Rattle.mx_trace.specs.Lines.{kind_name}

-- a text that was put where nothing was
pub text_alone : {text line old whole : List ℕ} → whole ≡ line → line ≡ text ++ old → old ≡ [] → whole ≡ text
text_alone {text} e f g = e ∙ f ∙ ap (λ xs. text ++ xs) g ∙ append-nil text

-- a part was put before others
pub part_put : (part rest old : List ℕ) {line next : List ℕ} → line ≡ rest ++ old → next ≡ part ++ line → next ≡ (part ++ rest) ++ old
part_put part rest old e f = f ∙ ap (λ xs. part ++ xs) e ∙ sym (append_assoc part rest old)

-- the longest names of kinds
pub kind_few : (kind : TurnKind) → length (kind_name kind) ≤ 8
kind_few T.Idle = omega arith
kind_few T.Waited = omega arith
kind_few T.Ran = omega arith
kind_few T.Crossed = omega arith
kind_few T.Returned = omega arith
kind_few T.Trapped = omega arith
kind_few T.Called = omega arith
