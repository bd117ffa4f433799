-- Texts of lines put on a sink.
use Rattle.std.proofs.Common.{◌≡◌, ℕ, List, [], ◌∷◌, ◌++◌, codes, decimal, sym, ap, ◌∙◌, append_assoc}
use Rattle.std.specs.List.{concat}
use Rattle.std.proofs.lemmas.List.{append-nil}
use Rattle.mx_commands.specs.Refusal.{fault_text, detail_text}

-- the pieces of the line of a refused boot
pub refused_parts : (n : ℕ) (table index place name : List ℕ) (d : ℕ) → table ++ index ≡ place
    → codes "refused fault=" ++ (decimal n ++ (codes " at=" ++ (table ++ (index ++ detail_text name d))))
    ≡ concat (fault_text n ∷ place ∷ detail_text name d ∷ [])
unfolding fault_text
refused_parts n table index place name d is =
    let detail = detail_text name d in
    sym (ap (λ t. codes "refused fault=" ++ t) (append_assoc (decimal n) (codes " at=") (place ++ (detail ++ [])))
    ∙ ap (λ t. codes "refused fault=" ++ (decimal n ++ (codes " at=" ++ t)))
    (ap (λ t. place ++ t) (append-nil detail) ∙ ap (λ t. t ++ detail) (sym is) ∙ append_assoc table index detail))
