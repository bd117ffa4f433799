-- Rows of elements that are judged after the earlier ones.
use Rattle.std.proofs.Common.{◌≡◌, ℕ, List, [], ◌∷◌, ◌++◌, take, drop, map, Option, ap, ◌∙◌, sym, append_assoc}
use Rattle.std.specs.Option.{option_or}
use Rattle.std.proofs.lemmas.List.{append-nil}
use Rattle.mx_words.specs.FirstRow.{first_row}
use Rattle.mx_words.proofs.FirstRowLaws.{first_row-append}
use Rattle.mx_manifest.specs.declared.fault.BootFault.{BootFault}
use Rattle.mx_boot.specs.declared.area.Area.{Area}
use Rattle.mx_boot.specs.Faults.{Fault, each_behind, areas_rows}

pub behind-append : {A B : Type 0} (keep : A → B) (rows : List B → A → List Fault) (earlier : List B) (xs ys : List A)
    → each_behind keep rows earlier (xs ++ ys) ≡ each_behind keep rows earlier xs ++ each_behind keep rows (earlier ++ map keep xs) ys
behind-append keep rows earlier [] ys = ap (λ e. each_behind keep rows e ys) (sym (append-nil earlier))
behind-append keep rows earlier (x ∷ xs) ys =
    let first = rows earlier x in
    ap (λ rs. first ++ rs) (behind-append keep rows (earlier ++ keep x ∷ []) xs ys)
    ∙ ap (λ e. first ++ (each_behind keep rows (earlier ++ keep x ∷ []) xs ++ each_behind keep rows e ys))
    (append_assoc earlier (keep x ∷ []) (map keep xs))
    ∙ sym (append_assoc first (each_behind keep rows (earlier ++ keep x ∷ []) xs)
    (each_behind keep rows (earlier ++ keep x ∷ map keep xs) ys))

pub first_behind : {A B : Type 0} (keep : A → B) (rows : List B → A → List Fault) (earlier : List B) (xs ys : List A)
    → first_row (each_behind keep rows earlier (xs ++ ys)) ≡ option_or (first_row (each_behind keep rows earlier xs))
    (first_row (each_behind keep rows (earlier ++ map keep xs) ys))
first_behind keep rows earlier xs ys = ap first_row (behind-append keep rows earlier xs ys)
    ∙ first_row-append (each_behind keep rows earlier xs) _

-- areas from a place on, after those before it
abbrev pub areas_from : ℕ → ℕ → List Area → Option BootFault
areas_from words i all = first_row (areas_rows words (take i all) (drop i all))
