use Rattle.std.proofs.Common.{◌≡◌, ℕ, true, not, ◌&&◌, List, ap, ◌∙◌, sym}
use Rattle.std.specs.List.{list_all, list_any}
use Rattle.std.specs.Str.{bytes_eq}
use Rattle.mx_manifest.specs.Forms.{is_name_byte}
use Rattle.mx_snapshot.specs.Stored.{StoredModule}
use Rattle.mx_resume.proofs.Places.{known_named}
use Rattle.mx_resume.proofs.names.is_new.Goals as goal

pub returns-then-is_name-clause-new : goal.returns-then-is_name-clause-new
returns-then-is_name-clause-new c = λ before names.
    let name = c.args.name.now in
    let known = c.is_known.ensures ∙ ap (λ (ns : List (List ℕ)). list_any (λ (n : List ℕ). bytes_eq n name) ns) names
    ∙ known_named before name in
    let all : list_all is_name_byte name ≡ true = sym c.is_name.ensures ∙ c.if-is_name.true in
    ap not known ∙ sym (ap (λ b. b && not (list_any (λ (m : StoredModule). bytes_eq m.name name) before)) all)
