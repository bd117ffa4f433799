use Rattle.std.proofs.Common.{◌≡◌, ℕ, List, ◌∷◌, None, option_map, ◌∙◌, ap, sym, refl}
use Rattle.mx_source.proofs.Steps.{pieces-some}
use Rattle.mx_source.specs.Operands.{single_of}
use Rattle.mx_source.specs.Fields.{fence_fields}
use Rattle.mx_source.specs.FieldViews.{fields_view}
use Rattle.mx_source.proofs.fields.fence_fields.Goals as goal

-- more than one operand says nothing
no_fence : (operands : List (List ℕ)) (first : List ℕ) (more : List (List ℕ)) → operands ≡ first ∷ more → single_of operands ≡ None
    → fence_fields operands ≡ None
unfolding fence_fields
no_fence operands first more e none = rw e (rw (rw e at none) refl)

pub returns-in_err-single-clause-fields : goal.returns-in_err-single-clause-fields
returns-in_err-single-clause-fields c =
    let e = pieces-some c.args.operands.now (sym c.is_empty.ensures ∙ c.if-is_empty.false) in
    ap (option_map fields_view) c.from_residual.ensures ∙ sym (no_fence _ _ _ e (sym c.in_err-single.ensures.single))
