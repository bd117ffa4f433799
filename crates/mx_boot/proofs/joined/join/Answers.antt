use Rattle.std.proofs.Common.{rules, ◌∙◌, ◌≤◌, ap, sym, subst, length}
use Rattle.mx_check.specs.Calls.{new_harts}
use Rattle.mx_model.specs.Gates.{AreSingle}
use Rattle.mx_supervisor.specs.Parts.{AreJoined}
use Rattle.mx_boot.proofs.Joining.{gates-few, gates-hold, gates-single, parts-are, parts-joined}
use Rattle.mx_boot.proofs.joined.join.Goals as goal

pub gates-gates-requires-clause-single : goal.gates-gates-requires-clause-single
gates-gates-requires-clause-single g c =
    subst AreSingle (sym (c.as_slice.ensures.value ∙ c.requires.layout.gates))
    (gates-single c.args.plan.now c.args.images.now c.plan_is_in_range.ensures c.requires.layout.faultless)

pub gates-gates-requires-clause-few : goal.gates-gates-requires-clause-few
gates-gates-requires-clause-few g c =
    subst (λ gs. length gs ≤ 256) (sym (c.as_slice.ensures.value ∙ c.requires.layout.gates))
    (gates-few c.args.plan.now c.args.images.now c.plan_is_in_range.ensures c.requires.layout.faultless)

pub new-requires : goal.new-requires
new-requires g c =
    let plan = c.args.plan.now in
    let images = c.args.images.now in
    let inputs = c.args.inputs.now in
    let t = g.T.PermTables in
    let tables = ap (λ k. k.tables) c.new-checker.ensures in
    let maps = ap t.maps tables ∙ c.in-Ok-tables.ensures.maps in
    let size = ap t.size tables ∙ c.in-Ok-tables.ensures.size in
    let gates = c.gates-gates.ensures ∙ c.as_slice.ensures.value ∙ c.requires.layout.gates in
    let parts = parts-are plan images inputs t.kind (t.maps c.new-checker.result.tables) (t.size c.new-checker.result.tables)
    (t.limits c.new-checker.result.tables) _ c.new-checker.result.harts c.in-Ok.ram c.in-Ok-owners.owners c.gates-gates.result
    c.in-Ok-heaps.heaps
    c.requires.kind maps size (ap t.limits tables ∙ c.in-Ok-tables.ensures.limit) c.requires.buffer (ap (λ k. k.harts) c.new-checker.ensures
    ∙ ap new_harts c.harts.ensures.value)
    c.in-Ok.ensures c.in-Ok-owners.ensures gates c.in-Ok-heaps.ensures in (
      search rules,
      (
        search,
        (
          subst AreJoined (sym parts) (parts-joined plan images c.plan_is_in_range.ensures c.requires.layout.faultless inputs),
          gates-hold plan images (t.maps c.new-checker.result.tables) (t.size c.new-checker.result.tables) c.gates-gates.result
              c.plan_is_in_range.ensures c.requires.layout.faultless maps size gates,
        ),
      ),
    )

pub returns-in-Err-clause-refused : goal.returns-in-Err-clause-refused
returns-in-Err-clause-refused g c = c.in-Err.ensures.refused c.args.inputs.now
