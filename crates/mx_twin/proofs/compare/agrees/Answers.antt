use Rattle.std.proofs.Common.{◌&&◌, Bool, ℕ, sym, ◌∙◌, ap}
use Rattle.mx_model.specs.Reads.{flat_reads}
use Rattle.mx_model.specs.State.{hart_at}
use Rattle.mx_any.specs.Machines.{meaning}
use Rattle.mx_touched.specs.Views.{same_views}
use Rattle.mx_twin.proofs.PairLaws.{agrees-as, pair-of}
use Rattle.mx_twin.proofs.compare.agrees.Goals as goal

pub returns-then-same_hart : goal.returns-then-same_hart
returns-then-same_hart c =
    let f = meaning c.args.a.now in
    let g = meaning c.args.b.now in
    let v = c.any_machine_is_valid.ensures in
    let w = c.any_machine_is_valid-2.ensures in
    let p = pair-of f g c.requires.alike (record { valid = v.valid; maps = v.maps; whole = v.whole })
    (record { valid = w.valid; maps = w.maps; whole = w.whole }) in
    c.same_views.ensures
    ∙ ap (λ (n : ℕ). same_views (flat_reads f) f.core (flat_reads g) g.core n) c.hart.ensures.domain
    ∙ sym (ap (λ (b : Bool). b && same_views (flat_reads f) f.core (flat_reads g) g.core (hart_at f.core c.args.hart).domain)
    (sym c.same_hart.ensures ∙ c.if-same_hart.true))
    ∙ agrees-as f g c.args.hart p
