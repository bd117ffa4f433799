use Rattle.std.proofs.Common.{◌≡◌, length, ap, sym, subst, ◌∙◌}
use Rattle.mx_heap.specs.HeapState.{area_of}
use Rattle.mx_table.specs.Tables.{IsDomain}
use Rattle.mx_model.specs.State.{Flat, module_at}
use Rattle.mx_model.specs.Valid.{IsModule}
use Rattle.mx_supervisor.specs.Heaps.{heap_at}
use Rattle.mx_supervisor.proofs.Modules.{module-heap}
use Rattle.mx_machine.specs.Held.{rest_of}
use Rattle.mx_machine.proofs.ReadLaws.{domain-in}
use Rattle.mx_machine.proofs.SizeLaws.{fits-supervisor}
use Rattle.mx_machine.proofs.machine.Machine.heap_area.Goals as goal

pub heap_area-requires : goal.heap_area-requires
heap_area-requires g c = (
  search fits-supervisor,
  subst (λ x. IsDomain x.bare.parts.maps c.args.domain) (sym c.self-inside.view_is)
      (domain-in c.self.inside.bare c.self.invariant.fits c.args.domain
      (subst (λ (f : Flat). IsModule (length f.core.modules) c.args.domain) (sym c.self.view_is) c.requires)),
)

pub returns : goal.returns
returns g c =
    let m = c.self.inside.bare in
    subst (λ (f : Flat). area_of c.heap_area.result ≡ (module_at f.core c.args.domain).heap) c.self.view_is
    (c.heap_area.ensures ∙ ap (λ x. (heap_at x.bare.parts.heaps c.args.domain).area) c.self-inside.view_is
    ∙ sym (module-heap (rest_of m) m.parts c.args.domain))
