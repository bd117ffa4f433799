use Rattle.std.proofs.Common.{◌≡◌, List, length, ap, sym, subst, ◌∙◌}
use Rattle.std.specs.Prelude.{slice_get}
use Rattle.std.specs.Option.{option_map}
use Rattle.mx_words.specs.FirstFit.{Area}
use Rattle.mx_heap.specs.HeapState.{area_of}
use Rattle.mx_table.specs.Tables.{IsDomain}
use Rattle.mx_model.specs.State.{Flat, module_at}
use Rattle.mx_model.specs.Valid.{IsModule}
use Rattle.mx_supervisor.specs.Heaps.{heap_at}
use Rattle.mx_supervisor.proofs.Modules.{module-blocks}
use Rattle.mx_machine.specs.Held.{rest_of}
use Rattle.mx_machine.proofs.ReadLaws.{domain-in}
use Rattle.mx_machine.proofs.SizeLaws.{fits-supervisor}
use Rattle.mx_machine.proofs.machine.Machine.block.Goals as goal

pub block-requires : goal.block-requires
block-requires g c = (
  search fits-supervisor,
  subst (λ x. IsDomain x.bare.parts.maps c.args.domain) (sym c.self-inside.view_is)
      (domain-in c.self.inside.bare c.self.invariant.fits c.args.domain
      (subst (λ (f : Flat). IsModule (length f.core.modules) c.args.domain) (sym c.self.view_is) c.requires)),
)

pub returns : goal.returns
returns g c =
    let m = c.self.inside.bare in
    subst (λ (f : Flat). option_map area_of c.block.result ≡ slice_get (module_at f.core c.args.domain).blocks c.args.i) c.self.view_is
    (c.block.ensures ∙ ap (λ x. slice_get (heap_at x.bare.parts.heaps c.args.domain).blocks c.args.i) c.self-inside.view_is
    ∙ sym (ap (λ (bs : List Area). slice_get bs c.args.i) (module-blocks (rest_of m) m.parts c.args.domain)))
