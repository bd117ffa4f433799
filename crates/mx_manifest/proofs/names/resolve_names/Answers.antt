use Rattle.std.proofs.Common.{◌∙◌, Some, None, refl, ap, map}
use Rattle.mx_manifest.specs.Faults.{module_name}
use Rattle.mx_manifest.specs.Section.{section_view}
use Rattle.mx_manifest.proofs.Judging.{at_most, names_at_most, repeats_are, froms_are, homes_are, names_told}
use Rattle.mx_manifest.proofs.names.resolve_names.Goals as goal

pub read_names-requires : goal.read_names-requires
read_names-requires c = at_most _ _ 63 c.elements_at-modules.ensures c.requires.modules

pub froms_fault-requires-clause-few : goal.froms_fault-requires-clause-few
froms_fault-requires-clause-few c = at_most _ _ 63 c.elements_at-modules.ensures c.requires.modules

pub froms_fault-requires-clause-names : goal.froms_fault-requires-clause-names
froms_fault-requires-clause-names c =
    names_at_most _ _ (c.in_ok-names.ensures.names ∙ ap (map module_name) c.elements_at-modules.ensures) c.requires.modules

pub homes_fault-requires-clause-few : goal.homes_fault-requires-clause-few
homes_fault-requires-clause-few c = at_most _ _ 4 c.elements_at.ensures c.requires.harts

pub homes_fault-requires-clause-names : goal.homes_fault-requires-clause-names
homes_fault-requires-clause-names c =
    names_at_most _ _ (c.in_ok-names.ensures.names ∙ ap (map module_name) c.elements_at-modules.ensures) c.requires.modules

pub returns-in-Some-homes_fault-clause-fault : goal.returns-in-Some-homes_fault-clause-fault
returns-in-Some-homes_fault-clause-fault c =
    let top = section_view c.args.top in
    let same = c.elements_at-modules.ensures in
    let named = c.in_ok-names.ensures.names ∙ ap (map module_name) same in
    names_told top None None (Some _) (repeats_are top _ _ same c.in_ok-names.ensures.apart)
    (froms_are top _ _ _ same named c.froms_fault.ensures ∙ c.in_default.is)
    (homes_are top _ _ _ c.elements_at.ensures named c.homes_fault.ensures ∙ c.in-Some-homes_fault.is)

pub returns-in-Some-clause-fault : goal.returns-in-Some-clause-fault
returns-in-Some-clause-fault c =
    let top = section_view c.args.top in
    let same = c.elements_at-modules.ensures in
    names_told top None (Some _) _ (repeats_are top _ _ same c.in_ok-names.ensures.apart)
    (froms_are top _ _ _ same (c.in_ok-names.ensures.names ∙ ap (map module_name) same) c.froms_fault.ensures
    ∙ c.in-Some.is)
    refl

pub returns-clause-clear : goal.returns-clause-clear
returns-clause-clear c =
    let top = section_view c.args.top in
    let same = c.elements_at-modules.ensures in
    let named = c.in_ok-names.ensures.names ∙ ap (map module_name) same in
    names_told top None None None (repeats_are top _ _ same c.in_ok-names.ensures.apart)
    (froms_are top _ _ _ same named c.froms_fault.ensures ∙ c.in_default.is)
    (homes_are top _ _ _ c.elements_at.ensures named c.homes_fault.ensures ∙ c.in_default-homes_fault.is)
