use Rattle.mx_heap.specs.HeapState.{area_of}
use Rattle.mx_any.specs.Machines.{meaning}
use Rattle.mx_twin.specs.Told.{told}
use Rattle.mx_twin.proofs.PairLaws.{whole-of}
use Rattle.mx_twin.proofs.Watching.{alike-after, domain-after, first-inside, hart-after, second-inside, touched-is, watched-known}
use Rattle.mx_twin.proofs.Watching.{watched-ran, watched-unknown}
use Rattle.mx_twin.proofs.found.step_watched.Goals as goal

pub returns-then-is_free-clause-right : goal.returns-then-is_free-clause-right
returns-then-is_free-clause-right c =
    let f = meaning c.args.a.now in
    let g = meaning c.args.b.now in
    let v = whole-of f c.any_machine_is_valid.ensures.valid c.any_machine_is_valid.ensures.maps c.any_machine_is_valid.ensures.whole in
    let w = whole-of g c.any_machine_is_valid-2.ensures.valid c.any_machine_is_valid-2.ensures.maps c.any_machine_is_valid-2.ensures.whole
    in
    let x = c.step_pair-kinds.ensures.first in
    let y = c.step_pair-kinds.ensures.second in
    watched-ran c.args.domain c.args.hart f g _ _ c.requires.alike v w x y c.args.known c.requires.knows c.is_compared-compared.result
    c.is_compared-compared.ensures
    c.step_pair-kinds.result.0 c.step_pair-kinds.ensures.first_kind (c.is_free.ensures c.if-is_free.true)

pub found_known-requires-clause-alike : goal.found_known-requires-clause-alike
found_known-requires-clause-alike c =
    let f = meaning c.args.a.now in
    let g = meaning c.args.b.now in
    let v = whole-of f c.any_machine_is_valid.ensures.valid c.any_machine_is_valid.ensures.maps c.any_machine_is_valid.ensures.whole in
    let w = whole-of g c.any_machine_is_valid-2.ensures.valid c.any_machine_is_valid-2.ensures.maps c.any_machine_is_valid-2.ensures.whole
    in
    let x = c.step_pair-kinds.ensures.first in
    let y = c.step_pair-kinds.ensures.second in
    alike-after c.args.domain c.args.hart f g _ _ c.requires.alike v w x y

pub found_known-requires-clause-domain : goal.found_known-requires-clause-domain
found_known-requires-clause-domain c =
    let f = meaning c.args.a.now in
    let g = meaning c.args.b.now in
    let v = whole-of f c.any_machine_is_valid.ensures.valid c.any_machine_is_valid.ensures.maps c.any_machine_is_valid.ensures.whole in
    let w = whole-of g c.any_machine_is_valid-2.ensures.valid c.any_machine_is_valid-2.ensures.maps c.any_machine_is_valid-2.ensures.whole
    in
    let x = c.step_pair-kinds.ensures.first in
    let y = c.step_pair-kinds.ensures.second in
    domain-after c.args.domain c.args.hart f g _ _ c.requires.alike v w x y c.requires.domain

pub found_known-requires-clause-hart : goal.found_known-requires-clause-hart
found_known-requires-clause-hart c =
    let f = meaning c.args.a.now in
    let g = meaning c.args.b.now in
    let v = whole-of f c.any_machine_is_valid.ensures.valid c.any_machine_is_valid.ensures.maps c.any_machine_is_valid.ensures.whole in
    let w = whole-of g c.any_machine_is_valid-2.ensures.valid c.any_machine_is_valid-2.ensures.maps c.any_machine_is_valid-2.ensures.whole
    in
    let x = c.step_pair-kinds.ensures.first in
    let y = c.step_pair-kinds.ensures.second in
    hart-after c.args.domain c.args.hart f g _ _ c.requires.alike v w x y c.requires.hart

pub found_unknown-requires-clause-alike : goal.found_unknown-requires-clause-alike
found_unknown-requires-clause-alike c =
    let f = meaning c.args.a.now in
    let g = meaning c.args.b.now in
    let v = whole-of f c.any_machine_is_valid.ensures.valid c.any_machine_is_valid.ensures.maps c.any_machine_is_valid.ensures.whole in
    let w = whole-of g c.any_machine_is_valid-2.ensures.valid c.any_machine_is_valid-2.ensures.maps c.any_machine_is_valid-2.ensures.whole
    in
    let x = c.step_pair-kinds.ensures.first in
    let y = c.step_pair-kinds.ensures.second in
    alike-after c.args.domain c.args.hart f g _ _ c.requires.alike v w x y

pub found_unknown-requires-clause-domain : goal.found_unknown-requires-clause-domain
found_unknown-requires-clause-domain c =
    let f = meaning c.args.a.now in
    let g = meaning c.args.b.now in
    let v = whole-of f c.any_machine_is_valid.ensures.valid c.any_machine_is_valid.ensures.maps c.any_machine_is_valid.ensures.whole in
    let w = whole-of g c.any_machine_is_valid-2.ensures.valid c.any_machine_is_valid-2.ensures.maps c.any_machine_is_valid-2.ensures.whole
    in
    let x = c.step_pair-kinds.ensures.first in
    let y = c.step_pair-kinds.ensures.second in
    domain-after c.args.domain c.args.hart f g _ _ c.requires.alike v w x y c.requires.domain

pub found_unknown-requires-clause-hart : goal.found_unknown-requires-clause-hart
found_unknown-requires-clause-hart c =
    let f = meaning c.args.a.now in
    let g = meaning c.args.b.now in
    let v = whole-of f c.any_machine_is_valid.ensures.valid c.any_machine_is_valid.ensures.maps c.any_machine_is_valid.ensures.whole in
    let w = whole-of g c.any_machine_is_valid-2.ensures.valid c.any_machine_is_valid-2.ensures.maps c.any_machine_is_valid-2.ensures.whole
    in
    let x = c.step_pair-kinds.ensures.first in
    let y = c.step_pair-kinds.ensures.second in
    hart-after c.args.domain c.args.hart f g _ _ c.requires.alike v w x y c.requires.hart

pub found_known-requires-clause-first : goal.found_known-requires-clause-first
found_known-requires-clause-first c =
    let f = meaning c.args.a.now in
    let g = meaning c.args.b.now in
    let v = whole-of f c.any_machine_is_valid.ensures.valid c.any_machine_is_valid.ensures.maps c.any_machine_is_valid.ensures.whole in
    let w = whole-of g c.any_machine_is_valid-2.ensures.valid c.any_machine_is_valid-2.ensures.maps c.any_machine_is_valid-2.ensures.whole
    in
    let x = c.step_pair-kinds.ensures.first in
    let y = c.step_pair-kinds.ensures.second in
    let t = touched-is f c.args.hart c.step_pair-kinds.result.0 (area_of c.before-first.result.stored) (told c.before-first.result.called)
    (told c.touched-touched.result) c.touched-touched.ensures c.before-first.ensures.stored c.before-first.ensures.called
    c.step_pair-kinds.ensures.first_kind in
    first-inside c.args.domain c.args.hart f g _ _ c.requires.alike v w x y (told c.touched-touched.result) t

pub found_known-requires-clause-second : goal.found_known-requires-clause-second
found_known-requires-clause-second c =
    let f = meaning c.args.a.now in
    let g = meaning c.args.b.now in
    let v = whole-of f c.any_machine_is_valid.ensures.valid c.any_machine_is_valid.ensures.maps c.any_machine_is_valid.ensures.whole in
    let w = whole-of g c.any_machine_is_valid-2.ensures.valid c.any_machine_is_valid-2.ensures.maps c.any_machine_is_valid-2.ensures.whole
    in
    let x = c.step_pair-kinds.ensures.first in
    let y = c.step_pair-kinds.ensures.second in
    let u = touched-is g c.args.hart c.step_pair-kinds.result.1 (area_of c.before-second.result.stored) (told c.before-second.result.called)
    (told c.touched-other.result) c.touched-other.ensures c.before-second.ensures.stored c.before-second.ensures.called
    c.step_pair-kinds.ensures.second_kind in
    second-inside c.args.domain c.args.hart f g _ _ c.requires.alike v w x y (told c.touched-other.result) u

pub returns-then-known-clause-right : goal.returns-then-known-clause-right
returns-then-known-clause-right c =
    let f = meaning c.args.a.now in
    let g = meaning c.args.b.now in
    let v = whole-of f c.any_machine_is_valid.ensures.valid c.any_machine_is_valid.ensures.maps c.any_machine_is_valid.ensures.whole in
    let w = whole-of g c.any_machine_is_valid-2.ensures.valid c.any_machine_is_valid-2.ensures.maps c.any_machine_is_valid-2.ensures.whole
    in
    let x = c.step_pair-kinds.ensures.first in
    let y = c.step_pair-kinds.ensures.second in
    let t = touched-is f c.args.hart c.step_pair-kinds.result.0 (area_of c.before-first.result.stored) (told c.before-first.result.called)
    (told c.touched-touched.result) c.touched-touched.ensures c.before-first.ensures.stored c.before-first.ensures.called
    c.step_pair-kinds.ensures.first_kind in
    let u = touched-is g c.args.hart c.step_pair-kinds.result.1 (area_of c.before-second.result.stored) (told c.before-second.result.called)
    (told c.touched-other.result) c.touched-other.ensures c.before-second.ensures.stored c.before-second.ensures.called
    c.step_pair-kinds.ensures.second_kind in
    watched-known c.args.domain c.args.hart f g _ _ c.requires.alike v w x y c.args.known c.if-known.true c.requires.knows
    (told c.touched-touched.result) (told c.touched-other.result) t u
    c.found_known.result c.found_known.ensures

pub returns-clause-right : goal.returns-clause-right
returns-clause-right c =
    let f = meaning c.args.a.now in
    let g = meaning c.args.b.now in
    let v = whole-of f c.any_machine_is_valid.ensures.valid c.any_machine_is_valid.ensures.maps c.any_machine_is_valid.ensures.whole in
    let w = whole-of g c.any_machine_is_valid-2.ensures.valid c.any_machine_is_valid-2.ensures.maps c.any_machine_is_valid-2.ensures.whole
    in
    let x = c.step_pair-kinds.ensures.first in
    let y = c.step_pair-kinds.ensures.second in
    watched-unknown c.args.domain c.args.hart f g _ _ c.requires.alike v w x y c.args.known c.if-known.false c.requires.knows
    c.found_unknown.result c.found_unknown.ensures
