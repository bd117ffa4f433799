use Rattle.std.proofs.Common.{◌∙◌, ap, sym, subst, length, map, arith}
use Rattle.std.specs.List.{AllByRecursion, flat_map}
use Rattle.std.proofs.lemmas.Result.{IfOk-weaker}
use Rattle.mx_words.specs.Newest.{owners}
use Rattle.mx_boot.specs.Areas.{homes}
use Rattle.mx_boot.specs.Boot.{give, gives_of}
use Rattle.mx_boot.specs.Placed.{IsPlaced}
use Rattle.mx_boot.proofs.Giving.{few-owned, gives-are}
use Rattle.mx_boot.proofs.Placing.{owned_placed}
use Rattle.mx_boot.proofs.owners.owners.Goals as goal

pub give_all-requires-clause-placed : goal.give_all-requires-clause-placed
give_all-requires-clause-placed c =
    subst (λ n. AllByRecursion (IsPlaced n) c.as_slice.result.now) (sym c.ram_words.ensures)
    (subst (AllByRecursion (IsPlaced _)) (sym (c.as_slice.ensures.value ∙ c.in_ok-areas.ensures))
    (owned_placed c.args.plan.now c.args.images.now c.plan_is_in_range.ensures c.requires))

pub give_all-requires-clause-few : goal.give_all-requires-clause-few
give_all-requires-clause-few c =
    let few = few-owned c.args.plan.now c.args.images.now c.plan_is_in_range.ensures.module_count.1 in
    omega (arith, few, ap length (c.as_slice.ensures.value ∙ c.in_ok-areas.ensures))

pub returns : goal.returns
returns c =
    let plan = c.args.plan.now in
    IfOk-weaker c.give_all.result _ _ (λ all h. h ∙ ap (λ areas. owners (map give areas) c.ram_words.result) (c.as_slice.ensures.value
    ∙ c.in_ok-areas.ensures)
    ∙ ap (λ gs. owners gs c.ram_words.result) (gives-are (length plan.harts) (homes plan c.args.images.now))
    ∙ ap (owners (flat_map (gives_of (length plan.harts)) (homes plan c.args.images.now))) c.ram_words.ensures) c.give_all.ensures
