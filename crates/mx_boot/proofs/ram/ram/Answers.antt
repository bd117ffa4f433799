use Rattle.std.proofs.Common.{◌≡◌, ◌∙◌, ℕ, ◌*◌, ◌≤◌, List, [], ap, sym, subst, length, replicate, take, fold, get_or, IfSome, arith}
use Rattle.std.specs.List.{AllByRecursion, flat_map}
use Rattle.std.proofs.lemmas.Grind.{fold-append}
use Rattle.std.proofs.lemmas.List.{take_all}
use Rattle.mx_manifest.specs.Plan.{Said}
use Rattle.mx_boot.specs.Areas.{all_inputs, contents, homes, input_content}
use Rattle.mx_boot.specs.Boot.{with_content}
use Rattle.mx_boot.specs.Faults.{ram_words}
use Rattle.mx_boot.specs.Placed.{HasRoom}
use Rattle.mx_boot.specs.Seen.{seen}
use Rattle.mx_boot.proofs.Homes.{length-homes}
use Rattle.mx_boot.proofs.Placing.{inputs_room, ready}
use Rattle.mx_boot.proofs.Puts.{next-contents}
use Rattle.mx_boot.proofs.ram.ram.Goals as goal

pub put_home-requires-clause-room : goal.put_home-requires-clause-room
put_home-requires-clause-room c =
    let h = seen c.home_at.result in
    subst (λ n. AllByRecursion (HasRoom n) (contents h)) (sym c.modules.invariant.1)
    (ready c.args.plan.now c.args.images.now c.plan_is_in_range.ensures c.requires.clear c.modules.i h c.home_at.ensures.home).room

pub put_home-requires-clause-aligned : goal.put_home-requires-clause-aligned
put_home-requires-clause-aligned c = (ready c.args.plan.now c.args.images.now c.plan_is_in_range.ensures c.requires.clear c.modules.i
    (seen c.home_at.result) c.home_at.ensures.home).aligned

pub modules-preserved : goal.modules-preserved
modules-preserved c = (
  next-contents contents (homes c.args.plan.now c.args.images.now) c.modules.i (seen c.home_at.result)
      (replicate (4 * ram_words c.args.plan.now) 0) c.modules.ram c.put_home.new.ram
      c.home_at.ensures.home c.modules.invariant.0 c.put_home.ensures.bytes,
  c.put_home.ensures.size ∙ c.modules.invariant.1,
)

-- the images of all modules, once the loop is over
put_all : (plan : Said) (images : List (List ℕ)) (i : ℕ) (ram : List ℕ) → length plan.modules ≤ i
    → ram ≡ fold with_content (replicate (4 * ram_words plan) 0) (flat_map contents (take i (homes plan images)))
    → ram ≡ fold with_content (replicate (4 * ram_words plan) 0) (flat_map contents (homes plan images))
put_all plan images i ram past is =
    let all : length (homes plan images) ≤ i = omega (arith, length-homes plan images, past) in
    is ∙ ap (λ hs. fold with_content (replicate (4 * ram_words plan) 0) (flat_map contents hs)) (take_all i (homes plan images) all)

pub put_inputs-requires-clause-room : goal.put_inputs-requires-clause-room
put_inputs-requires-clause-room c = λ i m at.
    subst (λ n. IfSome m.input (λ input. HasRoom n (input_content (get_or c.args.inputs.now i []) input))) (sym c.modules.invariant.1)
    (inputs_room c.args.plan.now c.args.images.now c.args.inputs.now c.plan_is_in_range.ensures c.requires.clear c.requires.inputs i m at)

pub returns : goal.returns
returns c =
    let plan = c.args.plan.now in
    let images = c.args.images.now in
    let past : length plan.modules ≤ c.modules.i = omega (arith, c.modules-i-end.ensures.value) in
    let zeros = replicate (4 * ram_words plan) 0 in
    c.put_inputs.ensures.bytes ∙ ap (λ ram. fold with_content ram (all_inputs plan c.args.inputs.now))
    (put_all plan images c.modules.i c.modules.ram past c.modules.invariant.0)
    ∙ sym (fold-append with_content zeros (flat_map contents (homes plan images)) (all_inputs plan c.args.inputs.now))
