use Rattle.std.proofs.Common.{◌≡◌, Some, Option, ℕ, is_some, true, false, rules}
use Rattle.std.proofs.lemmas.Map.Text.{hash_map_updates_str}
use Rattle.mx_elf.specs.Known.{known_in}
use Rattle.mx_elf.proofs.Several.{given, none-or, some-or}
use Rattle.mx_elf.proofs.together.give.Goals as goal

pub returns-then-is_none : goal.returns-then-is_none
returns-then-is_none c = λ q.
    let name = c.args.name.now in
    let before = c.args.values.now in
    let w : Option ℕ = Some c.args.value in
    let after = c.get_mut.follows.lender w in
    let has : known_in before name ≡ Some c.in-Some.place.now = search rules in
    let none : is_some c.in-Some.place.now ≡ false = search rules in
    let written = (c.get_mut.follows.holds w).3 (search rules) in
    given name q c.args.value c.in-Some.place.now w (known_in before) (known_in after q) has (none-or _ _ none)
    (hash_map_updates_str name before after (Some w) written q)

pub returns-else-is_none : goal.returns-else-is_none
returns-else-is_none c = λ q.
    let name = c.args.name.now in
    let before = c.args.values.now in
    let w : Option ℕ = c.in-Some.place.now in
    let after = c.get_mut.follows.lender w in
    let has : known_in before name ≡ Some w = search rules in
    let some : is_some w ≡ true = search rules in
    let written = (c.get_mut.follows.holds w).3 (search rules) in
    given name q c.args.value w w (known_in before) (known_in after q) has (some-or _ _ some)
    (hash_map_updates_str name before after (Some w) written q)
