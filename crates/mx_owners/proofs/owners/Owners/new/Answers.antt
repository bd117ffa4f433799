use Rattle.std.proofs.Common.{◌≡◌, [], ◌∷◌, ◌++◌, List, ap, ◌∙◌, refl, arith}
use Rattle.mx_owners.specs.declared.runs.Run.{Run}
use Rattle.mx_owners.specs.OwnerRuns.{Fill}
use Rattle.mx_owners.proofs.GiveLaws.{new_owners}
use Rattle.mx_owners.proofs.owners.Owners.new.Goals as goal

pub returns : goal.returns
returns c =
    let items : c.push_reserved.new.self.items ≡ record { end = c.args.words; owner = 0 } ∷ [] =
    c.push_reserved.ensures.items ∙ ap (λ (rs : List Run). rs ++ record { end = c.args.words; owner = 0 } ∷ []) c.in_ok-runs.ensures.items
    in
    rw items (new_owners c.args.words)

pub invariant_of-result : goal.invariant_of-result
invariant_of-result c =
    let items : c.push_reserved.new.self.items ≡ record { end = c.args.words; owner = 0 } ∷ [] =
    c.push_reserved.ensures.items ∙ ap (λ (rs : List Run). rs ++ record { end = c.args.words; owner = 0 } ∷ []) c.in_ok-runs.ensures.items
    in
    let fill : Fill 0 c.args.words 0 (record { end = c.args.words; owner = 0 } ∷ []) =
    (c.requires.some, (λ some. absurd (omega arith)), refl) in
    record {
      are = record { some = c.requires.some; in_ram = c.requires.in_ram; fill = rw items fill; few = rw items (omega arith) };
      room_is = omega (arith, c.push_reserved.ensures.capacity, c.in_ok-runs.ensures.capacity);
      next_is = c.in_ok-next.ensures.capacity;
    }
