use Rattle.std.proofs.Common.{◌≡◌, ◌∙◌, ◌+◌, ℕ, suc, Option, Some, None, refl, arith, rules}
use Rattle.std.specs.Option.{option_map_or}
use Rattle.mx_manifest.proofs.Domains.{domain_in}
use Rattle.mx_manifest.proofs.names.Names.domain.Goals as goal

-- the number after a place that was found
counted : (found : Option ℕ) → option_map_or (λ i. i + 1) found 0 ≡ option_map_or suc found 0
counted None = refl
counted (Some i) = omega arith

pub returns : goal.returns
returns c =
    let made : c.map_or.result ≡ option_map_or (λ i. i + 1) c.get_index_of.result 0 = search rules in
    made ∙ counted c.get_index_of.result
    ∙ domain_in c.args.name.now c.self.inside.set.keys c.args.self.now c.get_index_of.result c.self.view_is c.get_index_of.ensures.index
