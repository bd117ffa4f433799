use Rattle.std.proofs.Common.{◌≡◌, ◌∙◌, map, rules, sym}
use Rattle.std.proofs.iter.runs.Made.{chains}
use Rattle.std.proofs.lemmas.Simd.{map-map}
use Rattle.toml.specs.View.{view}
use Rattle.mx_manifest.specs.Reads.{text_of}
use Rattle.mx_manifest.specs.Faults.{domain_of}
use Rattle.mx_manifest.proofs.Short.{collected_length}
use Rattle.mx_manifest.proofs.Values.{map_data}
use Rattle.mx_manifest.proofs.build.domains.Goals as goal

pub new-requires : goal.new-requires
new-requires c =
    let made : c.in_ok-domains.domains.items ≡ map (λ v. domain_of c.args.names.now (text_of (view v))) c.args.values.now =
    search (rules, chains) in
    collected_length (λ v. domain_of c.args.names.now (text_of (view v))) c.args.values.now 65536 c.in_ok-domains.domains.items made
    c.requires.few

pub returns : goal.returns
returns c =
    let made : c.in_ok-domains.domains.items ≡ map (λ v. domain_of c.args.names.now (text_of (view v))) c.args.values.now =
    search (rules, chains) in
    c.new.ensures ∙ made ∙ map_data (λ d. domain_of c.args.names.now (text_of d)) c.args.values.now
    ∙ sym (map-map (domain_of c.args.names.now) text_of (map view c.args.values.now))
