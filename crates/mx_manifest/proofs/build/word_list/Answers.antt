use Rattle.std.proofs.Common.{◌≡◌, ◌∙◌, map, unwrap_or, rules}
use Rattle.std.proofs.iter.runs.Made.{chains}
use Rattle.toml.specs.View.{view}
use Rattle.mx_manifest.specs.Reads.{number_of}
use Rattle.mx_manifest.proofs.Short.{collected_length}
use Rattle.mx_manifest.proofs.Values.{map_data}
use Rattle.mx_manifest.proofs.build.word_list.Goals as goal

pub new-requires : goal.new-requires
new-requires c =
    let made : c.in_ok-words.words.items ≡ map (λ v. unwrap_or (number_of (view v)) 0) c.args.values.now = search (rules, chains) in
    collected_length (λ v. unwrap_or (number_of (view v)) 0) c.args.values.now 65536 c.in_ok-words.words.items made c.requires

pub returns : goal.returns
returns c =
    let made : c.in_ok-words.words.items ≡ map (λ v. unwrap_or (number_of (view v)) 0) c.args.values.now = search (rules, chains) in
    c.new.ensures ∙ made ∙ map_data (λ d. unwrap_or (number_of d) 0) c.args.values.now
