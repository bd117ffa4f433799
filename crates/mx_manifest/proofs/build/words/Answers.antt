use Rattle.toml.specs.View.{view}
use Rattle.mx_manifest.proofs.Short.{words_length}
use Rattle.mx_manifest.proofs.build.words.Goals as goal

pub word_list-requires : goal.word_list-requires
word_list-requires c = words_length _ (view c.in-Some.value.now) c.elements.result.now c.in-Some.ensures c.elements.ensures c.requires
