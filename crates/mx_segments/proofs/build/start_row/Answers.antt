use Rattle.std.proofs.Common.{◌≡◌, [], ◌∙◌, arith}
use Rattle.mx_words.specs.Newest.{map}
use Rattle.mx_segments.specs.Store.{frames_in, word_in}
use Rattle.mx_segments.specs.Entries.{IsChain}
use Rattle.mx_segments.proofs.LaidLaws.{means, means_itself}
use Rattle.mx_segments.proofs.BuildLaws.{start_chain}
use Rattle.mx_segments.proofs.build.start_row.Goals.{After-put}
use Rattle.mx_segments.proofs.build.start_row.Goals as goal

chain : (c : After-put) → IsChain c.args.words (frames_in c.grow.new.chains.lists c.args.row)
    (word_in c.put.new.leaf c.grow.new.chains.lists c.args.row) (map [] c.args.words)
chain c =
    let r = c.args.row in
    let ls = c.grow.new.chains.lists in
    let one : frames_in ls r ≡ 1 = omega (arith, c.grow.ensures.frames, c.requires.empty) in
    start_chain c.args.words (frames_in ls r) (word_in c.put.new.leaf ls r) c.requires.some one c.put.ensures.here
    (λ k pos lt. c.put.ensures.elsewhere k (omega (arith, one)) (omega arith)
    ∙ c.grow.ensures.zeros k (omega (arith, c.requires.empty)) (omega (arith, one)))

pub returns-clause-sound : goal.returns-clause-sound
returns-clause-sound c = means_itself c.args.words (frames_in c.grow.new.chains.lists c.args.row)
    (word_in c.put.new.leaf c.grow.new.chains.lists c.args.row) (map [] c.args.words) (chain c)

pub returns-clause-map : goal.returns-clause-map
returns-clause-map c = means c.args.words (frames_in c.grow.new.chains.lists c.args.row)
    (word_in c.put.new.leaf c.grow.new.chains.lists c.args.row) (map [] c.args.words) (chain c)
