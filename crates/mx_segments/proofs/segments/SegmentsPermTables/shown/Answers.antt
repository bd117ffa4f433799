use Rattle.std.proofs.Common.{◌-◌, List, sym, ◌∙◌, ap}
use Rattle.mx_words.specs.declared.perm.Perm.{Perm}
use Rattle.mx_words.specs.declared.tables.Kind.TheVariants as K
use Rattle.mx_words.specs.Reach.{stored}
use Rattle.mx_segments.specs.Shape.{map_of-maps_in, row_of}
use Rattle.mx_segments.proofs.segments.SegmentsPermTables.shown.Goals as goal

pub shown_in-requires-clause-row : goal.shown_in-requires-clause-row
shown_in-requires-clause-row c = let t = c.args.self.now in row_of t.words t.leaf t.chains.lists c.args.domain c.requires.domain

pub shown_in-requires-clause-sound : goal.shown_in-requires-clause-sound
shown_in-requires-clause-sound c = let t = c.args.self.now in
    t.kept.sound (c.args.domain - 1) (row_of t.words t.leaf t.chains.lists c.args.domain c.requires.domain)

pub returns : goal.returns
returns c = let t = c.args.self.now in c.shown_in.ensures ∙ ap (λ (m : List Perm). stored K.Segments m c.args.word)
    (sym (map_of-maps_in t.words t.leaf t.chains.lists c.args.domain c.requires.domain))
