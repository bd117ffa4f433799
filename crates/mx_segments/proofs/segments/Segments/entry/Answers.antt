use Rattle.std.proofs.Common.{◌≡◌, ℕ, ◌-◌, ◌≤◌, ◌↔◌, List, IsNone, IfSome, sym, subst}
use Rattle.mx_words.specs.declared.perm.Perm.{Perm}
use Rattle.mx_words.specs.Runs.{runs}
use Rattle.mx_segments.specs.Entries.{entry_of}
use Rattle.mx_segments.specs.Shape.{map_of-maps_in, row_of}
use Rattle.mx_segments.proofs.segments.Segments.entry.Goals as goal

pub entry_at-requires-clause-row : goal.entry_at-requires-clause-row
entry_at-requires-clause-row c = let t = c.args.self.now in row_of t.words t.leaf t.chains.lists c.args.domain c.requires

pub entry_at-requires-clause-sound : goal.entry_at-requires-clause-sound
entry_at-requires-clause-sound c = let t = c.args.self.now in
    t.kept.sound (c.args.domain - 1) (row_of t.words t.leaf t.chains.lists c.args.domain c.requires)

pub returns-clause-none : goal.returns-clause-none
returns-clause-none c =
    let t = c.args.self.now in
    let e = map_of-maps_in t.words t.leaf t.chains.lists c.args.domain c.requires in
    let N : List Perm → Type 0 = λ m. IsNone c.entry_at.result ↔ (runs m ≤ c.args.i) in
    subst N (sym e) c.entry_at.ensures.none

pub returns-clause-entry : goal.returns-clause-entry
returns-clause-entry c =
    let t = c.args.self.now in
    let e = map_of-maps_in t.words t.leaf t.chains.lists c.args.domain c.requires in
    let N : List Perm → Type 0 = λ m. IfSome c.entry_at.result (λ (x : ℕ). x ≡ entry_of m c.args.i) in
    subst N (sym e) c.entry_at.ensures.entry
