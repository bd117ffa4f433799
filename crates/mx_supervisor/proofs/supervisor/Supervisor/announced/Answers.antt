use Rattle.std.proofs.Common.{ℕ, sym, subst, arith}
use Rattle.mx_check.specs.Conditions.{IsWithin}
use Rattle.mx_supervisor.specs.Parts.{parts_of}
use Rattle.mx_supervisor.proofs.Announcing.{range-within}
use Rattle.mx_supervisor.proofs.supervisor.Supervisor.announced.Goals as goal

pub announced_range-requires-clause-words : goal.announced_range-requires-clause-words
announced_range-requires-clause-words g c = let few = (g.met.T.PermTables.shaped c.tables.result.now).few_words in
    omega (arith, c.words-words.ensures, few)

pub returns-clause-range : goal.returns-clause-range
returns-clause-range g c =
    rw (c.announced_range.ensures, c.words-words.ensures, c.tables.ensures, ← c.area.ensures)

pub returns-clause-within : goal.returns-clause-within
returns-clause-within g c =
    let p = parts_of g.T.PermTables c.args.self.now in
    subst (λ (r : ℕ × ℕ). IsWithin r.0 r.1 p.size) (sym (returns-clause-range g c)) (range-within p c.args.call.now c.requires.joined)
