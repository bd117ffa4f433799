use Rattle.std.proofs.Common.{length}
use Rattle.mx_words.specs.Ranges.{most_words}
use Rattle.mx_table.specs.Tables.{IsShaped}
use Rattle.mx_supervisor.specs.Parts.{Parts, parts_of}
use Rattle.mx_supervisor.proofs.Joined.{sound-joined}
use Rattle.mx_machine.proofs.StartValid.{AreTyped, stack-at, starts-in-modules, whole-started}
use Rattle.mx_machine.proofs.machine.Machine.new.Goals as goal

pub start-requires-clause-each : goal.start-requires-clause-each
start-requires-clause-each g c = starts-in-modules _ c.args.starts.now c.requires.may.each

pub start-requires-clause-areas : goal.start-requires-clause-areas
start-requires-clause-areas g c = λ d. stack-at _ (length c.args.starts.now) most_words d c.args.stacks.now
    (g.met.T.PermTables.shaped c.args.parts.checker.tables).few_words c.requires.may.areas

pub invariant_of-result : goal.invariant_of-result
invariant_of-result g c =
    let T = g.T.PermTables in
    let p : Parts = parts_of {N = g.row.N} T c.args.parts in
    let shaped : IsShaped p.kind p.size p.limit p.maps = g.met.T.PermTables.shaped c.args.parts.checker.tables in
    let typed : AreTyped p = record {
      words = shaped.some_words;
      some_maps = shaped.some_maps;
      bytes = c.bytes_of.ensures;
      heaps = c.heaps_of.ensures;
      few_gates = c.get-few_gates.ensures.bounded;
      gates = c.requires.gates;
      one_gate = c.get-few_gates.ensures.apart;
    } in
    rw (c.start.ensures, c.copy.ensures) (whole-started p c.args.starts.now c.args.stacks.now (sound-joined p shaped c.requires.joined)
    c.requires.may
    c.starts_of.ensures.few c.starts_of.ensures.small typed c.spans_are_coherent.ensures.empty)
