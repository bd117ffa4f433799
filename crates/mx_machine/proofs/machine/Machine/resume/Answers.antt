use Rattle.std.proofs.Common.{◌≡◌, ℕ, true, List, refl, sym, ap, subst, ◌∙◌, None}
use Rattle.mx_check.specs.Harts.{kept_at}
use Rattle.mx_table.specs.Tables.{IsShaped}
use Rattle.mx_supervisor.specs.Parts.{Parts, parts_of}
use Rattle.mx_supervisor.proofs.Joined.{sound-joined}
use Rattle.mx_machine.specs.declared.hart.Hart.{Hart}
use Rattle.mx_machine.specs.Harts.{hart_among, is_halted}
use Rattle.mx_machine.specs.Held.{Held, meaning}
use Rattle.mx_machine.specs.Ties.{IsWhole}
use Rattle.mx_machine.proofs.SizeLaws.{fits-inside}
use Rattle.mx_machine.proofs.StartFits.{held_resumed}
use Rattle.mx_machine.proofs.StartValid.{AreTyped, as-many, free-resumed, meaning-resumed, whole-resumed, zero-registers}
use Rattle.mx_machine.proofs.machine.Machine.resume.Goals as goal

pub resume-left-requires : goal.resume-left-requires
resume-left-requires g c = zero-registers _ c.args.harts.now c.requires.may.each

pub halt_left-requires : goal.halt_left-requires
halt_left-requires g c =
    let T = g.T.PermTables in
    let p : Parts = parts_of {N = g.row.N} T c.args.parts in (
      search fits-inside,
      (
        rw c.resume-left.ensures (as-many p c.args.harts.now c.args.stacks.now c.args.dead.now c.args.steps c.requires.may),
        subst (λ (xs : List Hart). (h : ℕ) → is_halted (hart_among xs h).progress ≡ true
            → (kept_at p.harts h).flight ≡ None) (sym c.resume-left.ensures)
            (free-resumed p c.args.harts.now c.args.stacks.now c.args.dead.now c.args.steps c.requires.may),
      ),
    )

pub invariant_of-result : goal.invariant_of-result
invariant_of-result g c =
    let T = g.T.PermTables in
    let p : Parts = parts_of {N = g.row.N} T c.args.parts in
    let shaped : IsShaped p.kind p.size p.limit p.maps = g.met.T.PermTables.shaped c.args.parts.checker.tables in
    let typed : AreTyped p = record {
      words = shaped.some_words;
      some_maps = shaped.some_maps;
      bytes = c.bytes_of.ensures;
      heaps = c.heaps_of.ensures;
      few_gates = c.get-few_gates.ensures.bounded;
      gates = c.requires.gates;
      one_gate = c.get-few_gates.ensures.apart;
    } in
    let held : Held = held_resumed p c.args.harts.now c.args.stacks.now c.args.dead.now c.args.steps in
    let same : c.halt_left.new.self ≡ held = c.halt_left.ensures
    ∙ rw (c.any_waits-waiting.ensures, c.copy.ensures, c.resume-left.ensures) refl in
    subst IsWhole (sym same)
    (whole-resumed p c.args.harts.now c.args.stacks.now c.args.dead.now c.args.steps (sound-joined p shaped c.requires.joined)
    c.requires.may c.states_of.ensures.few c.told-dead
    c.states_of.ensures.small typed c.flights_of.ensures.hearers c.spans_are_coherent.ensures.empty)

pub returns : goal.returns
returns g c =
    let T = g.T.PermTables in
    let p : Parts = parts_of {N = g.row.N} T c.args.parts in
    let held : Held = held_resumed p c.args.harts.now c.args.stacks.now c.args.dead.now c.args.steps in
    let same : c.halt_left.new.self ≡ held = c.halt_left.ensures
    ∙ rw (c.any_waits-waiting.ensures, c.copy.ensures, c.resume-left.ensures) refl in
    ap meaning same ∙ meaning-resumed p c.args.harts.now c.args.stacks.now c.args.dead.now c.args.steps c.requires.may
