use Rattle.std.proofs.Common.{◌≡◌, ℕ, ◌+◌, false, List, [], ◌∷◌, ◌++◌, length, ap, ◌∙◌, sym, subst, arith}
use Rattle.std.proofs.lemmas.Result.{err_from_is_err_and}
use Rattle.mx_model.specs.declared.values.Gate.{Gate}
use Rattle.mx_model.specs.Gates.{no_gate_fits}
use Rattle.mx_snapshot.specs.Fields.{gate_in}
use Rattle.mx_resume.specs.Parts.{head_seen}
use Rattle.mx_resume.proofs.Lists.{Left, left_misses, left_next, left_none}
use Rattle.mx_resume.proofs.Places.{count_more, none_left_out, room_left}
use Rattle.mx_resume.proofs.gates.read_gates.Goals as goal

pub returns-in_err-gate : goal.returns-in_err-gate
returns-in_err-gate c =
    let p = err_from_is_err_and c.from_residual.result c.from_residual.ensures.1 in
    rw (p.1, p.2) (left_misses _ c.gates-test.true c.gates.invariant.left c.in_err-gate.ensures.taken)

pub unreachable-requires : goal.unreachable-requires
unreachable-requires c =
    let long = c.gates.invariant.long in
    let none : no_gate_fits c.gates.gates c.in_ok-gate.gate.domain c.in_ok-gate.gate.word ≡ false =
    room_left c.gates.gates _ _ (omega (arith, long, c.gates-test.true, c.requires)) in
    let full = c.in-Err.ensures.full in
    let q : ⊥ = cc in q

pub gates-preserved : goal.gates-preserved
gates-preserved c =
    let gate = c.in_ok-gate.gate in
    let new : c.add.new.self ≡ c.gates.gates ++ gate ∷ [] =
    c.in-Ok.ensures.ok ∙ ap (λ (gs : List Gate). gs ++ gate ∷ [])
    (none_left_out gate.domain gate.word c.gates.gates c.in_ok-gate.ensures.free) in
    record {
      long = ap length new ∙ count_more c.gates.gates gate ∙ ap (λ (k : ℕ). k + 1) c.gates.invariant.long;
      left = subst (λ (gs : List Gate). Left (gate_in (head_seen c.args.head.now)) c.args.bytes.now c.args.count c.args.at.now
          (c.gates.counter + 1) gs c.gate.new.at) (sym new)
          (left_next c.gates-test.true c.gates.invariant.left c.in_ok-gate.ensures.taken);
    }

pub returns : goal.returns
returns c = left_none c.gates-test.false c.gates.invariant.left
