use Rattle.std.proofs.Common.{rules, ◌≡◌, Err, ◌∙◌, sym, subst}
use Rattle.mx_resume.specs.Goes.{Resumes}
use Rattle.mx_resume.proofs.Whole.{held-of, plan-kept, plan-same}
use Rattle.mx_resume.proofs.fields.resume.Goals as goal

pub new-plan-requires : goal.new-plan-requires
new-plan-requires c = plan-kept c.requires.snapshot c.args.fields c.requires.valid c.requires.holds

pub build-requires : goal.build-requires
build-requires c = record {
  snapshot = c.requires.snapshot;
  valid = c.requires.valid;
  holds = held-of c.requires.snapshot c.args.fields c.requires.holds;
}

pub returns-in_err-machine : goal.returns-in_err-machine
returns-in_err-machine c = λ s valid holds.
    let given : c.from_residual.result ≡ Err c.in_err-machine.field-0.0 = search rules in
    subst (Resumes s) (sym given) (c.in_err-machine.ensures s valid (held-of s c.args.fields holds))

pub returns : goal.returns
returns c = λ s valid holds.
    let h = c.in_ok-machine.ensures s valid (held-of s c.args.fields holds) in
    (h.0, record { machine = h.1; plan = c.new-plan.ensures ∙ plan-same s c.args.fields holds })
