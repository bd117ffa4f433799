-- What is told of a hart is its view.
use Rattle.std.proofs.Common.{◌≡◌, ℕ, List, length, ap, ◌∙◌}
use Rattle.mx_model.specs.State.{Hart}
use Rattle.mx_machine.specs.declared.views.HartStatus.{HartStatus}
use Rattle.mx_machine.specs.declared.views.HartView.{HartView}
use Rattle.mx_machine.specs.Readings.{IsViewOf, status_told}
use Rattle.mx_report.specs.Lines.{view_of}

abbrev told : HartStatus → ℕ → ℕ → ℕ → List ℕ → HartView
told status domain pc frames regs = record { status = status; domain = domain; pc = pc; frames = frames; regs = regs }

pub view_is : (x : Hart) (v : HartView) → IsViewOf x v → v ≡ view_of x
view_is x v t =
    ap (λ s. told s v.domain v.pc v.frames v.regs) t.status ∙ ap (λ d. told (status_told x.status) d v.pc v.frames v.regs) t.domain
    ∙ ap (λ p. told (status_told x.status) x.domain p v.frames v.regs) t.pc
    ∙ ap (λ f. told (status_told x.status) x.domain x.pc f v.regs) t.frames
    ∙ ap (told (status_told x.status) x.domain x.pc (length x.frames)) t.regs
