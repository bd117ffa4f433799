use Rattle.std.proofs.Common.{◌≡◌, ℕ, Bool, true, List, [], ◌∷◌, if◌then◌else◌, ap, subst, sym, ◌∙◌}
use Rattle.mx_packets.specs.Lines.{SpeaksOrFails}
use Rattle.mx_packets.proofs.LineLaws.{utters}
use Rattle.mx_debug.specs.Session.{Session}
use Rattle.mx_debug.proofs.talking.acknowledge.Goals as goal

pub returns-then-session : goal.returns-then-session
returns-then-session g c =
    let on : c.args.session.now.acknowledges ≡ true = sym (ap (λ (t : Session). t.acknowledges) c.session.view_is) ∙ c.if-session.true in
    subst (λ (x : List ℕ). SpeaksOrFails g.L.Line.says g.L.Line.room c.args.line.now x c.say.new.self c.say.result)
    (sym (ap (λ (a : Bool). if a then c.args.byte ∷ [] else []) on))
    (utters g.L.Line.says g.L.Line.room c.args.line.now (c.args.byte ∷ []) c.say.new.self c.say.result c.say.ensures)
