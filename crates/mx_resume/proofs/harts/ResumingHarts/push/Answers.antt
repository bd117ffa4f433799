use Rattle.mx_resume.specs.Parts.{hart_seen}
use Rattle.mx_resume.proofs.Calls.{call_new, calls_few, hart_added, states_few}
use Rattle.mx_resume.proofs.harts.ResumingHarts.push.Goals as goal

pub add_flight-requires-clause-room : goal.add_flight-requires-clause-room
add_flight-requires-clause-room c = let t = c.requires.those in
    calls_few c.args.words c.args.heaps.now t.0 c.args.number c.args.self.now t.1 c.requires.number t.2

pub add_flight-requires-clause-apart : goal.add_flight-requires-clause-apart
add_flight-requires-clause-apart c = let t = c.requires.those in
    call_new c.args.words c.args.heaps.now t.0 c.args.number c.args.self.now t.1 t.2

pub push-requires : goal.push-requires
push-requires c = let t = c.requires.those in states_few c.args.words c.args.heaps.now t.0 c.args.number c.args.self.now t.1
    c.requires.number t.2

pub returns : goal.returns
returns c = λ before long same. hart_added c.args.words c.args.heaps.now before c.args.number (hart_seen c.args.hart) c.args.self.now _ _
    long same c.push.ensures c.add_flight.ensures
