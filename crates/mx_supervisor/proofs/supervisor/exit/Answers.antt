use Rattle.std.proofs.Common.{refl}
use Rattle.mx_model.specs.Serve.{serve_exit}
use Rattle.mx_supervisor.proofs.Answering.{refuses, same-harts, same-sizes, same-parts}
use Rattle.mx_supervisor.proofs.supervisor.exit.Goals as goal

pub returns-then-call : goal.returns-then-call
returns-then-call c = λ p sound.
    refuses (λ r s call. serve_exit s call) c.args.call.now p 10 _ sound c.refused.ensures (λ rest. rw c.if-call.true)

pub returns : goal.returns
returns c = λ p sound. record {
  served = λ rest bars. rw c.if-call.false
      (record { core = refl; maps = refl; owners = refl; console = refl; a0 = refl; a1 = refl; stop = refl });
  refused = λ e. same-parts p;
  harts = same-harts c.args.call.now p.harts;
  sizes = same-sizes p;
  sound = sound;
}
