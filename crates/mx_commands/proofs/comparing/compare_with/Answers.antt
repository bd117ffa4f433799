use Rattle.std.proofs.Common.{refl, inl}
use Rattle.mx_commands.specs.Asked.{pair_asked}
use Rattle.mx_commands.specs.Boots.{Rest}
use Rattle.mx_commands.specs.Compared.{compared}
use Rattle.mx_commands.specs.Next.{End}
use Rattle.mx_commands.proofs.Continued.{continues_end}
use Rattle.mx_commands.proofs.comparing.compare_with.Goals as goal

pub compare_booted-requires-clause-second : goal.compare_booted-requires-clause-second
compare_booted-requires-clause-second g c = let goes = c.in-Ok.ensures.1 in rw goes.means goes.size

pub returns-in-Ok : goal.returns-in-Ok
returns-in-Ok g c =
    let takes = c.in-Ok.ensures in
    let goes = takes.1 in
    let pair = pair_asked c.args.pair.now in
    let plan = c.args.first.plan in
    let other = c.in-Ok.second.plan in
    λ s is console dump.
    let rest : Rest = λ other t more. End (compared pair plan s other t) in
    goes.comes rest _ _ _ _
    (continues_end g.S.Store.gives (λ more. End (compared pair plan s other goes.state)) (compared pair plan s other goes.state) refl
    c.take_boot.new.store
    (inl (rw takes.0 at (c.compare_booted.ensures s goes.state is goes.means console dump))))

pub returns-in-Err : goal.returns-in-Err
returns-in-Err g c =
    λ s is console dump.
    let rest : Rest = λ other t more. End (compared (pair_asked c.args.pair.now) c.args.first.plan s other t) in
    c.in-Err.ensures rest console dump
