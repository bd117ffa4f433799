use Rattle.std.proofs.Common.{◌++◌, codes, decimal, refl, sym, ap}
use Rattle.std.proofs.lemmas.List.{append-nil}
use Rattle.mx_commands.specs.Refusal.{place_text}
use Rattle.mx_commands.proofs.refusal.put_refused.Goals as goal

pub put_refused_at-requires : goal.put_refused_at-requires
unfolding place_text
put_refused_at-requires g c = rw c.in-Manifest.is refl

pub put_refused_at-requires-in-Module : goal.put_refused_at-requires-in-Module
unfolding place_text
put_refused_at-requires-in-Module g c = rw c.in-Module.is (ap (λ t. codes "module." ++ t)
    (sym (append-nil (decimal c.args.fault.now.place.index))))

pub put_refused_at-requires-in-Hart : goal.put_refused_at-requires-in-Hart
unfolding place_text
put_refused_at-requires-in-Hart g c = rw c.in-Hart.is (ap (λ t. codes "hart." ++ t)
    (sym (append-nil (decimal c.args.fault.now.place.index))))

pub put_refused_at-requires-in-Schedule : goal.put_refused_at-requires-in-Schedule
unfolding place_text
put_refused_at-requires-in-Schedule g c = rw c.in-Schedule.is refl
