use Rattle.std.proofs.Common.{Ok, Err, refl}
use Rattle.mx_debugger.proofs.debugger.talk_by.Goals as goal

pub returns-in-Ok : goal.returns-in-Ok
returns-in-Ok g c = λ run is at. record { result = Ok c.in-Ok.field-0; answered = c.in-Ok.ensures.answered run is at; by = refl }

pub returns-in-Err : goal.returns-in-Err
returns-in-Err g c = λ run is at. record { result = Err c.in-Err.field-0; answered = c.in-Err.ensures.answered run is at; by = refl }
