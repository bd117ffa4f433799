use Rattle.std.proofs.Common.{refl, inl, inr}
use Rattle.mx_commands.specs.declared.status.Status.TheVariants.{Ran}
use Rattle.mx_commands.proofs.Endings.{ends_reported, ends_unreported}
use Rattle.mx_run.proofs.milling.write_mill.Goals as goal

pub returns-in-Ok : goal.returns-in-Ok
returns-in-Ok g c = λ console dump. inl (ends_reported Ran _ c.in-Ok.ensures console dump)

pub returns-in-Err-Report : goal.returns-in-Err-Report
returns-in-Err-Report g c = λ console dump. inl (ends_unreported Ran _ (rw c.in-Err-Report.field-0-is at c.in-Err-Report.ensures) console
    dump)

pub returns-in-Err-NoMemory : goal.returns-in-Err-NoMemory
returns-in-Err-NoMemory g c =
    λ console dump. inr (
      refl,
      record {
        console = refl;
        report = rw c.in-Err-NoMemory.field-0-is at c.in-Err-NoMemory.ensures;
        dump =
            refl;
      },
    )
