use Rattle.mx_commands.proofs.booting.take_boot.Goals as goal

pub returns-in-Ok : goal.returns-in-Ok
returns-in-Ok g c =
    let takes = c.in-Ok.ensures in
    let goes = takes.1 in (
      takes.0,
      record {
        state = goes.state;
        new = goes.new;
        means = goes.means;
        size = goes.size;
        plan = goes.kept;
        comes = λ rest. goes.comes (λ images inputs. rest);
      },
    )

pub returns-in-Err : goal.returns-in-Err
returns-in-Err g c = λ rest. c.in-Err.ensures (λ images inputs. rest)
