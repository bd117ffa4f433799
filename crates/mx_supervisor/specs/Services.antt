-- The calls by their numbers, as the code tells them apart.
-- The rules: docs/MACHINE.md, "Supervisor calls".
use Rattle.std.specs.Prelude.{◌≡◌, ℕ, false}
use Rattle.mx_words.specs.Announced.{is_announced}
use Rattle.mx_model.specs.Serve.{service, Unknown}
use Rattle.mx_supervisor.specs.declared.service.Service.{Service}
use Rattle.mx_supervisor.specs.declared.service.Service.TheVariants as S

-- a service has a number, and what is no service has no number of the table
abbrev pub IsNumbered : Service → ℕ → Type 0
IsNumbered S.Exit n = n ≡ 1
IsNumbered S.Write n = n ≡ 2
IsNumbered S.Grant n = n ≡ 3
IsNumbered S.RevokeAll n = n ≡ 4
IsNumbered S.Transfer n = n ≡ 5
IsNumbered S.Alloc n = n ≡ 6
IsNumbered S.Free n = n ≡ 7
IsNumbered S.AddGate n = n ≡ 8
IsNumbered S.RemoveGate n = n ≡ 9
IsNumbered S.AddReturnGate n = n ≡ 10
IsNumbered S.Query n = n ≡ 11
IsNumbered S.Identify n = n ≡ 12
IsNumbered S.Exchange n = n ≡ 13
IsNumbered S.Unknown n = (service n ≡ Unknown) × (is_announced n ≡ false)
