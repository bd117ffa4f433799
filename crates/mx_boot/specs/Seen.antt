-- A module of the code as its definition.
use Rattle.mx_boot.specs.declared.home.Home as code
use Rattle.mx_boot.specs.Areas.{Home}

abbrev pub seen : code.Home → Home
seen h = record { domain = h.domain; plan = h.plan.now; bytes = h.file.now }
