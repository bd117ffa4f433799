use Rattle.mx_table.proofs.NamedLaws.{names_none}
use Rattle.tables_speed.proofs.allocs.hand.Goals as goal

pub loop-domain-init : goal.loop-domain-init
loop-domain-init c = names_none c.args.domains
