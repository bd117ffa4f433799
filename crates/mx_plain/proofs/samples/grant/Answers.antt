use Rattle.std.proofs.Common.{lit≤, replicate, None}
use Rattle.mx_table.proofs.NamedLaws.{names_none, names_more}
use Rattle.mx_plain.proofs.samples.grant.Goals as goal

pub returns-clause-lawful : goal.returns-clause-lawful
returns-clause-lawful c = λ words modules inside some. record {
  some = c.requires.some;
  inside = inside;
  named = λ d other. names_more modules (replicate 64 None) 1 _ (lit≤ tt) some (names_none modules) d other;
}
