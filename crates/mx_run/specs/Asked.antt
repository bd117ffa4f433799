-- What the code keeps of the words.
use Rattle.std.specs.Prelude.{option_copied}
use Rattle.mx_commands.specs.Asked.{order_of, pair_asked}
use Rattle.mx_run.specs.Words.{Request, Go, Asm, Audit, Twin, Mill, Parsed, Stands, LacksSchedule, LacksFrom, Meaningless}
use Rattle.mx_run.specs.declared.words.Asked.{Asked}
use Rattle.mx_run.specs.declared.words.Asked.TheVariants as asked
use Rattle.mx_run.specs.declared.options.Parse.{Parse}
use Rattle.mx_run.specs.declared.options.Parse.TheVariants as parse

-- the request that the words make
abbrev pub request_of : Asked → Request
request_of (asked.Go order) = Go (order_of order)
request_of (asked.Asm source) = Asm source.now
request_of (asked.Audit name) = Audit name.now
request_of (asked.Twin pair) = Twin (pair_asked pair)
request_of (asked.Mill k) = Mill k

-- what options made of a run
abbrev pub parsed_of : Parse → Parsed
parsed_of (parse.Stands schedule o) = Stands (option_copied schedule) o
parsed_of (parse.LacksSchedule o) = LacksSchedule o
parsed_of (parse.LacksFrom schedule o) = LacksFrom (option_copied schedule) o
parsed_of parse.Meaningless = Meaningless
