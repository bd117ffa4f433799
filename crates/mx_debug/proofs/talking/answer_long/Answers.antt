use Rattle.std.proofs.Common.{[]}
use Rattle.mx_packets.specs.Streams.{sent}
use Rattle.mx_debug.specs.Talks.{mark}
use Rattle.mx_debug_texts.proofs.ToldLaws.{speaks_then}
use Rattle.mx_debug.proofs.talking.answer_long.Goals as goal

pub returns-in-Ok : goal.returns-in-Ok
returns-in-Ok g c =
    speaks_then g.L.Line.says g.L.Line.room c.args.line.now c.acknowledge.new.line c.say_text.new.line (mark c.args.session.now 43)
    (sent []) c.say_text.result c.in-Ok.ensures c.say_text.ensures
