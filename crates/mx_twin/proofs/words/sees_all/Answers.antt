use Rattle.std.proofs.Common.{◌+◌, ◌-◌, sym, arith}
use Rattle.mx_model.specs.Reads.{flat_reads}
use Rattle.mx_any.specs.Machines.{meaning}
use Rattle.mx_touched.specs.Views.{sees_same}
use Rattle.mx_twin.proofs.SeenRuns.{all-more, all-part}
use Rattle.mx_twin.proofs.words.sees_all.Goals as goal

pub runs-preserved : goal.runs-preserved
runs-preserved c =
    let low = c.runs.invariant.low in
    let more = c.in-Some.ensures.0 in
    record {
      low = omega (arith, low, more);
      high = c.in-Some.ensures.1;
      seen = all-more (sees_same (flat_reads (meaning c.args.a.now)) (meaning c.args.a.now).core (flat_reads (meaning c.args.b.now))
          (meaning c.args.b.now).core c.args.domain) c.args.first c.runs.at c.in-Some.next low
          (omega (arith, more)) c.runs.invariant.seen c.in-Some.ensures.2;
    }

pub returns-in-None : goal.returns-in-None
returns-in-None c =
    let high = c.runs.invariant.high in
    sym (all-part (sees_same (flat_reads (meaning c.args.a.now)) (meaning c.args.a.now).core (flat_reads (meaning c.args.b.now))
    (meaning c.args.b.now).core c.args.domain) c.args.first c.args.count c.runs.at
    (c.args.first + c.args.count - c.runs.at) c.runs.invariant.low (omega (arith, high)) c.in-None.ensures)
