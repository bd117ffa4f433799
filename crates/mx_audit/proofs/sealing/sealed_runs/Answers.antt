use Rattle.std.proofs.Common.{◌≡◌, ◌-◌, List, ◌++◌, length, length-append, ap, ◌∙◌, arith}
use Rattle.mx_any.specs.Machines.{meaning}
use Rattle.mx_model.specs.Reads.{flat_reads}
use Rattle.mx_words.specs.declared.perm.Span.{Span}
use Rattle.mx_audit.specs.Sealed.{is_sealed}
use Rattle.mx_audit.specs.SealedRuns.{runs_where}
use Rattle.mx_audit.specs.AlikeWords.{run_between}
use Rattle.mx_audit.proofs.AlikeLaws.{all-later, length-run_between, none-tell, runs_end, runs_exposed}
use Rattle.mx_audit.proofs.sealing.sealed_runs.Goals as goal

pub words-init : goal.words-init
words-init c =
    let f = meaning c.args.machine.now in
    let none : length c.new-runs.result ≡ 0 = ap length c.new-runs.ensures in
    let all : f.core.size - 0 ≡ f.core.size = omega arith in
    record {
      order = omega arith;
      within = omega arith;
      few = omega (arith, none);
      known = none-tell f c.args.live.now 0 64;
      closed = λ w l u. absurd (omega arith);
      runs = ap (λ (runs : List Span). runs ++ runs_where (is_sealed (flat_reads f) f.core) 0 (f.core.size - 0)) c.new-runs.ensures
          ∙ ap (runs_where (is_sealed (flat_reads f) f.core) 0) all;
    }

pub words-preserved-in_ok-push_run : goal.words-preserved-in_ok-push_run
words-preserved-in_ok-push_run c =
    let f = meaning c.args.machine.now in
    let s = c.alike_at-alike.result in
    let inv = c.words.invariant in
    let behind = c.alike_at-alike.ensures.behind in
    let order = inv.order in
    let few = inv.few in
    let added : length c.push_run.new.runs ≡ length (c.words.runs ++ run_between c.words.first c.words.word) =
    ap length c.in_ok-push_run.ensures in
    record {
      order = omega arith;
      within = c.alike_at-alike.ensures.tells.within;
      few = omega (
        arith,
        added,
        length-append c.words.runs (run_between c.words.first c.words.word),
        length-run_between c.words.first
            c.words.word,
      );
      known = all-later f c.args.live.now c.words.word s.end c.alike_at-alike.new.known (omega arith) c.alike_at-alike.ensures.known;
      closed = λ w l u. absurd (omega arith);
      runs = ap (λ (runs : List Span). runs ++ runs_where (is_sealed (flat_reads f) f.core) s.end (f.core.size - s.end))
          c.in_ok-push_run.ensures
          ∙ runs_exposed f c.args.live.now c.any_machine_is_valid.ensures.valid c.requires c.words.runs c.words.first c.words.word s order
          behind inv.closed c.alike_at-alike.ensures.tells c.if-alike.true inv.runs;
    }

pub returns : goal.returns
returns c =
    let f = meaning c.args.machine.now in
    let inv = c.words.invariant in
    let within = inv.within in
    let order = inv.order in
    let all : c.words.word ≡ f.core.size = omega (arith, c.words-test.false, c.words-in-words.ensures) in
    c.in_ok-push_run-2.ensures ∙ ap (λ w. c.words.runs ++ run_between c.words.first w) all
    ∙ runs_end f c.args.live.now c.any_machine_is_valid.ensures.valid c.requires c.words.runs c.words.first (omega arith) (λ v l u.
    inv.closed v l (omega arith)) inv.runs
