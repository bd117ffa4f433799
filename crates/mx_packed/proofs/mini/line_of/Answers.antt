use Rattle.std.proofs.Common.{◌≡◌, ◌∙◌, arith}
use Rattle.std.proofs.Math.ListN.{length-set}
use Rattle.mx_trie.proofs.Decoding.{decoded-ended, decoded-going, decoded-whole}
use Rattle.mx_packed.proofs.mini.line_of.Goals as goal
use Rattle.mx_packed.proofs.mini.line_of.Goals.{then-starts_left-place, else-starts_left-place}

pub loop-place-preserved : goal.loop-place-preserved
loop-place-preserved c = (
  length-set c.loop-place.line c.loop-place.place c.perm_of.result ∙ c.loop-place.invariant.0,
  λ perms whole values starts.
      elim c.if-starts_left-place.branch [
        | then-starts_left-place w ↦ rw (w.values_left-is, w.starts_left-is)
            (decoded-ended perms c.loop-place.line c.loop-place.place c.loop-place.values_left c.loop-place.starts_left c.perm_of.result
            whole c.loop-place.invariant.0 c.loop-place-test.true (c.loop-place.invariant.1 perms whole values starts) c.perm_of.ensures
            w.if-starts_left-place.true)
        | else-starts_left-place w ↦ rw (w.values_left-is, w.starts_left-is)
            (decoded-going perms c.loop-place.line c.loop-place.place c.loop-place.values_left c.loop-place.starts_left c.perm_of.result
            whole c.loop-place.invariant.0 c.loop-place-test.true (c.loop-place.invariant.1 perms whole values starts) c.perm_of.ensures
            w.if-starts_left-place.false)
      ],
)

pub returns : goal.returns
returns c perms whole values starts =
    let at : c.loop-place.place ≡ 16 = omega arith in
    decoded-whole perms c.loop-place.line c.loop-place.values_left c.loop-place.starts_left whole c.loop-place.invariant.0
    (rw at at (c.loop-place.invariant.1 perms whole values starts))
