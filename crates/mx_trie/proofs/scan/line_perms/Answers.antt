use Rattle.std.proofs.Common.{◌+◌, ◌*◌, refl, arith}
use Rattle.mx_trie.specs.Views.{IsRound}
use Rattle.mx_trie.proofs.LinePerms.{told-more, told-all, along-round, round-along}
use Rattle.mx_trie.proofs.scan.line_perms.Goals as goal
use Rattle.mx_trie.proofs.scan.line_perms.Goals.{then-span-word, else-span-word}

pub loop-place-init : goal.loop-place-init
loop-place-init g c = record {
  told = record { long = refl; told = λ k h. absurd (omega arith) };
  along = along-round _ (c.args.line * 16) _ _ c.around-span.ensures (omega arith);
}

pub loop-place-preserved : goal.loop-place-preserved
loop-place-preserved g c =
    let word = c.args.line * 16 + c.loop-place.place in
    let round : IsRound (g.V.View.map c.args.view.now) word c.if-span-word.span = elim c.if-span-word.branch [
      | then-span-word w ↦ rw w.span-is w.around-span-then-span-word.ensures
      | else-span-word w ↦ rw w.span-is (round-along _ word _ c.loop-place.invariant.along w.if-span-word.false)
    ] in
    let told = told-more _ _ _ _ _ c.loop-place-test.true c.loop-place.invariant.told (round.alike word round.from round.to) in
    record { told = told; along = along-round _ word _ _ round (omega arith) }

pub returns : goal.returns
returns g c =
    told-all (g.V.View.map c.args.view.now) c.args.line c.loop-place.place c.loop-place.perms c.loop-place-test.false
    c.loop-place.invariant.told
