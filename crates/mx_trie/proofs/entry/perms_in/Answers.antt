use Rattle.std.proofs.Common.{ℕ, ◌+◌, ◌*◌, sym, subst, arith}
use Rattle.mx_trie.specs.Views.{IsRound}
use Rattle.mx_trie.proofs.Scans.{round-perm}
use Rattle.mx_trie.proofs.LinePerms.{told-more, told-all, along-round, round-along}
use Rattle.mx_trie.proofs.entry.perms_in.Goals as goal
use Rattle.mx_trie.proofs.entry.perms_in.Goals.{then-span-word, else-span-word}

pub loop-place-preserved : goal.loop-place-preserved
loop-place-preserved g c = λ m few line.
    let word : ℕ = c.args.line * 16 + c.loop-place.place in
    let was = c.loop-place.invariant m few line in
    let here : IsRound m word c.if-span-word.span =
    elim c.if-span-word.branch [
      | then-span-word w ↦ subst (IsRound m word) (sym w.span-is) (w.around_line-span-then-span-word.ensures m few line)
      | else-span-word w ↦ subst (IsRound m word) (sym w.span-is) (round-along m word c.loop-place.span was.1 w.if-span-word.false)
    ] in (
      told-more m c.args.line c.loop-place.place c.loop-place.perms c.if-span-word.span.perm c.loop-place-test.true was.0
          (round-perm m word c.if-span-word.span here),
      along-round m word (c.args.line * 16 + (c.loop-place.place + 1)) c.if-span-word.span here (omega arith),
    )

pub returns : goal.returns
returns g c =
    λ m few line. told-all m c.args.line c.loop-place.place c.loop-place.perms c.loop-place-test.false (c.loop-place.invariant m few line).0
