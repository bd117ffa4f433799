use Rattle.std.proofs.Common.{◌≡◌, ◌+◌, ◌*◌, ◌≤◌, inl, inr, List, length, ap, ◌∙◌, arith}
use Rattle.mx_words.specs.declared.perm.Perm.{Perm}
use Rattle.mx_words.specs.Rights.{perm_at}
use Rattle.mx_trie.specs.Walk.{map_left, map_right}
use Rattle.mx_trie.specs.Laying.{laid_by}
use Rattle.mx_trie.proofs.LeafSpans.{line-at}
use Rattle.mx_trie.proofs.Stored.{reaches-fit}
use Rattle.mx_trie.proofs.LineBeside.{few-known, line-beside}
use Rattle.mx_trie.proofs.RangeLaws.{length-with_range}
use Rattle.mx_trie.proofs.LineCuts.{apart-perms, beside-left, beside-right}
use Rattle.mx_trie.proofs.line.reach_line.Goals as goal

pub returns-then-line-lay : goal.returns-then-line-lay
returns-then-line-lay g c =
    let h = c.if-line-lay.true in
    let before : c.args.line * 16 + 16 ≤ c.args.lay.now.first =
    elim c.requires.apart [ inl x ↦ x | inr x ↦ absurd (let some = c.args.lay.now.some in omega arith) ] in
    line-beside g.L.LeafForm.kind g.met.L.LeafForm.trie c.args.spill.now c.args.lay.now c.args.beside.now c.args.line c.args.entry
    c.entry.result c.perms_in-perms.result c.min.result c.min-then-line-lay.result
    c.requires.none c.requires.stands c.perms_in-perms.ensures c.entry.ensures
    (λ m known. apart-perms g.L.LeafForm.kind m c.args.lay.now c.args.beside.now known c.args.line c.requires.line c.requires.apart)
    (λ m known line.
    let few = few-known g.L.LeafForm.kind m c.args.lay.now c.args.beside.now known in
    let most = (reaches-fit g.L.LeafForm.kind m c.args.line few c.requires.line).left_most in
    let kept = beside-left g.L.LeafForm.kind m c.args.lay.now c.args.beside.now known c.args.line c.requires.line before in
    let old = c.left_in-left.ensures.value m c.args.spill.now few line in
    let e : map_left g.L.LeafForm.kind (laid_by c.args.lay.now m) c.args.line ≡ c.min.result =
    omega (arith, kept, old, most, c.min.ensures, c.REACH-then-line-lay.ensures, g.met.L.LeafForm.reach) in
    e)
    (λ m known line.
    let few = few-known g.L.LeafForm.kind m c.args.lay.now c.args.beside.now known in
    let laid-few : length (laid_by c.args.lay.now m) ≤ 16777216 =
    omega (arith, few, length-with_range c.args.lay.now.first c.args.lay.now.end c.args.lay.now.perm m) in
    let most = (reaches-fit g.L.LeafForm.kind (laid_by c.args.lay.now m) c.args.line laid-few c.requires.line).right_most in
    let value = c.right_before-right.ensures.value g.L.LeafForm.kind m known (c.REACH.ensures ∙ g.met.L.LeafForm.reach)
    (c.right_in-right.ensures.value m c.args.spill.now few line)
    (ap (λ (ps : List Perm). perm_at ps 15) (c.perms_in-perms.ensures m few line) ∙ line-at m c.args.line 15 (omega arith)) in
    let e : map_right g.L.LeafForm.kind (laid_by c.args.lay.now m) c.args.line ≡ c.min-then-line-lay.result =
    omega (arith, value, most, c.min-then-line-lay.ensures, c.REACH-then-line-lay-2.ensures, g.met.L.LeafForm.reach) in
    e)

pub returns-else-line-lay : goal.returns-else-line-lay
returns-else-line-lay g c =
    let h = c.if-line-lay.false in
    let behind : c.args.lay.now.end ≤ c.args.line * 16 =
    elim c.requires.apart [ inl x ↦ absurd (omega arith) | inr x ↦ x ] in
    line-beside g.L.LeafForm.kind g.met.L.LeafForm.trie c.args.spill.now c.args.lay.now c.args.beside.now c.args.line c.args.entry
    c.entry-else-line-lay.result c.perms_in-perms.result c.min-else-line-lay.result c.min-else-line-lay-2.result
    c.requires.none c.requires.stands c.perms_in-perms.ensures c.entry-else-line-lay.ensures
    (λ m known. apart-perms g.L.LeafForm.kind m c.args.lay.now c.args.beside.now known c.args.line c.requires.line c.requires.apart)
    (λ m known line.
    let few = few-known g.L.LeafForm.kind m c.args.lay.now c.args.beside.now known in
    let laid-few : length (laid_by c.args.lay.now m) ≤ 16777216 =
    omega (arith, few, length-with_range c.args.lay.now.first c.args.lay.now.end c.args.lay.now.perm m) in
    let most = (reaches-fit g.L.LeafForm.kind (laid_by c.args.lay.now m) c.args.line laid-few c.requires.line).left_most in
    let zero_more : c.args.line * 16 + 0 ≡ c.args.line * 16 = omega arith in
    let value = c.left_behind-left.ensures.value g.L.LeafForm.kind m known (c.REACH-else-line-lay.ensures ∙ g.met.L.LeafForm.reach)
    (c.left_in-left.ensures.value m c.args.spill.now few line)
    (ap (λ (ps : List Perm). perm_at ps 0) (c.perms_in-perms.ensures m few line) ∙ line-at m c.args.line 0 (omega arith)
    ∙ ap (perm_at m) zero_more) in
    let e : map_left g.L.LeafForm.kind (laid_by c.args.lay.now m) c.args.line ≡ c.min-else-line-lay.result =
    omega (arith, value, most, c.min-else-line-lay.ensures, c.REACH-else-line-lay-2.ensures, g.met.L.LeafForm.reach) in
    e)
    (λ m known line.
    let few = few-known g.L.LeafForm.kind m c.args.lay.now c.args.beside.now known in
    let most = (reaches-fit g.L.LeafForm.kind m c.args.line few c.requires.line).right_most in
    let kept = beside-right g.L.LeafForm.kind m c.args.lay.now c.args.beside.now known c.args.line c.requires.line behind in
    let old = c.right_in-right.ensures.value m c.args.spill.now few line in
    let e : map_right g.L.LeafForm.kind (laid_by c.args.lay.now m) c.args.line ≡ c.min-else-line-lay-2.result =
    omega (arith, kept, old, most, c.min-else-line-lay-2.ensures, c.REACH-else-line-lay-3.ensures, g.met.L.LeafForm.reach) in
    e)
