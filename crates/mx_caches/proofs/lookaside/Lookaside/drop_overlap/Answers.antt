use Rattle.std.proofs.Common.{◌<◌, ◌≤◌, not, sym, ap, ◌∙◌, refl, arith, length-set}
use Rattle.mx_words.specs.Caches.{Entry, meets}
use Rattle.mx_caches.proofs.Entries.{moves, left_out}
use Rattle.mx_caches.proofs.lookaside.Lookaside.drop_overlap.Goals as goal
use Rattle.mx_caches.proofs.lookaside.Lookaside.drop_overlap.Goals.{then-not-meets, else-not-meets}

pub loop-i-preserved : goal.loop-i-preserved
loop-i-preserved g c =
    let before = c.self.inside in
    let now = c.loop-i.self-inside in
    let i = c.self.invariant in
    let l = c.loop-i.invariant in
    let start : now.newest < 64 = omega (arith, l.newest, i.1) in
    let fits : now.len ≤ 64 = omega (arith, l.len, i.2, i.3) in
    let in_use : c.loop-i.i < now.len = omega (arith, l.len, c.loop-i-test.true) in
    elim c.if-not-meets.branch [
      | then-not-meets w ↦ rw (w.self-inside-is, w.kept-is) (record {
        newest = l.newest;
        len = l.len;
        long = length-set now.slots _ _ ∙ l.long;
        filtered = moves (λ (e : Entry). not (meets e.1 c.args.first c.args.count)) _ now.newest now.len now.slots start fits l.long
            c.loop-i.kept c.loop-i.i _ _ l.filtered in_use refl (ap not (sym c.meets.ensures ∙ w.if-not-meets.true));
      })
      | else-not-meets w ↦ rw (w.self-inside-is, w.kept-is) (record {
        newest = l.newest;
        len = l.len;
        long = l.long;
        filtered = left_out (λ (e : Entry). not (meets e.1 c.args.first c.args.count)) _ now.newest now.len now.slots start fits l.long
            c.loop-i.kept c.loop-i.i _ _ l.filtered in_use refl (ap not (sym c.meets.ensures ∙ w.if-not-meets.false));
      })
    ]
