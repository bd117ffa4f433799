use Rattle.std.proofs.Common.{◌≡◌, suc, ◌+◌, ◌<◌, ◌≤◌, List, sym, ◌∙◌, ap, subst, refl, arith}
use Rattle.mx_words.specs.declared.perm.Perm.{Perm}
use Rattle.mx_words.specs.declared.perm.Perm.TheVariants as P
use Rattle.mx_words.specs.declared.perm.Span.{Span}
use Rattle.mx_words.specs.Newest.{laid}
use Rattle.mx_words.specs.Changes.{grant_of}
use Rattle.mx_table.specs.Tables.{granted, no_span}
use Rattle.mx_table.specs.Rows.{span_at, end_at, first_spans}
use Rattle.mx_table.proofs.RowLaws.{got, ends_before, length-first, first_more}
use Rattle.mx_segments.specs.declared.plan.Plan.{Plan}
use Rattle.mx_segments.specs.declared.tally.Tally.{Tally}
use Rattle.mx_segments.specs.Tally.{IsTally}
use Rattle.mx_segments.proofs.TallyLaws.{tally_more}
use Rattle.mx_segments.proofs.tally.with_span.Goals as goal

pub returns : goal.returns
returns c =
    let words = c.args.words in
    let row = c.args.row.now in
    let n = c.args.n in
    let s = c.get-span.result in
    let m = first_spans words row n in
    let is : s ≡ span_at row n = got row n s no_span c.get-span.ensures in
    let same_first : s.first ≡ (span_at row n).first = ap (λ (x : Span). x.first) is in
    let same_count : s.count ≡ (span_at row n).count = ap (λ (x : Span). x.count) is in
    let some : 0 < s.count = omega (arith, same_count, c.requires.row.some n c.requires.place) in
    let inside : s.first + s.count ≤ words = omega (arith, same_first, same_count, c.requires.row.inside n c.requires.place) in
    let behind : c.args.tally.now.end ≤ s.first = omega (
      arith,
      same_first,
      c.requires.end,
      ends_before words row c.requires.row n
          c.requires.place,
    ) in
    let plan : Plan = record {
      before = c.count_before.result;
      behind = c.args.tally.now.runs;
      all = c.args.tally.now.runs;
      starts =
          c.is_begun.result;
      ends = c.is_ended.result;
      next = P.None;
    } in
    let tally : Tally = record { end = s.first + s.count; before = c.second.result; runs = c.kept_count.result; last = s.perm } in
    let more : IsTally words (laid (grant_of s.first s.count s.perm) m) tally =
    tally_more words m (length-first words row c.requires.row n) c.args.tally.now c.requires.tally s.first s.count s.perm some inside behind
    plan
    c.count_before.ensures refl refl c.is_begun.ensures c.is_ended.ensures refl tally refl c.second.ensures c.kept_count.ensures refl in
    let maps : laid (grant_of s.first s.count s.perm) m ≡ first_spans words row (n + 1) =
    ap (λ (x : Span). laid (granted x) m) is ∙ sym (first_more words row c.requires.row n c.requires.place) in
    let T : List Perm → Type 0 = λ x. IsTally words x tally in
    let next : suc n ≡ n + 1 = omega arith in
    record {
      tally = subst T maps more;
      end = ap (λ (x : Span). x.first + x.count) is ∙ ap (end_at row) next;
    }
