use Rattle.std.proofs.Common.{◌≡◌, List, [], ◌∷◌, length, refl, ap, sym, ◌∙◌, arith}
use Rattle.mx_elf.specs.declared.segment.Seg.{Seg}
use Rattle.mx_debug_texts.specs.Documents.{lowest_of}
use Rattle.mx_debug_texts.proofs.WindowLaws.{drop_got}
use Rattle.mx_debug_texts.proofs.images.lowest_of.Goals as goal

of_none : (all : List Seg) → length all ≡ 0 → 0 ≡ lowest_of all
of_none [] none = refl
of_none (s ∷ all) none = absurd (omega arith)

pub returns-then-len-eq0 : goal.returns-then-len-eq0
returns-then-len-eq0 c = of_none c.args.segments.now (omega arith)

pub returns-else-len-eq0 : goal.returns-else-len-eq0
returns-else-len-eq0 c =
    c.lowest_from.ensures ∙ sym (ap lowest_of (drop_got c.args.segments.now 0 c.get.result c.get.ensures))
