use Rattle.std.proofs.Common.{◌≡◌, ◌+◌, ◌*◌, ◌/◌, true, false, sym, ap, ◌∙◌, arith}
use Rattle.mx_words.specs.Rights.{number, perm_at}
use Rattle.mx_words.proofs.NumberLaws.{number-small}
use Rattle.mx_pool.specs.Frames.{word_at}
use Rattle.mx_trie.specs.Digits.{digit}
use Rattle.mx_trie.specs.Filled.{flat_vector}
use Rattle.mx_trie.proofs.EvenLines.{perm-none}
use Rattle.mx_trie.proofs.WideBlocks.{wide-some, wide-word, flat-digit}
use Rattle.mx_trie.proofs.even.wide_perm.Goals as goal
use Rattle.mx_trie.proofs.even.wide_perm.Goals.{then-entry-flat_vector-via-then-entry-flat_vector}
use Rattle.mx_trie.proofs.even.wide_perm.Goals.{then-entry-flat_vector-via-else-entry-flat_vector+then-not-is_alike}

pub returns-then-entry-flat_vector : goal.returns-then-entry-flat_vector
returns-then-entry-flat_vector c = λ kind leaf spill m x pages.
    perm-none m (x * 1048576 + c.args.part * 131072) 131072
    (λ alike.
    let words = wide-word kind c.args.upper.now leaf spill m x c.args.frame c.args.part c.requires.part pages alike in
    let n = number (perm_at m (x * 1048576 + c.args.part * 131072)) in
    let at : 128 * c.args.part ≡ 128 * c.args.part + 0 = omega arith in
    let entry_is : c.get-entry.result ≡ flat_vector n =
    c.get-entry.ensures ∙ ap (word_at c.args.upper.now c.args.frame) at ∙ words 0 (omega arith) in
    elim c.then-entry-flat_vector.branch [
      | then-entry-flat_vector-via-then-entry-flat_vector w ↦
          (let told : number c.perm_in-perm.result ≡ n =
          c.perm_in-perm.ensures ∙ ap (λ e. digit (e / 4) 0) entry_is
          ∙ flat-digit n 0 (number-small (perm_at m (x * 1048576 + c.args.part * 131072))) (omega arith) in
          w.if-entry-flat_vector.true (entry_is ∙ sym (c.flat_vector.ensures.value ∙ ap flat_vector told)))
      | then-entry-flat_vector-via-else-entry-flat_vector+then-not-is_alike w ↦
          (let yes = w.is_alike.ensures.no (λ k inside. words k inside
          ∙ sym (ap (word_at c.args.upper.now c.args.frame) at ∙ words 0 (omega arith))) in
          let no : true ≡ false = sym yes ∙ w.if-not-is_alike.true in
          cc)
    ])

pub returns : goal.returns
returns c = λ kind leaf spill m x pages.
    wide-some kind c.args.upper.now leaf spill m x c.args.frame c.args.part c.requires.part pages c.perm_in-perm.result
    (λ j inside. c.is_alike.ensures.yes c.if-not-is_alike.false j inside ∙ sym c.get-entry.ensures ∙ c.if-entry-flat_vector.false
    ∙ c.flat_vector.ensures.value)
