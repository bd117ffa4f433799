use Rattle.std.proofs.Common.{◌≡◌, ℕ, ◌+◌, ◌*◌, ◌-◌, ◌^◌, ◌<◌, ◌≤◌, length, false, true, None, Some}
use Rattle.std.proofs.Common.{sym, ap, ◌∙◌, subst, arith}
use Rattle.mx_words.specs.declared.perm.Access.TheVariants.{Execute}
use Rattle.mx_words.specs.Caches.{found_in_place}
use Rattle.mx_words.specs.Rights.{allows}
use Rattle.mx_check.specs.Harts.{kept_at}
use Rattle.mx_model.specs.Gates.{gate_target}
use Rattle.mx_machine.specs.Harts.{hart_among}
use Rattle.mx_machine.specs.Held.{Held}
use Rattle.mx_machine.proofs.Bounds.{le-le, least-le, least-other, less-le, most-ge, most-other}
use Rattle.mx_machine.proofs.InnerSizes.{checker-inside}
use Rattle.mx_machine.proofs.WindowLaws.{window-found, window-shut}
use Rattle.mx_machine.proofs.bare.Bare.window.Goals as goal

in-words : (first end words size : ℕ) → words ≡ size → size ≤ 2 ^ 24 → first < end → end ≤ words →
    (4 * first < 2 ^ 32) × ((2147483648 + 4 * first < 2 ^ 32) × (4 * (end - first) < 2 ^ 32))
in-words first end words size same few below upto = (
  omega (arith, same, few, below, upto),
  (omega (arith, same, few, below, upto), omega (arith, same, few, below, upto)),
)

pub returns-then-self : goal.returns-then-self
returns-then-self g c = window-shut c.args.self.now c.args.hart

pub returns-in_default : goal.returns-in_default
returns-in_default g c = window-shut c.args.self.now c.args.hart

pub returns-in_default-at_hand : goal.returns-in_default-at_hand
returns-in_default-at_hand g c = window-shut c.args.self.now c.args.hart

pub returns-then-not-allows : goal.returns-then-not-allows
returns-then-not-allows g c = window-shut c.args.self.now c.args.hart

pub returns-else-first-end : goal.returns-else-first-end
returns-else-first-end g c = window-shut c.args.self.now c.args.hart

pub pc-requires : goal.pc-requires
pc-requires g c = subst (λ (k : Held). c.args.hart < length k.harts) (sym c.self.view_is) c.requires.there

pub domain-requires : goal.domain-requires
domain-requires g c = subst (λ (k : Held). c.args.hart < length k.harts) (sym c.self.view_is) c.requires.there

pub tables-requires : goal.tables-requires
tables-requires g c = search checker-inside

pub word_of-requires : goal.word_of-requires
word_of-requires g c =
    subst (λ (n : ℕ). n ≤ 2 ^ 24) (sym (c.words-words.ensures ∙ ap g.T.PermTables.size c.tables.ensures
    ∙ ap (λ (k : Held). k.parts.size) c.self.view_is)) c.requires.fits.sound.few_words

pub returns-then-first-end : goal.returns-then-first-end
returns-then-first-end g c =
    let m = c.args.self.now in
    let h = c.args.hart in
    let word = c.in-Some.word in
    let s = c.in-Some-at_hand.span in
    let first = c.max-first.result in
    let end = c.min-end.result in
    let d = (hart_among m.harts h).domain in
    let quiet : m.waiting ≡ false = sym (ap (λ (k : Held). k.waiting) c.self.view_is) ∙ c.if-self.false in
    let found : found_in_place (kept_at m.parts.harts h).cache.places 0 word ≡ Some s = sym (c.at_hand.ensures
    ∙ ap (λ (k : Held). found_in_place (kept_at k.parts.harts h).cache.places 0 word) c.self.view_is) ∙ c.in-Some-at_hand.is in
    let right : allows s.perm Execute ≡ true = sym c.allows.ensures ∙ c.if-not-allows.false in
    let words : c.words-words.result ≡ m.parts.size = c.words-words.ensures ∙ ap g.T.PermTables.size c.tables.ensures
    ∙ ap (λ (k : Held). k.parts.size) c.self.view_is in
    let upto : end ≤ c.min.result = least-le c.min.result c.words-words.result end c.min-end.ensures in
    let ends : end ≤ c.clear-first.result.1 = le-le end c.min.result c.clear-first.result.1 upto
    (least-le c.clear-first.result.1 c.saturating_add.result c.min.result c.min.ensures) in
    let sum : end ≤ c.saturating_add.result = le-le end c.min.result c.saturating_add.result upto
    (least-other c.clear-first.result.1 c.saturating_add.result c.min.result c.min.ensures) in
    let high : end ≤ s.first + s.count = le-le end c.saturating_add.result (s.first + s.count) sum
    (least-le (s.first + s.count) _ c.saturating_add.result c.saturating_add.ensures) in
    let within : end ≤ m.parts.size = subst (λ n. end ≤ n) words (least-other c.min.result c.words-words.result end c.min-end.ensures) in
    let clear : (w : ℕ) → first ≤ w → w < end → gate_target m.parts.gates d w ≡ None = λ w from to.
    sym (ap (λ n. gate_target c.self.inside.bus.supervisor.gates n w) c.domain.ensures
    ∙ ap (λ (k : Held). gate_target k.parts.gates (hart_among k.harts h).domain w) c.self.view_is)
    ∙ c.clear-first.ensures w (le-le c.clear-first.result.0 first w (most-ge c.clear-first.result.0 s.first first c.max-first.ensures) from)
    (less-le w end c.clear-first.result.1 to ends) in
    window-found m h word first end s quiet c.requires.fits.sound.few_words found right clear
    (most-other c.clear-first.result.0 s.first first c.max-first.ensures) high within c.if-first-end.true

pub words-words-requires : goal.words-words-requires
words-words-requires g c κs = λ within. within

pub at_hand-requires : goal.at_hand-requires
at_hand-requires g c = (
  search checker-inside,
  subst (λ (n : ℕ). c.args.hart < n)
      (c.requires.fits.count ∙ ap (λ (k : Held). length k.parts.harts) (sym c.self.view_is)) c.requires.there,
)

pub overflow_mul-result : goal.overflow_mul-result
overflow_mul-result g c =
    let words : c.words-words.result ≡ c.args.self.now.parts.size =
    c.words-words.ensures ∙ ap g.T.PermTables.size c.tables.ensures ∙ ap (λ (k : Held). k.parts.size) c.self.view_is in
    let few = in-words c.max-first.result c.min-end.result c.words-words.result c.args.self.now.parts.size words
    c.requires.fits.sound.few_words c.if-first-end.true
    (least-other c.min.result c.words-words.result c.min-end.result c.min-end.ensures) in
    record { fits = few.0 }

pub overflow_add-result : goal.overflow_add-result
overflow_add-result g c =
    let words : c.words-words.result ≡ c.args.self.now.parts.size =
    c.words-words.ensures ∙ ap g.T.PermTables.size c.tables.ensures ∙ ap (λ (k : Held). k.parts.size) c.self.view_is in
    let few = in-words c.max-first.result c.min-end.result c.words-words.result c.args.self.now.parts.size words
    c.requires.fits.sound.few_words c.if-first-end.true
    (least-other c.min.result c.words-words.result c.min-end.result c.min-end.ensures) in
    record { fits = few.1.0 }

pub overflow_sub-result : goal.overflow_sub-result
overflow_sub-result g c = omega (arith, c.if-first-end.true)

pub overflow_mul-result-then-first-end : goal.overflow_mul-result-then-first-end
overflow_mul-result-then-first-end g c =
    let words : c.words-words.result ≡ c.args.self.now.parts.size =
    c.words-words.ensures ∙ ap g.T.PermTables.size c.tables.ensures ∙ ap (λ (k : Held). k.parts.size) c.self.view_is in
    let few = in-words c.max-first.result c.min-end.result c.words-words.result c.args.self.now.parts.size words
    c.requires.fits.sound.few_words c.if-first-end.true
    (least-other c.min.result c.words-words.result c.min-end.result c.min-end.ensures) in
    record { fits = few.1.1 }
