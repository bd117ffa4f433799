use Rattle.std.proofs.Common.{◌≡◌, ℕ, ◌+◌, ◌-◌, ◌*◌, ◌<◌, ◌≤◌, ◌||◌, nat_lt, true, false, ap, sym, ◌∙◌, arith}
use Rattle.std.proofs.lemmas.Bool.{ltb-true, ltb-false, lt-ltb, le-ltb, or_left, or_right, both_ways, ltb_from_iff}
use Rattle.mx_words.specs.Ranges.{ram_base}
use Rattle.mx_supervisor.proofs.supervisor.Supervisor.is_outside.Goals as goal
use Rattle.mx_supervisor.proofs.supervisor.Supervisor.is_outside.Goals.{then-addr-lt-RAM_BASE, else-addr-lt-RAM_BASE}

far : (a n s w : ℕ) → w ≡ s → nat_lt (4 * w) (a - ram_base) ≡ true → nat_lt (ram_base + 4 * s) (a + n) ≡ true
far a n s w e t = let h : 4 * w < a - ram_base = ltb-true _ _ t in lt-ltb _ _ (omega (arith, h, e))

near : (a n s w : ℕ) → w ≡ s → ram_base ≤ a → nat_lt (4 * w) (a - ram_base) ≡ false →
    (nat_lt a ram_base || nat_lt (ram_base + 4 * s) (a + n)) ≡ nat_lt (4 * w - (a - ram_base)) n
near a n s w e b f =
    let h : a - ram_base ≤ 4 * w = ltb-false _ _ f in
    rw (le-ltb a ram_base b) (ltb_from_iff (
      λ t. let m : ram_base + 4 * s < a + n = ltb-true _ _ t in omega (arith, m, h, b, e),
      λ m. lt-ltb _ _ (omega (arith, m, h, b, e)),
    ))

pub returns-then-addr-size : goal.returns-then-addr-size
returns-then-addr-size g c =
    let size = c.words-size.ensures ∙ ap g.T.PermTables.size c.tables.ensures in
    elim c.if-addr-lt-RAM_BASE.branch [
      | then-addr-lt-RAM_BASE w ↦ or_left _ _ (lt-ltb _ _ w.if-addr-lt-RAM_BASE.true) ∙ sym c.if-addr-size.true
      | else-addr-lt-RAM_BASE w ↦ or_right _ _ (far _ _ _ _ size (sym w.value-is ∙ c.if-addr-size.true))
          ∙ sym c.if-addr-size.true
    ]

pub returns-else-addr-size : goal.returns-else-addr-size
returns-else-addr-size g c =
    let size = c.words-size.ensures ∙ ap g.T.PermTables.size c.tables.ensures in
    elim c.if-addr-lt-RAM_BASE.branch [
      | then-addr-lt-RAM_BASE w ↦ absurd
          (both_ways _ c.if-addr-size.false (w.value-is ∙ lt-ltb _ _ w.if-addr-lt-RAM_BASE.true))
      | else-addr-lt-RAM_BASE w ↦ near _ _ _ _ size w.if-addr-lt-RAM_BASE.false (sym w.value-is ∙ c.if-addr-size.false)
    ]

pub overflow_mul-size : goal.overflow_mul-size
overflow_mul-size g c =
    omega (arith, c.words-size.ensures ∙ ap g.T.PermTables.size c.tables.ensures, c.requires.few_words)

pub overflow_sub-result-else-addr-size : goal.overflow_sub-result-else-addr-size
overflow_sub-result-else-addr-size g c =
    elim c.if-addr-lt-RAM_BASE.branch [
      | then-addr-lt-RAM_BASE w ↦ absurd
          (both_ways _ c.if-addr-size.false (w.value-is ∙ lt-ltb _ _ w.if-addr-lt-RAM_BASE.true))
      | else-addr-lt-RAM_BASE w ↦ ltb-false _ _ (sym w.value-is ∙ c.if-addr-size.false)
    ]
