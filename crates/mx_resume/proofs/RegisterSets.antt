-- Registers that are put into an array.
use Rattle.std.proofs.Common.{◌≡◌, ◌≢◌, ℕ, ◌+◌, ◌<◌, ◌≤◌, ◌==◌, Bool, true, false, List, length, get_or, set, take, refl, sym, ap, ◌∙◌}
use Rattle.std.proofs.Common.{subst, arith, eqb-true}
use Rattle.std.proofs.lemmas.Bool.Decides.{nat_tests}
use Rattle.std.proofs.lemmas.List.{get_or-set_other, get_or-set_same, length-take-le}
use Rattle.mx_words.specs.Announced.{is_announced}
use Rattle.mx_machine.specs.declared.views.HartStatus.{HartStatus}
use Rattle.mx_machine.specs.declared.views.HartStatus.TheVariants.{Waiting}
use Rattle.mx_snapshot.specs.Reader.{Took, number, such}
use Rattle.mx_snapshot.specs.Rules.{is_register}
use Rattle.mx_resume.specs.declared.refused.SnapshotRefused.{SnapshotRefused}
use Rattle.mx_resume.specs.Taking.{Misses}

-- the item behind so many registers is that of their number
pub register_taken : (status : HartStatus) (regs : List ℕ) (i : ℕ) (bytes : List ℕ) (at v now : ℕ) → i ≤ length regs
    → such (is_register status i) number bytes at ≡ Took v now →
    such (is_register status (length (take i regs))) number bytes at ≡ Took v now
register_taken status regs i bytes at v now le e = ap (λ (k : ℕ). such (is_register status k) number bytes at) (length-take-le i regs le)
    ∙ e

pub register_missed : (status : HartStatus) (regs : List ℕ) (i : ℕ) (bytes : List ℕ) (at : ℕ) (refused : SnapshotRefused) → i ≤ length regs
    → Misses (such (is_register status i) number bytes at) refused →
    Misses (such (is_register status (length (take i regs))) number bytes at) refused
register_missed status regs i bytes at refused le m = subst (λ (k : ℕ). Misses (such (is_register status k) number bytes at) refused)
    (sym (length-take-le i regs le)) m

pub call_set : (status : HartStatus) (regs : List ℕ) (i v : ℕ) → i < length regs
    → (17 < i → status ≡ Waiting → is_announced (get_or regs 17 0) ≡ true) → is_register status i v ≡ true →
    17 < i + 1 → status ≡ Waiting → is_announced (get_or (set regs i v) 17 0) ≡ true
call_set status regs i v lt old range above waits = by (i == 17) refl where
  by : (b : Bool) → (i == 17) ≡ b → is_announced (get_or (set regs i v) 17 0) ≡ true
  by true e =
      let here : i ≡ 17 = eqb-true i 17 e in
      let told : is_register Waiting 17 v ≡ true = subst (λ (k : ℕ). is_register Waiting k v ≡ true) here
      (subst (λ s. is_register s i v ≡ true) waits range) in
      ap (λ (k : ℕ). is_announced (get_or (set regs k v) 17 0)) here
      ∙ ap is_announced (get_or-set_same regs 17 v 0 (omega (arith, lt, here))) ∙ told
  by false e =
      let other : 17 ≢ i = λ same. grind (arith, nat_tests) in
      ap is_announced (get_or-set_other regs i 17 v 0 other) ∙ old (omega (arith, above, other)) waits
