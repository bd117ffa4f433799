-- A turn inside a window: the hart acts as the machine stands.
use Rattle.std.proofs.Common.{◌≡◌, ℕ, false, List, refl, sym, ap, subst, ◌∙◌}
use Rattle.mx_check.specs.Conditions.{HasHeardAll, IsAtHand}
use Rattle.mx_check.specs.Harts.{Kept}
use Rattle.mx_check.specs.Harts.{kept_at}
use Rattle.mx_model.specs.Turn.{is_return_at}
use Rattle.mx_model.specs.Valid.{IsValid}
use Rattle.mx_machine.specs.declared.hart.Progress.TheVariants as P
use Rattle.mx_machine.specs.Actions.{counted, heard}
use Rattle.mx_machine.specs.AtGate.{gate_here}
use Rattle.mx_machine.specs.Harts.{hart_among}
use Rattle.mx_machine.specs.Held.{Held}
use Rattle.mx_machine.specs.Made.{core_in, hart_in, instruction, made_after_hearing}
use Rattle.mx_machine.specs.Ties.{IsWhole, MayRun, RunsAlive}
use Rattle.mx_machine.specs.Windows.{IsOpen}
use Rattle.mx_machine.proofs.CaseLaws.{acts-plain}
use Rattle.mx_machine.proofs.HearLaws.{all-quiet, heard-quiet}
use Rattle.mx_machine.proofs.MayLaws.{acts-now, none-flies, stands-now, valid-now}
use Rattle.mx_machine.proofs.StretchLaws.{alive-now}

-- what hart h may rest on that stands in a window of a machine, in the machine after its turn is counted
pub record ActsInside (m : Held) (h : ℕ) (n : Held) : Type 0 where
  pub after : n ≡ heard h (counted m)
  pub valid : IsValid (core_in n)
  pub run : MayRun n h
  pub plain : false ≡ is_return_at (core_in n) (hart_in n h).domain (hart_in n h).pc
  pub acts : made_after_hearing n h ≡ instruction n h
  pub at_hand : IsAtHand n.parts.size (kept_at n.parts.harts h).cache (hart_among n.harts h).pc

module _ (m : Held) (h : ℕ) (w : IsWhole m) (r : RunsAlive m h) where
  pub acts-inside : (n : Held) → n ≡ counted m → IsOpen m h (hart_among m.harts h).pc → ActsInside m h n
  acts-inside n is o =
      let still = none-flies m w.fits o.quiet in
      let quiet : heard h (counted m) ≡ counted m = ap (λ (kept : List Kept).
      record (counted m) { parts = record m.parts { harts = kept } }) (heard-quiet m.parts.harts h still) in
      let after : n ≡ heard h (counted m) = is ∙ sym quiet in
      let all : HasHeardAll h n.parts.harts = subst (λ (k : Held). HasHeardAll h k.parts.harts) (sym is) (all-quiet m.parts.harts h still)
      in
      let run : MayRun n h = record {
        act = acts-now m h w P.Running r.runs refl n after all;
        runs =
            stands-now m h w P.Running r.runs refl n after;
      } in
      let gate = ap (λ (k : Held). gate_here k (hart_among k.harts h).domain (hart_among k.harts h).pc) is ∙ o.gate in
      let plain = acts-plain n h (hart_among n.harts h).domain (hart_among n.harts h).pc run refl refl (alive-now m n h r after) gate in
      record {
        after = after;
        valid = valid-now m h w P.Running r.runs refl n after;
        run = run;
        plain = plain.1;
        acts = plain.0;
        at_hand = subst (λ (k : Held). IsAtHand k.parts.size (kept_at k.parts.harts h).cache (hart_among k.harts h).pc) (sym is) o.at_hand;
      }
