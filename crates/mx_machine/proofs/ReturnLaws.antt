-- A JAL or JALR at a return gate, by the return address of the top frame.
use Rattle.std.proofs.Common.{◌≡◌, ◌≢◌, ℕ, Bool, cond, refl, sym, ap, subst, ◌∙◌, eq-eqb, Option, Some, None}
use Rattle.std.specs.Prelude.{option_map}
use Rattle.std.specs.Option.{option_map_or}
use Rattle.std.proofs.lemmas.Bool.{ne_eqb}
use Rattle.mx_model.specs.declared.values.Frame.{Frame}
use Rattle.mx_model.specs.declared.values.TurnKind.TheVariants as T
use Rattle.mx_model.specs.Events.{no_events}
use Rattle.mx_model.specs.Gates.{top}
use Rattle.mx_model.specs.State.{Hart as Seen}
use Rattle.mx_model.specs.Turn.{Returns, Traps, at_return, returned_over}
use Rattle.mx_machine.specs.Actions.{returned}
use Rattle.mx_machine.specs.Harts.{hart_among}
use Rattle.mx_machine.specs.Held.{Held}
use Rattle.mx_machine.specs.Made.{IsMade, made_by, hart_in}
use Rattle.mx_machine.specs.Ties.{Fits, MayRun}
use Rattle.mx_machine.proofs.MadeLaws.{fits-return, made-return}
use Rattle.mx_machine.proofs.InstructLaws.{seen-running}

module _ (m : Held) (h rd target : ℕ) (r : MayRun m h) where
  at-top : (o : Option Frame) → top (hart_among m.harts h).frames ≡ o →
      made_by m h (at_return (hart_in m h) rd target) ≡ made_by m h (option_map_or (returned_over rd target) o (Traps 18 target))
  at-top o e = ap (λ (p : Option Frame). made_by m h (option_map_or (returned_over rd target) p (Traps 18 target)))
      (ap (λ (y : Seen). top y.frames) (seen-running m h r) ∙ e)

  pub back-none : option_map (λ (f : Frame). f.back) (top (hart_among m.harts h).frames) ≡ None →
      made_by m h (at_return (hart_in m h) rd target) ≡ made_by m h (Traps 18 target)
  back-none e = by (top (hart_among m.harts h).frames) refl e
    where
      by : (o : Option Frame) → top (hart_among m.harts h).frames ≡ o → option_map (λ (f : Frame). f.back) o ≡ None
          → made_by m h (at_return (hart_in m h) rd target) ≡ made_by m h (Traps 18 target)
      by None p q = at-top None p
      by (Some f) p q = absurd (let z : ⊥ = cc in z)

  pub back-other : (b : ℕ) → option_map (λ (f : Frame). f.back) (top (hart_among m.harts h).frames) ≡ Some b → b ≢ target →
      made_by m h (at_return (hart_in m h) rd target) ≡ made_by m h (Traps 17 target)
  back-other b e ne = by (top (hart_among m.harts h).frames) refl e
    where
      by : (o : Option Frame) → top (hart_among m.harts h).frames ≡ o → option_map (λ (f : Frame). f.back) o ≡ Some b
          → made_by m h (at_return (hart_in m h) rd target) ≡ made_by m h (Traps 17 target)
      by None p q = absurd (let z : ⊥ = cc in z)
      by (Some f) p q =
          let is : f.back ≡ b = cc in
          at-top (Some f) p ∙ ap (λ (t : Bool). made_by m h (cond t (Returns rd f) (Traps 17 target)))
          (ne_eqb f.back target (λ z. ne (sym is ∙ z)))

  -- it returns
  pub record IsReturned (n : Held) : Type 0 where
    pub made : IsMade m n no_events T.Returned (made_by m h (at_return (hart_in m h) rd target))
    pub fits : Fits n

  pub back-same : (b : ℕ) → option_map (λ (f : Frame). f.back) (top (hart_among m.harts h).frames) ≡ Some b → b ≡ target
      → IsReturned (returned h rd m)
  back-same b e same = by (top (hart_among m.harts h).frames) refl e
    where
      by : (o : Option Frame) → top (hart_among m.harts h).frames ≡ o → option_map (λ (f : Frame). f.back) o ≡ Some b
          → IsReturned (returned h rd m)
      by None p q = absurd (let z : ⊥ = cc in z)
      by (Some f) p q =
          let is : f.back ≡ b = cc in
          let over = at-top (Some f) p ∙ ap (λ (t : Bool). made_by m h (cond t (Returns rd f) (Traps 17 target)))
          (eq-eqb f.back target (is ∙ same)) in
          record {
            made = subst (λ d. IsMade m (returned h rd m) no_events T.Returned d) (sym over) (made-return m h rd f r p);
            fits = fits-return m h rd f r p;
          }
