-- A twin run under way.
use Rattle.std.proofs.Common.{◌≡◌, ℕ, suc, ◌+◌, ◌-◌, ◌/◌, ◌%◌, ◌<◌, ◌≤◌, Bool, true, false, length, refl, sym, ◌∙◌, ap, subst, arith}
use Rattle.std.proofs.Common.{if◌then◌else◌, Option, Some, None}
use Rattle.mx_model.specs.declared.values.TurnKind.{TurnKind}
use Rattle.mx_model.specs.declared.values.TurnKind.TheVariants as T
use Rattle.mx_model.specs.Reads.{flat_reads}
use Rattle.mx_model.specs.Run.{all_halted, flat_kind, flat_turn}
use Rattle.mx_model.specs.State.{Flat}
use Rattle.mx_model.specs.Valid.{IsModule}
use Rattle.mx_model.proofs.KeepLaws.{keeps-turned}
use Rattle.mx_touched.specs.Pairs.{ArePair, IsRight, Knows, any_compared, fails}
use Rattle.mx_touched.proofs.Going.{pair-turn}
use Rattle.mx_touched.proofs.Pairs.{known-holds, start-known}
use Rattle.mx_twin.specs.declared.twin.TwinEnd.TheVariants as E
use Rattle.mx_twin.specs.Turns.{AreAlike}
use Rattle.mx_twin.specs.Twins.{next_hart, twins, twins_from}
use Rattle.mx_twin.proofs.TurnRows.{alike-turn, halted-agreed, twins-on, twins-stop}

-- after `made` of so many turns, from f and g to u and v: the answer is that of the turns left, and what is known is so
pub record IsGoing (d quantum steps harts : ℕ) (f g : Flat) (made : ℕ) (u v : Flat) (known : Bool) : Type 0 where
  pub within : made ≤ steps
  pub rest : twins d quantum steps f g ≡ twins_from d quantum (steps - made) made u v
  pub pair : ArePair u v
  pub alike : AreAlike u v
  pub count : length u.core.harts ≡ harts
  pub domain : IsModule (length u.core.modules) d
  pub first : u.core.turns ≡ f.core.turns + made
  pub second : v.core.turns ≡ g.core.turns + made
  pub knows : Knows d u v known

pub going-start : (d quantum steps : ℕ) (f g : Flat) → ArePair f g → AreAlike f g → IsModule (length f.core.modules) d
    → fails d f g ≡ false →
    IsGoing d quantum steps (length f.core.harts) f g 0 f g (any_compared d f g)
going-start d quantum steps f g p a m n = record {
  within = omega arith;
  rest = ap (λ (b : Bool). if b then E.Ended 0 0 T.Idle else twins_from d quantum steps 0 f g) n
      ∙ ap (λ (k : ℕ). twins_from d quantum k 0 f g) (let e : steps ≡ steps - 0 = omega arith in e);
  pair = p;
  alike = a;
  count = refl;
  domain = m;
  first = omega arith;
  second = omega arith;
  knows = start-known d f g p n;
}

-- a run whose start fails, and numbers of turns and harts in it
pub going-fails : (d quantum steps : ℕ) (f g : Flat) → fails d f g ≡ true →
    E.Ended 0 0 T.Idle ≡ twins d quantum steps f g
going-fails d quantum steps f g e =
    sym (ap (λ (b : Bool). if b then E.Ended 0 0 T.Idle else twins_from d quantum steps 0 f g) e)

pub few-turns : (t s made steps : ℕ) → t ≡ s + made → made < steps → s + steps < 18446744073709551616 →
    t < 18446744073709551615
few-turns t s made steps e l few = omega arith

pub hart-below : (a n harts all : ℕ) → n ≡ harts → harts ≡ all → 1 ≤ all → a % harts < n
hart-below a n harts all e f some = omega arith

module _ (d quantum steps harts : ℕ) (f g : Flat) (made : ℕ) (u v : Flat) (known : Bool)
    (k : IsGoing d quantum steps harts f g made u v known) where
  abbrev hart : ℕ
  hart = next_hart quantum made u

  pub going-halted : all_halted u.core ≡ true → all_halted v.core ≡ true → E.Agreed ≡ twins d quantum steps f g
  going-halted a b = sym (k.rest ∙ halted-agreed d quantum (steps - made) made u v k.pair a b)

  pub going-out : steps ≤ made → E.Agreed ≡ twins d quantum steps f g
  going-out l =
      sym (k.rest ∙ ap (λ (n : ℕ). twins_from d quantum n made u v) (let z : steps - made ≡ 0 = omega (arith, l) in z))

  pub going-stop : made < steps → IsRight d (flat_turn u hart) (flat_turn v hart) None →
      E.Ended (made + 1) hart (flat_kind u hart) ≡ twins d quantum steps f g
  going-stop l e =
      let one : steps - made ≡ suc (steps - (made + 1)) = omega (arith, l) in
      sym (k.rest ∙ twins-stop d quantum made u v (steps - (made + 1)) (steps - made) one e)

  pub going-on : made < steps → (still : Bool) → IsRight d (flat_turn u hart) (flat_turn v hart) (Some still) →
      IsGoing d quantum steps harts f g (made + 1) (flat_turn u hart) (flat_turn v hart) still
  going-on l still e =
      let one : steps - made ≡ suc (steps - (made + 1)) = omega (arith, l) in
      let x = keeps-turned (flat_reads u) u.core hart in
      let y = keeps-turned (flat_reads v) v.core hart in
      let a = x.turns in
      let b = y.turns in
      let first = k.first in
      let second = k.second in
      let pair = pair-turn u v hart k.pair in
      record {
        within = omega (arith, l);
        rest = k.rest ∙ twins-on d quantum made u v (steps - (made + 1)) (steps - made) one
            (known-holds d (flat_turn u hart) (flat_turn v hart) still pair e);
        pair = pair;
        alike = alike-turn u v hart k.alike;
        count = x.harts ∙ k.count;
        domain = subst (λ (n : ℕ). IsModule n d) (sym x.modules) k.domain;
        first = omega (arith, a, first);
        second = omega (arith, b, second);
        knows = e;
      }

  -- the same after a turn of the hart by its number, by what the calls in between tell
  module _ (h : ℕ) (e : made / quantum % harts ≡ h) (m n : Flat) (x : m ≡ flat_turn u h) (y : n ≡ flat_turn v h) (o : Option Bool)
      (r : IsRight d m n o) where
    here : hart ≡ h
    here = ap (λ (z : ℕ). made / quantum % z) k.count ∙ e

    first-is : m ≡ flat_turn u hart
    first-is = x ∙ ap (λ (z : ℕ). flat_turn u z) (sym here)

    second-is : n ≡ flat_turn v hart
    second-is = y ∙ ap (λ (z : ℕ). flat_turn v z) (sym here)

    right-is : IsRight d (flat_turn u hart) (flat_turn v hart) o
    right-is = subst (λ (z : Flat). IsRight d z (flat_turn v hart) o) first-is (subst (λ (z : Flat). IsRight d m z o) second-is r)

    pub going-next : made < steps → (still : Bool) → o ≡ Some still → IsGoing d quantum steps harts f g (made + 1) m n still
    going-next l still i =
        subst (λ (z : Flat). IsGoing d quantum steps harts f g (made + 1) z n still) (sym first-is)
        (subst (λ (z : Flat). IsGoing d quantum steps harts f g (made + 1) (flat_turn u hart) z still) (sym second-is)
        (going-on l still (subst (λ (z : Option Bool). IsRight d (flat_turn u hart) (flat_turn v hart) z) i right-is)))

    pub going-end : made < steps → o ≡ None → (kind : TurnKind) → kind ≡ flat_kind u h
        → E.Ended (made + 1) h kind ≡ twins d quantum steps f g
    going-end l i kind q =
        ap (λ (z : TurnKind). E.Ended (made + 1) h z) q
        ∙ ap (λ (z : ℕ). E.Ended (made + 1) z (flat_kind u z)) (sym here)
        ∙ going-stop l (subst (λ (z : Option Bool). IsRight d (flat_turn u hart) (flat_turn v hart) z) i right-is)
