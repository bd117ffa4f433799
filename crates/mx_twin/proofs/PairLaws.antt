-- Pairs of machines, and agreement by its parts.
use Rattle.std.proofs.Common.{◌≡◌, ℕ, zero, suc, ◌-◌, ◌<◌, ◌≤◌, ◌⊎◌, inl, inr, ◌&&◌, List, [], length, ◌∙◌, ap, arith, lit≤}
use Rattle.std.proofs.Math.ListN.{get_or-eq_default}
use Rattle.std.proofs.lemmas.Bool.{cases_lt}
use Rattle.std.proofs.lemmas.Bool.Decides.{Decides-and, Decides-like, same_from_decides}
use Rattle.mx_words.specs.declared.perm.Perm.{Perm}
use Rattle.mx_words.specs.Newest.{map}
use Rattle.mx_words.proofs.OverlayLaws.{length-map_of}
use Rattle.mx_model.specs.Reads.{flat_reads, map_in}
use Rattle.mx_model.specs.State.{Flat, hart_at}
use Rattle.mx_model.specs.Valid.{IsModule, IsValid}
use Rattle.mx_touched.specs.Pairs.{ArePair, IsSound, flat_agrees}
use Rattle.mx_touched.specs.Views.{same_hart, same_views}
use Rattle.mx_touched.proofs.Decide.{decides-hart, views-decides}
use Rattle.mx_touched.proofs.Pairs.{agrees-is, fit}
use Rattle.mx_twin.specs.Turns.{AreAlike}

-- what holds of every machine
pub record IsWhole (f : Flat) : Type 0 where
  pub valid : IsValid f.core
  pub maps : length f.maps ≡ length f.core.modules
  pub whole : (d : ℕ) → IsModule (length f.core.modules) d → length (map_in f.core.size f.maps d) ≡ f.core.size

pub whole-of : (f : Flat) → IsValid f.core → length f.maps ≡ length f.core.modules →
    ((d : ℕ) → IsModule (length f.core.modules) d → length (map_in f.core.size f.maps d) ≡ f.core.size) → IsWhole f
whole-of f v m w = record { valid = v; maps = m; whole = w }

pub sound-of : (f : Flat) → IsWhole f → IsSound f
sound-of f w = record { valid = w.valid; whole = λ d. by d (cases_lt (length f.core.modules) d) }
  where
    by : (d : ℕ) → (length f.core.modules < d) ⊎ (d ≤ length f.core.modules) → length (map_in f.core.size f.maps d) ≡ f.core.size
    by zero x = w.whole 1 (record { first = lit≤ tt; last = w.valid.some_modules })
    by (suc n) (inl out) =
        let maps = w.maps in
        ap (λ (m : List Perm). length m)
        (get_or-eq_default f.maps (map [] f.core.size) (let l : length f.maps ≤ suc n - 1 = omega (arith, out, maps) in l))
        ∙ length-map_of [] f.core.size
    by (suc n) (inr l) = w.whole (suc n) (record { first = omega arith; last = l })

pub pair-of : (f g : Flat) → AreAlike f g → IsWhole f → IsWhole g → ArePair f g
pair-of f g a v w = record {
  first = sound-of f v;
  second = sound-of g w;
  words = a.words;
  harts = a.harts;
  modules = a.modules;
}

-- agreement for a hart: the hart, and what its domain sees
pub agrees-as : (f g : Flat) (i : ℕ) → ArePair f g →
    (same_hart (hart_at f.core i) (hart_at g.core i)
    && same_views (flat_reads f) f.core (flat_reads g) g.core (hart_at f.core i).domain) ≡ flat_agrees f g i
agrees-as f g i p =
    let x = hart_at f.core i in
    let y = hart_at g.core i in
    same_from_decides (same_hart x y && same_views (flat_reads f) f.core (flat_reads g) g.core x.domain) (flat_agrees f g i)
    (Decides-like (same_hart x y && same_views (flat_reads f) f.core (flat_reads g) g.core x.domain)
    (λ k. record {
      same_standing = k.0.standing;
      same_pc = k.0.pc;
      same_regs = k.0.regs;
      same_domain = k.0.domain;
      same_map = k.1.map;
      same_death = k.1.death;
      same_gates = k.1.gates;
      same_bytes = k.1.bytes;
    })
    (λ a. (
      record { standing = a.same_standing; pc = a.same_pc; regs = a.same_regs; domain = a.same_domain },
      record { map = a.same_map; death = a.same_death; gates = a.same_gates; bytes = a.same_bytes },
    ))
    (Decides-and _ _ (decides-hart x y) (views-decides (flat_reads f) f.core (flat_reads g) g.core x.domain (fit f g p))))
    (agrees-is f g i p)
