-- Touches of a hart's bus, one after another: nothing but RAM and what the checker keeps of the harts changes.
use Rattle.std.proofs.Common.{◌≡◌, ℕ, List, [], ◌∷◌, refl, sym, ap, subst, ◌∙◌}
use Rattle.std.specs.Prelude.{fold}
use Rattle.mx_words.specs.declared.perm.Perm.{Perm}
use Rattle.mx_words.specs.declared.perm.Access.{Access}
use Rattle.mx_words.specs.declared.tables.Kind.{Kind}
use Rattle.mx_words.specs.declared.tables.Need.{Need}
use Rattle.mx_table.specs.Tables.{KeepsTables, map_of}
use Rattle.mx_check.specs.Harts.{Kept}
use Rattle.mx_check.specs.Looks.{looked_at_address}
use Rattle.mx_core.specs.Bus.{Touch, Through}
use Rattle.mx_machine.specs.declared.bus.HartBus.{HartBus}
use Rattle.mx_machine.specs.Bus.{IsTouch}

-- what the checks of touches leave of the harts
abbrev pub looks_over : Kind → ℕ → List (List Perm) → ℕ → ℕ → List Touch → List Kept → List Kept
looks_over kind most ms d h ts kept = fold (λ kept (t : Touch). looked_at_address most kind (map_of ms d) h t.place d t.address kept) kept
    ts

module _ {T : Type 0} {N : ℕ} (kind : Kind) (maps : T → List (List Perm)) (size : T → ℕ) (limit : T → Need) (lookups : T
    → ℕ) (most : ℕ) where
  pub record AreTouched (a : HartBus T N) (ts : List Touch) (b : HartBus T N) : Type 0 where
    pub hart : b.hart ≡ a.hart
    pub domain : b.domain ≡ a.domain
    pub tables : KeepsTables maps size limit a.supervisor.checker.tables b.supervisor.checker.tables
    pub owners : b.supervisor.owners ≡ a.supervisor.owners
    pub gates : b.supervisor.gates ≡ a.supervisor.gates
    pub heaps : b.supervisor.heaps ≡ a.supervisor.heaps
    pub harts : b.supervisor.checker.harts ≡ looks_over kind most (maps a.supervisor.checker.tables) a.domain a.hart ts
        a.supervisor.checker.harts

  abbrev Touches : HartBus T N → ℕ → ℕ → Access → HartBus T N → Type 0
  Touches old place address access new = IsTouch kind maps size limit lookups most old place address new

  pub are-touched : (ts : List Touch) (a b : HartBus T N) → Through Touches a ts b → AreTouched a ts b
  are-touched [] a b p = record {
    hart = ap (λ (x : HartBus T N). x.hart) (sym p);
    domain = ap (λ (x : HartBus T N). x.domain) (sym p);
    tables = subst (λ (x : HartBus T N). KeepsTables maps size limit a.supervisor.checker.tables x.supervisor.checker.tables) p
        (record { same_maps = refl; same_size = refl; same_limit = refl });
    owners = ap (λ (x : HartBus T N). x.supervisor.owners) (sym p);
    gates = ap (λ (x : HartBus T N). x.supervisor.gates) (sym p);
    heaps = ap (λ (x : HartBus T N). x.supervisor.heaps) (sym p);
    harts = ap (λ (x : HartBus T N). x.supervisor.checker.harts) (sym p);
  }
  are-touched (t ∷ ts) a b p =
      let m = p.0 in
      let s = p.1.0 in
      let kept = s.same_tables in
      let r = are-touched ts m b p.1.1 in
      record {
        hart = r.hart ∙ s.same_hart;
        domain = r.domain ∙ s.same_domain;
        tables = record {
          same_maps = r.tables.same_maps ∙ kept.same_maps;
          same_size = r.tables.same_size ∙ kept.same_size;
          same_limit = r.tables.same_limit ∙ kept.same_limit;
        };
        owners = r.owners ∙ s.same_owners;
        gates = r.gates ∙ s.same_gates;
        heaps = r.heaps ∙ s.same_heaps;
        harts = r.harts
            ∙ ap (λ (ms : List (List Perm)). looks_over kind most ms m.domain m.hart ts m.supervisor.checker.harts) kept.same_maps
            ∙ ap (λ (d : ℕ). looks_over kind most (maps a.supervisor.checker.tables) d m.hart ts m.supervisor.checker.harts) s.same_domain
            ∙ ap (λ (h : ℕ). looks_over kind most (maps a.supervisor.checker.tables) a.domain h ts m.supervisor.checker.harts) s.same_hart
            ∙ ap (λ (kept : List Kept). looks_over kind most (maps a.supervisor.checker.tables) a.domain a.hart ts kept) s.harts_after;
      }
