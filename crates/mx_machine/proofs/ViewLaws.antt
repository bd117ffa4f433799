-- What a machine's view is after calls of its parts, by an equation for each part that they change.
use Rattle.std.proofs.Common.{◌≡◌, ℕ, Bool, false, List, ◌∷◌, refl}
use Rattle.mx_table.specs.declared.tables.PermTables.{Ghosts}
use Rattle.mx_check.specs.Harts.{Kept}
use Rattle.mx_core.specs.Exec.{bytes_after, fetch_touch, fetched, outcome_of, regs_after, touches_of}
use Rattle.mx_model.specs.Effect.{Effect}
use Rattle.mx_supervisor.specs.Parts.{Parts, parts_of}
use Rattle.mx_machine.specs.declared.bare.Bare.TheInside.{Inside}
use Rattle.mx_machine.specs.declared.hart.Hart.{Hart}
use Rattle.mx_machine.specs.Actions.{looks_all}
use Rattle.mx_machine.specs.Bus.{perm_from}
use Rattle.mx_machine.specs.Harts.{hart_among, stepped}
use Rattle.mx_machine.specs.Held.{Held}
use Rattle.mx_machine.specs.Steps.{instructed}

abbrev pub held_of : {T : Type 0} {N : ℕ} → Ghosts T → Inside T N → Held
held_of {T} {N} tables b = record {
  parts = parts_of tables b.bus.supervisor;
  harts = b.harts;
  stacks = b.stacks;
  dead = b.dead;
  steps = b.steps;
  waiting = b.waiting;
}

-- touches of the bus change the checker's harts and RAM alone
pub touched-held : (m : Held) (q : Parts) (hs hs' : List Hart) (kept' : List Kept) (ram' : List ℕ) →
    q.kind ≡ m.parts.kind → q.buffer ≡ m.parts.buffer → q.maps ≡ m.parts.maps → q.size ≡ m.parts.size → q.limit ≡ m.parts.limit
    → q.owners ≡ m.parts.owners →
    q.gates ≡ m.parts.gates → q.heaps ≡ m.parts.heaps → q.harts ≡ kept' → q.ram ≡ ram' → hs ≡ hs' →
    record m { parts = q; harts = hs } ≡ record m { parts = record m.parts { harts = kept'; ram = ram' }; harts = hs' }
touched-held m q hs hs' kept' ram' a b c d e f g h i j k = rw (← a, ← b, ← c, ← d, ← e, ← f, ← g, ← h, ← i, ← j, ← k) refl

-- hart h after an instruction in domain d
abbrev pub instructed_in : Held → ℕ → Bool → ℕ → Held
instructed_in m h returns d =
    let x = hart_among m.harts h in
    let perm = perm_from m.parts.size m.parts.maps d in
    let e = fetched perm m.parts.ram x.regs x.pc in
    record m {
      parts = record m.parts {
        ram = bytes_after perm m.parts.ram e;
        harts =
            looks_all m.parts h d (fetch_touch x.pc ∷ touches_of e) m.parts.harts;
      };
      harts = stepped h (instructed (regs_after perm m.parts.ram x.regs x.pc returns e) (outcome_of perm x.pc returns e)) m.harts;
    }

-- hart h after an instruction of this effect in domain d, without its fetch
abbrev pub carried_in : Held → ℕ → ℕ → Effect → Held
carried_in m h d e =
    let x = hart_among m.harts h in
    let perm = perm_from m.parts.size m.parts.maps d in
    record m {
      parts = record m.parts { ram = bytes_after perm m.parts.ram e; harts = looks_all m.parts h d (touches_of e) m.parts.harts };
      harts = stepped h (instructed (regs_after perm m.parts.ram x.regs x.pc false e) (outcome_of perm x.pc false e)) m.harts;
    }
