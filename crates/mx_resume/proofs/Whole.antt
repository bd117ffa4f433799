-- The whole file, and the machine and the plan of what it stores.
use Rattle.std.proofs.Common.{◌≡◌, ℕ, ◌-◌, ◌^◌, ◌<◌, ◌≤◌, Bool, false, nat_lt, List, [], ◌∷◌, suc, length, get_or, Result, Ok, Err, IfOk}
use Rattle.std.proofs.Common.{IfErr, refl, sym, ap, ◌∙◌, subst, arith, if◌then◌else◌}
use Rattle.std.proofs.Common.{map as list_map}
use Rattle.std.proofs.lemmas.Bool.Decides.{nat_tests}
use Rattle.mx_words.specs.declared.tables.Kind.{Kind}
use Rattle.mx_words.specs.declared.tables.Need.{Need}
use Rattle.mx_words.specs.Limits.{most_snapshot_bytes}
use Rattle.mx_model.specs.State.{Flat}
use Rattle.mx_any.specs.Machines.{meaning}
use Rattle.mx_snapshot.specs.Fields.{fields_in, stored_in, to_the_end}
use Rattle.mx_snapshot.specs.Fits.{AreBytes, IsStored}
use Rattle.mx_snapshot.specs.Kept.{IsKept, IsOfPlan, KeptPlan}
use Rattle.mx_snapshot.specs.Reader.{Took, Fails}
use Rattle.mx_snapshot.specs.Resumed.{plan_of}
use Rattle.mx_snapshot.specs.Stored.{Head, Stored, StoredModule}
use Rattle.mx_snapshot.proofs.ValidKept.{stored-kept}
use Rattle.mx_snapshot.proofs.ValidState.{plan-is}
use Rattle.mx_resume.specs.declared.building.Held.{Held}
use Rattle.mx_resume.specs.declared.fields.Fields.{Fields}
use Rattle.mx_resume.specs.declared.refused.SnapshotRefused.{SnapshotRefused}
use Rattle.mx_resume.specs.declared.refused.SnapshotRefused.TheVariants.{Fault, TablesFull, NoMemory}
use Rattle.mx_resume.specs.declared.resumed.Resumed.{Resumed}
use Rattle.mx_resume.specs.Goes.{Resumes}
use Rattle.mx_resume.specs.Parts.{AreFieldsOf, AreHeldOf}
use Rattle.mx_resume.specs.Snapshot.{IsRefusedBy, IsResumed, fitting, of_taken, snapshot_of}
use Rattle.mx_resume.specs.Taking.{Misses}

-- a file that is not too long, with nothing behind the last field
not_above : (m n : ℕ) → n ≤ m → nat_lt m n ≡ false
not_above m n le = grind (arith, nat_tests)

within : (bytes : List ℕ) → length bytes ≤ most_snapshot_bytes → stored_in bytes ≡ to_the_end bytes (fields_in bytes 0)
unfolding stored_in
within bytes le = ap (λ (b : Bool). if b then Fails 0 1 else to_the_end bytes (fields_in bytes 0))
    (not_above most_snapshot_bytes (length bytes) le)

pub stored-taken : (bytes : List ℕ) (s : Stored) (after : ℕ) → length bytes ≤ most_snapshot_bytes → fields_in bytes 0 ≡ Took s after
    → length bytes ≤ after → stored_in bytes ≡ Took s after
stored-taken bytes s after le e past =
    within bytes le ∙ ap (to_the_end bytes) e ∙ ap (λ (b : Bool). if b then Fails after 5 else Took s after)
    (not_above after (length bytes) past)

-- what is held of all fields, and the plan that is kept
pub held-of : (s : Stored) (x : Fields) → AreFieldsOf s x → AreHeldOf s (let y : Held = record {
  head = x.head;
  rows = x.modules.rows;
  heaps = x.modules.heaps;
  stacks = x.modules.stacks;
  dead = x.modules.dead;
  owners = x.owners;
  gates = x.gates;
  harts = x.harts;
  ram = x.ram;
} in y)
held-of s x a = record {
  head = a.head;
  rows = a.modules.rows;
  heaps = a.modules.heaps;
  stacks = a.modules.stacks;
  dead = a.modules.dead;
  owners = a.owners;
  gates = a.gates;
  harts = a.harts;
  ram = a.ram;
}

plan-with : (s : Stored) (kind : Kind) (limit : Need) (lookaside quantum : ℕ) (names : List (List ℕ)) → kind ≡ s.head.kind
    → limit ≡ s.head.limit → lookaside ≡ s.head.lookaside → quantum ≡ s.head.quantum
    → names ≡ list_map (λ (m : StoredModule). m.name) s.modules
    → (let k : KeptPlan = record { kind = kind; limit = limit; lookaside = lookaside; quantum = quantum; names = names } in k)
    ≡ plan_of s
plan-with s kind limit lookaside quantum names a b c d e = rw (a, b, c, d, e) refl

pub plan-same : (s : Stored) (x : Fields) → AreFieldsOf s x
    → (let k : KeptPlan = record {
      kind = x.head.kind;
      limit = x.head.limit;
      lookaside = x.head.lookaside;
      quantum = x.head.quantum;
      names =
          x.modules.names.items;
    } in k) ≡ plan_of s
plan-same s x a = plan-with s x.head.kind x.head.limit x.head.lookaside x.head.quantum x.modules.names.items
    (ap (λ (h : Head). h.kind) a.head) (ap (λ (h : Head). h.limit) a.head) (ap (λ (h : Head). h.lookaside) a.head)
    (ap (λ (h : Head). h.quantum) a.head) a.modules.names

pub plan-kept : (s : Stored) (x : Fields) → IsStored s → AreFieldsOf s x
    → IsKept (record {
      kind = x.head.kind;
      limit = x.head.limit;
      lookaside = x.head.lookaside;
      quantum = x.head.quantum;
      names =
          x.modules.names.items;
    })
plan-kept s x f a = subst IsKept (sym (plan-same s x a)) (stored-kept s f)

-- what a snapshot comes to
pub snapshot-missed : (bytes : List ℕ) (refused : SnapshotRefused) → Misses (stored_in bytes) refused
    → IsRefusedBy (snapshot_of bytes) refused
unfolding snapshot_of
snapshot-missed bytes (Fault at number) m = ap of_taken m
snapshot-missed bytes (TablesFull need limit) m = absurd m
snapshot-missed bytes NoMemory m = tt

module _ (bytes : List ℕ) (s : Stored) (f : IsStored s) (n : ℕ) (e : stored_in bytes ≡ Took s n) where
  snapshot-is : snapshot_of bytes ≡ fitting s
  unfolding snapshot_of
  snapshot-is = ap of_taken e

  pub taken-resumed : (result : Result Resumed SnapshotRefused) → Resumes s result
      → IfOk result (λ r. (t : Stored) × (snapshot_of bytes ≡ Ok t) × IsResumed t r)
  taken-resumed (Ok r) h = (s, snapshot-is ∙ h.0, h.1)
  taken-resumed (Err refused) h = tt

  pub taken-of-plan : (result : Result Resumed SnapshotRefused) → Resumes s result → IfOk result (λ r. IsOfPlan r.plan (meaning r.machine))
  taken-of-plan (Ok r) h = subst (λ (k : KeptPlan). IsOfPlan k (meaning r.machine)) (sym h.1.plan)
      (subst (λ (g : Flat). IsOfPlan (plan_of s) g) (sym h.1.machine) (plan-is s))
  taken-of-plan (Err refused) h = tt

  pub taken-turns : (result : Result Resumed SnapshotRefused) → Resumes s result
      → IfOk result (λ r. (meaning r.machine).core.turns ≤ 2 ^ 63 - 1)
  taken-turns (Ok r) h = subst (λ (g : Flat). g.core.turns ≤ 2 ^ 63 - 1) (sym h.1.machine) f.head.turns
  taken-turns (Err refused) h = tt

  pub taken-refused : (result : Result Resumed SnapshotRefused) → Resumes s result → IfErr result (IsRefusedBy (snapshot_of bytes))
  taken-refused (Ok r) h = tt
  taken-refused (Err refused) h = subst (λ o. IsRefusedBy o refused) (sym snapshot-is) h

-- bytes of a file
pub bytes-are : (bytes : List ℕ) → ((i : ℕ) → get_or bytes i 0 < 256) → AreBytes bytes
bytes-are [] f = tt
bytes-are (b ∷ bs) f = (f 0, bytes-are bs (λ i. f (suc i)))
