-- Turns of a row that are counted together, and the fetches of their instructions: what that leaves as it was, and one more of them.
use Rattle.std.proofs.Common.{◌≡◌, ◌≢◌, ℕ, zero, suc, ◌+◌, ◌<◌, ◌⊎◌, false, List, [], ◌∷◌, length, refl, sym, ap, subst, ◌∙◌, arith}
use Rattle.std.proofs.Common.{add-one, get_or-set_same}
use Rattle.std.specs.Prelude.{IfSome}
use Rattle.std.proofs.lemmas.Bool.{cases_eq}
use Rattle.mx_words.specs.Caches.{in_place}
use Rattle.mx_words.specs.Ranges.{word_of}
use Rattle.mx_table.specs.Tables.{map_of}
use Rattle.mx_check.specs.Conditions.{IsAtHand}
use Rattle.mx_check.specs.Harts.{Kept, at_hart, kept_at}
use Rattle.mx_check.specs.Looks.{hits, hits_all, looked_at_address}
use Rattle.mx_check.proofs.HandLaws.{looked-hit}
use Rattle.mx_check.proofs.HitLaws.{hit-after, hits-same, more-hit, none-hit}
use Rattle.mx_core.specs.Bus.{Touch}
use Rattle.mx_core.specs.Exec.{regs_after, touches_of}
use Rattle.mx_supervisor.specs.Parts.{IsSound, Parts}
use Rattle.mx_supervisor.specs.Served.{range_of}
use Rattle.mx_machine.specs.declared.hart.Hart.{Hart}
use Rattle.mx_machine.specs.Actions.{after_instruction, after_unfetched, counted, effect_for, looks_all, outcome_for, perm_for}
use Rattle.mx_machine.specs.Harts.{hart_among, no_held_hart}
use Rattle.mx_machine.specs.Held.{Held}
use Rattle.mx_machine.specs.Rows.{NamesOwn, tallied}
use Rattle.mx_machine.specs.Steps.{instructed}
use Rattle.mx_machine.specs.Ties.{Fits, IsTied, RunsAlive}
use Rattle.mx_machine.specs.Windows.{IsOpen}
use Rattle.mx_machine.proofs.FitLaws.{count-step, others-step, own-step}
use Rattle.mx_machine.proofs.LookLaws.{stay-all}
use Rattle.mx_machine.proofs.WindowLaws.{hand-same, length-looked-at}

-- fetches before touches or after them
module _ (q : Parts) (h d : ℕ) where
  pub length-touched : (ts : List Touch) (kept : List Kept) → length (looks_all q h d ts kept) ≡ length kept
  length-touched [] kept = refl
  length-touched (t ∷ ts) kept =
      let m = map_of q.maps d in
      length-touched ts (looked_at_address q.buffer q.kind m h t.place d t.address kept)
      ∙ length-looked-at q.buffer q.kind m h d t.place (word_of t.address (length m)) kept

  touched-hit : (ts : List Touch) (kept : List Kept) → h < length kept
      → looks_all q h d ts (at_hart h (hits d) kept) ≡ at_hart h (hits d) (looks_all q h d ts kept)
  touched-hit [] kept there = refl
  touched-hit (t ∷ ts) kept there =
      let m = map_of q.maps d in
      let next = looked_at_address q.buffer q.kind m h t.place d t.address kept in
      let long = length-looked-at q.buffer q.kind m h d t.place (word_of t.address (length m)) kept in
      ap (λ (ks : List Kept). looks_all q h d ts ks) (hit-after q.buffer q.kind m h t.place d kept there t.address)
      ∙ touched-hit ts next (subst (λ (n : ℕ). h < n) (sym long) there)

  touched-hits : (n : ℕ) (ts : List Touch) (kept : List Kept) → h < length kept
      → looks_all q h d ts (at_hart h (hits_all n d) kept) ≡ at_hart h (hits_all n d) (looks_all q h d ts kept)
  touched-hits zero ts kept there = ap (λ (ks : List Kept). looks_all q h d ts ks) (none-hit h d kept)
      ∙ sym (none-hit h d (looks_all q h d ts kept))
  touched-hits (suc n) ts kept there =
      let before = at_hart h (hits_all n d) kept in
      let still : h < length before = subst (λ (i : ℕ). h < i) (sym (count-step kept h (hits_all n d))) there in
      let left : h < length (looks_all q h d ts kept) = subst (λ (i : ℕ). h < i) (sym (length-touched ts kept)) there in
      ap (λ (ks : List Kept). looks_all q h d ts ks) (sym (more-hit h n d kept there))
      ∙ touched-hit ts before still
      ∙ ap (λ (ks : List Kept). at_hart h (hits d) ks) (touched-hits n ts kept there)
      ∙ more-hit h n d (looks_all q h d ts kept) left

-- what is counted of a hart
module _ (m : Held) (h n : ℕ) (there : h < length m.parts.harts) where
  own-kept : kept_at (tallied h n m).parts.harts h ≡ hits_all n (hart_among m.harts h).domain (kept_at m.parts.harts h)
  own-kept = own-step m.parts.harts h (hits_all n (hart_among m.harts h).domain) there

  places-kept : in_place (kept_at (tallied h n m).parts.harts h).cache.places 0 ≡ in_place (kept_at m.parts.harts h).cache.places 0
  places-kept = search (arith, own-kept, hits-same, m.harts, m.parts.harts)

  pub open-tallied : (a : ℕ) → IsOpen m h a → IsOpen (tallied h n m) h a
  open-tallied a o = search (arith, hand-same, places-kept)

  pub open-untallied : (a : ℕ) → IsOpen (tallied h n m) h a → IsOpen m h a
  open-untallied a o = search (arith, hand-same, places-kept)

  module _ (f : Fits (tallied h n m)) (own : NamesOwn m h) where
    own-tied : IsTied (range_of m.parts) h (hart_among m.harts h) (kept_at m.parts.harts h)
    own-tied = search (arith, m.harts, m.parts.harts, hits-same, own-kept, f.ties, m.parts)

    tied-there : (i : ℕ) → (i ≡ h) ⊎ (i ≢ h) → IsTied (range_of m.parts) i (hart_among m.harts i) (kept_at m.parts.harts i)
    tied-there i x = grind (arith, own-tied, others-step)

    sound-untallied : IsSound m.parts
    sound-untallied = search arith

    pub fits-untallied : Fits m
    fits-untallied = search (arith, sound-untallied, count-step, m.parts.harts, m.harts, tied-there, cases_eq)

pub there-kept : (m : Held) (h n : ℕ) → Fits (tallied h n m) → RunsAlive (tallied h n m) h → h < length m.parts.harts
there-kept m h n f r = subst (λ (i : ℕ). h < i) (f.count ∙ count-step m.parts.harts h (hits_all n (hart_among m.harts h).domain)) r.there

-- no turn
pub tallied-none : (m : Held) (h : ℕ) → m ≡ tallied h 0 m
tallied-none m h =
    ap (λ (n : ℕ). record m { steps = n }) (let e : m.steps ≡ m.steps + 0 = omega arith in e)
    ∙ ap (λ (ks : List Kept). record m { parts = record m.parts { harts = ks }; steps = m.steps + 0 })
    (sym (none-hit h (hart_among m.harts h).domain m.parts.harts))

-- an instruction leaves the domain
unfetched-domain : (m : Held) (h : ℕ) → h < length m.harts → (hart_among (after_unfetched h m).harts h).domain
    ≡ (hart_among m.harts h).domain
unfetched-domain m h there =
    let x = hart_among m.harts h in
    let y : Hart = instructed (regs_after (perm_for m x) m.parts.ram x.regs x.pc false (effect_for m x)) (outcome_for m h false) x in
    ap (λ (z : Hart). z.domain) (get_or-set_same m.harts h y no_held_hart there)

pub names-own : (m k : Held) (h : ℕ) → h < length m.harts → h < length m.parts.harts → k ≡ after_unfetched h m → NamesOwn m h → NamesOwn k h
names-own m k h there kept after own =
    let x = hart_among m.harts h in
    let stays = (stay-all m.parts h x.domain (touches_of (effect_for m x)) m.parts.harts kept own).domain in
    let left = looks_all m.parts h x.domain (touches_of (effect_for m x)) m.parts.harts in
    let there' : NamesOwn (after_unfetched h m) h = subst (λ (d : ℕ). IfSome (kept_at left h).domain (λ e. e ≡ d))
    (sym (unfetched-domain m h there)) stays in
    subst (λ (y : Held). NamesOwn y h) (sym after) there'

-- an instruction more, with the turns before it counted
module _ (m : Held) (h n : ℕ) (there : h < length m.harts) (kept : h < length m.parts.harts)
    (hand : IsAtHand (length (map_of m.parts.maps (hart_among m.harts h).domain)) (kept_at m.parts.harts h).cache (hart_among m.harts h).pc)
  where
    tallied-harts : at_hart h (hits_all (n + 1) (hart_among (after_unfetched h m).harts h).domain) (after_unfetched h m).parts.harts
        ≡ (after_instruction h false (counted (tallied h n m))).parts.harts
    tallied-harts =
        let x = hart_among m.harts h in
        let d = x.domain in
        let q = m.parts in
        let ts = touches_of (effect_for m x) in
        let left = looks_all q h d ts q.harts in
        let before = at_hart h (hits_all n d) q.harts in
        let at : IsAtHand (length (map_of q.maps d)) (kept_at before h).cache x.pc =
        hand-same (length (map_of q.maps d)) x.pc (kept_at q.harts h).cache (kept_at before h).cache (places-kept m h n kept) hand in
        ap (λ (e : ℕ). at_hart h (hits_all (n + 1) e) left) (unfetched-domain m h there)
        ∙ ap (λ (i : ℕ). at_hart h (hits_all i d) left) (add-one n)
        ∙ sym (touched-hits q h d (suc n) ts q.harts kept)
        ∙ ap (λ (ks : List Kept). looks_all q h d ts ks) (sym (more-hit h n d q.harts kept)
        ∙ looked-hit q.buffer q.kind (map_of q.maps d) h d x.pc before at)

    pub instruction-tallied : tallied h (n + 1) (after_unfetched h m) ≡ after_instruction h false (counted (tallied h n m))
    instruction-tallied = search (arith, m.steps, tallied-harts)
