-- Windows: a turn inside one keeps it, and what is found round a hart's pc is one.
use Rattle.std.proofs.Common.{◌≡◌, ◌≢◌, ℕ, ◌+◌, ◌-◌, ◌*◌, ◌/◌, ◌<◌, ◌≤◌, Bool, true, false, cond, nat_le, nat_lt, List, [], ◌∷◌, length}
use Rattle.std.proofs.Common.{set, refl, sym, ap, subst, ◌∙◌, arith, get_or-set_same, get_or-set_other, Option, Some, None}
use Rattle.std.specs.Option.{option_map_or}
use Rattle.std.proofs.lemmas.Bool.{and_from, and_parts, leb-true, ltb-true, le-leb, lt-ltb}
use Rattle.mx_words.specs.declared.perm.Perm.{Perm}
use Rattle.mx_words.specs.declared.perm.Perm.TheVariants as P
use Rattle.mx_words.specs.declared.perm.Span.{Span}
use Rattle.mx_words.specs.declared.tables.Kind.{Kind}
use Rattle.mx_words.specs.Caches.{Cache, checked, checked_at, checked_behind, covers_word, found_in_place, found_kept, in_place, with_walk}
use Rattle.mx_words.specs.declared.perm.Access.TheVariants.{Execute}
use Rattle.mx_words.specs.Ranges.{most_words, ram_base, word_of}
use Rattle.mx_words.specs.Rights.{allows}
use Rattle.mx_words.proofs.OverlayLaws.{covers_in}
use Rattle.mx_words.specs.Reach.{span}
use Rattle.mx_table.specs.Tables.{map_of}
use Rattle.mx_check.specs.Conditions.{IsAtHand}
use Rattle.mx_check.specs.Harts.{Kept, at_hart, kept_at}
use Rattle.mx_check.specs.Looks.{hits, is_forbidden, looked_at_address, looked_at, looks, with_domain}
use Rattle.mx_check.proofs.HandLaws.{looked-hit}
use Rattle.mx_core.specs.Bus.{Touch}
use Rattle.mx_core.specs.Exec.{regs_after, touches_of}
use Rattle.mx_core.proofs.QuickLaws.{AreAway}
use Rattle.mx_model.specs.Gates.{gate_target}
use Rattle.mx_supervisor.specs.Parts.{Parts}
use Rattle.mx_machine.specs.declared.hart.Hart.{Hart}
use Rattle.mx_machine.specs.declared.window.Window.{Window}
use Rattle.mx_machine.specs.Actions.{after_instruction, counted, effect_for, looks_all, outcome_for, perm_for}
use Rattle.mx_machine.specs.Bus.{IsInRam}
use Rattle.mx_machine.specs.Harts.{hart_among, no_held_hart}
use Rattle.mx_machine.specs.Held.{Held}
use Rattle.mx_machine.specs.Steps.{instructed}
use Rattle.mx_machine.specs.Ties.{MayRun}
use Rattle.mx_machine.specs.Windows.{IsOpen, IsWindow}
use Rattle.mx_machine.proofs.FitLaws.{count-step, own-step}
use Rattle.mx_machine.proofs.MadeLaws.{kept-there}

-- what is at hand follows from place 0 alone
pub hand-same : (size address : ℕ) (c e : Cache) → in_place e.places 0 ≡ in_place c.places 0 → IsAtHand size c address
    → IsAtHand size e address
hand-same size address c e same hand = search arith

-- what is at hand lies in RAM
pub hand-inside : (size address : ℕ) (c : Cache) → IsAtHand size c address → IsInRam size address
hand-inside size address c hand = search (arith, hand.here, hand.word, and_parts, leb-true, ltb-true)

-- a check at another place leaves place 0
module _ (most p domain word : ℕ) (walked : Span) (other : p ≢ 0) where
  written-elsewhere : (places : List (Option Span)) (s : Span) → in_place (set places p (Some s)) 0 ≡ in_place places 0
  written-elsewhere places s = get_or-set_other places p 0 (Some s) None (λ e. other (sym e))

  walk-elsewhere : (c : Cache) (b : Bool) → in_place (with_walk most p domain walked b c).places 0 ≡ in_place c.places 0
  walk-elsewhere c x = grind (arith, written-elsewhere)

  behind-elsewhere : (c : Cache) (b : Bool) (o : Option Span)
      → in_place (checked_behind most p domain walked b o c).places 0 ≡ in_place c.places 0
  behind-elsewhere c b (Some s) = written-elsewhere c.places s
  behind-elsewhere c b None = walk-elsewhere c b

  at-elsewhere : (c : Cache) (b : Bool) (o : Option Span) → in_place (checked_at most p domain word walked b o c).places 0
      ≡ in_place c.places 0
  at-elsewhere c b (Some s) = refl
  at-elsewhere c b None = behind-elsewhere c b (found_kept c.kept domain word)

  checked-elsewhere : (c : Cache) (b : Bool) → in_place (checked most p domain word walked b c).places 0 ≡ in_place c.places 0
  checked-elsewhere c b = at-elsewhere c b (found_in_place c.places p word)

-- after a check of hart h
module _ (most : ℕ) (kind : Kind) (m : List Perm) (h d size a : ℕ) (kept : List Kept) (there : h < length kept)
    (hand : IsAtHand size (kept_at kept h).cache a) where
  step-hand : (step : Kept → Kept) → in_place (step (kept_at kept h)).cache.places 0 ≡ in_place (kept_at kept h).cache.places 0 →
      IsAtHand size (kept_at (at_hart h step kept) h).cache a
  step-hand step same = search (arith, hand-same, own-step)

  look-hand-at : (p : ℕ) (o : Option ℕ) → p ≢ 0 → IsAtHand size (kept_at (looked_at most kind m h p d o kept) h).cache a
  look-hand-at p None other = step-hand (with_domain d) refl
  look-hand-at p (Some w) other =
      let s = span kind m w in
      let b = is_forbidden h s kept in
      step-hand (looks most p d w s b) (checked-elsewhere most p d w s other (kept_at kept h).cache b)

  look-hand : (p address : ℕ) → p ≢ 0 → IsAtHand size (kept_at (looked_at_address most kind m h p d address kept) h).cache a
  look-hand p address other = look-hand-at p (word_of address (length m)) other

  fetch-hand : (pc : ℕ) → IsAtHand (length m) (kept_at kept h).cache pc
      → IsAtHand size (kept_at (looked_at_address most kind m h 0 d pc kept) h).cache a
  fetch-hand pc at =
      subst (λ (ks : List Kept). IsAtHand size (kept_at ks h).cache a) (looked-hit most kind m h d pc kept at) (step-hand (hits d) refl)

pub length-looked-at : (most : ℕ) (kind : Kind) (m : List Perm) (h d p : ℕ) (o : Option ℕ) (kept : List Kept)
    → length (looked_at most kind m h p d o kept) ≡ length kept
length-looked-at most kind m h d p None kept = count-step kept h (with_domain d)
length-looked-at most kind m h d p (Some w) kept =
    count-step kept h (looks most p d w (span kind m w) (is_forbidden h (span kind m w) kept))

-- after touches at other places
away-hand : (q : Parts) (h d size a : ℕ) (ts : List Touch) (kept : List Kept) → h < length kept → AreAway ts
    → IsAtHand size (kept_at kept h).cache a →
    IsAtHand size (kept_at (looks_all q h d ts kept) h).cache a
away-hand q h d size a [] kept there away hand = hand
away-hand q h d size a (t ∷ ts) kept there away hand =
    let m = map_of q.maps d in
    let next = looked_at_address q.buffer q.kind m h t.place d t.address kept in
    let long = length-looked-at q.buffer q.kind m h d t.place (word_of t.address (length m)) kept in
    away-hand q h d size a ts next (subst (λ n. h < n) (sym long) there) away.1
    (look-hand q.buffer q.kind m h d size a kept there hand t.place t.address away.0)

-- an instruction whose fetch is at hand, and which touches other places, leaves what is at hand
module _ (m : Held) (h : ℕ) (r : MayRun m h) (hand : IsAtHand m.parts.size (kept_at m.parts.harts h).cache (hart_among m.harts h).pc)
    (away : AreAway (touches_of (effect_for m (hart_among m.harts h)))) where
  kept-hand : (a : ℕ) → IsAtHand m.parts.size (kept_at m.parts.harts h).cache a
      → IsAtHand m.parts.size (kept_at (after_instruction h false m).parts.harts h).cache a
  kept-hand a at = search (arith, m.harts, kept-there, r.act.fits.sound.maps, length-looked-at, away-hand, fetch-hand)

  same-domain : (hart_among (after_instruction h false m).harts h).domain ≡ (hart_among m.harts h).domain
  same-domain =
      let x = hart_among m.harts h in
      let y : Hart = instructed (regs_after (perm_for m x) m.parts.ram x.regs x.pc false (effect_for m x)) (outcome_for m h false) x in
      ap (λ (z : Hart). z.domain) (get_or-set_same m.harts h y no_held_hart r.act.there)

  open-stays : (a : ℕ) → IsOpen m h a → IsOpen (after_instruction h false m) h a
  open-stays a o = search (arith, kept-hand, same-domain)

  pub window-stays : (w : Window) → IsWindow m h w → IsWindow (after_instruction h false m) h w
  window-stays w i = record { bound = i.bound; each = λ a inside. open-stays a (i.each a inside) }

-- a turn that counts leaves a window
pub window-counted : (m : Held) (h : ℕ) (w : Window) → IsWindow m h w → IsWindow (counted m) h w
window-counted m h w i = search (arith, i.each)

-- no address at all
pub window-shut : (m : Held) (h : ℕ) → IsWindow m h (record { start = 0; bytes = 0 })
window-shut m h = search (arith, ltb-true, and_parts)

-- the span of a place that answers
place-holds : (places : List (Option Span)) (word : ℕ) (s : Span) → found_in_place places 0 word ≡ Some s → in_place places 0 ≡ Some s
place-holds places word s e = by (in_place places 0) refl e
  where
    at : (t : Span) (b : Bool) → cond b (Some t) None ≡ Some s → ◌≡◌ {A = Option Span} (Some t) (Some s)
    at t true q = q
    at t false q = absurd (let z : ⊥ = cc in z)

    by : (o : Option Span) → in_place places 0 ≡ o → option_map_or (λ (x : Span). cond (covers_word x word) (Some x) None) o None ≡ Some s
        → in_place places 0 ≡ Some s
    by None f q = absurd (let z : ⊥ = cc in z)
    by (Some t) f q = f ∙ at t (covers_word t word) q

executable : (p : Perm) → allows p Execute ≡ true → p ≡ P.ExecuteRead
executable x e = grind arith

-- words of a span that place 0 holds and that may be executed, between gates and in RAM
module _ (m : Held) (h word first end : ℕ) (s : Span) (quiet : m.waiting ≡ false) (few : m.parts.size ≤ most_words)
    (found : found_in_place (kept_at m.parts.harts h).cache.places 0 word ≡ Some s) (right : allows s.perm Execute ≡ true)
    (clear : (w : ℕ) → first ≤ w → w < end → gate_target m.parts.gates (hart_among m.harts h).domain w ≡ None)
    (low : s.first ≤ first) (high : end ≤ s.first + s.count) (within : end ≤ m.parts.size) where
  found-open : (a w : ℕ) → word_of a m.parts.size ≡ Some w → first ≤ w → w < end → IsOpen m h a
  found-open a w here from upto =
      search (arith, m.parts.harts, m.harts, covers_in, s.first, s.count, place-holds, executable, s.perm, m.parts.gates)

  word-there : (a : ℕ) → ram_base ≤ a → a - ram_base < 4 * m.parts.size → word_of a m.parts.size ≡ Some ((a - ram_base) / 4)
  word-there a from upto = search (arith, and_from, le-leb, lt-ltb)

  pub window-found : first < end → IsWindow m h (record { start = ram_base + 4 * first; bytes = 4 * (end - first) })
  window-found some = record {
    bound = omega (arith, within, few, some);
    each = λ a inside.
        let p = and_parts (nat_le (ram_base + 4 * first) a) (nat_lt (a - (ram_base + 4 * first)) (4 * (end - first))) inside in
        let from : ram_base + 4 * first ≤ a = leb-true (ram_base + 4 * first) a p.0 in
        let upto : a - (ram_base + 4 * first) < 4 * (end - first) = ltb-true (a - (ram_base + 4 * first)) (4 * (end - first)) p.1 in
        found-open a ((a - ram_base) / 4) (word-there a (omega (arith, from)) (omega (arith, from, upto, within, some)))
        (omega (arith, from)) (omega (arith, from, upto, some));
  }
