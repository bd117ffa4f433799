-- A hart alone: its announced call is ready at once, and it is at rest again when the call was served.
use Rattle.std.proofs.Common.{◌≡◌, ◌≢◌, ℕ, ◌<◌, inl, inr, true, false, List, length, Option, Some, None, refl, sym, ap, subst, ◌∙◌, arith}
use Rattle.std.proofs.Common.{length-set, get_or-set_same}
use Rattle.std.specs.Prelude.{IfSome}
use Rattle.std.proofs.lemmas.List.{get_or_past}
use Rattle.mx_words.specs.declared.perm.Perm.{Perm}
use Rattle.mx_words.specs.declared.tables.Kind.{Kind}
use Rattle.mx_words.specs.Announced.{is_announced}
use Rattle.mx_words.specs.Counting.{all_below}
use Rattle.mx_words.specs.Hearing.{is_in, nobody}
use Rattle.mx_words.specs.Ranges.{word_of}
use Rattle.mx_words.specs.Reach.{span}
use Rattle.mx_words.proofs.OptionLaws.{if_some_after}
use Rattle.mx_check.specs.declared.flight.Flight.{Flight}
use Rattle.mx_check.specs.Calls.{ready_with, hart_lets_pass}
use Rattle.mx_check.specs.Conditions.{MayLook, MayAnnounce}
use Rattle.mx_check.specs.Harts.{Kept, nothing_kept, kept_at, at_hart, announced}
use Rattle.mx_check.specs.Looks.{looked_at_address, looked_at, looks, with_domain, is_forbidden}
use Rattle.mx_model.specs.declared.values.Call.{Call}
use Rattle.mx_supervisor.specs.Looks.{KeepsHarts}
use Rattle.mx_supervisor.specs.Parts.{Parts, IsSound}
use Rattle.mx_supervisor.specs.Served.{HasAnnounced, MayServe, KeepsSizes, range_of}
use Rattle.mx_supervisor.proofs.Answering.{sound-ram, with-harts}
use Rattle.mx_call_tests.specs.Calls.{IsAtRest}

pub may-announce : (h d : ℕ) (p : Parts) → IsAtRest h d p → MayAnnounce h p.harts
may-announce h d p rest = record { hart = rest.may.hart; running = rest.may.running; free = rest.may.free }

-- a hart alone holds up no call of its own
ready-alone : (h : ℕ) (f : Flight) (harts : List Kept) (n : ℕ) → h ≡ 0 → n ≡ 1 → all_below n (hart_lets_pass h f harts) ≡ true
unfolding all_below
ready-alone h f harts n z e = rw (z, e) refl

-- what the checker keeps of the harts when hart h announced a range
abbrev pub announces : ℕ → ℕ × ℕ → List Kept → List Kept
announces h r harts = at_hart h (announced h r.0 r.1) harts

own-part : (h : ℕ) (r : ℕ × ℕ) (harts : List Kept) → h < length harts
    → kept_at (announces h r harts) h ≡ announced h r.0 r.1 (kept_at harts h)
own-part h r harts there = get_or-set_same harts h (announced h r.0 r.1 (kept_at harts h)) nothing_kept there

count-announces : (h : ℕ) (r : ℕ × ℕ) (harts : List Kept) → length (announces h r harts) ≡ length harts
count-announces h r harts = length-set harts h (announced h r.0 r.1 (kept_at harts h))

pub has-announced : (p : Parts) (call : Call) (r : ℕ × ℕ) → IsAtRest call.hart call.domain p → r ≡ range_of p call →
    HasAnnounced (record p { harts = announces call.hart r p.harts }) call
has-announced p call r rest is =
    let own = own-part call.hart r p.harts rest.may.hart in
    let count : length (announces call.hart r p.harts) ≡ 1 = count-announces call.hart r p.harts ∙ rest.alone in
    let flight : Flight = record { hart = call.hart; first = r.0; count = r.1; heard = nobody } in
    let there : call.hart < length p.harts = rest.may.hart in
    let one : length p.harts ≡ 1 = rest.alone in
    let zero : call.hart ≡ 0 = omega arith in
    record {
      hart = omega arith;
      ready = ap (λ (k : Kept). ready_with call.hart k.flight (announces call.hart r p.harts)) own
          ∙ ready-alone call.hart flight (announces call.hart r p.harts) (length (announces call.hart r p.harts)) zero count;
      range = subst (λ (k : Kept). IfSome k.flight (λ f. (f.first ≡ (range_of p call).0) × (f.count ≡ (range_of p call).1)))
          (sym own) (ap (λ (x : ℕ × ℕ). x.0) is, ap (λ (x : ℕ × ℕ). x.1) is);
    }

pub may-ready : (q : Parts) (call : Call) → is_announced call.number ≡ true → HasAnnounced q call → MayServe q call
may-ready q call is h = record { announced = λ e. h; other = λ e. absurd (let z : ⊥ = cc (e, is) in z) }

pub may-other : (q : Parts) (call : Call) → is_announced call.number ≡ false → MayLook call.hart call.domain q.harts → MayServe q call
may-other q call is h = record { announced = λ e. absurd (let z : ⊥ = cc (e, is) in z); other = λ e. h }

-- after a hart alone there is none
none-behind : (harts : List Kept) (h i : ℕ) → h < length harts → length harts ≡ 1 → i ≢ h → kept_at harts i ≡ nothing_kept
none-behind harts h i there e ne = get_or_past harts i nothing_kept (omega (arith, there, e, ne))

-- what a served call leaves of a hart that announced it
pub rest-again : (call : Call) (p q t : Parts) (r : ℕ × ℕ) → IsAtRest call.hart call.domain p → q.harts ≡ announces call.hart r p.harts →
    length q.maps ≡ length p.maps → KeepsHarts call None q.harts t.harts → KeepsSizes q t → IsSound t → IsAtRest call.hart call.domain t
rest-again call p q t r rest harts modules keeps sizes sound =
    let own : kept_at q.harts call.hart ≡ announced call.hart r.0 r.1 (kept_at p.harts call.hart) =
    ap (λ (hs : List Kept). kept_at hs call.hart) harts ∙ own-part call.hart r p.harts rest.may.hart in
    let count : length t.harts ≡ 1 = keeps.count ∙ ap length harts ∙ count-announces call.hart r p.harts ∙ rest.alone in
    let last : length t.maps ≡ length p.maps = sizes.modules ∙ modules in
    let there : call.hart < length t.harts = let h = rest.may.hart in let e = rest.alone in omega (arith, h, e, count) in
    record {
      sound = sound;
      domain = record { first = rest.domain.first; last = let h = rest.domain.last in omega (arith, h, last) };
      alone = count;
      may = record {
        hart = there;
        running = keeps.halted ∙ ap (λ (k : Kept). k.halted) own ∙ rest.may.running;
        free = keeps.flight;
        heard = λ i ne. subst (λ (k : Kept). IfSome k.flight (λ f. is_in f.heard call.hart ≡ true))
            (sym (none-behind t.harts call.hart i there count ne)) tt;
        same_domain = if_some_after (λ x. x ≡ call.domain) call.domain (kept_at p.harts call.hart).domain (kept_at t.harts call.hart).domain
            (elim keeps.domain [ inl e ↦ inl (e ∙ ap (λ (k : Kept). k.domain) own) | inr e ↦ inr e ]) refl rest.may.same_domain;
      };
    }

-- a look of a hart leaves their number
pub length-looked : (buffer : ℕ) (kind : Kind) (m : List Perm) (h place domain address : ℕ) (harts : List Kept) →
    length (looked_at_address buffer kind m h place domain address harts) ≡ length harts
length-looked buffer kind m h place domain address harts = by (word_of address (length m))
  where
    by : (o : Option ℕ) → length (looked_at buffer kind m h place domain o harts) ≡ length harts
    by None = length-set harts h (with_domain domain (kept_at harts h))
    by (Some word) = length-set harts h (looks buffer place domain word (span kind m word) (is_forbidden h (span kind m word) harts)
        (kept_at harts h))

-- what an access of the hart leaves of it
pub rest-accessed : (h d : ℕ) (p : Parts) (harts : List Kept) (ram : List ℕ) → IsAtRest h d p → length harts ≡ length p.harts
    → MayLook h d harts →
    length ram ≡ length p.ram → IsAtRest h d (record p { harts = harts; ram = ram })
rest-accessed h d p harts ram rest count may size = record {
  sound = sound-ram (record p { harts = harts }) ram (with-harts p harts rest.sound) size;
  domain = rest.domain;
  alone = count ∙ rest.alone;
  may = may;
}
