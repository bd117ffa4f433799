-- Coherence through a hart's looks at words of RAM in its own domain.
use Rattle.std.proofs.Common.{◌≡◌, ◌≢◌, ℕ, ◌<◌, false, cond, List, [], ◌∷◌, length, refl, sym, ap, subst, ◌∙◌, arith, length-set, Some}
use Rattle.std.proofs.Common.{None}
use Rattle.std.specs.List.{AllByRecursion, list_any}
use Rattle.mx_words.specs.declared.perm.Span.{Span}
use Rattle.mx_words.specs.Caches.{Cache, checked, meets}
use Rattle.mx_words.specs.Hearing.{heard_range}
use Rattle.mx_model.specs.Checks.{Look, call_range, heard_ranges, is_halted, looked, looked_all}
use Rattle.mx_model.specs.Reads.{Reads}
use Rattle.mx_model.specs.State.{Core, Status, Running, Waiting, Halted, cache_at, hart_at}
use Rattle.mx_laws.proofs.TurnParts.{there}
use Rattle.mx_coherence.specs.Spans.{AgreesIn, AreCurrent}
use Rattle.mx_coherence.specs.Coherence.{HasDropped, IsCoherent}
use Rattle.mx_words.proofs.SpanLaws.{each_checked}
use Rattle.mx_coherence.proofs.RangeLaws.{none_passes, range_of_call}
use Rattle.mx_coherence.proofs.StepLaws.{coherent-moved, moved-cache}

-- a look in domain d at a word of so many
pub record IsLook (size d : ℕ) (l : Look) : Type 0 where
  pub domain : l.domain ≡ d
  pub word : l.word < size

-- walks answer spans that agree
pub record WalksAgree (r : Reads) (size : ℕ) : Type 0 where
  pub at : (d w : ℕ) → w < size → AgreesIn r d (r.walk d w)

module _ (r : Reads) (c : Core) (h : ℕ) (k : IsCoherent r c) (walks : WalksAgree r c.size) (count : length c.caches ≡ length c.harts)
    (live : is_halted (hart_at c h).status ≡ false) (l : Look) (own : IsLook c.size (hart_at c h).domain l) where
  abbrev walked : Span
  walked = r.walk l.domain l.word

  abbrev after : Cache
  after = checked c.buffer l.place l.domain l.word walked (list_any (λ (p : ℕ × ℕ). meets walked p.0 p.1) (heard_ranges c h)) (cache_at c h)

  inside : h < length c.caches
  inside = let b = there c h live in omega (arith, b)

  current : AreCurrent r (hart_at c h).domain after
  current =
      each_checked c.buffer l.place l.domain l.word walked (list_any (λ (p : ℕ × ℕ). meets walked p.0 p.1) (heard_ranges c h))
      (cache_at c h) (k.current h live)
      (λ s a. subst (λ (d : ℕ). AgreesIn r d s) own.domain a) (λ e. walks.at l.domain l.word own.word)

  dropped : (g : ℕ) (s : Status) → g ≢ h → (hart_at c g).status ≡ s → HasDropped c h (cache_at c h) s → HasDropped c h after s
  dropped g Running apart e p = tt
  dropped g (Waiting call heard) apart e p = λ hit.
      let range = call_range c call in
      each_checked c.buffer l.place l.domain l.word walked (list_any (λ (p : ℕ × ℕ). meets walked p.0 p.1) (heard_ranges c h))
      (cache_at c h) (p hit)
      (λ s a. a)
      (λ barred. range_of_call (λ (p : ℕ × ℕ). meets walked p.0 p.1 ≡ false) c h g (heard_range h) call heard
      (none_passes (λ (p : ℕ × ℕ). meets walked p.0 p.1) (heard_ranges c h) barred) apart e (ap (λ b. cond b (Some range) None) hit))
  dropped g (Halted code) apart e p = tt

  pub coherent-looked : IsCoherent r (looked r h c l)
  coherent-looked = coherent-moved r c (looked r h c l) h (hart_at c h) after (moved-cache c h after inside) (record {
    own = λ running. current;
    own_dropped = λ g running apart. dropped g (hart_at c g).status apart refl (k.dropped h g live apart);
    others = λ g running apart. k.current g running;
    own_call = λ g running apart. k.dropped g h running (λ e. apart (sym e));
    among = λ g i running a b apart. k.dropped g i running apart;
  })

pub coherent-looked_all : (r : Reads) (h : ℕ) (looks : List Look) (c : Core) → IsCoherent r c → WalksAgree r c.size
    → length c.caches ≡ length c.harts →
    is_halted (hart_at c h).status ≡ false → AllByRecursion (IsLook c.size (hart_at c h).domain) looks
    → IsCoherent r (looked_all r h looks c)
coherent-looked_all r h [] c k walks count live own = k
coherent-looked_all r h (l ∷ ls) c k walks count live own =
    coherent-looked_all r h ls (looked r h c l) (coherent-looked r c h k walks count live l own.0) walks (length-set c.caches h _ ∙ count)
    live own.1
