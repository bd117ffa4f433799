-- Texts that were put on a sink one after another, or of which one couldn't be put.
use Rattle.std.proofs.Common.{◌≡◌, ℕ, ◌+◌, ◌<◌, ◌≤◌, List, [], ◌++◌, length, take, min, refl, sym, ap, subst, ◌∙◌, inl, inr, append_assoc}
use Rattle.std.proofs.Common.{length-append, arith, Result, OnOk, Ok, Err}
use Rattle.std.proofs.lemmas.List.{append-nil, take-append-le, take_min}
use Rattle.std.proofs.Math.Seq.{take-append_seam, take-append-add}
use Rattle.mx_io.specs.Count.{Rose}
use Rattle.mx_io.specs.Texts.{AppendsWhole, AppendsPrefix}
use Rattle.mx_io.specs.Sink.{SinkState, Puts}
use Rattle.mx_io.proofs.Puts.{not_ok}
use Rattle.mx_io.proofs.Text.{appends_nothing, appends_both, left_all, left_next, left_end}
use Rattle.mx_tail.specs.Tail.{Adds, Passes, piece_bytes, sent, held}
use Rattle.mx_tail.proofs.TailLaws.{sent_behind, sent_held, sent_more, sent_short, held_behind, held_more, held_short}
use Rattle.mx_turns.specs.Ends.{FailsAt, Tells}
use Rattle.mx_turns.specs.Running.{Put, Breaks, PutOrBreaks, Moves}

-- nothing was put
pub put_nothing : (s : SinkState) → Put s s []
put_nothing s = record { whole = appends_nothing s.written; kept = refl; sure = λ _. omega arith }

pub put_same : (b n : SinkState) (x y : List ℕ) → x ≡ y → Put b n x → Put b n y
put_same b n x y e p = subst (λ (t : List ℕ). Put b n t) e p

pub breaks_same : (k : ℕ) (b n : SinkState) (x y : List ℕ) → x ≡ y → Breaks k b n x → Breaks k b n y
breaks_same k b n x y e p = subst (λ (t : List ℕ). Breaks k b n t) e p

-- what the calls of sinks answer
pub put_of : {A E : Type 0} {b n : SinkState} {text : List ℕ} {a : A} → Puts {E = E} b n text (Ok a) → Put b n text
put_of p = record { whole = p.whole; kept = p.kept; sure = λ fits. (p.sure fits).1 }

-- a text that couldn't be put, after so many of its bytes
abbrev pub BreaksSomewhere : SinkState → SinkState → List ℕ → Type 0
BreaksSomewhere b n text = (k : ℕ) × Breaks k b n text

pub breaks_of : {A E : Type 0} {b n : SinkState} {text : List ℕ} {e : E} → Puts {A = A} b n text (Err e) → BreaksSomewhere b n text
breaks_of {A} {b = b} {n = n} {text = text} {e = e} p =
    let front = p.front in
    let fails : FailsAt front.0 text b n = record { within = front.1; put = front.2; rose = p.failed } in
    (front.0, record { fails = fails; tight = λ fits. not_ok A e (p.sure fits).0 })

-- a text was put, or wasn't
pub put_or : {A E : Type 0} {b n : SinkState} {text : List ℕ} {r : Result A E} → Puts b n text r → PutOrBreaks b n text
put_or {r = Ok a} p = inl (put_of p)
put_or {r = Err e} p = inr (breaks_of p)

-- what was held and then a text was put
pub passes_end : {A E B F : Type 0} {held kept text : List ℕ} {b m n : SinkState} {a : A} {result : Result B F}
    → Passes {E = E} held b m kept text (Ok a) → Puts m n kept result → Puts b n (held ++ text) result
passes_end {B = B} {F = F} {held} {kept} {text} {b} {m} {n} {result = result} p q =
    let w = p.whole in
    subst (λ (t : List ℕ). Puts {A = B} {E = F} b n t result) (sym w.1) (left_end (left_next (left_all b (w.0 ++ kept)) w.3) q)

-- what holds of an answer that is Ok, where it holds anyhow
pub on_ok : {A E : Type 0} (P : Type 0) (r : Result A E) → P → OnOk r P
on_ok P (Ok a) p = p
on_ok P (Err e) p = tt

module _ (b m n : SinkState) (x y : List ℕ) where
  -- one text after another
  pub put_put : Put b m x → Put m n y → Put b n (x ++ y)
  put_put p q =
      let both = length-append x y in
      record {
        whole = appends_both p.whole q.whole;
        kept = q.kept ∙ p.kept;
        sure = λ fits.
            let s = p.sure (omega (arith, fits, both)) in
            let t = q.sure (omega (arith, fits, both, s)) in
            omega (arith, s, t, both);
      }

  -- the second of two texts couldn't be put
  pub put_breaks : (k : ℕ) → Put b m x → Breaks k m n y → Breaks (length x + k) b n (x ++ y)
  put_breaks k p q =
      let both = length-append x y in
      record {
        fails = record {
          within = omega (arith, q.fails.within, both);
          put = subst (λ (t : List ℕ). AppendsWhole b.written n.written t) (sym (take-append-add x y k)) (appends_both p.whole q.fails.put);
          rose = subst (λ (f : ℕ). Rose f n.faults) p.kept q.fails.rose;
        };
        tight = λ fits. let s = p.sure (omega (arith, fits, both)) in q.tight (omega (arith, fits, both, s));
      }

-- a text that begins with one that couldn't be put
pub breaks_more : (k : ℕ) (b n : SinkState) (x y : List ℕ) → Breaks k b n x → Breaks k b n (x ++ y)
breaks_more k b n x y p =
    let both = length-append x y in
    record {
      fails = record {
        within = omega (arith, p.fails.within, both);
        put = subst (λ (t : List ℕ). AppendsWhole b.written n.written t) (sym (take-append-le k x y (omega (arith, p.fails.within))))
            p.fails.put;
        rose = p.fails.rose;
      };
      tight = λ fits. p.tight (omega (arith, fits, both));
    }

-- a text was added to a buffer
pub moves_of : {A E : Type 0} {b n : SinkState} {before kept text : List ℕ} {a : A} → Adds {E = E} before b n kept text (Ok a)
    → Moves before b n kept text
moves_of p = record { put = put_of p.left; kept = p.kept }

pub moves_passes : {A E : Type 0} {before after text : List ℕ} {b n : SinkState} {a : A} → Passes {E = E} before b n after text (Ok a)
    → length after < piece_bytes → Moves before b n after text
moves_passes {before = before} {after = after} {text = text} {b = b} {n = n} p few =
    let w = p.whole in
    let gone : sent (before ++ text) ≡ w.0 = ap sent w.1 ∙ sent_behind w.0 after w.2.0 w.2.1 ∙ ap (λ t. w.0 ++ t) (sent_short after few)
    ∙ append-nil w.0 in
    let left : held (before ++ text) ≡ after = ap held w.1 ∙ held_behind w.0 after w.2.0 w.2.1 ∙ held_short after few in
    record { put = put_same b n w.0 (sent (before ++ text)) (sym gone) (put_of w.3); kept = sym left }

pub moves_nothing : (s : SinkState) → Moves [] s s [] []
unfolding sent held
moves_nothing s = record { put = put_nothing s; kept = refl }

module _ (b m n : SinkState) (mid x y : List ℕ) (p : Moves [] b m mid x) where
  -- one after another
  sent_both : sent x ++ sent (mid ++ y) ≡ sent (x ++ y)
  sent_both = ap (λ t. sent x ++ sent (t ++ y)) p.kept ∙ sym (sent_more x y)

  pub moves_moves : (kept : List ℕ) → Moves mid m n kept y → Moves [] b n kept (x ++ y)
  moves_moves kept q =
      record {
        put = put_same b n _ _ sent_both (put_put b m n (sent x) (sent (mid ++ y)) p.put q.put);
        kept = q.kept ∙ ap (λ t. held (t ++ y)) p.kept ∙ sym (held_more x y);
      }

  -- what was added next couldn't be put
  pub moves_breaks : BreaksSomewhere m n (sent (mid ++ y)) → (k : ℕ) × Breaks k b n (sent (x ++ y)) × (length (sent x) ≤ k)
  moves_breaks q = (
    length (sent x) + q.0,
    breaks_same (length (sent x) + q.0) b n _ _ sent_both (put_breaks b m n (sent x) (sent (mid ++ y)) q.0 p.put q.1),
    omega arith,
  )

  -- what was held and more was put then
  all_both : sent x ++ (mid ++ y) ≡ x ++ y
  all_both = sym (append_assoc (sent x) mid y) ∙ ap (λ t. (sent x ++ t) ++ y) p.kept ∙ ap (λ t. t ++ y) (sent_held x)

  pub moves_put : Put m n (mid ++ y) → Put b n (x ++ y)
  moves_put q = put_same b n _ _ all_both (put_put b m n (sent x) (mid ++ y) p.put q)

  -- or couldn't be
  pub moves_unput : BreaksSomewhere m n (mid ++ y) → (k : ℕ) × Breaks k b n (x ++ y) × (length (sent x) ≤ k)
  moves_unput q = (
    length (sent x) + q.0,
    breaks_same (length (sent x) + q.0) b n _ _ all_both (put_breaks b m n (sent x) (mid ++ y) q.0 p.put q.1),
    omega arith,
  )

-- a text of which the whole pieces couldn't be put
pub breaks_sent : (k : ℕ) (b n : SinkState) (x : List ℕ) → Breaks k b n (sent x) → Breaks k b n x
breaks_sent k b n x p = breaks_same k b n (sent x ++ held x) x (sent_held x) (breaks_more k b n (sent x) (held x) p)

-- prefixes
pub prefix_put : (b n : SinkState) (x y : List ℕ) → AppendsWhole b.written n.written x → AppendsPrefix b.written n.written (x ++ y)
prefix_put b n x y p = (length x, subst (λ (t : List ℕ). AppendsWhole b.written n.written t) (sym (take-append_seam x y)) p)

pub prefix_none : (s : SinkState) (x : List ℕ) → AppendsPrefix s.written s.written x
prefix_none s x = (0, appends_nothing s.written)

pub prefix_moves : (b n : SinkState) (kept x y : List ℕ) → Moves [] b n kept x → AppendsPrefix b.written n.written (x ++ y)
prefix_moves b n kept x y p =
    let all : sent x ++ (held x ++ y) ≡ x ++ y = sym (append_assoc (sent x) (held x) y) ∙ ap (λ t. t ++ y) (sent_held x) in
    subst (λ (t : List ℕ). AppendsPrefix b.written n.written t) all (prefix_put b n (sent x) (held x ++ y) p.put.whole)

-- what is told of a text is a prefix of a longer one
pub prefix_more : (b n : SinkState) (x y : List ℕ) → AppendsPrefix b.written n.written x → AppendsPrefix b.written n.written (x ++ y)
prefix_more b n x y p =
    let k = min p.0 (length x) in
    let same : take p.0 x ≡ take k (x ++ y) = sym (take-append-le k x y (omega arith) ∙ take_min p.0 x) in
    (k, subst (λ (t : List ℕ). AppendsWhole b.written n.written t) same p.1)

pub prefix_whole : (b n : SinkState) (x : List ℕ) → AppendsWhole b.written n.written x → AppendsPrefix b.written n.written x
prefix_whole b n x p = subst (λ (t : List ℕ). AppendsPrefix b.written n.written t) (append-nil x) (prefix_put b n x [] p)

pub prefix_tells : (b n : SinkState) (x y : List ℕ) → Tells x b n → AppendsPrefix b.written n.written (x ++ y)
prefix_tells b n x y t = elim t [ inl h ↦ prefix_put b n x y h.whole | inr h ↦ prefix_more b n x y (h.0, h.1.put) ]

-- lines that a buffer held were put at the end, or weren't
pub tells_of : (b m n : SinkState) (kept x : List ℕ) → Moves [] b m kept x → PutOrBreaks m n kept → Tells x b n
tells_of b m n kept x p (inl q) =
    let whole = moves_put b m n kept x [] p (put_same m n _ _ (sym (append-nil kept)) q) in
    let put = put_same b n _ _ (append-nil x) whole in
    inl (record { whole = put.whole; kept = put.kept })
tells_of b m n kept x p (inr q) =
    let unput = moves_unput b m n kept x [] p (q.0, breaks_same q.0 m n _ _ (sym (append-nil kept)) q.1) in
    let breaks = breaks_same unput.0 b n _ _ (append-nil x) unput.1 in
    inr (unput.0, breaks.fails, unput.2)
