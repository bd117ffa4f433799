-- Texts put on a sink part by part: what holds between two parts, and what follows at each exit.
use Rattle.std.proofs.Common.{◌≡◌, ℕ, ◌+◌, ◌<◌, ◌≤◌, List, [], ◌++◌, length, take, drop, refl, sym, ap, ◌∙◌, subst, inl, inr, arith}
use Rattle.std.proofs.Common.{append_assoc, length-append, Option, None, Some, Result, Ok, Err, flat_map, get_or, add-one}
use Rattle.std.proofs.lemmas.List.{take-append-drop, append-nil, length-drop, take-append-le}
use Rattle.std.proofs.Math.Seq.{drop-cons, take-append_seam, take-append-add}
use Rattle.std.specs.Io.KnownBytes.{Appends}
use Rattle.mx_io.specs.Count.{Rose, Stays}
use Rattle.mx_io.specs.Texts.{AppendsWhole}
use Rattle.mx_io.specs.Sink.{SinkState, Writes, Puts}
use Rattle.mx_io.proofs.Puts.{not_ok}

grows_nothing : (a : Option (List ℕ)) → Appends a a []
grows_nothing None = tt
grows_nothing (Some xs) = sym (append-nil xs)

grows_both : (a b c : Option (List ℕ)) (x y : List ℕ) → Appends a b x → Appends b c y → Appends a c (x ++ y)
grows_both None b c x y p q = tt
grows_both (Some u) None c x y p q = absurd p
grows_both (Some u) (Some v) None x y p q = absurd q
grows_both (Some u) (Some v) (Some w) x y p q = q ∙ ap (λ bs. bs ++ y) p ∙ append_assoc u x y

-- nothing was appended
pub appends_nothing : (a : Option (List ℕ)) → AppendsWhole a a []
appends_nothing a = record { grows = grows_nothing a }

-- an equal text was appended
pub appends_same : {a b : Option (List ℕ)} {x y : List ℕ} → x ≡ y → AppendsWhole a b x → AppendsWhole a b y
appends_same {a} {b} e p = subst (λ (bs : List ℕ). AppendsWhole a b bs) e p

-- one text was appended, and then another
pub appends_both : {a b c : Option (List ℕ)} {x y : List ℕ} → AppendsWhole a b x → AppendsWhole b c y → AppendsWhole a c (x ++ y)
appends_both {a} {b} {c} {x} {y} p q = record { grows = grows_both a b c x y p.grows q.grows }

-- a text was appended, and then nothing
pub appends_then_nothing : {a b c : Option (List ℕ)} {x : List ℕ} → AppendsWhole a b x → AppendsWhole b c [] → AppendsWhole a c x
appends_then_nothing {x = x} p q = appends_same (append-nil x) (appends_both p q)

-- a count that rose has risen at any later time too
pub Rose-later : (a b c : ℕ) → Rose a b → b ≤ c → Rose a c
Rose-later a b c (inl h) later = inl (omega arith)
Rose-later a b c (inr h) later = inr (omega arith)

pub Rose-earlier : (a b c : ℕ) → a ≤ b → Rose b c → Rose a c
Rose-earlier a b c earlier (inl h) = inl (omega arith)
Rose-earlier a b c earlier (inr h) = inr h

-- a count that stays didn't rise
pub Stays-not-Rose : (a b : ℕ) → Stays a b → Rose a b → ⊥
Stays-not-Rose a b s (inl h) = omega (arith, s.0)
Stays-not-Rose a b s (inr h) = omega (arith, s.1)

-- a text of which everything but the rest was put: the count stays, and where the sink had room for the whole text it has room for the rest
pub record Left (before now : SinkState) (text rest : List ℕ) : Type 0 where
  pub kept : now.faults ≡ before.faults
  pub done : List ℕ
  pub parts : text ≡ done ++ rest
  pub written : AppendsWhole before.written now.written done
  pub room : length text ≤ before.room → before.room + length rest ≤ now.room + length text

-- nothing was put yet
pub left_all : (before : SinkState) (text : List ℕ) → Left before before text text
left_all before text = record { kept = refl; done = []; parts = refl; written = appends_nothing before.written; room = λ _. omega arith }

-- what a prefix of a part is in the whole
prefix_of_part : (done part rest : List ℕ) (n : ℕ) → n < length part → take (length done + n) (done ++ (part ++ rest)) ≡ done ++ take n part
prefix_of_part done part rest n h = take-append-add done (part ++ rest) n ∙ ap (λ bs. done ++ bs) (take-append-le n part rest (omega arith))

module _ {A E : Type 0} {before now after : SinkState} {text : List ℕ} where
  -- one more part was put, and another part is to come
  pub left_next : {part rest : List ℕ} {a : A} → Left before now text (part ++ rest) → Puts {E = E} now after part (Ok a)
      → Left before after text rest
  left_next {part} {rest} l p =
      record {
        kept = p.kept ∙ l.kept;
        done = l.done ++ part;
        parts = l.parts ∙ sym (append_assoc l.done part rest);
        written = appends_both l.written p.whole;
        room = λ fits. let r = l.room fits in let n = length-append part rest in let s = p.sure (omega (arith, r, n)) in
            omega (arith, r, s.1, n);
      }

  -- putting a part failed
  pub left_stop : {part : List ℕ} (rest : List ℕ) {e : E} → Left before now text (part ++ rest) → Puts {A = A} now after part (Err e)
      → Puts {A = A} before after text (Err e)
  left_stop {part} rest {e} l p =
      let f = p.front in
      record {
        later = omega (arith, l.kept, p.later);
        kept = tt;
        whole = tt;
        front = (
          length l.done + f.0,
          omega (arith, f.1, ap length l.parts, length-append l.done (part ++ rest), length-append part rest),
          appends_same (sym (ap (λ bs. take (length l.done + f.0) bs) l.parts ∙ prefix_of_part l.done part rest f.0 f.1))
              (appends_both l.written f.2),
        );
        failed = Rose-earlier before.faults now.faults after.faults (omega (arith, l.kept)) p.failed;
        sure = λ fits. let r = l.room fits in let n = length-append part rest in absurd (not_ok A e (p.sure (omega (arith, r, n))).0);
      }

  -- the next write failed
  pub left_write_stop : {rest : List ℕ} {e : E} → Left before now text rest → 0 < length rest → Writes now after rest (Err e)
      → Puts {A = A} before after text (Err e)
  left_write_stop {rest} {e} l more w =
      record {
        later = omega (arith, l.kept, w.later);
        kept = tt;
        whole = tt;
        front = (
          length l.done,
          omega (arith, more, ap length l.parts, length-append l.done rest),
          appends_same (sym (ap (λ bs. take (length l.done) bs) l.parts ∙ take-append_seam l.done rest))
              (appends_then_nothing l.written w.nothing),
        );
        failed = Rose-earlier before.faults now.faults after.faults (omega (arith, l.kept)) w.failed;
        sure = λ fits. let r = l.room fits in absurd (not_ok ℕ e (w.sure more (omega (arith, r))).0);
      }

-- every part was put
pub left_none : {A E : Type 0} {before now : SinkState} {text : List ℕ} {a : A} → Left before now text []
    → Puts {E = E} before now text (Ok a)
left_none {before = before} {text = text} l =
    record {
      later = omega (arith, l.kept);
      kept = l.kept;
      whole = appends_same (sym (l.parts ∙ append-nil l.done)) l.written;
      front = tt;
      failed = tt;
      sure = λ fits. let r = l.room fits in (refl, omega (arith, r));
    }

-- the last part was put, or putting it failed
pub left_end : {A E : Type 0} {before now after : SinkState} {text part : List ℕ} {result : Result A E} → Left before now text part
    → Puts now after part result → Puts before after text result
left_end {part = part} {result = Ok a} l p = left_none (left_next (rw append-nil l) p)
left_end {part = part} {result = Err e} l p = left_stop [] (rw append-nil l) p

-- a write took some bytes of the rest
pub left_write : {E : Type 0} {before now after : SinkState} {text rest : List ℕ} {k : ℕ} → Left before now text rest → 0 < length rest
    → Writes {E = E} now after rest (Ok k) → Left before after text (drop k rest)
left_write {before = before} {rest = rest} {k = k} l more w =
    record {
      kept = w.kept ∙ l.kept;
      done = l.done ++ take k rest;
      parts = l.parts ∙ ap (λ bs. l.done ++ bs) (sym (take-append-drop k rest)) ∙ sym (append_assoc l.done (take k rest) (drop k rest));
      written = appends_both l.written w.taken;
      room = λ fits. let r = l.room fits in let s = w.sure more (omega (arith, r)) in let n = length-drop k rest in let b = w.bound in
          omega (arith, r, s.1, n, b);
    }

-- the texts of the items from place i on: that of item i, then those of the items after it
pub flat_map-drop : {X : Type 0} (f : X → List ℕ) (xs : List X) (i : ℕ) (d : X) → i < length xs
    → flat_map f (drop i xs) ≡ f (get_or xs i d) ++ flat_map f (drop (i + 1) xs)
flat_map-drop f xs i d h = rw add-one (ap (flat_map f) (drop-cons xs i d h))
