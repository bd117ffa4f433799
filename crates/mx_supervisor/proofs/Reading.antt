-- Looks at words in order, up to the first that may not be read.
use Rattle.std.proofs.Common.{◌≡◌, ℕ, suc, ◌+◌, ◌-◌, ◌<◌, ◌≤◌, Bool, true, false, ◌&&◌, List, [], ◌∷◌, refl, sym, ap, subst, ◌∙◌, arith}
use Rattle.std.specs.List.{list_all, prefix_len, range_with_len}
use Rattle.mx_words.specs.declared.perm.Access.TheVariants as A
use Rattle.mx_words.specs.Rights.{allows, perm_at}
use Rattle.mx_check.specs.Conditions.{MayLook}
use Rattle.mx_check.specs.Harts.{Kept, kept_at}
use Rattle.mx_model.specs.declared.values.Call.{Call}
use Rattle.mx_model.specs.Checks.{looked}
use Rattle.mx_model.specs.Reads.{Reads, flat_reads, map_in}
use Rattle.mx_model.specs.Serve.{look_of, may_read}
use Rattle.mx_model.specs.State.{Core}
use Rattle.mx_supervisor.specs.Looks.{BarsAlike, KeepsHarts, HasLooked, HasRead, read_through}
use Rattle.mx_supervisor.specs.Parts.{Parts, core_of, flat_of}
use Rattle.mx_supervisor.proofs.Answering.{same-harts}
use Rattle.mx_supervisor.proofs.Looking.{bars-kept, keeps-both, may-again}

-- whether a domain may read a word
abbrev pub readable : Parts → ℕ → ℕ → Bool
readable p d w = allows (perm_at (map_in p.size p.maps d) w) A.Read

-- what is left decides, where the checker now keeps these harts: whether all words may be read, and the state after all looks
pub record LeftDecides (call : Call) (words left : List ℕ) (old : Parts) (harts : List Kept) : Type 0 where
  pub keeps : KeepsHarts call (kept_at old.harts call.hart).flight old.harts harts
  pub answer : list_all (readable old call.domain) words ≡ list_all (readable old call.domain) left
  pub core : (rest : Core) → BarsAlike rest old call.hart →
      read_through (flat_reads (flat_of rest old)) call.hart call.domain words (core_of rest old)
      ≡ read_through (flat_reads (flat_of rest old)) call.hart call.domain left (core_of rest (record old { harts = harts }))

-- the parts while words are looked at
pub record HasReadTo (call : Call) (words left : List ℕ) (old now : Parts) : Type 0 where
  pub same : now ≡ record old { harts = now.harts }
  pub may : MayLook call.hart call.domain now.harts
  pub decides : LeftDecides call words left old now.harts

-- one look in front of the others
first-look : (r : Reads) (h d w : ℕ) (ws : List ℕ) (c : Core) → may_read r d w ≡ true →
    read_through r h d (w ∷ ws) c ≡ read_through r h d ws (looked r h c (look_of d w))
first-look r h d w ws c ok =
    let one : 1 + prefix_len (may_read r d) ws + 1 ≡ suc (prefix_len (may_read r d) ws + 1) = omega arith in
    rw (ok, one)

last-look : (r : Reads) (h d w : ℕ) (ws : List ℕ) (c : Core) → may_read r d w ≡ false
    → read_through r h d (w ∷ ws) c ≡ looked r h c (look_of d w)
last-look r h d w ws c bad = rw bad

-- one more word may be read
left-more : (call : Call) (w : ℕ) (words ws : List ℕ) (old : Parts) (harts next : List Kept) → LeftDecides call words (w ∷ ws) old harts
    → readable old call.domain w ≡ true →
    HasLooked call w (record old { harts = harts }) (record old { harts = next }) → LeftDecides call words ws old next
left-more call w words ws old harts next left ok look = record {
  keeps = keeps-both call old.harts harts next left.keeps look.harts;
  answer = left.answer ∙ ap (λ b. b && list_all (readable old call.domain) ws) ok;
  core = λ rest bars.
      left.core rest bars
      ∙ first-look (flat_reads (flat_of rest old)) call.hart call.domain w ws (core_of rest (record old { harts = harts })) ok
      ∙ ap (read_through (flat_reads (flat_of rest old)) call.hart call.domain ws)
      (sym (look.core rest (bars-kept rest old call _ harts left.keeps bars)));
}

look-from : (call : Call) (w : ℕ) (old now next : Parts) → now ≡ record old { harts = now.harts } → HasLooked call w now next →
    (next ≡ record old { harts = next.harts }) × HasLooked call w (record old { harts = now.harts }) (record old { harts = next.harts })
look-from call w old now next same look =
    let e : next ≡ record old { harts = next.harts } = look.same ∙ ap (λ (p : Parts). record p { harts = next.harts }) same in (
      e,
      subst (λ (p : Parts). HasLooked call w p (record old { harts = next.harts })) same
          (subst (λ (q : Parts). HasLooked call w now q) e look),
    )

pub read-more : (call : Call) (w : ℕ) (words ws : List ℕ) (old now next : Parts) → HasReadTo call words (w ∷ ws) old now
    → HasLooked call w now next →
    readable now call.domain w ≡ true → HasReadTo call words ws old next
read-more call w words ws old now next read look ok =
    let l = look-from call w old now next read.same look in
    let was : readable old call.domain w ≡ true = ap (λ (p : Parts). readable p call.domain w) (sym read.same) ∙ ok in
    record {
      same = l.0;
      may = may-again call _ now.harts next.harts refl look.harts read.may;
      decides = left-more call w words ws old now.harts next.harts read.decides was l.1;
    }

-- one may not
pub read-stop : (call : Call) (w : ℕ) (words ws : List ℕ) (old now next : Parts) → HasReadTo call words (w ∷ ws) old now
    → HasLooked call w now next →
    readable now call.domain w ≡ false → HasRead call words old next × (list_all (readable old call.domain) words ≡ false)
read-stop call w words ws old now next read look bad =
    let l = look-from call w old now next read.same look in
    let was : readable old call.domain w ≡ false = ap (λ (p : Parts). readable p call.domain w) (sym read.same) ∙ bad in
    let core : (rest : Core) → BarsAlike rest old call.hart →
    core_of rest (record old { harts = next.harts }) ≡ read_through (flat_reads (flat_of rest old)) call.hart call.domain words
    (core_of rest old) = λ rest bars.
    l.1.core rest (bars-kept rest old call _ now.harts read.decides.keeps bars)
    ∙ sym (read.decides.core rest bars
    ∙ last-look (flat_reads (flat_of rest old)) call.hart call.domain w ws (core_of rest (record old { harts = now.harts })) was) in
    let has : HasRead call words old (record old { harts = next.harts }) = record {
      same = refl;
      harts = keeps-both call old.harts now.harts next.harts read.decides.keeps look.harts;
      core = core;
    } in (
      subst (λ (q : Parts). HasRead call words old q) (sym l.0) has,
      read.decides.answer ∙ ap (λ b. b && list_all (readable old call.domain) ws) was,
    )

-- the words left in a range
pub range-step : (w behind : ℕ) → w < behind → range_with_len w (behind - w) ≡ w ∷ range_with_len (w + 1) (behind - (w + 1))
range-step w behind lt = let e : behind - w ≡ suc (behind - (w + 1)) = omega arith in rw e

-- none is looked at yet
pub read-none : (call : Call) (words : List ℕ) (p : Parts) → MayLook call.hart call.domain p.harts →
    HasReadTo call words words p p
read-none call words p may =
    record {
      same = refl;
      may = may;
      decides = record { keeps = same-harts call p.harts; answer = refl; core = λ rest bars. refl };
    }

-- all may be read
pub read-end : (call : Call) (w behind : ℕ) (words : List ℕ) (old now : Parts) → behind ≤ w →
    HasReadTo call words (range_with_len w (behind - w)) old now →
    HasRead call words old now × (list_all (readable old call.domain) words ≡ true)
read-end call w behind words old now le read =
    let e : behind - w ≡ 0 = omega (arith, le) in
    let done : HasReadTo call words [] old now =
    subst (λ (n : ℕ). HasReadTo call words (range_with_len w n) old now) e read in (
      record {
        same = read.same;
        harts = read.decides.keeps;
        core = λ rest bars. ap (core_of rest) read.same ∙ sym (done.decides.core rest bars);
      },
      done.decides.answer,
    )
