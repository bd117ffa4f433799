-- The run of a word in a map, found from span to span.
use Rattle.std.proofs.Common.{◌≡◌, ◌≢◌, ℕ, ◌+◌, ◌<◌, ◌≤◌, ◌⊎◌, inl, inr, List, length, sym, ◌∙◌, arith}
use Rattle.std.proofs.lemmas.Bool.{cases_lt}
use Rattle.mx_words.specs.declared.perm.Perm.{Perm}
use Rattle.mx_words.specs.declared.perm.Span.{Span}
use Rattle.mx_words.specs.Rights.{perm_at}
use Rattle.mx_words.proofs.ReachLaws.{IsUniformRound, span_round}
use Rattle.mx_model.specs.Reads.{flat_reads, map_in}
use Rattle.mx_model.specs.State.{Flat}

-- the words from `word` up to `end` have one permission
pub record IsAlike (m : List Perm) (word end : ℕ) : Type 0 where
  pub behind : word < end
  pub within : end ≤ length m
  pub alike : (w : ℕ) → word ≤ w → w < end → perm_at m w ≡ perm_at m word

-- the permission of a span is that of its word
pub round_perm : (m : List Perm) (i : ℕ) (s : Span) → IsUniformRound m i s → s.perm ≡ perm_at m i
round_perm m i s r = sym (r.alike i r.left r.right)

pub alike_span : (m : List Perm) (i : ℕ) (s : Span) → IsUniformRound m i s → IsAlike m i (s.first + s.count)
alike_span m i s r =
    let left = r.left in
    let right = r.right in
    record { behind = right; within = r.inside; alike = λ w lo hi. r.alike w (omega arith) hi ∙ round_perm m i s r }

pub alike_more : (m : List Perm) (i end : ℕ) (s : Span) → IsAlike m i end → IsUniformRound m end s → s.perm ≡ perm_at m i
    → IsAlike m i (s.first + s.count)
alike_more m i end s a r e =
    let behind = a.behind in
    let left = r.left in
    let right = r.right in
    record { behind = omega arith; within = r.inside; alike = λ w lo hi. by w lo hi (cases_lt w end) }
  where
    by : (w : ℕ) → i ≤ w → w < s.first + s.count → (w < end) ⊎ (end ≤ w) → perm_at m w ≡ perm_at m i
    by w lo hi (inl lt) = a.alike w lo lt
    by w lo hi (inr le) = let left = r.left in r.alike w (omega arith) hi ∙ e

-- a span of another permission behind them ends the run
pub round_other : (m : List Perm) (i end : ℕ) (s : Span) → IsUniformRound m end s → s.perm ≢ perm_at m i → perm_at m end ≢ perm_at m i
round_other m i end s r ne = λ e. ne (round_perm m end s r ∙ e)

-- what a walk answers in a flat state
pub walk_round : (f : Flat) (d i : ℕ) (s : Span) → s ≡ (flat_reads f).walk d i → length (map_in f.core.size f.maps d) ≡ f.core.size
    → i < f.core.size → IsUniformRound (map_in f.core.size f.maps d) i s
walk_round f d i s e whole lt = search (arith, f.core.size, f.maps, span_round, f.core.kind)
