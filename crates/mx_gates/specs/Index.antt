-- The index by which a gate is found: the gates sorted by domain and word, and how many of them lie in each bucket.
use Rattle.std.specs.Prelude.{◌≡◌, ℕ, ◌+◌, ◌*◌, ◌/◌, ◌%◌, ◌<◌, Bool, true, not, ◌==◌, ◌&&◌, ◌||◌, nat_lt, List, length, slice_index}
use Rattle.std.specs.Prelude.{AllPairs}
use Rattle.std.specs.List.{position_or_len, count_by}
use Rattle.mx_model.specs.declared.values.Gate.{Gate}
use Rattle.mx_model.specs.Gates.{gate_at}

-- the bucket of a domain and a word
abbrev pub bucket : ℕ → ℕ → ℕ
bucket domain word = (word + 61 * (word / 1024) + 97 * domain) % 2048

-- how many gates lie in a bucket
abbrev pub lying : ℕ → List Gate → ℕ
lying b gates = count_by (λ g. bucket g.domain g.word == b) gates

-- whether a gate comes before a domain and a word in the order by domains, and by words within a domain
unfoldable pub is_before : ℕ → ℕ → Gate → Bool
is_before domain word g = nat_lt g.domain domain || ((g.domain == domain) && nat_lt g.word word)

-- each gate comes before all later ones
abbrev pub AreRising : List Gate → Type 0
AreRising gates = AllPairs (λ (g h : Gate). is_before h.domain h.word g ≡ true) gates

-- what stands beyond the last gate
abbrev pub no_gate : Gate
no_gate = record { domain = 0; word = 0; target = 0 }

-- how many sorted gates come before a domain and a word
abbrev pub place_of : ℕ → ℕ → List Gate → ℕ
place_of domain word sorted = position_or_len (λ g. not (is_before domain word g)) sorted

-- what the index says of the gates: sorted, the same are found; and of each bucket, how many lie in it
pub record Indexes (gates sorted : List Gate) (counts : List ℕ) : Type 0 where
  pub rising : AreRising sorted
  pub many : length sorted ≡ length gates
  pub same : (domain word : ℕ) → gate_at sorted domain word ≡ gate_at gates domain word
  pub buckets : length counts ≡ 2048
  pub counted : (b : ℕ) → b < 2048 → slice_index counts b ≡ lying b gates
