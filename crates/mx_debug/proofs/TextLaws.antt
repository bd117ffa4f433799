-- Lists of threads, and pieces of the console.
use Rattle.std.proofs.Common.{◌≡◌, ℕ, zero, suc, ◌+◌, ◌-◌, ◌≤◌, List, [], ◌∷◌, ◌++◌, codes, drop, length, take, refl, ap}
use Rattle.std.proofs.Common.{arith}
use Rattle.mx_packets.specs.Frames.{cut}
use Rattle.mx_packets.specs.Streams.{sent}
use Rattle.mx_debug.specs.Texts.{chunks_said, more_threads, most_shown, shown_text, thread_name}

pub no_threads : (h n : ℕ) → n ≡ 0 → more_threads h n ≡ []
no_threads h n e = ap (more_threads h) e

pub next_thread : (h n : ℕ) → 1 ≤ n → more_threads h n ≡ (codes "," ++ thread_name h) ++ more_threads (h + 1) (n - 1)
next_thread h zero some = absurd (omega (arith, some))
next_thread h (suc n) some = let less : n ≡ suc n - 1 = omega arith in ap (λ j. (codes "," ++ thread_name h) ++ more_threads (h + 1) j) less

pub no_bytes : (n : ℕ) (bytes : List ℕ) → length bytes ≤ 0 → chunks_said n bytes ≡ []
no_bytes zero bytes none = refl
no_bytes (suc n) [] none = refl
no_bytes (suc n) (b ∷ more) none = absurd (omega (arith, none))

pub next_chunk : (n : ℕ) (bytes : List ℕ) → 1 ≤ n → 1 ≤ length bytes
    → chunks_said n bytes ≡ sent (cut (shown_text (take most_shown bytes))) ++ chunks_said (n - 1) (drop most_shown bytes)
next_chunk zero bytes some more = absurd (omega (arith, some))
next_chunk (suc n) [] some more = absurd (omega (arith, more))
next_chunk (suc n) (b ∷ rest) some more =
    let less : n ≡ suc n - 1 = omega arith in
    ap (λ j. sent (cut (shown_text (take most_shown (b ∷ rest)))) ++ chunks_said j (drop most_shown (b ∷ rest))) less
