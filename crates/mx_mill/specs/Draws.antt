-- The numbers that `mill` draws for its modules.
-- The rules: docs/COMMANDS.md, "The mill".
use Rattle.std.specs.Prelude.{ℕ, zero, suc, ◌+◌, ◌-◌, ◌*◌, ◌/◌, ◌%◌, ◌^◌}
use Rattle.mx_mill.specs.declared.draws.Draws.{Draws}
use Rattle.mx_mill.specs.Words.{module_count}

-- the number x after one more draw
abbrev pub next : ℕ → ℕ
next x = (1103515245 * x + 12345) % 2 ^ 31

-- what a draw below a bound answers, x being the number after it
abbrev pub drawn : ℕ → ℕ → ℕ
drawn x bound = x / 65536 % bound

-- the number after so many draws; it is k at first
unfoldable pub number_after : ℕ → ℕ → ℕ
number_after k zero = k
number_after k (suc n) = next (number_after k n)

-- the three draws of module i, which counts from 1
unfoldable pub draws : ℕ → ℕ → Draws
draws k i = record {
  words = 1 + drawn (number_after k (3 * i - 2)) 16;
  domain = 1 + drawn (number_after k (3 * i - 1)) module_count;
  right = 1 + drawn (number_after k (3 * i)) 3;
}
