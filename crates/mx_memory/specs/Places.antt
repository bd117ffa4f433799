-- Places of RAM: its byte 0 has the address 0x80000000.
use Rattle.std.specs.Prelude.{◌≡◌, ℕ, ◌+◌, ◌-◌, ◌≤◌, ◌⊎◌, List, length}
use Rattle.mx_words.specs.Ranges.{ram_base}

-- the place of an address
abbrev pub place_of : ℕ → ℕ
place_of addr = addr - ram_base

-- the `size` bytes at an address lie in RAM
abbrev pub IsInside : List ℕ → ℕ → ℕ → Type 0
IsInside bytes addr size = (ram_base ≤ addr) × (addr - ram_base + size ≤ length bytes)
