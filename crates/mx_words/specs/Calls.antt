-- The numbers of supervisor calls that definitions name. The code's constants are equal to these: proofs/Constants.
-- The rules: docs/MACHINE.md, "Supervisor calls".
use Rattle.std.specs.Prelude.{ℕ}

-- bytes for the console
abbrev pub write_call : ℕ
write_call = 2

-- a permission for one module
abbrev pub grant_call : ℕ
grant_call = 3

-- no right for any other module
abbrev pub revoke_all_call : ℕ
revoke_all_call = 4

-- a block of the caller's heap area
abbrev pub alloc_call : ℕ
alloc_call = 6

-- the end of a block
abbrev pub free_call : ℕ
free_call = 7

-- a word for another
abbrev pub exchange_call : ℕ
exchange_call = 13
