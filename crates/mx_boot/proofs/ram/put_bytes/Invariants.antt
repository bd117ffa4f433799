use Rattle.std.proofs.Common.{◌≡◌, ◌-◌, take, length}
use Rattle.mx_boot.proofs.RamBytes.{put}
use Rattle.mx_boot.proofs.ram.put_bytes.Given as goal

abbrev pub invariant-bytes : goal.invariant-bytes
invariant-bytes l = (l.ram ≡ put l.fn.ram (l.address - 2147483648) (take l.k l.bytes)) × (length l.ram ≡ length l.fn.ram)
