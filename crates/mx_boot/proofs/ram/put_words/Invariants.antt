use Rattle.std.proofs.Common.{◌≡◌, ◌-◌, take, length}
use Rattle.std.specs.List.{flat_map}
use Rattle.mx_boot.specs.Areas.{word_bytes}
use Rattle.mx_boot.proofs.RamBytes.{put}
use Rattle.mx_boot.proofs.ram.put_words.Given as goal

abbrev pub invariant-words : goal.invariant-words
invariant-words l = (l.ram ≡ put l.fn.ram (l.address - 2147483648) (flat_map word_bytes (take l.k l.words)))
    × (length l.ram ≡ length l.fn.ram)
