use Rattle.std.proofs.Common.{◌≡◌, drop, find}
use Rattle.std.specs.Str.{bytes_eq}
use Rattle.mx_source.specs.Mnemonics.{keyword_name}
use Rattle.mx_source.proofs.mnemonics.find_among.Given as goal

abbrev pub invariant-keywords : goal.invariant-keywords
invariant-keywords l = find (λ k. bytes_eq (keyword_name k) l.word) l.keywords
    ≡ find (λ k. bytes_eq (keyword_name k) l.word) (drop l.keyword-index l.keywords)
