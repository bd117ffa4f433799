-- What is taken of the pools of a trie.
use Rattle.std.specs.Prelude.{is_some, count_by}
use Rattle.mx_words.specs.declared.tables.Need.{Need}
use Rattle.mx_pool.specs.Frames.{Frames}

-- how many frames of each pool are taken
abbrev pub taken : Frames → Frames → Frames → Need
taken upper leaf spill = record {
  upper = count_by is_some upper;
  leaf = count_by is_some leaf;
  spill = count_by is_some spill;
}
