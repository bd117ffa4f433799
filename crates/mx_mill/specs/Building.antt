-- A table with one more key.
use Rattle.std.specs.Prelude.{ℕ, List}
use Rattle.std.specs.Cmp.Lexicographic.{slice_cmp}
use Rattle.std.specs.Ordering.{nat_cmp, match_ordering}
use Rattle.toml.specs.Data.{Data, Members, no_members, member}

-- the members with a value at a key: in place of the one that is there, or before the first key that comes after it
abbrev pub with_member : List ℕ → Data → Members → Members
with_member key value no_members = member key value no_members
with_member key value (member k v ms) = match_ordering (slice_cmp nat_cmp key k)
    (member key value (member k v ms)) (member k value ms) (member k v (with_member key value ms))
