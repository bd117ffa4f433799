-- A part of a text, gathered while the text is put together.
use Rattle.std.specs.Prelude.{ℕ, ◌-◌, Bool, false, ◌||◌, nat_lt, List, [], ◌++◌, length, take, drop}

-- how many bytes are still to be passed over, the most that are held, those that are held, and whether more came
pub record Part : Type 0 where
  pub skip : ℕ
  pub most : ℕ
  pub held : List ℕ
  pub over : Bool

-- before the text: the part of so many bytes from a place on
abbrev pub part_from : ℕ → ℕ → Part
part_from at most = record { skip = at; most = most; held = []; over = false }

-- for how many more bytes there is room
abbrev pub room_of : Part → ℕ
room_of p = p.most - length p.held

-- with as many of these bytes as there is room for
unfoldable pub with_held : Part → List ℕ → Part
with_held p bytes = record p {
  held = p.held ++ take (room_of p) bytes;
  over = p.over || nat_lt (room_of p) (length bytes);
}

-- the text goes on with these bytes
unfoldable pub further : Part → List ℕ → Part
further p bytes = with_held (record p { skip = p.skip - length bytes }) (drop p.skip bytes)
