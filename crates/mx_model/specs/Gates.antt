-- Gates as a list with at most one per domain and word, and frames from the bottom of a cross stack to its top.
-- The rules: docs/MACHINE.md, "Gates".
use Rattle.std.specs.Prelude.{◌≡◌, ℕ, ◌-◌, Bool, false, not, if◌then◌else◌, ◌==◌, ◌&&◌, nat_le, List, [], ◌∷◌, ◌++◌, length, take, reverse}
use Rattle.std.specs.Prelude.{filter, find, slice_index, Option, Some, None, option_map}
use Rattle.std.specs.Option.{option_map_or}
use Rattle.std.specs.List.{AllPairs, list_any, last_or}
pub use Rattle.mx_words.specs.Limits.{most_gates, most_frames}
use Rattle.mx_model.specs.declared.values.Gate.{Gate}
use Rattle.mx_model.specs.declared.values.Frame.{Frame}

-- whether a gate is for a domain at a word
abbrev pub is_at : ℕ → ℕ → Gate → Bool
is_at domain word g = (g.domain == domain) && (g.word == word)

-- the gate for a domain at a word
abbrev pub gate_at : List Gate → ℕ → ℕ → Option Gate
gate_at gates domain word = find (is_at domain word) gates

-- the target of the gate there, of either sort
abbrev pub gate_target : List Gate → ℕ → ℕ → Option ℕ
gate_target gates domain word = option_map (λ (g : Gate). g.target) (gate_at gates domain word)

-- the target of the call gate there, which is another domain
abbrev pub call_target : Gate → Option ℕ
call_target g = if g.target == g.domain then None else Some g.target

abbrev pub call_gate : List Gate → ℕ → ℕ → Option ℕ
call_gate gates domain word = option_map_or call_target (gate_at gates domain word) None

-- whether a return gate stands there, whose target is its own domain
abbrev pub is_return : List Gate → ℕ → ℕ → Bool
is_return gates domain word =
    option_map_or (λ (g : Gate). g.target == g.domain) (gate_at gates domain word) false

-- the gates without that of a domain and word
abbrev pub without_gate : ℕ → ℕ → List Gate → List Gate
without_gate domain word gates = filter (λ g. not (is_at domain word g)) gates

-- a new gate after the others; the old one of its domain and word is removed
abbrev pub with_gate : Gate → List Gate → List Gate
with_gate g gates = without_gate g.domain g.word gates ++ g ∷ []

-- whether there is a gate for a domain at a word
abbrev pub has_gate : List Gate → ℕ → ℕ → Bool
has_gate gates domain word = list_any (is_at domain word) gates

-- whether no gate for a domain and word can be added: as many stand as may, and none of them is there
abbrev pub no_gate_fits : List Gate → ℕ → ℕ → Bool
no_gate_fits gates domain word =
    nat_le most_gates (length gates) && not (has_gate gates domain word)

-- at most one gate stands for a domain at a word
abbrev pub AreSingle : List Gate → Type 0
AreSingle gates = AllPairs (λ (g h : Gate). is_at g.domain g.word h ≡ false) gates

-- the top frame, and the frames below it
abbrev pub top : List Frame → Option Frame
top frames = last_or None frames

abbrev pub below_top : List Frame → List Frame
below_top frames = take (length frames - 1) frames

-- the saved x2 of a frame, the first of its fifteen registers
abbrev pub saved_stack : Frame → ℕ
saved_stack f = slice_index f.kept 0

-- the saved x2 of the frame nearest the top whose caller is a domain
abbrev pub nearest : List Frame → ℕ → Option ℕ
nearest frames domain =
    option_map_or (λ f. Some (saved_stack f))
    (find (λ (f : Frame). f.caller == domain) (reverse frames)) None
