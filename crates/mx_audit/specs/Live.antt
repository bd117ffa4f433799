-- The live domains: those in which a hart is, or to which it can come.
-- The rules: docs/MACHINE.md, "Live domains and sealed words".
use Rattle.std.specs.Prelude.{ℕ, zero, suc, Bool, not, ◌==◌, List, ◌∷◌, ◌++◌, length, filter}
use Rattle.std.specs.Prelude.{map as list_map}
use Rattle.std.specs.List.{Contains, list_any, flat_map}
use Rattle.mx_model.specs.declared.values.Frame.{Frame}
use Rattle.mx_model.specs.declared.values.Gate.{Gate}
use Rattle.mx_model.specs.State.{Core, Hart}

-- the least set that holds
pub data IsLive (c : Core) : ℕ → Type 0 where
  -- the domain of each hart
  HasHart : (hart : Hart) → Contains c.harts hart → IsLive c hart.domain
  -- the caller of each frame
  HasFrame : (hart : Hart) → Contains c.harts hart →
      (frame : Frame) → Contains hart.frames frame → IsLive c frame.caller
  -- and with a domain the target of each of its gates
  IsTarget : (gate : Gate) → Contains c.gates gate → IsLive c gate.domain → IsLive c gate.target

-- whether a domain is in a list
abbrev pub is_in : List ℕ → ℕ → Bool
is_in live d = list_any (λ e. e == d) live

-- the domains of a hart: its own and the callers of its frames
abbrev pub domains_of : Hart → List ℕ
domains_of hart = hart.domain ∷ list_map (λ (frame : Frame). frame.caller) hart.frames

-- the gates of the domains in a list, and the other gates
abbrev pub passed : List ℕ → List Gate → List Gate
passed live gates = filter (λ (gate : Gate). is_in live gate.domain) gates

abbrev pub not_passed : List ℕ → List Gate → List Gate
not_passed live gates = filter (λ (gate : Gate). not (is_in live gate.domain)) gates

-- n rounds: each passes the gates of the domains that are live so far, whose targets are then live too, and leaves the others
-- to the next
abbrev pub rounds : ℕ → List Gate → List ℕ → List ℕ
rounds zero gates live = live
rounds (suc n) gates live =
    rounds n (not_passed live gates)
    (live ++ list_map (λ (gate : Gate). gate.target) (passed live gates))

-- the live domains, by as many rounds as there are gates; some may stand there twice
abbrev pub live : Core → List ℕ
live c = rounds (length c.gates) c.gates (flat_map domains_of c.harts)

-- whether a domain is live
abbrev pub is_live : Core → ℕ → Bool
is_live c d = is_in (live c) d
