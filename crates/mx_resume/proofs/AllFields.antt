-- All fields, one behind another.
use Rattle.std.proofs.Common.{◌≡◌, ℕ, ◌*◌, List, [], refl}
use Rattle.mx_words.specs.Runs.{Run, most_owner_runs}
use Rattle.mx_model.specs.declared.values.Gate.{Gate}
use Rattle.mx_model.specs.Gates.{most_gates}
use Rattle.mx_snapshot.specs.Fields.{between, fields_in, gate_in, hart_in, head_in, module_in, owner_run_in}
use Rattle.mx_snapshot.specs.Reader.{Took, list_of, piece}
use Rattle.mx_snapshot.specs.Stored.{Head, Stored, StoredHart, StoredModule}

-- all that is stored
abbrev pub stored_with : Head → List StoredModule → List (Run ℕ) → List Gate → List StoredHart → List ℕ → Stored
stored_with h ms os gs xs ram = record { head = h; modules = ms; owners = os; gates = gs; harts = xs; ram = ram }

pub fields-taken : (bytes : List ℕ) (at : ℕ) (h : Head) (a : ℕ) (ms : List StoredModule) (b runs c : ℕ) (os : List (Run ℕ)) (d count e : ℕ)
    (gs : List Gate) (f : ℕ) (xs : List StoredHart) (g : ℕ) (ram : List ℕ) (now : ℕ)
    → head_in bytes at ≡ Took h a → list_of h.modules (module_in h) [] bytes a ≡ Took ms b → between 1 most_owner_runs bytes b ≡ Took runs c
    → list_of runs (owner_run_in h runs) [] bytes c ≡ Took os d
    → between 0 most_gates bytes d ≡ Took count e → list_of count (gate_in h) [] bytes e ≡ Took gs f
    → list_of h.harts (hart_in h) [] bytes f ≡ Took xs g → piece (4 * h.words) bytes g ≡ Took ram now
    → fields_in bytes at ≡ Took (stored_with h ms os gs xs ram) now
unfolding fields_in
fields-taken bytes at h a ms b runs c os d count e gs f xs g ram now e1 e2 e3 e4 e5 e6 e7 e8 = rw (e1, e2, e3, e4, e5, e6, e7, e8) refl
