use Rattle.std.proofs.Common.{rules, ◌≡◌, ◌+◌, ◌*◌, length, [], ◌∷◌, ◌++◌, true, false, refl}
use Rattle.std.specs.Prelude.{Some, None}
use Rattle.mx_elf.specs.Image.{first_fault, segment_rows, is_loaded, segment_at}
use Rattle.mx_elf.proofs.Loading.{passes, adds, stops}
use Rattle.mx_elf.proofs.reading.read_segments.Goals as goal
use Rattle.mx_elf.proofs.reading.read_segments.Goals.{then-is_loaded+in_default, else-is_loaded}

pub returns-in-Some : goal.returns-in-Some
returns-in-Some c =
    let bytes = c.args.bytes.now in
    let at = c.args.first + 32 * c.headers.k in
    let loaded : is_loaded bytes at ≡ true = search rules in
    let first : first_fault (segment_rows (length bytes) (length c.headers.items.items, segment_at bytes at)) ≡ Some c.in-Some.number =
    search rules in
    let all = stops bytes c.args.first c.args.count c.headers.k c.headers.items.items c.in-Some.number c.headers-test.true loaded first
    c.headers.invariant in
    rw all refl

pub headers-preserved : goal.headers-preserved
headers-preserved c =
    let bytes = c.args.bytes.now in
    let at = c.args.first + 32 * c.headers.k in
    elim c.if-is_loaded.branch [
      | then-is_loaded+in_default w ↦
          let loaded : is_loaded bytes at ≡ true = search rules in
          let none : first_fault (segment_rows (length bytes) (length c.headers.items.items, segment_at bytes at)) ≡ None = search rules in
          let items : c.if-is_loaded.items.items ≡ c.headers.items.items ++ segment_at bytes at ∷ [] = search rules in
          rw items (adds bytes c.args.first c.args.count c.headers.k c.headers.items.items c.headers-test.true loaded none
          c.headers.invariant)
      | else-is_loaded w ↦
          let other : is_loaded bytes at ≡ false = search rules in
          rw w.items-is (passes bytes c.args.first c.args.count c.headers.k c.headers.items.items c.headers-test.true other
          c.headers.invariant)
    ]
