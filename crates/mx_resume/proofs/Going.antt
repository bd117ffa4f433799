-- The parts that a valid snapshot gives, as the calls ask for them with which its machine goes on.
use Rattle.std.proofs.Common.{◌≡◌, ◌≢◌, ℕ, ◌%◌, ◌<◌, ◌≤◌, ◌⊎◌, ⊎_elim, Bool, true, ◌==◌, All, IsTrue, List, [], ◌∷◌, length, Ok, Err, refl}
use Rattle.std.proofs.Common.{sym, ap, ◌∙◌, subst, arith, if◌then◌else◌}
use Rattle.std.proofs.Common.{map as list_map}
use Rattle.std.specs.List.{AllByRecursion}
use Rattle.std.proofs.lemmas.Bool.{and_parts}
use Rattle.std.proofs.lemmas.List.{length-map}
use Rattle.std.proofs.lemmas.List.Elements.{All-from_recursion}
use Rattle.mx_words.specs.declared.perm.Perm.{Perm}
use Rattle.mx_words.specs.declared.perm.Span.{Span}
use Rattle.mx_words.specs.declared.tables.Kind.{Kind}
use Rattle.mx_words.specs.declared.tables.Need.{Need}
use Rattle.mx_words.specs.Need.{fits, need, within}
use Rattle.mx_words.specs.Newest.{map}
use Rattle.mx_words.specs.Ranges.{most_words}
use Rattle.mx_words.specs.Runs.{Run}
use Rattle.mx_table.specs.declared.tables.PermTables.{Ghosts}
use Rattle.mx_table.specs.Tables.{IsRow, row_map}
use Rattle.mx_check.specs.declared.flight.Flight.{Flight}
use Rattle.mx_check.specs.Calls.{Checks, waiting_harts}
use Rattle.mx_check.specs.Conditions.{IsResumable}
use Rattle.mx_check.specs.Harts.{Kept}
use Rattle.mx_heap.specs.HeapState.{HeapState}
use Rattle.mx_model.specs.declared.values.Gate.{Gate}
use Rattle.mx_model.specs.State.{flat}
use Rattle.mx_model.specs.Valid.{IsGate}
use Rattle.mx_supervisor.specs.declared.supervisor.Supervisor.{Supervisor}
use Rattle.mx_supervisor.specs.Parts.{AreJoined, Parts, parts_of}
use Rattle.mx_supervisor.proofs.Joined.{joined-sound}
use Rattle.mx_machine.specs.declared.starts.HartState.{HartState}
use Rattle.mx_machine.specs.declared.starts.StackArea.{StackArea}
use Rattle.mx_machine.specs.Starts.{MayResume, resumed}
use Rattle.mx_model.proofs.EachLaws.{all_mapped}
use Rattle.mx_manifest.specs.Forms.{is_within}
use Rattle.mx_snapshot.specs.Fits.{IsHead, IsStored, IsStoredModule}
use Rattle.mx_snapshot.specs.Resumed.{laid_runs, state_of}
use Rattle.mx_snapshot.specs.Resuming.{flights_in, parts_in, spans_in}
use Rattle.mx_snapshot.specs.Rules.{is_next_run, has_place}
use Rattle.mx_snapshot.specs.Stored.{Head, Stored, StoredModule}
use Rattle.mx_snapshot.proofs.CodecBounds.{small_place, within_range}
use Rattle.mx_snapshot.proofs.ValidBack.{map-words}
use Rattle.mx_snapshot.proofs.ValidGoes.{goes-on}
use Rattle.mx_snapshot.proofs.ValidKept.{stored-kept}
use Rattle.mx_snapshot.proofs.ValidLists.{each_holds}
use Rattle.mx_snapshot.proofs.ValidMay.{flights-fit, gates-fit, may-go, parts-sound}
use Rattle.mx_snapshot.proofs.ValidRuns.{row-fits, row-same}
use Rattle.mx_resume.specs.declared.building.Held.{Held}
use Rattle.mx_resume.specs.declared.harts.ResumingHarts.{ResumingHarts}
use Rattle.mx_resume.specs.declared.head.Head as code_head
use Rattle.mx_resume.specs.declared.refused.SnapshotRefused.{SnapshotRefused}
use Rattle.mx_resume.specs.declared.refused.SnapshotRefused.TheVariants.{Fault, TablesFull, NoMemory}
use Rattle.mx_resume.specs.Extents.{HasBounds}
use Rattle.mx_resume.specs.Goes.{AreParts, GivesParts, GoesFrom, IsHeld, IsOverfull, MayFly, MayJoin}
use Rattle.mx_resume.specs.Parts.{head_seen}
use Rattle.mx_resume.specs.Snapshot.{IsRefusedBy, NeedsMore, fitting, stored_need}

-- what the calls ask of parts that are a valid snapshot's
pub parts-hold : (p : Parts) → AreParts p → AreJoined p × AllByRecursion (IsGate (length p.maps) p.size) p.gates
parts-hold p a = (
  subst AreJoined (sym a.same) (joined-sound (parts_in a.snapshot) (parts-sound a.snapshot a.valid)),
  subst (λ (q : Parts). AllByRecursion (IsGate (length q.maps) q.size) q.gates) (sym a.same) (gates-fit a.snapshot a.valid),
)

module _ (s : Stored) (p : Parts) (states : List HartState) (stacks : List StackArea) (dead : List Bool) (turns : ℕ)
    (from : GoesFrom s p states stacks dead turns) where
  parts-given : AreParts p
  parts-given = record { snapshot = s; valid = from.valid; same = from.same_parts }

  may-given : MayResume p states stacks dead turns
  may-given =
      rw (from.same_parts, from.same_states, from.same_stacks, from.same_dead, from.same_turns) (may-go s from.valid)

  pub all-hold : AreJoined p × (AllByRecursion (IsGate (length p.maps) p.size) p.gates × MayResume p states stacks dead turns)
  all-hold = let h = parts-hold p parts-given in (h.0, (h.1, may-given))

  pub resumed-is : resumed p states stacks dead turns ≡ flat (state_of s)
  resumed-is =
      rw (from.same_parts, from.same_states, from.same_stacks, from.same_dead, from.same_turns) (goes-on s from.valid)

-- the head
pub bounds-of : (s : Stored) → IsStored s → (h : code_head.Head) → head_seen h ≡ s.head → HasBounds h
bounds-of s f h e =
    let is : IsHead (head_seen h) = subst IsHead (sym e) f.head in
    let words = within_range 16384 most_words h.words (and_parts (is_within 16384 most_words h.words) (h.words % 1024 == 0) is.words).0 in
    let low = words.0 in
    record {
      some_words = omega (arith, low);
      few_words = words.1;
      limit = is.limit;
      some_modules = is.modules.0;
      few_modules = is.modules.1;
      some_harts = is.harts.0;
      few_harts = is.harts.1;
      few_turns = is.turns;
    }

-- rows
abbrev pub row_in : StoredModule → List Span
row_in m = spans_in 0 m.map

next-count : (words runs : ℕ) (before : List (Run Perm)) (r : Run Perm) → is_next_run words runs before r ≡ true → 0 < r.count
next-count words runs before r e = (small_place words runs before r.count (and_parts (has_place words runs before r.count) _ e).0).0

row-fit : (h : Head) (before : List StoredModule) (m : StoredModule) → IsStoredModule h before m → IsRow h.words (row_in m)
row-fit h before m is =
    let all = map-words h before m is in
    row-fits m.map h.words
    (each_holds (λ others (r : Run Perm). is_next_run h.words (length m.map) others r ≡ true) (λ (r : Run Perm). 0 < r.count)
    (next-count h.words (length m.map)) m.map [] is.map)
    (omega (arith, all))

pub rows-count : (s : Stored) → IsStored s → (h : code_head.Head) (rows : List (List Span)) → head_seen h ≡ s.head
    → rows ≡ list_map row_in s.modules → length rows ≡ h.modules
rows-count s f h rows e r = ap length r ∙ length-map s.modules row_in ∙ f.module_count ∙ sym (ap (λ (x : Head). x.modules) e)

pub rows-fit : (s : Stored) → IsStored s → (h : code_head.Head) (rows : List (List Span)) → head_seen h ≡ s.head
    → rows ≡ list_map row_in s.modules → All (IsRow h.words) rows
rows-fit s f h rows e r =
    let each = each_holds (IsStoredModule s.head) (λ (m : StoredModule). IsRow s.head.words (row_in m)) (row-fit s.head) s.modules []
    f.modules in
    let all : All (IsRow s.head.words) (list_map row_in s.modules) =
    All-from_recursion (IsRow s.head.words) (list_map row_in s.modules) (all_mapped row_in (IsRow s.head.words) s.modules each) in
    let one : All (IsRow s.head.words) rows = subst (λ (xs : List (List Span)). All (IsRow s.head.words) xs) (sym r) all in
    subst (λ (n : ℕ). All (IsRow n) rows) (sym (ap (λ (x : Head). x.words) e)) one

maps-same : (words : ℕ) (ms : List StoredModule) → list_map (row_map words) (list_map row_in ms)
    ≡ list_map (λ (m : StoredModule). map (laid_runs 0 m.map) words) ms
maps-same words [] = refl
maps-same words (m ∷ ms) =
    ap (λ (xs : List (List Perm)). row_map words (row_in m) ∷ xs) (maps-same words ms)
    ∙ ap (λ (x : List Perm). x ∷ list_map (λ (k : StoredModule). map (laid_runs 0 k.map) words) ms) (row-same m.map words)

pub rows-maps : (s : Stored) (h : code_head.Head) (rows : List (List Span)) → head_seen h ≡ s.head → rows ≡ list_map row_in s.modules
    → list_map (row_map h.words) rows ≡ (parts_in s).maps
rows-maps s h rows e r =
    ap (list_map (row_map h.words)) r ∙ ap (λ (n : ℕ). list_map (row_map n) (list_map row_in s.modules)) (ap (λ (x : Head). x.words) e)
    ∙ maps-same s.head.words s.modules

-- the need of the maps
maps-flat : (words : ℕ) (ms : List StoredModule) → list_map (λ gs. map gs words) (list_map (λ (m : StoredModule). laid_runs 0 m.map) ms)
    ≡ list_map (λ (m : StoredModule). map (laid_runs 0 m.map) words) ms
maps-flat words [] = refl
maps-flat words (m ∷ ms) = ap (λ (xs : List (List Perm)). map (laid_runs 0 m.map) words ∷ xs) (maps-flat words ms)

pub needs-same : (s : Stored) (kind : Kind) (maps : List (List Perm)) → kind ≡ s.head.kind → maps ≡ (parts_in s).maps
    → need kind maps ≡ stored_need s
needs-same s kind maps k m = ap (λ (x : Kind). need x maps) k ∙ ap (need s.head.kind) (m ∙ sym (maps-flat s.head.words s.modules))

judged : (s : Stored) (kind : Kind) (limit : Need) (maps : List (List Perm)) → kind ≡ s.head.kind → limit ≡ s.head.limit
    → maps ≡ (parts_in s).maps → within (need kind maps) limit ≡ within (stored_need s) s.head.limit
judged s kind limit maps k l m = ap (λ (x : Need). within x limit) (needs-same s kind maps k m) ∙ ap (within (stored_need s)) l

pub maps-fit : (s : Stored) (kind : Kind) (limit : Need) (maps : List (List Perm)) → kind ≡ s.head.kind → limit ≡ s.head.limit
    → maps ≡ (parts_in s).maps → IsTrue (fits kind limit maps) → fitting s ≡ Ok s
maps-fit s kind limit maps k l m is =
    ap (λ (b : Bool). if b then Ok s else Err (NeedsMore (stored_need s) s.head.limit)) (sym (judged s kind limit maps k l m) ∙ is)

pub overfull : (s : Stored) (kind : Kind) (limit : Need) (maps : List (List Perm)) (refused : SnapshotRefused) → kind ≡ s.head.kind
    → limit ≡ s.head.limit → maps ≡ (parts_in s).maps → IsOverfull kind limit maps refused → IsRefusedBy (fitting s) refused
overfull s kind limit maps (Fault at number) k l m is = absurd is
overfull s kind limit maps (TablesFull needed told) k l m is =
    let same : needed ≡ stored_need s = is.0 ∙ needs-same s kind maps k m in
    ap (λ (b : Bool). if b then Ok s else Err (NeedsMore (stored_need s) s.head.limit))
    (sym (ap (λ (x : Need). within x limit) same ∙ ap (within (stored_need s)) l) ∙ is.2)
    ∙ ap (λ (x : Need). Err (NeedsMore x s.head.limit)) (sym same) ∙ ap (λ (x : Need). Err (NeedsMore needed x)) (sym (is.1 ∙ l))
overfull s kind limit maps NoMemory k l m is = tt

-- all that is held of a valid snapshot
at_most : (n : ℕ) → (n ≡ 8) ⊎ (n ≡ 32) ⊎ (n ≡ 64) → n ≤ 64
at_most n e = ⊎_elim
    (λ (a : n ≡ 8). (let r : n ≤ 64 = omega (arith, a) in r))
    (λ (o : (n ≡ 32) ⊎ (n ≡ 64)). ⊎_elim (λ (b : n ≡ 32). (let r : n ≤ 64 = omega (arith, b) in r)) (λ (d : n ≡ 64).
    (let r : n ≤ 64 = omega (arith, d) in r)) o)
    e

module _ (s : Stored) (x : code_head.Head) (rows : List (List Span)) (flown : ResumingHarts) (ram owners : List ℕ) (gates : List Gate)
    (heaps : List HeapState) (a : GivesParts s x rows flown ram owners gates heaps) where
  pub may-fly : (words buffer : ℕ) → words ≡ x.words → buffer ≡ x.lookaside → MayFly words buffer x flown.flights
  may-fly words buffer w b =
      let f = a.valid in
      let one = subst (λ (k : ℕ). All (IsResumable k s.head.words) (flights_in s)) (f.hart_count
      ∙ sym (ap (λ (h : Head). h.harts) a.same_head)) (flights-fit s f) in
      let two = subst (λ (k : ℕ). All (IsResumable x.harts k) (flights_in s)) (sym (w ∙ ap (λ (h : Head). h.words) a.same_head)) one in
      let small = at_most s.head.lookaside (stored-kept s f).lookaside in
      let same : buffer ≡ s.head.lookaside = b ∙ ap (λ (h : Head). h.lookaside) a.same_head in
      record {
        size = omega (arith, small, same);
        few = (bounds-of s f x a.same_head).few_harts;
        each = subst (λ (fs : List Flight). All (IsResumable x.harts words) fs) (sym (ap (λ (y : ResumingHarts). y.flights) a.same_harts))
            two;
      }

  pub joined : (kind : Kind) (maps : List (List Perm)) (size : ℕ) (limit : Need) (buffer : ℕ) (harts : List Kept)
      → kind ≡ x.kind → maps ≡ list_map (row_map x.words) rows → size ≡ x.words → limit ≡ x.limit → buffer ≡ x.lookaside
      → harts ≡ waiting_harts flown.flights x.harts
      → (let p : Parts = record {
        kind = kind;
        maps = maps;
        size = size;
        limit = limit;
        buffer = buffer;
        harts = harts;
        ram = ram;
        owners =
            owners;
        gates = gates;
        heaps = heaps;
      } in p) ≡ parts_in s
  joined kind maps size limit buffer harts k m n l b h =
      same kind maps size limit buffer harts ram owners gates heaps
      (k ∙ ap (λ (y : Head). y.kind) a.same_head) (m ∙ rows-maps s x rows a.same_head a.same_rows) (n
      ∙ ap (λ (y : Head). y.words) a.same_head) (l ∙ ap (λ (y : Head). y.limit) a.same_head) (b
      ∙ ap (λ (y : Head). y.lookaside) a.same_head)
      (h ∙ ap (λ (y : ResumingHarts). waiting_harts y.flights x.harts) a.same_harts
      ∙ ap (waiting_harts (flights_in s)) (ap (λ (y : Head). y.harts) a.same_head ∙ sym a.valid.hart_count))
      a.same_ram a.same_owners a.same_gates a.same_heaps
    where
      same : (kind : Kind) (maps : List (List Perm)) (size : ℕ) (limit : Need) (buffer : ℕ) (harts : List Kept) (ram owners : List ℕ)
          (gates : List Gate) (heaps : List HeapState)
          → kind ≡ (parts_in s).kind → maps ≡ (parts_in s).maps → size ≡ (parts_in s).size → limit ≡ (parts_in s).limit
          → buffer ≡ (parts_in s).buffer → harts ≡ (parts_in s).harts
          → ram ≡ (parts_in s).ram → owners ≡ (parts_in s).owners → gates ≡ (parts_in s).gates → heaps ≡ (parts_in s).heaps
          → (let p : Parts = record {
            kind = kind;
            maps = maps;
            size = size;
            limit = limit;
            buffer = buffer;
            harts = harts;
            ram = ram;
            owners = owners;
            gates = gates;
            heaps = heaps;
          } in p) ≡ parts_in s
      same kind maps size limit buffer harts ram owners gates heaps e1 e2 e3 e4 e5 e6 e7 e8 e9 e10 =
          rw (e1, e2, e3, e4, e5, e6, e7, e8, e9, e10) refl

-- a supervisor over tables that are built of such rows
module _ {T : Type 0} (tables : Ghosts T) (buffer : ℕ) (s : Stored) (x : code_head.Head) (rows : List (List Span)) (flown : ResumingHarts)
    (ram owners : List ℕ) (gates : List Gate) (heaps : List HeapState)
    (a : GivesParts s x rows flown ram owners gates heaps) (t : T)
    (k : tables.kind ≡ x.kind) (m : tables.maps t ≡ list_map (row_map x.words) rows) (w : tables.size t ≡ x.words)
    (l : tables.limits t ≡ x.limit) (b : buffer ≡ x.lookaside)
    (checker : Checks T) (checks : checker ≡ (let c : Checks T = record { tables = t; harts = waiting_harts flown.flights x.harts } in c))
  where
    abbrev over : Supervisor T buffer
    over = record { checker = checker; ram = ram; owners = owners; gates = gates; heaps = heaps }

    parts-over : parts_of tables over ≡ parts_in s
    parts-over =
        let e : checker.tables ≡ t = ap (λ (c : Checks T). c.tables) checks in
        joined s x rows flown ram owners gates heaps a tables.kind (tables.maps checker.tables) (tables.size checker.tables)
        (tables.limits checker.tables) buffer checker.harts
        k (ap tables.maps e ∙ m) (ap tables.size e ∙ w) (ap tables.limits e ∙ l) b (ap (λ (c : Checks T). c.harts) checks)

    pub are-parts : AreParts (parts_of tables over)
    are-parts = record { snapshot = s; valid = a.valid; same = parts-over }

    pub parts-joined : (p : Supervisor T buffer) → p ≡ over → parts_of tables p ≡ parts_in s
    parts-joined p e = ap (λ (y : Supervisor T buffer). parts_of tables y) e ∙ parts-over

-- what is held may be joined
pub may-join : (x : Held) → IsHeld x → MayJoin x.head x.rows.items x.harts x.ram x.owners x.gates x.heaps
may-join x h =
    record {
      snapshot = h.snapshot;
      gives =
          record {
            valid = h.valid;
            same_head = h.holds.head;
            same_rows = h.holds.rows;
            same_harts = h.holds.harts;
            same_ram = h.holds.ram;
            same_owners = h.holds.owners;
            same_gates = h.holds.gates;
            same_heaps = h.holds.heaps;
          };
    }

-- the greatest lookaside buffer, where it is neither of the others
pub last-buffer : (x : Held) → IsHeld x → x.head.lookaside ≢ 8 → x.head.lookaside ≢ 32 → 64 ≡ x.head.lookaside
last-buffer x h a b =
    let e = ap (λ (k : Head). k.lookaside) h.holds.head in
    let n = h.snapshot.head.lookaside in
    ⊎_elim (λ (i : n ≡ 8). absurd (a (e ∙ i)))
    (λ (o : (n ≡ 32) ⊎ (n ≡ 64)). ⊎_elim (λ (i : n ≡ 32). absurd (b (e ∙ i))) (λ (i : n ≡ 64). sym (e ∙ i)) o)
    (stored-kept h.snapshot h.valid).lookaside
