-- The closing lines of a run's report, over a state with its lists of grants and gives, and over a flat state.
-- The rules: docs/COMMANDS.md, "The report".
use Rattle.std.specs.Prelude.{ℕ, ◌-◌, Bool, not, ◌==◌, List, [], ◌∷◌, length, take, drop, slice_index_or, if◌then◌else◌, flat_map}
use Rattle.std.specs.Prelude.{map as list_map}
use Rattle.std.specs.List.{concat, list_any, range_with_len}
use Rattle.mx_words.specs.declared.perm.Perm.{Perm}
use Rattle.mx_words.specs.declared.perm.Perm.TheVariants as P
use Rattle.mx_words.specs.declared.tables.Kind.{Kind}
use Rattle.mx_words.specs.declared.tables.Need.{Need}
use Rattle.mx_words.specs.declared.tables.Shown.{Shown}
use Rattle.mx_words.specs.Need.{need}
use Rattle.mx_words.specs.Newest.{map, owners}
use Rattle.mx_words.specs.Reach.{stored}
use Rattle.mx_words.specs.Rights.{same}
use Rattle.mx_words.specs.Runs.{runs_of}
use Rattle.mx_model.specs.Reads.{grants_of, map_in}
use Rattle.mx_model.specs.State.{Core, State, Flat, hart_at, cache_at, module_at}
use Rattle.mx_report.specs.declared.closing.Options.{Options}
use Rattle.mx_report.specs.declared.lines.EndState.{EndState}
use Rattle.mx_report.specs.Lines.{end_line, hart_lines, domain_head, map_text, owner_text, tables_line, shown_line, counts_line}
use Rattle.mx_report.specs.Runs.{run_texts}

-- the lines of a domain's maximal runs of one permission other than none, by address
unfoldable pub map_lines : ℕ → List Perm → List ℕ
map_lines domain m = run_texts (map_text domain) 0 (runs_of same m)

-- a domain's line, and those of its map
unfoldable pub domain_lines : ℕ → List ℕ → Bool → List Perm → List ℕ
domain_lines domain name dead m = concat (domain_head domain name dead ∷ map_lines domain m ∷ [])

-- the lines of the maximal runs of one owner other than the supervisor, by address
unfoldable pub owner_lines : List ℕ → List ℕ
owner_lines os = run_texts owner_text 0 (runs_of (λ a b. a == b) os)

-- whether some of `count` words from `first` on has a permission other than none
abbrev pub has_rights : List Perm → ℕ → ℕ → Bool
has_rights m first count = list_any (λ p. not (same p P.None)) (take count (drop first m))

-- the line of a stored item, where some of its words has a permission other than none
abbrev pub shown_text : ℕ → List Perm → Shown → List ℕ
shown_text domain m item = if has_rights m item.first item.count then shown_line domain item else []

-- the line of word i's stored item, at the first of its words
abbrev pub item_text : ℕ → Kind → List Perm → ℕ → List ℕ
item_text domain kind m i =
    let item = stored kind m i in
    if item.first == i then shown_text domain m item else []

-- the lines of the stored items of a domain's map, by address
unfoldable pub shown_lines : ℕ → Kind → List Perm → List ℕ
shown_lines domain kind m = flat_map (item_text domain kind m) (range_with_len 0 (length m))

-- what the report reads of rights and owners: the map of each domain, the maps of all, and the owner of each word
pub record Told : Type 0 where
  pub map_of : ℕ → List Perm
  pub maps : List (List Perm)
  pub owners : List ℕ

-- the lines of the stored items of each domain
unfoldable pub all_items : Core → Told → List ℕ
all_items c t =
    flat_map (λ d. shown_lines d c.kind (t.map_of d)) (range_with_len 1 (length c.modules))

-- what the tables take, under a kind's name with a limit, and the stored items of each domain
unfoldable pub table_lines : Kind → Need → Core → Told → List ℕ
table_lines kind limit c t =
    concat (tables_line kind (need c.kind t.maps) limit ∷ all_items c t ∷ [])

-- the counts of each hart
unfoldable pub counts_lines : Core → List ℕ
counts_lines c = flat_map (λ h. counts_line h (cache_at c h)) (range_with_len 0 (length c.harts))

-- the lines of --tables and those of --counts, where they are asked
abbrev pub tables_asked : Options → Kind → Need → Core → Told → List ℕ
tables_asked options kind limit c t = if options.tables then table_lines kind limit c t else []

abbrev pub counts_asked : Options → Core → List ℕ
counts_asked options c = if options.counts then counts_lines c else []

-- both, where they are asked
unfoldable pub asked_lines : Options → Kind → Need → Core → Told → List ℕ
asked_lines options kind limit c t =
    concat (tables_asked options kind limit c t ∷ counts_asked options c ∷ [])

-- the lines of each hart
unfoldable pub all_harts : Core → List ℕ
all_harts c = flat_map (λ h. hart_lines h (hart_at c h)) (range_with_len 0 (length c.harts))

-- the lines of each domain, with the names of the modules in order
unfoldable pub all_domains : List (List ℕ) → Core → Told → List ℕ
all_domains names c t =
    flat_map
    (λ d. domain_lines d (slice_index_or names (d - 1) []) (module_at c d).dead (t.map_of d))
    (range_with_len 1 (length c.modules))

-- the closing lines, in their order
unfoldable pub closing_of : List (List ℕ) → EndState → Options → Core → Told → List ℕ
closing_of names end options c t =
    concat (end_line c.turns end ∷ all_harts c ∷ all_domains names c t ∷ owner_lines t.owners
    ∷ asked_lines options c.kind c.limit c t ∷ [])

-- what a state tells: the maps by its lists of grants, the owners by its list of gives
abbrev pub told : State → Told
told s = record {
  map_of = λ d. map (grants_of s.grants d) s.core.size;
  maps = list_map (λ grants. map grants s.core.size) s.grants;
  owners = owners s.gives s.core.size;
}

-- a domain's map in a flat state
abbrev pub domain_map : Flat → ℕ → List Perm
domain_map f d = map_in f.core.size f.maps d

-- what a flat state tells
abbrev pub flat_told : Flat → Told
flat_told f = record { map_of = domain_map f; maps = f.maps; owners = f.owners }

-- the closing lines of a state
abbrev pub closing : List (List ℕ) → EndState → Options → State → List ℕ
closing names end options s = closing_of names end options s.core (told s)

-- the closing lines of a flat state
abbrev pub flat_closing : List (List ℕ) → EndState → Options → Flat → List ℕ
flat_closing names end options f = closing_of names end options f.core (flat_told f)
