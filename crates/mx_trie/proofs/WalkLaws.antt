-- What a walk for a word finds in tables that stand for their map.
use Rattle.std.proofs.Common.{◌≡◌, ◌≢◌, ℕ, ◌*◌, ◌/◌, ◌%◌, ◌<◌, Bool, true, false, not, List, [], Some, None, is_some, if◌then◌else◌, refl}
use Rattle.std.proofs.Common.{sym, arith, lt-ltb}
use Rattle.mx_words.specs.declared.perm.Perm.{Perm}
use Rattle.mx_words.specs.declared.tables.Kind.{Kind}
use Rattle.mx_words.specs.declared.tables.Kind.TheVariants as K
use Rattle.mx_words.specs.declared.tables.Level.{Level}
use Rattle.mx_words.specs.declared.tables.Level.TheVariants as L
use Rattle.mx_words.specs.Runs.{page_words, region_words}
use Rattle.mx_words.specs.Reach.{level, line_at}
use Rattle.mx_words.specs.Blocks.{is_broken}
use Rattle.mx_pool.specs.Frames.{word_at}
use Rattle.mx_trie.specs.declared.walk.Found.TheVariants as F
use Rattle.mx_trie.specs.Leaf.{IsTrieKind, needs_spill, spill_number}
use Rattle.mx_trie.specs.Walk.{Frames, root_word, spilled_word, map_left, map_right, line_number}
use Rattle.mx_trie.specs.Read.{read_map}
use Rattle.mx_trie.specs.Shape.{length-read_map}
use Rattle.mx_trie.specs.Standing.{IsRead}
use Rattle.mx_trie.specs.Found.{IsLeaf, IsFound}
use Rattle.mx_trie.proofs.EntryLaws.{some-named}
use Rattle.mx_trie.proofs.EvenTables.{even-of}
use Rattle.mx_trie.proofs.Stored.{line-named, line-stored}
use Rattle.mx_trie.proofs.WalkWords.{is-open, is-closed, way-region, way-page, way-line}

-- the level at which a word is decided, by whether its region and its page are broken and its line needs a spill word
abbrev decided : Bool → Bool → Bool → Level
decided false page spill = L.Root
decided true false spill = L.Mid
decided true true true = L.Spill
decided true true false = L.Leaf

decided-by : (r p a b c : Bool) (line : Level) → not r ≡ a → not p ≡ b → decided true true c ≡ line →
    (if r then L.Root else if p then L.Mid else line) ≡ decided a b c
decided-by x p a b c line f g h = grind arith

level-by : (kind : Kind) → IsTrieKind kind → (m : List Perm) (i : ℕ) (region page crowded : Bool) →
    is_broken region_words m (i / 1048576) ≡ region →
    is_broken page_words m (i / 1024) ≡ page → needs_spill kind (line_at m (i / 16 * 16)) ≡ crowded →
    level kind m i ≡ decided region page crowded
level-by K.Segments k m i region page crowded f g h = absurd (grind arith)
level-by K.Multilevel k m i region page crowded f g h = decided-by _ _ region page crowded L.Leaf f g (grind arith)
level-by K.Packed k m i region page crowded f g h =
    (let same : i / 16 * 16 / 16 ≡ i / 16 = omega arith in let now = rw same at h in decided-by _ _ region page crowded _ f g (grind arith))

-- the walk's four ends
module _ (kind : Kind) (k : IsTrieKind kind) (upper leaf spill : Frames) (words root : ℕ)
    (read : IsRead kind words upper leaf spill root) (i : ℕ) (inside : i < words) where
  module _ (a : ℕ) (e : a ≡ root_word upper root (i / 1048576)) where
    pub end-root : a % 4 ≢ 0 → IsFound kind (read_map kind upper leaf spill words root) i (F.Root a)
    end-root miss = let r = way-region kind upper leaf spill words root read i (omega arith) a e in (
      level-by kind k _ i false _ _ (search (arith, r.broken, is-closed)) refl refl,
      search
          (arith, even-of, r.broken, is-closed, r.vector_is),
    )

    module _ (hit : a % 4 ≡ 0) (b : ℕ) (f : b ≡ word_at upper (a / 4) (i / 1024 % 1024)) where
      pub end-mid : b % 4 ≢ 0 → IsFound kind (read_map kind upper leaf spill words root) i (F.Mid b)
      end-mid miss =
          let r = way-region kind upper leaf spill words root read i (omega arith) a e in
          let p = way-page kind upper leaf spill words root read i (omega arith) a e hit b f in (
            level-by kind k _ i true false _ (search (arith, r.broken, is-open)) (search (arith, p.broken, is-closed)) refl,
            search
                (arith, even-of, p.broken, is-closed, p.vector_is),
          )

      module _ (also : b % 4 ≡ 0) (l : ℕ) (h : l ≡ word_at leaf (b / 4) (i / 16 % 64)) where
        leaf-of : (level kind (read_map kind upper leaf spill words root) i ≡ decided true true (is_some (spill_number kind l)))
            × IsLeaf kind (is_some (spill_number kind l))
            (read_map kind upper leaf spill words root) i l (spilled_word kind spill l)
        leaf-of =
            let r = way-region kind upper leaf spill words root read i (omega arith) a e in
            let p = way-page kind upper leaf spill words root read i (omega arith) a e hit b f in
            let line = way-line kind upper leaf spill words root read i (omega arith) a e hit b f also l h in
            let long = length-read_map kind upper leaf spill words [] root in
            let m : List Perm = read_map kind upper leaf spill words root in
            let needs = sym (some-named _ (spill_number kind l) (line_number kind l) (line-named kind k spill m (i / 16) l line)) in (
              level-by kind k _ i true true _ (search (arith, r.broken, is-open)) (search (arith, p.broken, is-open)) needs,
              record {
                crowded_is = needs;
                left = map_left kind m (i / 16);
                right = map_right kind m (i / 16);
                number = line_number kind l;
                left_is = search (arith, lt-ltb);
                right_is = search (arith, lt-ltb);
                stored = line-stored kind k spill m (i / 16) l (omega arith) (omega arith) line;
              },
            )

        pub end-leaf : spill_number kind l ≡ None →
            IsFound kind (read_map kind upper leaf spill words root) i (F.Leaf l)
        end-leaf none = rw none at leaf-of

        pub end-spill : (n s : ℕ) → spill_number kind l ≡ Some n → s ≡ word_at spill n 0 →
            IsFound kind (read_map kind upper leaf spill words root) i (F.Spill l s)
        end-spill n s some is = rw (some, ← is) at leaf-of
