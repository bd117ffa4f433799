-- Worked examples of the definitions: small manifests, with what the written rule says of each.
use Rattle.std.proofs.Common.{◌≡◌, ℕ, pos, true, List, [], ◌∷◌, codes, Option, Some, None, refl, map}
use Rattle.toml.specs.Data.{Data, string, integer, boolean, array, table, Items, no_items, item, Members, no_members, member}
use Rattle.mx_manifest.specs.declared.fault.BootFault.{BootFault}
use Rattle.mx_manifest.specs.declared.fault.Key.{Key}
use Rattle.mx_manifest.specs.declared.fault.Key.TheVariants as key
use Rattle.mx_manifest.specs.declared.fault.Part.{Part}
use Rattle.mx_manifest.specs.declared.fault.Part.TheVariants as part
use Rattle.mx_manifest.specs.declared.parts.ModulePlan.{ModulePlan}
use Rattle.mx_words.specs.declared.perm.Perm.TheVariants as perms
use Rattle.mx_manifest.specs.Faults.{first_fault, table_fault, module_fault, each_fault}
use Rattle.mx_manifest.specs.Plan.{plan_of}

items : List Data → Items
items [] = no_items
items (d ∷ ds) = item d (items ds)

-- an inline module with more keys, a hart in a module, and a gate for a module
abbrev inline : List ℕ → Members → Data
inline name more =
    table (member (codes "name") (string name) (member (codes "at") (integer (pos 2147483648)) (member (codes "perm") (string (codes "rx"))
    (member (codes "words") (array (item (integer (pos 19)) no_items)) more))))

abbrev home : List ℕ → Data
home name = table (member (codes "module") (string name) no_members)

abbrev gate : List ℕ → Members
gate name =
    member (codes "gates") (array (item (table (member (codes "entry") (integer (pos 0))
    (member (codes "from") (array (item (string name) no_items)) no_members))) no_items)) no_members

-- a manifest of a version with more keys, modules and harts
abbrev manifest : ℕ → Members → Items → Items → Data
manifest version more modules harts =
    table (member (codes "version") (integer (pos version)) (member (codes "ram_kib") (integer (pos 64))
    (member (codes "module") (array modules) (member (codes "hart") (array harts) more))))

abbrev one : Data → Items
one d = item d no_items

abbrev fault : ℕ → Part → ℕ → Key → Option BootFault
fault number part index key = Some (record { number = number; place = record { part = part; index = index; key = key }; detail = 0 })

abbrev small : Data
small = manifest 1 no_members (one (inline (codes "m") no_members)) (one (home (codes "m")))

accepted : first_fault small ≡ None
unfolding table_fault module_fault each_fault
accepted = refl

defaults : map (λ p. (p.upper ∷ p.leaf ∷ p.spill ∷ p.lookaside ∷ p.quantum ∷ [])) (plan_of small ∷ []) ≡ (128 ∷ 4096 ∷ 4096 ∷ 32 ∷ 1 ∷ [])
    ∷ []
defaults = refl

domains_from_one : map (λ h. h.module) (plan_of small).harts ≡ 1 ∷ []
domains_from_one = refl

unknown_version : first_fault (manifest 3 no_members (one (inline (codes "m") no_members)) (one (home (codes "m"))))
    ≡ fault 5 part.Manifest 0 key.Version
unfolding table_fault module_fault each_fault
unknown_version = refl

-- a key that isn't listed comes before a version that is out of range
unlisted_first : first_fault (manifest 3 (member (codes "color") (integer (pos 1)) no_members) (one (inline (codes "m") no_members))
    (one (home (codes "m")))) ≡ fault 2 part.Manifest 0 key.NoKey
unfolding table_fault module_fault each_fault
unlisted_first = refl

seal_in_version_one : first_fault (manifest 1 no_members (one (inline (codes "m") (member (codes "seal") (boolean true) no_members)))
    (one (home (codes "m")))) ≡ fault 2 part.Module 1 key.NoKey
unfolding table_fault module_fault each_fault
seal_in_version_one = refl

seal_in_version_two : first_fault (manifest 2 no_members (one (inline (codes "m") (member (codes "seal") (boolean true) no_members)))
    (one (home (codes "m")))) ≡ None
unfolding table_fault module_fault each_fault
seal_in_version_two = refl

wx_of_inline_words : first_fault (manifest 1 no_members (one (inline (codes "m") (member (codes "wx") (string (codes "rw")) no_members)))
    (one (home (codes "m")))) ≡ fault 6 part.Module 1 key.Wx
unfolding table_fault module_fault each_fault
wx_of_inline_words = refl

equal_names : first_fault (manifest 1 no_members (item (inline (codes "m") no_members) (one (inline (codes "m") no_members)))
    (one (home (codes "m")))) ≡ fault 7 part.Module 2 key.Name
unfolding table_fault module_fault each_fault
equal_names = refl

gate_from_itself : first_fault (manifest 1 no_members (one (inline (codes "m") (gate (codes "m")))) (one (home (codes "m"))))
    ≡ fault 8 part.Module 1 key.Gates
unfolding table_fault module_fault each_fault
gate_from_itself = refl

-- names of modules are tested before names in gates
gate_before_names : first_fault (manifest 1 no_members (item (inline (codes "m") (gate (codes "x"))) (one (inline (codes "m") no_members)))
    (one (home (codes "m")))) ≡ fault 7 part.Module 2 key.Name
unfolding table_fault module_fault each_fault
gate_before_names = refl

hart_without_module : first_fault (manifest 1 no_members (one (inline (codes "m") no_members)) (one (home (codes "n"))))
    ≡ fault 8 part.Hart 1 key.Module
unfolding table_fault module_fault each_fault
hart_without_module = refl

-- an input: its keys stand together, in version 2 alone
abbrev input : Members → Members
input more = member (codes "input") (string (codes "i.bin")) (member (codes "input_at") (integer (pos 2147483712)) more)

abbrev words : ℕ → Members → Members
words n more = member (codes "input_words") (integer (pos n)) more

abbrev reading : ℕ → Members → Data
reading version more = manifest version no_members (one (inline (codes "m") more)) (one (home (codes "m")))

input_in_version_one : first_fault (reading 1 (input (words 4 no_members))) ≡ fault 2 part.Module 1 key.NoKey
unfolding table_fault module_fault each_fault
input_in_version_one = refl

input_in_version_two : first_fault (reading 2 (input (words 4 no_members))) ≡ None
unfolding table_fault module_fault each_fault
input_in_version_two = refl

input_by_default_read : map (λ (m : ModulePlan). m.input) (plan_of (reading 2 (input (words 4 no_members)))).modules
    ≡ Some (record { file = codes "i.bin"; address = 2147483712; words = 4; perm = perms.Read }) ∷ []
input_by_default_read = refl

input_without_words : first_fault (reading 2 (input no_members)) ≡ fault 3 part.Module 1 key.InputWords
unfolding table_fault module_fault each_fault
input_without_words = refl

-- a right alone asks for all three, of which the first is told
right_alone : first_fault (reading 2 (member (codes "input_perm") (string (codes "rw")) no_members)) ≡ fault 3 part.Module 1 key.Input
unfolding table_fault module_fault each_fault
right_alone = refl

words_alone : first_fault (reading 2 (words 4 no_members)) ≡ fault 3 part.Module 1 key.Input
unfolding table_fault module_fault each_fault
words_alone = refl

input_that_executes : first_fault (reading 2 (input (words 4 (member (codes "input_perm") (string (codes "rx")) no_members))))
    ≡ fault 5 part.Module 1 key.InputPerm
unfolding table_fault module_fault each_fault
input_that_executes = refl

input_of_no_words : first_fault (reading 2 (input (words 0 no_members))) ≡ fault 5 part.Module 1 key.InputWords
unfolding table_fault module_fault each_fault
input_of_no_words = refl

input_of_most_words : first_fault (reading 2 (input (words 16777216 no_members))) ≡ None
unfolding table_fault module_fault each_fault
input_of_most_words = refl

input_of_more_words : first_fault (reading 2 (input (words 16777217 no_members))) ≡ fault 5 part.Module 1 key.InputWords
unfolding table_fault module_fault each_fault
input_of_more_words = refl
