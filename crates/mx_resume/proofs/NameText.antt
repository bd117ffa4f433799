-- Names are text.
use Rattle.std.proofs.Common.{◌≡◌, ℕ, zero, suc, ◌<◌, true, List, [], ◌∷◌, get_or, arith}
use Rattle.std.specs.List.{list_all}
use Rattle.std.specs.Str.{IsUtf8}
use Rattle.std.proofs.lemmas.Bool.{and_parts}
use Rattle.std.proofs.lemmas.Bool.Decides.{nat_tests}
use Rattle.std.proofs.lemmas.Str.{IsUtf8-from_ascii}
use Rattle.mx_manifest.specs.Forms.{is_name_byte}

small_byte : (b : ℕ) → is_name_byte b ≡ true → b < 128
small_byte b e = grind (arith, nat_tests)

ascii_name : (bs : List ℕ) → list_all is_name_byte bs ≡ true → (i : ℕ) → get_or bs i 0 < 128
ascii_name [] e i = omega arith
ascii_name (b ∷ bs) e zero = small_byte b (and_parts (is_name_byte b) (list_all is_name_byte bs) e).0
ascii_name (b ∷ bs) e (suc i) = ascii_name bs (and_parts (is_name_byte b) (list_all is_name_byte bs) e).1 i

pub name_is_text : (bs : List ℕ) → list_all is_name_byte bs ≡ true → IsUtf8 bs
name_is_text bs e = IsUtf8-from_ascii bs (ascii_name bs e)
