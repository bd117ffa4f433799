-- What is asked is a run.
use Rattle.std.proofs.Common.{◌≡◌, ℕ, Bool, true, false, ◌&&◌, List, [], ◌∷◌, codes, fold, Some, None, if◌then◌else◌, sym, ap}
use Rattle.std.specs.Str.{bytes_eq}
use Rattle.std.specs.Str.Parse.{digits_value}
use Rattle.mx_commands.specs.declared.order.Way.TheVariants as way
use Rattle.mx_commands.specs.Order.{Order, nothing, plain_order}
use Rattle.mx_run.specs.Words.{Parsed, LacksFrom, LacksSchedule, Meaningless, Stands, debug_meaning, is_name, is_number, order_in}
use Rattle.mx_run.specs.Words.{with_parsed, with_word}

parsed_way : (o q : Order) (p : Parsed) → with_parsed o p ≡ Some q → q.way ≡ o.way
parsed_way o q (Stands schedule shown) e = let same : record o { schedule = schedule; shown = shown } ≡ q = cc in
    ap (λ (r : Order). r.way) (sym same)
parsed_way o q (LacksSchedule shown) e = cc
parsed_way o q (LacksFrom schedule shown) e = cc
parsed_way o q Meaningless e = cc

if_way : (o q : Order) (b : Bool) (p : Parsed) → (if b then with_parsed o p else None) ≡ Some q → q.way ≡ o.way
if_way o q true p e = parsed_way o q p e
if_way o q false p e = cc

order_way : (o : Order) (operands : List (List ℕ)) → order_in None operands ≡ Some o → o.way ≡ way.Run
order_way o [] e = cc
order_way o (file ∷ []) e = cc
order_way o (file ∷ steps ∷ options) e = if_way (plain_order way.Run file (digits_value 10 steps)) o (is_name file && is_number steps)
    (fold (with_word None) (Stands None nothing) options) e

if_run : (b : Bool) (o : Order) (operands : List (List ℕ)) → (if b then order_in None operands else None) ≡ Some o → o.way ≡ way.Run
if_run true o operands e = order_way o operands e
if_run false o operands e = cc

pub asks_run : (words : List (List ℕ)) (o : Order) → debug_meaning words ≡ Some o → o.way ≡ way.Run
asks_run [] o e = cc
asks_run (command ∷ operands) o e = if_run (bytes_eq command (codes "debug")) o operands e
