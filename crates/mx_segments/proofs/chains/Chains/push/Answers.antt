use Rattle.std.proofs.Common.{ℕ, ◌≡◌, ◌<◌, ◌++◌, [], ◌∷◌, List, length, set, vec_items, map, ap, ◌∙◌, arith}
use Rattle.std.proofs.lemmas.List.{map-set, length-map}
use Rattle.mx_segments.specs.Lists.{Chained, list_at}
use Rattle.mx_segments.proofs.ListLaws.{item_list}
use Rattle.mx_segments.proofs.chains.Chains.push.Goals as goal

pub returns-clause-lists : goal.returns-clause-lists
returns-clause-lists c =
    let vs = c.self.inside.lists.items in
    let view : map vec_items vs ≡ c.args.self.now.lists = ap (λ (x : Chained). x.lists) c.self.view_is in
    let within : c.args.row < length vs = omega (arith, length-map vs vec_items, ap length view) in
    let here : vec_items c.index_mut.result.now ≡ list_at c.args.self.now.lists c.args.row =
    item_list vs c.args.row c.index_mut.result.now within c.index_mut.ensures.value
    ∙ ap (λ (ls : List (List ℕ)). list_at ls c.args.row) view in
    map-set vec_items vs c.args.row c.append.new.list
    ∙ ap (λ (ls : List (List ℕ)). set ls c.args.row (vec_items c.append.new.list)) view
    ∙ ap (set c.args.self.now.lists c.args.row) (c.append.ensures.items ∙ ap (λ (l : List ℕ). l ++ c.args.frame ∷ []) here)
