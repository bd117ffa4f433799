use Rattle.std.proofs.Common.{◌≡◌, ◌-◌, ◌<◌, ◌≤◌, flat_map, length}
use Rattle.std.specs.List.{range_with_len}
use Rattle.mx_words.specs.Reach.{stored}
use Rattle.mx_model.specs.Reads.{map_in}
use Rattle.mx_report.specs.Texts.{item_text, shown_lines}
use Rattle.mx_tail.proofs.PassLaws.{Coming}
use Rattle.mx_report.proofs.tables.put_domain_items.Given as goal

-- an item begins at the word
abbrev pub invariant-items : goal.invariant-items
invariant-items g l =
    let f = l.machine in
    let m = map_in f.core.size f.maps l.domain in
    record {
      within : l.word ≤ f.core.size;
      begins : l.word < length m → (stored f.core.kind m l.word).first ≡ l.word;
      coming : Coming l.initial.tail (g.R.Sink.state l.initial.sink) (shown_lines l.domain f.core.kind m) l.tail (g.R.Sink.state l.sink)
          (flat_map (item_text l.domain f.core.kind m) (range_with_len l.word (length m - l.word)));
    }

abbrev pub decreases-items : goal.decreases-items
decreases-items g l = l.machine.core.size - l.word
