-- What the code keeps of what is asked, and of the files that it reads.
use Rattle.std.specs.Prelude.{option_copied}
use Rattle.mx_commands.specs.Order.{Order, Pair}
use Rattle.mx_commands.specs.Next.{Wanted}
use Rattle.mx_commands.specs.declared.wanted.Wanted as files
use Rattle.mx_commands.specs.declared.order.Order as orders
use Rattle.mx_commands.specs.declared.order.Pair as pairs

-- the order of a run
abbrev pub order_of : orders.Order → Order
order_of o = record {
  way = o.way;
  file = o.file.now;
  steps = o.steps.count;
  schedule = option_copied o.schedule;
  shown = o.shown;
}

-- the pair of a comparison
abbrev pub pair_asked : pairs.Pair → Pair
pair_asked p = record {
  first = p.first.now;
  second = p.second.now;
  domain = p.domain;
  steps = p.steps.count;
}

-- the file that is to be read
abbrev pub wanted_of : files.Wanted → Wanted
wanted_of file = record {
  role = file.role;
  name = file.name.now;
  most = file.most;
  large = file.large;
}
