-- Parts that belong together, with the shape of all tables.
use Rattle.mx_table.specs.Tables.{IsShaped}
use Rattle.mx_supervisor.specs.Parts.{Parts, AreJoined, IsSound}

pub sound-joined : (p : Parts) → IsShaped p.kind p.size p.limit p.maps → AreJoined p → IsSound p
sound-joined p shaped joined = record {
  few_words = shaped.few_words;
  few_maps = shaped.few_maps;
  maps = shaped.each;
  ram = joined.ram;
  owners = joined.owners;
  heaps = joined.heaps;
  areas = joined.areas;
}

pub joined-sound : (p : Parts) → IsSound p → AreJoined p
joined-sound p sound = record { ram = sound.ram; owners = sound.owners; heaps = sound.heaps; areas = sound.areas }
