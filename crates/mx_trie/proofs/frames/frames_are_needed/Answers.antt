use Rattle.std.proofs.Common.{arith}
use Rattle.mx_pool.proofs.FrameCounts.{taken-and-free}
use Rattle.mx_trie.proofs.StandingNeeds.{frames-counted}
use Rattle.mx_trie.proofs.frames.frames_are_needed.Goals as goal

pub returns : goal.returns
returns g c = search (arith, taken-and-free, frames-counted, g.met.L.LeafForm.trie)
