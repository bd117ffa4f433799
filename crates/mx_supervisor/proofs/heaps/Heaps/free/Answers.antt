use Rattle.std.proofs.Common.{◌-◌, arith}
use Rattle.mx_words.specs.FirstFit.{without_block}
use Rattle.mx_supervisor.proofs.Slots.{slots-written}
use Rattle.mx_supervisor.proofs.heaps.Heaps.free.Goals as goal

pub returns : goal.returns
returns c = slots-written c.self.inside.slots.items _ (c.args.domain - 1) c.free_in.new.slot c.index-as_mut_slice-domain.result
    c.args.self.now (without_block c.args.first)
    c.self.view_is c.as_mut_slice.ensures.value (omega (arith, c.requires.domain, c.requires.there)) c.free_in.ensures
