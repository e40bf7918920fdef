use Rattle.std.proofs.Common.{◌<◌, length, arith, refl, length-set}
use Rattle.mode_parser.proofs.Steps.{first_inter_sub_modes-none, first_inter_sub_modes-more}
use Rattle.mode_parser.proofs.inter_modes.read_sub_modes.Goals as goal

pub loop-n-init : goal.loop-n-init
loop-n-init c = record { same = rw c.copied-local.ensures (first_inter_sub_modes-none _); room = refl }

pub loop-n-preserved : goal.loop-n-preserved
loop-n-preserved c =
    let below : c.loop-n.n < length c.loop-n.modes = omega (arith, c.loop-n.invariant.room) in
    record {
      same = first_inter_sub_modes-more _ _ _ _ _ _ below c.loop-n.invariant.same c.read_sub_mode.ensures;
      room = rw length-set c.loop-n.invariant.room;
    }
