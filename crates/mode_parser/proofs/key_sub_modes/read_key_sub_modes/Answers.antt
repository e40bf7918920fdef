use Rattle.std.proofs.Common.{◌≡◌, ◌<◌, length, arith, ◌∙◌, refl}
use Rattle.std.proofs.Math.Seq.{take-length}
use Rattle.std.proofs.Common.{length-set}
use Rattle.mode_parser.proofs.Steps.{first_sub_modes-none, first_sub_modes-more}
use Rattle.mode_parser.proofs.key_sub_modes.read_key_sub_modes.Goals as goal

pub loop-n-init : goal.loop-n-init
loop-n-init c = record { same = first_sub_modes-none _ _ _ _; room = refl }

pub loop-n-preserved : goal.loop-n-preserved
loop-n-preserved c =
    let below : c.loop-n.n < length c.loop-n.modes = omega (arith, c.loop-n.invariant.room) in
    record {
      same = first_sub_modes-more _ _ _ _ _ _ _ _ _ below c.loop-n.invariant.same (rw (← c.mode_above-over.ensures, ← c.mode_left-neighbour.ensures) c.read_key_sub_mode.ensures);
      room = rw length-set c.loop-n.invariant.room;
    }

pub returns : goal.returns
returns c =
    let all : c.loop-n.n ≡ length c.loop-n.modes = omega (arith, c.loop-n.invariant.room) in
    let sixteen : 16 ≡ c.loop-n.n = omega arith in
    rw sixteen (c.loop-n.invariant.same ∙ rw (all, take-length) refl)
