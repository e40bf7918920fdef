use Rattle.std.proofs.Common.{◌<◌, ◌+◌, ◌*◌, ◌^◌, length}
use Rattle.bool_coder.specs.Low.{number_of}
use Rattle.bool_coder.proofs.LowNumbers.{Carries-inside, Carries-more, Carries-end}
use Rattle.bool_coder.proofs.encoder.add_one.Goals as goal

pub loop-bytes-preserved : goal.loop-bytes-preserved
loop-bytes-preserved c =
    let room : number_of c.args.bytes.now + 1 < 2 ^ (8 * length c.loop-bytes.bytes) = rw c.loop-bytes.auto.bytes c.requires in
    Carries-more _ _ _ c.loop-bytes.invariant (Carries-inside _ _ _ c.loop-bytes.invariant room) c.loop-bytes-test.true

pub returns : goal.returns
returns c =
    let room : number_of c.args.bytes.now + 1 < 2 ^ (8 * length c.loop-bytes.bytes) = rw c.loop-bytes.auto.bytes c.requires in
    Carries-end _ _ _ c.loop-bytes.invariant (Carries-inside _ _ _ c.loop-bytes.invariant room)
