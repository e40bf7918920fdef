use Rattle.std.proofs.Common.{◌≡◌, ◌<◌, ◌-◌, ◌^◌}
use Rattle.bool_coder.specs.Reading.{more_bits, literal}
use Rattle.bool_coder.proofs.decoder.Decoder.literal.Given as goal

abbrev pub invariant-loop-i : goal.invariant-loop-i
invariant-loop-i l = (more_bits (l.count - l._i) l.value l.self ≡ literal l.count l.fn.self) × (l.value < 2 ^ l._i)
