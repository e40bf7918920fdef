use Rattle.std.proofs.Common.{subst, sym, arith}
use Rattle.webm_writing.specs.Fitting.{PartFits}
use Rattle.webm_writing.proofs.Filed.{part_at}
use Rattle.webm_writing.proofs.files.write_parts.Goals as goal

pub write_part-requires : goal.write_part-requires
write_part-requires g c = let fits = subst PartFits (sym c.part-item.is) (part_at c.loop-part.part-index c.args.parts.now _ c.requires c.loop-part-test.true) in omega (arith, fits.size)
