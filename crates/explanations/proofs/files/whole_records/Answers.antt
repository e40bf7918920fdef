use Rattle.std.proofs.Common.{[], ◌∷◌, ◌++◌, refl, arith, length-append}
use Rattle.stream_files.specs.Ivf.{first_packet}
use Rattle.stream_files.proofs.Walks.{after_first-shorter, records_more}
use Rattle.explanations.proofs.files.whole_records.Goals as goal

pub loop-following-preserved : goal.loop-following-preserved
loop-following-preserved c =
    let met = c.loop-following.invariant in
    let packet = first_packet c.loop-following.rest.now in record {
      packets = met.packets ++ packet ∷ [];
      so_far = records_more _ met.packets _ packet _ met.so_far c.in-Some.ensures.whole refl c.in-Some.ensures.following;
      counted = omega (arith, length-append met.packets (packet ∷ []), met.counted);
      few = rw c.in-Some.ensures.following (omega (arith, after_first-shorter c.loop-following.rest.now c.in-Some.ensures.whole, met.few));
    }
