use Rattle.std.proofs.Common.{[], ◌∷◌, ◌++◌, refl, arith, length-append}
use Rattle.stream_files.specs.Ivf.{first_packet, after_first}
use Rattle.stream_files.proofs.Walks.{records_more, after_size}
use Rattle.stream_files.proofs.records.count_records.Goals as goal

pub returns-then-count-eq-MAX_PACKETS-clause-none : goal.returns-then-count-eq-MAX_PACKETS-clause-none
returns-then-count-eq-MAX_PACKETS-clause-none c =
    let met = c.loop-record.invariant in
    let packet = first_packet c.loop-record.rest.now in (
      met.packets ++ packet ∷ [],
      after_first c.loop-record.rest.now,
      records_more _ met.packets _ packet _ met.so_far c.in-Some.ensures.whole refl refl,
      omega (arith, length-append met.packets (packet ∷ []), met.counted),
    )

pub loop-record-preserved : goal.loop-record-preserved
loop-record-preserved c =
    let met = c.loop-record.invariant in
    let packet = first_packet c.loop-record.rest.now in record {
      packets = met.packets ++ packet ∷ [];
      so_far = records_more _ met.packets _ packet _ met.so_far c.in-Some.ensures.whole refl (after_size _ _ c.in-Some.ensures.size);
      counted = omega (arith, length-append met.packets (packet ∷ []), met.counted);
      few = omega arith;
    }
