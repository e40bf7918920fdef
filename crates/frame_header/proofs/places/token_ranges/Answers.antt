use Rattle.std.proofs.Common.{◌≡◌, ◌+◌, ◌-◌, ◌*◌, ◌<◌, ◌≤◌, length, sym, arith}
use Rattle.frame_header.specs.Tags.{number_at}
use Rattle.frame_header.proofs.PlaceLemmas.{token_ranges-short, token_ranges-past, token_ranges-all, ArePlaced-more}
use Rattle.frame_header.proofs.places.token_ranges.Goals as goal

pub returns-then-packet-at-clause-value : goal.returns-then-packet-at-clause-value
returns-then-packet-at-clause-value c = sym (token_ranges-short _ _ _ (omega arith))

pub returns-then-length-packet-clause-value : goal.returns-then-length-packet-clause-value
returns-then-length-packet-clause-value c =
    let past : length c.args.packet.now < c.loop-k.start + number_at c.args.packet.now (c.args.at + 3 * c.loop-k.k) = rw (← c.number_at-length.ensures.value) (omega arith) in
    sym (token_ranges-past _ _ _ _ _ _ (omega arith) c.loop-k.invariant c.loop-k-test.true past)

pub loop-k-preserved : goal.loop-k-preserved
loop-k-preserved c =
    let fits : c.loop-k.start + number_at c.args.packet.now (c.args.at + 3 * c.loop-k.k) ≤ length c.args.packet.now = rw (← c.number_at-length.ensures.value) (omega arith) in
    rw (c.push.ensures.items, c.number_at-length.ensures.value) (ArePlaced-more _ _ _ _ _ _ c.loop-k.invariant c.loop-k-test.true fits)

pub returns-clause-value : goal.returns-clause-value
returns-clause-value c =
    let all : c.loop-k.k ≡ c.args.count - 1 = omega arith in
    let placed = rw all at c.loop-k.invariant in
    rw (c.push-2.ensures.items) (sym (token_ranges-all _ _ _ _ _ (omega arith) placed))
