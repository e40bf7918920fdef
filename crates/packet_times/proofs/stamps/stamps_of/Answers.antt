use Rattle.std.proofs.Common.{◌≡◌, ◌+◌, ℕ, List, map, take, length, ap, subst, sym, ◌∙◌, arith}
use Rattle.std.proofs.lemmas.List.{take_more}
use Rattle.std.specs.List.{range_with_len}
use Rattle.packet_times.specs.Clocks.{HasShown}
use Rattle.packet_times.specs.Sums.{stamp_at}
use Rattle.packet_times.specs.declared.durations.Duration.{Duration}
use Rattle.packet_times.proofs.Counted.{stamps_more}
use Rattle.packet_times.proofs.stamps.stamps_of.Goals as goal

pub loop-duration-preserved : goal.loop-duration-preserved
loop-duration-preserved c =
    let ds : List Duration = c.args.durations.now in
    let shown : HasShown c.args.head (take c.loop-duration.duration-index ds) c.loop-duration.clock = c.loop-duration.invariant.clock in
    record {
      clock = subst (λ (xs : List Duration). HasShown c.args.head xs c.show.new.self) (sym (take_more ds c.loop-duration.duration-index _ c.loop-duration-test.true)) (c.in_ok-show.ensures c.args.head (take c.loop-duration.duration-index ds) shown);
      stamps = stamps_more c.args.head ds c.loop-duration.duration-index c.loop-duration.stamps.items c.push.new.self.items c.stamp.result (omega arith) c.loop-duration.invariant.stamps (c.stamp.ensures ∙ shown.stamp) c.in_ok-push.ensures.items;
    }

pub returns : goal.returns
returns c =
    let ds : List Duration = c.args.durations.now in
    let i = c.loop-duration.duration-index in
    let end : i ≡ length ds = omega arith in
    let shown : HasShown c.args.head (take i ds) c.loop-duration.clock = c.loop-duration.invariant.clock in
    stamps_more c.args.head ds i c.loop-duration.stamps.items c.push-2.new.self.items c.stamp-2.result (omega arith) c.loop-duration.invariant.stamps (c.stamp-2.ensures ∙ shown.stamp) c.in_ok-push-2.ensures.items
    ∙ ap (λ (n : ℕ). map (stamp_at c.args.head ds) (range_with_len 0 (n + 1))) end
