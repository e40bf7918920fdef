use Rattle.std.proofs.Common.{ap, arith, refl, length, ◌∙◌}
use Rattle.mode_parser.proofs.Steps.{first_modes-none, first_modes-more, one_more-length}
use Rattle.mode_parser.proofs.PlaceLemmas.{place-start}
use Rattle.mode_parser.proofs.FactLemmas.{facts-more}
use Rattle.mode_parser.proofs.record_facts.read_records.Goals as goal

pub loop-number-init : goal.loop-number-init
loop-number-init c = record {
  same = rw (c.in_ok-records.ensures, c.copied-reader.ensures) (first_modes-none _ _ _ _ _ _);
  count = ap length c.in_ok-records.ensures;
  at = place-start _ _ c.requires.wide.0;
  facts = c.in_ok-facts.ensures.items;
}

pub loop-number-preserved : goal.loop-number-preserved
loop-number-preserved c =
    let at = c.loop-number.invariant.at in
    let more = rw at at c.in_ok-push_mode.ensures in
    let following = rw at at c.next_place-place.ensures in
    let longer = one_more-length c.args.tables.now c.args.header.now _ _ _ _ _ _ _ more in
    let same = first_modes-more _ _ _ _ _ _ _ _ _ _ _ c.loop-number.invariant.count c.loop-number.invariant.same more in
    let split = rw at at c.next_split-split.ensures in
    let bits = rw (c.left-left.ensures, c.left.ensures) at c.saturating_sub-bits.ensures in
    record {
      same = same;
      count = omega (arith, longer, c.loop-number.invariant.count);
      at = following _ refl;
      facts = c.in_ok-push.ensures.items ∙ facts-more _ _ _ _ _ _ _ _ _ _ _ _ _ c.loop-number.invariant.same same c.loop-number.invariant.count bits split c.loop-number.invariant.facts;
    }
