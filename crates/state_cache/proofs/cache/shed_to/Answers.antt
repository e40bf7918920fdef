use Rattle.std.proofs.Common.{◌≡◌, ℕ, ◌+◌, ◌<◌, ◌≤◌, ◌∙◌, arith, rules, length, refl, ap}
use Rattle.state_cache.specs.Bytes.{cached_bytes}
use Rattle.state_cache.proofs.Shed.{newest_stays, others_less, shed_more, shed_none, single_bytes}
use Rattle.state_cache.proofs.cache.shed_to.Goals as goal
use Rattle.state_cache.proofs.cache.shed_to.Goals.{then-loop-savings-test+else-is_over, else-loop-savings-test}

pub loop-savings-init : goal.loop-savings-init
loop-savings-init c = record {
  shed = shed_none c.args.newest.key c.args.kept.now.entries c.args.kept.now.entries refl;
  counted = c.requires.counted;
  fits = λ low. refl;
  savings = refl;
}

pub overflow_sub-others : goal.overflow_sub-others
overflow_sub-others c =
    let k = c.args.newest.key in
    let inv = c.loop-savings.invariant in
    others_less k c.args.newest.bytes c.loop-savings.others c.bytes_in-others.result c.loop-savings.kept.entries c.drop_other-dropped.new.kept.entries c.drop_other-dropped.ensures.shed
    (newest_stays k c.args.newest.bytes c.args.kept.now.entries c.loop-savings.kept.entries inv.shed c.requires.newest) inv.counted
    (ap (λ (n : ℕ). cached_bytes c.drop_other-dropped.new.kept.entries + n) c.bytes_in-others.ensures.value ∙ c.drop_other-dropped.ensures.bytes)

pub loop-savings-preserved : goal.loop-savings-preserved
loop-savings-preserved c =
    let k = c.args.newest.key in
    let inv = c.loop-savings.invariant in
    let left = c.drop_other-dropped.new.kept.entries in
    let counted = inv.counted in
    let sum = c.drop_other-dropped.ensures.bytes in
    let gone = c.bytes_in-others.ensures.value in
    let low : c.bytes_in-others.result ≤ c.loop-savings.others =
    others_less k c.args.newest.bytes c.loop-savings.others c.bytes_in-others.result c.loop-savings.kept.entries left c.drop_other-dropped.ensures.shed
    (newest_stays k c.args.newest.bytes c.args.kept.now.entries c.loop-savings.kept.entries inv.shed c.requires.newest) inv.counted
    (ap (λ (n : ℕ). cached_bytes left + n) c.bytes_in-others.ensures.value ∙ sum) in
    let over = c.is_over.ensures.0 c.if-is_over.true in
    record {
      shed = shed_more k c.args.kept.now.entries c.loop-savings.kept.entries left inv.shed c.drop_other-dropped.ensures.shed;
      counted = omega (arith, counted, sum, gone, low);
      fits = λ few. let same = ap cached_bytes (inv.fits few) in absurd (omega (arith, same, over, counted, few));
      savings = c.drop_other-dropped.ensures.savings ∙ inv.savings;
    }

pub overflow_add-result : goal.overflow_add-result
overflow_add-result c =
    let k = c.args.newest.key in
    let inv = c.loop-savings.invariant in
    let newest = newest_stays k c.args.newest.bytes c.args.kept.now.entries c.loop-savings.kept.entries inv.shed c.requires.newest in
    let counted = inv.counted in
    let is = newest.2 in
    elim c.loop-savings-test.branch [
      | then-loop-savings-test+else-is_over w ↦
          let fits = c.ranges.limit.fits in
          let not_over : (c.args.limit < c.loop-savings.others + c.args.newest.bytes) → ⊥ = λ h. let yes = w.is_over.ensures.1 h in let no = w.if-is_over.false in cc in
          omega (arith, not_over, fits)
      | else-loop-savings-test w ↦
          let few : length c.loop-savings.kept.entries ≤ 1 = search (rules, arith) in
          let all = single_bytes k c.loop-savings.kept.entries newest.0 few newest.1 in
          let none : c.loop-savings.others ≡ 0 = omega (arith, all, counted, is) in
          first_of (search (rules, arith), grind arith)
    ]
