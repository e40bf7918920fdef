use Rattle.std.proofs.Common.{ℕ, List, ◌+◌, ◌*◌, ◌++◌, refl, ap, arith}
use Rattle.loop_filter.specs.Lanes.{wide_vectors, row_of, eight_from, rows_put}
use Rattle.loop_filter.proofs.Loaded.{two_more}
use Rattle.loop_filter.proofs.columns_inner.store_block.Goals as goal

pub returns : goal.returns
unfolding rows_put
returns c =
    let s = c.args.samples.now in
    let start = c.args.start in
    let stride = c.args.stride in
    let row : ℕ → List ℕ = λ (i : ℕ). row_of i (wide_vectors c.args.halves) ++ row_of (16 + i) (wide_vectors c.args.halves) in
    let e2 = two_more s start stride row 0 start c.transposed.result.0 s c.store_two.new.samples (omega arith) refl (ap (λ l. eight_from 0 l ++ eight_from 16 l) c.transposed.ensures.v0) (ap (λ l. eight_from 8 l ++ eight_from 24 l) c.transposed.ensures.v0) c.store_two.ensures in
    let e4 = two_more s start stride row 2 (start + 2 * stride) c.transposed.result.1 c.store_two.new.samples c.store_two-2.new.samples refl e2 (ap (λ l. eight_from 0 l ++ eight_from 16 l) c.transposed.ensures.v1) (ap (λ l. eight_from 8 l ++ eight_from 24 l) c.transposed.ensures.v1) c.store_two-2.ensures in
    let e6 = two_more s start stride row 4 (start + 4 * stride) c.transposed.result.2 c.store_two-2.new.samples c.store_two-3.new.samples refl e4 (ap (λ l. eight_from 0 l ++ eight_from 16 l) c.transposed.ensures.v2) (ap (λ l. eight_from 8 l ++ eight_from 24 l) c.transposed.ensures.v2) c.store_two-3.ensures in
    let e8 = two_more s start stride row 6 (start + 6 * stride) c.transposed.result.3 c.store_two-3.new.samples c.store_two-4.new.samples refl e6 (ap (λ l. eight_from 0 l ++ eight_from 16 l) c.transposed.ensures.v3) (ap (λ l. eight_from 8 l ++ eight_from 24 l) c.transposed.ensures.v3) c.store_two-4.ensures in
    let e10 = two_more s start stride row 8 (start + 8 * stride) c.transposed.result.4 c.store_two-4.new.samples c.store_two-5.new.samples refl e8 (ap (λ l. eight_from 0 l ++ eight_from 16 l) c.transposed.ensures.v4) (ap (λ l. eight_from 8 l ++ eight_from 24 l) c.transposed.ensures.v4) c.store_two-5.ensures in
    let e12 = two_more s start stride row 10 (start + 10 * stride) c.transposed.result.5 c.store_two-5.new.samples c.store_two-6.new.samples refl e10 (ap (λ l. eight_from 0 l ++ eight_from 16 l) c.transposed.ensures.v5) (ap (λ l. eight_from 8 l ++ eight_from 24 l) c.transposed.ensures.v5) c.store_two-6.ensures in
    let e14 = two_more s start stride row 12 (start + 12 * stride) c.transposed.result.6 c.store_two-6.new.samples c.store_two-7.new.samples refl e12 (ap (λ l. eight_from 0 l ++ eight_from 16 l) c.transposed.ensures.v6) (ap (λ l. eight_from 8 l ++ eight_from 24 l) c.transposed.ensures.v6) c.store_two-7.ensures in
    two_more s start stride row 14 (start + 14 * stride) c.transposed.result.7 c.store_two-7.new.samples c.store_two-8.new.samples refl e14 (ap (λ l. eight_from 0 l ++ eight_from 16 l) c.transposed.ensures.v7) (ap (λ l. eight_from 8 l ++ eight_from 24 l) c.transposed.ensures.v7) c.store_two-8.ensures
