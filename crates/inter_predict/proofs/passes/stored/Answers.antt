use Rattle.std.specs.Prelude.{slice_index}
use Rattle.std.proofs.Common.{◌≡◌, ℕ, ◌<◌, ◌+◌, ◌-◌, zero-add, length, ap, ◌∙◌, arith, rules}
use Rattle.inter_predict.proofs.StripRows.{no_rows, row_stored, row_there}
use Rattle.inter_predict.proofs.passes.stored.Goals as goal

pub line-requires : goal.line-requires
line-requires g c = (omega arith, (omega arith, c.requires.lines c.loop-row.row (omega arith)))

pub narrowed-requires : goal.narrowed-requires
narrowed-requires g c = (omega arith, (omega arith, c.line.ensures.bytes))

pub loop-row-init : goal.loop-row-init
loop-row-init g c = (no_rows _ c.args.strip.first g.S.Samples.width c.args.strip.stride c.args.out.now, λ narrow. no_rows _ c.args.strip.first (g.row.N - g.S.Samples.width) c.args.strip.stride c.args.other.now)

pub store-requires : goal.store-requires
store-requires g c = (
  omega arith,
  (
    omega arith,
    (
      omega (arith, row_there c.args.strip c.loop-row.row g.S.Samples.width (length c.args.out.now) c.loop-row-test.true c.requires.out, c.loop-row.invariant.0.whole),
      λ narrow. omega (arith, row_there c.args.strip c.loop-row.row (g.row.N - g.S.Samples.width) (length c.args.other.now) c.loop-row-test.true (c.requires.other narrow), (c.loop-row.invariant.1 narrow).whole),
    ),
  ),
)

pub loop-row-preserved : goal.loop-row-preserved
loop-row-preserved g c =
    let sample = g.L.Lines.sample c.args.lines in
    let width = g.S.Samples.width in
    let within = c.store.ensures.within in
    let long : length c.narrowed.result ≡ g.row.N = search rules in
    let value : (lane : ℕ) → lane < g.row.N → slice_index c.narrowed.result lane ≡ sample c.loop-row.row lane = λ lane less. ap (λ l. slice_index l lane) c.narrowed.ensures ∙ c.line.ensures.value lane less in
    let test = c.loop-row-test.true in (
      row_stored (λ column row. sample row column) c.args.strip.first width c.loop-row.row c.args.strip.stride 0 c.args.out.now c.loop-row.out c.store.new.out c.narrowed.result c.loop-row.invariant.0 c.requires.out.0 (row_there c.args.strip c.loop-row.row width _ test c.requires.out) (omega (arith, long, within)) c.store.ensures.out (λ column inside. let lane : 0 + column ≡ column = zero-add column in ap (slice_index c.narrowed.result) lane ∙ value column (omega (arith, within))),
      λ narrow. row_stored (λ column row. sample row (width + column)) c.args.strip.first (g.row.N - width) c.loop-row.row c.args.strip.stride width c.args.other.now c.loop-row.other c.store.new.other c.narrowed.result (c.loop-row.invariant.1 narrow) (c.requires.other narrow).0 (row_there c.args.strip c.loop-row.row (g.row.N - width) _ test (c.requires.other narrow)) (omega (arith, long, within)) (c.store.ensures.other narrow) (λ column inside. value (width + column) (omega (arith, within, inside))),
    )

pub returns-clause-out : goal.returns-clause-out
returns-clause-out g c =
    let all : c.loop-row.row ≡ c.args.strip.height = omega arith in
    rw all at c.loop-row.invariant.0

pub returns-clause-other : goal.returns-clause-other
returns-clause-other g c = λ narrow.
    let all : c.loop-row.row ≡ c.args.strip.height = omega arith in
    rw all at (c.loop-row.invariant.1 narrow)
