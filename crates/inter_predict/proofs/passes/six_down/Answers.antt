use Rattle.std.specs.Prelude.{slice_index}
use Rattle.std.proofs.Common.{◌≡◌, refl, ℕ, ◌<◌, ◌+◌, ◌-◌, zero-add, length, ap, ◌∙◌, arith, rules}
use Rattle.inter_predict.specs.Kernels.{tapped_from}
use Rattle.inter_predict.proofs.StripRows.{no_rows, row_stored, row_there}
use Rattle.inter_predict.proofs.Predicted.{strip_between}
use Rattle.inter_predict.proofs.TappedLanes.{next_lines, six_down}
use Rattle.inter_predict.proofs.passes.six_down.Goals as goal

pub line-a-requires : goal.line-a-requires
line-a-requires g c = (omega arith, (omega arith, c.requires.lines 0 (omega arith)))

pub line-b-requires : goal.line-b-requires
line-b-requires g c = (omega arith, (omega arith, c.requires.lines 1 (omega arith)))

pub line-c-requires : goal.line-c-requires
line-c-requires g c = (omega arith, (omega arith, c.requires.lines 2 (omega arith)))

pub line-d-requires : goal.line-d-requires
line-d-requires g c = (omega arith, (omega arith, c.requires.lines 3 (omega arith)))

pub line-e-requires : goal.line-e-requires
line-e-requires g c = (omega arith, (omega arith, c.requires.lines 4 (omega arith)))

pub line-f-requires : goal.line-f-requires
line-f-requires g c = (omega arith, (omega arith, c.requires.lines _ (omega arith)))

pub loop-row-init : goal.loop-row-init
loop-row-init g c = (
  record { first = c.line-a.ensures; second = c.line-b.ensures; third = c.line-c.ensures; fourth = c.line-d.ensures; fifth = c.line-e.ensures },
  no_rows _ c.args.strip.first g.S.Samples.width c.args.strip.stride c.args.out.now,
  λ narrow. no_rows _ c.args.strip.first (g.row.N - g.S.Samples.width) c.args.strip.stride c.args.other.now,
)

pub weighed-samples-requires : goal.weighed-samples-requires
weighed-samples-requires g c =
    let lines = c.loop-row.invariant.0 in
    (omega arith, (c.requires.small, (lines.first.bytes, lines.second.bytes, lines.third.bytes, lines.fourth.bytes, lines.fifth.bytes, c.line-f.ensures.bytes)))

pub narrowed-requires : goal.narrowed-requires
narrowed-requires g c = (omega arith, (omega arith, λ lane less. rw (c.weighed-samples.ensures lane less) (omega arith)))

pub store-requires : goal.store-requires
store-requires g c = (
  omega arith,
  (
    omega arith,
    (
      omega (arith, row_there c.args.strip c.loop-row.row g.S.Samples.width (length c.args.out.now) c.loop-row-test.true c.requires.out, c.loop-row.invariant.1.whole),
      λ narrow. omega (arith, row_there c.args.strip c.loop-row.row (g.row.N - g.S.Samples.width) (length c.args.other.now) c.loop-row-test.true (c.requires.other narrow), (c.loop-row.invariant.2 narrow).whole),
    ),
  ),
)

pub loop-row-preserved : goal.loop-row-preserved
loop-row-preserved g c =
    let sample = g.L.Lines.sample c.args.lines in
    let width = g.S.Samples.width in
    let within = c.store.ensures.within in
    let long : length c.narrowed.result ≡ g.row.N = search rules in
    let value : (lane : ℕ) → lane < g.row.N → slice_index c.narrowed.result lane ≡ tapped_from (g.W.Weights.taps c.args.weights) sample lane c.loop-row.row = λ lane less. ap (λ l. slice_index l lane) c.narrowed.ensures ∙ c.weighed-samples.ensures lane less ∙ six_down g.row.N (g.W.Weights.taps c.args.weights) sample c.loop-row.row _ _ _ _ _ _ c.loop-row.invariant.0 c.line-f.ensures _ _ lane less refl refl in
    let test = c.loop-row-test.true in (
      next_lines g.row.N sample c.loop-row.row _ _ _ _ _ _ c.loop-row.invariant.0 c.line-f.ensures,
      row_stored (tapped_from (g.W.Weights.taps c.args.weights) sample) c.args.strip.first width c.loop-row.row c.args.strip.stride 0 c.args.out.now c.loop-row.out c.store.new.out c.narrowed.result c.loop-row.invariant.1 c.requires.out.0 (row_there c.args.strip c.loop-row.row width _ test c.requires.out) (omega (arith, long, within)) c.store.ensures.out (λ column inside. let lane : 0 + column ≡ column = zero-add column in ap (slice_index c.narrowed.result) lane ∙ value column (omega (arith, within))),
      λ narrow. row_stored (λ column row. tapped_from (g.W.Weights.taps c.args.weights) sample (width + column) row) c.args.strip.first (g.row.N - width) c.loop-row.row c.args.strip.stride width c.args.other.now c.loop-row.other c.store.new.other c.narrowed.result (c.loop-row.invariant.2 narrow) (c.requires.other narrow).0 (row_there c.args.strip c.loop-row.row (g.row.N - width) _ test (c.requires.other narrow)) (omega (arith, long, within)) (c.store.ensures.other narrow) (λ column inside. value (width + column) (omega (arith, within, inside))),
    )

pub returns-clause-out : goal.returns-clause-out
returns-clause-out g c =
    let all : c.loop-row.row ≡ c.args.strip.height = omega arith in
    rw all at c.loop-row.invariant.1

pub returns-clause-other : goal.returns-clause-other
returns-clause-other g c = λ narrow.
    let all : c.loop-row.row ≡ c.args.strip.height = omega arith in
    rw all at (c.loop-row.invariant.2 narrow)

pub returns-clause-between : goal.returns-clause-between
returns-clause-between g c =
    let all : c.loop-row.row ≡ c.args.strip.height = omega arith in
    strip_between (g.W.Weights.taps c.args.weights) (g.L.Lines.sample c.args.lines) c.args.strip.first g.S.Samples.width c.args.strip.height c.args.strip.stride c.args.out.now c.loop-row.out (rw all at c.loop-row.invariant.1)
