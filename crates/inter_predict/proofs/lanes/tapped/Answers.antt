use Rattle.std.specs.Prelude.{slice_index}
use Rattle.std.proofs.Common.{◌≡◌, refl, ℕ, ◌+◌, ◌<◌, ap, sym, add-zero, ◌∙◌, arith}
use Rattle.inter_predict.specs.Kernels.{tapped_from}
use Rattle.inter_predict.proofs.Predicted.{between_is}
use Rattle.inter_predict.proofs.TappedLanes.{tapped_lane}
use Rattle.inter_predict.proofs.Twice.{tapped_byte}
use Rattle.inter_predict.proofs.lanes.tapped.Goals as goal

pub at-a-requires : goal.at-a-requires
at-a-requires g c = (omega arith, (omega arith, c.requires.has c.args.start (omega arith) (omega arith)))

pub at-b-requires : goal.at-b-requires
at-b-requires g c = (omega arith, (omega arith, c.requires.has (c.args.start + 1) (omega arith) (omega arith)))

pub at-c-requires : goal.at-c-requires
at-c-requires g c = (omega arith, (omega arith, c.requires.has (c.args.start + 2) (omega arith) (omega arith)))

pub at-d-requires : goal.at-d-requires
at-d-requires g c = (omega arith, (omega arith, c.requires.has (c.args.start + 3) (omega arith) (omega arith)))

pub at-e-requires : goal.at-e-requires
at-e-requires g c = (omega arith, (omega arith, c.requires.has (c.args.start + 4) (omega arith) (omega arith)))

pub at-f-requires : goal.at-f-requires
at-f-requires g c = (omega arith, (omega arith, c.requires.has (c.args.start + 5) (omega arith) (omega arith)))

pub weighed-requires : goal.weighed-requires
weighed-requires g c = (omega arith, (c.requires.small, (c.at-a.ensures.bytes, c.at-b.ensures.bytes, c.at-c.ensures.bytes, c.at-d.ensures.bytes, c.at-e.ensures.bytes, c.at-f.ensures.bytes)))

pub returns : goal.returns
returns g c =
    let sample = g.S.Samples.sample c.args.samples in
    let start = c.args.start in
    let value : (lane : ℕ) → lane < g.row.N → slice_index c.weighed.result lane ≡ tapped_from (g.W.Weights.taps c.args.weights) sample lane start = λ lane less.
    c.weighed.ensures lane less
    ∙ tapped_lane (g.W.Weights.taps c.args.weights) (λ k. sample (start + k) lane) _ _ _ _ _ _ _ _
    (c.at-a.ensures.value lane less ∙ ap (λ (at : ℕ). sample at lane) (sym (add-zero start)))
    (c.at-b.ensures.value lane less) (c.at-c.ensures.value lane less) (c.at-d.ensures.value lane less) (c.at-e.ensures.value lane less) (c.at-f.ensures.value lane less)
    refl refl in
    let bytes : (lane : ℕ) → lane < g.row.N → slice_index c.weighed.result lane < 256 = λ lane less. rw (value lane less) (tapped_byte (g.W.Weights.taps c.args.weights) _) in
    record {
      taps = record { value = value; bytes = bytes };
      between = λ kind eighths are. record { value = λ lane less. value lane less ∙ between_is (g.W.Weights.taps c.args.weights) kind eighths sample lane start are; bytes = bytes };
    }
