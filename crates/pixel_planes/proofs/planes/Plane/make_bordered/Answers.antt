use Rattle.std.proofs.Common.{ap}
use Rattle.pixel_planes.specs.Samples.{Samples, bordered}
use Rattle.pixel_planes.proofs.UniformBlocks.{shown_of_uniform, uniform_bordered, uniform_laid_out}
use Rattle.pixel_planes.proofs.planes.Plane.make_bordered.Goals as goal

pub invariant_of-result : goal.invariant_of-result
invariant_of-result c =
    let all = c.in_ok-samples.ensures.items_if_clones_equal (λ y same. same) in (
      uniform_laid_out c.args.width c.args.height c.args.border c.args.value c.in_ok-samples.samples.items c.requires.wide c.requires.high c.requires.border all,
      λ _. uniform_bordered c.args.width c.args.height c.args.border c.args.value c.in_ok-samples.samples.items c.requires.wide c.requires.high all,
    )

pub returns : goal.returns
returns c = ap (λ (p : Samples). bordered p c.args.border) (shown_of_uniform c.args.width c.args.height c.args.border c.args.value c.in_ok-samples.samples.items c.requires.wide c.requires.high (c.in_ok-samples.ensures.items_if_clones_equal (λ y same. same)))
