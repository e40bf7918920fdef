use Rattle.std.proofs.Common.{◌≡◌, ◌∙◌, ◌*◌, ℕ, replicate, ap}
use Rattle.pixel_planes.specs.Samples.{Samples, bordered}
use Rattle.pixel_planes.specs.Layout.{bordered_side}
use Rattle.pixel_planes.proofs.UniformBlocks.{shown_of_uniform, uniform_bordered, uniform_laid_out}
use Rattle.pixel_planes.proofs.planes.Plane.clear.Goals as goal

pub invariant_of-self : goal.invariant_of-self
invariant_of-self c =
    let o = c.self.invariant.0 in
    let all : c.fill.new.self.items ≡ replicate (bordered_side c.self.inside.width c.self.inside.border * bordered_side c.self.inside.height c.self.inside.border) c.args.value = c.fill.ensures.items (λ y same. same) ∙ ap (λ (n : ℕ). replicate n c.args.value) (c.self.inside.samples.ok.0 ∙ o.room) in (
      uniform_laid_out c.self.inside.width c.self.inside.height c.self.inside.border c.args.value c.fill.new.self.items o.wide o.high o.border_small all,
      λ _. uniform_bordered c.self.inside.width c.self.inside.height c.self.inside.border c.args.value c.fill.new.self.items o.wide o.high all,
    )

pub returns : goal.returns
returns c =
    let o = c.self.invariant.0 in
    let all : c.fill.new.self.items ≡ replicate (bordered_side c.self.inside.width c.self.inside.border * bordered_side c.self.inside.height c.self.inside.border) c.args.value = c.fill.ensures.items (λ y same. same) ∙ ap (λ (n : ℕ). replicate n c.args.value) (c.self.inside.samples.ok.0 ∙ o.room) in
    rw (← c.self.view_is) (ap (λ (p : Samples). bordered p c.self.inside.border) (shown_of_uniform c.self.inside.width c.self.inside.height c.self.inside.border c.args.value c.fill.new.self.items o.wide o.high all))
