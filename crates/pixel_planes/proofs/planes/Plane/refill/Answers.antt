use Rattle.std.proofs.Common.{◌≡◌, ◌++◌, true, length, take, drop, ap, ◌∙◌, sym}
use Rattle.std.proofs.lemmas.List.{take_at}
use Rattle.pixel_planes.specs.Samples.{Samples}
use Rattle.pixel_planes.proofs.InBlock.{settled}
use Rattle.pixel_planes.proofs.planes.Plane.refill.Goals as goal

pub invariant_of-self : goal.invariant_of-self
invariant_of-self c =
    let b = rw (c.deref_mut.ensures.value) at c.surround.ensures.bordered in
    let l = rw (c.deref_mut.ensures.value) at c.surround.ensures.len in
    let s = settled c.self.inside.width c.self.inside.height c.self.inside.border c.self.inside.first c.self.inside.stride c.self.inside.samples.items c.surround.new.samples c.self.invariant.0 (b c.self.inside.first c.self.invariant.0) l in
    let whole : take c.self.inside.samples.len (c.surround.new.samples ++ drop (length c.surround.new.samples) c.self.inside.samples.items) ≡ c.surround.new.samples = take_at c.surround.new.samples (drop (length c.surround.new.samples) c.self.inside.samples.items) c.self.inside.samples.len (l ∙ sym c.self.inside.samples.ok.0) in
    rw whole (s.laid_out, λ e. s.has_border)

pub returns-then-not-self : goal.returns-then-not-self
returns-then-not-self c =
    let b = rw (c.deref_mut.ensures.value) at c.surround.ensures.bordered in
    let l = rw (c.deref_mut.ensures.value) at c.surround.ensures.len in
    let s = settled c.self.inside.width c.self.inside.height c.self.inside.border c.self.inside.first c.self.inside.stride c.self.inside.samples.items c.surround.new.samples c.self.invariant.0 (b c.self.inside.first c.self.invariant.0) l in
    let whole : take c.self.inside.samples.len (c.surround.new.samples ++ drop (length c.surround.new.samples) c.self.inside.samples.items) ≡ c.surround.new.samples = take_at c.surround.new.samples (drop (length c.surround.new.samples) c.self.inside.samples.items) c.self.inside.samples.len (l ∙ sym c.self.inside.samples.ok.0) in
    rw (← c.self.view_is, whole) (ap (λ (p : Samples). record { shown = p; border = c.self.inside.border; is_current = true }) s.same)
