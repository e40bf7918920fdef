use Rattle.std.proofs.Common.{◌≡◌, ◌*◌, false, refl, ap, ◌∙◌, arith}
use Rattle.pixel_planes.specs.Samples.{PlaneValue, out_of_date}
use Rattle.pixel_planes.specs.Layout.{layout_of, IsLaidOut}
use Rattle.pixel_planes.proofs.Rows.{written_range}
use Rattle.pixel_planes.proofs.InBlock.{shown_value, joined, flat_laid_out, samples_of_packed, view_of_written}
use Rattle.pixel_planes.proofs.planes.Plane.samples_mut.Goals as goal

pub returns : goal.returns
returns c =
    let o = c.self.invariant.0 in
    let now : shown_value c.self.inside.width c.self.inside.height c.self.inside.border 0 c.self.inside.width false c.join.new.samples.items ≡ out_of_date c.args.self.now = joined c.self.inside.width c.self.inside.height c.self.inside.border c.self.inside.first c.self.inside.stride c.self.inside.is_current c.self.inside.samples.items c.join.new.samples.items c.join.ensures.value ∙ ap out_of_date c.self.view_is in
    let flat : IsLaidOut (layout_of c.self.inside.width c.self.inside.height c.self.inside.border 0 c.self.inside.width) c.join.new.samples.items = flat_laid_out c.self.inside.width c.self.inside.height c.self.inside.border c.join.new.samples.items o.wide o.high o.border_small (c.join.ensures.len ∙ o.room) in
    let size : c.self.inside.width * c.self.inside.height ≡ c.args.self.now.shown.width * c.args.self.now.shown.height = ap (λ (p : PlaneValue). p.shown.width * p.shown.height) now in (
      (
        refl,
        λ w. view_of_written c.args.self.now c.self.inside.width c.self.inside.height c.self.inside.border 0 c.self.inside.width 0 false c.join.new.samples.items _ w now refl refl (written_range _ 0 c.join.new.samples.items w c.join.new.samples.ok.0),
      ),
      record { writes_back = tt; value = c.slice_mut.ensures.value ∙ samples_of_packed (layout_of c.self.inside.width c.self.inside.height c.self.inside.border 0 c.self.inside.width) c.join.new.samples.items flat refl ∙ ap (λ (p : PlaneValue). p.shown.samples) now; len = omega (arith, c.slice_mut.ensures.len, size) },
    )
