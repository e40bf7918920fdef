-- A block whose samples are all one value, and the plane that it shows.
use Rattle.std.proofs.Common.{◌≡◌, ℕ, ◌+◌, ◌*◌, ◌<◌, ◌≤◌, List, length, replicate, refl, ap, ◌∙◌}
use Rattle.std.proofs.lemmas.List.{length-replicate}
use Rattle.pixel_planes.specs.Samples.{uniform, IsWhole}
use Rattle.pixel_planes.specs.Layout.{layout_of, apart_in, bordered_side, IsLaidOut, IsBordered}
use Rattle.pixel_planes.proofs.InBlock.{apart_is, apart_laid_out, bordered_of_replicate}

-- the border of the plane of that value is up to date in it
around_uniform : (width height border value : ℕ) (items : List ℕ) → 0 < width → 0 < height → items ≡ replicate (bordered_side width border * bordered_side height border) value → IsBordered (uniform width height value) border items
around_uniform width height border value items wide high all = rw all (bordered_of_replicate width height border value _ wide high refl)

-- it shows a plane of that value
pub shown_of_uniform : (width height border value : ℕ) (items : List ℕ) → (0 < width) × (width ≤ 16384) → (0 < height) × (height ≤ 16384) → items ≡ replicate (bordered_side width border * bordered_side height border) value → apart_in width height border items ≡ uniform width height value
shown_of_uniform width height border value items wide high all =
    let whole : IsWhole (uniform width height value) = (wide.0, wide.1, high.0, high.1, length-replicate (width * height) value) in
    apart_is (uniform width height value) border items whole (around_uniform width height border value items wide.0 high.0 all)

-- the plane is laid out in it
pub uniform_laid_out : (width height border value : ℕ) (items : List ℕ) → (0 < width) × (width ≤ 16384) → (0 < height) × (height ≤ 16384) → border ≤ 64 → items ≡ replicate (bordered_side width border * bordered_side height border) value → IsLaidOut (layout_of width height border (border * bordered_side width border + border) (bordered_side width border)) items
uniform_laid_out width height border value items wide high small all =
    apart_laid_out width height border items wide high small (ap length all ∙ length-replicate (bordered_side width border * bordered_side height border) value)

-- its border is up to date
pub uniform_bordered : (width height border value : ℕ) (items : List ℕ) → (0 < width) × (width ≤ 16384) → (0 < height) × (height ≤ 16384) → items ≡ replicate (bordered_side width border * bordered_side height border) value → IsBordered (apart_in width height border items) border items
uniform_bordered width height border value items wide high all = rw (shown_of_uniform width height border value items wide high all) (around_uniform width height border value items wide.0 high.0 all)
