-- The number of shown samples of a component.
use Rattle.std.proofs.Common.{◌≡◌, ℕ, zero, suc, ◌*◌, ◌<◌, ◌≤◌, length, arith, length-append}
use Rattle.std.proofs.lemmas.List.{length-take-le}
use Rattle.pixel_planes.specs.Samples.{IsWhole, row_of}
use Rattle.pixel_planes.specs.Pictures.{PictureSamples, IsWholePicture, plane_of, shown_height, shown_plane, shown_row_of, shown_rows, shown_width}
use Rattle.pixel_planes.specs.declared.pictures.Component.{Component}
use Rattle.pixel_planes.specs.declared.pictures.Component.TheVariants.{Luma, Cb, Cr}
use Rattle.pixel_planes.proofs.InBlock.{length-row_of}

-- the plane of a component is whole, and not smaller than what is shown
whole_plane : (p : PictureSamples) (component : Component) → IsWholePicture p → IsWhole (plane_of p component) × (shown_width p component ≤ (plane_of p component).width) × (shown_height p component ≤ (plane_of p component).height)
whole_plane p Luma whole = (whole.5, omega (arith, whole.4.0.0), omega (arith, whole.4.0.1))
whole_plane p Cb whole = (whole.6, omega (arith, whole.4.1.0), omega (arith, whole.4.1.1))
whole_plane p Cr whole = (whole.7, omega (arith, whole.4.2.0), omega (arith, whole.4.2.1))

row_long : (p : PictureSamples) (component : Component) (y : ℕ) → IsWholePicture p → y < shown_height p component → length (shown_row_of p component y) ≡ shown_width p component
row_long p component y whole below =
    let plane = whole_plane p component whole in
    let long : length (row_of (plane_of p component) y) ≡ (plane_of p component).width = length-row_of (plane_of p component) y plane.0 (omega (arith, plane.2)) in
    length-take-le (shown_width p component) (row_of (plane_of p component) y) (omega (arith, long, plane.1))

rows_long : (p : PictureSamples) (component : Component) (n : ℕ) → IsWholePicture p → n ≤ shown_height p component → length (shown_rows p component n) ≡ n * shown_width p component
rows_long p component zero whole within = omega arith
rows_long p component (suc n) whole within =
    omega (arith, length-append (shown_rows p component n) (shown_row_of p component n), rows_long p component n whole (omega arith), row_long p component n whole (omega arith))

pub plane_long : (p : PictureSamples) (component : Component) → IsWholePicture p → length (shown_plane p component) ≡ shown_height p component * shown_width p component
plane_long p component whole = rows_long p component (shown_height p component) whole (omega arith)
