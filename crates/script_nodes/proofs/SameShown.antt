-- Pictures that show the same.
use Rattle.std.proofs.Common.{◌≡◌, ℕ, zero, suc, ◌*◌, ◌<◌, ◌≤◌, length, refl, sym, ap, ◌∙◌, arith}
use Rattle.std.proofs.lemmas.List.{ext_get_or, length-take-le}
use Rattle.pixel_planes.specs.Samples.{IsWhole, row_of}
use Rattle.pixel_planes.specs.Pictures.{PictureSamples, IsWholePicture, macroblocks, side_of, plane_of, shown_row_of, shown_rows, shown_plane}
use Rattle.pixel_planes.specs.declared.pictures.Component.{Component}
use Rattle.pixel_planes.specs.declared.pictures.Component.TheVariants.{Luma, Cb, Cr}
use Rattle.pixel_planes.proofs.InBlock.{length-row_of}
use Rattle.script_nodes.specs.Shown.{Shown, Shows}
use Rattle.script_nodes.specs.Planes.{block_side}
use Rattle.script_nodes.proofs.PlaneRows.{side_fits, shown_fits, shown_at}

whole_plane : (p : PictureSamples) (component : Component) → IsWholePicture p → IsWhole (plane_of p component) × ((plane_of p component).height ≡ block_side component * macroblocks p.height)
whole_plane p Luma whole = (whole.5, whole.4.0.1)
whole_plane p Cb whole = (whole.6, whole.4.1.1)
whole_plane p Cr whole = (whole.7, whole.4.2.1)

row_long : (p : PictureSamples) (component : Component) (y : ℕ) → IsWholePicture p → y < side_of component p.height → length (shown_row_of p component y) ≡ side_of component p.width
row_long p component y whole below =
    let plane = whole_plane p component whole in
    let long : length (row_of (plane_of p component) y) ≡ (plane_of p component).width = length-row_of (plane_of p component) y plane.0 (omega (arith, side_fits component p.height, plane.1)) in
    length-take-le (side_of component p.width) (row_of (plane_of p component) y) (omega (arith, long, shown_fits p component whole))

same_row : (p q : PictureSamples) (s : Shown) (component : Component) (y : ℕ) → IsWholePicture p → IsWholePicture q → Shows p s → Shows q s → y < side_of component s.height → shown_row_of p component y ≡ shown_row_of q component y
same_row p q s component y wp wq sp sq below =
    let bp : y < side_of component p.height = rw sp.high below in
    let bq : y < side_of component q.height = rw sq.high below in
    let lp : length (shown_row_of p component y) ≡ side_of component s.width = row_long p component y wp bp ∙ ap (side_of component) sp.wide in
    let lq : length (shown_row_of q component y) ≡ side_of component s.width = row_long q component y wq bq ∙ ap (side_of component) sq.wide in
    ext_get_or 0 (shown_row_of p component y) (shown_row_of q component y) (lp ∙ sym lq)
    (λ x less.
    let inside : x < side_of component s.width = omega (arith, lp, less) in
    let ip : x < side_of component p.width = rw sp.wide inside in
    let iq : x < side_of component q.width = rw sq.wide inside in
    shown_at p component x y wp ip ∙ sp.each component x y ip bp ∙ sym (shown_at q component x y wq iq ∙ sq.each component x y iq bq))

same_rows : (p q : PictureSamples) (s : Shown) (component : Component) (n : ℕ) → IsWholePicture p → IsWholePicture q → Shows p s → Shows q s → n ≤ side_of component s.height → shown_rows p component n ≡ shown_rows q component n
same_rows p q s component zero wp wq sp sq within = refl
same_rows p q s component (suc n) wp wq sp sq within =
    rw (same_rows p q s component n wp wq sp sq (omega arith), same_row p q s component n wp wq sp sq (omega arith)) refl

pub same_planes : (p q : PictureSamples) (s : Shown) (component : Component) → IsWholePicture p → IsWholePicture q → Shows p s → Shows q s → shown_plane p component ≡ shown_plane q component
same_planes p q s component wp wq sp sq =
    ap (λ n. shown_rows p component (side_of component n)) sp.high
    ∙ same_rows p q s component (side_of component s.height) wp wq sp sq (omega arith)
    ∙ sym (ap (λ n. shown_rows q component (side_of component n)) sq.high)
