-- The text of a picture is the text of its shown samples.
use Rattle.std.proofs.Common.{◌≡◌, ℕ, zero, suc, ◌+◌, ◌*◌, ◌<◌, ◌≤◌, List, [], ◌∷◌, ◌++◌, codes, length, get_or, refl, sym, ap, ◌∙◌, arith, add-zero, zero-add, subst}
use Rattle.std.proofs.lemmas.List.{length-take-le}
use Rattle.pixel_planes.specs.Samples.{IsWhole, row_of}
use Rattle.pixel_planes.specs.Pictures.{PictureSamples, IsWholePicture, macroblocks, side_of, plane_of, shown_row_of, shown_rows, shown_plane}
use Rattle.pixel_planes.specs.declared.pictures.Component.{Component}
use Rattle.pixel_planes.specs.declared.pictures.Component.TheVariants.{Luma, Cb, Cr}
use Rattle.pixel_planes.proofs.InBlock.{length-row_of}
use Rattle.stream_files.specs.Y4m.{frame_text}
use Rattle.script_nodes.specs.Shown.{Shown, Shows}
use Rattle.script_nodes.specs.Planes.{block_side}
use Rattle.script_nodes.proofs.PlaneRows.{side_fits, shown_fits, shown_at}
use Rattle.frame_session.specs.Frames.{row_from, rows_to, samples_of, shown_text}

whole_plane : (p : PictureSamples) (component : Component) → IsWholePicture p → IsWhole (plane_of p component) × ((plane_of p component).height ≡ block_side component * macroblocks p.height)
whole_plane p Luma whole = (whole.5, whole.4.0.1)
whole_plane p Cb whole = (whole.6, whole.4.1.1)
whole_plane p Cr whole = (whole.7, whole.4.2.1)

row_long : (p : PictureSamples) (component : Component) (y : ℕ) → IsWholePicture p → y < side_of component p.height → length (shown_row_of p component y) ≡ side_of component p.width
row_long p component y whole below =
    let plane = whole_plane p component whole in
    let long : length (row_of (plane_of p component) y) ≡ (plane_of p component).width = length-row_of (plane_of p component) y plane.0 (omega (arith, side_fits component p.height, plane.1)) in
    length-take-le (side_of component p.width) (row_of (plane_of p component) y) (omega (arith, long, shown_fits p component whole))

-- a row of these samples
row_is : (sample : ℕ → ℕ → ℕ) (y x : ℕ) (row : List ℕ) → ((k : ℕ) → k < length row → get_or row k 0 ≡ sample (x + k) y) → row ≡ row_from sample y x (length row)
row_is sample y x [] each = refl
row_is sample y x (b ∷ row) each =
    let first : b ≡ sample x y = each 0 (omega arith) ∙ ap (λ k. sample k y) (add-zero x) in
    let rest : row ≡ row_from sample y (x + 1) (length row) =
    row_is sample y (x + 1) row (λ k less. each (suc k) (omega arith) ∙ ap (λ k. sample k y) (omega arith)) in
    ap (λ (c : ℕ). c ∷ row) first ∙ ap (λ (cs : List ℕ). sample x y ∷ cs) rest

row_same : (p : PictureSamples) (s : Shown) (component : Component) (y : ℕ) → IsWholePicture p → Shows p s → y < side_of component p.height → shown_row_of p component y ≡ row_from (s.sample component) y 0 (side_of component p.width)
row_same p s component y whole shows below =
    let long = row_long p component y whole below in
    let P : ℕ → Type 0 = λ n. shown_row_of p component y ≡ row_from (s.sample component) y 0 n in
    subst P long (row_is (s.sample component) y 0 (shown_row_of p component y) (λ k less.
    let inside : k < side_of component p.width = omega (arith, long, less) in
    shown_at p component k y whole inside ∙ shows.each component k y inside below ∙ ap (λ i. s.sample component i y) (sym (zero-add k))))

rows_same : (p : PictureSamples) (s : Shown) (component : Component) (n : ℕ) → IsWholePicture p → Shows p s → n ≤ side_of component p.height → shown_rows p component n ≡ rows_to (s.sample component) (side_of component p.width) n
rows_same p s component zero whole shows within = refl
rows_same p s component (suc n) whole shows within =
    rw (rows_same p s component n whole shows (omega arith), row_same p s component n whole shows (omega arith)) refl

plane_same : (p : PictureSamples) (s : Shown) (component : Component) → IsWholePicture p → Shows p s → shown_plane p component ≡ samples_of s component
plane_same p s component whole shows =
    rows_same p s component (side_of component p.height) whole shows (omega arith)
    ∙ ap (λ w. rows_to (s.sample component) (side_of component w) (side_of component p.height)) shows.wide
    ∙ ap (λ h. rows_to (s.sample component) (side_of component s.width) (side_of component h)) shows.high

pub text_same : (p : PictureSamples) (s : Shown) → IsWholePicture p → Shows p s → frame_text p ≡ shown_text s
text_same p s whole shows =
    let head : List ℕ → List ℕ → List ℕ → List ℕ = λ luma cb cr. codes "FRAME" ++ 10 ∷ [] ++ luma ++ cb ++ cr in
    ap (λ luma. head luma (shown_plane p Cb) (shown_plane p Cr)) (plane_same p s Luma whole shows)
    ∙ ap (λ cb. head (samples_of s Luma) cb (shown_plane p Cr)) (plane_same p s Cb whole shows)
    ∙ ap (λ cr. head (samples_of s Luma) (samples_of s Cb) cr) (plane_same p s Cr whole shows)
