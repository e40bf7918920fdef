-- Rows that are apart from each other are filtered as rows that are one directly after the other.
use Rattle.std.specs.Prelude.{slice_index}
use Rattle.std.proofs.Common.{◌≡◌, ◌≢◌, inl, inr, ℕ, zero, suc, ◌+◌, ◌*◌, ◌/◌, ◌%◌, ◌<◌, ◌≤◌, List, length, set, refl, sym, ap, ◌∙◌, arith, mod-lt, div-add-mod'}
use Rattle.std.proofs.lemmas.Bool.{cases_eq}
use Rattle.std.proofs.lemmas.Grind.{same_number_lists}
use Rattle.std.proofs.lemmas.List.{length-set, get_or-set_same, get_or-set_other}
use Rattle.std.proofs.lemmas.Nat.{same_from_place, div_below, mul-add-lt}
use Rattle.pixel_planes.specs.Layout.{rows_of}
use Rattle.pixel_planes.proofs.BlockRows.{length-rows_of, sample_of_rows}
use Rattle.loop_filter.specs.Lines.{Line}
use Rattle.loop_filter.specs.Edges.{line_in, with_line, lines_filtered}
use Rattle.loop_filter.proofs.RowsPut.{line_sets}
use Rattle.loop_filter.proofs.EdgeFold.{samples_of, same_line, line_is_sets}

-- the rows of these samples show the plane, in a list with room for all of them
pub record Shows (width height stride : ℕ) (items shown : List ℕ) : Type 0 where
  pub room : height * stride ≤ length items
  pub is : rows_of items 0 stride width height ≡ shown

-- an index of the list and one of the plane are those of the same column and row
pub record IsPlace (width height stride i j : ℕ) : Type 0 where
  pub x : ℕ
  pub y : ℕ
  pub in_row : x < width
  pub below : y < height
  pub index : i ≡ y * stride + x
  pub shown : j ≡ y * width + x

module _ (width height stride : ℕ) (wide : width ≤ stride) where
  -- the sample in column i of row j
  sample : (items : List ℕ) (i j : ℕ) → height * stride ≤ length items → i < width → j < height → slice_index (rows_of items 0 stride width height) (j * width + i) ≡ slice_index items (j * stride + i)
  sample items i j room in_row below =
      let place : 0 + j * stride + i ≡ j * stride + i = omega arith in
      sample_of_rows items 0 stride width height i j wide (omega (arith, room)) below in_row ∙ ap (λ n. slice_index items n) place

  rows_long : (items : List ℕ) → height * stride ≤ length items → length (rows_of items 0 stride width height) ≡ height * width
  rows_long items room = length-rows_of items 0 stride width height wide (omega (arith, room))

  -- the index of a sample is inside
  inside : (side i j : ℕ) → i < side → j < height → j * side + i < height * side
  inside side i j in_row below = omega (arith, mul-add-lt j side i height below in_row)

  -- other columns or rows have other indices
  other : (side x y i j : ℕ) → x < side → i < side → (j ≡ y → i ≡ x → ⊥) → j * side + i ≢ y * side + x
  other side x y i j a b apart same = let are = same_from_place j i y x side b a same in apart are.0 are.1

  -- the sample in column i of row j, after the one in column x of row y was set
  set_sample : (items : List ℕ) (x y v i j : ℕ) → height * stride ≤ length items → x < width → y < height → i < width → j < height → slice_index (rows_of (set items (y * stride + x) v) 0 stride width height) (j * width + i) ≡ slice_index (set (rows_of items 0 stride width height) (y * width + x) v) (j * width + i)
  set_sample items x y v i j room x_in y_in i_in j_in =
      let long : length (set items (y * stride + x) v) ≡ length items = length-set items (y * stride + x) v in
      let flat : length (rows_of items 0 stride width height) ≡ height * width = rows_long items room in
      let here = inside stride x y (omega (arith, x_in, wide)) y_in in
      let there = inside width x y x_in y_in in
      let is = sample (set items (y * stride + x) v) i j (omega (arith, long, room)) i_in j_in in
      let apart : (j ≡ y → i ≡ x → ⊥) → slice_index (rows_of (set items (y * stride + x) v) 0 stride width height) (j * width + i) ≡ slice_index (set (rows_of items 0 stride width height) (y * width + x) v) (j * width + i) = λ different.
      is ∙ get_or-set_other items (y * stride + x) (j * stride + i) v 0 (other stride x y i j (omega (arith, x_in, wide)) (omega (arith, i_in, wide)) different)
      ∙ sym (get_or-set_other (rows_of items 0 stride width height) (y * width + x) (j * width + i) v 0 (other width x y i j x_in i_in different) ∙ sample items i j room i_in j_in) in
      elim (cases_eq j y) [
        | inl row ↦ elim (cases_eq i x) [
          | inl column ↦
              let at : j * stride + i ≡ y * stride + x = rw (row, column) refl in
              let flat_at : j * width + i ≡ y * width + x = rw (row, column) refl in
              is ∙ ap (λ n. slice_index (set items (y * stride + x) v) n) at ∙ get_or-set_same items (y * stride + x) v 0 (omega (arith, here, room))
              ∙ sym (ap (λ n. slice_index (set (rows_of items 0 stride width height) (y * width + x) v) n) flat_at ∙ get_or-set_same (rows_of items 0 stride width height) (y * width + x) v 0 (omega (arith, there, flat)))
          | inr differs ↦ apart (λ e f. differs f)
        ]
        | inr differs ↦ apart (λ e f. differs e)
      ]

  set_shows : (items shown : List ℕ) (x y v : ℕ) → x < width → y < height → Shows width height stride items shown → Shows width height stride (set items (y * stride + x) v) (set shown (y * width + x) v)
  set_shows items shown x y v in_row below shows =
      let long : length (set items (y * stride + x) v) ≡ length items = length-set items (y * stride + x) v in
      let room : height * stride ≤ length (set items (y * stride + x) v) = omega (arith, long, shows.room) in
      let here : length (rows_of (set items (y * stride + x) v) 0 stride width height) ≡ height * width = rows_long (set items (y * stride + x) v) room in
      let lists : rows_of (set items (y * stride + x) v) 0 stride width height ≡ set (rows_of items 0 stride width height) (y * width + x) v =
      same_number_lists _ _ (here ∙ sym (length-set (rows_of items 0 stride width height) (y * width + x) v ∙ rows_long items shows.room)) (λ k less.
      let some : 0 < width = omega (arith, in_row) in
      let at : k / width * width + k % width ≡ k = div-add-mod' k width in
      let row : k / width < height = div_below k width height some (omega (arith, less, here)) in
      sym (ap (λ n. slice_index (rows_of (set items (y * stride + x) v) 0 stride width height) n) at)
      ∙ set_sample items x y v (k % width) (k / width) shows.room in_row below (mod-lt k some) row
      ∙ ap (λ n. slice_index (set (rows_of items 0 stride width height) (y * width + x) v) n) at) in
      record { room = room; is = lists ∙ ap (λ s. set s (y * width + x) v) shows.is }

  -- samples that are set in both
  place_shows : (items shown : List ℕ) (i j v : ℕ) → IsPlace width height stride i j → Shows width height stride items shown → Shows width height stride (set items i v) (set shown j v)
  place_shows items shown i j v place shows = rw (place.index, place.shown) (set_shows items shown place.x place.y v place.in_row place.below shows)

  sets_show : (items shown : List ℕ) (at across at' across' : ℕ) (v : ℕ → ℕ) (m : ℕ) → ((k : ℕ) → k < m → IsPlace width height stride (at + k * across) (at' + k * across')) → Shows width height stride items shown → Shows width height stride (line_sets items at across v m) (line_sets shown at' across' v m)
  unfolding line_sets
  sets_show items shown at across at' across' v zero places shows = shows
  sets_show items shown at across at' across' v (suc m) places shows =
      place_shows (line_sets items at across v m) (line_sets shown at' across' v m) (at + m * across) (at' + m * across') (v m) (places m (omega arith)) (sets_show items shown at across at' across' v m (λ k less. places k (omega arith)) shows)

  -- a sample is the same in both
  place_is : (items shown : List ℕ) (i j : ℕ) → IsPlace width height stride i j → Shows width height stride items shown → slice_index items i ≡ slice_index shown j
  place_is items shown i j place shows =
      ap (λ n. slice_index items n) place.index ∙ sym (sample items place.x place.y shows.room place.in_row place.below) ∙ ap (λ s. slice_index s (place.y * width + place.x)) shows.is ∙ sym (ap (λ n. slice_index shown n) place.shown)

  -- a line is the same in both
  line_is : (items shown : List ℕ) (at across at' across' : ℕ) → ((k : ℕ) → k < 8 → IsPlace width height stride (at + k * across) (at' + k * across')) → Shows width height stride items shown → line_in items at across ≡ line_in shown at' across'
  line_is items shown at across at' across' places shows =
      let is : (k : ℕ) → k < 8 → slice_index items (at + k * across) ≡ slice_index shown (at' + k * across') = λ k less. place_is items shown (at + k * across) (at' + k * across') (places k less) shows in
      let none : at + 0 * across ≡ at = omega arith in
      let one : at + 1 * across ≡ at + across = omega arith in
      let none' : at' + 0 * across' ≡ at' = omega arith in
      let one' : at' + 1 * across' ≡ at' + across' = omega arith in
      same_line _ _ (rw (← none, ← none') (is 0 (omega arith))) (rw (← one, ← one') (is 1 (omega arith))) (is 2 (omega arith)) (is 3 (omega arith)) (is 4 (omega arith)) (is 5 (omega arith)) (is 6 (omega arith)) (is 7 (omega arith))

  line_shows : (f : Line → Line) (items shown : List ℕ) (at across at' across' : ℕ) → ((k : ℕ) → k < 8 → IsPlace width height stride (at + k * across) (at' + k * across')) → Shows width height stride items shown
      → Shows width height stride (with_line items at across (f (line_in items at across))) (with_line shown at' across' (f (line_in shown at' across')))
  line_shows f items shown at across at' across' places shows =
      let l : Line = f (line_in items at across) in
      let put : Shows width height stride (with_line items at across l) (with_line shown at' across' l) = rw (line_is_sets items at across l, line_is_sets shown at' across' l) (sets_show items shown at across at' across' (λ k. slice_index (samples_of l) k) 8 places shows) in
      rw (← line_is items shown at across at' across' places shows) put

  lines_show : (f : Line → Line) (start between across start' between' across' : ℕ) (items shown : List ℕ) (n : ℕ) → ((i k : ℕ) → i < n → k < 8 → IsPlace width height stride (start + i * between + k * across) (start' + i * between' + k * across')) → Shows width height stride items shown
      → Shows width height stride (lines_filtered f start between across items n) (lines_filtered f start' between' across' shown n)
  unfolding lines_filtered
  lines_show f start between across start' between' across' items shown zero places shows = shows
  lines_show f start between across start' between' across' items shown (suc n) places shows =
      line_shows f (lines_filtered f start between across items n) (lines_filtered f start' between' across' shown n) (start + n * between) across (start' + n * between') across' (λ k less. places n k (omega arith) less)
      (lines_show f start between across start' between' across' items shown n (λ i k below less. places i k (omega arith) less) shows)

  -- an edge between columns, and one between rows
  pub columns_show : (f : Line → Line) (start start' x y : ℕ) (items shown : List ℕ) (n : ℕ) → start ≡ y * stride + x → start' ≡ y * width + x → x + 8 ≤ width → y + n ≤ height → Shows width height stride items shown
      → Shows width height stride (lines_filtered f start stride 1 items n) (lines_filtered f start' width 1 shown n)
  columns_show f start start' x y items shown n is is' right down shows =
      lines_show f start stride 1 start' width 1 items shown n (λ i k below less. record { x = x + k; y = y + i; in_row = omega arith; below = omega arith; index = omega arith; shown = omega arith }) shows

  pub rows_show : (f : Line → Line) (start start' x y : ℕ) (items shown : List ℕ) (n : ℕ) → start ≡ y * stride + x → start' ≡ y * width + x → x + n ≤ width → y + 8 ≤ height → Shows width height stride items shown
      → Shows width height stride (lines_filtered f start 1 stride items n) (lines_filtered f start' 1 width shown n)
  rows_show f start start' x y items shown n is is' right down shows =
      lines_show f start 1 stride start' 1 width items shown n (λ i k below less. record { x = x + i; y = y + k; in_row = omega arith; below = omega arith; index = omega arith; shown = omega arith }) shows
