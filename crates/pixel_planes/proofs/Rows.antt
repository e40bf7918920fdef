-- A row that is written, in the whole list of samples.
use Rattle.std.specs.Prelude.{slice_index}
use Rattle.std.specs.Simd.Lanes.{put_chunk}
use Rattle.std.proofs.Common.{◌≡◌, ℕ, zero, suc, ◌+◌, ◌*◌, ◌<◌, ◌≤◌, List, [], ◌∷◌, ◌++◌, length, take, drop, refl, ap, sym, ◌∙◌, arith, eq-eqb, inl, inr}
use Rattle.std.proofs.Math.Nat.{mul-le-mul_left}
use Rattle.std.proofs.Math.Seq.{take-append_seam}
use Rattle.std.proofs.lemmas.Bool.{cases_lt, cases_eq, ne_eqb, cond-true, cond-false}
use Rattle.std.proofs.lemmas.Simd.{get_or-put_chunk_below, get_or-put_chunk_at, get_or-put_chunk_above}
use Rattle.pixel_planes.specs.Samples.{Samples, sample_at, with_row, WritesOneRow}

-- the list of a `Vec` after a lent range of it was written
pub lent_range_is_put : (i : ℕ) (xs ws : List ℕ) → take (length xs) ((take i xs ++ (ws ++ drop (length ws) (drop i xs))) ++ drop (length (take i xs ++ (ws ++ drop (length ws) (drop i xs)))) xs) ≡ put_chunk i xs ws
lent_range_is_put i [] ws = refl
lent_range_is_put zero (x ∷ xs) [] = take-append_seam (x ∷ xs) (drop (length (x ∷ xs)) (x ∷ xs))
lent_range_is_put zero (x ∷ xs) (w ∷ ws) = ap (λ (l : List ℕ). w ∷ l) (lent_range_is_put zero xs ws)
lent_range_is_put (suc i) (x ∷ xs) ws = ap (λ (l : List ℕ). x ∷ l) (lent_range_is_put i xs ws)

-- the same, with the length under another name
pub written_range : (n i : ℕ) (xs ws : List ℕ) → n ≡ length xs → take n ((take i xs ++ (ws ++ drop (length ws) (drop i xs))) ++ drop (length (take i xs ++ (ws ++ drop (length ws) (drop i xs)))) xs) ≡ put_chunk i xs ws
written_range n i xs ws e = rw e (lent_range_is_put i xs ws)

-- an index in a row above row y is before row y
before_row : (w x y other : ℕ) → x < w → other < y → other * w + x < y * w
before_row w x y other in_row above = grind (arith, mul-le-mul_left)

-- row y is within a plane of more than y rows
pub row_fits : (w h y : ℕ) → y < h → y * w + w ≤ w * h
row_fits w h y below = grind (arith, mul-le-mul_left)

-- an index in a row below row y is after row y
after_row : (w x y other : ℕ) → y < other → y * w + w ≤ other * w + x
after_row w x y other below = grind (arith, mul-le-mul_left)

-- two different numbers in order
ne_lt : (other y : ℕ) → (other ≡ y → ⊥) → y ≤ other → y < other
ne_lt other y apart le = omega arith

-- the row that was written
pub written_row : (p : Samples) (y : ℕ) (row : List ℕ) (x : ℕ) → length p.samples ≡ p.width * p.height → length row ≡ p.width → y < p.height → x < p.width → sample_at (with_row p y row) x y ≡ slice_index row x
written_row p y row x whole len in_plane in_row =
    let fits : y * p.width + p.width ≤ p.width * p.height = row_fits p.width p.height y in_plane in
    get_or-put_chunk_at (y * p.width) p.samples row x 0 (omega arith) (omega arith)

-- every other row
pub kept_row : (p : Samples) (y : ℕ) (row : List ℕ) (x other : ℕ) → length row ≡ p.width → x < p.width → (other ≡ y → ⊥) → sample_at (with_row p y row) x other ≡ sample_at p x other
kept_row p y row x other len in_row apart =
    elim (cases_lt other y) [
      | inl above ↦ get_or-put_chunk_below (y * p.width) p.samples row (other * p.width + x) 0 (before_row p.width x y other in_row above)
      | inr below ↦
          let after : y * p.width + p.width ≤ other * p.width + x = after_row p.width x y other (ne_lt other y apart below) in
          get_or-put_chunk_above (y * p.width) p.samples row (other * p.width + x) 0 (omega arith)
    ]

pub row_write_local : WritesOneRow
row_write_local p y row x other whole len in_plane in_row other_in_plane =
    elim (cases_eq other y) [
      | inl same ↦ rw same (written_row p y row x whole.4 len in_plane in_row ∙ sym (cond-true _ _ _ (eq-eqb y y refl)))
      | inr apart ↦ kept_row p y row x other len in_row apart ∙ sym (cond-false _ _ _ (ne_eqb other y apart))
    ]
