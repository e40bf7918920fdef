-- A plane whose macroblocks are written in raster order, each with its target samples.
use Rattle.std.proofs.Common.{◌≡◌, ℕ, suc, ◌+◌, ◌-◌, ◌*◌, ◌/◌, ◌%◌, ◌<◌, ◌≤◌, ◌⊎◌, inl, inr, List, length, get_or, refl, ap, sym, ◌∙◌, arith}
use Rattle.std.proofs.lemmas.Bool.{cases_lt}
use Rattle.std.proofs.lemmas.List.{length-replicate, ext_get_or}
use Rattle.std.proofs.Math.Nat.{mod-lt, mul-le-mul, mul-le-mul_left, mul-pos}
use Rattle.std.proofs.lemmas.Nat.{div-add-mod', div_below}
use Rattle.pixel_planes.specs.Samples.{Samples, IsWhole, uniform, sample_at}
use Rattle.reference_frames.specs.Unfiltered.{HoldsSquare, with_block}
use Rattle.reference_frames.specs.PlacedBlocks.{IsInSquare}
use Rattle.reference_frames.proofs.Flat.{IsPlane, IsPlane-with_block_rows, block_write_local}

-- column i of row j is in a macroblock before the macroblock in column mx of row my, in raster order
abbrev pub IsBefore : ℕ → ℕ → ℕ → ℕ → ℕ → Type 0
IsBefore side my mx i j = (j < side * my) ⊎ ((j < side * my + side) × (i < side * mx))

-- the macroblocks before this one have their target samples
pub record IsBegun (target : ℕ → ℕ → ℕ) (side columns rows my mx : ℕ) (p : Samples) : Type 0 where
  pub shape : IsPlane (side * columns) (side * rows) p
  pub done : (i j : ℕ) → i < side * columns → j < side * rows → IsBefore side my mx i j → sample_at p i j ≡ target i j

-- a frame has 1 to 1,024 macroblocks each way, of 8 or 16 samples
pub record IsFrame (side columns rows : ℕ) : Type 0 where
  pub some : 0 < side
  pub small : side ≤ 16
  pub has_columns : 0 < columns
  pub few_columns : columns ≤ 1024
  pub has_rows : 0 < rows
  pub few_rows : rows ≤ 1024

-- a position is in a square, or it is not
in_or_out : (x y side i j : ℕ) → IsInSquare x y side i j ⊎ (IsInSquare x y side i j → ⊥)
in_or_out x y side i j =
    elim (cases_lt i x) [
      | inl before ↦ inr (λ h. absurd (omega (arith, h.0, before)))
      | inr a ↦ elim (cases_lt i (x + side)) [
        | inr following ↦ inr (λ h. absurd (omega (arith, h.1, following)))
        | inl b ↦ elim (cases_lt j y) [
          | inl higher ↦ inr (λ h. absurd (omega (arith, h.2, higher)))
          | inr c ↦ elim (cases_lt j (y + side)) [
            | inr lower ↦ inr (λ h. absurd (omega (arith, h.3, lower)))
            | inl d ↦ inl (a, b, c, d)
          ]
        ]
      ]
    ]

-- a position before the next macroblock and not in this one is before this one
before_out : (side my mx i j : ℕ) → IsBefore side my (suc mx) i j → (IsInSquare (side * mx) (side * my) side i j → ⊥) → IsBefore side my mx i j
before_out side my mx i j (inl above) out = inl above
before_out side my mx i j (inr (low, left)) out =
    elim (cases_lt j (side * my)) [
      | inl above ↦ inl above
      | inr row ↦ elim (cases_lt i (side * mx)) [
        | inl beside ↦ inr (low, beside)
        | inr column ↦ absurd (out (column, omega (arith, left), row, low))
      ]
    ]

whole_plane : (side columns rows : ℕ) (p : Samples) → IsFrame side columns rows → IsPlane (side * columns) (side * rows) p → IsWhole p
whole_plane side columns rows p frame shape =
    let wide : side * columns ≤ 16 * 1024 = nonlinear side columns frame.small frame.few_columns in
    let high : side * rows ≤ 16 * 1024 = nonlinear side rows frame.small frame.few_rows in
    let some_wide : 0 < side * columns = positive side columns frame.some frame.has_columns in
    let some_high : 0 < side * rows = positive side rows frame.some frame.has_rows in
    (omega (arith, shape.wide, some_wide), omega (arith, shape.wide, wide), omega (arith, shape.high, some_high), omega (arith, shape.high, high), shape.whole)
  where
    nonlinear : (a b : ℕ) → a ≤ 16 → b ≤ 1024 → a * b ≤ 16 * 1024
    nonlinear a b h k = mul-le-mul h k

    positive : (a b : ℕ) → 0 < a → 0 < b → 0 < a * b
    positive a b h k = mul-pos h k

-- one more macroblock
pub begun_more : (target : ℕ → ℕ → ℕ) (side columns rows my mx : ℕ) (p : Samples) (sample : ℕ → ℕ → ℕ) → IsFrame side columns rows → mx < columns → my < rows → ((column row : ℕ) → column < side → row < side → sample column row ≡ target (side * mx + column) (side * my + row)) → IsBegun target side columns rows my mx p → IsBegun target side columns rows my (suc mx) (with_block p (side * mx) (side * my) side sample)
begun_more target side columns rows my mx p sample frame in_row in_frame right begun =
    let x = side * mx in
    let y = side * my in
    let within : side * suc mx ≤ side * columns = mul-le-mul_left side in_row in
    let below : side * suc my ≤ side * rows = mul-le-mul_left side in_frame in
    let whole : IsWhole p = whole_plane side columns rows p frame begun.shape in
    let holds : HoldsSquare p x y side = (omega (arith, within, begun.shape.wide), omega (arith, below, begun.shape.high), whole.1, whole.3) in
    let done : (i j : ℕ) → i < side * columns → j < side * rows → IsBefore side my (suc mx) i j → sample_at (with_block p x y side sample) i j ≡ target i j = λ i j a b before.
    let i_in : i < p.width = omega (arith, begun.shape.wide, a) in
    let j_in : j < p.height = omega (arith, begun.shape.high, b) in
    let local = block_write_local p x y side sample i j whole holds i_in j_in in
    elim (in_or_out x y side i j) [
      | inl inside ↦
          let column : x + (i - x) ≡ i = omega (arith, inside.0) in
          let row : y + (j - y) ≡ j = omega (arith, inside.2) in
          let here : sample (i - x) (j - y) ≡ target (x + (i - x)) (y + (j - y)) = right (i - x) (j - y) (omega (arith, inside.0, inside.1)) (omega (arith, inside.2, inside.3)) in
          local.0 inside ∙ here ∙ ap (λ n. target n (y + (j - y))) column ∙ ap (target i) row
      | inr outside ↦ local.1 outside ∙ begun.done i j a b (before_out side my mx i j before outside)
    ] in
    record { shape = IsPlane-with_block_rows (side * columns) (side * rows) p x y side sample side begun.shape; done = done }

-- a row of macroblocks is done
before_next : (side columns my i j : ℕ) → i < side * columns → IsBefore side (suc my) 0 i j → IsBefore side my columns i j
before_next side columns my i j within (inl above) = elim (cases_lt j (side * my)) [ inl higher ↦ inl higher | inr row ↦ inr (omega (arith, above), within) ]
before_next side columns my i j within (inr (low, left)) = absurd (omega (arith, left))

pub begun_next : (target : ℕ → ℕ → ℕ) (side columns rows my : ℕ) (p : Samples) → IsBegun target side columns rows my columns p → IsBegun target side columns rows (suc my) 0 p
begun_next target side columns rows my p begun = record {
  shape = begun.shape;
  done = λ i j a b before. begun.done i j a b (before_next side columns my i j a before);
}

-- nothing is done yet
pub begun_none : (target : ℕ → ℕ → ℕ) (side columns rows : ℕ) → IsBegun target side columns rows 0 0 (uniform (side * columns) (side * rows) 0)
begun_none target side columns rows = record {
  shape = record { wide = refl; high = refl; whole = length-replicate (side * columns * (side * rows)) 0 };
  done = λ i j a b before. absurd (elim before [ inl above ↦ omega (arith, above) | inr (low, left) ↦ omega (arith, left) ]);
}

-- all is done: the plane is the one of the same shape with those samples
same_parts : (w w' h h' : ℕ) (s s' : List ℕ) → w ≡ w' → h ≡ h' → s ≡ s' → ◌≡◌ {A = Samples} (record { width = w; height = h; samples = s }) (record { width = w'; height = h'; samples = s' })
same_parts w w' h h' s s' e f g = cc

pub same_plane : (p q : Samples) → p.width ≡ q.width → p.height ≡ q.height → p.samples ≡ q.samples → p ≡ q
same_plane p q e f g = same_parts p.width q.width p.height q.height p.samples q.samples e f g

pub begun_all : (target : ℕ → ℕ → ℕ) (side columns rows : ℕ) (p q : Samples) → 0 < side * columns → IsPlane (side * columns) (side * rows) q → ((i j : ℕ) → i < side * columns → j < side * rows → sample_at q i j ≡ target i j) → IsBegun target side columns rows rows 0 p → p ≡ q
begun_all target side columns rows p q some shape right begun =
    let w = side * columns in
    let h = side * rows in
    let p_long : length p.samples ≡ w * h = begun.shape.whole ∙ rw (begun.shape.wide, begun.shape.high) refl in
    let q_long : length q.samples ≡ w * h = shape.whole ∙ rw (shape.wide, shape.high) refl in
    let each : (n : ℕ) → n < length p.samples → get_or p.samples n 0 ≡ get_or q.samples n 0 = λ n lt.
    let lt' : n < w * h = rw p_long at lt in
    let i = n % w in
    let j = n / w in
    let column : n % w < w = mod-lt n some in
    let row : n / w < h = div_below n w h some (omega (arith, lt')) in
    let place : n / w * w + n % w ≡ n = div-add-mod' n w in
    let p_here : sample_at p i j ≡ get_or p.samples n 0 = rw begun.shape.wide (ap (λ m. get_or p.samples m 0) place) in
    let q_here : sample_at q i j ≡ get_or q.samples n 0 = rw shape.wide (ap (λ m. get_or q.samples m 0) place) in
    sym p_here ∙ begun.done i j column row (inl row) ∙ sym (right i j column row) ∙ q_here in
    same_plane p q (begun.shape.wide ∙ sym shape.wide) (begun.shape.high ∙ sym shape.high) (ext_get_or 0 p.samples q.samples (p_long ∙ sym q_long) each)
