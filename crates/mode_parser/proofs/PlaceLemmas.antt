-- The next index in raster order
use Rattle.std.proofs.Common.{◌≡◌, ℕ, ◌+◌, ◌*◌, ◌/◌, ◌%◌, ◌<◌, ◌≤◌, refl, ap, sym, ◌∙◌, arith}
use Rattle.mode_parser.specs.declared.nearby.MbPosition.{MbPosition}
use Rattle.mode_parser.specs.FrameModes.{place_of}
use Rattle.std.proofs.lemmas.Nat.{div-add-mod', div-mul-add, mod-mul-add}

within-row : (columns n : ℕ) → n % columns + 1 < columns → (n / columns * columns + (n % columns + 1)) ≡ n + 1
within-row columns n inside = let same = div-add-mod' n columns in omega (arith, same)

column-on : (columns n : ℕ) → n % columns + 1 < columns → (n + 1) % columns ≡ n % columns + 1
column-on columns n inside = ap (λ m. m % columns) (sym (within-row columns n inside)) ∙ mod-mul-add (n / columns) columns (n % columns + 1) inside

row-on : (columns n : ℕ) → n % columns + 1 < columns → (n + 1) / columns ≡ n / columns
row-on columns n inside = ap (λ m. m / columns) (sym (within-row columns n inside)) ∙ div-mul-add (n / columns) columns (n % columns + 1) inside

next-row : (columns n : ℕ) → n % columns < columns → columns ≤ n % columns + 1 → ((n / columns + 1) * columns + 0) ≡ n + 1
next-row columns n inside last = let same = div-add-mod' n columns in grind (arith, same)

column-back : (columns n : ℕ) → n % columns < columns → columns ≤ n % columns + 1 → (n + 1) % columns ≡ 0
column-back columns n inside last = ap (λ m. m % columns) (sym (next-row columns n inside last)) ∙ mod-mul-add (n / columns + 1) columns 0 (omega (arith, inside))

row-down : (columns n : ℕ) → n % columns < columns → columns ≤ n % columns + 1 → (n + 1) / columns ≡ n / columns + 1
row-down columns n inside last = ap (λ m. m / columns) (sym (next-row columns n inside last)) ∙ div-mul-add (n / columns + 1) columns 0 (omega (arith, inside))

pub place-on : (columns rows column row n : ℕ) → column ≡ n % columns → row ≡ n / columns → column + 1 < columns → ◌≡◌ {A = MbPosition} record { column = column + 1; row = row; columns = columns; rows = rows } (place_of columns rows (n + 1))
place-on columns rows column row n is_column is_row more =
    let inside = rw is_column at more in
    rw (column-on columns n inside, row-on columns n inside, is_column, is_row) refl

pub place-down : (columns rows column row n : ℕ) → column ≡ n % columns → row ≡ n / columns → column < columns → columns ≤ column + 1 → ◌≡◌ {A = MbPosition} record { column = 0; row = row + 1; columns = columns; rows = rows } (place_of columns rows (n + 1))
place-down columns rows column row n is_column is_row below last =
    let inside = rw is_column at below in
    let end = rw is_column at last in
    rw (column-back columns n inside end, row-down columns n inside end, is_row) refl

nothing : (columns : ℕ) → 0 * columns + 0 ≡ 0
nothing columns = omega arith

pub place-start : (columns rows : ℕ) → 1 ≤ columns → ◌≡◌ {A = MbPosition} record { column = 0; row = 0; columns = columns; rows = rows } (place_of columns rows 0)
place-start columns rows some =
    let below : 0 < columns = omega (arith, some) in
    let column : 0 % columns ≡ 0 = ap (λ m. m % columns) (sym (nothing columns)) ∙ mod-mul-add 0 columns 0 below in
    let row : 0 / columns ≡ 0 = ap (λ m. m / columns) (sym (nothing columns)) ∙ div-mul-add 0 columns 0 below in
    rw (column, row) refl
