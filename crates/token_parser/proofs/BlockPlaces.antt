-- The positions of the blocks of a macroblock
use Rattle.std.proofs.Common.{◌≡◌, ℕ, zero, suc, ◌+◌, ◌<◌, Bool, true, false, List, [], ◌∷◌, slice_index_or, map, refl, ap, sym, ◌∙◌, arith}
use Rattle.std.specs.Prelude.{nat_lt}
use Rattle.std.specs.List.{list_all, range_with_len}
use Rattle.std.proofs.lemmas.Bool.{and_parts}
use Rattle.std.proofs.lemmas.Bool.Decides.{nat_tests}
use Rattle.std.proofs.lemmas.List.FromFn.{get_or-map-range_with_len}
use Rattle.token_parser.specs.declared.block_position.BlockPosition.{BlockPosition}
use Rattle.token_parser.specs.declared.macroblocks.TheConstants.{ABOVE, LEFT}
use Rattle.token_parser.specs.Blocks.{place_of, first_position}

-- a fact of all entries holds for each
pub small-at : (bound : ℕ) (xs : List ℕ) (k : ℕ) → 0 < bound → list_all (λ x. nat_lt x bound) xs ≡ true → slice_index_or xs k 0 < bound
small-at bound [] k least small = least
small-at bound (x ∷ xs) zero least small = let first : nat_lt x bound ≡ true = (and_parts _ _ small).0 in grind (arith, nat_tests, first)
small-at bound (x ∷ xs) (suc k) least small = small-at bound xs k least (and_parts _ _ small).1

-- two functions that are the same at each number below a count
pub same_at : {A : Type 0} (d : A) (f g : ℕ → A) (count k : ℕ) → map f (range_with_len 0 count) ≡ map g (range_with_len 0 count) → k < count → f k ≡ g k
same_at d f g count k same below =
    let there : 0 + k ≡ k = omega arith in
    sym (get_or-map-range_with_len f 0 count k k d below there) ∙ ap (λ xs. slice_index_or xs k d) same ∙ get_or-map-range_with_len g 0 count k k d below there

-- a position with the numbers of the tables
abbrev pub in_tables : ℕ → ℕ → ℕ → BlockPosition
in_tables kind first index = record { kind = kind; first = first; index = index; above = slice_index_or ABOVE index 0; left = slice_index_or LEFT index 0 }

pub place-in_tables : (has_y2 : Bool) (k : ℕ) → k < 25 → place_of has_y2 k ≡ in_tables (place_of has_y2 k).kind (place_of has_y2 k).first (place_of has_y2 k).index
place-in_tables true k below = same_at (place_of true 0) (λ n. place_of true n) (λ n. in_tables (place_of true n).kind (place_of true n).first (place_of true n).index) 25 k refl below
place-in_tables false k below = same_at (place_of false 0) (λ n. place_of false n) (λ n. in_tables (place_of false n).kind (place_of false n).first (place_of false n).index) 25 k refl below

-- where their tokens begin
pub place-first : (has_y2 : Bool) (k : ℕ) → k < 25 → first_position has_y2 (place_of has_y2 k).index ≡ (place_of has_y2 k).first
place-first true k below = same_at 0 (λ n. first_position true (place_of true n).index) (λ n. (place_of true n).first) 25 k refl below
place-first false k below = same_at 0 (λ n. first_position false (place_of false n).index) (λ n. (place_of false n).first) 25 k refl below
