-- The blocks of a group
use Rattle.std.proofs.Common.{◌≡◌, ℕ, ◌+◌, ◌<◌, ◌≤◌, Bool, true, false, refl, ap, sym, ◌∙◌, arith}
use Rattle.std.specs.Prelude.{nat_lt, ◌||◌}
use Rattle.std.proofs.lemmas.Bool.{lt-ltb}
use Rattle.token_parser.specs.declared.macroblocks.Group.{Group}
use Rattle.token_parser.specs.declared.macroblocks.TheConstants.{ABOVE, LEFT, Y2, CHROMA}
use Rattle.token_parser.specs.Blocks.{IsInside, place_of, first_position}
use Rattle.token_parser.specs.Groups.{IsGroup, IsOfGroup, luma_group}
use Rattle.token_parser.proofs.BlockPlaces.{in_tables, place-in_tables, place-first, small-at, same_at}

-- the position of one of them
pub group_place : (has_y2 : Bool) (group : Group) (k index : ℕ) → IsOfGroup has_y2 group k index → place_of has_y2 k ≡ in_tables group.kind group.first index
group_place has_y2 group k index is =
    place-in_tables has_y2 k is.below ∙ ap (λ (n : ℕ). in_tables n (place_of has_y2 k).first (place_of has_y2 k).index) is.kind ∙ ap (λ (n : ℕ). in_tables group.kind n (place_of has_y2 k).index) is.first
    ∙ ap (λ (n : ℕ). in_tables group.kind group.first n) is.index

pub group_first : (has_y2 : Bool) (group : Group) (k index : ℕ) → IsOfGroup has_y2 group k index → first_position has_y2 index ≡ group.first
group_first has_y2 group k index is = ap (first_position has_y2) (sym is.index) ∙ place-first has_y2 k is.below ∙ is.first

-- it is inside
pub is_inside : (kind first index : ℕ) → kind < 4 → first ≤ 1 → index < 25 → IsInside (in_tables kind first index)
is_inside kind first index is_kind is_first is_index = record { kind = is_kind; first = is_first; index = is_index; above = small-at 9 ABOVE index (omega arith) refl; left = small-at 9 LEFT index (omega arith) refl }

-- the three groups
pub y2_group : IsGroup true 0 Y2
y2_group n less =
    let first : n ≡ 0 = omega arith in
    rw first (record { below = omega arith; is_read = refl; index = refl; kind = refl; first = refl })

is_read : (has_y2 : Bool) (k : ℕ) → 0 < k → (nat_lt 0 k || has_y2) ≡ true
is_read has_y2 k some = rw (lt-ltb 0 k some) refl

pub luma_is_group : (has_y2 : Bool) → IsGroup has_y2 1 (luma_group has_y2)
luma_is_group true n less = record {
  below = omega arith;
  is_read = is_read true (1 + n) (omega arith);
  index = same_at 0 (λ n. (place_of true (1 + n)).index) (λ n. 0 + n) 16 n refl less;
  kind = same_at 0 (λ n. (place_of true (1 + n)).kind) (λ n. 0) 16 n refl less;
  first = same_at 0 (λ n. (place_of true (1 + n)).first) (λ n. 1) 16 n refl less;
}
luma_is_group false n less = record {
  below = omega arith;
  is_read = is_read false (1 + n) (omega arith);
  index = same_at 0 (λ n. (place_of false (1 + n)).index) (λ n. 0 + n) 16 n refl less;
  kind = same_at 0 (λ n. (place_of false (1 + n)).kind) (λ n. 3) 16 n refl less;
  first = same_at 0 (λ n. (place_of false (1 + n)).first) (λ n. 0) 16 n refl less;
}

pub chroma_group : (has_y2 : Bool) → IsGroup has_y2 17 CHROMA
chroma_group has_y2 n less = record {
  below = omega arith;
  is_read = is_read has_y2 (17 + n) (omega arith);
  index = same_at 0 (λ n. (place_of has_y2 (17 + n)).index) (λ n. 16 + n) 8 n refl less;
  kind = same_at 0 (λ n. (place_of has_y2 (17 + n)).kind) (λ n. 2) 8 n refl less;
  first = same_at 0 (λ n. (place_of has_y2 (17 + n)).first) (λ n. 0) 8 n refl less;
}
