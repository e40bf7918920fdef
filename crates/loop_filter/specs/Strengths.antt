-- The limits by which the edges of a macroblock are filtered (RFC 6386, section 15.4).
use Rattle.std.specs.Prelude.{◌≡◌, ℕ, ◌≤◌, List, Some, slice_get, ◌+◌, ◌-◌, ◌*◌, ◌/◌, ◌==◌, nat_lt, min, max, Bool, if◌then◌else◌}
use Rattle.loop_filter.specs.declared.edge_limits.Limits.{Limits}

-- the level, halved or quartered by the sharpness and then at most 9 minus it; at least 1
abbrev pub interior_limit : ℕ → ℕ → ℕ
interior_limit level sharpness =
    max 1 (if sharpness == 0 then level else min (level / (if nat_lt 4 sharpness then 4 else 2)) (9 - sharpness))

-- the high edge variance threshold, of key frames and of others
abbrev pub variance_threshold : ℕ → Bool → ℕ
variance_threshold level is_key =
    if is_key
    then (if nat_lt level 15 then 0 else if nat_lt level 40 then 1 else 2)
    else (if nat_lt level 15 then 0 else if nat_lt level 20 then 1 else if nat_lt level 40 then 2 else 3)

-- the limits of a macroblock of this level in a frame of this sharpness
unfoldable pub limits_of : ℕ → ℕ → Bool → Limits
limits_of level sharpness is_key = record {
  interior = interior_limit level sharpness;
  variance = variance_threshold level is_key;
  macroblock_edge = (level + 2) * 2 + interior_limit level sharpness;
  inner_edge = level * 2 + interior_limit level sharpness;
}

-- each level up to 63 has its limits at its index in a table
pub record AreLimits (sharpness : ℕ) (is_key : Bool) (table : List Limits) : Type 0 where
  pub value : (level : ℕ) → level ≤ 63 → slice_get table level ≡ Some (limits_of level sharpness is_key)
  pub macroblock_edge : (level : ℕ) → level ≤ 63 → (limits_of level sharpness is_key).macroblock_edge ≤ 193
  pub inner_edge : (level : ℕ) → level ≤ 63 → (limits_of level sharpness is_key).inner_edge ≤ 189
