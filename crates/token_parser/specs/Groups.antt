-- Blocks of a kind whose tokens follow each other.
use Rattle.std.specs.Prelude.{◌≡◌, ℕ, ◌+◌, ◌-◌, ◌<◌, ◌||◌, Bool, true, nat_lt, if◌then◌else◌}
use Rattle.std.specs.Int.{from_bool}
use Rattle.token_parser.specs.declared.macroblocks.Group.{Group}
use Rattle.token_parser.specs.Blocks.{place_of}

-- the 16 blocks of luma
abbrev pub luma_group : Bool → Group
luma_group has_y2 = record { kind = if has_y2 then 0 else 3; first = from_bool has_y2; start = 0; end = 16 }

-- the tokens of a block of a group are number k of the macroblock: they are read, and have the group's kind and index
-- of the first token
pub record IsOfGroup (has_y2 : Bool) (group : Group) (k block : ℕ) : Type 0 where
  pub below : k < 25
  pub is_read : (nat_lt 0 k || has_y2) ≡ true
  pub index : (place_of has_y2 k).index ≡ block
  pub kind : (place_of has_y2 k).kind ≡ group.kind
  pub first : (place_of has_y2 k).first ≡ group.first

-- so do all its blocks, from number k on
abbrev pub IsGroup : Bool → ℕ → Group → Type 0
IsGroup has_y2 k group = (n : ℕ) → n < group.end - group.start → IsOfGroup has_y2 group (k + n) (group.start + n)
