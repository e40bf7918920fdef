-- Motion vectors in quarters of a luma sample (RFC 6386, sections 5 and 18). Numbers are whole and do not wrap.
use Rattle.std.specs.Prelude.{Bool, false, ◌&&◌, ℤ, pos, neg_ℤ, ◌+ℤ◌, if◌then◌else◌}
use Rattle.std.specs.Bool.{beq}
use Rattle.std.specs.Ordering.{int_eq}
use Rattle.vp8_tables.specs.Bounds.{IsWithin}
use Rattle.frame_header.specs.declared.references.Reference.{Reference}
use Rattle.frame_header.specs.declared.references.Reference.TheVariants.{Last, Golden, Altref}
use Rattle.frame_header.specs.declared.context.SignBiases.{SignBiases}

-- how far it points to the right, and how far down
pub record MotionVector : Type 0 where
  pub x : ℤ
  pub y : ℤ

abbrev pub IsInRange : ℤ → ℤ → Type 0
IsInRange x y = IsWithin 70000 x × IsWithin 70000 y

abbrev pub zero_vector : MotionVector
zero_vector = record { x = pos 0; y = pos 0 }

abbrev pub sum_of : MotionVector → MotionVector → MotionVector
sum_of a b = record { x = a.x +ℤ b.x; y = a.y +ℤ b.y }

abbrev pub opposite : MotionVector → MotionVector
opposite v = record { x = neg_ℤ v.x; y = neg_ℤ v.y }

-- whether two vectors are one
abbrev pub is_same : MotionVector → MotionVector → Bool
is_same a b = int_eq a.x b.x && int_eq a.y b.y

-- the sign bias of a reference (`mv_bias`): whether vectors to it are stored with the other sign (section 9.7)
abbrev pub is_biased : SignBiases → Reference → Bool
is_biased biases Last = false
is_biased biases Golden = biases.golden
is_biased biases Altref = biases.altref

-- a vector to another reference with the sign bias applied: negated if the sign biases of the two differ (section 9.7)
abbrev pub with_sign_bias : SignBiases → Reference → Reference → MotionVector → MotionVector
with_sign_bias biases reference other v = if beq (is_biased biases other) (is_biased biases reference) then v else opposite v
