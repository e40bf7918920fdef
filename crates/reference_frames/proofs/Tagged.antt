-- A packet with a tag has bytes, so its step is that of its header.
use Rattle.std.proofs.Common.{◌≡◌, ℕ, ◌==◌, true, false, List, [], ◌∷◌, length, Some}
use Rattle.std.proofs.Math.Dec.{eqb-suc-zero}
use Rattle.frame_header.specs.Tags.{has_key_tag, tag_of}
use Rattle.frame_header.specs.declared.tag_fields.Tag.{Tag}

pub tagged_has_bytes : (packet : List ℕ) (tag : Tag) → tag_of packet ≡ Some tag → (length packet == 0) ≡ false
tagged_has_bytes [] tag is = cc
tagged_has_bytes (byte ∷ bytes) tag is = eqb-suc-zero (length bytes)

pub key_has_bytes : (packet : List ℕ) → has_key_tag packet ≡ true → (length packet == 0) ≡ false
key_has_bytes [] is = cc
key_has_bytes (byte ∷ bytes) is = eqb-suc-zero (length bytes)
