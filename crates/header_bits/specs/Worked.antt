-- The bits of worked headers, by hand.
use Rattle.std.specs.Prelude.{false, true, [], ◌∷◌, replicate}
use Rattle.header_bits.specs.declared.bits.HeaderBits.{HeaderBits}

-- a key frame that sets fields of each kind: of its segments three quantizers, three levels, the last of them as 0, and two
-- probabilities are coded, of its changes of the level five, of its quantizers four, and two probabilities of coefficients
abbrev pub bits_written : HeaderBits
bits_written = record {
  segments = record { quantizers = 9 ∷ 9 ∷ 1 ∷ 9 ∷ []; levels = 8 ∷ 1 ∷ 8 ∷ 8 ∷ []; map_probabilities = 9 ∷ 1 ∷ 9 ∷ [] };
  deltas = record { are_updated = true; references = 8 ∷ 1 ∷ 8 ∷ 8 ∷ []; modes = 1 ∷ 8 ∷ 8 ∷ 1 ∷ [] };
  quantizers = 6 ∷ 1 ∷ 6 ∷ 6 ∷ 6 ∷ [];
  coefficients = 1072;
  inter = record { y_modes = 0; uv_modes = 0; vectors = 0 };
}

-- a key frame without segments and changes of the level, with two quantizers and one probability of coefficients
abbrev pub key_bits : HeaderBits
key_bits = record {
  segments = record { quantizers = replicate 4 0; levels = replicate 4 0; map_probabilities = replicate 3 0 };
  deltas = record { are_updated = false; references = replicate 4 0; modes = replicate 4 0 };
  quantizers = 1 ∷ 6 ∷ 1 ∷ 1 ∷ 6 ∷ [];
  coefficients = 1064;
  inter = record { y_modes = 0; uv_modes = 0; vectors = 0 };
}

-- an inter frame with two changes of the level, one of the quantizer, one probability of coefficients, those of luma modes, and
-- three of vectors
abbrev pub inter_bits_written : HeaderBits
inter_bits_written = record {
  segments = record { quantizers = replicate 4 0; levels = replicate 4 0; map_probabilities = replicate 3 0 };
  deltas = record { are_updated = true; references = 1 ∷ 8 ∷ 1 ∷ 1 ∷ []; modes = 1 ∷ 1 ∷ 8 ∷ 1 ∷ [] };
  quantizers = 1 ∷ 1 ∷ 6 ∷ 1 ∷ 1 ∷ [];
  coefficients = 1064;
  inter = record { y_modes = 33; uv_modes = 1; vectors = 59 };
}
