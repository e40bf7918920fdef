-- The fields after the number of token partitions.
use Rattle.std.specs.Prelude.{ℕ, Bool, Option, Some, None, List, if◌then◌else◌}
use Rattle.bool_coder.specs.Reader.{read}
use Rattle.bool_coder.specs.Reading.{Reading, ◌>>=◌, give, flag, literal, signed}
use Rattle.frame_header.specs.Updates.{first_updated}
use Rattle.frame_header.specs.References.{refreshes}
use Rattle.frame_header.specs.InterFields.{no_reference_probabilities, inter_fields}
use Rattle.frame_header.specs.declared.context.Context.{Context}
use Rattle.frame_header.specs.declared.context.Probabilities.{Probabilities}
use Rattle.frame_header.specs.declared.inter_fields.ReferenceProbabilities.{ReferenceProbabilities}
use Rattle.frame_header.specs.declared.trailing_fields.Quantizers.{Quantizers}
use Rattle.frame_header.specs.declared.trailing_fields.TrailingFields.{TrailingFields}

-- the quantizer index and the changes of it, of which an absent one is 0 (RFC 6386, section 9.6)
unfoldable pub quantizers : Reading Quantizers
quantizers = do
  y_ac ← literal 7
  y_dc ← signed 4
  y2_dc ← signed 4
  y2_ac ← signed 4
  uv_dc ← signed 4
  uv_ac ← signed 4
  give (record { y_ac_index = y_ac; y_dc_delta = y_dc; y2_dc_delta = y2_dc; y2_ac_delta = y2_ac; uv_dc_delta = uv_dc; uv_ac_delta = uv_ac })

-- a probability: a new one if a bit read with its update probability is set, else the one before (RFC 6386, section 13.4)
unfoldable pub updated : ℕ → ℕ → Reading ℕ
updated update before = do
  is_updated ← read update
  if is_updated then literal 8 else give before

-- the probability that a macroblock is not skipped, if some may be (RFC 6386, section 9.11)
unfoldable pub skip_probability : Reading (Option ℕ)
skip_probability = do
  may_skip ← flag
  if may_skip then (do
    prob ← literal 8
    give (Some prob)) else give None

-- the probabilities of the references, and the sets with their updates; a key frame has none of these (RFC 6386, section 9.10)
abbrev pub after_skip : Bool → Probabilities → Reading (ReferenceProbabilities × Probabilities)
after_skip is_key before = if is_key then give (no_reference_probabilities, before) else inter_fields before

-- the fields in order, and the context with their changes (RFC 6386, section 19.2)
unfoldable pub trailing_fields : Bool → List ℕ → Context → Reading (TrailingFields × Context)
trailing_fields is_key updates before = do
  quantizers ← quantizers
  kept ← refreshes is_key before.sign_biases
  coefficients ← first_updated updated 1056 updates before.probabilities.coefficients
  skip ← skip_probability
  inter ← after_skip is_key (record before.probabilities { coefficients = coefficients })
  let trailing : TrailingFields = record { quantizers = quantizers; references = kept.0.references; refreshes_entropy = kept.0.refreshes_entropy; skip_probability = skip; reference_probabilities = inter.0 }
  give (trailing, record before { probabilities = inter.1; sign_biases = kept.1 })
