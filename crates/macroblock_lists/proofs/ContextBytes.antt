-- The probabilities with which a frame begins are bytes.
use Rattle.std.proofs.Common.{zero, suc, Bool, true, false, [], Option, Some, None, refl}
use Rattle.std.specs.Prelude.{IfSome, slice_index_or}
use Rattle.bool_coder.proofs.Chains.{are_bytes, probabilities}
use Rattle.vp8_tables.specs.Tables.{TableEntries}
use Rattle.vp8_tables.specs.declared.modes.TheConstants.{DEFAULT_Y_PROBABILITIES, DEFAULT_UV_PROBABILITIES}
use Rattle.vp8_tables.specs.declared.vectors.TheConstants.{DEFAULT_VECTOR_PROBABILITIES}
use Rattle.frame_header.specs.Contexts.{default_probabilities, first_context}
use Rattle.mode_parser.specs.Chains.{AreRows}
use Rattle.macroblock_lists.specs.Known.{Known}
use Rattle.macroblock_lists.specs.FirstChains.{AreBytes, context_in}

default_rows : AreRows DEFAULT_VECTOR_PROBABILITIES
unfolding are_bytes
default_rows zero = probabilities (slice_index_or DEFAULT_VECTOR_PROBABILITIES 0 []) refl
default_rows (suc zero) = probabilities (slice_index_or DEFAULT_VECTOR_PROBABILITIES 1 []) refl
default_rows (suc (suc row)) = probabilities [] refl

default_bytes : (tables : TableEntries) → AreBytes (default_probabilities tables)
unfolding are_bytes
default_bytes tables = record { y_modes = probabilities DEFAULT_Y_PROBABILITIES refl; uv_modes = probabilities DEFAULT_UV_PROBABILITIES refl; vectors = default_rows }

-- of a key frame they are the default ones, and of any other those in the state
pub first_bytes : (tables : TableEntries) (is_key : Bool) (state : Option Known) → IfSome state (λ s. AreBytes s.context.probabilities) → AreBytes (first_context tables is_key (context_in state)).probabilities
first_bytes tables true state bytes = default_bytes tables
first_bytes tables false None bytes = default_bytes tables
first_bytes tables false (Some state) bytes = bytes
