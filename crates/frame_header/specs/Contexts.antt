use Rattle.std.specs.Prelude.{Bool, false, ℤ, pos, List, [], ◌∷◌, Option, unwrap_or, if◌then◌else◌}
use Rattle.vp8_tables.specs.Tables.{TableEntries}
use Rattle.vp8_tables.specs.declared.modes.TheConstants.{DEFAULT_Y_PROBABILITIES, DEFAULT_UV_PROBABILITIES}
use Rattle.vp8_tables.specs.declared.vectors.TheConstants.{DEFAULT_VECTOR_PROBABILITIES}
use Rattle.frame_header.specs.declared.context.Context.{Context}
use Rattle.frame_header.specs.declared.context.Probabilities.{Probabilities}

-- four zeros
abbrev pub no_numbers : List ℤ
no_numbers = pos 0 ∷ pos 0 ∷ pos 0 ∷ pos 0 ∷ []

-- the default probabilities (RFC 6386, sections 13.5, 16.2 and 17.2)
abbrev pub default_probabilities : TableEntries → Probabilities
default_probabilities tables = record {
  coefficients = tables.coefficients;
  vectors = DEFAULT_VECTOR_PROBABILITIES;
  y_modes = DEFAULT_Y_PROBABILITIES;
  uv_modes = DEFAULT_UV_PROBABILITIES;
}

-- the context with which a key frame begins: the default probabilities, and all else 0 (RFC 6386, sections 9.3, 9.4 and 9.7)
abbrev pub default_context : TableEntries → Context
default_context tables = record {
  probabilities = default_probabilities tables;
  segments = record { is_absolute = false; quantizers = no_numbers; levels = no_numbers };
  deltas = record { reference = no_numbers; mode = no_numbers };
  sign_biases = record { golden = false; altref = false };
}

-- the context with which a frame begins: a key frame's is the default one, any other inherits the context before it
abbrev pub first_context : TableEntries → Bool → Option Context → Context
first_context tables is_key before = if is_key then default_context tables else unwrap_or before (default_context tables)
