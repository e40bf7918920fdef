-- The fields after the probability of skipping, which only inter frames have.
use Rattle.std.specs.Prelude.{ℕ, ◌*◌, List, [], ◌∷◌, slice_index_or, ◌==◌, if◌then◌else◌}
use Rattle.vp8_tables.specs.declared.vectors.TheConstants.{VECTOR_UPDATE_PROBABILITIES}
use Rattle.bool_coder.specs.Reader.{read}
use Rattle.bool_coder.specs.Reading.{Reading, ◌>>=◌, give, flag, literal}
use Rattle.frame_header.specs.Updates.{first_updated}
use Rattle.frame_header.specs.declared.context.Probabilities.{Probabilities}
use Rattle.frame_header.specs.declared.inter_fields.ReferenceProbabilities.{ReferenceProbabilities}

-- prob_intra, prob_last and prob_gf (RFC 6386, section 9.10)
unfoldable pub reference_probabilities : Reading ReferenceProbabilities
reference_probabilities = do
  intra ← literal 8
  last ← literal 8
  golden ← literal 8
  give (record { intra = intra; last = last; golden = golden })

-- the fields of a key frame, which reads none
abbrev pub no_reference_probabilities : ReferenceProbabilities
no_reference_probabilities = record { intra = 0; last = 0; golden = 0 }

-- the probabilities of the luma mode tree: all four are new after a set flag (RFC 6386, section 16.2)
unfoldable pub y_modes : List ℕ → Reading (List ℕ)
y_modes before = do
  is_updated ← flag
  if is_updated then (do
    first ← literal 8
    second ← literal 8
    third ← literal 8
    fourth ← literal 8
    give (first ∷ second ∷ third ∷ fourth ∷ [])) else give before

-- the probabilities of the chroma mode tree: all three are new after a set flag (RFC 6386, section 16.2)
unfoldable pub uv_modes : List ℕ → Reading (List ℕ)
uv_modes before = do
  is_updated ← flag
  if is_updated then (do
    first ← literal 8
    second ← literal 8
    third ← literal 8
    give (first ∷ second ∷ third ∷ [])) else give before

-- a probability of a vector: if a bit read with its update probability is set, twice the seven bits after it, or 1 if these
-- are 0; else the one before (RFC 6386, section 17.2)
unfoldable pub vector_probability : ℕ → ℕ → Reading ℕ
vector_probability update before = do
  is_updated ← read update
  if is_updated then (do
    half ← literal 7
    give (if half == 0 then 1 else 2 * half)) else give before

-- the probabilities of vectors, for the row and then for the column (RFC 6386, section 17.2)
unfoldable pub vectors : List (List ℕ) → Reading (List (List ℕ))
vectors before = do
  row ← first_updated vector_probability 19 (slice_index_or VECTOR_UPDATE_PROBABILITIES 0 []) (slice_index_or before 0 [])
  column ← first_updated vector_probability 19 (slice_index_or VECTOR_UPDATE_PROBABILITIES 1 []) (slice_index_or before 1 [])
  give (row ∷ column ∷ [])

-- the fields in order, and the probabilities with their changes (RFC 6386, section 9.10)
unfoldable pub inter_fields : Probabilities → Reading (ReferenceProbabilities × Probabilities)
inter_fields before = do
  references ← reference_probabilities
  y ← y_modes before.y_modes
  uv ← uv_modes before.uv_modes
  vector ← vectors before.vectors
  give (references, record before { y_modes = y; uv_modes = uv; vectors = vector })
