-- The file for the frames.
use Rattle.std.specs.Prelude.{◌≡◌, ℕ, List, [], Option, Some, None, Result, Ok, Err, codes}
use Rattle.std.specs.Io.Buffered.{writer_buffer, writer_inner}
use Rattle.std.specs.Io.KnownBytes.{IsAtEnd}
use Rattle.std.specs.declared.io.buffered.BufWriter.{BufWriter}
use Rattle.output_files.specs.declared.counted.Counted.{Counted}

-- the file that was made at a path, empty, after an empty buffer; there is none without a path
abbrev pub IsMadeAt : {F A : Type 0} → (contents : F → Option (List ℕ)) → (is_made : List ℕ → F → Type 0) → (path : List ℕ) → Option (BufWriter (Counted F) A) → Type 0
IsMadeAt contents is_made path None = path ≡ codes "-"
IsMadeAt contents is_made path (Some frames) = is_made path (writer_inner frames).inner × IsAtEnd (contents (writer_inner frames).inner) × (writer_buffer frames ≡ [])

-- a run's result after its frames were flushed: the same, or that they were not
abbrev pub IsFlushed : {T E : Type 0} → (unflushed : E) → (answered result : Result T E) → Type 0
IsFlushed unflushed (Ok value) (Ok same) = same ≡ value
IsFlushed unflushed (Ok value) (Err fault) = fault ≡ unflushed
IsFlushed unflushed (Err fault) (Ok value) = ⊥
IsFlushed unflushed (Err fault) (Err same) = same ≡ fault
