-- The bytes of a packet, wherever they lie.
use Rattle.std.specs.Prelude.{ℕ, List}
use Rattle.stream_files.specs.declared.parts.Storage.{Storage}
use Rattle.stream_files.specs.declared.parts.Storage.TheVariants.{Own, Shared}

abbrev pub bytes_at : Storage → List ℕ
bytes_at (Own bytes) = bytes.items
bytes_at (Shared part) = part
