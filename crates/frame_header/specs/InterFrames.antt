use Rattle.std.specs.Prelude.{◌≡◌, ℕ, false, List, Some, IfOk}
use Rattle.vp8_tables.specs.Tables.{TableEntries}
use Rattle.frame_header.specs.Tags.{has_key_tag}
use Rattle.frame_header.specs.Header.{header_of}
use Rattle.frame_header.specs.declared.context.Context.{Context}

-- without refresh_entropy an inter frame leaves the four sets of probabilities that came before it, those of vectors and
-- modes too (RFC 6386, section 19.2)
abbrev pub ProbabilitiesComeBack : Type 0
ProbabilitiesComeBack = (tables : TableEntries) (before : Context) (packet : List ℕ) → has_key_tag packet ≡ false → IfOk (header_of tables (Some before) packet) (λ header. header.refreshes_entropy ≡ false → header.context_after.probabilities ≡ before.probabilities)
