use Rattle.std.specs.Prelude.{◌≡◌, ℕ, true, List, Option, None, IfOk, if◌then◌else◌}
use Rattle.vp8_tables.specs.Tables.{TableEntries}
use Rattle.frame_header.specs.Tags.{has_key_tag}
use Rattle.frame_header.specs.declared.context.Context.{Context}
use Rattle.frame_header.specs.declared.header.Header.{Header}
use Rattle.frame_header.specs.Contexts.{default_probabilities}
use Rattle.frame_header.specs.Header.{header_of}
use Rattle.frame_header.specs.References.{all_refreshed}

-- the header of a packet with a key tag is the same after every context as after none
abbrev pub KeysTakeNoContext : Type 0
KeysTakeNoContext = (tables : TableEntries) (before : Option Context) (packet : List ℕ) → has_key_tag packet ≡ true → header_of tables before packet ≡ header_of tables None packet

-- the context that a key frame leaves: its own, but without refresh_entropy with the default probabilities
abbrev pub key_context_after : TableEntries → Header → Context
key_context_after tables header = if header.refreshes_entropy then header.context else record header.context { probabilities = default_probabilities tables }

-- each header of a packet with a key tag leaves that context
abbrev pub KeysLeaveDefaults : Type 0
KeysLeaveDefaults = (tables : TableEntries) (before : Option Context) (packet : List ℕ) → has_key_tag packet ≡ true → IfOk (header_of tables before packet) (λ header. header.context_after ≡ key_context_after tables header)

-- each packet with a key tag becomes every reference (RFC 6386, section 9.7)
abbrev pub KeysRefreshAll : Type 0
KeysRefreshAll = (tables : TableEntries) (before : Option Context) (packet : List ℕ) → has_key_tag packet ≡ true → IfOk (header_of tables before packet) (λ header. header.references ≡ all_refreshed)
