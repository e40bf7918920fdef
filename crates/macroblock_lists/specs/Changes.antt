-- The probabilities that a header changes (RFC 6386, sections 13.4, 16.2 and 17.2): each with its index, and its values before and after.
use Rattle.std.specs.Prelude.{ℕ, Bool, ◌==◌, if◌then◌else◌, List, [], ◌++◌, codes, length, slice_index, slice_index_or, Option}
use Rattle.std.specs.Fmt.{decimal}
use Rattle.std.specs.List.{flat_map, range_with_len}
use Rattle.std.specs.Option.{option_map}
use Rattle.vp8_tables.specs.Tables.{TableEntries}
use Rattle.frame_header.specs.Contexts.{first_context}
use Rattle.frame_header.specs.declared.context.Probabilities.{Probabilities}
use Rattle.stream_facts.specs.Json.{number_member}
use Rattle.macroblock_lists.specs.declared.changes.Change.{Change}
use Rattle.macroblock_lists.specs.declared.layouts.Form.{Form}
use Rattle.macroblock_lists.specs.declared.layouts.Form.TheVariants.{Lines, Objects}
use Rattle.macroblock_lists.specs.Known.{Known}

abbrev pub name_members : ℕ → List ℕ → List ℕ
name_members packet name = codes "{" ++ number_member (codes "packet") packet ++ codes "\"probability\":\"" ++ name ++ codes "\","

abbrev pub new_member : ℕ → List ℕ
new_member new = codes "\"new\":" ++ decimal new

-- a change in the list of this name: a line, or an object
abbrev pub change_text : Form → ℕ → List ℕ → Change → List ℕ
change_text Lines packet name change = name ++ codes "[" ++ decimal change.index ++ codes "]\t" ++ decimal change.old ++ codes "\t" ++ decimal change.new ++ codes "\n"
change_text Objects packet name change =
    name_members packet name ++ number_member (codes "index") change.index ++ number_member (codes "old") change.old ++ new_member change.new ++ codes "}\n"

abbrev pub change_if : Form → ℕ → List ℕ → Change → List ℕ
change_if form packet name change = if change.old == change.new then [] else change_text form packet name change

abbrev pub change_at : Form → ℕ → List ℕ → List ℕ → List ℕ → ℕ → List ℕ
change_at form packet name old new k = change_if form packet name (record { index = k; old = slice_index old k; new = slice_index new k })

-- the changes of a list, by index
unfoldable pub list_changes : Form → ℕ → List ℕ → List ℕ → List ℕ → List ℕ
list_changes form packet name old new = flat_map (change_at form packet name old new) (range_with_len 0 (length old))

-- of all lists: coefficients by kind, band, context and node, then the modes', then those of the rows and columns of vectors
abbrev pub mode_changes : Form → ℕ → Probabilities → Probabilities → List ℕ
mode_changes form packet old new =
    list_changes form packet (codes "coeff_prob") old.coefficients new.coefficients ++ list_changes form packet (codes "y_mode_prob") old.y_modes new.y_modes
    ++ list_changes form packet (codes "uv_mode_prob") old.uv_modes new.uv_modes

abbrev pub vector_changes : Form → ℕ → List (List ℕ) → List (List ℕ) → List ℕ
vector_changes form packet old new =
    list_changes form packet (codes "mv_row_prob") (slice_index_or old 0 []) (slice_index_or new 0 [])
    ++ list_changes form packet (codes "mv_column_prob") (slice_index_or old 1 []) (slice_index_or new 1 [])

abbrev pub all_changes : Form → ℕ → Probabilities → Probabilities → List ℕ
all_changes form packet old new = mode_changes form packet old new ++ vector_changes form packet old.vectors new.vectors

-- the probabilities with which a frame begins
abbrev pub probabilities_before : TableEntries → Bool → Option Known → Probabilities
probabilities_before tables is_key before = (first_context tables is_key (option_map (λ k. k.context) before)).probabilities
