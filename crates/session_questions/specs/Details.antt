-- What a packet of a list is made of, as JSON.
use Rattle.std.specs.Prelude.{ℕ, List}
use Rattle.vp8_tables.specs.Tables.{TableEntries}
use Rattle.packet_edits.specs.Edits.{Listing}
use Rattle.packet_edits.specs.Saved.{packets_of}
use Rattle.macroblock_lists.specs.declared.layouts.Form.TheVariants as forms
use Rattle.macroblock_lists.specs.declared.layouts.What.{What}
use Rattle.macroblock_lists.specs.Texts.{text_at}

-- the objects of the packet at an index, its macroblocks or its header, as vp8list has them of the file that the packets are saved to
abbrev pub detail_text : What → TableEntries → Listing → ℕ → List ℕ
detail_text what tables list at = text_at what forms.Objects tables (packets_of list) at
