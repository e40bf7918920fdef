use Rattle.std.specs.Prelude.{ℕ, ◌+◌, ◌*◌, ◌==◌, List, length, take, drop, replicate, slice_range, Result, Ok, Err, if◌then◌else◌}
use Rattle.vp8_tables.specs.declared.fault.TableFault.{TableFault}
use Rattle.vp8_tables.specs.declared.fault.TableFault.TheVariants.{Length}

-- the entries of the three long tables, each in index order
pub record TableEntries : Type 0 where
  pub coefficients : List ℕ
  pub updates : List ℕ
  pub key_subs : List ℕ

-- every entry is 128
abbrev pub flat_entries : TableEntries
flat_entries = record { coefficients = replicate 1056 128; updates = replicate 1056 128; key_subs = replicate 900 128 }

-- the three tables of a text, one after another
abbrev pub entries_in : List ℕ → TableEntries
entries_in bytes = record { coefficients = take 1056 bytes; updates = take 1056 (drop 1056 bytes); key_subs = drop 1056 (drop 1056 bytes) }

-- the tables of a text, which has 4 * 8 * 3 * 11 + 4 * 8 * 3 * 11 + 10 * 10 * 9 bytes
abbrev pub entries_of : List ℕ → Result TableEntries TableFault
entries_of bytes = if length bytes == 3012 then Ok (entries_in bytes) else Err Length

-- the index of a token probability in a table of 4 kinds, 8 bands, 3 contexts and 11 nodes (RFC 6386, section 13)
abbrev pub coefficient_index : ℕ → ℕ → ℕ → ℕ → ℕ
coefficient_index kind band context node = ((kind * 8 + band) * 3 + context) * 11 + node

-- the index of a sub mode probability in a table of 10 modes above, 10 modes to the left and 9 nodes (RFC 6386, section 11)
abbrev pub key_sub_index : ℕ → ℕ → ℕ → ℕ
key_sub_index above left node = (above * 10 + left) * 9 + node

-- the nine probabilities of the sub mode tree between these two modes (RFC 6386, section 11.5)
abbrev pub key_sub_nodes_of : TableEntries → ℕ → ℕ → List ℕ
key_sub_nodes_of tables above left = slice_range tables.key_subs (key_sub_index above left 0) (key_sub_index above left 9)
