-- A packet of no bytes is not decoded.
use Rattle.std.proofs.Common.{◌≡◌, ℕ, suc, true, nat_eq, List, [], ◌∷◌, length, Option, Some, None, refl, sym, arith}
use Rattle.std.proofs.lemmas.Bool.{eqb-true}
use Rattle.vp8_tables.specs.Tables.{TableEntries}
use Rattle.frame_header.specs.Header.{header_of}
use Rattle.macroblock_lists.specs.Known.{Known}
use Rattle.macroblock_lists.specs.PartitionEnds.{no_ends, partition_ends_of}

ends_of_none : (tables : TableEntries) (known : Option Known) → partition_ends_of tables known [] ≡ no_ends
unfolding partition_ends_of header_of
ends_of_none tables None = refl
ends_of_none tables (Some known) = refl

pub empty_ends : (tables : TableEntries) (known : Option Known) (packet : List ℕ) → nat_eq (length packet) 0 ≡ true → no_ends ≡ partition_ends_of tables known packet
empty_ends tables known [] is = sym (ends_of_none tables known)
empty_ends tables known (byte ∷ bytes) is = (let none : suc (length bytes) ≡ 0 = eqb-true (suc (length bytes)) 0 is in absurd (omega (arith, none)))
