-- The indexes of a walk that are not settled can be listed.
use Rattle.std.specs.Prelude.{ℕ, List}
use Rattle.vp8_tables.specs.Tables.{TableEntries}
use Rattle.state_cache.specs.Costs.{AreUnsettled}
use Rattle.state_cache.specs.Views.{MarkedPacket, View}

-- there is a list of the indexes that are not settled
abbrev pub UnsettledAreListed : Type 0
UnsettledAreListed = (tables : TableEntries) (packets : List MarkedPacket) (kept : View) (next place : ℕ) → (places : List ℕ) × AreUnsettled tables packets kept next place places
