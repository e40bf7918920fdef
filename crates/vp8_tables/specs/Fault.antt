use Rattle.std.specs.Prelude.{ℕ, List, codes}
use Rattle.vp8_tables.specs.declared.fault.TableFault.{TableFault}
use Rattle.vp8_tables.specs.declared.fault.TableFault.TheVariants.{Length}

-- the name of an error
abbrev pub fault_word : TableFault → List ℕ
fault_word Length = codes "Length"
