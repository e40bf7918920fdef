-- What was written when memory ran out: the front of the text.
use Rattle.std.specs.Prelude.{◌≡◌, ℕ, List, ◌++◌, Option}
use Rattle.std.specs.Io.KnownBytes.{Appends}
use Rattle.macroblock_lists.specs.declared.listing.ListFault.{ListFault}
use Rattle.macroblock_lists.specs.declared.listing.ListFault.TheVariants.{NoMemory, Write}

-- the output gained the front of a text
pub record GainsFront (text : List ℕ) (output output' : Option (List ℕ)) : Type 0 where
  pub said : List ℕ
  pub left : List ℕ
  pub whole : said ++ left ≡ text
  pub gained : Appends output output' said

-- after an error: if memory ran out, the front of the text; if the writer failed, the writer alone knows what it gained
abbrev pub IsListEnd : List ℕ → Option (List ℕ) → Option (List ℕ) → ListFault → Type 0
IsListEnd text output output' NoMemory = GainsFront text output output'
IsListEnd text output output' Write = Unit {0}

-- an error of memory and one of the writer, as errors of a list
abbrev pub memory_fault : ListFault
memory_fault = NoMemory

abbrev pub writer_fault : ListFault
writer_fault = Write
