-- What the program writes for the bytes of a file, and its exit status, by what is asked for.
use Rattle.std.specs.Prelude.{◌≡◌, ℕ, List, Option}
use Rattle.vp8_tables.specs.Tables.{TableEntries}
use Rattle.list_program.specs.declared.answering.Output.{Output}
use Rattle.list_program.specs.declared.answering.Output.TheVariants.{List as Listing, Hashes, Findings, Details}
use Rattle.list_program.specs.declared.fault.Fault.{Fault}
use Rattle.list_program.specs.CheckedFiles.{IsCheckedFault, IsFileChecked}
use Rattle.list_program.specs.Details.{IsDetailFault, IsDetailed}
use Rattle.list_program.specs.HashedFiles.{IsFileHashed, IsFileHashFault}
use Rattle.list_program.specs.Lists.{IsListed, IsListFault}

abbrev pub IsAnswered : Output → TableEntries → (bytes : List ℕ) → (status : ℕ) → (output output' : Option (List ℕ)) → Type 0
IsAnswered (Listing form) tables bytes status output output' = IsListed form bytes output output' × (status ≡ 0)
IsAnswered Hashes tables bytes status output output' = IsFileHashed tables bytes status output output'
IsAnswered (Findings checking) tables bytes status output output' = IsFileChecked checking.form checking.is_strict tables bytes status output output'
IsAnswered (Details asked) tables bytes status output output' = IsDetailed asked tables bytes output output' × (status ≡ 0)

abbrev pub IsAnswerFault : Output → TableEntries → (bytes : List ℕ) → (output output' : Option (List ℕ)) → Fault → Type 0
IsAnswerFault (Listing form) tables bytes output output' fault = IsListFault bytes output output' fault
IsAnswerFault Hashes tables bytes output output' fault = IsFileHashFault tables bytes output output' fault
IsAnswerFault (Findings checking) tables bytes output output' fault = IsCheckedFault checking.form tables bytes output output' fault
IsAnswerFault (Details asked) tables bytes output output' fault = IsDetailFault asked tables bytes output output' fault
