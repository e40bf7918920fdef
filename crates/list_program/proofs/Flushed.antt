-- An answer whose writer keeps its bytes is the same answer.
use Rattle.std.proofs.Common.{ℕ, List, Option}
use Rattle.std.proofs.KnownBytes.{Appends-kept}
use Rattle.std.specs.Io.KnownBytes.{Keeps}
use Rattle.vp8_tables.specs.Tables.{TableEntries}
use Rattle.list_program.specs.declared.answering.Output.{Output}
use Rattle.list_program.specs.declared.answering.Output.TheVariants.{List as Listing, Hashes, Findings, Details}
use Rattle.list_program.specs.Answers.{IsAnswered}

pub answer_kept : (output : Output) (tables : TableEntries) (bytes : List ℕ) (status : ℕ) (w w' w'' : Option (List ℕ))
    → IsAnswered output tables bytes status w w' → Keeps w' w'' → IsAnswered output tables bytes status w w''
answer_kept (Listing form) tables bytes status w w' w'' (answer, zero) kept =
    (record { source = answer.source; read = answer.read; places = answer.places; are = answer.are; listed = Appends-kept _ _ _ _ answer.listed kept }, zero)
answer_kept Hashes tables bytes status w w' w'' answer kept = record {
  file = answer.file;
  read = answer.read;
  hashed = record { base = answer.hashed.base; unit = answer.hashed.unit; written = Appends-kept _ _ _ _ answer.hashed.written kept };
  counted = answer.counted;
}
answer_kept (Findings checking) tables bytes status w w' w'' answer kept = record {
  source = answer.source;
  read = answer.read;
  tally = answer.tally;
  checked = record {
    written = Appends-kept _ _ _ _ answer.checked.written kept;
    counted = answer.checked.counted;
  };
  counted = answer.counted;
}
answer_kept (Details asked) tables bytes status w w' w'' (answer, zero) kept = (
  record {
    file = answer.file;
    read = answer.read;
    inside = answer.inside;
    written = Appends-kept _ _ _ _ answer.written kept;
  },
  zero,
)
