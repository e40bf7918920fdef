-- Findings in either form.
use Rattle.std.specs.Prelude.{ℕ, List, []}
use Rattle.std.specs.List.{flat_map}
use Rattle.stream_checks.specs.declared.finding.Finding.{Finding}
use Rattle.stream_checks.specs.declared.finding.Tally.{Tally}
use Rattle.macroblock_lists.specs.declared.layouts.Form.{Form}
use Rattle.macroblock_lists.specs.declared.layouts.Form.TheVariants.{Lines, Objects}
use Rattle.stream_checks.specs.Lines as lines
use Rattle.stream_checks.specs.Objects as objects

abbrev pub text_of : Form → Finding → List ℕ
text_of Lines finding = lines.line_of finding
text_of Objects finding = objects.object_of finding

abbrev pub texts_of : Form → List Finding → List ℕ
texts_of form findings = flat_map (text_of form) findings

-- what follows the findings: a line with the numbers of packets, frames and findings, or nothing
abbrev pub end_of : Form → ℕ → ℕ → Tally → List ℕ
end_of Lines packets frames tally = lines.summary_line packets frames tally
end_of Objects packets frames tally = []
