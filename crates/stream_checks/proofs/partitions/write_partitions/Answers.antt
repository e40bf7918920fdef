use Rattle.std.proofs.Common.{◌≡◌, List, Option, ◌++◌, subst, ap, ◌∙◌}
use Rattle.std.specs.Io.KnownBytes.{Appends}
use Rattle.macroblock_lists.specs.declared.partition_ends.PartitionEnd.{PartitionEnd}
use Rattle.stream_checks.specs.declared.finding.Finding.{Finding}
use Rattle.stream_checks.specs.declared.finding.Trouble.{Trouble}
use Rattle.stream_checks.specs.Listed.{found, listed}
use Rattle.stream_checks.specs.Partitions.{first_trouble, token_findings}
use Rattle.stream_checks.specs.Texts.{texts_of}
use Rattle.stream_checks.proofs.Parts.{two_texts}
use Rattle.stream_checks.proofs.partitions.write_partitions.Goals as goal

pub returns-clause-written : goal.returns-clause-written
returns-clause-written g c =
    let spot = c.args.spot in
    let first : Option Finding = found spot (first_trouble c.args.ends.now.first) in
    let is_first : c.found.result ≡ first = c.found.ensures ∙ ap (λ (trouble : Option Trouble). found spot trouble) c.first_trouble.ensures in
    let W : Option Finding → List PartitionEnd → Type 0 =
    λ one tokens. Appends (g.W.Write.contents c.args.w.now) (g.W.Write.contents c.write_tokens.new.w) (texts_of c.args.form (listed one ++ token_findings spot 0 tokens)) in
    let written : W c.found.result c.as_slice.result.now = two_texts c.args.form _ _ _ _ _ c.in_ok-first.ensures.written c.in_ok-tokens.ensures.written in
    subst (λ (tokens : List PartitionEnd). W first tokens) c.as_slice.ensures.value (subst (λ (one : Option Finding). W one c.as_slice.result.now) is_first written)
