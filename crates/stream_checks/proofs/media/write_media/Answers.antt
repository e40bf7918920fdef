use Rattle.std.proofs.Common.{List, ◌++◌, ap, subst, ◌∙◌}
use Rattle.std.specs.Io.KnownBytes.{Appends}
use Rattle.stream_checks.specs.declared.finding.Finding.{Finding}
use Rattle.stream_checks.specs.Media.{block_findings, cluster_findings, gap_findings, length_findings}
use Rattle.stream_checks.specs.Severity.{tally_of}
use Rattle.stream_checks.specs.Texts.{texts_of}
use Rattle.stream_checks.proofs.MediaFound.{parts_found}
use Rattle.stream_checks.proofs.Parts.{two_tallies, two_texts}
use Rattle.stream_checks.proofs.media.write_media.Goals as goal

pub returns-clause-written : goal.returns-clause-written
returns-clause-written g c =
    let form = c.args.form in
    let at_gaps : List Finding = gap_findings c.args.size c.is_cut.result c.gaps.result.now in
    let at_clusters : List Finding = cluster_findings c.timeless.result.now in
    let at_lengths : List Finding = length_findings c.lengths.result.now in
    let at_listed : List Finding = block_findings c.video-video.result c.numbers-numbers.result.now c.blocks-2.result.now in
    let at_unlisted : List Finding = block_findings c.video-video.result c.numbers-numbers.result.now c.unlisted.result.now in
    subst (λ (found : List Finding). Appends (g.W.Write.contents c.args.w.now) (g.W.Write.contents c.write_blocks-2.new.w) (texts_of form found))
    (parts_found c.args.size c.args.media.now c.is_cut.result c.gaps.result.now c.timeless.result.now c.lengths.result.now c.video-video.result c.numbers-numbers.result.now c.blocks-2.result.now c.unlisted.result.now
    c.is_cut.ensures c.gaps.ensures c.timeless.ensures c.lengths.ensures c.video-video.ensures c.numbers-numbers.ensures c.blocks-2.ensures c.unlisted.ensures)
    (two_texts form (at_gaps ++ at_clusters ++ at_lengths ++ at_listed) at_unlisted _ _ _
    (two_texts form (at_gaps ++ at_clusters ++ at_lengths) at_listed _ _ _
    (two_texts form (at_gaps ++ at_clusters) at_lengths _ _ _
    (two_texts form at_gaps at_clusters _ _ _ c.in_ok-gaps.ensures.written c.in_ok-clusters.ensures.written)
    c.in_ok-lengths.ensures.written) c.in_ok-listed.ensures.written) c.in_ok-unlisted.ensures.written)

pub returns-clause-counted : goal.returns-clause-counted
returns-clause-counted g c =
    let at_gaps : List Finding = gap_findings c.args.size c.is_cut.result c.gaps.result.now in
    let at_clusters : List Finding = cluster_findings c.timeless.result.now in
    let at_lengths : List Finding = length_findings c.lengths.result.now in
    let at_listed : List Finding = block_findings c.video-video.result c.numbers-numbers.result.now c.blocks-2.result.now in
    let at_unlisted : List Finding = block_findings c.video-video.result c.numbers-numbers.result.now c.unlisted.result.now in
    two_tallies (at_gaps ++ at_clusters ++ at_lengths ++ at_listed) at_unlisted c.plus-3.result c.in_ok-unlisted.unlisted c.plus-4.result
    (two_tallies (at_gaps ++ at_clusters ++ at_lengths) at_listed c.plus-2.result c.in_ok-listed.listed c.plus-3.result
    (two_tallies (at_gaps ++ at_clusters) at_lengths c.plus.result c.in_ok-lengths.lengths c.plus-2.result
    (two_tallies at_gaps at_clusters c.in_ok-gaps.gaps c.in_ok-clusters.clusters c.plus.result c.in_ok-gaps.ensures.counted c.in_ok-clusters.ensures.counted c.plus.ensures)
    c.in_ok-lengths.ensures.counted c.plus-2.ensures)
    c.in_ok-listed.ensures.counted c.plus-3.ensures)
    c.in_ok-unlisted.ensures.counted c.plus-4.ensures
    ∙ ap tally_of
    (parts_found c.args.size c.args.media.now c.is_cut.result c.gaps.result.now c.timeless.result.now c.lengths.result.now c.video-video.result c.numbers-numbers.result.now c.blocks-2.result.now c.unlisted.result.now
    c.is_cut.ensures c.gaps.ensures c.timeless.ensures c.lengths.ensures c.video-video.ensures c.numbers-numbers.ensures c.blocks-2.ensures c.unlisted.ensures)
