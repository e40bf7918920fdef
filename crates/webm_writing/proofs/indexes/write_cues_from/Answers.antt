use Rattle.std.proofs.Common.{◌≡◌, ◌+◌, ap, subst, sym, arith}
use Rattle.webm_writing.specs.Fitting.{SamplesFit}
use Rattle.webm_writing.specs.Written.{cluster_bytes, cues_from, groups}
use Rattle.webm_writing.proofs.Grouped.{first_fit, rest_fits}
use Rattle.webm_writing.proofs.Indexed.{cues_step}
use Rattle.webm_writing.proofs.Lengths.{next_is}
use Rattle.webm_writing.proofs.indexes.write_cues_from.Goals as goal

pub cluster_bytes-requires : goal.cluster_bytes-requires
cluster_bytes-requires g c = subst SamplesFit (sym c.split_at.ensures.front) (first_fit c.group_end.result c.cues.rest.now c.cues.invariant.samples)

pub overflow_add-at : goal.overflow_add-at
overflow_add-at g c =
    let next = next_is c.args.most c.group_end.result c.cues.rest.now c.split_at.result.0.now c.split_at.result.1.now
    c.group_end.ensures.least c.group_end.ensures.within c.group_end.ensures.groups c.split_at.ensures.front c.split_at.ensures.back in
    omega (arith, next, c.requires.clusters, c.cues.invariant.place, c.cues.invariant.low, c.cluster_bytes.ensures)

pub overflow_add-at-in-cues : goal.overflow_add-at-in-cues
overflow_add-at-in-cues g c =
    let next = next_is c.args.most c.group_end.result c.cues.rest.now c.split_at.result.0.now c.split_at.result.1.now
    c.group_end.ensures.least c.group_end.ensures.within c.group_end.ensures.groups c.split_at.ensures.front c.split_at.ensures.back in
    omega (arith, next, c.requires.clusters, c.requires.first, c.cues.invariant.place, c.cues.invariant.low, c.cluster_bytes.ensures)

pub cues-preserved : goal.cues-preserved
cues-preserved g c =
    let w = g.W.Write.contents in
    let next = next_is c.args.most c.group_end.result c.cues.rest.now c.split_at.result.0.now c.split_at.result.1.now
    c.group_end.ensures.least c.group_end.ensures.within c.group_end.ensures.groups c.split_at.ensures.front c.split_at.ensures.back in
    let size : c.cluster_bytes.result ≡ cluster_bytes c.split_at.result.0.now = omega (arith, next, c.requires.clusters, c.cues.invariant.place, c.cues.invariant.low, c.cluster_bytes.ensures) in record {
      samples = subst SamplesFit (sym c.split_at.ensures.back) (rest_fits c.group_end.result c.cues.rest.now c.cues.invariant.samples);
      has = cues_step (w c.args.w.now) (w c.cues.w) (w c.write_cue_of.new.w) (cues_from c.args.first (groups c.args.most c.args.samples.now)) c.args.most c.group_end.result c.cues.at
          (c.cues.at + (12 + c.cluster_bytes.result)) c.cues.rest.now c.split_at.result.0.now c.split_at.result.1.now c.group_end.ensures.least c.group_end.ensures.within c.group_end.ensures.groups
          c.split_at.ensures.front c.split_at.ensures.back (ap (λ n. c.cues.at + (12 + n)) size) c.cues.invariant.has c.in_ok-write_cue_of.ensures;
      place = omega (arith, next, size, c.cues.invariant.place);
      low = omega (arith, c.cues.invariant.low);
    }
