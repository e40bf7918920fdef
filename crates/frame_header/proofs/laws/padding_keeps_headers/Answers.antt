use Rattle.frame_header.proofs.PartitionLemmas.{padding_keeps_headers, partitions_need_no_context}
use Rattle.frame_header.proofs.laws.padding_keeps_headers.Goals as goal

pub returns : goal.returns
returns c = record {
  headers = padding_keeps_headers;
  partitions = partitions_need_no_context;
}
