use Rattle.stream_sources.proofs.OneStream.{ivf_has_fields}
use Rattle.list_program.proofs.listing.places_of.Goals as goal

pub of_ivf-requires : goal.of_ivf-requires
of_ivf-requires c = ivf_has_fields c.args.bytes.now c.args.source.now c.requires c.in-None.is
