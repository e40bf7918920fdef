use Rattle.std.proofs.KnownBytes.{Appends-kept}
use Rattle.list_program.proofs.listing.list_to.Goals as goal

pub returns-clause-listed : goal.returns-clause-listed
returns-clause-listed g c = record {
  source = c.in-Ok.source;
  read = c.in-Ok.ensures;
  places = c.in-Ok-places_of.places;
  are = rw (c.as_slice.ensures.value) at c.in-Ok-places_of.ensures;
  listed = Appends-kept _ _ _ _ (rw (c.as_slice-2.ensures) at c.in-Ok-write_form.ensures) c.in-Ok-flush.ensures.bytes;
}
