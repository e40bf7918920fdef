use Rattle.serve_program.specs.Endings.{run_files}
use Rattle.serve_program.proofs.Mistakes.{mistake_begins_nothing}
use Rattle.serve_program.proofs.laws.mistakes_begin_nothing.Goals as goal

pub returns : goal.returns
returns g c = mistake_begins_nothing (run_files (g.R.NamedFiles.bytes_at c.args.rt.now) (g.R.PlacedFiles.place_at c.args.rt.now) g.R.Made.Write.contents (g.R.NamedFiles.is_made_at c.args.rt.now) (g.R.SavedFiles.is_saved_at c.args.rt.now))
