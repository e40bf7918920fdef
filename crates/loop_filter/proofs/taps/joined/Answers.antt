use Rattle.loop_filter.proofs.Joined.{first_of_two, second_of_two}
use Rattle.loop_filter.proofs.taps.joined.Goals as goal

pub returns-clause-a : goal.returns-clause-a
returns-clause-a c = λ i less. first_of_two c.args.a c.args.b i c.fits-a.0 c.fits-b.0 less

pub returns-clause-b : goal.returns-clause-b
returns-clause-b c = λ i less. second_of_two c.args.a c.args.b i c.fits-a.0 c.fits-b.0
